-- Statements that a semicolon ends, and what else statements are made of, printed and spelled again.
use Rattle.std.proofs.Common.{◌≡◌, ℕ, List, [], ◌∷◌, ◌++◌, true, refl, sym, ap, ◌∙◌, subst, append_assoc, arith}
use Rattle.std.specs.Prelude.{Option, Some, None, option_map}
use Rattle.std.proofs.lemmas.Bool.{le-leb}
use Rattle.text_core.specs.declared.place.Place.{Place}
use Rattle.cs_ast.specs.declared.cs_type.TypeExpr.{TypeExpr}
use Rattle.cs_ast.specs.declared.expression.Expr.{Expr}
use Rattle.cs_ast.specs.declared.expression.ExprKind.TheVariants as ek
use Rattle.cs_ast.specs.declared.expression.Stmt.{Stmt}
use Rattle.cs_ast.specs.declared.expression.StmtKind.{StmtKind}
use Rattle.cs_ast.specs.declared.expression.StmtKind.TheVariants as st
use Rattle.cs_ast.specs.declared.operators.AssignOp.{AssignOp}
use Rattle.cs_ast.specs.declared.operators.AssignOp.TheVariants as ao
use Rattle.cs_ast.specs.declared.operators.StepOp.{StepOp}
use Rattle.cs_ast.specs.declared.operators.StepOp.TheVariants as so
use Rattle.cs_token.specs.declared.token.Token.{Token}
use Rattle.cs_token.specs.declared.token.TokenKind.TheVariants as k
use Rattle.cs_token.specs.declared.token.Sign.TheVariants as s
use Rattle.cs_token.specs.declared.token.Word.TheVariants as w
use Rattle.cs_grammar.specs.Expressions.{node, Spells}
use Rattle.cs_grammar.specs.Statements.{stmt, Changes, Acts, Declares, Initial, Simple, Start, Condition, Step}
use Rattle.cs_grammar.specs.Statements as g
use Rattle.cs_grammar.specs.Tables.{assignment, step_operator}
use Rattle.cs_grammar.specs.Tokens.{IsSign, ident}
use Rattle.cs_print.specs.Alike.{Alike, AlikeTypes, AlikeForms, AlikeOption, AlikeBranch, Both}
use Rattle.cs_print.specs.Alike as al
use Rattle.cs_print.specs.Printed.{Kinds, Printed, whole, declared, initial, optional, ended, started, assignment_sign, step_sign, printed, statement_kinds, statement_kind_kinds}
use Rattle.cs_print.specs.Printed as p
use Rattle.cs_print.proofs.PrintedLaws as law
use Rattle.cs_print.proofs.CodeKinds.{is_single, IsLexeme}
use Rattle.cs_print.proofs.CodeKinds as c
use Rattle.cs_print.proofs.LayLemmas.{Are}
use Rattle.cs_print.proofs.LayLemmas as r
use Rattle.cs_print.proofs.ReadLemmas as rd
use Rattle.cs_print.proofs.ReadLemmas.{Prints, prints_as, first, single, middle, signed, worded, named, up_to, AreProper, later, lexeme}
use Rattle.cs_print.proofs.TypesAgain.{type_again}
use Rattle.cs_print.proofs.ExpressionForms.{ExprAgain, all}
use Rattle.cs_print.proofs.ExpressionsAgain.{expression}
use Rattle.cs_print.proofs.LookLemmas.{call_alike}

pub whole_is : (x : Printed) → whole x ≡ x.kinds
whole_is x = rw (le-leb 0 x.level (omega arith)) refl

-- nothing is read as nothing
pub nothing_read : (R : List Token → List Token → Type 0) → ((rest : List Token) → R rest rest) → Prints R []
nothing_read R none = record { code = c.none; reads = go }
  where
    go : (ts rest : List Token) → Are [] ts rest → R ts rest
    go _ _ (r.nil rest) = none rest

-- assignments and steps

pub record ReadsChange (a : Expr) (ts rest : List Token) : Type 0 where
  pub place : Place
  pub tree : Expr
  pub spelled : Changes place ts rest tree
  pub alike : Alike a tree

pub record FoundChange (a : Expr) (rest : List Token) : Type 0 where
  pub again : Prints (ReadsChange a) (whole (printed a))
  pub proper : AreProper rest

assignment_is : (op : AssignOp) → assignment (assignment_sign op) ≡ Some op
unfolding assignment assignment_sign
assignment_is ao.Set = refl
assignment_is _ = refl

assignment_single : (op : AssignOp) → is_single (assignment_sign op) ≡ true
unfolding assignment_sign
assignment_single ao.Set = refl
assignment_single _ = refl

step_is : (op : StepOp) → step_operator (step_sign op) ≡ Some op
unfolding step_operator step_sign
step_is so.Increment = refl
step_is _ = refl

step_single : (op : StepOp) → is_single (step_sign op) ≡ true
unfolding step_sign
step_single so.Increment = refl
step_single _ = refl

assign_form : (q i : Place) (op : AssignOp) (n : List ℕ) (x : Expr) → IsLexeme (k.Name n) → ExprAgain x → Prints (ReadsChange (node q (ek.Assign op (al.named i n) x))) (p.assign op n (printed x)).kinds
unfolding p.assign
assign_form q i op n x is h =
    let value = all x h in
    record {
      code = named n _ is (signed (assignment_sign op) _ (assignment_single op) value.code);
      reads = λ ts rest are. first (k.Name n) _ ts rest (λ xs. ReadsChange (node q (ek.Assign op (al.named i n) x)) xs rest) are (λ m us has more.
          first (k.Sign (assignment_sign op)) _ us rest (λ xs. ReadsChange (node q (ek.Assign op (al.named i n) x)) (m ∷ xs) rest) more (λ t vs sets last.
          let j = value.reads vs rest last in
          record {
            place = m.place;
            tree = node m.place (ek.Assign op (ident m n) j.tree);
            spelled = g.assign n (assignment_sign op) op j.place m t vs rest j.tree has sets (assignment_is op) j.spelled;
            alike = al.expression q m.place _ _ (al.assign op n i m.place x j.tree j.alike);
          }));
    }

step_form : (q i : Place) (op : StepOp) (n : List ℕ) → IsLexeme (k.Name n) → Prints (ReadsChange (node q (ek.Step op (al.named i n)))) (p.step op n).kinds
unfolding p.step
step_form q i op n is = record {
  code = named n _ is (signed (step_sign op) [] (step_single op) c.none);
  reads = λ ts rest are. first (k.Name n) _ ts rest (λ xs. ReadsChange (node q (ek.Step op (al.named i n))) xs rest) are (λ m us has more.
      single (k.Sign (step_sign op)) us rest (λ xs. ReadsChange (node q (ek.Step op (al.named i n))) (m ∷ xs) rest) more (λ t steps. record {
        place = m.place;
        tree = node m.place (ek.Step op (ident m n));
        spelled = g.step n (step_sign op) op m t rest has steps (step_is op);
        alike = al.expression q m.place _ _ (al.step op n i m.place);
      }));
}

whole_as : (b : Expr) (x : Printed) → printed b ≡ x → Prints (ReadsChange b) x.kinds → Prints (ReadsChange b) (whole (printed b))
whole_as b x e h = prints_as (ReadsChange b) x.kinds (whole (printed b)) (sym (ap whole e ∙ whole_is x)) h

pub change : (q : Place) (ts rest : List Token) (a : Expr) → Changes q ts rest a → AreProper ts → FoundChange a rest
change _ _ _ _ (g.assign n sign op q m t ts rest x is sets op_is value) proper =
    let y = expression 0 q ts rest x value (later t ts (later m (t ∷ ts) proper)) in
    record {
      again = whole_as (node m.place (ek.Assign op (ident m n) x)) (p.assign op n (printed x)) (law.printed_law _ ∙ law.expr_assign op (ident m n) x) (assign_form m.place m.place op n x (lexeme m (t ∷ ts) _ proper is) y.again);
      proper = y.proper;
    }
change _ _ _ _ (g.step n sign op m t rest is steps op_is) proper =
    record {
      again = whole_as (node m.place (ek.Step op (ident m n))) (p.step op n) (law.printed_law _ ∙ law.expr_step op (ident m n)) (step_form m.place m.place op n (lexeme m (t ∷ rest) _ proper is));
      proper = later t rest (later m (t ∷ rest) proper);
    }

-- acts

pub record ReadsAct (a : Expr) (ts rest : List Token) : Type 0 where
  pub place : Place
  pub tree : Expr
  pub spelled : Acts place ts rest tree
  pub alike : Alike a tree

pub record FoundAct (a : Expr) (rest : List Token) : Type 0 where
  pub again : Prints (ReadsAct a) (whole (printed a))
  pub proper : AreProper rest

call_read : (q : Place) (f : Expr) (bs : List Expr) (i : Place) (tree : Expr) (ts rest : List Token) → Spells 0 i ts rest tree → Alike (node q (ek.Call f bs)) tree → ReadsAct (node q (ek.Call f bs)) ts rest
call_read q f bs i tree ts rest spells alike =
    let x = call_alike (node q (ek.Call f bs)) tree q f bs refl alike in
    record {
      place = i;
      tree = node tree.place (ek.Call x.f x.bs);
      spelled = g.call i tree.place ts rest x.f x.bs (subst (λ y. Spells 0 i ts rest y) x.whole spells);
      alike = subst (λ y. Alike (node q (ek.Call f bs)) y) x.whole alike;
    }

pub act : (q : Place) (ts rest : List Token) (a : Expr) → Acts q ts rest a → AreProper ts → FoundAct a rest
act _ _ _ _ (g.change q ts rest a changes) proper =
    let x = change q ts rest a changes proper in
    record {
      again = record { code = x.again.code; reads = λ us more are. let y = x.again.reads us more are in record { place = y.place; tree = y.tree; spelled = g.change y.place us more y.tree y.spelled; alike = y.alike } };
      proper = x.proper;
    }
act _ _ _ _ (g.call i q ts rest f bs spells) proper =
    let x = expression 0 i ts rest (node q (ek.Call f bs)) spells proper in
    let y = all (node q (ek.Call f bs)) x.again in
    record {
      again = record { code = y.code; reads = λ us more are. let z = y.reads us more are in call_read q f bs z.place z.tree us more z.spelled z.alike };
      proper = x.proper;
    }

-- a type, or `var`

pub record ReadsDeclared (a : Option TypeExpr) (ts rest : List Token) : Type 0 where
  pub place : Place
  pub other : Option TypeExpr
  pub spelled : Declares place ts rest other
  pub alike : Both AlikeTypes a other

record FoundDeclared (a : Option TypeExpr) (rest : List Token) : Type 0 where
  again : Prints (ReadsDeclared a) (declared a)
  proper : AreProper rest

declares : (q : Place) (ts rest : List Token) (a : Option TypeExpr) → Declares q ts rest a → AreProper ts → FoundDeclared a rest
declares _ _ _ _ (g.by_value t rest is) proper = record {
  again = record {
    code = worded w.Var [] c.none;
    reads = λ us more are. single (k.Word w.Var) us more (λ xs. ReadsDeclared None xs more) are (λ v has. record { place = v.place; other = None; spelled = g.by_value v more has; alike = al.absent });
  };
  proper = later t rest proper;
}
declares _ _ _ _ (g.by_type ts rest a writes) proper =
    let x = type_again ts rest a writes proper in
    record {
      again = record {
        code = x.again.code;
        reads = λ us more are. let y = x.again.reads us more are in record { place = y.other.place; other = Some y.other; spelled = g.by_type us more y.other y.written; alike = al.present a y.other y.alike };
      };
      proper = x.proper;
    }

-- an initial value, or none

pub record ReadsInitial (a : Option Expr) (ts rest : List Token) : Type 0 where
  pub other : Option Expr
  pub spelled : Initial ts rest other
  pub alike : AlikeOption a other

pub record FoundInitial (a : Option Expr) (rest : List Token) : Type 0 where
  pub again : Prints (ReadsInitial a) (initial (option_map printed a))
  pub proper : AreProper rest

pub initially : (ts rest : List Token) (a : Option Expr) → Initial ts rest a → AreProper ts → FoundInitial a rest
initially _ _ _ (g.none rest) proper = record { again = nothing_read (ReadsInitial None) (λ more. record { other = None; spelled = g.none more; alike = al.neither }); proper = proper }
initially _ _ _ (g.some q t ts rest a is value) proper =
    let x = expression 0 q ts rest a value (later t ts proper) in
    let y = all a x.again in
    record {
      again = record {
        code = signed s.Assign _ refl y.code;
        reads = λ us more are. first (k.Sign s.Assign) _ us more (λ xs. ReadsInitial (Some a) xs more) are (λ m vs has last.
            let z = y.reads vs more last in
            record { other = Some z.tree; spelled = g.some z.place m vs more z.tree has z.spelled; alike = al.both a z.tree z.alike });
      };
      proper = x.proper;
    }

-- an expression, or nothing

pub record ReadsCondition (a : Option Expr) (ts rest : List Token) : Type 0 where
  pub other : Option Expr
  pub spelled : Condition ts rest other
  pub alike : AlikeOption a other

pub record FoundCondition (a : Option Expr) (rest : List Token) : Type 0 where
  pub again : Prints (ReadsCondition a) (optional (option_map printed a))
  pub proper : AreProper rest

pub condition : (ts rest : List Token) (a : Option Expr) → Condition ts rest a → AreProper ts → FoundCondition a rest
condition _ _ _ (g.none rest) proper = record { again = nothing_read (ReadsCondition None) (λ more. record { other = None; spelled = g.none more; alike = al.neither }); proper = proper }
condition _ _ _ (g.some q ts rest a value) proper =
    let x = expression 0 q ts rest a value proper in
    let y = all a x.again in
    record {
      again = record { code = y.code; reads = λ us more are. let z = y.reads us more are in record { other = Some z.tree; spelled = g.some z.place us more z.tree z.spelled; alike = al.both a z.tree z.alike } };
      proper = x.proper;
    }

pub record ReadsStep (a : Option Expr) (ts rest : List Token) : Type 0 where
  pub other : Option Expr
  pub spelled : Step ts rest other
  pub alike : AlikeOption a other

pub record FoundStep (a : Option Expr) (rest : List Token) : Type 0 where
  pub again : Prints (ReadsStep a) (optional (option_map printed a))
  pub proper : AreProper rest

pub stepping : (ts rest : List Token) (a : Option Expr) → Step ts rest a → AreProper ts → FoundStep a rest
stepping _ _ _ (g.none rest) proper = record { again = nothing_read (ReadsStep None) (λ more. record { other = None; spelled = g.none more; alike = al.neither }); proper = proper }
stepping _ _ _ (g.some q ts rest a acts) proper =
    let x = act q ts rest a acts proper in
    record {
      again = record { code = x.again.code; reads = λ us more are. let z = x.again.reads us more are in record { other = Some z.tree; spelled = g.some z.place us more z.tree z.spelled; alike = al.both a z.tree z.alike } };
      proper = x.proper;
    }

-- simple statements

pub record ReadsSimple (kind : StmtKind) (ts rest : List Token) : Type 0 where
  pub place : Place
  pub other : StmtKind
  pub spelled : Simple place ts rest other
  pub alike : AlikeForms kind other

pub record FoundSimple (kind : StmtKind) (rest : List Token) : Type 0 where
  pub ks : Kinds
  pub is : statement_kind_kinds kind ≡ ended ks
  pub again : Prints (ReadsSimple kind) ks
  pub proper : AreProper rest

local_kinds : (a : Option TypeExpr) (n : List ℕ) (value : Option Printed) → p.local a n value ≡ ended (declared a ++ k.Name n ∷ initial value)
unfolding p.local
local_kinds a n value = sym (append_assoc (declared a) (k.Name n ∷ initial value) (k.Sign s.Semicolon ∷ []))

pub simple : (q : Place) (ts rest : List Token) (kind : StmtKind) → Simple q ts rest kind → AreProper ts → FoundSimple kind rest
simple _ _ _ _ (g.local n q m ts us rest a value type is init) proper =
    let x = declares q ts (m ∷ us) a type proper in
    let y = initially us rest value init (later m us x.proper) in
    record {
      ks = declared a ++ k.Name n ∷ initial (option_map printed value);
      is = law.stmt_local a (ident m n) value ∙ local_kinds a n (option_map printed value);
      again = record {
        code = c.join (declared a) _ x.again.code (named n _ (lexeme m us _ x.proper is) y.again.code);
        reads = λ vs more are.
            let z = middle (declared a) (k.Name n) (initial (option_map printed value)) vs more are in
            let i = x.again.reads vs (z.t ∷ z.us) z.front in
            let j = y.again.reads z.us more z.behind in
            record {
              place = i.place;
              other = st.Local i.other (ident z.t n) j.other;
              spelled = g.local n i.place z.t vs z.us more i.other j.other i.spelled z.is j.spelled;
              alike = al.local n m.place z.t.place a i.other value j.other i.alike j.alike;
            };
      };
      proper = y.proper;
    }
simple _ _ _ _ (g.act q ts rest a acts) proper =
    let x = act q ts rest a acts proper in
    record {
      ks = whole (printed a);
      is = law.stmt_act a;
      again = record { code = x.again.code; reads = λ us more are. let y = x.again.reads us more are in record { place = y.place; other = st.Expr y.tree; spelled = g.act y.place us more y.tree y.spelled; alike = al.act a y.tree y.alike } };
      proper = x.proper;
    }

-- the start of a `for`, with its semicolon

pub record ReadsStart (a : Option Stmt) (ts rest : List Token) : Type 0 where
  pub m : Token
  pub other : Option Stmt
  pub spelled : Start ts (m ∷ rest) other
  pub ends : IsSign s.Semicolon m
  pub alike : AlikeBranch a other

pub record FoundStart (a : Option Stmt) (rest : List Token) : Type 0 where
  pub again : Prints (ReadsStart a) (started (option_map statement_kinds a))
  pub proper : AreProper rest

pub starting : (ts rest : List Token) (a : Option Stmt) → Start ts rest a → AreProper ts → FoundStart a rest
starting _ _ _ (g.none rest) proper = record {
  again = record {
    code = signed s.Semicolon [] refl c.none;
    reads = λ us more are. single (k.Sign s.Semicolon) us more (λ xs. ReadsStart None xs more) are (λ m is. record { m = m; other = None; spelled = g.none (m ∷ more); ends = is; alike = al.no_branch });
  };
  proper = proper;
}
starting _ _ _ (g.some q ts rest kind is) proper =
    let x = simple q ts rest kind is proper in
    record {
      again = prints_as (ReadsStart (Some (stmt q kind))) (ended x.ks) _ (sym (law.statement_law (stmt q kind) ∙ x.is)) (record {
        code = up_to x.ks s.Semicolon [] refl x.again.code c.none;
        reads = λ us more are.
            let e = rd.ended x.ks (k.Sign s.Semicolon) us more are in
            let y = x.again.reads us (e.t ∷ more) e.front in
            record { m = e.t; other = Some (stmt y.place y.other); spelled = g.some y.place us (e.t ∷ more) y.other y.spelled; ends = e.is; alike = al.branch _ _ (al.statement q y.place kind y.other y.alike) };
      });
      proper = x.proper;
    }
