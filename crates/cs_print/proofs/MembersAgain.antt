-- Each member that tokens of a text spell is printed so that it is spelled again.
use Rattle.std.proofs.Common.{ℕ, List, [], ◌∷◌, ◌++◌, map, refl, sym, ap, append_assoc}
use Rattle.std.specs.Prelude.{Option, Some, None, option_map, codes}
use Rattle.std.proofs.lemmas.List.{append-nil}
use Rattle.text_core.specs.declared.place.Place.{Place}
use Rattle.cs_ast.specs.declared.cs_type.TypeExpr.{TypeExpr}
use Rattle.cs_ast.specs.declared.expression.Body.{Body}
use Rattle.cs_ast.specs.declared.expression.Body.TheOpen.{Body-F}
use Rattle.cs_ast.specs.declared.expression.Body.TheVariants as by
use Rattle.cs_ast.specs.declared.expression.Expr.{Expr}
use Rattle.cs_ast.specs.declared.expression.ExprKind.{ExprKind}
use Rattle.cs_ast.specs.declared.expression.Section.{Section}
use Rattle.cs_ast.specs.declared.expression.Stmt.{Stmt}
use Rattle.cs_ast.specs.declared.expression.StmtKind.{StmtKind}
use Rattle.cs_ast.specs.declared.expression.TextPart.{TextPart}
use Rattle.cs_ast.specs.declared.expression.WithPart.{WithPart}
use Rattle.cs_ast.specs.declared.member.Argument.{Argument}
use Rattle.cs_token.specs.declared.token.Token.{Token}
use Rattle.cs_token.specs.declared.token.TokenKind.TheVariants as k
use Rattle.cs_token.specs.declared.token.Sign.TheVariants as s
use Rattle.cs_grammar.specs.Members.{SomeArguments, ArgumentList, Result, MethodBody, Accessors, PropertyEnd}
use Rattle.cs_grammar.specs.Members as g
use Rattle.cs_grammar.specs.Statements.{no_jumps}
use Rattle.cs_grammar.specs.Tokens.{ident}
use Rattle.cs_print.specs.Alike.{Alike, AlikeTypes, AlikeBodies, AlikeOption, AlikeArguments, Each, Both}
use Rattle.cs_print.specs.Alike as al
use Rattle.cs_print.specs.Printed.{Kinds, Printed, whole, in_round, in_braces, listed, behind_commas, ended, type_kinds, printed}
use Rattle.cs_print.specs.PrintedMembers.{arguments_kinds, method_body, accessors, property_end}
use Rattle.cs_print.specs.Printed as p
use Rattle.cs_print.proofs.CodeKinds.{IsCode, IsLexeme}
use Rattle.cs_print.proofs.CodeKinds as c
use Rattle.cs_print.proofs.LayLemmas.{Are}
use Rattle.cs_print.proofs.ReadLemmas as rd
use Rattle.cs_print.proofs.ReadLemmas.{Prints, prints_as, first, single, parted, middle, signed, worded, named, up_to, AreProper, later, lexeme}
use Rattle.cs_print.proofs.TypesAgain.{TypeAgain, type_again}
use Rattle.cs_print.proofs.ExpressionForms.{all}
use Rattle.cs_print.proofs.ExpressionsAgain.{expression}
use Rattle.cs_print.proofs.SimpleAgain.{nothing_read}
use Rattle.cs_print.proofs.StatementForms as sf
use Rattle.cs_print.proofs.StatementsAgain.{statements}

-- arguments

pub record ReadsSome (xs : List Argument) (ts rest : List Token) : Type 0 where
  pub others : List Argument
  pub spelled : SomeArguments ts rest others
  pub alike : Each AlikeArguments xs others

record FoundSome (xs : List Argument) (rest : List Token) : Type 0 where
  again : Prints (ReadsSome xs) (arguments_kinds xs)
  proper : AreProper rest

argument_at : TypeExpr → Place → List ℕ → Argument
argument_at a i n = record { cs_type = a; name = al.named i n }

argument_code : (a : TypeExpr) (n : List ℕ) → TypeAgain a → IsLexeme (k.Name n) → IsCode (type_kinds a ++ k.Name n ∷ [])
argument_code a n h is = c.join (type_kinds a) _ h.code (named n [] is c.none)

one_argument : (a : TypeExpr) (i : Place) (n : List ℕ) → TypeAgain a → IsLexeme (k.Name n) → Prints (ReadsSome (record { cs_type = a; name = al.named i n } ∷ [])) (arguments_kinds (record { cs_type = a; name = al.named i n } ∷ []))
one_argument a i n h is =
    prints_as (ReadsSome (record { cs_type = a; name = al.named i n } ∷ [])) (type_kinds a ++ k.Name n ∷ []) _ (sym (append-nil (type_kinds a ++ k.Name n ∷ []))) (record {
      code = argument_code a n h is;
      reads = λ ts rest are.
          let e = rd.ended (type_kinds a) (k.Name n) ts rest are in
          let x = h.reads ts (e.t ∷ rest) e.front in
          record {
            others = record { cs_type = x.other; name = ident e.t n } ∷ [];
            spelled = g.SomeArguments.one n e.t ts rest x.other x.written e.is;
            alike = al.more _ _ [] [] (al.argument n i e.t.place a x.other x.alike) al.none;
          };
    })

more_arguments : (a : TypeExpr) (i : Place) (n : List ℕ) (other : Argument) (others : List Argument) → TypeAgain a → IsLexeme (k.Name n) → Prints (ReadsSome (other ∷ others)) (arguments_kinds (other ∷ others))
    → Prints (ReadsSome (record { cs_type = a; name = al.named i n } ∷ other ∷ others)) (arguments_kinds (record { cs_type = a; name = al.named i n } ∷ other ∷ others))
more_arguments a i n other others h is more =
    let ks = k.Sign s.Comma ∷ arguments_kinds (other ∷ others) in
    prints_as (ReadsSome (record { cs_type = a; name = al.named i n } ∷ other ∷ others)) (type_kinds a ++ k.Name n ∷ ks) _ (sym (append_assoc (type_kinds a) (k.Name n ∷ []) ks)) (record {
      code = c.join (type_kinds a) _ h.code (named n _ is (signed s.Comma _ refl more.code));
      reads = λ ts rest are.
          let m = middle (type_kinds a) (k.Name n) ks ts rest are in
          first (k.Sign s.Comma) _ m.us rest (λ xs. Are (type_kinds a) ts (m.t ∷ xs) → ReadsSome (record { cs_type = a; name = al.named i n } ∷ other ∷ others) ts rest) m.behind (λ t us comma last front.
          let x = h.reads ts (m.t ∷ t ∷ us) front in
          let y = more.reads us rest last in
          record {
            others = record { cs_type = x.other; name = ident m.t n } ∷ y.others;
            spelled = g.SomeArguments.more n m.t t ts us rest x.other y.others x.written m.is comma y.spelled;
            alike = al.more _ _ (other ∷ others) y.others (al.argument n i m.t.place a x.other x.alike) y.alike;
          }) m.front;
    })

arguments_more : (a : TypeExpr) (i : Place) (n : List ℕ) (others : List Argument) (ts rest : List Token) → SomeArguments ts rest others → TypeAgain a → IsLexeme (k.Name n) → Prints (ReadsSome others) (arguments_kinds others)
    → Prints (ReadsSome (record { cs_type = a; name = al.named i n } ∷ others)) (arguments_kinds (record { cs_type = a; name = al.named i n } ∷ others))
arguments_more a i n _ _ _ (g.SomeArguments.one x m ts rest b is has) h lex more = more_arguments a i n _ [] h lex more
arguments_more a i n _ _ _ (g.SomeArguments.more x m t ts us rest b others is has comma last) h lex more = more_arguments a i n _ others h lex more

some_arguments : (ts rest : List Token) (xs : List Argument) → SomeArguments ts rest xs → AreProper ts → FoundSome xs rest
some_arguments _ _ _ (g.SomeArguments.one x n ts rest a writes has) known =
    let y = type_again ts (n ∷ rest) a writes known in
    record { again = one_argument a n.place x y.again (lexeme n rest _ y.proper has); proper = later n rest y.proper }
some_arguments _ _ _ (g.SomeArguments.more x n t ts us rest a others writes has comma last) known =
    let y = type_again ts (n ∷ t ∷ us) a writes known in
    let z = some_arguments us rest others last (later t us (later n (t ∷ us) y.proper)) in
    record { again = arguments_more a n.place x others us rest last y.again (lexeme n (t ∷ us) _ y.proper has) z.again; proper = z.proper }

pub record ReadsArguments (xs : List Argument) (ts rest : List Token) : Type 0 where
  pub others : List Argument
  pub spelled : ArgumentList ts rest others
  pub alike : Each AlikeArguments xs others

pub record FoundArguments (xs : List Argument) (rest : List Token) : Type 0 where
  pub again : Prints (ReadsArguments xs) (arguments_kinds xs ++ k.Sign s.CloseRound ∷ [])
  pub proper : AreProper rest

pub arguments : (ts rest : List Token) (xs : List Argument) → ArgumentList ts rest xs → AreProper ts → FoundArguments xs rest
arguments _ _ _ (g.ArgumentList.none d rest closes) known = record {
  again = record {
    code = signed s.CloseRound [] refl c.none;
    reads = λ ts more are. single (k.Sign s.CloseRound) ts more (λ xs. ReadsArguments [] xs more) are (λ t is. record { others = []; spelled = g.ArgumentList.none t more is; alike = al.none });
  };
  proper = later d rest known;
}
arguments _ _ _ (g.ArgumentList.some d ts rest xs inner closes) known =
    let x = some_arguments ts (d ∷ rest) xs inner known in
    record {
      again = record {
        code = up_to _ s.CloseRound [] refl x.again.code c.none;
        reads = λ us more are.
            let e = rd.ended (arguments_kinds xs) (k.Sign s.CloseRound) us more are in
            let y = x.again.reads us (e.t ∷ more) e.front in
            record { others = y.others; spelled = g.ArgumentList.some e.t us more y.others y.spelled e.is; alike = y.alike };
      };
      proper = later d rest x.proper;
    }

-- bodies of methods

pub record ReadsMethod (b : Body) (ts rest : List Token) : Type 0 where
  pub other : Body
  pub spelled : MethodBody ts rest other
  pub alike : AlikeBodies b other

pub record FoundMethod (b : Body) (rest : List Token) : Type 0 where
  pub again : Prints (ReadsMethod b) (method_body b)
  pub proper : AreProper rest

method_look : Body-F Body ExprKind StmtKind TextPart Expr Section Stmt WithPart → Kinds
method_look x = elim x [
  | Body-F.Value a ↦ k.Sign s.Arrow ∷ ended (whole (printed a))
  | Body-F.Body::Block body ↦ in_braces (p.joined (map p.statement_kinds body))
]

pub method : (ts rest : List Token) (b : Body) → MethodBody ts rest b → AreProper ts → FoundMethod b rest
unfolding method_look
method _ _ _ (g.MethodBody.value q t d ts rest a arrow value ends) known =
    let x = expression 0 q ts (d ∷ rest) a value (later t ts known) in
    let y = all a x.again in
    record {
      again = prints_as (ReadsMethod (by.Value a)) (k.Sign s.Arrow ∷ ended (whole (printed a))) _ (sym (ap method_look (by.outs-Value a))) (record {
        code = signed s.Arrow _ refl (up_to _ s.Semicolon [] refl y.code c.none);
        reads = λ us more are. first (k.Sign s.Arrow) _ us more (λ xs. ReadsMethod (by.Value a) xs more) are (λ m vs is last.
            let e = rd.ended (whole (printed a)) (k.Sign s.Semicolon) vs more last in
            let z = y.reads vs (e.t ∷ more) e.front in
            record { other = by.Value z.tree; spelled = g.MethodBody.value z.place m e.t vs more z.tree is z.spelled e.is; alike = al.value_body a z.tree z.alike });
      });
      proper = later d rest x.proper;
    }
method _ _ _ (g.MethodBody.block o d ts rest body opens inner closes) known =
    let x = statements no_jumps ts (d ∷ rest) body inner (later o ts known) in
    record {
      again = prints_as (ReadsMethod (by.Block body)) (in_braces (sf.body_kinds body)) _ (sym (ap method_look (by.outs-Block body))) (record {
        code = c.braces (sf.body_kinds body) [] x.again.code c.none;
        reads = λ us more are. first (k.Sign s.OpenBrace) _ us more (λ xs. ReadsMethod (by.Block body) xs more) are (λ m vs is last.
            let e = rd.ended (sf.body_kinds body) (k.Sign s.CloseBrace) vs more last in
            let y = x.again.reads vs (e.t ∷ more) e.front in
            record { other = by.Block y.trees; spelled = g.MethodBody.block m e.t vs more y.trees is y.spelled e.is; alike = al.block_body body y.trees y.alike });
      });
      proper = later d rest x.proper;
    }

-- properties

pub record FoundAccessors (rest : List Token) : Type 0 where
  pub again : Prints (λ ts more. Accessors ts more) accessors
  pub proper : AreProper rest

pub accessors_again : (ts rest : List Token) → Accessors ts rest → AreProper ts → FoundAccessors rest
accessors_again _ _ (g.accessors o g1 m t n d rest opens gets one sets two closes) known =
    let behind_get = later o (g1 ∷ m ∷ t ∷ n ∷ d ∷ rest) known in
    let behind_set = later m (t ∷ n ∷ d ∷ rest) (later g1 (m ∷ t ∷ n ∷ d ∷ rest) behind_get) in
    record {
      again = record {
        code = c.braces (k.Name (codes "get") ∷ k.Sign s.Semicolon ∷ k.Name (codes "set") ∷ k.Sign s.Semicolon ∷ []) []
            (named _ _ (lexeme g1 (m ∷ t ∷ n ∷ d ∷ rest) _ behind_get gets) (signed s.Semicolon _ refl (named _ _ (lexeme t (n ∷ d ∷ rest) _ behind_set sets) (signed s.Semicolon [] refl c.none)))) c.none;
        reads = λ us more are. first (k.Sign s.OpenBrace) _ us more (λ xs. Accessors xs more) are (λ a as1 is1 l1.
            first (k.Name (codes "get")) _ as1 more (λ xs. Accessors (a ∷ xs) more) l1 (λ b as2 is2 l2.
            first (k.Sign s.Semicolon) _ as2 more (λ xs. Accessors (a ∷ b ∷ xs) more) l2 (λ e as3 is3 l3.
            first (k.Name (codes "set")) _ as3 more (λ xs. Accessors (a ∷ b ∷ e ∷ xs) more) l3 (λ f as4 is4 l4.
            first (k.Sign s.Semicolon) _ as4 more (λ xs. Accessors (a ∷ b ∷ e ∷ f ∷ xs) more) l4 (λ h as5 is5 l5.
            single (k.Sign s.CloseBrace) as5 more (λ xs. Accessors (a ∷ b ∷ e ∷ f ∷ h ∷ xs) more) l5 (λ i is6. g.accessors a b e f h i more is1 is2 is3 is4 is5 is6))))));
      };
      proper = later d rest (later n (d ∷ rest) (later t (n ∷ d ∷ rest) behind_set));
    }

pub record ReadsEnd (a : Option Expr) (ts rest : List Token) : Type 0 where
  pub other : Option Expr
  pub spelled : PropertyEnd ts rest other
  pub alike : AlikeOption a other

pub record FoundEnd (a : Option Expr) (rest : List Token) : Type 0 where
  pub again : Prints (ReadsEnd a) (property_end (option_map printed a))
  pub proper : AreProper rest

pub end_again : (ts rest : List Token) (a : Option Expr) → PropertyEnd ts rest a → AreProper ts → FoundEnd a rest
end_again _ _ _ (g.PropertyEnd.none rest) known = record { again = nothing_read (ReadsEnd None) (λ more. record { other = None; spelled = g.PropertyEnd.none more; alike = al.neither }); proper = known }
end_again _ _ _ (g.PropertyEnd.some q t d ts rest a sets value ends) known =
    let x = expression 0 q ts (d ∷ rest) a value (later t ts known) in
    let y = all a x.again in
    record {
      again = record {
        code = signed s.Assign _ refl (up_to _ s.Semicolon [] refl y.code c.none);
        reads = λ us more are. first (k.Sign s.Assign) _ us more (λ xs. ReadsEnd (Some a) xs more) are (λ m vs is last.
            let e = rd.ended (whole (printed a)) (k.Sign s.Semicolon) vs more last in
            let z = y.reads vs (e.t ∷ more) e.front in
            record { other = Some z.tree; spelled = g.PropertyEnd.some z.place m e.t vs more z.tree is z.spelled e.is; alike = al.both a z.tree z.alike });
      };
      proper = later d rest x.proper;
    }
