-- What may stand by itself is printed so that it is spelled again.
use Rattle.std.proofs.Common.{◌≡◌, ℕ, List, [], ◌∷◌, refl, sym, ap, ◌∙◌, subst}
use Rattle.std.specs.Prelude.{Some, None}
use Rattle.text_core.specs.declared.place.Place.{Place}
use Rattle.cs_ast.specs.declared.expression.Body.{Body}
use Rattle.cs_ast.specs.declared.expression.Body.TheVariants as by
use Rattle.cs_ast.specs.declared.expression.Expr.{Expr}
use Rattle.cs_ast.specs.declared.expression.ExprKind.TheVariants as ek
use Rattle.cs_ast.specs.declared.operators.CastOp.TheVariants as co
use Rattle.cs_token.specs.declared.token.Token.{Token}
use Rattle.cs_token.specs.declared.token.TokenKind.TheVariants as k
use Rattle.cs_token.specs.declared.token.Sign.TheVariants as s
use Rattle.cs_token.specs.declared.token.Word.TheVariants as w
use Rattle.cs_grammar.specs.Expressions.{node}
use Rattle.cs_grammar.specs.Lambdas.{LambdaBody, SpelledValue}
use Rattle.cs_grammar.specs.Lambdas as g
use Rattle.cs_grammar.specs.Statements.{no_jumps}
use Rattle.cs_grammar.specs.Tokens.{ident}
use Rattle.cs_print.specs.Alike.{Alike, AlikeBodies}
use Rattle.cs_print.specs.Alike as al
use Rattle.cs_print.specs.Printed.{Kinds, Printed, whole, printed, body_kinds}
use Rattle.cs_print.specs.Printed as p
use Rattle.cs_print.proofs.PrintedLaws as law
use Rattle.cs_print.proofs.CodeKinds.{IsCode, IsLexeme}
use Rattle.cs_print.proofs.CodeKinds as c
use Rattle.cs_print.proofs.LayLemmas.{Are}
use Rattle.cs_print.proofs.ReadLemmas as rd
use Rattle.cs_print.proofs.ReadLemmas.{Prints, prints_as, first, signed, worded, named, AreProper, later, lexeme}
use Rattle.cs_print.proofs.ExpressionForms.{ExprAgain, at, all}
use Rattle.cs_print.proofs.ExpressionsAgain.{expression}
use Rattle.cs_print.proofs.SimpleAgain.{whole_is, change}
use Rattle.cs_print.proofs.StatementForms as sf
use Rattle.cs_print.proofs.StatementsAgain.{statements}

-- bodies

pub record ReadsBody (b : Body) (ts rest : List Token) : Type 0 where
  pub other : Body
  pub spelled : LambdaBody ts rest other
  pub alike : AlikeBodies b other

record FoundBody (b : Body) (rest : List Token) : Type 0 where
  again : Prints (ReadsBody b) (body_kinds b)
  proper : AreProper rest

lambda_body : (ts rest : List Token) (b : Body) → LambdaBody ts rest b → AreProper ts → FoundBody b rest
lambda_body _ _ _ (g.result q ts rest a value) known =
    let x = expression 0 q ts rest a value known in
    let y = all a x.again in
    record {
      again = prints_as (ReadsBody (by.Value a)) (whole (printed a)) _ (sym (law.body_value a)) (record {
        code = y.code;
        reads = λ us more are. let z = y.reads us more are in record { other = by.Value z.tree; spelled = g.result z.place us more z.tree z.spelled; alike = al.value_body a z.tree z.alike };
      });
      proper = x.proper;
    }
lambda_body _ _ _ (g.change q ts rest a changes) known =
    let x = change q ts rest a changes known in
    record {
      again = prints_as (ReadsBody (by.Value a)) (whole (printed a)) _ (sym (law.body_value a)) (record {
        code = x.again.code;
        reads = λ us more are. let z = x.again.reads us more are in record { other = by.Value z.tree; spelled = g.change z.place us more z.tree z.spelled; alike = al.value_body a z.tree z.alike };
      });
      proper = x.proper;
    }
lambda_body _ _ _ (g.block o d ts rest body opens inner closes) known =
    let x = statements no_jumps ts (d ∷ rest) body inner (later o ts known) in
    record {
      again = prints_as (ReadsBody (by.Block body)) _ _ (sym (law.body_block body)) (record {
        code = c.braces (sf.body_kinds body) [] x.again.code c.none;
        reads = λ us more are. first (k.Sign s.OpenBrace) _ us more (λ xs. ReadsBody (by.Block body) xs more) are (λ m vs has last.
            let e = rd.ended (sf.body_kinds body) (k.Sign s.CloseBrace) vs more last in
            let y = x.again.reads vs (e.t ∷ more) e.front in
            record { other = by.Block y.trees; spelled = g.block m e.t vs more y.trees has y.spelled e.is; alike = al.block_body body y.trees y.alike });
      });
      proper = later d rest x.proper;
    }

-- whole lists of tokens

pub record Rewritten {A : Type 0} (Tree : List Token → A → Type 0) (AreAlike : A → A → Type 0) (a : A) (ts : List Token) : Type 0 where
  pub other : A
  pub tree : Tree ts other
  pub alike : AreAlike a other

pub record Whole {A : Type 0} (Tree : List Token → A → Type 0) (AreAlike : A → A → Type 0) (ks : Kinds) (a : A) : Type 0 where
  pub code : IsCode ks
  pub reads : (ts : List Token) → Are ks ts [] → Rewritten Tree AreAlike a ts

-- by what an expression is printed as
by_printed : (Tree : List Token → Expr → Type 0) (a : Expr) (x : Printed) → printed a ≡ x → Whole Tree Alike x.kinds a → Whole Tree Alike (whole (printed a)) a
by_printed Tree a x e h = subst (λ ks. Whole Tree Alike ks a) (sym (ap whole e ∙ whole_is x)) h

markup_form : (q : Place) (a : Expr) → ExprAgain a → Whole SpelledValue Alike (p.cast co.Markup (printed a)).kinds (node q (ek.Cast co.Markup a))
unfolding p.cast p.cast_word
markup_form q x again =
    let inner = at 11 x (printed x) again in
    record {
      code = signed s.OpenRound _ refl (worded w.MarkupString _ (signed s.CloseRound _ refl inner.code));
      reads = λ ts are. first (k.Sign s.OpenRound) _ ts [] (λ xs. Rewritten SpelledValue Alike (node q (ek.Cast co.Markup x)) xs) are (λ o us opens more.
          first (k.Word w.MarkupString) _ us [] (λ xs. Rewritten SpelledValue Alike (node q (ek.Cast co.Markup x)) (o ∷ xs)) more (λ t vs is others.
          first (k.Sign s.CloseRound) _ vs [] (λ xs. Rewritten SpelledValue Alike (node q (ek.Cast co.Markup x)) (o ∷ t ∷ xs)) others (λ d xs closes last.
          let i = inner.reads xs [] last in
          record {
            other = node o.place (ek.Cast co.Markup i.tree);
            tree = g.markup i.place o t d xs i.tree opens is closes i.spelled;
            alike = al.expression q o.place _ _ (al.cast co.Markup x i.tree i.alike);
          })));
    }

pub value_whole : (ts : List Token) (a : Expr) → SpelledValue ts a → AreProper ts → Whole SpelledValue Alike (whole (printed a)) a
value_whole _ _ (g.expression q ts a spells) known =
    let x = all a (expression 0 q ts [] a spells known).again in
    record { code = x.code; reads = λ us are. let y = x.reads us [] are in record { other = y.tree; tree = g.expression y.place us y.tree y.spelled; alike = y.alike } }
value_whole _ _ (g.markup q o t d ts a opens is closes spells) known =
    let x = expression 11 q ts [] a spells (later d ts (later t (d ∷ ts) (later o (t ∷ d ∷ ts) known))) in
    by_printed SpelledValue (node o.place (ek.Cast co.Markup a)) _ (law.printed_law _ ∙ law.expr_cast co.Markup a) (markup_form o.place a x.again)

none_form : (q : Place) (b : Body) → Prints (ReadsBody b) (body_kinds b) → Whole g.Spelled Alike (p.lambda None (body_kinds b)).kinds (node q (ek.Lambda None b))
unfolding p.lambda
none_form q b h = record {
  code = signed s.OpenRound _ refl (signed s.CloseRound _ refl (signed s.Arrow _ refl h.code));
  reads = λ ts are. first (k.Sign s.OpenRound) _ ts [] (λ xs. Rewritten g.Spelled Alike (node q (ek.Lambda None b)) xs) are (λ o us opens more.
      first (k.Sign s.CloseRound) _ us [] (λ xs. Rewritten g.Spelled Alike (node q (ek.Lambda None b)) (o ∷ xs)) more (λ d vs closes others.
      first (k.Sign s.Arrow) _ vs [] (λ xs. Rewritten g.Spelled Alike (node q (ek.Lambda None b)) (o ∷ d ∷ xs)) others (λ r xs arrow last.
      let i = h.reads xs [] last in
      record { other = node o.place (ek.Lambda None i.other); tree = g.of_none o d r xs i.other opens closes arrow i.spelled; alike = al.expression q o.place _ _ (al.lambda_of_none b i.other i.alike) })));
}

name_form : (q i : Place) (n : List ℕ) (b : Body) → IsLexeme (k.Name n) → Prints (ReadsBody b) (body_kinds b)
    → Whole g.Spelled Alike (p.lambda (Some (al.named i n)) (body_kinds b)).kinds (node q (ek.Lambda (Some (al.named i n)) b))
unfolding p.lambda
name_form q i n b is h = record {
  code = named n _ is (signed s.Arrow _ refl h.code);
  reads = λ ts are. first (k.Name n) _ ts [] (λ xs. Rewritten g.Spelled Alike (node q (ek.Lambda (Some (al.named i n)) b)) xs) are (λ m us has more.
      first (k.Sign s.Arrow) _ us [] (λ xs. Rewritten g.Spelled Alike (node q (ek.Lambda (Some (al.named i n)) b)) (m ∷ xs)) more (λ r vs arrow last.
      let j = h.reads vs [] last in
      record { other = node m.place (ek.Lambda (Some (ident m n)) j.other); tree = g.of_name n m r vs j.other has arrow j.spelled; alike = al.expression q m.place _ _ (al.lambda_of_name n i m.place b j.other j.alike) }));
}

pub spelled_whole : (ts : List Token) (a : Expr) → g.Spelled ts a → AreProper ts → Whole g.Spelled Alike (whole (printed a)) a
spelled_whole _ _ (g.value ts a is) known =
    let x = value_whole ts a is known in
    record { code = x.code; reads = λ us are. let y = x.reads us are in record { other = y.other; tree = g.value us y.other y.tree; alike = y.alike } }
spelled_whole _ _ (g.of_none o d r ts b opens closes arrow body) known =
    let x = lambda_body ts [] b body (later r ts (later d (r ∷ ts) (later o (d ∷ r ∷ ts) known))) in
    by_printed g.Spelled (node o.place (ek.Lambda None b)) _ (law.printed_law _ ∙ law.expr_lambda None b) (none_form o.place b x.again)
spelled_whole _ _ (g.of_name n m r ts b has arrow body) known =
    let x = lambda_body ts [] b body (later r ts (later m (r ∷ ts) known)) in
    by_printed g.Spelled (node m.place (ek.Lambda (Some (ident m n)) b)) _ (law.printed_law _ ∙ law.expr_lambda (Some (ident m n)) b) (name_form m.place m.place n b (lexeme m (r ∷ ts) _ known has) x.again)
spelled_whole _ _ (g.of_one n o m d r ts b opens has closes arrow body) known =
    let behind = later o (m ∷ d ∷ r ∷ ts) known in
    let x = lambda_body ts [] b body (later r ts (later d (r ∷ ts) (later m (d ∷ r ∷ ts) behind))) in
    by_printed g.Spelled (node o.place (ek.Lambda (Some (ident m n)) b)) _ (law.printed_law _ ∙ law.expr_lambda (Some (ident m n)) b) (name_form o.place m.place n b (lexeme m (d ∷ r ∷ ts) _ behind has) x.again)
