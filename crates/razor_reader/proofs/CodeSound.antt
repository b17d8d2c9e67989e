-- What tokens are read as is what they spell.
use Rattle.std.proofs.Common.{◌≡◌, ◌⊎◌, ℕ, List, [], ◌∷◌, ◌++◌, refl, sym, ap, ◌∙◌, subst, inl, inr}
use Rattle.std.specs.Prelude.{Bool, true, false, not, if◌then◌else◌, Option, Some, None}
use Rattle.text_core.specs.declared.place.Place.{Place}
use Rattle.cs_ast.specs.declared.expression.Body.{Body}
use Rattle.cs_ast.specs.declared.expression.Expr.{Expr}
use Rattle.cs_ast.specs.declared.expression.ExprKind.{ExprKind, ExprKind-F, out-ExprKind}
use Rattle.cs_ast.specs.declared.expression.ExprKind.TheVariants as ek
use Rattle.cs_ast.specs.declared.expression.Stmt.{Stmt}
use Rattle.cs_ast.specs.declared.expression.StmtKind.{StmtKind, StmtKind-F, out-StmtKind, roll-StmtKind, roll-out-StmtKind}
use Rattle.cs_ast.specs.declared.expression.StmtKind.TheVariants as st
use Rattle.cs_ast.specs.declared.identifier.Ident.{Ident}
use Rattle.cs_ast.specs.declared.member.Member.{Member}
use Rattle.cs_ast.specs.declared.operators.CastOp.TheVariants as co
use Rattle.cs_token.specs.declared.token.Token.{Token}
use Rattle.cs_token.specs.declared.token.TokenKind.{TokenKind}
use Rattle.cs_token.specs.declared.token.TokenKind.TheVariants as t
use Rattle.cs_token.specs.declared.token.Sign.TheVariants as s
use Rattle.cs_grammar.specs.Expressions.{SpelledExpression, node}
use Rattle.cs_grammar.specs.Lambdas.{SpelledValue, Spelled}
use Rattle.cs_grammar.specs.Lambdas as g
use Rattle.cs_grammar.specs.Members.{SpelledMembers}
use Rattle.cs_grammar.specs.Nesting.{too_deep}
use Rattle.cs_grammar.specs.Statements.{SpelledStatements}
use Rattle.cs_parse.specs.BodyReading.{whole_statements}
use Rattle.cs_parse.specs.LambdaReading.{whole_spelled}
use Rattle.cs_parse.specs.MemberReading.{whole_members}
use Rattle.cs_parse.proofs.SpelledLemmas.{spelled_sound}
use Rattle.cs_parse.proofs.WholeMemberLemmas.{members_sound}
use Rattle.cs_parse.proofs.BodyLemmas.{body_sound}
use Rattle.razor_ast.specs.Attributes.{Behind}
use Rattle.razor_ast.specs.Attributes as attributes
use Rattle.razor_ast.specs.Components.{SpelledBlock}
use Rattle.razor_ast.specs.Components as components
use Rattle.razor_ast.specs.Shown.{ShownTokens}
use Rattle.razor_ast.specs.Shown as content
use Rattle.razor_reader.specs.declared.mark.Mark.TheVariants as m
use Rattle.razor_reader.specs.Reading.{◌>>=◌}
use Rattle.razor_reader.specs.TokenReading.{between}
use Rattle.razor_reader.specs.CodeReading.{flat, is_lambda, is_plain, is_markup, is_name, begins_with_name}
use Rattle.razor_reader.specs.CodeReading as r
use Rattle.razor_reader.proofs.ReadLemmas.{bind_ok, moved, where_true, where_false, by_test}
use Rattle.razor_reader.proofs.MarkKinds.{token_open_round, token_close_round, token_open_brace, token_close_brace}
use Rattle.razor_reader.proofs.MarkLemmas.{token_sure}
use Rattle.razor_reader.proofs.TokenSound.{Between, between_whole}

-- what is read of tokens that are flat
flat_read : {A : Type 0} (read : List Token → Option A) (ts : List Token) (a : A) → flat read ts ≡ Some a → read ts ≡ Some a
flat_read read ts a e = go (too_deep ts) e
  where
    go : (d : Option Place) → elim d [ None ↦ read ts | Some p ↦ None ] ≡ Some a → read ts ≡ Some a
    go None e = e
    go (Some p) e = absurd (cc)

pub is_spelled : (ts : List Token) (a : Expr) → r.spelled ts ≡ Some a → Spelled ts a
unfolding r.spelled
is_spelled ts a e = spelled_sound ts a (flat_read whole_spelled ts a e)

pub are_members : (ts : List Token) (all : List Member) → r.all_members ts ≡ Some all → SpelledMembers ts all
unfolding r.all_members
are_members ts all e = members_sound ts all (flat_read whole_members ts all e)

pub are_statements : (ts : List Token) (all : List Stmt) → r.all_statements ts ≡ Some all → SpelledStatements ts all
unfolding r.all_statements
are_statements ts all e = body_sound ts all (flat_read whole_statements ts all e)

-- what trees are not
lambda_not_plain : (p : Place) (n : Option Ident) (b : Body) → is_plain (node p (ek.Lambda n b)) ≡ false
lambda_not_plain p n b = ap (λ x. elim x [ ExprKind-F.Lambda name body ↦ false | ExprKind-F.Cast op a ↦ not (is_markup op) | _ ↦ true ]) (ek.outs-Lambda n b)

markup_not_plain : (p : Place) (a : Expr) → is_plain (node p (ek.Cast co.Markup a)) ≡ false
markup_not_plain p a = ap (λ x. elim x [ ExprKind-F.Lambda name body ↦ false | ExprKind-F.Cast op b ↦ not (is_markup op) | _ ↦ true ]) (ek.outs-Cast co.Markup a)

lambda_is : (p : Place) (n : Option Ident) (b : Body) → is_lambda (node p (ek.Lambda n b)) ≡ true
lambda_is p n b = ap (λ x. elim x [ ExprKind-F.Lambda name body ↦ true | _ ↦ false ]) (ek.outs-Lambda n b)

clash : {A : Type 0} (b : Bool) → b ≡ true → b ≡ false → A
clash b e f = let z : true ≡ false = sym e ∙ f in absurd (cc)

plain_spelled : (ts : List Token) (a : Expr) → Spelled ts a → is_plain a ≡ true → SpelledExpression ts a
plain_spelled ts a (g.value _ _ (g.expression p _ _ h)) e = (p, h)
plain_spelled ts a (g.value _ _ (g.markup p o u c us b e1 e2 e3 h)) e = clash _ e (markup_not_plain o.place b)
plain_spelled ts a (g.of_none o c u us b e1 e2 e3 h) e = clash _ e (lambda_not_plain o.place None b)
plain_spelled ts a (g.of_name x n u us b e1 e2 h) e = clash _ e (lambda_not_plain n.place _ b)
plain_spelled ts a (g.of_one x o n c u us b e1 e2 e3 e4 h) e = clash _ e (lambda_not_plain o.place _ b)

value_spelled : (ts : List Token) (a : Expr) → Spelled ts a → is_lambda a ≡ false → SpelledValue ts a
value_spelled ts a (g.value _ _ h) e = h
value_spelled ts a (g.of_none o c u us b e1 e2 e3 h) e = clash _ (lambda_is o.place None b) e
value_spelled ts a (g.of_name x n u us b e1 e2 h) e = clash _ (lambda_is n.place _ b) e
value_spelled ts a (g.of_one x o n c u us b e1 e2 e3 e4 h) e = clash _ (lambda_is o.place _ b) e

pub plain_sound : (ts : List Token) (a : Expr) → r.plain ts ≡ Some a → SpelledExpression ts a
plain_sound ts a e =
    let x = bind_ok (r.spelled ts) _ _ e in
    let y = where_true (is_plain x.0) (Some x.0) a x.2 in
    moved {A = Expr} (SpelledExpression ts) y.1 (plain_spelled ts x.0 (is_spelled ts x.0 x.1) y.0)

pub value_sound : (ts : List Token) (a : Expr) → r.value ts ≡ Some a → SpelledValue ts a
value_sound ts a e =
    let x = bind_ok (r.spelled ts) _ _ e in
    let y = where_false (is_lambda x.0) (Some x.0) a x.2 in
    moved {A = Expr} (SpelledValue ts) y.1 (value_spelled ts x.0 (is_spelled ts x.0 x.1) y.0)

-- tokens in round brackets
pub in_round : {ts inner : List Token} (P : List Token → Type 0) → Between m.OpenRound m.CloseRound ts inner →
    ((o c : Token) → o.kind ≡ t.Sign s.OpenRound → c.kind ≡ t.Sign s.CloseRound → P (o ∷ (inner ++ c ∷ []))) → P ts
in_round {ts} {inner} P x h =
    subst P (sym x.whole) (h x.o x.c (token_sure m.OpenRound _ x.o.kind token_open_round x.opens) (token_sure m.CloseRound _ x.c.kind token_close_round x.closes))

name_first : (ts : List Token) (P : List Token → Type 0) → begins_with_name ts ≡ true → ((x : List ℕ) (n : Token) (us : List Token) → n.kind ≡ t.Name x → P (n ∷ us)) → P ts
name_first [] P e h = absurd (cc)
name_first (n ∷ us) P e h = go n.kind refl e
  where
    go : (kind : TokenKind) → n.kind ≡ kind → is_name kind ≡ true → P (n ∷ us)
    go (t.Name x) i e = h x n us i
    go _ i e = absurd (cc)

pub shown_sound : (ts : List Token) (a : Expr) → r.shown ts ≡ Some a → ShownTokens ts a
shown_sound ts a e = elim (by_test (begins_with_name ts) _ _ a e) [
  | inl x ↦ name_first ts (λ l. r.plain l ≡ Some a → ShownTokens l a) x.0
      (λ y n us i f. let z = plain_sound (n ∷ us) a f in content.named y z.0 n us a i z.1) x.1
  | inr x ↦
      let y = bind_ok (between m.OpenRound m.CloseRound ts) _ _ x.1 in
      in_round (λ l. ShownTokens l a) (between_whole m.OpenRound m.CloseRound ts y.0 y.1)
      (λ o c i j. content.in_round o c y.0 a i (value_sound y.0 a y.2) j)
]

pub led_sound : (ts : List Token) (a : Expr) → r.led ts ≡ Some a → Behind ts a
led_sound ts a e = go (r.spelled ts) refl e
  where
    go : (o : Option Expr) → r.spelled ts ≡ o → elim o [ Some b ↦ Some b | None ↦ between m.OpenRound m.CloseRound ts >>= r.spelled ] ≡ Some a → Behind ts a
    go (Some b) i e = attributes.whole ts a (is_spelled ts a (i ∙ e))
    go None i e =
        let y = bind_ok (between m.OpenRound m.CloseRound ts) _ _ e in
        in_round (λ l. Behind l a) (between_whole m.OpenRound m.CloseRound ts y.0 y.1)
        (λ o c i j. attributes.in_round o c y.0 a i (is_spelled y.0 a y.2) j)

pub block_sound : (ts : List Token) (all : List Member) → r.members ts ≡ Some all → SpelledBlock ts all
block_sound ts all e =
    let y = bind_ok (between m.OpenBrace m.CloseBrace ts) _ _ e in
    let x = between_whole m.OpenBrace m.CloseBrace ts y.0 y.1 in
    subst (λ l. SpelledBlock l all) (sym x.whole)
    (components.block x.o x.c y.0 all (token_sure m.OpenBrace _ x.o.kind token_open_brace x.opens) (are_members y.0 all y.2)
    (token_sure m.CloseBrace _ x.c.kind token_close_brace x.closes))
