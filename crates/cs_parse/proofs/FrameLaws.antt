-- What is read, and what frames make of it.
use Rattle.std.proofs.Common.{◌≡◌, ℕ, List, [], ◌∷◌, ◌++◌, refl, sym, ap, ◌∙◌, append_assoc, subst}
use Rattle.std.proofs.lemmas.List.{append-nil}
use Rattle.std.specs.Borrow.{Bor}
use Rattle.std.specs.Prelude.{Bool, true, false, if◌then◌else◌, Option, Some, None, Result}
use Rattle.text_core.specs.declared.place.Place.{Place}
use Rattle.cs_ast.specs.declared.expression.Expr.{Expr}
use Rattle.cs_ast.specs.declared.expression.ExprKind.TheVariants as ek
use Rattle.cs_ast.specs.declared.expression.TextPart.{TextPart}
use Rattle.cs_ast.specs.declared.expression.TextPart.TheVariants as tp
use Rattle.cs_ast.specs.declared.expression.WithPart.{WithPart}
use Rattle.cs_ast.specs.declared.identifier.Ident.{Ident}
use Rattle.cs_token.specs.declared.token.Token.{Token}
use Rattle.cs_token.specs.declared.token.TokenKind.{TokenKind}
use Rattle.cs_token.specs.declared.token.TokenKind.TheVariants as k
use Rattle.cs_token.specs.declared.token.Sign.TheVariants as s
use Rattle.cs_grammar.specs.Expressions.{node}
use Rattle.cs_parse.specs.declared.expressions.frame.Callee.{Callee}
use Rattle.cs_parse.specs.declared.expressions.frame.Callee.TheVariants as c
use Rattle.cs_parse.specs.declared.expressions.frame.Turn.{Turn}
use Rattle.cs_parse.specs.declared.tables.FirstSign.{FirstSign}
use Rattle.cs_parse.specs.declared.tables.FirstSign.TheVariants as fs
use Rattle.cs_parse.specs.declared.unread.Unread.{Unread}
use Rattle.cs_parse.specs.Reading.{Read, ◌>>=◌, after, name_first, is_sign}
use Rattle.cs_parse.specs.ExpressionReading.{reads}
use Rattle.cs_parse.specs.ExpressionReading as r
use Rattle.cs_parse.specs.Frames.{called, close_arguments, arguments_from, all_arguments, after_argument, part, close_with, with_from, after_with_part, close_text, text_from, literal_of, literal_first, Leads}
use Rattle.cs_parse.proofs.TokenLemmas.{moved}
use Rattle.cs_parse.proofs.Depths.{as_part, joined, each, hole_law, reads_law}

-- what was found in front of what follows
abbrev in_front : {A : Type 0} → A → List A × List Token → Read (List A)
in_front a x = Some (a ∷ x.0, x.1)

abbrev found_all : {A : Type 0} → A → List Token → Read A
found_all a ts = Some (a, ts)

abbrev as_call : Place → Callee → List Expr × List Token → Read Expr
as_call p callee x = Some (called p callee x.0, x.1)

-- an expression by its parts
expr_law : (l : ℕ) (ts : List Token) → (reads ts).expr l ≡ r.expr reads l ts
expr_law l ts = ((reads_law ts).expr l).same

-- expressions with commas, one and then others
values_law : (ts : List Token) → (reads ts).values ≡ ((reads ts).expr 0 >>= λ x. r.more_values reads x.0 x.1)
values_law ts = (reads_law ts).values.same ∙ ap (λ o. o >>= λ x. r.more_values reads x.0 x.1) (sym (expr_law 0 ts))

behind_value : (p : Place) (callee : Callee) (found : List Expr) (a : Expr) (ts : List Token) →
    (r.more_values reads a ts >>= λ y. close_arguments p callee (found ++ y.0) y.1) ≡ after_argument p callee (found ++ a ∷ []) ts
behind_value p callee found a ts = split (after s.Comma ts)
  where
    split : (o : Option (List Token)) →
        ((elim o [ Some q ↦ (reads q).values >>= in_front a | None ↦ found_all (a ∷ []) ts ]) >>= λ y. close_arguments p callee (found ++ y.0) y.1)
        ≡ (elim o [ Some q ↦ arguments_from p callee (found ++ a ∷ []) q | None ↦ close_arguments p callee (found ++ a ∷ []) ts ])
    split None = refl
    split (Some q) =
        joined (reads q).values (in_front a) (λ y. close_arguments p callee (found ++ y.0) y.1)
        ∙ each (reads q).values (λ x. close_arguments p callee (found ++ a ∷ x.0) x.1) (λ x. close_arguments p callee ((found ++ a ∷ []) ++ x.0) x.1)
        (λ x. ap (λ l. close_arguments p callee l x.1) (sym (append_assoc found (a ∷ []) x.0)))

pub arguments_law : (p : Place) (callee : Callee) (found : List Expr) (ts : List Token) →
    arguments_from p callee found ts ≡ ((reads ts).expr 0 >>= λ x. after_argument p callee (found ++ x.0 ∷ []) x.1)
arguments_law p callee found ts =
    ap (λ o. o >>= λ y. close_arguments p callee (found ++ y.0) y.1) (values_law ts)
    ∙ joined ((reads ts).expr 0) (λ x. r.more_values reads x.0 x.1) (λ y. close_arguments p callee (found ++ y.0) y.1)
    ∙ each ((reads ts).expr 0) (λ x. r.more_values reads x.0 x.1 >>= λ y. close_arguments p callee (found ++ y.0) y.1)
    (λ x. after_argument p callee (found ++ x.0 ∷ []) x.1) (λ x. behind_value p callee found x.0 x.1)

-- arguments in their brackets
pub called_law : (p : Place) (callee : Callee) (ts : List Token) → (r.arguments reads ts >>= as_call p callee) ≡ all_arguments p callee ts
called_law p callee ts = split (after s.CloseRound ts)
  where
    split : (o : Option (List Token)) →
        ((elim o [ Some q ↦ found_all {A = List Expr} [] q | None ↦ r.some_arguments reads ts ]) >>= as_call p callee)
        ≡ (elim o [ Some q ↦ Some (called p callee [], q) | None ↦ arguments_from p callee [] ts ])
    split (Some q) = refl
    split None =
        joined (reads ts).values (λ x. after s.CloseRound x.1 >>= found_all x.0) (as_call p callee)
        ∙ each (reads ts).values (λ x. (after s.CloseRound x.1 >>= found_all x.0) >>= as_call p callee) (λ x. close_arguments p callee x.0 x.1)
        (λ x. joined (after s.CloseRound x.1) (found_all x.0) (as_call p callee))

pub call_law : (p : Place) (a : Expr) (ts : List Token) → r.call reads p a ts ≡ all_arguments p (c.Function a) ts
call_law p a ts = called_law p (c.Function a) ts

pub record_law : (p : Place) (ts : List Token) → r.made_record reads p ts ≡ (name_first ts >>= λ n. (after s.OpenRound n.1 >>= λ q. all_arguments p (c.Record n.0) q))
record_law p ts =
    each (name_first ts) (λ n. after s.OpenRound n.1 >>= λ q. (r.arguments reads q >>= λ x. Some (node p (ek.New n.0 x.0), x.1))) (λ n. after s.OpenRound n.1 >>= λ q. all_arguments p (c.Record n.0) q)
    (λ n. each (after s.OpenRound n.1) (λ q. r.arguments reads q >>= λ x. Some (node p (ek.New n.0 x.0), x.1)) (λ q. all_arguments p (c.Record n.0) q)
    (λ q. called_law p (c.Record n.0) q))

-- parts behind `with`, one and then others
behind_part : (p : Place) (a : Expr) (found : List WithPart) (b : WithPart) (ts : List Token) →
    (r.more_with_parts reads b ts >>= λ y. close_with p a (found ++ y.0) y.1) ≡ after_with_part p a (found ++ b ∷ []) ts
behind_part p a found b ts = split (after s.Comma ts)
  where
    split : (o : Option (List Token)) →
        ((elim o [ Some q ↦ (reads q).with_parts >>= in_front b | None ↦ found_all (b ∷ []) ts ]) >>= λ y. close_with p a (found ++ y.0) y.1)
        ≡ (elim o [ Some q ↦ with_from p a (found ++ b ∷ []) q | None ↦ close_with p a (found ++ b ∷ []) ts ])
    split None = refl
    split (Some q) =
        joined (reads q).with_parts (in_front b) (λ y. close_with p a (found ++ y.0) y.1)
        ∙ each (reads q).with_parts (λ x. close_with p a (found ++ b ∷ x.0) x.1) (λ x. close_with p a ((found ++ b ∷ []) ++ x.0) x.1)
        (λ x. ap (λ l. close_with p a l x.1) (sym (append_assoc found (b ∷ []) x.0)))

-- the value of a part
value_law : (p : Place) (a : Expr) (found : List WithPart) (n : Ident) (ts : List Token) →
    ((r.expr reads 0 ts >>= as_part n) >>= λ z. (r.more_with_parts reads z.0 z.1 >>= λ y. close_with p a (found ++ y.0) y.1)) ≡ ((reads ts).expr 0 >>= λ x. after_with_part p a (found ++ part n x.0 ∷ []) x.1)
value_law p a found n ts =
    joined (r.expr reads 0 ts) (as_part n) (λ z. r.more_with_parts reads z.0 z.1 >>= λ y. close_with p a (found ++ y.0) y.1)
    ∙ each (r.expr reads 0 ts) (λ x. r.more_with_parts reads (part n x.0) x.1 >>= λ y. close_with p a (found ++ y.0) y.1) (λ x. after_with_part p a (found ++ part n x.0 ∷ []) x.1)
    (λ x. behind_part p a found (part n x.0) x.1)
    ∙ ap (λ o. o >>= λ x. after_with_part p a (found ++ part n x.0 ∷ []) x.1) (sym (expr_law 0 ts))

pub with_law : (p : Place) (a : Expr) (found : List WithPart) (ts : List Token) →
    with_from p a found ts ≡ (name_first ts >>= λ n. (after s.Assign n.1 >>= λ q. ((reads q).expr 0 >>= λ x. after_with_part p a (found ++ part n.0 x.0 ∷ []) x.1)))
with_law p a found ts =
    let k = λ (z : WithPart × List Token). r.more_with_parts reads z.0 z.1 >>= λ y. close_with p a (found ++ y.0) y.1 in
    ap (λ o. o >>= λ y. close_with p a (found ++ y.0) y.1) (reads_law ts).with_parts.same
    ∙ joined (r.with_part_by (r.expr reads 0) ts) (λ x. r.more_with_parts reads x.0 x.1) (λ y. close_with p a (found ++ y.0) y.1)
    ∙ joined (name_first ts) (λ n. after s.Assign n.1 >>= λ q. (r.expr reads 0 q >>= as_part n.0)) k
    ∙ each (name_first ts) (λ n. (after s.Assign n.1 >>= λ q. (r.expr reads 0 q >>= as_part n.0)) >>= k)
    (λ n. after s.Assign n.1 >>= λ q. ((reads q).expr 0 >>= λ x. after_with_part p a (found ++ part n.0 x.0 ∷ []) x.1))
    (λ n. joined (after s.Assign n.1) (λ q. r.expr reads 0 q >>= as_part n.0) k
    ∙ each (after s.Assign n.1) (λ q. (r.expr reads 0 q >>= as_part n.0) >>= k) (λ q. (reads q).expr 0 >>= λ x. after_with_part p a (found ++ part n.0 x.0 ∷ []) x.1)
    (λ q. value_law p a found n.0 q))

-- parts of an interpolated text
text_front : (p : Place) (found : List TextPart) (a : TextPart) (q : List Token) →
    (((reads q).text_parts >>= in_front a) >>= λ y. close_text p (found ++ y.0) y.1) ≡ text_from p (found ++ a ∷ []) q
text_front p found a q =
    joined (reads q).text_parts (in_front a) (λ y. close_text p (found ++ y.0) y.1)
    ∙ each (reads q).text_parts (λ y. close_text p (found ++ a ∷ y.0) y.1) (λ y. close_text p ((found ++ a ∷ []) ++ y.0) y.1)
    (λ y. ap (λ l. close_text p l y.1) (sym (append_assoc found (a ∷ []) y.0)))

text_law : (p : Place) (found : List TextPart) (ts : List Token) → text_from p found ts ≡ (r.text_parts reads ts >>= λ y. close_text p (found ++ y.0) y.1)
text_law p found ts = ap (λ o. o >>= λ y. close_text p (found ++ y.0) y.1) (reads_law ts).text_parts.same

pub text_literal : (p : Place) (found : List TextPart) (ts us : List Token) (x : List ℕ) → literal_first ts ≡ Some (x, us) → text_from p found ts ≡ text_from p (found ++ tp.Literal x ∷ []) us
text_literal p found [] us x e = absurd (cc)
text_literal p found (t ∷ ts) us x e = text_law p found (t ∷ ts) ∙ split t.kind e
  where
    split : (kind : TokenKind) → literal_of kind ts ≡ Some (x, us) →
        ((r.text_part_of (r.expr reads 0) kind ts >>= λ z. r.more_text_parts reads z (t ∷ ts)) >>= λ y. close_text p (found ++ y.0) y.1) ≡ text_from p (found ++ tp.Literal x ∷ []) us
    split (k.Part z) e = text_front p found (tp.Literal z) ts ∙ moved (λ v. text_from p (found ++ tp.Literal z ∷ []) ts ≡ text_from p (found ++ tp.Literal v.0 ∷ []) v.1) e refl
    split _ e = absurd (cc)

-- no literal part
plain : (t : Token) (ts us : List Token) → literal_of t.kind ts ≡ None → r.text_parts reads (t ∷ ts) ≡ ((if is_sign s.HoleOpen t.kind then r.hole (r.expr reads 0) ts else Some None) >>= λ z. r.more_text_parts reads z (t ∷ ts))
plain t ts us e = split t.kind e
  where
    split : (kind : TokenKind) → literal_of kind ts ≡ None → (r.text_part_of (r.expr reads 0) kind ts >>= λ z. r.more_text_parts reads z (t ∷ ts))
        ≡ ((if is_sign s.HoleOpen kind then r.hole (r.expr reads 0) ts else Some None) >>= λ z. r.more_text_parts reads z (t ∷ ts))
    split (k.Part z) e = absurd (cc)
    split _ e = refl

pub text_hole : (p : Place) (found : List TextPart) (ts us : List Token) → literal_first ts ≡ None → after s.HoleOpen ts ≡ Some us →
    text_from p found ts ≡ ((reads us).expr 0 >>= λ x. (after s.HoleClose x.1 >>= λ q. text_from p (found ++ tp.Hole x.0 ∷ []) q))
text_hole p found [] us e1 e2 = absurd (cc)
text_hole p found (t ∷ ts) us e1 e2 =
    text_law p found (t ∷ ts) ∙ ap (λ o. o >>= λ y. close_text p (found ++ y.0) y.1) (plain t ts us e1) ∙ split (is_sign s.HoleOpen t.kind) e2
  where
    inner : (a : Expr) (q : List Token) → ((after s.HoleClose q >>= λ v. ((reads v).text_parts >>= in_front (tp.Hole a))) >>= λ y. close_text p (found ++ y.0) y.1)
        ≡ (after s.HoleClose q >>= λ v. text_from p (found ++ tp.Hole a ∷ []) v)
    inner a q =
        joined (after s.HoleClose q) (λ v. (reads v).text_parts >>= in_front (tp.Hole a)) (λ y. close_text p (found ++ y.0) y.1)
        ∙ each (after s.HoleClose q) (λ v. ((reads v).text_parts >>= in_front (tp.Hole a)) >>= λ y. close_text p (found ++ y.0) y.1) (λ v. text_from p (found ++ tp.Hole a ∷ []) v)
        (λ v. text_front p found (tp.Hole a) v)

    whole : ((r.hole (r.expr reads 0) ts >>= λ z. r.more_text_parts reads z (t ∷ ts)) >>= λ y. close_text p (found ++ y.0) y.1)
        ≡ ((reads ts).expr 0 >>= λ x. (after s.HoleClose x.1 >>= λ q. text_from p (found ++ tp.Hole x.0 ∷ []) q))
    whole =
        ap (λ o. o >>= λ y. close_text p (found ++ y.0) y.1) (hole_law reads (r.expr reads 0) ts (t ∷ ts))
        ∙ joined (r.expr reads 0 ts) (λ x. after s.HoleClose x.1 >>= λ v. ((reads v).text_parts >>= in_front (tp.Hole x.0))) (λ y. close_text p (found ++ y.0) y.1)
        ∙ each (r.expr reads 0 ts) (λ x. (after s.HoleClose x.1 >>= λ v. ((reads v).text_parts >>= in_front (tp.Hole x.0))) >>= λ y. close_text p (found ++ y.0) y.1)
        (λ x. after s.HoleClose x.1 >>= λ v. text_from p (found ++ tp.Hole x.0 ∷ []) v) (λ x. inner x.0 x.1)
        ∙ ap (λ o. o >>= λ x. (after s.HoleClose x.1 >>= λ v. text_from p (found ++ tp.Hole x.0 ∷ []) v)) (sym (expr_law 0 ts))

    split : (b : Bool) → (if b then Some ts else None) ≡ Some us →
        (((if b then r.hole (r.expr reads 0) ts else Some None) >>= λ z. r.more_text_parts reads z (t ∷ ts)) >>= λ y. close_text p (found ++ y.0) y.1)
        ≡ ((reads us).expr 0 >>= λ x. (after s.HoleClose x.1 >>= λ q. text_from p (found ++ tp.Hole x.0 ∷ []) q))
    split true e = whole ∙ moved (λ v. ((reads ts).expr 0 >>= λ x. (after s.HoleClose x.1 >>= λ q. text_from p (found ++ tp.Hole x.0 ∷ []) q)) ≡ ((reads v).expr 0 >>= λ x. (after s.HoleClose x.1 >>= λ q. text_from p (found ++ tp.Hole x.0 ∷ []) q))) e refl
    split false e = absurd (cc)

pub text_end : (p : Place) (found : List TextPart) (ts : List Token) → literal_first ts ≡ None → after s.HoleOpen ts ≡ None → text_from p found ts ≡ close_text p found ts
text_end p found [] e1 e2 = text_law p found [] ∙ ap (λ l. close_text p l []) (append-nil found)
text_end p found (t ∷ ts) e1 e2 =
    text_law p found (t ∷ ts) ∙ ap (λ o. o >>= λ y. close_text p (found ++ y.0) y.1) (plain t ts [] e1) ∙ split (is_sign s.HoleOpen t.kind) e2
  where
    split : (b : Bool) → (if b then Some ts else None) ≡ None →
        (((if b then r.hole (r.expr reads 0) ts else Some None) >>= λ z. r.more_text_parts reads z (t ∷ ts)) >>= λ y. close_text p (found ++ y.0) y.1) ≡ close_text p found (t ∷ ts)
    split true e = absurd (cc)
    split false e = ap (λ l. close_text p l (t ∷ ts)) (append-nil found)

-- parts of a `with` in their braces
pub with_some_leads : (p : Place) (a : Expr) (ts us : List Token) (none : List WithPart) (result : Result (Turn × Bor (List Token)) Unread) → after s.OpenBrace ts ≡ Some us → none ≡ [] →
    Leads (with_from p a none us) result → Leads (r.with_some reads p a ts) result
with_some_leads p a ts us none result e1 e2 h =
    subst (λ o. Leads (o >>= λ q. with_from p a [] q) result) (sym e1) (subst (λ l. Leads (with_from p a l us) result) e2 h)

-- an interpolated text
pub interpolated_leads : (sign : FirstSign) (p : Place) (ts : List Token) (none : List TextPart) (result : Result (Turn × Bor (List Token)) Unread) → sign ≡ fs.Interpolation → none ≡ [] →
    Leads (text_from p none ts) result → Leads (r.of_sign reads sign p ts) result
interpolated_leads sign p ts none result e1 e2 h =
    subst (λ x. Leads (r.of_sign reads x p ts) result) (sym e1) (subst (λ l. Leads (text_from p l ts) result) e2 h)
