-- What tokens spell is what they are read as.
use Rattle.std.proofs.Common.{◌≡◌, ◌⊎◌, ℕ, zero, suc, ◌+◌, ◌<◌, List, [], ◌∷◌, ◌++◌, refl, sym, ap, ◌∙◌, subst, arith, inl, inr}
use Rattle.std.specs.Prelude.{Bool, true, false, not, if◌then◌else◌, Option, Some, None}
use Rattle.text_core.specs.declared.place.Place.{Place}
use Rattle.cs_ast.specs.declared.expression.Body.{Body}
use Rattle.cs_ast.specs.declared.expression.Expr.{Expr}
use Rattle.cs_ast.specs.declared.expression.ExprKind.{ExprKind, ExprKind-F, out-ExprKind}
use Rattle.cs_ast.specs.declared.expression.ExprKind.TheVariants as ek
use Rattle.cs_ast.specs.declared.identifier.Ident.{Ident}
use Rattle.cs_ast.specs.declared.member.Member.{Member}
use Rattle.cs_ast.specs.declared.operators.CastOp.{CastOp}
use Rattle.cs_ast.specs.declared.operators.CastOp.TheVariants as co
use Rattle.cs_token.specs.declared.token.Token.{Token}
use Rattle.cs_token.specs.declared.token.TokenKind.{TokenKind}
use Rattle.cs_token.specs.declared.token.TokenKind.TheVariants as t
use Rattle.cs_token.specs.declared.token.Sign.TheVariants as s
use Rattle.cs_token.specs.declared.token.Word.{Word}
use Rattle.cs_token.specs.declared.token.Word.TheVariants as w
use Rattle.cs_grammar.specs.Expressions.{Spells, SpelledExpression, node}
use Rattle.cs_grammar.specs.Expressions as e
use Rattle.cs_grammar.specs.Lambdas.{SpelledValue, Spelled}
use Rattle.cs_grammar.specs.Lambdas as g
use Rattle.cs_grammar.specs.Nesting.{too_deep}
use Rattle.cs_grammar.specs.Tables.{literal}
use Rattle.cs_grammar.specs.Tokens.{ident}
use Rattle.razor_ast.specs.Attributes.{Behind}
use Rattle.razor_ast.specs.Attributes as attributes
use Rattle.razor_ast.specs.Components.{SpelledBlock}
use Rattle.razor_ast.specs.Components as components
use Rattle.razor_ast.specs.Shown.{ShownTokens}
use Rattle.razor_ast.specs.Shown as content
use Rattle.razor_reader.specs.declared.mark.Mark.{Mark}
use Rattle.razor_reader.specs.declared.mark.Mark.TheVariants as m
use Rattle.razor_reader.specs.Marks.{is_token, token_mark, sign_mark, mark_number}
use Rattle.razor_reader.specs.Reading.{◌>>=◌}
use Rattle.razor_reader.specs.TokenReading.{before_last, between}
use Rattle.razor_reader.specs.CodeReading.{is_lambda, is_plain, is_markup, is_name, begins_with_name}
use Rattle.razor_reader.specs.CodeReading as r
use Rattle.razor_reader.proofs.CodeLemmas.{is_members}
use Rattle.razor_reader.proofs.CodeLemmas as known
use Rattle.razor_reader.proofs.CodeSound as sound
use Rattle.razor_reader.proofs.ForeignLemmas.{foreign, foreigners, spelled_passes, spelled_more, arrow, markup}
use Rattle.razor_reader.proofs.TokenLemmas.{before_last_is}

-- each segment of the tokens nests nowhere too deeply by itself
pub record Flat (ts : List Token) : Type 0 where
  pub flat : (before here rest : List Token) → ts ≡ before ++ (here ++ rest) → too_deep here ≡ None

pub flat_whole : (ts : List Token) → Flat ts → too_deep ts ≡ None
flat_whole ts f = f.flat [] ts [] (sym (nothing_behind ts))
  where
    nothing_behind : (xs : List Token) → xs ++ [] ≡ xs
    nothing_behind [] = refl
    nothing_behind (x ∷ xs) = ap (λ l. x ∷ l) (nothing_behind xs)

pub flat_inner : (o c : Token) (ts : List Token) → Flat (o ∷ (ts ++ c ∷ [])) → too_deep ts ≡ None
flat_inner o c ts f = f.flat (o ∷ []) ts (c ∷ []) refl

-- trees of expressions are neither lambdas nor markup

record IsValue (a : Expr) : Type 0 where
  plain : is_plain a ≡ true
  value : is_lambda a ≡ false

literal_value : (word : Word) (kind : ExprKind) (p : Place) → literal word ≡ Some kind → IsValue (node p kind)
unfolding literal
literal_value w.True kind p i =
    let z : ek.Bool true ≡ kind = cc in
    subst (λ (x : ExprKind). IsValue (node p x)) z
    (record { plain = ap (λ x. elim x [ ExprKind-F.Lambda name body ↦ false | ExprKind-F.Cast op a ↦ not (is_markup op) | _ ↦ true ]) (ek.outs-Bool true); value = ap (λ x. elim x [ ExprKind-F.Lambda name body ↦ true | _ ↦ false ]) (ek.outs-Bool true) })
literal_value w.False kind p i =
    let z : ek.Bool false ≡ kind = cc in
    subst (λ (x : ExprKind). IsValue (node p x)) z
    (record { plain = ap (λ x. elim x [ ExprKind-F.Lambda name body ↦ false | ExprKind-F.Cast op a ↦ not (is_markup op) | _ ↦ true ]) (ek.outs-Bool false); value = ap (λ x. elim x [ ExprKind-F.Lambda name body ↦ true | _ ↦ false ]) (ek.outs-Bool false) })
literal_value w.Null kind p i =
    let z : ek.Null ≡ kind = cc in
    subst (λ (x : ExprKind). IsValue (node p x)) z
    (record { plain = ap (λ x. elim x [ ExprKind-F.Lambda name body ↦ false | ExprKind-F.Cast op a ↦ not (is_markup op) | _ ↦ true ]) ek.outs-Null; value = ap (λ x. elim x [ ExprKind-F.Lambda name body ↦ true | _ ↦ false ]) ek.outs-Null })
literal_value _ kind p i = absurd (cc)

expression_value : (l : ℕ) (p : Place) (ts rest : List Token) (a : Expr) → Spells l p ts rest a → IsValue a
expression_value _ _ _ _ _ (e.conditional l p q r u c ts us vs rest a b d le h1 e1 h2 e2 h3) =
    record { plain = ap (λ x. elim x [ ExprKind-F.Lambda name body ↦ false | ExprKind-F.Cast op a ↦ not (is_markup op) | _ ↦ true ]) (ek.outs-Conditional a b d); value = ap (λ x. elim x [ ExprKind-F.Lambda name body ↦ true | _ ↦ false ]) (ek.outs-Conditional a b d) }
expression_value _ _ _ _ _ (e.binary l sign op p q u ts us rest a b le h1 e1 e2 h2) =
    record { plain = ap (λ x. elim x [ ExprKind-F.Lambda name body ↦ false | ExprKind-F.Cast op a ↦ not (is_markup op) | _ ↦ true ]) (ek.outs-Binary op a b); value = ap (λ x. elim x [ ExprKind-F.Lambda name body ↦ true | _ ↦ false ]) (ek.outs-Binary op a b) }
expression_value _ _ _ _ _ (e.with_parts l p u o c ts us rest a parts le h1 e1 e2 h2 e3) =
    record { plain = ap (λ x. elim x [ ExprKind-F.Lambda name body ↦ false | ExprKind-F.Cast op a ↦ not (is_markup op) | _ ↦ true ]) (ek.outs-With a parts); value = ap (λ x. elim x [ ExprKind-F.Lambda name body ↦ true | _ ↦ false ]) (ek.outs-With a parts) }
expression_value _ _ _ _ _ (e.unary l sign op q u ts rest a le e1 e2 h) =
    record { plain = ap (λ x. elim x [ ExprKind-F.Lambda name body ↦ false | ExprKind-F.Cast op a ↦ not (is_markup op) | _ ↦ true ]) (ek.outs-Unary op a); value = ap (λ x. elim x [ ExprKind-F.Lambda name body ↦ true | _ ↦ false ]) (ek.outs-Unary op a) }
expression_value _ _ _ _ _ (e.cast l q o u c ts rest a le e1 e2 e3 h) =
    record { plain = ap (λ x. elim x [ ExprKind-F.Lambda name body ↦ false | ExprKind-F.Cast op a ↦ not (is_markup op) | _ ↦ true ]) (ek.outs-Cast co.Text a); value = ap (λ x. elim x [ ExprKind-F.Lambda name body ↦ true | _ ↦ false ]) (ek.outs-Cast co.Text a) }
expression_value _ _ _ _ _ (e.null_member l x p d u ts rest a le h e1 e2) =
    record { plain = ap (λ x. elim x [ ExprKind-F.Lambda name body ↦ false | ExprKind-F.Cast op a ↦ not (is_markup op) | _ ↦ true ]) (ek.outs-NullMember a (ident u x)); value = ap (λ x. elim x [ ExprKind-F.Lambda name body ↦ true | _ ↦ false ]) (ek.outs-NullMember a (ident u x)) }
expression_value _ _ _ _ _ (e.member l x p d u ts rest a le h e1 e2) =
    record { plain = ap (λ x. elim x [ ExprKind-F.Lambda name body ↦ false | ExprKind-F.Cast op a ↦ not (is_markup op) | _ ↦ true ]) (ek.outs-Member a (ident u x)); value = ap (λ x. elim x [ ExprKind-F.Lambda name body ↦ true | _ ↦ false ]) (ek.outs-Member a (ident u x)) }
expression_value _ _ _ _ _ (e.call l p o ts us rest a bs le h e1 h2) =
    record { plain = ap (λ x. elim x [ ExprKind-F.Lambda name body ↦ false | ExprKind-F.Cast op a ↦ not (is_markup op) | _ ↦ true ]) (ek.outs-Call a bs); value = ap (λ x. elim x [ ExprKind-F.Lambda name body ↦ true | _ ↦ false ]) (ek.outs-Call a bs) }
expression_value _ _ _ _ _ (e.index l p q o c ts us rest a b le h e1 h2 e2) =
    record { plain = ap (λ x. elim x [ ExprKind-F.Lambda name body ↦ false | ExprKind-F.Cast op a ↦ not (is_markup op) | _ ↦ true ]) (ek.outs-Index a b); value = ap (λ x. elim x [ ExprKind-F.Lambda name body ↦ true | _ ↦ false ]) (ek.outs-Index a b) }
expression_value _ _ _ _ _ (e.number l n u rest i) =
    record { plain = ap (λ x. elim x [ ExprKind-F.Lambda name body ↦ false | ExprKind-F.Cast op a ↦ not (is_markup op) | _ ↦ true ]) (ek.outs-Int n); value = ap (λ x. elim x [ ExprKind-F.Lambda name body ↦ true | _ ↦ false ]) (ek.outs-Int n) }
expression_value _ _ _ _ _ (e.text l x u rest i) =
    record { plain = ap (λ x. elim x [ ExprKind-F.Lambda name body ↦ false | ExprKind-F.Cast op a ↦ not (is_markup op) | _ ↦ true ]) (ek.outs-Text x); value = ap (λ x. elim x [ ExprKind-F.Lambda name body ↦ true | _ ↦ false ]) (ek.outs-Text x) }
expression_value _ _ _ _ _ (e.literals l word kind u rest i f) =
    literal_value word kind u.place f
expression_value _ _ _ _ _ (e.interpolated l o c ts rest parts e1 h e2) =
    record { plain = ap (λ x. elim x [ ExprKind-F.Lambda name body ↦ false | ExprKind-F.Cast op a ↦ not (is_markup op) | _ ↦ true ]) (ek.outs-Interpolated parts); value = ap (λ x. elim x [ ExprKind-F.Lambda name body ↦ true | _ ↦ false ]) (ek.outs-Interpolated parts) }
expression_value _ _ _ _ _ (e.name l x u rest i) =
    record { plain = ap (λ x. elim x [ ExprKind-F.Lambda name body ↦ false | ExprKind-F.Cast op a ↦ not (is_markup op) | _ ↦ true ]) (ek.outs-Name x); value = ap (λ x. elim x [ ExprKind-F.Lambda name body ↦ true | _ ↦ false ]) (ek.outs-Name x) }
expression_value _ _ _ _ _ (e.static l word owner x u d n rest e1 f e2 e3) =
    record { plain = ap (λ x. elim x [ ExprKind-F.Lambda name body ↦ false | ExprKind-F.Cast op a ↦ not (is_markup op) | _ ↦ true ]) (ek.outs-Static owner (ident n x)); value = ap (λ x. elim x [ ExprKind-F.Lambda name body ↦ true | _ ↦ false ]) (ek.outs-Static owner (ident n x)) }
expression_value _ _ _ _ _ (e.brackets l p o c ts rest a e1 h e2) =
    expression_value 0 p ts (c ∷ rest) a h
expression_value _ _ _ _ _ (e.new_record l x u n o ts rest bs e1 e2 e3 h) =
    record { plain = ap (λ x. elim x [ ExprKind-F.Lambda name body ↦ false | ExprKind-F.Cast op a ↦ not (is_markup op) | _ ↦ true ]) (ek.outs-New (ident n x) bs); value = ap (λ x. elim x [ ExprKind-F.Lambda name body ↦ true | _ ↦ false ]) (ek.outs-New (ident n x) bs) }
expression_value _ _ _ _ _ (e.empty_list l u o c d n ts rest a e1 e2 h e3 e4 e5) =
    record { plain = ap (λ x. elim x [ ExprKind-F.Lambda name body ↦ false | ExprKind-F.Cast op a ↦ not (is_markup op) | _ ↦ true ]) (ek.outs-EmptyList a); value = ap (λ x. elim x [ ExprKind-F.Lambda name body ↦ true | _ ↦ false ]) (ek.outs-EmptyList a) }

-- what tokens spell is read

spelled_read : (ts : List Token) (a : Expr) → Flat ts → Spelled ts a → r.spelled ts ≡ Some a
spelled_read ts a f h = known.is_spelled ts a (flat_whole ts f, h)

pub plain_complete : (ts : List Token) (a : Expr) → too_deep ts ≡ None → SpelledExpression ts a → r.plain ts ≡ Some a
plain_complete ts a f h =
    let read : r.spelled ts ≡ Some a = known.is_spelled ts a (f, g.value ts a (g.expression h.0 ts a h.1)) in
    ap (λ o. o >>= λ b. if is_plain b then Some b else None) read ∙ ap (λ b. if b then Some a else None) (expression_value 0 h.0 ts [] a h.1).plain

markup_value : (p : Place) (a : Expr) → is_lambda (node p (ek.Cast co.Markup a)) ≡ false
markup_value p a = ap (λ x. elim x [ ExprKind-F.Lambda name body ↦ true | _ ↦ false ]) (ek.outs-Cast co.Markup a)

no_lambda : (ts : List Token) (a : Expr) → SpelledValue ts a → is_lambda a ≡ false
no_lambda _ _ (g.expression p ts a h) = (expression_value 0 p ts [] a h).value
no_lambda _ _ (g.markup p o u c ts a e1 e2 e3 h) = markup_value o.place a

pub value_complete : (ts : List Token) (a : Expr) → too_deep ts ≡ None → SpelledValue ts a → r.value ts ≡ Some a
value_complete ts a f h =
    let read : r.spelled ts ≡ Some a = known.is_spelled ts a (f, g.value ts a h) in
    ap (λ o. o >>= λ b. if is_lambda b then None else Some b) read ∙ ap (λ b. if b then None else Some a) (no_lambda ts a h)

-- between two brackets

between_is : (first last : Mark) (o c : Token) (ts : List Token) → is_token first o.kind ≡ true → is_token last c.kind ≡ true → between first last (o ∷ (ts ++ c ∷ [])) ≡ Some ts
between_is first last o c ts i j =
    ap (λ (b : Bool). if b then before_last last (ts ++ c ∷ []) else None) i ∙ before_last_is last (ts ++ c ∷ []) ts c refl j

opens_round : is_token m.OpenRound (t.Sign s.OpenRound) ≡ true
unfolding sign_mark mark_number
opens_round = refl

closes_round : is_token m.CloseRound (t.Sign s.CloseRound) ≡ true
unfolding sign_mark mark_number
closes_round = refl

opens_brace : is_token m.OpenBrace (t.Sign s.OpenBrace) ≡ true
unfolding sign_mark mark_number
opens_brace = refl

closes_brace : is_token m.CloseBrace (t.Sign s.CloseBrace) ≡ true
unfolding sign_mark mark_number
closes_brace = refl

round_is : (o c : Token) (ts : List Token) → o.kind ≡ t.Sign s.OpenRound → c.kind ≡ t.Sign s.CloseRound → between m.OpenRound m.CloseRound (o ∷ (ts ++ c ∷ [])) ≡ Some ts
round_is o c ts i j = between_is m.OpenRound m.CloseRound o c ts (ap (is_token m.OpenRound) i ∙ opens_round) (ap (is_token m.CloseRound) j ∙ closes_round)

pub shown_complete : (ts : List Token) (a : Expr) → Flat ts → ShownTokens ts a → r.shown ts ≡ Some a
shown_complete _ _ f (content.in_round o c ts a i h j) =
    ap (λ (b : Bool). if b then r.plain (o ∷ (ts ++ c ∷ [])) else (between m.OpenRound m.CloseRound (o ∷ (ts ++ c ∷ [])) >>= r.value)) (ap is_name i)
    ∙ ap (λ x. x >>= r.value) (round_is o c ts i j) ∙ value_complete ts a (flat_inner o c ts f) h
shown_complete _ _ f (content.named x p n ts a i h) =
    ap (λ (b : Bool). if b then r.plain (n ∷ ts) else (between m.OpenRound m.CloseRound (n ∷ ts) >>= r.value)) (ap is_name i)
    ∙ plain_complete (n ∷ ts) a (flat_whole (n ∷ ts) f) (p, h)

-- a lambda or markup in plain brackets is spelled by nothing

more_foreign : (xs ys : List Token) → foreigners (xs ++ ys) ≡ foreigners xs + foreigners ys
more_foreign [] ys = omega arith
more_foreign (x ∷ xs) ys = let h = more_foreign xs ys in omega arith

-- the kind of the token at a place
abbrev kind_at : ℕ → List Token → Option TokenKind
kind_at n [] = None
kind_at zero (u ∷ ts) = Some u.kind
kind_at (suc n) (u ∷ ts) = kind_at n ts

-- a round bracket stands there, or a name and an arrow
abbrev BeginsLambda : ℕ → List Token → Type 0
BeginsLambda n ts = (kind_at n ts ≡ Some (t.Sign s.OpenRound)) ⊎ ((x : List ℕ) × (kind_at n ts ≡ Some (t.Name x)) × (kind_at (suc n) ts ≡ Some (t.Sign s.Arrow)))

record IsForeign (ts : List Token) : Type 0 where
  some : 0 < foreigners ts
  begins : BeginsLambda zero ts

arrow_is : arrow s.Arrow ≡ 1
unfolding arrow
arrow_is = refl

markup_is : markup w.MarkupString ≡ 1
unfolding markup
markup_is = refl

is_one : (u : Token) (ts : List Token) (kind : TokenKind) → u.kind ≡ kind → foreign kind ≡ 1 → 0 < foreigners (u ∷ ts)
is_one u ts kind i f = let x : foreign u.kind ≡ 1 = ap foreign i ∙ f in omega arith

behind_one : (u : Token) (ts : List Token) → 0 < foreigners ts → 0 < foreigners (u ∷ ts)
behind_one u ts some = omega arith

expression_or_foreign : (ts : List Token) (a : Expr) → Spelled ts a → SpelledExpression ts a ⊎ IsForeign ts
expression_or_foreign _ _ (g.value ts a (g.expression p _ _ h)) = inl (p, h)
expression_or_foreign _ _ (g.value _ _ (g.markup p o u c ts a e1 e2 e3 h)) =
    inr (record { some = behind_one o (u ∷ c ∷ ts) (is_one u (c ∷ ts) _ e2 markup_is); begins = inl (ap Some e1) })
expression_or_foreign _ _ (g.of_none o c u ts b e1 e2 e3 h) =
    inr (record { some = behind_one o (c ∷ u ∷ ts) (behind_one c (u ∷ ts) (is_one u ts _ e3 arrow_is)); begins = inl (ap Some e1) })
expression_or_foreign _ _ (g.of_name x n u ts b e1 e2 h) =
    inr (record { some = behind_one n (u ∷ ts) (is_one u ts _ e2 arrow_is); begins = inr (x, ap Some e1, ap Some e2) })
expression_or_foreign _ _ (g.of_one x o n c u ts b e1 e2 e3 e4 h) =
    inr (record { some = behind_one o (n ∷ c ∷ u ∷ ts) (behind_one n (c ∷ u ∷ ts) (behind_one c (u ∷ ts) (is_one u ts _ e4 arrow_is))); begins = inl (ap Some e1) })

two_kinds : {A : Type 0} {o : Option TokenKind} (a b : TokenKind) → o ≡ Some a → o ≡ Some b → (a ≡ b → A) → A
two_kinds a b e f g = let x : Some a ≡ Some b = sym e ∙ f in g (cc)

refuted : (ts : List Token) (b : Expr) → Spelled ts b → 0 < foreigners ts → kind_at zero ts ≡ Some (t.Sign s.OpenRound) → BeginsLambda (suc zero) ts → ⊥
refuted _ _ (g.value ts a (g.expression p _ _ h)) some first second =
    let none = spelled_passes 0 p ts [] a h in absurd (omega arith)
refuted _ _ (g.value _ _ (g.markup p o u c ts a e1 e2 e3 h)) some first (inl k) = let x : Some u.kind ≡ Some (t.Word w.MarkupString) = ap Some e2 in cc
refuted _ _ (g.value _ _ (g.markup p o u c ts a e1 e2 e3 h)) some first (inr k) = let x : Some u.kind ≡ Some (t.Word w.MarkupString) = ap Some e2 in let y = k.1 in cc
refuted _ _ (g.of_none o c u ts b e1 e2 e3 h) some first (inl k) = let x : Some c.kind ≡ Some (t.Sign s.CloseRound) = ap Some e2 in cc
refuted _ _ (g.of_none o c u ts b e1 e2 e3 h) some first (inr k) = let x : Some c.kind ≡ Some (t.Sign s.CloseRound) = ap Some e2 in let y = k.1 in cc
refuted _ _ (g.of_name x n u ts b e1 e2 h) some first second = let y : Some n.kind ≡ Some (t.Name x) = ap Some e1 in cc
refuted _ _ (g.of_one x o n c u ts b e1 e2 e3 e4 h) some first (inl k) = let y : Some n.kind ≡ Some (t.Name x) = ap Some e2 in cc
refuted _ _ (g.of_one x o n c u ts b e1 e2 e3 e4 h) some first (inr k) = let y : Some c.kind ≡ Some (t.Sign s.CloseRound) = ap Some e3 in let z = k.2 in cc

kind_more : (n : ℕ) (ts us : List Token) (kind : TokenKind) → kind_at n ts ≡ Some kind → kind_at n (ts ++ us) ≡ Some kind
kind_more n [] us kind e = absurd (cc)
kind_more zero (u ∷ ts) us kind e = e
kind_more (suc n) (u ∷ ts) us kind e = kind_more n ts us kind e

begins_more : (ts us : List Token) → BeginsLambda zero ts → BeginsLambda zero (ts ++ us)
begins_more ts us (inl k) = inl (kind_more zero ts us _ k)
begins_more ts us (inr k) = inr (k.0, kind_more zero ts us _ k.1, kind_more (suc zero) ts us _ k.2)

in_plain_round : (o c : Token) (ts : List Token) (b : Expr) → o.kind ≡ t.Sign s.OpenRound → IsForeign ts → Spelled (o ∷ (ts ++ c ∷ [])) b → ⊥
in_plain_round o c ts b i f h =
    let more = more_foreign ts (c ∷ []) in
    let many = f.some in
    refuted (o ∷ (ts ++ c ∷ [])) b h (omega arith) (ap Some i) (begins_more ts (c ∷ []) f.begins)

-- an expression in brackets is spelled by the brackets too

in_brackets_spelled : (o c : Token) (ts : List Token) (a : Expr) → o.kind ≡ t.Sign s.OpenRound → c.kind ≡ t.Sign s.CloseRound → SpelledExpression ts a → Spelled (o ∷ (ts ++ c ∷ [])) a
in_brackets_spelled o c ts a i j h =
    g.value (o ∷ (ts ++ c ∷ [])) a (g.expression o.place (o ∷ (ts ++ c ∷ [])) a (e.brackets 0 h.0 o c (ts ++ c ∷ []) [] a i (spelled_more (c ∷ []) 0 h.0 ts [] a h.1) j))

-- what stands behind an at sign

led_by : (ts inner : List Token) (a : Expr) (x : Option Expr) → r.spelled ts ≡ x → between m.OpenRound m.CloseRound ts ≡ Some inner → r.spelled inner ≡ Some a
    → ((b : Expr) → r.spelled ts ≡ Some b → b ≡ a) → r.led ts ≡ Some a
led_by ts inner a None i j f one = ap (λ x. elim x [ Some b ↦ Some b | None ↦ between m.OpenRound m.CloseRound ts >>= r.spelled ]) i ∙ ap (λ x. x >>= r.spelled) j ∙ f
led_by ts inner a (Some b) i j f one = ap (λ x. elim x [ Some b ↦ Some b | None ↦ between m.OpenRound m.CloseRound ts >>= r.spelled ]) i ∙ ap Some (one b i)

one_behind : (o c : Token) (ts : List Token) (a b : Expr) → Flat (o ∷ (ts ++ c ∷ [])) → o.kind ≡ t.Sign s.OpenRound → c.kind ≡ t.Sign s.CloseRound → Spelled ts a
    → r.spelled (o ∷ (ts ++ c ∷ [])) ≡ Some b → b ≡ a
one_behind o c ts a b f i j h read = elim (expression_or_foreign ts a h) [
  | inl plain ↦
      let other : r.spelled (o ∷ (ts ++ c ∷ [])) ≡ Some a = spelled_read (o ∷ (ts ++ c ∷ [])) a f (in_brackets_spelled o c ts a i j plain) in
      let same : Some b ≡ Some a = sym read ∙ other in cc
  | inr foreign_one ↦ absurd (in_plain_round o c ts b i foreign_one (sound.is_spelled (o ∷ (ts ++ c ∷ [])) b read))
]

pub led_complete : (ts : List Token) (a : Expr) → Flat ts → Behind ts a → r.led ts ≡ Some a
led_complete _ _ f (attributes.whole ts a h) =
    ap (λ x. elim x [ Some b ↦ Some b | None ↦ between m.OpenRound m.CloseRound ts >>= r.spelled ]) (spelled_read ts a f h)
led_complete _ _ f (attributes.in_round o c ts a i h j) =
    led_by (o ∷ (ts ++ c ∷ [])) ts a (r.spelled (o ∷ (ts ++ c ∷ []))) refl (round_is o c ts i j) (known.is_spelled ts a (flat_inner o c ts f, h)) (λ b. one_behind o c ts a b f i j h)

pub block_complete : (ts : List Token) (all : List Member) → Flat ts → SpelledBlock ts all → r.members ts ≡ Some all
block_complete _ _ f (components.block o c ts all i h j) =
    ap (λ x. x >>= r.all_members) (between_is m.OpenBrace m.CloseBrace o c ts (ap (is_token m.OpenBrace) i ∙ opens_brace) (ap (is_token m.CloseBrace) j ∙ closes_brace))
    ∙ is_members ts all (flat_inner o c ts f, h)
