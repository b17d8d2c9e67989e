-- The expression that is read is spelled.
use Rattle.std.proofs.Common.{◌≡◌, ℕ, zero, suc, ◌+◌, ◌≤◌, List, [], ◌∷◌, ◌++◌, Some, None, refl, ap, sym, ◌∙◌, subst, arith, append_assoc, append-nil, inl, inr}
use Rattle.std.specs.Prelude.{codes, nat_le}
use Rattle.std.specs.declared.option.Option.{Option}
use Rattle.std.specs.Str.{bytes_eq}
use Rattle.std.specs.Cmp.Lexicographic.{bytes_decides}
use Rattle.std.proofs.lemmas.Bool.{cases_Bool, leb-true, leb-false}
use Rattle.cs_ast.specs.declared.code.Code.{Code}
use Rattle.cs_ast.specs.declared.code.Code.TheVariants as code
use Rattle.cs_ast.specs.declared.operators.BinaryOp.{BinaryOp}
use Rattle.cs_ast.specs.declared.operators.BinaryOp.TheVariants as op
use Rattle.first_click.specs.declared.component.Field.{Field}
use Rattle.first_click.specs.Expressions.{Expresses, single, brackets, binary, leaf, operator, tightness}
use Rattle.first_click.specs.Options.{◌>>=◌}
use Rattle.first_click.specs.Reading.Expressions.{Reads, nothing, within, behind_token, expression_in}
use Rattle.first_click.specs.Reading.Expressions as r
use Rattle.first_click.proofs.OptionLemmas.{bind_some, some_is, kept}

-- how tightly an operator holds, counted from 1; 0 is none
abbrev pub strength_of : Option BinaryOp → ℕ
strength_of None = 0
strength_of (Some o) = tightness o + 1

-- that of the token that comes next
abbrev pub next : List (List ℕ) → ℕ
next [] = 0
next (token ∷ tokens) = strength_of (operator token)

pub tight : (o : BinaryOp) → tightness o ≤ 1
unfolding tightness
tight op.Multiply = omega arith
tight _ = omega arith

strength-small : (o : Option BinaryOp) → strength_of o ≤ 2
strength-small None = omega arith
strength-small (Some o) = omega (arith, tight o)

next-small : (tokens : List (List ℕ)) → next tokens ≤ 2
next-small [] = omega arith
next-small (token ∷ tokens) = strength-small (operator token)

pub behind_token-some : (wanted : List ℕ) (tokens rest : List (List ℕ)) → behind_token wanted tokens ≡ Some rest → tokens ≡ wanted ∷ rest
behind_token-some wanted [] rest e = absurd (cc)
behind_token-some wanted (token ∷ tokens) rest e =
    let is = kept (bytes_eq token wanted) (Some tokens) rest e in
    ap (λ (x : List ℕ). x ∷ tokens) ((bytes_decides token wanted).0 is.0) ∙ ap (λ (x : List (List ℕ)). wanted ∷ x) (some_is tokens rest is.1)

moved : {A : Type 0} (P : A → Type 0) {x y : A} → Some x ≡ Some y → P x → P y
moved P e h = subst P (cc) h

module _ (fields : List Field) where
  -- a looser level
  loosen : (l m : ℕ) (tokens : List (List ℕ)) (a : Code) → m ≤ l → Expresses fields l tokens a → Expresses fields m tokens a
  loosen l m _ _ h (single _ token e is) = single m token e is
  loosen l m _ _ h (brackets _ inside e spelled) = brackets m inside e spelled
  loosen l m _ _ h (binary _ o token left right a b low is x y) = binary m o token left right a b (omega arith) is x y

  -- an expression at the front, behind which no operator of its level goes on
  pub record Front (l : ℕ) (tokens : List (List ℕ)) (a : Code) (rest : List (List ℕ)) : Type 0 where
    pub pre : List (List ℕ)
    pub whole : tokens ≡ pre ++ rest
    pub spelled : Expresses fields l pre a
    pub stop : next rest ≤ l

  -- what stands before goes on by more tokens
  record Goes (l : ℕ) (pre tokens : List (List ℕ)) (b : Code) (rest : List (List ℕ)) : Type 0 where
    more : List (List ℕ)
    whole : tokens ≡ more ++ rest
    spelled : Expresses fields l (pre ++ more) b
    stop : next rest ≤ l

  record Sound (self : List (List ℕ) → Reads) : Type 0 where
    expression : (l : ℕ) (tokens : List (List ℕ)) (a : Code) (rest : List (List ℕ)) → l ≤ 2 → (self tokens).expression l ≡ Some (a, rest) → Front l tokens a rest
    operations : (l m : ℕ) (pre tokens : List (List ℕ)) (a b : Code) (rest : List (List ℕ)) → l ≤ m → next tokens ≤ m + 1 → Expresses fields m pre a
        → (self tokens).operations l a ≡ Some (b, rest) → Goes l pre tokens b rest

  nothing-sound : Sound (λ tokens. nothing)
  nothing-sound = record { expression = λ l tokens a rest h e. absurd (cc); operations = λ l m pre tokens a b rest h k s e. absurd (cc) }

  abbrev stopped : Code → List (List ℕ) → r.Read Code
  stopped a tokens = Some (a, tokens)

  stays : (l m : ℕ) (pre tokens : List (List ℕ)) (a b : Code) (rest : List (List ℕ)) → l ≤ m → next tokens ≤ l → Expresses fields m pre a → stopped a tokens ≡ Some (b, rest)
      → Goes l pre tokens b rest
  stays l m pre tokens a b rest h stop spelled e =
      let made : Code × List (List ℕ) = (a, tokens) in
      let want : Code × List (List ℕ) = (b, rest) in
      subst (λ (x : Code × List (List ℕ)). Goes l pre tokens x.0 x.1) (some_is made want e)
      (record { more = []; whole = refl; spelled = subst (λ (x : List (List ℕ)). Expresses fields l x a) (sym (append-nil pre)) (loosen m l pre a h spelled); stop = stop })

  module _ (self : List (List ℕ) → Reads) (sound : Sound self) where
    bracketed-sound : (tokens : List (List ℕ)) (a : Code) (rest : List (List ℕ)) → r.bracketed fields self tokens ≡ Some (a, rest)
        → (pre : List (List ℕ)) × (codes "(" ∷ tokens ≡ pre ++ rest) × Expresses fields 2 pre a
    bracketed-sound tokens a rest e =
        let want : Code × List (List ℕ) = (a, rest) in
        let x = bind_some ((self tokens).expression 0) (λ x. behind_token (codes ")") x.1 >>= λ rest. Some (x.0, rest)) want e in
        let y = bind_some (behind_token (codes ")") x.0.1) (λ rest. Some (x.0.0, rest)) want x.2 in
        let made : Code × List (List ℕ) = (x.0.0, y.0) in
        let inner = sound.expression 0 tokens x.0.0 x.0.1 (omega arith) x.1 in
        let laid : codes "(" ∷ tokens ≡ (codes "(" ∷ (inner.pre ++ codes ")" ∷ [])) ++ y.0 =
        ap (λ (z : List (List ℕ)). codes "(" ∷ z)
        (inner.whole ∙ ap (λ (z : List (List ℕ)). inner.pre ++ z) (behind_token-some (codes ")") x.0.1 y.0 y.1) ∙ sym (append_assoc inner.pre (codes ")" ∷ []) y.0)) in
        subst (λ (z : Code × List (List ℕ)). (pre : List (List ℕ)) × (codes "(" ∷ tokens ≡ pre ++ z.1) × Expresses fields 2 pre z.0) (some_is made want y.2)
        (codes "(" ∷ (inner.pre ++ codes ")" ∷ []), laid, brackets 2 inner.pre x.0.0 inner.spelled)

    operand-sound : (token : List ℕ) (tokens : List (List ℕ)) (a : Code) (rest : List (List ℕ)) → r.operand fields self token tokens ≡ Some (a, rest)
        → (pre : List (List ℕ)) × (token ∷ tokens ≡ pre ++ rest) × Expresses fields 2 pre a
    operand-sound token tokens a rest e = elim (cases_Bool (bytes_eq token (codes "("))) [
      | inl is ↦
          let is_bracket : token ≡ codes "(" = (bytes_decides token (codes "(")).0 is in
          subst (λ (t : List ℕ). (pre : List (List ℕ)) × (t ∷ tokens ≡ pre ++ rest) × Expresses fields 2 pre a) (sym is_bracket)
          (bracketed-sound tokens a rest (rw is at e))
      | inr fails ↦
          let want : Code × List (List ℕ) = (a, rest) in
          let x = bind_some (leaf fields token) (λ a. Some (a, tokens)) want (rw fails at e) in
          let made : Code × List (List ℕ) = (x.0, tokens) in
          subst (λ (z : Code × List (List ℕ)). (pre : List (List ℕ)) × (token ∷ tokens ≡ pre ++ z.1) × Expresses fields 2 pre z.0) (some_is made want x.2)
          (token ∷ [], refl, single 2 token x.0 x.1)
    ]

    expression-sound : (l : ℕ) (tokens : List (List ℕ)) (a : Code) (rest : List (List ℕ)) → l ≤ 2 → r.expression fields self l tokens ≡ Some (a, rest) → Front l tokens a rest
    expression-sound l [] a rest h e = absurd (cc)
    expression-sound l (token ∷ tokens) a rest h e =
        let x = bind_some (r.operand fields self token tokens) (λ x. (self x.1).operations l x.0) (a, rest) e in
        let first = operand-sound token tokens x.0.0 x.0.1 x.1 in
        let more = sound.operations l 2 first.0 x.0.1 x.0.0 a rest h (omega (arith, next-small x.0.1)) first.2 x.2 in
        record {
          pre = first.0 ++ more.more;
          whole = first.1 ∙ ap (λ (z : List (List ℕ)). first.0 ++ z) more.whole ∙ sym (append_assoc first.0 more.more rest);
          spelled = more.spelled;
          stop = more.stop;
        }

    binary-sound : (l m : ℕ) (pre : List (List ℕ)) (token : List ℕ) (tokens : List (List ℕ)) (o : BinaryOp) (a b : Code) (rest : List (List ℕ)) → l ≤ tightness o → tightness o ≤ m
        → operator token ≡ Some o → Expresses fields m pre a → r.binary fields self l a o tokens ≡ Some (b, rest) → Goes l pre (token ∷ tokens) b rest
    binary-sound l m pre token tokens o a b rest low high is spelled e =
        let x = bind_some ((self tokens).expression (tightness o + 1)) (λ x. (self x.1).operations l (code.Binary o a x.0)) (b, rest) e in
        let right = sound.expression (tightness o + 1) tokens x.0.0 x.0.1 (omega (arith, tight o)) x.1 in
        let both = binary (tightness o) o token pre right.pre a x.0.0 (omega arith) is (loosen m (tightness o) pre a high spelled) right.spelled in
        let more = sound.operations l (tightness o) (pre ++ token ∷ right.pre) x.0.1 (code.Binary o a x.0.0) b rest low right.stop both x.2 in
        record {
          more = token ∷ (right.pre ++ more.more);
          whole =
              ap (λ (z : List (List ℕ)). token ∷ z) (right.whole ∙ ap (λ (z : List (List ℕ)). right.pre ++ z) more.whole ∙ sym (append_assoc right.pre more.more rest));
          spelled = subst (λ (z : List (List ℕ)). Expresses fields l z b) (append_assoc pre (token ∷ right.pre) more.more) more.spelled;
          stop = more.stop;
        }

    joined-sound : (o : Option BinaryOp) (l m : ℕ) (pre : List (List ℕ)) (token : List ℕ) (tokens : List (List ℕ)) (a b : Code) (rest : List (List ℕ)) → operator token ≡ o → l ≤ m
        → strength_of o ≤ m + 1 → Expresses fields m pre a → r.joined fields self l a o token tokens ≡ Some (b, rest) → Goes l pre (token ∷ tokens) b rest
    joined-sound None l m pre token tokens a b rest is h k spelled e = stays l m pre (token ∷ tokens) a b rest h (rw is (omega arith)) spelled e
    joined-sound (Some o) l m pre token tokens a b rest is h k spelled e = elim (cases_Bool (nat_le l (tightness o))) [
      | inl goes ↦ binary-sound l m pre token tokens o a b rest (leb-true l (tightness o) goes) (omega arith) is spelled (rw goes at e)
      | inr stops ↦ stays l m pre (token ∷ tokens) a b rest h (rw is (omega (arith, leb-false l (tightness o) stops))) spelled (rw stops at e)
    ]

    operations-sound : (l m : ℕ) (pre tokens : List (List ℕ)) (a b : Code) (rest : List (List ℕ)) → l ≤ m → next tokens ≤ m + 1 → Expresses fields m pre a
        → r.operations fields self l a tokens ≡ Some (b, rest) → Goes l pre tokens b rest
    operations-sound l m pre [] a b rest h k spelled e = stays l m pre [] a b rest h (omega arith) spelled e
    operations-sound l m pre (token ∷ tokens) a b rest h k spelled e = joined-sound (operator token) l m pre token tokens a b rest refl h k spelled e

    step-sound : Sound (r.step fields self)
    step-sound = record { expression = λ l tokens a rest. expression-sound l tokens a rest; operations = λ l m pre tokens a b rest. operations-sound l m pre tokens a b rest }

  within-sound : (n : ℕ) → Sound (within fields n)
  unfolding within
  within-sound zero = nothing-sound
  within-sound (suc n) = step-sound (within fields n) (within-sound n)

  pub expression_in-sound : (n : ℕ) (tokens : List (List ℕ)) (a : Code) (rest : List (List ℕ)) → expression_in fields n 0 tokens ≡ Some (a, rest) → Front 0 tokens a rest
  expression_in-sound n tokens a rest e = (within-sound n).expression 0 tokens a rest (omega arith) e
