-- What is written of numbers and texts is read again.
use Rattle.std.proofs.Common.{◌≡◌, ℕ, ◌+◌, ◌<◌, ◌^◌, ◌%◌, pos, List, [], ◌∷◌, ◌++◌, true, false, Some, inl, inr, refl, sym, ap, ◌∙◌, subst, arith}
use Rattle.std.specs.Prelude.{eqb, ◌||◌}
use Rattle.std.specs.List.{flat_map}
use Rattle.std.specs.Fmt.{decimal}
use Rattle.std.proofs.lemmas.Bool.{and_from, and_parts, le-leb, cases_Bool, eqb-true, eqb-false, false≢true}
use Rattle.std.proofs.lemmas.Fmt.{decimal_by_steps, decimal_nonempty}
use Rattle.std.proofs.lemmas.Int.{ints}
use Rattle.text_core.specs.Decimal.{i32_of}
use Rattle.text_core.proofs.DecimalLemmas.{i32_of-signed_decimal}
use Rattle.cs_token.specs.declared.characters.Class.TheVariants as class
use Rattle.cs_token.specs.Characters.{is_in, AreAll, IsRun}
use Rattle.cs_token.specs.Written.{IsUnit, IsWritten, NoUnit, is_plain, is_brace}
use Rattle.cs_token.specs.Written as g
use Rattle.cs_print.specs.Layout.{quoted, in_part}

-- numbers

all-more : (ds : List ℕ) (d : ℕ) → AreAll class.Digit ds → is_in class.Digit d ≡ true → AreAll class.Digit (ds ++ d ∷ [])
all-more [] d all is = and_from _ _ is refl
all-more (c ∷ ds) d all is = let both = and_parts (is_in class.Digit c) _ all in and_from _ _ both.0 (all-more ds d both.1 is)

digit-in : (n : ℕ) → n < 10 → is_in class.Digit (48 + n) ≡ true
digit-in n h = and_from _ _ (le-leb 48 (48 + n) (omega arith)) (le-leb (48 + n) 57 (omega arith))

pub digits-run : (n : ℕ) → n < 2 ^ 64 → IsRun class.Digit (decimal n)
digits-run n h = record {
  some = decimal_nonempty n h;
  all = decimal_by_steps (λ m ds. AreAll class.Digit ds) (λ m small. and_from _ _ (digit-in m small) refl) (λ m ds big all. all-more ds (48 + m % 10) all (digit-in (m % 10) (omega arith))) n h;
}

pub number-again : (n : ℕ) → n < 2 ^ 31 → i32_of (decimal n) ≡ Some (pos n)
number-again n h = i32_of-signed_decimal (pos n) (omega (arith, ints))

-- characters

module _ (form : _) (plain : (c : ℕ) → eqb c 34 ≡ false → eqb c 92 ≡ false → eqb c 10 ≡ false → is_plain form c ≡ true) where
  pub unit-again : (c : ℕ) → IsUnit form (quoted c) c
  unit-again c = elim (cases_Bool (eqb c 34)) [
    | inl is ↦ rw is (subst (λ x. IsUnit form (92 ∷ 34 ∷ []) x) (sym (eqb-true c 34 is)) (g.escape form 34 34 refl))
    | inr no_quote ↦ elim (cases_Bool (eqb c 92)) [
      | inl is ↦ rw (no_quote, is) (subst (λ x. IsUnit form (92 ∷ 92 ∷ []) x) (sym (eqb-true c 92 is)) (g.escape form 92 92 refl))
      | inr no_slash ↦ elim (cases_Bool (eqb c 10)) [
        | inl is ↦ rw (no_quote, no_slash, is) (subst (λ x. IsUnit form (92 ∷ 110 ∷ []) x) (sym (eqb-true c 10 is)) (g.escape form 110 10 refl))
        | inr no_feed ↦ elim (cases_Bool (eqb c 39)) [
          | inl is ↦ rw (no_quote, no_slash, no_feed, is) (subst (λ x. IsUnit form (92 ∷ 117 ∷ 48 ∷ 48 ∷ 50 ∷ 55 ∷ []) x) (sym (eqb-true c 39 is)) (g.number form 48 48 50 55 39 refl))
          | inr no_single ↦ rw (no_quote, no_slash, no_feed, no_single) (g.itself form c (plain c no_quote no_slash no_feed))
        ]
      ]
    ]
  ]

  pub quoted-again : (x : List ℕ) → IsWritten form (flat_map quoted x) x
  quoted-again [] = g.nothing
  quoted-again (c ∷ x) = g.more (quoted c) (flat_map quoted x) x c (unit-again c) (quoted-again x)

module _ (form : _) (brace : (c : ℕ) → is_brace c ≡ true → IsUnit form (c ∷ c ∷ []) c)
    (plain : (c : ℕ) → is_brace c ≡ false → eqb c 34 ≡ false → eqb c 92 ≡ false → eqb c 10 ≡ false → is_plain form c ≡ true) where
  part-again : (c : ℕ) → IsUnit form (in_part c) c
  part-again c = elim (cases_Bool (eqb c 123 || eqb c 125)) [
    | inl is ↦ rw is (brace c is)
    | inr none ↦ rw none (character c none)
  ]
    where
      character : (c : ℕ) → is_brace c ≡ false → IsUnit form (quoted c) c
      character c none = elim (cases_Bool (eqb c 34)) [
        | inl is ↦ rw is (subst (λ x. IsUnit form (92 ∷ 34 ∷ []) x) (sym (eqb-true c 34 is)) (g.escape form 34 34 refl))
        | inr no_quote ↦ elim (cases_Bool (eqb c 92)) [
          | inl is ↦ rw (no_quote, is) (subst (λ x. IsUnit form (92 ∷ 92 ∷ []) x) (sym (eqb-true c 92 is)) (g.escape form 92 92 refl))
          | inr no_slash ↦ elim (cases_Bool (eqb c 10)) [
            | inl is ↦ rw (no_quote, no_slash, is) (subst (λ x. IsUnit form (92 ∷ 110 ∷ []) x) (sym (eqb-true c 10 is)) (g.escape form 110 10 refl))
            | inr no_feed ↦ elim (cases_Bool (eqb c 39)) [
              | inl is ↦ rw (no_quote, no_slash, no_feed, is) (subst (λ x. IsUnit form (92 ∷ 117 ∷ 48 ∷ 48 ∷ 50 ∷ 55 ∷ []) x) (sym (eqb-true c 39 is)) (g.number form 48 48 50 55 39 refl))
              | inr no_single ↦ rw (no_quote, no_slash, no_feed, no_single) (g.itself form c (plain c none no_quote no_slash no_feed))
            ]
          ]
        ]
      ]

  pub parts-again : (x : List ℕ) → IsWritten form (flat_map in_part x) x
  parts-again [] = g.nothing
  parts-again (c ∷ x) = g.more (in_part c) (flat_map in_part x) x c (part-again c) (parts-again x)

-- fails character of a literal text is written by a quote, or by a brace alone

head_of : List ℕ → ℕ
head_of [] = 0
head_of (c ∷ text) = c

second_of : List ℕ → ℕ
second_of [] = 0
second_of (c ∷ text) = head_of text

heads : (xs ys : List ℕ) → xs ≡ ys → head_of xs ≡ head_of ys
heads xs ys e = ap head_of e

seconds : (xs ys : List ℕ) → xs ≡ ys → second_of xs ≡ second_of ys
seconds xs ys e = ap second_of e

eqb_self : (n : ℕ) → eqb n n ≡ true
eqb_self n = elim (cases_Bool (eqb n n)) [ inl is ↦ is | inr differs ↦ absurd (eqb-false n n differs refl) ]

other_head : {A : Type 0} (xs ys : List ℕ) → xs ≡ ys → eqb (head_of xs) (head_of ys) ≡ false → A
other_head xs ys e differs = absurd (false≢true (sym differs ∙ subst (λ x. eqb x (head_of ys) ≡ true) (sym (ap head_of e)) (eqb_self (head_of ys))))

pub no-unit-quote : (form : _) (rest : List ℕ) → is_plain form 34 ≡ false → NoUnit form (34 ∷ rest)
unfolding head_of second_of
no-unit-quote _ rest fails _ more _ (g.itself form c plain) e =
    false≢true (sym fails ∙ subst (λ x. is_plain form x ≡ true) (sym (heads (34 ∷ rest) (c ∷ more) e)) plain)
no-unit-quote _ rest fails _ more _ (g.escape form d c is) e = other_head (34 ∷ rest) (92 ∷ d ∷ more) e refl
no-unit-quote _ rest fails _ more _ (g.number form a b c d n is) e = other_head (34 ∷ rest) (92 ∷ 117 ∷ a ∷ b ∷ c ∷ d ∷ more) e refl
no-unit-quote _ rest fails _ more _ (g.doubled c is) e = false≢true (subst (λ x. is_brace x ≡ true) (sym (heads (34 ∷ rest) (c ∷ c ∷ more) e)) is)

pub no-unit-hole : (form : _) (rest : List ℕ) → is_plain form 123 ≡ false → NoUnit form (123 ∷ 32 ∷ rest)
unfolding head_of second_of
no-unit-hole _ rest fails _ more _ (g.itself form c plain) e =
    false≢true (sym fails ∙ subst (λ x. is_plain form x ≡ true) (sym (heads (123 ∷ 32 ∷ rest) (c ∷ more) e)) plain)
no-unit-hole _ rest fails _ more _ (g.escape form d c is) e = other_head (123 ∷ 32 ∷ rest) (92 ∷ d ∷ more) e refl
no-unit-hole _ rest fails _ more _ (g.number form a b c d n is) e = other_head (123 ∷ 32 ∷ rest) (92 ∷ 117 ∷ a ∷ b ∷ c ∷ d ∷ more) e refl
no-unit-hole _ rest fails _ more _ (g.doubled c is) e = false≢true (subst (λ x. is_brace x ≡ true) (sym (seconds (123 ∷ 32 ∷ rest) (c ∷ c ∷ more) e)) is)
