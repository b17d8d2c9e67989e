-- The first of several broken rules.
use Rattle.std.proofs.Common.{ap, ◌≡◌, ℕ, ◌<◌, ◌⊎◌, ◌==◌, ◌&&◌, ◌||◌, nat_lt, Bool, true, false, ◌++◌, List, [], ◌∷◌, Option, Some, None, if◌then◌else◌, refl, sym, subst, ◌∙◌, arith}
use mathlib.Core.Logic.{inl, inr}
use Rattle.std.proofs.lemmas.Bool.{ltb-true, eqb-true, lt-ltb, eq-eqb, or_cases, and_parts, and_from, cases_Bool, cases_order, both_ways}
use Rattle.std.specs.List.{All}
use Rattle.std.proofs.lemmas.List.Elements.{All-weaker, All-cons, All-nil, Contains-append_left, Contains-append_right, Contains-push}
use Rattle.razor_rules.specs.declared.finding.Broken.{Broken}
use Rattle.razor_rules.specs.Findings.{comes_before, number_of, the_first, first_of, merged, also, IsFirst}

-- one triple of numbers before another
abbrev below : ℕ → ℕ → ℕ → ℕ → ℕ → ℕ → Bool
below a b c x y z = nat_lt a x || ((a == x) && (nat_lt b y || ((b == y) && nat_lt c z)))

abbrev Below : ℕ → ℕ → ℕ → ℕ → ℕ → ℕ → Type 0
Below a b c x y z = (a < x) ⊎ ((a ≡ x) × ((b < y) ⊎ ((b ≡ y) × (c < z))))

or_first : (p q : Bool) → p ≡ true → (p || q) ≡ true
or_first true q h = refl
or_first false q h = absurd (both_ways false refl h)

or_second : (p q : Bool) → q ≡ true → (p || q) ≡ true
or_second true q h = refl
or_second false q h = h

inner_below : (b c y z : ℕ) → (nat_lt b y || ((b == y) && nat_lt c z)) ≡ true → (b < y) ⊎ ((b ≡ y) × (c < z))
inner_below b c y z h = elim (or_cases (nat_lt b y) ((b == y) && nat_lt c z) h) [
  | inl k ↦ inl (ltb-true b y k)
  | inr k ↦ inr (eqb-true b y (and_parts (b == y) (nat_lt c z) k).0, ltb-true c z (and_parts (b == y) (nat_lt c z) k).1)
]

is_below : (a b c x y z : ℕ) → below a b c x y z ≡ true → Below a b c x y z
is_below a b c x y z h = elim (or_cases (nat_lt a x) ((a == x) && (nat_lt b y || ((b == y) && nat_lt c z))) h) [
  | inl k ↦ inl (ltb-true a x k)
  | inr k ↦ inr (eqb-true a x (and_parts (a == x) _ k).0, inner_below b c y z (and_parts (a == x) _ k).1)
]

below_inner : (b c y z : ℕ) → (b < y) ⊎ ((b ≡ y) × (c < z)) → (nat_lt b y || ((b == y) && nat_lt c z)) ≡ true
below_inner b c y z (inl k) = or_first (nat_lt b y) _ (lt-ltb b y k)
below_inner b c y z (inr k) = or_second (nat_lt b y) _ (and_from (b == y) (nat_lt c z) (eq-eqb b y k.0) (lt-ltb c z k.1))

below_is : (a b c x y z : ℕ) → Below a b c x y z → below a b c x y z ≡ true
below_is a b c x y z (inl k) = or_first (nat_lt a x) _ (lt-ltb a x k)
below_is a b c x y z (inr k) = or_second (nat_lt a x) _ (and_from (a == x) _ (eq-eqb a x k.0) (below_inner b c y z k.1))

-- which of two comes before the other, or that they are the same
three_ways : (a b c x y z : ℕ) → Below a b c x y z ⊎ (Below x y z a b c ⊎ ((a ≡ x) × (b ≡ y) × (c ≡ z)))
three_ways a b c x y z = elim (cases_order a x) [
  | inr (inl k) ↦ inl (inl k)
  | inr (inr k) ↦ inr (inl (inl k))
  | inl p ↦ elim (cases_order b y) [
    | inr (inl k) ↦ inl (inr (p, inl k))
    | inr (inr k) ↦ inr (inl (inr (sym p, inl k)))
    | inl q ↦ elim (cases_order c z) [
      | inr (inl k) ↦ inl (inr (p, inr (q, k)))
      | inr (inr k) ↦ inr (inl (inr (sym p, inr (sym q, k))))
      | inl r ↦ inr (inr (p, q, r))
    ]
  ]
]

not_both : (a b c x y z : ℕ) → Below a b c x y z → Below x y z a b c → ⊥
not_both a b c x y z (inl h) (inl k) = omega (arith, h, k)
not_both a b c x y z (inl h) (inr k) = omega (arith, h, k.0)
not_both a b c x y z (inr h) (inl k) = omega (arith, h.0, k)
not_both a b c x y z (inr h) (inr k) = inner h.1 k.1
  where
    inner : (b < y) ⊎ ((b ≡ y) × (c < z)) → (y < b) ⊎ ((y ≡ b) × (z < c)) → ⊥
    inner (inl m) (inl n) = omega (arith, m, n)
    inner (inl m) (inr n) = omega (arith, m, n.0)
    inner (inr m) (inl n) = omega (arith, m.0, n)
    inner (inr m) (inr n) = omega (arith, m.1, n.1)

through : (a b c x y z l m n : ℕ) → Below a b c x y z → Below x y z l m n → Below a b c l m n
through a b c x y z l m n (inl h) (inl k) = inl (omega (arith, h, k))
through a b c x y z l m n (inl h) (inr k) = inl (omega (arith, h, k.0))
through a b c x y z l m n (inr h) (inl k) = inl (omega (arith, h.0, k))
through a b c x y z l m n (inr h) (inr k) = inr (h.0 ∙ k.0, inner h.1 k.1)
  where
    inner : (b < y) ⊎ ((b ≡ y) × (c < z)) → (y < m) ⊎ ((y ≡ m) × (z < n)) → (b < m) ⊎ ((b ≡ m) × (c < n))
    inner (inl p) (inl q) = inl (omega (arith, p, q))
    inner (inl p) (inr q) = inl (omega (arith, p, q.0))
    inner (inr p) (inl q) = inl (omega (arith, p.0, q))
    inner (inr p) (inr q) = inr (p.0 ∙ q.0, omega (arith, p.1, q.1))

abbrev Before : Broken → Broken → Type 0
Before x y = Below x.place.line x.place.column (number_of x.rule) y.place.line y.place.column (number_of y.rule)

is_before : (x y : Broken) → comes_before x y ≡ true → Before x y
unfolding comes_before
is_before x y = is_below x.place.line x.place.column (number_of x.rule) y.place.line y.place.column (number_of y.rule)

before_is : (x y : Broken) → Before x y → comes_before x y ≡ true
unfolding comes_before
before_is x y = below_is x.place.line x.place.column (number_of x.rule) y.place.line y.place.column (number_of y.rule)

is_not_before : (x y : Broken) → (Before x y → ⊥) → comes_before x y ≡ false
is_not_before x y h = elim (cases_Bool (comes_before x y)) [ inl k ↦ absurd (h (is_before x y k)) | inr k ↦ k ]

not_before : (x y : Broken) → comes_before x y ≡ false → Before x y → ⊥
not_before x y h k = both_ways (comes_before x y) h (before_is x y k)

never_twice : (x y : Broken) → Before x y → Before y x → ⊥
never_twice x y = not_both x.place.line x.place.column (number_of x.rule) y.place.line y.place.column (number_of y.rule)

and_on : (x y z : Broken) → Before x y → Before y z → Before x z
and_on x y z = through x.place.line x.place.column (number_of x.rule) y.place.line y.place.column (number_of y.rule) z.place.line z.place.column (number_of z.rule)

abbrev Same : Broken → Broken → Type 0
Same x y = (x.place.line ≡ y.place.line) × (x.place.column ≡ y.place.column) × (number_of x.rule ≡ number_of y.rule)

all_ways : (x y : Broken) → Before x y ⊎ (Before y x ⊎ Same x y)
all_ways x y = three_ways x.place.line x.place.column (number_of x.rule) y.place.line y.place.column (number_of y.rule)

as_same : (x y z : Broken) → Same x y → Before x z → Before y z
as_same x y z h (inl k) = inl (omega (arith, h.0, k))
as_same x y z h (inr k) = inr (sym h.0 ∙ k.0, elim k.1 [ inl m ↦ inl (omega (arith, h.1, m)) | inr m ↦ inr (sym h.1 ∙ m.0, omega (arith, h.2, m.1)) ])

-- what isn't before y, which isn't before z, isn't before z
not_on : (x y z : Broken) → (Before x y → ⊥) → (Before y z → ⊥) → Before x z → ⊥
not_on x y z h k m = elim (all_ways x y) [
  | inl p ↦ h p
  | inr (inl p) ↦ k (and_on y x z p m)
  | inr (inr p) ↦ k (as_same x y z p m)
]

abbrev NotBefore : Broken → Broken → Type 0
NotBefore x y = comes_before y x ≡ false

not_itself : (x : Broken) → comes_before x x ≡ false
not_itself x = is_not_before x x (λ h. never_twice x x h h)

-- what none comes before stays so where it is replaced by what it doesn't come before
all_not_on : (y x : Broken) (xs : List Broken) → (Before y x → ⊥) → All (NotBefore y) xs → All (NotBefore x) xs
all_not_on y x xs h all = All-weaker (NotBefore y) (NotBefore x) (λ z k. is_not_before z x (not_on z y x (not_before z y k) h)) xs all

-- one more in front of those whose first is known
in_front : (x : Broken) (xs : List Broken) (first : Option Broken) → IsFirst xs first → IsFirst (x ∷ xs) (Some (the_first x first))
in_front x xs None none = subst (λ ys. IsFirst (x ∷ ys) (Some x)) (sym none) (Contains-push [] x, All-cons (NotBefore x) x [] (not_itself x) (All-nil (NotBefore x)))
in_front x xs (Some y) it = chosen (cases_Bool (comes_before y x))
  where
    chosen : (comes_before y x ≡ true) ⊎ (comes_before y x ≡ false) → IsFirst (x ∷ xs) (Some (if comes_before y x then y else x))
    chosen (inl h) =
        subst (λ b. IsFirst (x ∷ xs) (Some (if b then y else x))) (sym h)
        (Contains-append_right (x ∷ []) xs y it.0, All-cons (NotBefore y) x xs (is_not_before x y (never_twice y x (is_before y x h))) it.1)
    chosen (inr h) =
        subst (λ b. IsFirst (x ∷ xs) (Some (if b then y else x))) (sym h)
        (Contains-append_left (x ∷ []) xs x (Contains-push [] x), All-cons (NotBefore x) x xs (not_itself x) (all_not_on y x xs (not_before y x h) it.1))

pub is_first : (xs : List Broken) → IsFirst xs (first_of xs)
is_first [] = refl
is_first (x ∷ xs) = in_front x xs (first_of xs) (is_first xs)

three : (x y z : Broken) → the_first x (Some (the_first y (Some z))) ≡ the_first (the_first x (Some y)) (Some z)
three x y z = elim (cases_Bool (comes_before y x)) [
  | inl a ↦ elim (cases_Bool (comes_before z y)) [
    | inl b ↦ rw (a, b, before_is z x (and_on z y x (is_before z y b) (is_before y x a))) refl
    | inr b ↦ rw (a, b, a) refl
  ]
  | inr a ↦ elim (cases_Bool (comes_before z y)) [
    | inl b ↦ rw (a, b) refl
    | inr b ↦ rw (a, b, is_not_before z x (not_on z y x (not_before z y b) (not_before y x a)), a) refl
  ]
]

in_turn : (x : Broken) (one other : Option Broken) → the_first x (merged one other) ≡ the_first (the_first x one) other
in_turn x None other = refl
in_turn x (Some y) None = refl
in_turn x (Some y) (Some z) = three x y z

-- the first of two lists one behind the other
pub first_append : (xs ys : List Broken) → first_of (xs ++ ys) ≡ merged (first_of xs) (first_of ys)
first_append [] ys = refl
first_append (x ∷ xs) ys = ap (λ o. Some (the_first x o)) (first_append xs ys) ∙ ap Some (in_turn x (first_of xs) (first_of ys))

merged_on : (one two three : Option Broken) → merged one (merged two three) ≡ merged (merged one two) three
merged_on None two three = refl
merged_on (Some x) two three = ap Some (in_turn x two three)

-- what is found before, and in two lists one behind the other
pub merged_append : (before : Option Broken) (xs ys : List Broken) → merged before (first_of (xs ++ ys)) ≡ merged (merged before (first_of xs)) (first_of ys)
merged_append before xs ys = ap (merged before) (first_append xs ys) ∙ merged_on before (first_of xs) (first_of ys)

merged_none : (before : Option Broken) → merged before None ≡ before
merged_none None = refl
merged_none (Some x) = refl

-- nothing was found
pub also_nothing : (before : Option Broken) → also before [] ≡ before
unfolding also
also_nothing before = merged_none before

-- one after the other
pub also_append : (before : Option Broken) (xs ys : List Broken) → also before (xs ++ ys) ≡ also (also before xs) ys
unfolding also
also_append before xs ys = merged_append before xs ys
