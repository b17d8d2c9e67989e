-- Bodies and templates whose numbers rise are found by their numbers.
use Rattle.std.proofs.Common.{Less, Equal, Greater, ◌≡◌, ℕ, ◌+◌, ◌<◌, ◌≤◌, List, [], ◌∷◌, ◌++◌, refl, sym, ap, subst, ◌∙◌, arith}
use Rattle.std.proofs.lemmas.Bool.{eqb-true, eq-eqb, ltb-true}
use Rattle.std.specs.Prelude.{Bool, true, false, ◌==◌, nat_lt, if◌then◌else◌, cond, Option, Some, None}
use Rattle.std.specs.BTreeMap.{insert_entry, is_at}
use Rattle.std.specs.Map.{lookup}
use Rattle.std.specs.Ordering.{nat_cmp, match_ordering, is_eq}
use Rattle.cs_ast.specs.declared.code.Code.{Code}
use Rattle.cs_typing.specs.Types.{Signature, Types}
use Rattle.cs_typing.specs.Bodies.{BodyHas}
use Rattle.drawing_meaning.specs.Acts.{Act}
use Rattle.page_meaning.specs.Placed.{Placed, body, template, bodies_in, templates_in, with_entries}
use Rattle.page_meaning.specs.ProgramTypes.{body_signature, template_signature, signature_at}
use Rattle.page_typing.specs.Numbering.{Between}
use Rattle.page_typing.specs.Resolving.{Known, AllKnown, AllFitting}
use Rattle.page_typing.specs.Templates.{TemplateHas}

-- two numbers that are the same, or aren't
same_number : (n : ℕ) → (n == n) ≡ true
same_number n = eq-eqb n n refl

other_number : (m n : ℕ) → m < n → (m == n) ≡ false
other_number m n h = by (m == n) refl
  where
    by : (b : Bool) → (m == n) ≡ b → b ≡ false
    by true e = let same : m ≡ n = eqb-true m n e in absurd (omega (arith, h, same))
    by false e = refl

not_below : (m n : ℕ) → n ≤ m → nat_lt m n ≡ false
not_below m n h = by (nat_lt m n) refl
  where
    by : (b : Bool) → nat_lt m n ≡ b → b ≡ false
    by true e = let less : m < n = ltb-true m n e in absurd (omega (arith, h, less))
    by false e = refl

-- behind the first entry
signature_behind : (has : Placed → Option Signature) (one : ℕ × Placed) (others : List (ℕ × Placed)) (n : ℕ) → one.0 < n → signature_at has (one ∷ others) n ≡ signature_at has others n
signature_behind has one others n h = ap (λ (b : Bool). if b then has one.1 else signature_at has others n) (other_number one.0 n h)

pub signature_first : (has : Placed → Option Signature) (one : ℕ × Placed) (others : List (ℕ × Placed)) → signature_at has (one ∷ others) one.0 ≡ has one.1
signature_first has one others = ap (λ (b : Bool). if b then has one.1 else signature_at has others one.0) (same_number one.0)

-- types whose signatures from a number on are those of these entries
pub record From (types : Types) (low : ℕ) (xs : List (ℕ × Placed)) : Type 0 where
  pub bodies : (n : ℕ) → low ≤ n → types.bodies n ≡ signature_at body_signature xs n
  pub templates : (n : ℕ) → low ≤ n → types.templates n ≡ signature_at template_signature xs n

pub behind_entry : (types : Types) (low : ℕ) (one : ℕ × Placed) (others : List (ℕ × Placed)) → low ≤ one.0 → From types low (one ∷ others) → From types (one.0 + 1) others
behind_entry types low one others h f =
    record {
      bodies = λ n k. f.bodies n (omega (arith, h, k)) ∙ signature_behind body_signature one others n (omega (arith, k));
      templates = λ n k. f.templates n (omega (arith, h, k)) ∙ signature_behind template_signature one others n (omega (arith, k));
    }

entry_known : (types : Types) (low : ℕ) (number : ℕ) (it : Placed) (others : List (ℕ × Placed)) → low ≤ number → From types low ((number, it) ∷ others) → Known types number it
entry_known types low number (body s code) others h f = f.bodies number h ∙ signature_first body_signature (number, body s code) others
entry_known types low number (template s acts) others h f = f.templates number h ∙ signature_first template_signature (number, template s acts) others

-- the types know all of them
pub all_known : (types : Types) (low high : ℕ) (xs : List (ℕ × Placed)) → Between low high xs → From types low xs → AllKnown types xs
all_known types low high [] h f = tt
all_known types low high (one ∷ others) h f = (entry_known types low one.0 one.1 others h.0 f, all_known types (one.0 + 1) high others h.1 (behind_entry types low one others h.0 f))

-- entries in rising order, from a number on
KeysFrom : {A : Type 0} → ℕ → List (ℕ × A) → Type 0
KeysFrom low [] = Unit {0}
KeysFrom low (one ∷ others) = (low ≤ one.0) × KeysFrom (one.0 + 1) others

KeysBelow : {A : Type 0} → ℕ → List (ℕ × A) → Type 0
KeysBelow high [] = Unit {0}
KeysBelow high (one ∷ others) = (one.0 < high) × KeysBelow high others

below_more : {A : Type 0} (high high' : ℕ) (xs : List (ℕ × A)) (k : ℕ) (x : A) → KeysBelow high xs → high ≤ k → k < high' → KeysBelow high' (xs ++ (k, x) ∷ [])
unfolding KeysBelow
below_more high high' [] k x h g l = (l, tt)
below_more high high' (one ∷ others) k x h g l = (omega (arith, h.0, g, l), below_more high high' others k x h.1 g l)

at_the_end : {A : Type 0} (high : ℕ) (xs : List (ℕ × A)) (k : ℕ) (x : A) → KeysBelow high xs → high ≤ k → insert_entry nat_cmp xs k x ≡ xs ++ (k, x) ∷ []
unfolding KeysBelow
at_the_end high [] k x h g = refl
at_the_end high (one ∷ others) k x h g =
    let above : nat_lt k one.0 ≡ false = not_below k one.0 (omega (arith, h.0, g)) in
    let differs : (k == one.0) ≡ false = differ in
    ap (λ (b : Bool). match_ordering (cond b Less (cond (k == one.0) Equal Greater)) ((k, x) ∷ one ∷ others) ((one.0, x) ∷ others) (one ∷ insert_entry nat_cmp others k x)) above
    ∙ ap (λ (b : Bool). match_ordering (cond b Equal Greater) ((k, x) ∷ one ∷ others) ((one.0, x) ∷ others) (one ∷ insert_entry nat_cmp others k x)) differs
    ∙ ap (λ z. one ∷ z) (at_the_end high others k x h.1 g)
  where
    differ : (k == one.0) ≡ false
    differ = by (k == one.0) refl
      where
        by : (b : Bool) → (k == one.0) ≡ b → b ≡ false
        by true e = let same : k ≡ one.0 = eqb-true k one.0 e in absurd (omega (arith, h.0, g, same))
        by false e = refl

append_one : {A : Type 0} (xs ys : List A) (x : A) → (xs ++ x ∷ []) ++ ys ≡ xs ++ x ∷ ys
append_one [] ys x = refl
append_one (y ∷ xs) ys x = ap (λ z. y ∷ z) (append_one xs ys x)

append_none : {A : Type 0} (xs : List A) → xs ≡ xs ++ []
append_none [] = refl
append_none (x ∷ xs) = ap (λ z. x ∷ z) (append_none xs)

all_inserted : {A : Type 0} (low : ℕ) (ys xs : List (ℕ × A)) → KeysBelow low ys → KeysFrom low xs → with_entries ys xs ≡ ys ++ xs
unfolding KeysBelow KeysFrom
all_inserted low ys [] h g = append_none ys
all_inserted low ys (one ∷ others) h g =
    ap (λ z. with_entries z others) (at_the_end low ys one.0 one.1 h g.0)
    ∙ all_inserted (one.0 + 1) (ys ++ one ∷ []) others (below_more low (one.0 + 1) ys one.0 one.1 h g.0 (omega arith)) g.1
    ∙ append_one ys others one

keys_wider : {A : Type 0} (low low' : ℕ) (xs : List (ℕ × A)) → low ≤ low' → KeysFrom low' xs → KeysFrom low xs
unfolding KeysFrom
keys_wider low low' [] h g = tt
keys_wider low low' (one ∷ others) h g = (omega (arith, h, g.0), g.1)

bodies_rise : (low high : ℕ) (xs : List (ℕ × Placed)) → Between low high xs → KeysFrom low (bodies_in xs)
unfolding KeysFrom
bodies_rise low high [] h = tt
bodies_rise low high ((number, body s code) ∷ others) h = (h.0, bodies_rise (number + 1) high others h.1)
bodies_rise low high ((number, template s acts) ∷ others) h = keys_wider low (number + 1) (bodies_in others) (omega (arith, h.0)) (bodies_rise (number + 1) high others h.1)

-- the bodies by their numbers
pub bodies_are : (low high : ℕ) (xs : List (ℕ × Placed)) → Between low high xs → with_entries [] (bodies_in xs) ≡ bodies_in xs
unfolding KeysBelow
bodies_are low high xs h = all_inserted low [] (bodies_in xs) tt (bodies_rise low high xs h)

-- a number is looked for
compared : (n m : ℕ) → is_at (nat_cmp n) m ≡ (m == n)
compared n m = by (nat_lt n m) (n == m) refl refl
  where
    flipped : (b : Bool) → (n == m) ≡ b → (m == n) ≡ b
    flipped true e = eq-eqb m n (sym (eqb-true n m e))
    flipped false e = away (m == n) refl
      where
        away : (c : Bool) → (m == n) ≡ c → (m == n) ≡ false
        away true k = let t : (n == m) ≡ true = eq-eqb n m (sym (eqb-true m n k)) in absurd (cc)
        away false k = k

    by : (less same : Bool) → nat_lt n m ≡ less → (n == m) ≡ same → is_eq (cond (nat_lt n m) Less (cond (n == m) Equal Greater)) ≡ (m == n)
    by true same e k = ap (λ (b : Bool). is_eq (cond b Less (cond (n == m) Equal Greater))) e ∙ sym (flipped false (other_number n m (ltb-true n m e)))
    by false true e k = ap (λ (b : Bool). is_eq (cond b Less (cond (n == m) Equal Greater))) e ∙ ap (λ (b : Bool). is_eq (cond b Equal Greater)) k ∙ sym (flipped true k)
    by false false e k = ap (λ (b : Bool). is_eq (cond b Less (cond (n == m) Equal Greater))) e ∙ ap (λ (b : Bool). is_eq (cond b Equal Greater)) k ∙ sym (flipped false k)

-- the code of a number with a signature
pub code_found : (types : Types) (components : Bool) (xs : List (ℕ × Placed)) (n : ℕ) (s : Signature) → AllFitting types components xs → signature_at body_signature xs n ≡ Some s → (code : Code) × (lookup (is_at (nat_cmp n)) (bodies_in xs) ≡ Some code) × BodyHas types s code
code_found types components [] n s h e = absurd (cc)
code_found types components ((number, body s1 code) ∷ others) n s h e = by (number == n) refl e (λ e1. code_found types components others n s h.1 e1)
  where
    by : (b : Bool) → (number == n) ≡ b → (if b then Some s1 else signature_at body_signature others n) ≡ Some s → (signature_at body_signature others n ≡ Some s → (other : Code) × (lookup (is_at (nat_cmp n)) (bodies_in others) ≡ Some other) × BodyHas types s other)
        → (other : Code) × (lookup (is_at (nat_cmp n)) ((number, code) ∷ bodies_in others) ≡ Some other) × BodyHas types s other
    by true is e1 rest = let same : s1 ≡ s = cc in (code, ap (λ (b : Bool). if b then Some code else lookup (is_at (nat_cmp n)) (bodies_in others)) (compared n number ∙ is), subst (λ z. BodyHas types z code) same h.0)
    by false is e1 rest = let k = rest e1 in (k.0, ap (λ (b : Bool). if b then Some code else lookup (is_at (nat_cmp n)) (bodies_in others)) (compared n number ∙ is) ∙ k.1, k.2)
code_found types components ((number, template s1 acts) ∷ others) n s h e = by (number == n) e (λ e1. code_found types components others n s h.1 e1)
  where
    by : (b : Bool) → (if b then None else signature_at body_signature others n) ≡ Some s → (signature_at body_signature others n ≡ Some s → (other : Code) × (lookup (is_at (nat_cmp n)) (bodies_in others) ≡ Some other) × BodyHas types s other)
        → (other : Code) × (lookup (is_at (nat_cmp n)) (bodies_in others) ≡ Some other) × BodyHas types s other
    by true e1 rest = absurd (cc)
    by false e1 rest = rest e1

templates_rise : (low high : ℕ) (xs : List (ℕ × Placed)) → Between low high xs → KeysFrom low (templates_in xs)
unfolding KeysFrom
templates_rise low high [] h = tt
templates_rise low high ((number, template s acts) ∷ others) h = (h.0, templates_rise (number + 1) high others h.1)
templates_rise low high ((number, body s code) ∷ others) h = keys_wider low (number + 1) (templates_in others) (omega (arith, h.0)) (templates_rise (number + 1) high others h.1)

-- the templates by their numbers
pub templates_are : (low high : ℕ) (xs : List (ℕ × Placed)) → Between low high xs → with_entries [] (templates_in xs) ≡ templates_in xs
unfolding KeysBelow
templates_are low high xs h = all_inserted low [] (templates_in xs) tt (templates_rise low high xs h)

-- the template of a number with a signature
pub template_found : (types : Types) (components : Bool) (xs : List (ℕ × Placed)) (n : ℕ) (s : Signature) → AllFitting types components xs → signature_at template_signature xs n ≡ Some s → (acts : List Act) × (lookup (is_at (nat_cmp n)) (templates_in xs) ≡ Some acts) × TemplateHas types components s acts
template_found types components [] n s h e = absurd (cc)
template_found types components ((number, template s1 acts) ∷ others) n s h e = by (number == n) refl e (λ e1. template_found types components others n s h.1 e1)
  where
    by : (b : Bool) → (number == n) ≡ b → (if b then Some s1 else signature_at template_signature others n) ≡ Some s → (signature_at template_signature others n ≡ Some s → (other : List Act) × (lookup (is_at (nat_cmp n)) (templates_in others) ≡ Some other) × TemplateHas types components s other)
        → (other : List Act) × (lookup (is_at (nat_cmp n)) ((number, acts) ∷ templates_in others) ≡ Some other) × TemplateHas types components s other
    by true is e1 rest = let same : s1 ≡ s = cc in (acts, ap (λ (b : Bool). if b then Some acts else lookup (is_at (nat_cmp n)) (templates_in others)) (compared n number ∙ is), subst (λ z. TemplateHas types components z acts) same h.0)
    by false is e1 rest = let k = rest e1 in (k.0, ap (λ (b : Bool). if b then Some acts else lookup (is_at (nat_cmp n)) (templates_in others)) (compared n number ∙ is) ∙ k.1, k.2)
template_found types components ((number, body s1 code) ∷ others) n s h e = by (number == n) e (λ e1. template_found types components others n s h.1 e1)
  where
    by : (b : Bool) → (if b then None else signature_at template_signature others n) ≡ Some s → (signature_at template_signature others n ≡ Some s → (other : List Act) × (lookup (is_at (nat_cmp n)) (templates_in others) ≡ Some other) × TemplateHas types components s other)
        → (other : List Act) × (lookup (is_at (nat_cmp n)) (templates_in others) ≡ Some other) × TemplateHas types components s other
    by true e1 rest = absurd (cc)
    by false e1 rest = rest e1
