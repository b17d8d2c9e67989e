-- The test of equality tells which values are equal.
use Rattle.std.proofs.Common.{◌≡◌, List, [], ◌∷◌, map, refl, sym, ap, ◌∙◌, subst}
use Rattle.std.specs.Prelude.{ℕ, ◌==◌, ◌&&◌, not, if◌then◌else◌, true, false, Decides, ◌↔◌, IsTrue}
use Rattle.std.specs.Prelude.{Bool as Truth}
use Rattle.std.specs.Bool.{one_answer}
use Rattle.std.proofs.lemmas.Bool.{eqb-true, eq-eqb}
use Rattle.std.proofs.lemmas.Bool.Decides.{Decides-int_eq}
use Rattle.std.proofs.lemmas.Slice.Eq.{bytes_eq-Decides}
use Rattle.cs_ast.specs.declared.value.Value.{Value, out-Value}
use Rattle.cs_ast.specs.declared.value.Value.TheViews.{roll-Value, roll-out-Value, out-roll-Value}
use Rattle.cs_ast.specs.declared.value.Value.TheOpen.{Value-F}
use Rattle.cs_ast.specs.declared.value.Value.TheFolds.{map-Value, fold-roll-Value, ind-Value}
use Rattle.cs_meaning.specs.Equality.{each_passes, is_alike, is_same}

-- equal values pass the test, and what passes is equal
abbrev Told : Value → Type 0
Told a = ((b : Value) → is_same a b ≡ true → a ≡ b) × (is_same a a ≡ true)

abbrev Such : Type 0
Such = (a : Value) × Told a

abbrev plain : List Such → List Value
plain items = map (λ (it : Such). it.0) items

both : (a b : Truth) → a && b ≡ true → (a ≡ true) × (b ≡ true)
both true b e = (refl, e)
both false b e = absurd (cc)

all_told : (items : List Such) (others : List Value) → each_passes (map is_same (plain items)) others ≡ true → plain items ≡ others
all_told [] [] e = refl
all_told [] (x ∷ xs) e = absurd (cc)
all_told (item ∷ items) [] e = absurd (cc)
all_told (item ∷ items) (x ∷ xs) e =
    let parts = both (is_same item.0 x) (each_passes (map is_same (plain items)) xs) e in
    let first : item.0 ≡ x = item.1.0 x parts.0 in
    let others : plain items ≡ xs = all_told items xs parts.1 in
    cc

all_alike : (items : List Such) → each_passes (map is_same (plain items)) (plain items) ≡ true
all_alike [] = refl
all_alike (item ∷ items) = ap (λ (b : Truth). b && each_passes (map is_same (plain items)) (plain items)) item.1.1 ∙ all_alike items

alike_truths : (x y : Truth) → (if x then y else not y) ≡ true → x ≡ y
alike_truths true true e = refl
alike_truths true false e = absurd (cc)
alike_truths false true e = absurd (cc)
alike_truths false false e = refl

same_truth : (x : Truth) → (if x then x else not x) ≡ true
same_truth true = refl
same_truth false = refl

abbrev known : Value-F Such → Value-F Value
known y = map-Value Such Value (λ (it : Such). it.0) y

two : (who other place next : ℕ) (items : List Such) (others : List Value) → (who == other && place == next && each_passes (map is_same (plain items)) others) ≡ true → (who ≡ other) × (place ≡ next) × (plain items ≡ others)
two who other place next items others e =
    let front = both (who == other && place == next) (each_passes (map is_same (plain items)) others) e in
    let ends = both (who == other) (place == next) front.0 in
    (eqb-true who other ends.0, eqb-true place next ends.1, all_told items others front.1)

alike_told : (y : Value-F Such) (z : Value-F Value) → is_alike (map-Value Value (Value → Truth) is_same (known y)) z ≡ true → known y ≡ z
alike_told (Value-F.Int x) (Value-F.Int y) e = ap Value-F.Int ((Decides-int_eq x y).0 e)
alike_told (Value-F.Bool x) (Value-F.Bool y) e = ap Value-F.Bool (alike_truths x y e)
alike_told (Value-F.Text x) (Value-F.Text y) e = ap Value-F.Text ((bytes_eq-Decides x y).0 e)
alike_told Value-F.Null Value-F.Null e = refl
alike_told (Value-F.Rec kind parts) (Value-F.Rec other others) e =
    let found = both (kind == other) (each_passes (map is_same (plain parts)) others) e in
    let kinds : kind ≡ other = eqb-true kind other found.0 in
    let same : plain parts ≡ others = all_told parts others found.1 in
    cc
alike_told (Value-F.List items) (Value-F.List others) e = ap Value-F.List (all_told items others e)
alike_told (Value-F.Fragment who place items) (Value-F.Fragment other next others) e =
    let found = two who other place next items others e in
    let first : who ≡ other = found.0 in
    let second : place ≡ next = found.1 in
    let third : plain items ≡ others = found.2 in
    cc
alike_told (Value-F.Callback who place items) (Value-F.Callback other next others) e =
    let found = two who other place next items others e in
    let first : who ≡ other = found.0 in
    let second : place ≡ next = found.1 in
    let third : plain items ≡ others = found.2 in
    cc
alike_told _ _ e = absurd (cc)

alike_self : (y : Value-F Such) → is_alike (map-Value Value (Value → Truth) is_same (known y)) (known y) ≡ true
alike_self (Value-F.Int x) = (Decides-int_eq x x).1 refl
alike_self (Value-F.Bool x) = same_truth x
alike_self (Value-F.Text x) = (bytes_eq-Decides x x).1 refl
alike_self Value-F.Null = refl
alike_self (Value-F.Rec kind parts) = ap (λ (b : Truth). b && each_passes (map is_same (plain parts)) (plain parts)) (eq-eqb kind kind refl) ∙ all_alike parts
alike_self (Value-F.List items) = all_alike items
alike_self (Value-F.Fragment who place items) = ap (λ (b : Truth). b && place == place && each_passes (map is_same (plain items)) (plain items)) (eq-eqb who who refl) ∙ ap (λ (b : Truth). b && each_passes (map is_same (plain items)) (plain items)) (eq-eqb place place refl) ∙ all_alike items
alike_self (Value-F.Callback who place items) = ap (λ (b : Truth). b && place == place && each_passes (map is_same (plain items)) (plain items)) (eq-eqb who who refl) ∙ ap (λ (b : Truth). b && each_passes (map is_same (plain items)) (plain items)) (eq-eqb place place refl) ∙ all_alike items

same_open : (y : Value-F Such) (b : Value) → is_same (roll-Value (known y)) b ≡ is_alike (map-Value Value (Value → Truth) is_same (known y)) (out-Value b)
unfolding is_same
same_open y b = ap (λ (f : Value → Truth). f b) (fold-roll-Value (Value → Truth) (λ x other. is_alike x (out-Value other)) (known y))

told : (x : Value-F Value) (y : Value-F Such) → known y ≡ x → Told (roll-Value x)
told x y e = subst (λ (z : Value-F Value). Told (roll-Value z)) e (sound, self)
  where
    sound : (b : Value) → is_same (roll-Value (known y)) b ≡ true → roll-Value (known y) ≡ b
    sound b h = ap roll-Value (alike_told y (out-Value b) (sym (same_open y b) ∙ h)) ∙ roll-out-Value b

    self : is_same (roll-Value (known y)) (roll-Value (known y)) ≡ true
    self = same_open y (roll-Value (known y)) ∙ ap (is_alike (map-Value Value (Value → Truth) is_same (known y))) (out-roll-Value (known y)) ∙ alike_self y

pub same_decides : (a b : Value) → Decides (is_same a b) (a ≡ b)
same_decides a b = (one.0 b, λ e. subst (λ (z : Value). is_same a z ≡ true) e one.1)
  where
    one : Told a
    one = ind-Value Told told a

-- what tells whether two values are equal is this test
pub same_answer : (answer : Truth) (a b : Value) → (IsTrue answer ↔ (a ≡ b)) → answer ≡ is_same a b
same_answer answer a b h = one_answer answer (is_same a b) (h.0, h.1) (same_decides a b)
