-- Steps of reading.
use Rattle.std.proofs.Common.{◌≡◌, ◌≢◌, ◌⊎◌, ℕ, List, refl, sym, ◌∙◌, subst, inl, inr}
use Rattle.std.proofs.lemmas.Slice.Eq.{bytes_eq-Decides}
use Rattle.std.specs.Prelude.{Bool, true, false, not, ◌&&◌, ◌||◌, if◌then◌else◌, Option, Some, None}
use Rattle.std.specs.Str.{bytes_eq}
use Rattle.razor_reader.specs.Reading.{◌>>=◌}

-- a step that gave something
pub bind_ok : {A B : Type 0} (o : Option A) (f : A → Option B) (y : B) → (o >>= f) ≡ Some y → (x : A) × (o ≡ Some x) × (f x ≡ Some y)
bind_ok None f y e = absurd (cc)
bind_ok (Some x) f y e = (x, refl, e)

-- what is known of one result is known of the same result
pub moved : {A : Type 0} (P : A → Type 0) {x y : A} → Some x ≡ Some y → P x → P y
moved P {x} {y} e h = let same : x ≡ y = cc in subst P same h

-- what stands where a test holds
pub where_true : {A : Type 0} (b : Bool) (o : Option A) (a : A) → (if b then o else None) ≡ Some a → (b ≡ true) × (o ≡ Some a)
where_true true o a e = (refl, e)
where_true false o a e = absurd (cc)

pub where_false : {A : Type 0} (b : Bool) (o : Option A) (a : A) → (if b then None else o) ≡ Some a → (b ≡ false) × (o ≡ Some a)
where_false true o a e = absurd (cc)
where_false false o a e = (refl, e)

pub where_not : {A : Type 0} (b : Bool) (o : Option A) (a : A) → (if not b then None else o) ≡ Some a → (b ≡ true) × (o ≡ Some a)
where_not true o a e = (refl, e)
where_not false o a e = absurd (cc)

pub where_neither : {A : Type 0} (b d : Bool) (o : Option A) (a : A) → (if not b || not d then None else o) ≡ Some a → (b ≡ true) × (d ≡ true) × (o ≡ Some a)
where_neither true true o a e = (refl, refl, e)
where_neither true false o a e = absurd (cc)
where_neither false d o a e = absurd (cc)

-- one of two by a test
pub by_test : {A : Type 0} (b : Bool) (o u : Option A) (a : A) → (if b then o else u) ≡ Some a → ((b ≡ true) × (o ≡ Some a)) ⊎ ((b ≡ false) × (u ≡ Some a))
by_test true o u a e = inl (refl, e)
by_test false o u a e = inr (refl, e)

-- both tests hold
pub both_true : (b d : Bool) → (b && d) ≡ true → (b ≡ true) × (d ≡ true)
both_true true d e = (refl, e)
both_true false d e = absurd (cc)

pub not_true : (b : Bool) → not b ≡ true → b ≡ false
not_true true e = absurd (cc)
not_true false e = refl

-- the same characters, and others
pub same_text : (text word : List ℕ) → bytes_eq text word ≡ true → text ≡ word
same_text text word e = (bytes_eq-Decides text word).0 e

pub other_text : (text word : List ℕ) → bytes_eq text word ≡ false → text ≢ word
other_text text word e same = let z : true ≡ false = sym ((bytes_eq-Decides text word).1 same) ∙ e in absurd (cc)
