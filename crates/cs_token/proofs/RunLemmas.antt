-- Runs of characters and fixed fronts: what was read stands there, and what stands there is read.
use Rattle.std.proofs.Common.{◌≡◌, ℕ, false, List, [], ◌∷◌, ◌++◌, length, take, drop, Some, None, refl, ap, sym, ◌∙◌, inl, inr}
use Rattle.std.specs.declared.option.Option.{Option}
use Rattle.std.specs.List.{list_all}
use Rattle.std.specs.Str.{bytes_eq}
use Rattle.std.specs.Cmp.Lexicographic.{bytes_decides}
use Rattle.std.proofs.lemmas.Bool.{and_parts, and_from, cases_Bool}
use Rattle.std.proofs.Math.Seq.{take-append_seam, drop-append_seam}
use Rattle.std.proofs.lemmas.List.{take-append-drop}
use Rattle.cs_token.specs.declared.characters.Class.{Class}
use Rattle.cs_token.specs.Characters.{is_in, AreAll, begins_with}
use Rattle.cs_token.specs.Reading.Runs.{front, past, strip}
use Rattle.cs_token.proofs.OptionLemmas.{kept, some_none}

-- fronts of a class

pub front-past : (class : Class) (t : List ℕ) → front class t ++ past class t ≡ t
front-past class [] = refl
front-past class (c ∷ cs) = elim (cases_Bool (is_in class c)) [
  | inl is ↦ rw is (ap (λ t. c ∷ t) (front-past class cs))
  | inr fails ↦ rw fails refl
]

pub AreAll-front : (class : Class) (t : List ℕ) → AreAll class (front class t)
AreAll-front class [] = refl
AreAll-front class (c ∷ cs) = elim (cases_Bool (is_in class c)) [
  | inl is ↦ rw is (and_from _ _ is (AreAll-front class cs))
  | inr fails ↦ rw fails refl
]

pub past-stops : (class : Class) (t : List ℕ) → begins_with class (past class t) ≡ false
past-stops class [] = refl
past-stops class (c ∷ cs) = elim (cases_Bool (is_in class c)) [
  | inl is ↦ rw is (past-stops class cs)
  | inr fails ↦ rw fails fails
]

pub run-again : (class : Class) (w r : List ℕ) → AreAll class w → begins_with class r ≡ false → front class (w ++ r) ≡ w
run-again class [] [] all stops = refl
run-again class [] (c ∷ r) all stops = rw stops refl
run-again class (c ∷ w) r all stops =
    let p = and_parts (is_in class c) (list_all (is_in class) w) all in
    rw p.0 (ap (λ t. c ∷ t) (run-again class w r p.1 stops))

pub past-again : (class : Class) (w r : List ℕ) → AreAll class w → begins_with class r ≡ false → past class (w ++ r) ≡ r
past-again class [] [] all stops = refl
past-again class [] (c ∷ r) all stops = rw stops refl
past-again class (c ∷ w) r all stops =
    let p = and_parts (is_in class c) (list_all (is_in class) w) all in
    rw p.0 (past-again class w r p.1 stops)

-- the front and what stands behind it are the text, apart at the right place
pub record Splits (class : Class) (text front rest : List ℕ) : Type 0 where
  pub all : AreAll class front
  pub laid : text ≡ front ++ rest
  pub stops : begins_with class rest ≡ false

pub skipped : (class : Class) (t : List ℕ) → Splits class t (front class t) (past class t)
skipped class t = record { all = AreAll-front class t; laid = sym (front-past class t); stops = past-stops class t }

-- fixed fronts

pub strip-some : (p t r : List ℕ) → strip p t ≡ Some r → t ≡ p ++ r
unfolding strip
strip-some p t r e =
    let k = kept (bytes_eq (take (length p) t) p) (Some (drop (length p) t)) r e in
    let front_is : take (length p) t ≡ p = (bytes_decides _ _).0 k.0 in
    let rest_is : drop (length p) t ≡ r = cc in
    sym (take-append-drop (length p) t) ∙ rw (front_is, rest_is) refl

pub strip-again : (p r : List ℕ) → strip p (p ++ r) ≡ Some r
unfolding strip
strip-again p r = rw (take-append_seam p r, (bytes_decides p p).1 refl) (ap Some (drop-append_seam p r))

pub strip-none : (p t : List ℕ) → strip p t ≡ None → (rest : List ℕ) → t ≡ p ++ rest → ⊥
strip-none p t none rest laid = some_none rest (sym (ap (strip p) laid ∙ strip-again p rest) ∙ none)

no_front : (p t : List ℕ) (o : Option (List ℕ)) → strip p t ≡ o → ((rest : List ℕ) → t ≡ p ++ rest → ⊥) → o ≡ None
no_front p t None e none = refl
no_front p t (Some rest) e none = absurd (none rest (strip-some p t rest e))

pub none-strip : (p t : List ℕ) → ((rest : List ℕ) → t ≡ p ++ rest → ⊥) → strip p t ≡ None
none-strip p t none = no_front p t (strip p t) refl none
