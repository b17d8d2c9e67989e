-- Runs of characters and fixed fronts: what was read stands there, and what stands there is read.
use Rattle.std.proofs.Common.{◌≡◌, ℕ, false, List, [], ◌∷◌, ◌++◌, length, take, drop, Some, refl, ap, sym, ◌∙◌, arith, eqb, inl, inr}
use Rattle.std.specs.List.{list_all}
use Rattle.std.specs.Str.{bytes_eq}
use Rattle.std.specs.Cmp.Lexicographic.{bytes_decides}
use Rattle.std.proofs.lemmas.Bool.{and_parts, and_from, eqb-false, ne_eqb, cases_Bool}
use Rattle.std.proofs.Math.Seq.{take-append_seam, drop-append_seam}
use Rattle.std.proofs.lemmas.List.{take-append-drop}
use Rattle.first_click.specs.declared.characters.Class.{Class}
use Rattle.first_click.specs.Characters.{is_in, AreAll, IsRun, begins_with}
use Rattle.first_click.specs.Reading.Runs.{front, past, run_at, strip}
use Rattle.first_click.proofs.OptionLemmas.{some_is, chosen, kept}

-- fronts of a class

front-past : (class : Class) (t : List ℕ) → front class t ++ past class t ≡ t
front-past class [] = refl
front-past class (c ∷ cs) = elim (cases_Bool (is_in class c)) [
  | inl is ↦ rw is (ap (λ t. c ∷ t) (front-past class cs))
  | inr fails ↦ rw fails refl
]

AreAll-front : (class : Class) (t : List ℕ) → AreAll class (front class t)
AreAll-front class [] = refl
AreAll-front class (c ∷ cs) = elim (cases_Bool (is_in class c)) [
  | inl is ↦ rw is (and_from _ _ is (AreAll-front class cs))
  | inr fails ↦ rw fails refl
]

past-stops : (class : Class) (t : List ℕ) → begins_with class (past class t) ≡ false
past-stops class [] = refl
past-stops class (c ∷ cs) = elim (cases_Bool (is_in class c)) [
  | inl is ↦ rw is (past-stops class cs)
  | inr fails ↦ rw fails fails
]

front-again : (class : Class) (w r : List ℕ) → AreAll class w → begins_with class r ≡ false → front class (w ++ r) ≡ w
front-again class [] [] all stops = refl
front-again class [] (c ∷ r) all stops = rw stops refl
front-again class (c ∷ w) r all stops =
    let p = and_parts (is_in class c) (list_all (is_in class) w) all in
    rw p.0 (ap (λ t. c ∷ t) (front-again class w r p.1 stops))

pub past-again : (class : Class) (w r : List ℕ) → AreAll class w → begins_with class r ≡ false → past class (w ++ r) ≡ r
past-again class [] [] all stops = refl
past-again class [] (c ∷ r) all stops = rw stops refl
past-again class (c ∷ w) r all stops =
    let p = and_parts (is_in class c) (list_all (is_in class) w) all in
    rw p.0 (past-again class w r p.1 stops)

-- the front and what stands behind it are the text, apart at the right place
pub record Splits (class : Class) (text front rest : List ℕ) : Type 0 where
  pub all : AreAll class front
  pub laid : text ≡ front ++ rest
  pub stops : begins_with class rest ≡ false

pub skipped : (class : Class) (t : List ℕ) → Splits class t (front class t) (past class t)
skipped class t = record { all = AreAll-front class t; laid = sym (front-past class t); stops = past-stops class t }

pub run-some : (class : Class) (t w r : List ℕ) → run_at class t ≡ Some (w, r) → IsRun class w × (t ≡ w ++ r) × (begins_with class r ≡ false)
unfolding run_at
run-some class t w r e =
    let k = chosen (eqb (length (front class t)) 0) (Some (front class t, past class t)) (w, r) e in
    let made : List ℕ × List ℕ = (front class t, past class t) in
    let want : List ℕ × List ℕ = (w, r) in
    let same = some_is made want k.1 in
    let front_is : front class t ≡ w = ap (λ (x : List ℕ × List ℕ). x.0) same in
    let past_is : past class t ≡ r = ap (λ (x : List ℕ × List ℕ). x.1) same in
    let ne = eqb-false _ _ k.0 in
    rw (← front_is, ← past_is) (record { some = omega (arith, ne); all = AreAll-front class t }, sym (front-past class t), past-stops class t)

pub run-again : (class : Class) (w r : List ℕ) → IsRun class w → begins_with class r ≡ false → run_at class (w ++ r) ≡ Some (w, r)
unfolding run_at
run-again class w r is stops =
    let some = is.some in
    rw (front-again class w r is.all stops, past-again class w r is.all stops, ne_eqb (length w) 0 (λ e. omega arith)) refl

-- fixed fronts

pub strip-some : (p t r : List ℕ) → strip p t ≡ Some r → t ≡ p ++ r
unfolding strip
strip-some p t r e =
    let k = kept (bytes_eq (take (length p) t) p) (Some (drop (length p) t)) r e in
    let front_is : take (length p) t ≡ p = (bytes_decides _ _).0 k.0 in
    let rest_is : drop (length p) t ≡ r = cc in
    sym (take-append-drop (length p) t) ∙ rw (front_is, rest_is) refl

pub strip-again : (p r : List ℕ) → strip p (p ++ r) ≡ Some r
unfolding strip
strip-again p r = rw (take-append_seam p r, (bytes_decides p p).1 refl) (ap Some (drop-append_seam p r))
