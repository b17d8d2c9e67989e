-- What is cut off first stands first, and what stands first is cut off.
use Rattle.std.proofs.Common.{◌≡◌, ◌≢◌, ℕ, ◌<◌, ◌≤◌, Bool, true, false, cond, List, [], ◌∷◌, ◌++◌, length, Some, None, refl, ap, sym, ◌∙◌, subst, arith, eqb, inl, inr, ◌⊎◌, length-append}
use Rattle.std.specs.Prelude.{codes}
use Rattle.std.specs.declared.option.Option.{Option}
use Rattle.std.specs.List.{list_all}
use Rattle.std.specs.Str.{bytes_eq}
use Rattle.std.specs.Cmp.Lexicographic.{bytes_decides}
use Rattle.std.proofs.lemmas.Bool.{and_parts, false_from_ne_true, false≢true}
use Rattle.std.proofs.lemmas.Bool.Decides.{nat_tests}
use Rattle.first_click.specs.declared.characters.Class.TheVariants as class
use Rattle.first_click.specs.declared.pieces.PieceKind.TheVariants as kind
use Rattle.first_click.specs.Characters.{is_in, IsRun, begins_with, ends_with}
use Rattle.first_click.specs.Pieces.{Piece, Moment, Stands, onclick, end_of_tag, open_tag, handler_tag, close_tag, literal, shown}
use Rattle.first_click.specs.Reading.Runs.{run_at, strip}
use Rattle.first_click.specs.Options.{◌>>=◌}
use Rattle.first_click.specs.Reading.Cutting.{behind, handled_at, opened_at, open_at, close_at, shown_at, literal_at, piece_at, CutsUp}
use Rattle.first_click.proofs.OptionLemmas.{bind_some, some_is, chosen}
use Rattle.first_click.proofs.Reading.RunLemmas.{run-some, run-again, strip-some, strip-again}
use Rattle.first_click.proofs.Reading.WalkLemmas.{walk-shrinks}

-- what was cut off

behind_cases : {A : Type 0} (o : Option (List ℕ)) (found : List ℕ → Option A) (otherwise : Option A) (y : A) → behind o found otherwise ≡ Some y
    → ((rest : List ℕ) × (o ≡ Some rest) × (found rest ≡ Some y)) ⊎ ((o ≡ None) × (otherwise ≡ Some y))
behind_cases (Some rest) found otherwise y e = inl (rest, refl, e)
behind_cases None found otherwise y e = inr (refl, e)

module _ (joined : Bool) (text name : List ℕ) (is : IsRun class.Lower name) where
  handled-some : (rest : List ℕ) (cut : Piece × Moment) → text ≡ codes "<" ++ (name ++ rest) → handled_at name rest ≡ Some cut → Stands (joined, text) cut.0 cut.1
  unfolding handled_at
  handled-some rest cut laid e =
      let inside = bind_some (strip onclick rest) (λ inside. run_at class.Letter inside >>= λ method. (strip end_of_tag method.1 >>= λ rest. Some ((kind.Open, name, method.0), (false, rest)))) cut e in
      let method = bind_some (run_at class.Letter inside.0) (λ method. strip end_of_tag method.1 >>= λ rest. Some ((kind.Open, name, method.0), (false, rest))) cut inside.2 in
      let last = bind_some (strip end_of_tag method.0.1) (λ rest. Some ((kind.Open, name, method.0.0), (false, rest))) cut method.2 in
      let run = run-some class.Letter inside.0 method.0.0 method.0.1 method.1 in
      let made : Piece × Moment = ((kind.Open, name, method.0.0), (false, last.0)) in
      let same : made ≡ cut = some_is made cut last.2 in
      let tail : rest ≡ onclick ++ (method.0.0 ++ (end_of_tag ++ last.0)) =
      strip-some onclick rest inside.0 inside.1
      ∙ ap (λ (x : List ℕ). onclick ++ x) (run.1 ∙ ap (λ (x : List ℕ). method.0.0 ++ x) (strip-some end_of_tag method.0.1 last.0 last.1)) in
      let whole : text ≡ codes "<" ++ (name ++ (onclick ++ (method.0.0 ++ (end_of_tag ++ last.0)))) = laid ∙ ap (λ (x : List ℕ). codes "<" ++ (name ++ x)) tail in
      subst (λ (c : Piece × Moment). Stands (joined, text) c.0 c.1) same
      (subst (λ (x : List ℕ). Stands (joined, x) (kind.Open, name, method.0.0) (false, last.0)) (sym whole)
      (handler_tag joined name method.0.0 last.0 is run.0))

  opened-some : (rest : List ℕ) (cut : Piece × Moment) → text ≡ codes "<" ++ (name ++ rest) → opened_at name rest ≡ Some cut → Stands (joined, text) cut.0 cut.1
  unfolding opened_at
  opened-some rest cut laid e = elim (behind_cases (strip (codes ">") rest) _ _ cut e) [
    | inl plain ↦
        let made : Piece × Moment = ((kind.Open, name, []), (false, plain.0)) in
        let same : made ≡ cut = some_is made cut plain.2 in
        let whole : text ≡ codes "<" ++ (name ++ (codes ">" ++ plain.0)) =
        laid ∙ ap (λ (x : List ℕ). codes "<" ++ (name ++ x)) (strip-some (codes ">") rest plain.0 plain.1) in
        subst (λ (c : Piece × Moment). Stands (joined, text) c.0 c.1) same
        (subst (λ (x : List ℕ). Stands (joined, x) (kind.Open, name, []) (false, plain.0)) (sym whole) (open_tag joined name plain.0 is))
    | inr other ↦ handled-some rest cut laid other.1
  ]

open-some : (joined : Bool) (text rest : List ℕ) (cut : Piece × Moment) → strip (codes "<") text ≡ Some rest → open_at rest ≡ Some cut → Stands (joined, text) cut.0 cut.1
unfolding open_at
open-some joined text rest cut front e =
    let name = bind_some (run_at class.Lower rest) (λ name. opened_at name.0 name.1) cut e in
    let run = run-some class.Lower rest name.0.0 name.0.1 name.1 in
    let laid : text ≡ codes "<" ++ (name.0.0 ++ name.0.1) = strip-some (codes "<") text rest front ∙ ap (λ (x : List ℕ). codes "<" ++ x) run.1 in
    opened-some joined text name.0.0 run.0 name.0.1 cut laid name.2

close-some : (joined : Bool) (text rest : List ℕ) (cut : Piece × Moment) → strip (codes "</") text ≡ Some rest → close_at rest ≡ Some cut → Stands (joined, text) cut.0 cut.1
unfolding close_at
close-some joined text rest cut front e =
    let name = bind_some (run_at class.Lower rest) (λ name. strip (codes ">") name.1 >>= λ rest. Some ((kind.Close, name.0, []), (false, rest))) cut e in
    let last = bind_some (strip (codes ">") name.0.1) (λ rest. Some ((kind.Close, name.0.0, []), (false, rest))) cut name.2 in
    let run = run-some class.Lower rest name.0.0 name.0.1 name.1 in
    let made : Piece × Moment = ((kind.Close, name.0.0, []), (false, last.0)) in
    let same : made ≡ cut = some_is made cut last.2 in
    let laid : text ≡ codes "</" ++ (name.0.0 ++ (codes ">" ++ last.0)) =
    strip-some (codes "</") text rest front ∙ ap (λ (x : List ℕ). codes "</" ++ x) (run.1 ∙ ap (λ (x : List ℕ). name.0.0 ++ x) (strip-some (codes ">") name.0.1 last.0 last.1)) in
    subst (λ (c : Piece × Moment). Stands (joined, text) c.0 c.1) same
    (subst (λ (x : List ℕ). Stands (joined, x) (kind.Close, name.0.0, []) (false, last.0)) (sym laid) (close_tag joined name.0.0 last.0 run.0))

other_text : (a b : List ℕ) → bytes_eq a b ≡ false → a ≢ b
other_text a b e same = false≢true (sym e ∙ (bytes_decides a b).1 same)

shown-some : (joined : Bool) (text rest : List ℕ) (cut : Piece × Moment) → strip (codes "@") text ≡ Some rest → cond joined None (shown_at rest) ≡ Some cut → Stands (joined, text) cut.0 cut.1
unfolding shown_at
shown-some joined text rest cut front e =
    let free = chosen joined (shown_at rest) cut e in
    let name = bind_some (run_at class.Letter rest) (λ name. cond (bytes_eq name.0 (codes "code")) None (cond (begins_with class.Continuing name.1) None (Some ((kind.Shown, name.0, []), (true, name.1))))) cut free.1 in
    let other = chosen (bytes_eq name.0.0 (codes "code")) _ cut name.2 in
    let last = chosen (begins_with class.Continuing name.0.1) _ cut other.1 in
    let run = run-some class.Letter rest name.0.0 name.0.1 name.1 in
    let made : Piece × Moment = ((kind.Shown, name.0.0, []), (true, name.0.1)) in
    let same : made ≡ cut = some_is made cut last.1 in
    let laid : text ≡ codes "@" ++ (name.0.0 ++ name.0.1) = strip-some (codes "@") text rest front ∙ ap (λ (x : List ℕ). codes "@" ++ x) run.1 in
    subst (λ (c : Piece × Moment). Stands (joined, text) c.0 c.1) same
    (subst (λ (b : Bool). Stands (b, text) (kind.Shown, name.0.0, []) (true, name.0.1)) (sym free.0)
    (subst (λ (x : List ℕ). Stands (false, x) (kind.Shown, name.0.0, []) (true, name.0.1)) (sym laid)
    (shown name.0.0 name.0.1 run.0 (other_text _ _ other.0) last.0)))

literal-some : (joined : Bool) (text : List ℕ) (cut : Piece × Moment) → literal_at text ≡ Some cut → Stands (joined, text) cut.0 cut.1
unfolding literal_at
literal-some joined text cut e =
    let found = bind_some (run_at class.Literal text) (λ run. Some ((kind.Literal, run.0, []), (ends_with class.Word run.0, run.1))) cut e in
    let run = run-some class.Literal text found.0.0 found.0.1 found.1 in
    let made : Piece × Moment = ((kind.Literal, found.0.0, []), (ends_with class.Word found.0.0, found.0.1)) in
    let same : made ≡ cut = some_is made cut found.2 in
    subst (λ (c : Piece × Moment). Stands (joined, text) c.0 c.1) same
    (subst (λ (x : List ℕ). Stands (joined, x) (kind.Literal, found.0.0, []) (ends_with class.Word found.0.0, found.0.1)) (sym run.1)
    (literal joined found.0.0 found.0.1 run.0 run.2))

pub piece_at-some : (m : Moment) (cut : Piece × Moment) → piece_at m ≡ Some cut → Stands m cut.0 cut.1
unfolding piece_at
piece_at-some m cut e = elim (behind_cases (strip (codes "</") m.1) _ _ cut e) [
  | inl close ↦ close-some m.0 m.1 close.0 cut close.1 close.2
  | inr e2 ↦ elim (behind_cases (strip (codes "<") m.1) _ _ cut e2.1) [
    | inl start ↦ open-some m.0 m.1 start.0 cut start.1 start.2
    | inr e3 ↦ elim (behind_cases (strip (codes "@") m.1) _ _ cut e3.1) [
      | inl at ↦ shown-some m.0 m.1 at.0 cut at.1 at.2
      | inr e4 ↦ literal-some m.0 m.1 cut e4.1
    ]
  ]
]

-- what stands there

close-again : (name rest : List ℕ) → IsRun class.Lower name → close_at (name ++ (codes ">" ++ rest)) ≡ Some ((kind.Close, name, []), (false, rest))
unfolding close_at
close-again name rest is = rw (run-again class.Lower name (codes ">" ++ rest) is refl, strip-again (codes ">") rest) refl

open-again : (name rest : List ℕ) → IsRun class.Lower name → open_at (name ++ (codes ">" ++ rest)) ≡ Some ((kind.Open, name, []), (false, rest))
unfolding open_at opened_at
open-again name rest is = rw (run-again class.Lower name (codes ">" ++ rest) is refl, strip-again (codes ">") rest) refl

not_closed : (rest : List ℕ) → strip (codes ">") (onclick ++ rest) ≡ None
unfolding strip
not_closed rest = refl

handler-again : (name method rest : List ℕ) → IsRun class.Lower name → IsRun class.Letter method
    → open_at (name ++ (onclick ++ (method ++ (end_of_tag ++ rest)))) ≡ Some ((kind.Open, name, method), (false, rest))
unfolding open_at opened_at handled_at
handler-again name method rest is letters =
    rw (
      run-again class.Lower name (onclick ++ (method ++ (end_of_tag ++ rest))) is refl,
      not_closed (method ++ (end_of_tag ++ rest)),
      strip-again onclick (method ++ (end_of_tag ++ rest)),
      run-again class.Letter method (end_of_tag ++ rest) letters refl,
      strip-again end_of_tag rest,
    ) refl

lower_not_slash : (c : ℕ) → is_in class.Lower c ≡ true → eqb c 47 ≡ false
lower_not_slash c h = grind (arith, nat_tests)

no_end_tag : (name rest : List ℕ) → IsRun class.Lower name → strip (codes "</") (codes "<" ++ (name ++ rest)) ≡ None
unfolding strip
no_end_tag [] rest is = let some = is.some in absurd (omega arith)
no_end_tag (c ∷ name) rest is = rw (lower_not_slash c (and_parts (is_in class.Lower c) (list_all (is_in class.Lower) name) is.all).0) refl

literal_not_less : (c : ℕ) → is_in class.Literal c ≡ true → eqb c 60 ≡ false
literal_not_less c h = grind (arith, nat_tests)

literal_not_at : (c : ℕ) → is_in class.Literal c ≡ true → eqb c 64 ≡ false
literal_not_at c h = grind (arith, nat_tests)

no_front : (x : ℕ) (more : List ℕ) (c : ℕ) (text : List ℕ) → eqb c x ≡ false → strip (x ∷ more) (c ∷ text) ≡ None
unfolding strip
no_front x more c text e = rw e refl

literal-again : (joined : Bool) (text rest : List ℕ) → IsRun class.Literal text → begins_with class.Literal rest ≡ false → piece_at (joined, text ++ rest) ≡ Some ((kind.Literal, text, []), (ends_with class.Word text, rest))
unfolding piece_at literal_at
literal-again joined [] rest is stops = let some = is.some in absurd (omega arith)
literal-again joined (c ∷ text) rest is stops =
    let first = (and_parts (is_in class.Literal c) (list_all (is_in class.Literal) text) is.all).0 in
    rw (
      no_front 60 (47 ∷ []) c (text ++ rest) (literal_not_less c first),
      no_front 60 [] c (text ++ rest) (literal_not_less c first),
      no_front 64 [] c (text ++ rest) (literal_not_at c first),
      run-again class.Literal (c ∷ text) rest is stops,
    ) refl

letter_is_word : (c : ℕ) → is_in class.Continuing c ≡ false → is_in class.Letter c ≡ false
letter_is_word c h = grind (arith, nat_tests)

letter_no_more : (rest : List ℕ) → begins_with class.Continuing rest ≡ false → begins_with class.Letter rest ≡ false
letter_no_more [] e = refl
letter_no_more (c ∷ rest) e = letter_is_word c e

pub no_tag : (rest : List ℕ) → (strip (codes "</") (64 ∷ rest) ≡ None) × (strip (codes "<") (64 ∷ rest) ≡ None)
unfolding strip
no_tag rest = (refl, refl)

shown-again : (name rest : List ℕ) → IsRun class.Letter name → name ≢ codes "code" → begins_with class.Continuing rest ≡ false → shown_at (name ++ rest) ≡ Some ((kind.Shown, name, []), (true, rest))
unfolding shown_at
shown-again name rest is other stops =
    let differs : bytes_eq name (codes "code") ≡ false = false_from_ne_true _ (λ t. other ((bytes_decides name (codes "code")).0 t)) in
    let goes_on : begins_with class.Letter rest ≡ false = letter_no_more rest stops in
    rw (run-again class.Letter name rest is goes_on, differs, stops) refl

pub piece_at-again : (m : Moment) (p : Piece) (n : Moment) → Stands m p n → piece_at m ≡ Some (p, n)
unfolding piece_at
piece_at-again _ _ _ (open_tag joined name rest is) = rw (no_end_tag name (codes ">" ++ rest) is, strip-again (codes "<") (name ++ (codes ">" ++ rest))) (open-again name rest is)
piece_at-again _ _ _ (handler_tag joined name method rest is letters) =
    rw (no_end_tag name (onclick ++ (method ++ (end_of_tag ++ rest))) is, strip-again (codes "<") (name ++ (onclick ++ (method ++ (end_of_tag ++ rest))))) (handler-again name method rest is letters)
piece_at-again _ _ _ (close_tag joined name rest is) = rw (strip-again (codes "</") (name ++ (codes ">" ++ rest))) (close-again name rest is)
piece_at-again _ _ _ (literal joined text rest is stops) = literal-again joined text rest is stops
piece_at-again _ _ _ (shown name rest is other stops) =
    let tagless = no_tag (name ++ rest) in
    rw (tagless.0, tagless.1, strip-again (codes "@") (name ++ rest)) (shown-again name rest is other stops)

pub shorter : (m : Moment) (p : Piece) (n : Moment) → Stands m p n → length n.1 < length m.1
shorter _ _ _ (open_tag joined name rest is) = simp length-append (omega arith)
shorter _ _ _ (handler_tag joined name method rest is letters) = simp length-append (omega arith)
shorter _ _ _ (close_tag joined name rest is) = simp length-append (omega arith)
shorter _ _ _ (literal joined text rest is stops) = let some = is.some in simp length-append (omega arith)
shorter _ _ _ (shown name rest is other stops) = simp length-append (omega arith)

-- what is left behind the pieces is no longer than the text
pub end-within : (text : List ℕ) (pieces : List Piece) (end : Moment) → CutsUp text pieces end → length end.1 ≤ length text
end-within text pieces end cuts = walk-shrinks Stands (λ (m : Moment). length m.1) shorter (false, text) end pieces cuts.walk
