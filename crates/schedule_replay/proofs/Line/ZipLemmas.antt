-- Messages on a line and the bytes that spell them.
use Rattle.std.proofs.Common.{◌≡◌, ◌<◌, ℕ, zero, suc, ◌+◌, List, [], ◌∷◌, ◌++◌, length, map, slice_get, Some, None, refl, ap, sym, ◌∙◌, subst, arith}
use Rattle.std.specs.List.{AllZip}
use Rattle.hub_messages.specs.Spelling.Spells.{SpellsUp, SpellsDown}
use Rattle.hub_messages.specs.declared.down.Down.{Down}
use Rattle.hub_messages.specs.declared.up.Up.{Up}
use Rattle.schedule_replay.specs.declared.direct_line.message.Message.{Message as Bytes}
use Rattle.schedule_replay.specs.declared.direct_line.message.Message.TheVariants as bytes
use Rattle.schedule_replay.specs.Line.Standing.{SpellsMessage}
use Rattle.schedule_replay.specs.Line.State.{Message, upward, downward}

pub zip-length : {A B : Type 0} (R : A → B → Type 0) (xs : List A) (ys : List B) → AllZip R xs ys → length xs ≡ length ys
zip-length R [] [] all = refl
zip-length R [] (y ∷ ys) all = absurd all
zip-length R (x ∷ xs) [] all = absurd all
zip-length R (x ∷ xs) (y ∷ ys) all = let rest = zip-length R xs ys all.1 in omega (arith, rest)

pub zip-append : {A B : Type 0} (R : A → B → Type 0) (xs : List A) (ys : List B) (us : List A) (vs : List B) → AllZip R xs ys → AllZip R us vs → AllZip R (xs ++ us) (ys ++ vs)
zip-append R [] [] us vs first second = second
zip-append R [] (y ∷ ys) us vs first second = absurd first
zip-append R (x ∷ xs) [] us vs first second = absurd first
zip-append R (x ∷ xs) (y ∷ ys) us vs first second = (first.0, zip-append R xs ys us vs first.1 second)

-- the bytes at a place spell the message there
pub zip-left : {A B : Type 0} (R : A → B → Type 0) (xs : List A) (ys : List B) (place : ℕ) (x : A) → AllZip R xs ys → slice_get xs place ≡ Some x
    → (y : B) × (slice_get ys place ≡ Some y) × R x y
zip-left R [] [] place x all found = absurd (cc)
zip-left R [] (y ∷ ys) place x all found = absurd all
zip-left R (z ∷ xs) [] place x all found = absurd all
zip-left R (z ∷ xs) (y ∷ ys) zero x all found = let same : z ≡ x = cc in (y, refl, subst (λ w. R w y) same all.0)
zip-left R (z ∷ xs) (y ∷ ys) (suc place) x all found = zip-left R xs ys place x all.1 found

pub zip-up : (pieces : List (List ℕ)) (ups : List Up) → AllZip SpellsUp pieces ups → AllZip SpellsMessage (map bytes.Up pieces) (map upward ups)
zip-up [] [] all = tt
zip-up [] (up ∷ ups) all = absurd all
zip-up (piece ∷ pieces) [] all = absurd all
zip-up (piece ∷ pieces) (up ∷ ups) all = (all.0, zip-up pieces ups all.1)

pub zip-down : (pieces : List (List ℕ)) (replies : List Down) → AllZip SpellsDown pieces replies → AllZip SpellsMessage (map bytes.Down pieces) (map downward replies)
zip-down [] [] all = tt
zip-down [] (reply ∷ replies) all = absurd all
zip-down (piece ∷ pieces) [] all = absurd all
zip-down (piece ∷ pieces) (reply ∷ replies) all = (all.0, zip-down pieces replies all.1)
