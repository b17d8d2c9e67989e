-- Replies and their bytes.
use Rattle.std.proofs.Common.{◌≡◌, ◌≤◌, ◌+◌, ℕ, zero, suc, List, [], ◌∷◌, ◌++◌, length, map, take, slice_get, Some, None, refl, ap, sym, ◌∙◌, subst, arith, append_assoc}
use Rattle.std.specs.List.{AllZip}
use Rattle.hub_messages.proofs.SizeLemmas.{down_short}
use Rattle.hub_messages.specs.Spelling.Messages.{down_bytes}
use Rattle.hub_messages.specs.Spelling.Spells.{SpellsDown}
use Rattle.hub_messages.specs.declared.down.Down.{Down}
use Rattle.hub_messages.specs.declared.down.Down.TheVariants as dn
use Rattle.schedule_replay.specs.declared.direct_line.message.Message.{Message as Bytes}
use Rattle.schedule_replay.specs.declared.direct_line.message.Message.TheVariants as bytes
use Rattle.schedule_replay.specs.Every.{Every}
use Rattle.schedule_replay.specs.Line.InStep.{IsShortReply}
use Rattle.schedule_replay.specs.Line.Standing.{SpelledDown}
use Rattle.schedule_replay.proofs.Line.ZipLemmas.{zip-append}

pub reply-fits : (reply : Down) → IsShortReply reply → length (down_bytes reply) ≤ 33554432
reply-fits (dn.Batch number content) short = down_short (dn.Batch number content) short
reply-fits (dn.Started number secret) short = down_short (dn.Started number secret) (omega arith)
reply-fits (dn.Connected sent last) short = down_short (dn.Connected sent last) (omega arith)
reply-fits (dn.Outcome event outcome) short = down_short (dn.Outcome event outcome) (omega arith)
reply-fits (dn.Refused refusal) short = down_short (dn.Refused refusal) (omega arith)
reply-fits (dn.Ended fault) short = down_short (dn.Ended fault) (omega arith)

map-push : {A B : Type 0} (f : A → B) (xs : List A) (x : A) → map f (xs ++ x ∷ []) ≡ map f xs ++ f x ∷ []
map-push f [] x = refl
map-push f (y ∷ xs) x = ap (λ (t : List _). f y ∷ t) (map-push f xs x)

-- one more reply
pub spelled-more : (before middle : List Bytes) (replies : List Down) (reply : Down) (content : List ℕ) → SpelledDown before replies middle → SpellsDown content reply
    → SpelledDown before (replies ++ reply ∷ []) (middle ++ bytes.Down content ∷ [])
spelled-more before middle replies reply content so_far spells =
    let pieces : List (List ℕ) = so_far.0 in (
      pieces ++ content ∷ [],
      ap (λ (ms : List Bytes). ms ++ bytes.Down content ∷ []) so_far.1
          ∙ append_assoc before (map bytes.Down pieces) (bytes.Down content ∷ [])
          ∙ ap (λ (ms : List Bytes). before ++ ms) (sym (map-push bytes.Down pieces content)),
      zip-append SpellsDown pieces replies (content ∷ []) (reply ∷ []) so_far.2 (spells, tt),
    )

pub take-push : {A : Type 0} (xs : List A) (place : ℕ) (x : A) → slice_get xs place ≡ Some x → take (place + 1) xs ≡ take place xs ++ x ∷ []
take-push [] place x found = absurd (cc)
take-push (y ∷ xs) zero x found = let same : y ≡ x = cc in ap (λ (z : _). z ∷ []) same
take-push (y ∷ xs) (suc place) x found =
    let at : suc place + 1 ≡ suc (place + 1) = omega arith in
    ap (λ (n : ℕ). take n (y ∷ xs)) at ∙ ap (λ (t : List _). y ∷ t) (take-push xs place x found)

pub take-more : (before middle after : List Bytes) (replies : List Down) (place : ℕ) (reply : Down) (content : List ℕ) → slice_get replies place ≡ Some reply
    → SpelledDown before (take place replies) middle → SpellsDown content reply → after ≡ middle ++ bytes.Down content ∷ [] → SpelledDown before (take (place + 1) replies) after
take-more before middle after replies place reply content there so_far spells pushed =
    subst (λ (ms : List Bytes). SpelledDown before (take (place + 1) replies) ms) (sym pushed)
    (subst (λ (rs : List Down). SpelledDown before rs (middle ++ bytes.Down content ∷ [])) (sym (take-push replies place reply there))
    (spelled-more before middle (take place replies) reply content so_far spells))
