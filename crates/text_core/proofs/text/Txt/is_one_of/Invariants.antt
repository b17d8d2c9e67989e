use Rattle.std.proofs.Common.{◌≡◌, List, ℕ, drop}
use Rattle.std.specs.Borrow.{Bor}
use Rattle.std.specs.List.{list_any}
use Rattle.std.specs.Str.{chars, bytes_eq}
use Rattle.text_core.proofs.text.Txt.is_one_of.Given as goal

-- none of the words so far is the text
abbrev pub invariant-loop-word : goal.invariant-loop-word
invariant-loop-word l =
    list_any (λ (w : Bor (List ℕ)). bytes_eq l.self (chars w.now)) (drop l.word-index l.words) ≡ list_any (λ (w : Bor (List ℕ)). bytes_eq l.self (chars w.now)) l.words
