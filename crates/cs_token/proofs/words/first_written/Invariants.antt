use Rattle.std.proofs.Common.{◌≡◌, drop}
use Rattle.std.specs.List.{find}
use Rattle.std.specs.Str.{bytes_eq}
use Rattle.cs_token.specs.Words.{spelling}
use Rattle.cs_token.proofs.words.first_written.Given as goal

-- none of the words so far is the text
abbrev pub invariant-loop-word : goal.invariant-loop-word
invariant-loop-word l =
    find (λ word. bytes_eq l.text (spelling word)) (drop l.word-index l.words) ≡ find (λ word. bytes_eq l.text (spelling word)) l.words
