-- Consecutive numbers in a line.
use Rattle.std.proofs.Common.{◌≡◌, ◌<◌, ℕ, suc, ◌+◌, ◌-◌, List, [], ◌∷◌, ◌++◌, ap, arith, ◌∙◌, sym, append_assoc, append-nil}
use Rattle.std.specs.Prelude.{codes}
use Rattle.std.specs.List.{flat_map}
use Rattle.std.specs.Fmt.{decimal}
use Rattle.schedule_replay.specs.Line.State.{numbers_after, numbers_between}
use Rattle.schedule_replay.specs.Line.Lines.{sent_text}

-- numbers, each behind a space
abbrev pub spaced : List ℕ → List ℕ
spaced numbers = flat_map (λ number. codes " " ++ decimal number) numbers

pub numbers-step : (first last : ℕ) → first < last → numbers_after first (last - first) ≡ (first + 1) ∷ numbers_after (first + 1) (last - (first + 1))
numbers-step first last before =
    let count : last - first ≡ suc (last - (first + 1)) = omega arith in
    ap (numbers_after first) count

-- one more number
pub numbers-written : (before line start : List ℕ) (number last : ℕ) → number < last
    → line ++ spaced (numbers_after number (last - number)) ≡ start → before ≡ (line ++ codes " ") ++ decimal (number + 1)
    → before ++ spaced (numbers_after (number + 1) (last - (number + 1))) ≡ start
numbers-written before line start number last within invariant written =
    let rest : List ℕ = spaced (numbers_after (number + 1) (last - (number + 1))) in
    ap (λ (x : List ℕ). x ++ rest) written
    ∙ append_assoc (line ++ codes " ") (decimal (number + 1)) rest
    ∙ append_assoc line (codes " ") (decimal (number + 1) ++ rest)
    ∙ ap (λ (x : List ℕ). line ++ x) (sym (append_assoc (codes " ") (decimal (number + 1)) rest))
    ∙ ap (λ (x : List ℕ). line ++ spaced x) (sym (numbers-step number last within))
    ∙ invariant
