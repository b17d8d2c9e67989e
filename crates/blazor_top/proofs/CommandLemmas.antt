-- How names are read one after another.
use Rattle.std.proofs.Common.{◌≡◌, ◌<◌, ℕ, List, [], ◌∷◌, ◌++◌, length, Bool, true, false, cond, Some, None, subst, arith}
use Rattle.std.specs.Prelude.{codes, nat_le, bytes_eq}
use Rattle.std.specs.declared.option.Option.{Option}
use Rattle.first_click.specs.Options.{◌>>=◌}
use Rattle.blazor_top.specs.declared.command.Command.TheVariants.{Ask, Replay}
use Rattle.blazor_top.specs.declared.command.Question.{Question}
use Rattle.blazor_top.specs.declared.command.Question.TheVariants.{Check, Render, Frames}
use Rattle.blazor_top.specs.Command.{asked_of, command_of, named_of, names_in, replay_of}

-- names behind those that were read
abbrev pub behind : List (List ℕ) → Option (List (List ℕ)) → Option (List (List ℕ))
behind front None = None
behind front (Some names) = Some (front ++ names)

-- a question is asked about one file at least
asked_names : (question : Question) (all : List (List ℕ)) (q : Question) (names : List (List ℕ)) → asked_of question all ≡ Some (Ask q names) → 0 < length names
asked_names question [] q names e = absurd (cc)
asked_names question (file ∷ files) q names e = by (nat_le (length files) 255) e
  where
    by : (b : Bool) → cond b (Some (Ask question (file ∷ files))) None ≡ Some (Ask q names) → 0 < length names
    by true e1 = let same : file ∷ files ≡ names = cc in subst (λ (ns : List (List ℕ)). 0 < length ns) same (omega arith)
    by false e1 = absurd (cc)

no_question : (all : List (List ℕ)) (q : Question) (names : List (List ℕ)) → replay_of all ≡ Some (Ask q names) → ⊥
no_question [] q names e = absurd (cc)
no_question (schedule ∷ []) q names e = absurd (cc)
no_question (schedule ∷ root ∷ others) q names e = by (nat_le (length others) 255) e
  where
    by : (b : Bool) → cond b (Some (Replay schedule root others)) None ≡ Some (Ask q names) → ⊥
    by true e1 = absurd (cc)
    by false e1 = absurd (cc)

named_names : (word : List ℕ) (all : List (List ℕ)) (q : Question) (names : List (List ℕ)) → named_of word all ≡ Some (Ask q names) → 0 < length names
named_names word all q names e = by (bytes_eq word (codes "check")) (bytes_eq word (codes "render")) (bytes_eq word (codes "frames")) (bytes_eq word (codes "replay")) e
  where
    by : (a b c d : Bool) → cond a (asked_of Check all) (cond b (asked_of Render all) (cond c (asked_of Frames all) (cond d (replay_of all) None))) ≡ Some (Ask q names) → 0 < length names
    by true b c d e1 = asked_names Check all q names e1
    by false true c d e1 = asked_names Render all q names e1
    by false false true d e1 = asked_names Frames all q names e1
    by false false false true e1 = absurd (no_question all q names e1)
    by false false false false e1 = absurd (cc)

pub command_names : (words : List (List ℕ)) (q : Question) (names : List (List ℕ)) → command_of words ≡ Some (Ask q names) → 0 < length names
command_names [] q names e = absurd (cc)
command_names (word ∷ words) q names e = by (names_in words) e
  where
    by : (found : Option (List (List ℕ))) → (found >>= named_of word) ≡ Some (Ask q names) → 0 < length names
    by None e1 = absurd (cc)
    by (Some all) e1 = named_names word all q names e1
