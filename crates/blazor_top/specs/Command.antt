-- What the words of the command line ask for.
use Rattle.std.specs.Prelude.{ℕ, Bool, false, nat_le, List, [], ◌∷◌, length, Option, Some, None, codes, if◌then◌else◌, ◌==◌}
use Rattle.std.specs.Str.{bytes_eq}
use Rattle.first_click.specs.Options.{◌>>=◌}
use Rattle.blazor_top.specs.declared.command.Command.{Command}
use Rattle.blazor_top.specs.declared.command.Command.TheVariants.{Ask, Replay}
use Rattle.blazor_top.specs.declared.command.Question.{Question}
use Rattle.blazor_top.specs.declared.command.Question.TheVariants.{Check, Render, Frames}

-- the first character is `-`
abbrev pub begins_with_dash : List ℕ → Bool
begins_with_dash [] = false
begins_with_dash (c ∷ word) = c == 45

-- the names among words that hold no options: none begins with a dash, unless `--` stands before it
abbrev pub names_in : List (List ℕ) → Option (List (List ℕ))
names_in [] = Some []
names_in (word ∷ words) =
    if bytes_eq word (codes "--") then Some words
    else if begins_with_dash word then None
    else names_in words >>= λ names. Some (word ∷ names)

-- a program has 1 to 256 files
abbrev pub asked_of : Question → List (List ℕ) → Option Command
asked_of question [] = None
asked_of question (file ∷ files) = if nat_le (length files) 255 then Some (Ask question (file ∷ files)) else None

-- `replay` takes the name of a schedule, and then those of 1 to 256 files
abbrev pub replay_of : List (List ℕ) → Option Command
replay_of [] = None
replay_of (schedule ∷ []) = None
replay_of (schedule ∷ root ∷ others) = if nat_le (length others) 255 then Some (Replay schedule root others) else None

-- the command of a word and of the names behind it
abbrev pub named_of : List ℕ → List (List ℕ) → Option Command
named_of word names =
    if bytes_eq word (codes "check") then asked_of Check names
    else if bytes_eq word (codes "render") then asked_of Render names
    else if bytes_eq word (codes "frames") then asked_of Frames names
    else if bytes_eq word (codes "replay") then replay_of names
    else None

-- the command that the words ask for
abbrev pub command_of : List (List ℕ) → Option Command
command_of [] = None
command_of (word ∷ words) = names_in words >>= named_of word
