-- How the program ends.
use Rattle.std.specs.Prelude.{ℕ}
use Rattle.blazor_top.specs.declared.status.Status.{Status}
use Rattle.blazor_top.specs.declared.status.Status.TheVariants.{Done, Refused, Usage, Unscheduled, Missing, Unread, Unwritten, TooLarge, OutOfMemory}

-- the number with which the process ends
abbrev pub code_of : Status → ℕ
code_of Done = 0
code_of Refused = 1
code_of Usage = 2
code_of Unscheduled = 3
code_of Missing = 4
code_of Unread = 5
code_of Unwritten = 6
code_of TooLarge = 8
code_of OutOfMemory = 9
