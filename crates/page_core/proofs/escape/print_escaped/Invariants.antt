use Rattle.std.proofs.Common.{◌≡◌, ◌++◌}
use Rattle.page_core.specs.Escapes.{escaped}
use Rattle.page_core.proofs.escape.print_escaped.Given as goal

-- the characters so far are printed
abbrev pub invariant-loop-character : goal.invariant-loop-character
invariant-loop-character l = l.out ≡ l.initial.out ++ escaped l.context l.yielded
