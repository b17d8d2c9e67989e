use Rattle.std.proofs.Common.{◌≡◌, ◌≤◌, ◌++◌, ℕ, List, length}
use Rattle.outside.specs.Sink.{Adds}
use Rattle.outside.proofs.writing.write_all.Given as goal

-- a front is written, and the rest is left
abbrev pub invariant-loop-rest : goal.invariant-loop-rest
invariant-loop-rest g l =
    (g.S.Sink.fault_count l.initial.out ≤ g.S.Sink.fault_count l.out)
    × ((front : List ℕ) × (front ++ l.rest ≡ l.bytes) × Adds (g.S.Sink.written l.initial.out) (g.S.Sink.written l.out) front)

abbrev pub decreases-loop-rest : goal.decreases-loop-rest
decreases-loop-rest g l = length l.rest
