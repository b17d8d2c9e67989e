use Rattle.std.proofs.Common.{◌≡◌, ◌≤◌, take}
use Rattle.blazor_top.specs.Checking.{AreHeld}
use Rattle.blazor_top.proofs.reading.read_program.Given as goal

-- the files so far are there, each with what it holds
abbrev pub invariant-loop-name : goal.invariant-loop-name
invariant-loop-name g l =
    (g.F.Files.held l.files ≡ g.F.Files.held l.initial.files)
    × (g.F.Files.fault_count l.initial.files ≤ g.F.Files.fault_count l.files)
    × AreHeld (g.F.Files.held l.initial.files) (take l.name-index l.names) l.sources.items
