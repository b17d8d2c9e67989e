use Rattle.std.proofs.Common.{◌≡◌, ◌≤◌, take}
use Rattle.std.specs.Prelude.{map}
use Rattle.schedule_replay.specs.Every.{Every}
use Rattle.blazor_top.specs.Reading.{IsThere, component_file}
use Rattle.blazor_top.proofs.reading.visit.Given as goal

-- the files so far are there
abbrev pub invariant-loop-name : goal.invariant-loop-name
invariant-loop-name g l =
    (g.F.Files.held l.files ≡ g.F.Files.held l.initial.files)
    × (g.F.Files.fault_count l.initial.files ≤ g.F.Files.fault_count l.files)
    × Every (IsThere (g.F.Files.held l.initial.files)) (map component_file (take l.name-index l.names))
