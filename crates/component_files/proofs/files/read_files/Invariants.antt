use Rattle.std.proofs.Common.{take}
use Rattle.component_files.specs.Files.{AllSpell}
use Rattle.component_files.proofs.files.read_files.Given as goal

-- the files so far spell the components
abbrev pub invariant-loop-file : goal.invariant-loop-file
invariant-loop-file l = AllSpell (take l.file l.files) l.components
