use Rattle.std.proofs.Common.{◌≡◌, length}
use Rattle.first_click.specs.FileName.{base_name}
use Rattle.first_click.proofs.file_name.base_name.Given as goal

abbrev pub invariant-loop-slash : goal.invariant-loop-slash
invariant-loop-slash l = base_name l.base ≡ base_name l.path

abbrev pub decreases-loop-slash : goal.decreases-loop-slash
decreases-loop-slash l = length l.base
