use Rattle.std.proofs.Common.{◌≡◌, length}
use Rattle.razor_ast.specs.FileTexts.{behind_slash}
use Rattle.razor_reader.proofs.file_text.behind_slash.Given as goal

abbrev pub invariant-loop-slash : goal.invariant-loop-slash
invariant-loop-slash l = behind_slash l.base ≡ behind_slash l.name

abbrev pub decreases-loop-slash : goal.decreases-loop-slash
decreases-loop-slash l = length l.base
