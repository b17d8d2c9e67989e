use Rattle.std.proofs.Common.{◌≡◌, ◌++◌, length}
use Rattle.razor_ast.specs.FileTexts.{with_feeds}
use Rattle.razor_reader.proofs.file_text.with_feeds.Given as goal

abbrev pub invariant-loop-rest : goal.invariant-loop-rest
invariant-loop-rest l = with_feeds l.characters ≡ l.text ++ with_feeds l.rest

abbrev pub decreases-loop-rest : goal.decreases-loop-rest
decreases-loop-rest l = length l.rest
