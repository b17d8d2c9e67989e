use Rattle.std.proofs.Common.{◌≡◌}
use Rattle.razor_token.specs.ContentFronts.{is_word}
use Rattle.razor_token.specs.Cutting.{last_of}
use Rattle.razor_print.proofs.heads.ends_in_word.Given as goal

abbrev pub invariant-loop-character : goal.invariant-loop-character
invariant-loop-character l = l.word ≡ is_word (last_of l.yielded)
