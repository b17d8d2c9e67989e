use Rattle.std.proofs.Common.{◌≡◌, map}
use Rattle.razor_ast.specs.TextValues.{token_from}
use Rattle.razor_reader.proofs.attribute.texts.tokens_from.Given as goal

abbrev pub invariant-loop-token : goal.invariant-loop-token
invariant-loop-token l = l.moved.items ≡ map (token_from l.begin) l.yielded
