use Rattle.std.proofs.Common.{◌≡◌, take}
use Rattle.razor_parts.proofs.bound.text_of.Given as goal

-- the characters so far
abbrev pub invariant-loop-character : goal.invariant-loop-character
invariant-loop-character l = l.text ≡ take l.character-index l.characters
