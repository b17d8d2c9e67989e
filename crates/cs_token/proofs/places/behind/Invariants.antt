use Rattle.std.proofs.Common.{◌≡◌, ◌+◌, ◌≤◌, drop}
use Rattle.cs_token.specs.Places.{behind}
use Rattle.cs_token.proofs.places.behind.Given as goal

-- the place behind the rest from here is the place behind the text
abbrev pub invariant-loop-character : goal.invariant-loop-character
invariant-loop-character l = record {
  bound : l.place.line + l.place.column ≤ l.fn.place.line + l.fn.place.column + l.character-index;
  column : 1 ≤ l.place.column;
  same : behind l.place (drop l.character-index l.text) ≡ behind l.fn.place l.text;
}
