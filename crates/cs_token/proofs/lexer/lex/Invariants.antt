use Rattle.std.proofs.Common.{◌+◌, ◌≤◌, length, reverse}
use Rattle.cs_token.proofs.LexLemmas.{Reached}
use Rattle.cs_token.proofs.lexer.lex.Given as goal

abbrev pub invariant-loop-rest : goal.invariant-loop-rest
invariant-loop-rest l = record {
  within : length l.rest ≤ length l.text;
  bound : l.place.line + l.place.column + length l.rest ≤ length l.text + 2;
  column : 1 ≤ l.place.column;
  reached : Reached l.text l.tokens.items (reverse l.opened.items) l.place l.rest;
}

abbrev pub decreases-loop-rest : goal.decreases-loop-rest
decreases-loop-rest l = length l.rest
