-- Statements up to a closing brace, outside all loops.
use Rattle.std.proofs.Common.{◌≡◌, ◌<◌, List, ◌∷◌, length, arith}
use Rattle.std.specs.Prelude.{Some}
use Rattle.cs_ast.specs.declared.expression.Stmt.{Stmt}
use Rattle.cs_token.specs.declared.token.Token.{Token}
use Rattle.cs_token.specs.declared.token.Sign.TheVariants as s
use Rattle.cs_grammar.specs.Tokens.{IsSign}
use Rattle.cs_grammar.specs.Statements.{Statements, no_jumps}
use Rattle.cs_parse.specs.StatementReading.{nowhere, statements_first}
use Rattle.cs_parse.proofs.StatementSound.{statements_sound}
use Rattle.cs_parse.proofs.StatementComplete.{statements_complete, statements_shorter}
use Rattle.cs_parse.proofs.StatementStarts.{close_ends}

pub outer_sound : (ts : List Token) (body : List Stmt) (rest : List Token) → statements_first nowhere ts ≡ Some (body, rest) → Statements no_jumps ts rest body
outer_sound ts body rest e = statements_sound nowhere ts body rest e

pub outer_complete : (c : Token) (ts rest : List Token) (body : List Stmt) → IsSign s.CloseBrace c → Statements no_jumps ts (c ∷ rest) body → statements_first nowhere ts ≡ Some (body, c ∷ rest)
outer_complete c ts rest body e h = statements_complete no_jumps ts (c ∷ rest) body (close_ends c rest e) h

pub outer_shorter : (c : Token) (ts rest : List Token) (body : List Stmt) → IsSign s.CloseBrace c → Statements no_jumps ts (c ∷ rest) body → length rest < length ts
outer_shorter c ts rest body e h = let less = statements_shorter no_jumps ts (c ∷ rest) body (close_ends c rest e) h in omega (arith, less)
