-- How whole lists of tokens are read as statements.
use Rattle.std.specs.Prelude.{List, Option}
use Rattle.cs_ast.specs.declared.expression.Stmt.{Stmt}
use Rattle.cs_token.specs.declared.token.Token.{Token}
use Rattle.cs_parse.specs.Reading.{◌>>=◌}
use Rattle.cs_parse.specs.StatementReading.{nowhere, statements_first}
use Rattle.cs_parse.specs.WholeReading.{if_all}

-- the tokens as statements, where nothing is left
abbrev pub whole_statements : List Token → Option (List Stmt)
whole_statements ts = statements_first nowhere ts >>= λ x. if_all x.0 x.1
