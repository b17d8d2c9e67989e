use Rattle.std.proofs.Common.{rules, ◌≡◌, Some, None}
use Rattle.cs_grammar.specs.Nesting.{too_deep}
use Rattle.cs_parse.specs.LambdaReading.{whole_spelled}
use Rattle.cs_parse.proofs.SpelledLemmas.{spelled_sound, none_spelled}
use Rattle.cs_parse.proofs.whole_expressions.expression.Goals as goal

pub returns-in-Ok-clause-tree : goal.returns-in-Ok-clause-tree
returns-in-Ok-clause-tree c =
    let ts = c.args.tokens.now in
    let e : whole_spelled ts ≡ Some c.in-Ok.a = search rules in
    let d : too_deep ts ≡ None = search rules in
    (d, spelled_sound ts c.in-Ok.a e)

pub returns-in-Err-Syntax-clause-tree : goal.returns-in-Err-Syntax-clause-tree
returns-in-Err-Syntax-clause-tree c =
    let ts = c.args.tokens.now in
    let e : whole_spelled ts ≡ None = search rules in
    let d : too_deep ts ≡ None = search rules in
    (d, none_spelled ts e)
