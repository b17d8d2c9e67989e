use Rattle.std.proofs.Common.{◌++◌, ap, ◌∙◌}
use Rattle.cs_token.proofs.WordLemmas.{ascii_spelling}
use Rattle.cs_print.proofs.tokens.push_spelling.Goals as goal

pub returns : goal.returns
returns c = c.in_ok-push_str.ensures.ascii (rw c.spelling.ensures (ascii_spelling c.args.word)) ∙ ap (λ x. c.args.out.now ++ x) c.spelling.ensures
