use Rattle.std.proofs.lemmas.Result.{on_ok_weaker}
use Rattle.cs_print.proofs.WrittenLaws.{some_arguments}
use Rattle.cs_print.proofs.members.push_some_arguments.Goals as goal

pub returns-in_ok-push_argument-in-len1-up : goal.returns-in_ok-push_argument-in-len1-up
returns-in_ok-push_argument-in-len1-up c =
    on_ok_weaker c.push_more_arguments.result
    (λ more. some_arguments c.args.out.now c.push_argument.new.out c.push_more_arguments.new.out c.first-item.result c.args.arguments.now c.in-len1-up.len_at_least c.first-item.is c.in_ok-push_argument-in-len1-up.ensures more)
    c.push_more_arguments.ensures
