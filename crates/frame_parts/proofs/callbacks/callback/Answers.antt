use Rattle.std.proofs.Common.{◌≡◌}
use Rattle.std.specs.Option.{option_copied}
use Rattle.cs_ast.specs.declared.expression.Body.TheOpen.{ExprKind-F}
use Rattle.cs_ast.specs.declared.expression.Body.TheViews.{out-ExprKind}
use Rattle.frame_parts.specs.Views.{home_in, numbered}
use Rattle.frame_parts.proofs.CallbackLaws.{callback_name}
use Rattle.frame_parts.proofs.callbacks.callback.Goals as goal

pub returns-in-Name : goal.returns-in-Name
returns-in-Name c =
    let is : out-ExprKind c.args.a.now.kind ≡ ExprKind-F.Name c.in-Name.name.now = rw c.in-Name.is at c.form_of.ensures in
    rw (callback_name (home_in c.args.site.now) c.args.scope.now c.args.number c.args.a.now (option_copied c.args.argument) (numbered c.args.making.now) c.in-Name.name.now is) c.named.ensures
