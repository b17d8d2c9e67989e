use Rattle.std.proofs.Common.{rules, ◌≡◌}
use Rattle.frame_parts.specs.Views.{home_in}
use Rattle.frame_compiler.proofs.ComponentLaws.{assembled_law}
use Rattle.frame_compiler.proofs.programs.assembled.Goals as goal

pub returns : goal.returns
returns c =
    let name : c.in_ok-clone.field-0 ≡ c.args.component.now.name = search rules in
    let fields : c.fields.inside.items.items ≡ c.args.fields = search rules in
    let parameters : c.parameters.inside.items.items ≡ c.args.parameters = search rules in
    assembled_law (home_in c.args.site.now) c.args.component.now c.args.operations c.args.fields c.args.parameters c.in_ok-clone.field-0 c.fields.inside.items.items c.parameters.inside.items.items
    c.in_ok-method_number.field-0 c.in_ok-method_number-2.field-0 c.in_ok-method_number-3.field-0 c.requires name fields parameters c.in_ok-method_number.ensures c.in_ok-method_number-2.ensures c.in_ok-method_number-3.ensures
