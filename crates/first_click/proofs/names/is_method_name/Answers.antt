use Rattle.std.proofs.Common.{◌≡◌, true, refl, ap, sym, ◌∙◌}
use Rattle.std.specs.Prelude.{not}
use Rattle.first_click.specs.Names.{is_field_name, lifecycle_names}
use Rattle.first_click.proofs.names.is_method_name.Goals as goal

pub returns-then-is_field_name : goal.returns-then-is_field_name
unfolding lifecycle_names
returns-then-is_field_name c =
    let plain : is_field_name c.args.name.now ≡ true = sym c.is_field_name.ensures ∙ c.if-is_field_name.true in
    rw plain (ap not (c.is_one_of.ensures.ascii refl))
