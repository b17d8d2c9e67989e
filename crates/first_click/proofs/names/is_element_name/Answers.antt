use Rattle.std.proofs.Common.{◌≡◌, false, refl, ap, sym, ◌∙◌}
use Rattle.std.specs.Prelude.{not}
use Rattle.page_core.specs.Void.{is_void}
use Rattle.first_click.specs.Names.{kept_names}
use Rattle.first_click.proofs.names.is_element_name.Goals as goal

pub returns-then-not-is_void : goal.returns-then-not-is_void
unfolding kept_names
returns-then-not-is_void c =
    let closed : is_void c.args.name.now ≡ false = sym c.is_void.ensures ∙ c.if-not-is_void.true in
    rw closed (ap not (c.is_one_of.ensures.ascii refl))
