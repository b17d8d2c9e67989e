use Rattle.std.proofs.Common.{◌≡◌, rules, sym, subst}
use Rattle.cs_effects.specs.declared.deed.Deed.TheVariants.{Changes}
use Rattle.cs_effects.specs.Effects.{fields, Told}
use Rattle.cs_effects.specs.Spreading.{Found, listed}
use Rattle.cs_effects.proofs.Spreads.{tells}
use Rattle.cs_effects.proofs.methods.effects.Goals as goal

pub returns : goal.returns
returns c =
    let found : Found c.args.members.now (Changes (fields c.args.members.now)) c.in_ok-changes.changes =
    subst (λ names. Found c.args.members.now (Changes names) c.in_ok-changes.changes) c.in_ok-fields.ensures c.in_ok-changes.ensures in
    let is : c.in_ok-told.told.items ≡ listed c.args.members.now c.in_ok-changes.changes c.in_ok-invokes.invokes = search rules in
    subst (λ effects. Told c.args.members.now c.args.members.now effects) (sym is)
    (tells c.args.members.now c.in_ok-changes.changes c.in_ok-invokes.invokes found c.in_ok-invokes.ensures)
