use Rattle.std.proofs.Common.{◌≡◌, ◌+◌, ◌∙◌, List, [], ◌∷◌, ◌++◌, ap, sym, subst, take}
use Rattle.std.specs.List.{AllZip}
use Rattle.std.proofs.lemmas.List.{take_more}
use Rattle.cs_ast.specs.declared.member.Member.{Member}
use Rattle.cs_ast.specs.declared.scope.Effect.{Effect}
use Rattle.cs_effects.specs.Effects.{Told}
use Rattle.razor_ast.specs.declared.component.Component.{Component}
use Rattle.razor_check.proofs.FileLaws.{zip_more}
use Rattle.razor_check.proofs.programs.all_effects.Goals as goal

pub loop-component-preserved : goal.loop-component-preserved
loop-component-preserved c =
    let one = c.component-item.result in
    let told : Told one.members one.members c.from_vec.result =
    subst (λ (effects : List Effect). Told one.members one.members effects) (sym c.from_vec.ensures)
    (subst (λ (members : List Member). Told members members c.in_ok-told.told.items) c.as_slice.ensures c.in_ok-told.ensures) in
    subst (λ (all : List (List Effect)). AllZip (λ component effects. Told component.members component.members effects) (take (c.loop-component.component-index + 1) c.args.components.now) all) (sym c.in_ok-push.ensures.ok)
    (subst (λ (components : List Component). AllZip (λ component effects. Told component.members component.members effects) components (c.loop-component.all ++ c.from_vec.result ∷ []))
    (sym (take_more c.args.components.now c.loop-component.component-index one c.loop-component-test.true ∙ ap (λ (x : Component). take c.loop-component.component-index c.args.components.now ++ x ∷ []) (sym c.component-item.is)))
    (zip_more (λ component effects. Told component.members component.members effects) (take c.loop-component.component-index c.args.components.now) c.loop-component.all one c.from_vec.result c.loop-component.invariant told))
