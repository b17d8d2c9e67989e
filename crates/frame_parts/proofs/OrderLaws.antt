-- What parts of a template come to, one after another.
use Rattle.std.proofs.Common.{◌≡◌, List, [], ◌∷◌, ◌++◌, refl}
use Rattle.cs_ast.specs.declared.scope.Scope.{Scope}
use Rattle.drawing_meaning.specs.Acts.{Act}
use Rattle.razor_rules.specs.Scopes.{Home}
use Rattle.page_meaning.specs.Parts as page
use Rattle.page_meaning.specs.Parts.{Part}
use Rattle.page_meaning.specs.Resolved as resolved
use Rattle.page_meaning.specs.Resolved.{◌>>=◌ as ◌>>~◌}
use Rattle.frame_parts.specs.Order as order
use Rattle.frame_parts.specs.Steps as steps
use Rattle.frame_parts.specs.Steps.{Numbered, step, ◌>>=◌}
use Rattle.frame_parts.proofs.StepLaws.{step_alone, step_judged, then_by, then_made}

pub in_order_law : (home : Home) (parts : List Part) (s : Scope) (before : Numbered) → step (page.in_order parts home s) before ≡ order.in_order home parts s before
in_order_law home [] s before = step_alone [] before
in_order_law home (one ∷ others) s before =
    then_by (one.makes home s) (λ acts. resolved.judged (one.behind s) >>~ (λ inner. page.in_order others home inner >>~ (λ more. resolved.alone (acts ++ more))))
    (step (one.makes home s)) (λ acts. steps.judged (one.behind s) >>= (λ inner. order.in_order home others inner >>= (λ more. steps.alone (acts ++ more))))
    (λ now. refl)
    (λ acts now. then_by (resolved.judged (one.behind s)) (λ inner. page.in_order others home inner >>~ (λ more. resolved.alone (acts ++ more)))
    (steps.judged (one.behind s)) (λ inner. order.in_order home others inner >>= (λ more. steps.alone (acts ++ more)))
    (step_judged (one.behind s))
    (λ inner later. then_made (page.in_order others home inner) (order.in_order home others inner) (λ more. acts ++ more) (in_order_law home others inner) later)
    now)
    before
