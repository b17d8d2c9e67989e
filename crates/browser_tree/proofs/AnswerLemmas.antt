-- What follows from a step's answer for all the steps.
use Rattle.std.proofs.Common.{◌≡◌, ◌∙◌, refl, sym, ap, subst, Result, Ok, Err}
use Rattle.page_core.specs.declared.faults.ApplyFault.{ApplyFault}
use Rattle.page_core.specs.declared.faults.ApplyFault.TheVariants.{NoComponent, NoSibling, NotElement, NotText, NoAttribute, BadPermutation, Unbalanced, Oom}
use Rattle.edit_meaning.specs.Edits.{and_then}
use Rattle.browser_tree.specs.Answers.{Fails}

-- what fails first fails in all
pub fails_first : {X Y : Type 0} (fault : ApplyFault) (first : Result X ApplyFault) (next : X → Result Y ApplyFault) → Fails fault first → Fails fault (and_then first next)
fails_first NoComponent first next is = ap (λ it. and_then it next) is
fails_first NoSibling first next is = ap (λ it. and_then it next) is
fails_first NotElement first next is = ap (λ it. and_then it next) is
fails_first NotText first next is = ap (λ it. and_then it next) is
fails_first NoAttribute first next is = ap (λ it. and_then it next) is
fails_first BadPermutation first next is = ap (λ it. and_then it next) is
fails_first Unbalanced first next is = ap (λ it. and_then it next) is
fails_first Oom first next is = tt

-- a step that fails, as an equation says of all the steps
pub fails_all : {X Y : Type 0} (fault : ApplyFault) (first : Result X ApplyFault) (next : X → Result Y ApplyFault) (all : Result Y ApplyFault) → and_then first next ≡ all → Fails fault first → Fails fault all
fails_all fault first next all same is = subst (Fails fault) same (fails_first fault first next is)

-- a step that is done: the others are left
pub goes_all : {X Y : Type 0} (value : X) (first : Result X ApplyFault) (next : X → Result Y ApplyFault) (all : Result Y ApplyFault) → and_then first next ≡ all → first ≡ Ok value → next value ≡ all
goes_all value first next all same is = sym (ap (λ it. and_then it next) is) ∙ same
