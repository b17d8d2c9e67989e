-- What a function of the checker answered agrees with what the rules say.
use Rattle.std.specs.Prelude.{◌≡◌, Result, Ok, Err}
use Rattle.cs_rules.specs.Judged.{Judged, fine, breaks}
use Rattle.cs_forms.specs.declared.fault.CheckFault.{CheckFault}
use Rattle.cs_forms.specs.declared.fault.CheckFault.TheVariants.{Broken, Oom}

-- what the answer is seen as is fine, or the answer is the first broken rule with its place; memory may run out anywhere
abbrev pub AgreesBy : {X A : Type 0} → (X → A) → Result X CheckFault → Judged A → Type 0
AgreesBy view (Ok x) judged = judged ≡ fine (view x)
AgreesBy view (Err (Broken rule place)) judged = judged ≡ breaks rule place
AgreesBy view (Err Oom) judged = Unit {0}

abbrev pub Agrees : {A : Type 0} → Result A CheckFault → Judged A → Type 0
Agrees = AgreesBy (λ x. x)
