-- What the crate's own values stand for in the definitions.
use Rattle.std.specs.Prelude.{◌≡◌, ℕ, Bool, false, codes, bytes_eq, List, map, Option}
use Rattle.cs_ast.specs.declared.cs_type.CsType.{CsType}
use Rattle.drawing_meaning.specs.Acts.{Act}
use Rattle.frame_program.specs.Operations.{act_of}
use Rattle.frame_program.specs.declared.operation.Operation.{Operation}
use Rattle.razor_rules.specs.Scopes as scopes
use Rattle.razor_rules.specs.Scopes.{records_of}
use Rattle.razor_parts.specs.Views.{home_of}
use Rattle.page_meaning.specs.Tags as tags
use Rattle.page_meaning.specs.Tags.{provider_parameter, parameter_from}
use Rattle.frame_parts.specs.Methods.{Declared}
use Rattle.frame_parts.specs.Steps.{Numbered}
use Rattle.frame_parts.specs.declared.bodies.Method.{Method}
use Rattle.frame_parts.specs.declared.making.Making.{Making}
use Rattle.frame_parts.specs.declared.site.Site.{Site}
use Rattle.frame_parts.specs.declared.targets.Found.{Found}
use Rattle.frame_parts.specs.declared.targets.Takes.{Takes}
use Rattle.frame_parts.specs.declared.targets.Takes.TheVariants as takes
use Rattle.frame_parts.specs.declared.targets.Target.{Target}

-- what the fragments of a program do by their numbers
abbrev pub acts_of : List (ℕ × List Operation) → List (ℕ × List Act)
acts_of fragments = map (λ one. (one.0, map act_of one.1)) fragments

-- what has a number so far
abbrev pub numbered : Making → Numbered
numbered making = record { bodies = making.bodies; templates = acts_of making.fragments }

-- where the code of a component stands
abbrev pub home_in : Site → scopes.Home
home_in site = home_of site.home

-- the records there are those of all components
abbrev pub IsWhole : Site → Type 0
IsWhole site = site.home.records.now ≡ records_of site.home.components.now

-- a method
abbrev pub method_view : Method → Declared
method_view it = record { result = it.result.now; arguments = it.arguments.now; body = it.body.now }

-- a place among parameters, and the type there
abbrev pub found_view : Found → ℕ × CsType
found_view found = (found.place, found.cs_type)

abbrev pub takes_view : Takes → List ℕ → Option (ℕ × CsType)
takes_view (takes.Provider cs_type) name = provider_parameter cs_type name
takes_view (takes.Component one) name = parameter_from one.now.members name 0

abbrev pub reads_view : Takes → List ℕ → Bool
reads_view (takes.Provider cs_type) name = bytes_eq name (codes "Value")
reads_view (takes.Component one) name = false

-- what a tag is the tag of
abbrev pub target_view : Target → tags.Target
target_view target = record { made = target.made; parameter = takes_view target.takes; reads = reads_view target.takes }
