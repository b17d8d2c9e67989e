-- The bodies and the templates of a program by their numbers.
use Rattle.std.specs.Prelude.{ℕ, List, [], ◌∷◌, map, Option, Some, None}
use Rattle.std.specs.BTreeMap.{insert_entry}
use Rattle.std.specs.List.{filter_map}
use Rattle.std.specs.Ordering.{nat_cmp}
use Rattle.cs_ast.specs.declared.code.Code.{Code}
use Rattle.cs_ast.specs.declared.cs_type.CsType.{CsType}
use Rattle.cs_ast.specs.declared.scope.Named.{Named}
use Rattle.cs_typing.specs.Types.{Signature}
use Rattle.drawing_meaning.specs.Acts.{Act}
use Rattle.razor_rules.specs.Scopes.{Home}

-- what has a number: a body, with the types of the locals that it begins with and of its result; or a template, with those of its locals and what it does
pub data Placed : Type 0 where
  body : Signature → Code → Placed
  template : Signature → List Act → Placed

abbrev pub signature : Home → List CsType → CsType → Signature
signature home locals result = record { component = home.position; locals = locals; result = result }

-- the types of these locals
abbrev pub types_of : List Named → List CsType
types_of locals = map (λ one. one.cs_type) locals

abbrev pub body_in : Placed → Option Code
body_in (body s code) = Some code
body_in (template s acts) = None

abbrev pub template_in : Placed → Option (List Act)
template_in (body s code) = None
template_in (template s acts) = Some acts

abbrev pub with_number : {A : Type 0} → ℕ → Option A → Option (ℕ × A)
with_number number None = None
with_number number (Some x) = Some (number, x)

-- the bodies among these
abbrev pub bodies_in : List (ℕ × Placed) → List (ℕ × Code)
bodies_in all = filter_map (λ one. with_number one.0 (body_in one.1)) all

-- the templates among these
abbrev pub templates_in : List (ℕ × Placed) → List (ℕ × List Act)
templates_in all = filter_map (λ one. with_number one.0 (template_in one.1)) all

-- entries under their numbers, in rising order, among others: of several of one number the last
abbrev pub with_entries : {A : Type 0} → List (ℕ × A) → List (ℕ × A) → List (ℕ × A)
with_entries entries [] = entries
with_entries entries (one ∷ others) = with_entries (insert_entry nat_cmp entries one.0 one.1) others
