-- What a component comes to: its fields and parameters, the numbers of the bodies that its lifecycle runs, and what its template does.
use Rattle.std.specs.Prelude.{ℕ, ◌+◌, Bool, true, false, codes, is_some, List, [], ◌∷◌, ◌++◌, if◌then◌else◌, Option, Some, None}
use Rattle.cs_ast.specs.declared.code.Code.{Code}
use Rattle.cs_ast.specs.declared.cs_type.CsType.{CsType}
use Rattle.cs_ast.specs.declared.expression.Expr.{Expr}
use Rattle.cs_ast.specs.declared.member.Member.{Member}
use Rattle.cs_ast.specs.declared.member.MemberKind.{MemberKind}
use Rattle.cs_ast.specs.declared.member.MemberKind.TheVariants.{Field, Parameter}
use Rattle.cs_rules.specs.Judged.{Judged, fine, if_there}
use Rattle.cs_rules.specs.Judged.{◌>>=◌ as ◌>>>=◌}
use Rattle.cs_rules.specs.Written.{type_of}
use Rattle.drawing_meaning.specs.Acts.{Act}
use Rattle.frame_program.specs.declared.compiled.CompiledField.{CompiledField}
use Rattle.frame_program.specs.declared.compiled.Wanted.{Wanted}
use Rattle.razor_ast.specs.declared.component.Component.{Component}
use Rattle.razor_rules.specs.Scopes.{Home, initial_scope}
use Rattle.page_meaning.specs.Items.{component_acts}
use Rattle.page_meaning.specs.Resolved.{Resolves, alone, judged, ◌>>=◌}
use Rattle.frame_parts.specs.Methods.{method_by}
use Rattle.frame_parts.specs.Steps.{code_in}

-- the code of an initial value, if there is one
abbrev pub initial_code : Home → Option Expr → Judged (Option Code)
initial_code home initial = if_there (code_in (initial_scope home)) initial

-- what a cascading parameter takes: the value of its type, of a name if it gives one
abbrev pub wanted : Bool → Option (List ℕ) → CsType → Option Wanted
wanted false source cs_type = None
wanted true source cs_type = Some (record { cs_type = cs_type; name = source })

abbrev pub field : List ℕ → CsType → Option Wanted → Option Code → CompiledField
field name cs_type cascading initial = record { name = name; cs_type = cs_type; initial = initial; cascading = cascading }

-- the own field that a member is, if it is one
unfoldable pub field_in : Home → MemberKind → Judged (List CompiledField)
field_in home (Field cs_type name initial) = initial_code home initial >>>= (λ code. fine (field name.name (type_of cs_type) None code ∷ []))
field_in home _ = fine []

-- the parameter that it is
unfoldable pub parameter_in : Home → MemberKind → Judged (List CompiledField)
parameter_in home (Parameter cascading source cs_type name initial) =
    initial_code home initial >>>= (λ code. fine (field name.name (type_of cs_type) (wanted cascading source (type_of cs_type)) code ∷ []))
parameter_in home _ = fine []

-- what members are, one after another
abbrev pub declared : (MemberKind → Judged (List CompiledField)) → List Member → Judged (List CompiledField)
declared one [] = fine []
declared one (first ∷ others) = one first.kind >>>= (λ here. declared one others >>>= (λ more. fine (here ++ more)))

-- the number of the body of the first method of a name, if there is one, where these are the members from a number on
abbrev pub method_number : ℕ → List ℕ → List Member → Option ℕ
method_number number name [] = None
method_number number name (one ∷ others) = if is_some (method_by name one.kind) then Some number else method_number (number + 1) name others

pub record Meaning : Type 0 where
  pub name : List ℕ
  pub disposes : Bool
  pub fields : List CompiledField
  pub parameters : List CompiledField
  pub initialized : Option ℕ
  pub parameters_set : Option ℕ
  pub dispose : Option ℕ
  pub acts : List Act

-- of a component with such fields and parameters and such a template
abbrev pub meaning : Home → Component → List CompiledField → List CompiledField → List Act → Meaning
meaning home component fields parameters acts =
    record {
      name = component.name;
      disposes = component.disposes;
      fields = fields;
      parameters = parameters;
      initialized = method_number home.first (codes "OnInitialized") component.members;
      parameters_set = method_number home.first (codes "OnParametersSet") component.members;
      dispose = method_number home.first (codes "Dispose") component.members;
      acts = acts;
    }

-- what a component comes to: first its initial values, then its bodies and its template
unfoldable pub component_meaning : Home → Component → Resolves Meaning
component_meaning home component = do
  fields ← judged (declared (field_in home) component.members)
  parameters ← judged (declared (parameter_in home) component.members)
  acts ← component_acts home component
  alone (meaning home component fields parameters acts)
