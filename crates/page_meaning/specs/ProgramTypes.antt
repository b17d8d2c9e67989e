-- The types of a program: of its records, of the fields and parameters of its components, and of its bodies and templates.
use Rattle.std.specs.Prelude.{ℕ, ◌==◌, List, [], ◌∷◌, slice_get, if◌then◌else◌, Option, Some, None, option_map}
use Rattle.std.specs.List.{flat_map}
use Rattle.cs_ast.specs.declared.cs_type.CsType.{CsType}
use Rattle.cs_ast.specs.declared.member.MemberKind.{MemberKind}
use Rattle.cs_ast.specs.declared.member.MemberKind.TheVariants.{Field, Parameter}
use Rattle.cs_rules.specs.Written.{type_of, record_named}
use Rattle.cs_typing.specs.Types.{Signature, Types}
use Rattle.cs_accepted.specs.Scopes.{record_type}
use Rattle.razor_ast.specs.declared.component.Component.{Component}
use Rattle.razor_rules.specs.Scopes.{records_of}
use Rattle.page_meaning.specs.Placed.{Placed, body, template}
use Rattle.page_meaning.specs.Items.{placed}

-- the type of a field
abbrev pub field_of : MemberKind → List CsType
field_of (Field cs_type name initial) = type_of cs_type ∷ []
field_of _ = []

-- the type of a parameter
abbrev pub parameter_of : MemberKind → List CsType
parameter_of (Parameter cascading source cs_type name initial) = type_of cs_type ∷ []
parameter_of _ = []

-- the type at a number among those that the members of a component declare
abbrev pub declared_at : (MemberKind → List CsType) → Option Component → ℕ → Option CsType
declared_at declares None number = None
declared_at declares (Some component) number = slice_get (flat_map (λ one. declares one.kind) component.members) number

-- the signature of the body, or of the template, of a number
abbrev pub body_signature : Placed → Option Signature
body_signature (body s code) = Some s
body_signature (template s it) = None

abbrev pub template_signature : Placed → Option Signature
template_signature (body s code) = None
template_signature (template s it) = Some s

abbrev pub signature_at : (Placed → Option Signature) → List (ℕ × Placed) → ℕ → Option Signature
signature_at has [] number = None
signature_at has (one ∷ others) number = if one.0 == number then has one.1 else signature_at has others number

-- the types of a program, where these instances are there, each of a component by its position
unfoldable pub program_types : List Component → (ℕ → Option ℕ) → Types
program_types components instances =
    record {
      records = λ name. option_map record_type (record_named (records_of components) name);
      fields = λ component number. declared_at field_of (slice_get components component) number;
      parameters = λ component number. declared_at parameter_of (slice_get components component) number;
      bodies = signature_at body_signature (placed components);
      templates = signature_at template_signature (placed components);
      instances = instances;
    }
