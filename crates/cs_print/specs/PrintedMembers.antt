-- Which tokens members are printed as, by their kinds.
use Rattle.std.specs.Prelude.{ℕ, Bool, true, false, List, [], ◌∷◌, ◌++◌, map, codes, Option, Some, None, option_map, bytes_eq, if◌then◌else◌}
use Rattle.cs_ast.specs.declared.cs_type.TypeExpr.{TypeExpr}
use Rattle.cs_ast.specs.declared.cs_type.TypeKind.{TypeKind, out-TypeKind}
use Rattle.cs_ast.specs.declared.cs_type.TypeKind.TheOpen.{TypeKind-F}
use Rattle.cs_ast.specs.declared.expression.Body.{Body, out-Body}
use Rattle.cs_ast.specs.declared.expression.Body.TheOpen.{Body-F}
use Rattle.cs_ast.specs.declared.member.Argument.{Argument}
use Rattle.cs_ast.specs.declared.member.Member.{Member}
use Rattle.cs_ast.specs.declared.member.MemberKind.{MemberKind}
use Rattle.cs_ast.specs.declared.member.MemberKind.TheVariants as mk
use Rattle.cs_token.specs.declared.token.TokenKind.TheVariants as k
use Rattle.cs_token.specs.declared.token.Sign.TheVariants as s
use Rattle.cs_token.specs.declared.token.Word.TheVariants as w
use Rattle.cs_print.specs.Printed.{Kinds, joined, listed, in_round, in_braces, type_kinds, Printed, whole, initial, ended, printed, statement_kinds}

-- An argument, and arguments with commas between them.
abbrev pub argument_kinds : Argument → Kinds
argument_kinds a = type_kinds a.cs_type ++ k.Name a.name.name ∷ []

abbrev pub arguments_kinds : List Argument → Kinds
arguments_kinds arguments = listed (map argument_kinds arguments)

-- the name of a type that is `record`
abbrev pub is_record : TypeKind → Bool
is_record kind = elim (out-TypeKind kind) [ TypeKind-F.Named name ↦ bytes_eq name (codes "record") | _ ↦ false ]

-- A type as the result of a method. Behind the name `record` stands `?`, so that no record begins there.
abbrev pub result_of : TypeExpr → Kinds
result_of a = if is_record a.kind then type_kinds a ++ k.Sign s.Question ∷ [] else type_kinds a

-- the result of a method
abbrev pub result_kinds : Option TypeExpr → Kinds
result_kinds None = k.Word w.Void ∷ []
result_kinds (Some a) = result_of a

-- the body of a method
abbrev pub method_body : Body → Kinds
method_body b = elim (out-Body b) [
  | Body-F.Value a ↦ k.Sign s.Arrow ∷ ended (whole (printed a))
  | Body-F.Body::Block statements ↦ in_braces (joined (map statement_kinds statements))
]

-- `{ get; set; }`
abbrev pub accessors : Kinds
accessors = in_braces (k.Name (codes "get") ∷ k.Sign s.Semicolon ∷ k.Name (codes "set") ∷ k.Sign s.Semicolon ∷ [])

-- the initial value of a property, if there is one
abbrev pub property_end : Option Printed → Kinds
property_end None = []
property_end (Some a) = k.Sign s.Assign ∷ ended (whole a)

-- a property
abbrev pub property_kinds : TypeExpr → List ℕ → Option Printed → Kinds
property_kinds a name value = type_kinds a ++ k.Name name ∷ (accessors ++ property_end value)

abbrev pub in_square : Kinds → Kinds
in_square x = k.Sign s.OpenSquare ∷ (x ++ k.Sign s.CloseSquare ∷ [])

-- an attribute that names what its parameter takes
unfoldable pub source_kinds : List ℕ → Kinds
source_kinds x = k.Name (codes "CascadingParameter") ∷ in_round (k.Name (codes "Name") ∷ k.Sign s.Assign ∷ k.Text x ∷ [])

-- the attribute of a parameter
abbrev pub attribute_kinds : Bool → Option (List ℕ) → Kinds
attribute_kinds false source = in_square (k.Name (codes "Parameter") ∷ [])
attribute_kinds true None = in_square (k.Name (codes "CascadingParameter") ∷ [])
attribute_kinds true (Some x) = in_square (source_kinds x)

-- a member
unfoldable pub member_kinds : MemberKind → Kinds
member_kinds (mk.Field a name value) = type_kinds a ++ k.Name name.name ∷ ended (initial (option_map printed value))
member_kinds (mk.Parameter cascading source a name value) =
    attribute_kinds cascading source ++ property_kinds a name.name (option_map printed value)
member_kinds (mk.Method result name arguments b) =
    result_kinds result ++ k.Name name.name ∷ (in_round (arguments_kinds arguments) ++ method_body b)
member_kinds (mk.Getter a name value) = type_kinds a ++ k.Name name.name ∷ k.Sign s.Arrow ∷ ended (whole (printed value))
member_kinds (mk.RecordDef name parts) = k.Name (codes "record") ∷ k.Name name.name ∷ ended (in_round (arguments_kinds parts))

-- members one behind another
abbrev pub members_kinds : List Member → Kinds
members_kinds members = joined (map (λ member. member_kinds member.kind) members)
