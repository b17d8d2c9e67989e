-- The rules of members.
use Rattle.std.specs.Prelude.{ℕ, ◌&&◌, ◌||◌, not, is_some, Bool, true, false, List, [], ◌∷◌, ◌++◌, map, filter, codes, if◌then◌else◌, Option, Some, None, bytes_eq}
use Rattle.std.specs.List.{flat_map}
use Rattle.cs_ast.specs.declared.cs_type.CsType.{CsType}
use Rattle.cs_ast.specs.declared.cs_type.TypeExpr.{TypeExpr}
use Rattle.cs_ast.specs.declared.expression.Body.{Body}
use Rattle.cs_ast.specs.declared.expression.Body.TheVariants as body
use Rattle.cs_ast.specs.declared.expression.Expr.{Expr}
use Rattle.cs_ast.specs.declared.identifier.Ident.{Ident}
use Rattle.cs_ast.specs.declared.member.Argument.{Argument}
use Rattle.cs_ast.specs.declared.member.Member.{Member}
use Rattle.cs_ast.specs.declared.member.MemberKind.{MemberKind}
use Rattle.cs_ast.specs.declared.member.MemberKind.TheVariants.{Field, Parameter, Method, Getter, RecordDef}
use Rattle.cs_rules.specs.declared.rule.Rule.TheVariants.{DuplicateName, BadLifecycle, MissingReturn, RecursiveRecord}
use Rattle.cs_rules.specs.Judged.{◌>>=◌}
use Rattle.cs_rules.specs.Types.{fitting}
use Rattle.cs_rules.specs.Written.{written}
use Rattle.razor_rules.specs.declared.finding.Broken.{Broken}
use Rattle.razor_rules.specs.Findings.{found, found_then, broken_unless}
use Rattle.razor_rules.specs.Members.{name_of, is_record, result_type}
use Rattle.razor_rules.specs.Names.{repeated}
use Rattle.cs_forbidden.specs.declared.forbidden.Forbidden.{Forbidden}
use Rattle.cs_forbidden.specs.Roots.{nothing}
use Rattle.cs_forbidden.specs.Trees.{value_in}
use Rattle.razor_rules.specs.Restrictions.{in_lifecycle}
use Rattle.razor_rules.specs.Scopes.{Home, initial_scope, member_scope, with_arguments, with_result}
use Rattle.razor_rules.specs.WrittenTypes.{argument_type, parameter_type}
use Rattle.razor_rules.specs.Bodies.{judged_body, reaches_end}

-- the methods that the system calls
abbrev pub is_lifecycle : List ℕ → Bool
is_lifecycle name = bytes_eq name (codes "OnInitialized") || bytes_eq name (codes "OnParametersSet") || bytes_eq name (codes "Dispose")

-- such a method has no arguments and no result
abbrev pub lifecycle_rule : Ident → Bool → List Broken
lifecycle_rule name plain = broken_unless (not (is_lifecycle name.name) || plain) BadLifecycle name.place

abbrev pub is_empty : List Argument → Bool
is_empty [] = true
is_empty (one ∷ others) = false

-- the numbers of the bodies that invoke a callback, and whether the record of a name contains itself, are handed in
module _ (home : Home) (invoking : List ℕ) (circular : List ℕ → Bool) where
  -- the initial value of a field or a parameter of a type
  abbrev pub initial_rules : Option Expr → CsType → List Broken
  initial_rules None cs_type = []
  initial_rules (Some a) cs_type = found (value_in nothing (initial_scope home) a >>= λ x. fitting cs_type x)

  abbrev pub result_rules : Option TypeExpr → List Broken
  result_rules None = []
  result_rules (Some result) = found (written home.records result)

  -- what is forbidden in the body of a method of this name
  abbrev pub forbidden_in : List ℕ → Forbidden
  forbidden_in name = if is_lifecycle name then in_lifecycle invoking else nothing

  -- the body of a method
  unfoldable pub body_rules : List ℕ → Option TypeExpr → List Argument → Body → List Broken
  body_rules name result arguments body =
      found (judged_body (forbidden_in name) (with_arguments arguments (with_result (result_type result) (member_scope home))) body)

  unfoldable pub method_rules : Option TypeExpr → Ident → List Argument → Body → List Broken
  method_rules result name arguments body =
      result_rules result
      ++ lifecycle_rule name (not (is_some result) && is_empty arguments)
      ++ broken_unless (not (is_some result && reaches_end body)) MissingReturn name.place
      ++ flat_map (λ one. found (argument_type home.records one.cs_type)) arguments
      ++ repeated DuplicateName [] (map (λ one. one.name) arguments)
      ++ body_rules name.name result arguments body

  unfoldable pub record_rules : Ident → List Argument → List Broken
  record_rules name parts =
      broken_unless (not (circular name.name)) RecursiveRecord name.place
      ++ flat_map (λ one. found (written home.records one.cs_type)) parts
      ++ repeated DuplicateName [] (map (λ one. one.name) parts)

  -- the rules that a member breaks by itself
  unfoldable pub member_rules : MemberKind → List Broken
  member_rules (Field cs_type name initial) = found_then (written home.records cs_type) (initial_rules initial)
  member_rules (Parameter cascading source cs_type name initial) = found_then (parameter_type home.records cs_type) (initial_rules initial)
  member_rules (Method result name arguments body) = method_rules result name arguments body
  member_rules (Getter result name value) = method_rules (Some result) name [] (body.Value value)
  member_rules (RecordDef name parts) = record_rules name parts

  -- all members, no two of one name, and no record of the name of one in these records of earlier files
  unfoldable pub members_rules : List Member → List Broken
  members_rules earlier =
      repeated DuplicateName [] (map (λ one. name_of one.kind) home.members)
      ++ repeated DuplicateName (map (λ one. (name_of one.kind).name) earlier) (map (λ one. name_of one.kind) (filter (λ one. is_record one.kind) home.members))
      ++ flat_map (λ one. member_rules one.kind) home.members
