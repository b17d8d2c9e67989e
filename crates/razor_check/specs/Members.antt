-- The rules of members, cut as the checker looks at them: no part of what it promises.
use Rattle.std.specs.Prelude.{ℕ, ◌&&◌, not, is_some, Bool, true, false, List, [], ◌∷◌, ◌++◌, map, filter, if◌then◌else◌, Option, Some, None}
use Rattle.std.specs.List.{flat_map}
use Rattle.cs_ast.specs.declared.cs_type.TypeExpr.{TypeExpr}
use Rattle.cs_ast.specs.declared.cs_type.CsType.TheVariants as t
use Rattle.cs_ast.specs.declared.expression.Body.{Body}
use Rattle.cs_ast.specs.declared.expression.Expr.{Expr}
use Rattle.cs_ast.specs.declared.identifier.Ident.{Ident}
use Rattle.cs_ast.specs.declared.member.Argument.{Argument}
use Rattle.cs_ast.specs.declared.member.Member.{Member}
use Rattle.cs_rules.specs.declared.rule.Rule.TheVariants.{DuplicateName, MissingReturn}
use Rattle.cs_rules.specs.Written.{type_of, written}
use Rattle.cs_rules.specs.Names.{with_local}
use Rattle.cs_forbidden.specs.declared.forbidden.Forbidden.{Forbidden}
use Rattle.cs_forbidden.specs.Roots.{nothing}
use Rattle.razor_rules.specs.declared.finding.Broken.{Broken}
use Rattle.razor_rules.specs.Findings.{found, broken_unless}
use Rattle.razor_rules.specs.Names.{is_among, repeated}
use Rattle.razor_rules.specs.Members.{is_record, name_of}
use Rattle.razor_rules.specs.Restrictions.{in_lifecycle}
use Rattle.razor_rules.specs.Scopes.{Home, member_scope, with_result}
use Rattle.razor_rules.specs.WrittenTypes.{argument_type}
use Rattle.razor_rules.specs.Bodies.{reaches_end}
use Rattle.razor_rules.specs.Declarations as spec
use Rattle.razor_rules.specs.Declarations.{is_lifecycle, is_empty, lifecycle_rule}
use Rattle.razor_check.specs.Results.{judged_value}

-- no record contains itself, where that isn't asked
abbrev pub no_circles : List ℕ → Bool
no_circles name = false

-- the records of these names contain themselves
abbrev pub among : List (List ℕ) → List ℕ → Bool
among circular name = is_among name circular

abbrev pub forbidden_in : List ℕ → List ℕ → Forbidden
forbidden_in invoking name = if is_lifecycle name then in_lifecycle invoking else nothing

-- of a method, all but its body
abbrev pub head_rules : Home → List ℕ → Option TypeExpr → Ident → List Argument → Body → List Broken
head_rules home invoking gives name arguments body =
    spec.result_rules home invoking no_circles gives
    ++ lifecycle_rule name (not (is_some gives) && is_empty arguments)
    ++ broken_unless (not (is_some gives && reaches_end body)) MissingReturn name.place
    ++ flat_map (λ one. found (argument_type home.records one.cs_type)) arguments
    ++ repeated DuplicateName [] (map (λ one. one.name) arguments)

-- the value of a method without brackets
abbrev pub value_rules : Home → List ℕ → List ℕ → TypeExpr → Expr → List Broken
value_rules home invoking name gives value =
    found (judged_value (forbidden_in invoking name) (with_local (with_result (type_of gives) (member_scope home)) [] t.Nothing) value)

-- such a method
abbrev pub getter_rules : Home → List ℕ → TypeExpr → Ident → Expr → List Broken
getter_rules home invoking gives name value =
    found (written home.records gives) ++ lifecycle_rule name false ++ value_rules home invoking name.name gives value

-- no two members of one name, and no record of the name of one in earlier files
abbrev pub names_rules : List Member → List (List ℕ) → List Broken
names_rules members earlier =
    repeated DuplicateName [] (map (λ one. name_of one.kind) members)
    ++ repeated DuplicateName earlier (map (λ one. name_of one.kind) (filter (λ one. is_record one.kind) members))

-- all members
abbrev pub members_rules : Home → List ℕ → (List ℕ → Bool) → List (List ℕ) → List Broken
members_rules home invoking circular earlier = names_rules home.members earlier ++ flat_map (λ one. spec.member_rules home invoking circular one.kind) home.members
