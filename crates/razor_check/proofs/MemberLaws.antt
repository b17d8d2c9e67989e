-- The rules of members by their parts.
use Rattle.std.proofs.Common.{◌≡◌, ℕ, List, [], ◌++◌, refl, sym, ap, ◌∙◌}
use Rattle.std.specs.Prelude.{Bool, false, Option, Some, None, map}
use Rattle.std.proofs.lemmas.List.{append-nil}
use Rattle.cs_ast.specs.declared.cs_type.CsType.{CsType}
use Rattle.cs_ast.specs.declared.cs_type.TypeExpr.{TypeExpr}
use Rattle.cs_ast.specs.declared.expression.Body.{Body}
use Rattle.cs_ast.specs.declared.expression.Body.TheVariants as bo
use Rattle.cs_ast.specs.declared.expression.Expr.{Expr}
use Rattle.cs_ast.specs.declared.identifier.Ident.{Ident}
use Rattle.cs_ast.specs.declared.member.Argument.{Argument}
use Rattle.cs_ast.specs.declared.member.Member.{Member}
use Rattle.cs_rules.specs.Written.{type_of, written}
use Rattle.cs_rules.specs.declared.rule.Rule.TheVariants.{MissingReturn}
use Rattle.razor_rules.specs.declared.finding.Broken.{Broken}
use Rattle.razor_rules.specs.Findings.{found, broken_unless}
use Rattle.razor_rules.specs.Members.{name_of}
use Rattle.razor_rules.specs.Scopes.{Home, member_scope, with_result, with_arguments}
use Rattle.razor_rules.specs.Declarations as spec
use Rattle.razor_parts.proofs.LeavesLaws.{value_ends}
use Rattle.razor_check.specs.Members.{no_circles, forbidden_in, head_rules, value_rules, getter_rules, members_rules}
use Rattle.razor_check.specs.Results.{judged_value}
use Rattle.razor_check.proofs.BodyLaws.{value_judged}

dropped : (xs : List Broken) → ((xs ++ []) ++ []) ++ [] ≡ xs
dropped xs = append-nil ((xs ++ []) ++ []) ∙ append-nil (xs ++ []) ∙ append-nil xs

module _ (home : Home) (invoking : List ℕ) where
  -- of a method the circular records aren't asked
  pub method_any : (circular : List ℕ → Bool) (gives : Option TypeExpr) (name : Ident) (arguments : List Argument) (body : Body) →
      spec.method_rules home invoking circular gives name arguments body ≡ spec.method_rules home invoking no_circles gives name arguments body
  unfolding spec.method_rules spec.body_rules
  method_any circular None name arguments body = refl
  method_any circular (Some w) name arguments body = refl

  pub initial_any : (circular : List ℕ → Bool) (a : Option Expr) (cs_type : CsType) → spec.initial_rules home invoking circular a cs_type ≡ spec.initial_rules home invoking no_circles a cs_type
  initial_any circular None cs_type = refl
  initial_any circular (Some a) cs_type = refl

  pub method_parts : (gives : Option TypeExpr) (name : Ident) (arguments : List Argument) (body : Body) →
      spec.method_rules home invoking no_circles gives name arguments body ≡ head_rules home invoking gives name arguments body ++ spec.body_rules home invoking no_circles name.name gives arguments body
  unfolding spec.method_rules
  method_parts gives name arguments body = refl

  getter_body : (circular : List ℕ → Bool) (gives : TypeExpr) (name : List ℕ) (value : Expr) → spec.body_rules home invoking circular name (Some gives) [] (bo.Value value) ≡ value_rules home invoking name gives value
  unfolding spec.body_rules
  getter_body circular gives name value = ap found (value_judged (forbidden_in invoking name) (with_arguments [] (with_result (type_of gives) (member_scope home))) value)

  pub getter_parts : (circular : List ℕ → Bool) (gives : TypeExpr) (name : Ident) (value : Expr) →
      spec.method_rules home invoking circular (Some gives) name [] (bo.Value value) ≡ getter_rules home invoking gives name value
  unfolding spec.method_rules
  getter_parts circular gives name value = rw (value_ends value) (ap (λ (z : List Broken). z ++ spec.body_rules home invoking circular name.name (Some gives) [] (bo.Value value)) (dropped (found (written home.records gives) ++ spec.lifecycle_rule name false))
      ∙ ap (λ (z : List Broken). (found (written home.records gives) ++ spec.lifecycle_rule name false) ++ z) (getter_body circular gives name.name value))

  -- all members, by the names of earlier records
  pub members_law : (circular : List ℕ → Bool) (earlier : List Member) →
      spec.members_rules home invoking circular earlier ≡ members_rules home invoking circular (map (λ one. (name_of one.kind).name) earlier)
  unfolding spec.members_rules
  members_law circular earlier = refl
