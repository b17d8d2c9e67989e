-- The fields and the parameters of a component that breaks no rule come to something.
use Rattle.std.proofs.Common.{◌≡◌, ℕ, List, [], ◌∷◌, ◌++◌, sym, ap, refl, ◌∙◌}
use Rattle.std.specs.Prelude.{Bool, Option, Some, None}
use Rattle.std.specs.List.{flat_map}
use Rattle.cs_ast.specs.declared.code.Code.{Code}
use Rattle.cs_ast.specs.declared.cs_type.CsType.{CsType}
use Rattle.cs_ast.specs.declared.expression.Expr.{Expr}
use Rattle.cs_ast.specs.declared.member.Member.{Member}
use Rattle.cs_ast.specs.declared.member.MemberKind.{MemberKind}
use Rattle.cs_ast.specs.declared.member.MemberKind.TheVariants.{Field, Parameter, Method, Getter, RecordDef}
use Rattle.cs_rules.specs.Judged.{Judged, fine, if_there, ◌>>=◌}
use Rattle.cs_rules.specs.Trees.{value_in}
use Rattle.cs_rules.specs.Types.{fitting}
use Rattle.cs_rules.specs.Written.{type_of, written}
use Rattle.cs_forbidden.specs.Roots.{nothing}
use Rattle.cs_forbidden.specs.Trees as forbidding
use Rattle.frame_program.specs.declared.compiled.CompiledField.{CompiledField}
use Rattle.razor_rules.specs.Declarations.{initial_rules, member_rules}
use Rattle.razor_rules.specs.Scopes.{Home, initial_scope}
use Rattle.razor_rules.specs.WrittenTypes.{parameter_type}
use Rattle.frame_parts.specs.Components.{initial_code, wanted, field, field_in, parameter_in, declared}
use Rattle.page_typing.proofs.NarrowLambdas.{both_fine, same_value_in}
use Rattle.page_typing.proofs.TemplateParts.{found_then_nothing}
use Rattle.page_typing.proofs.TemplateValues.{found_nothing, no_first, no_second}

-- it comes to something
abbrev pub Comes : {A : Type 0} → Judged A → Type 0
Comes {A} j = (it : A) × (j ≡ fine it)

module _ (home : Home) (invoking : List ℕ) (circular : List ℕ → Bool) where
  initial_comes : (initial : Option Expr) (type : CsType) → initial_rules home invoking circular initial type ≡ [] → Comes (initial_code home initial)
  initial_comes None type e = (None, refl)
  initial_comes (Some a) type e =
      let none = found_nothing (forbidding.value_in nothing (initial_scope home) a >>= λ x. fitting type x) e in
      let one = both_fine (forbidding.value_in nothing (initial_scope home) a) (λ x. fitting type x) none.0 none.1 in
      let ruled : value_in (initial_scope home) a ≡ fine one.0 = sym (same_value_in (initial_scope home) a) ∙ one.1 in
      (Some one.0.code, ap (λ j. if_there (λ (z : Expr). j >>= λ x. fine x.code) (Some a)) ruled)

  fields_of_initial : (initial : Option Expr) (it : Option Code) (of : Option Code → CompiledField) → initial_code home initial ≡ fine it
      → Comes (initial_code home initial >>= λ code. fine (of code ∷ []))
  fields_of_initial initial it of e = (of it ∷ [], ap (λ j. j >>= λ code. fine (of code ∷ [])) e)

  member_fields : (m : MemberKind) → member_rules home invoking circular m ≡ [] → Comes (field_in home m) × Comes (parameter_in home m)
  unfolding member_rules field_in parameter_in
  member_fields (Field w name initial) e =
      let k = found_then_nothing (written home.records w) (initial_rules home invoking circular initial) e in
      let it = initial_comes initial k.0 k.2 in
      (fields_of_initial initial it.0 (λ code. field name.name (type_of w) None code) it.1, ([], refl))
  member_fields (Parameter cascading source w name initial) e =
      let k = found_then_nothing (parameter_type home.records w) (initial_rules home invoking circular initial) e in
      let it = initial_comes initial k.0 k.2 in
      (([], refl), fields_of_initial initial it.0 (λ code. field name.name (type_of w) (wanted cascading source (type_of w)) code) it.1)
  member_fields (Method result name arguments of) e = (([], refl), ([], refl))
  member_fields (Getter result name value) e = (([], refl), ([], refl))
  member_fields (RecordDef name parts) e = (([], refl), ([], refl))

  both_come : (one : MemberKind → Judged (List CompiledField)) (first : Member) (others : List Member) → Comes (one first.kind) → Comes (declared one others) → Comes (declared one (first ∷ others))
  both_come one first others h hs =
      (h.0 ++ hs.0, ap (λ j. j >>= λ here. declared one others >>= λ more. fine (here ++ more)) h.1 ∙ ap (λ j. j >>= λ more. fine (h.0 ++ more)) hs.1)

  pub fields_come : (members : List Member) → flat_map (λ (one : Member). member_rules home invoking circular one.kind) members ≡ []
      → Comes (declared (field_in home) members) × Comes (declared (parameter_in home) members)
  fields_come [] e = (([], refl), ([], refl))
  fields_come (one ∷ others) e =
      let here = member_fields one.kind (no_first (member_rules home invoking circular one.kind) _ e) in
      let more = fields_come others (no_second (member_rules home invoking circular one.kind) _ e) in
      (both_come (field_in home) one others here.0 more.0, both_come (parameter_in home) one others here.1 more.1)
