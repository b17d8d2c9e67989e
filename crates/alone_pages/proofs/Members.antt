-- A component that stands alone has no tags of components and no parameters.
use Rattle.std.proofs.Common.{◌≡◌, List, [], ◌∷◌, map, sym, ◌∙◌}
use Rattle.std.specs.Prelude.{Bool, true, false, not, ◌&&◌}
use Rattle.std.specs.List.{list_all}
use Rattle.cs_ast.specs.declared.member.Member.{Member}
use Rattle.cs_ast.specs.declared.member.MemberKind.{MemberKind}
use Rattle.cs_ast.specs.declared.member.MemberKind.TheVariants.{Field, Parameter, Method, Getter, RecordDef}
use Rattle.razor_ast.specs.declared.component.Component.{Component}
use Rattle.standing_alone.specs.Alone.{is_own, stands_alone}
use Rattle.standing_alone.specs.Tags.{any_of}
use Rattle.standing_alone.specs.Tags as alone
use Rattle.page_typing.specs.Pages.{NoTags, NoParameter, NoParameters}
use Rattle.alone_pages.proofs.Tags.{same_tags}

both_first : (a b : Bool) → (a && b) ≡ true → a ≡ true
both_first true b e = cc
both_first false b e = absurd (cc)

both_second : (a b : Bool) → (a && b) ≡ true → b ≡ true
both_second true b e = e
both_second false b e = absurd (cc)

not_true : (b : Bool) → not b ≡ true → b ≡ false
not_true true e = absurd (cc)
not_true false e = cc

no_parameter : (m : MemberKind) → is_own m ≡ true → NoParameter m
no_parameter (Parameter cascading source cs_type name initial) e = absurd (cc)
no_parameter (Field cs_type name initial) e = tt
no_parameter (Method result name arguments of) e = tt
no_parameter (Getter result name value) e = tt
no_parameter (RecordDef name parts) e = tt

no_parameters : (members : List Member) → list_all (λ (one : Member). is_own one.kind) members ≡ true → NoParameters members
no_parameters [] e = tt
no_parameters (one ∷ others) e =
    (no_parameter one.kind (both_first (is_own one.kind) _ e), no_parameters others (both_second (is_own one.kind) _ e))

module _ (component : Component) (e : stands_alone component ≡ true) where
  inner : (list_all (λ (one : Member). is_own one.kind) component.members && not (any_of (map alone.has_tag component.nodes))) ≡ true
  inner = both_second (not component.disposes) _ e

  pub without_tags : NoTags component.nodes
  without_tags = sym (same_tags component.nodes) ∙ not_true _ (both_second (list_all (λ (one : Member). is_own one.kind) component.members) _ inner)

  pub without_parameters : NoParameters component.members
  without_parameters = no_parameters component.members (both_first (list_all (λ (one : Member). is_own one.kind) component.members) _ inner)
