-- The names of members, gathered from the first one on.
use Rattle.std.proofs.Common.{◌≡◌, ℕ, List, ◌∷◌, ◌++◌, reverse, refl, sym, ap, ◌∙◌, append_assoc}
use Rattle.std.proofs.lemmas.List.{reverse-append}
use Rattle.cs_ast.specs.declared.member.Member.{Member}
use Rattle.cs_ast.specs.declared.member.MemberKind.{MemberKind}
use Rattle.cs_ast.specs.declared.member.MemberKind.TheVariants.{Field, Parameter, Method, Getter, RecordDef}
use Rattle.cs_ast.specs.declared.scope.Named.{Named}
use Rattle.razor_rules.specs.Members.{Before, named, and_this, names_behind}

one_name : (first : ℕ) (before : Before) (kind : MemberKind) → reverse (named first before kind) ≡ named first before kind
unfolding named
one_name first before (Field t n i) = refl
one_name first before (Parameter c s t n i) = refl
one_name first before (Method r n a b) = refl
one_name first before (Getter r n v) = refl
one_name first before (RecordDef n p) = refl

pub names_more : (first : ℕ) (before : Before) (one : Member) (others : List Member) (names : List Named) →
    names_behind first before (one ∷ others) ++ reverse names ≡ names_behind first (and_this one.kind before) others ++ reverse (names ++ named first before one.kind)
names_more first before one others names =
    let rest = names_behind first (and_this one.kind before) others in
    append_assoc rest (named first before one.kind) (reverse names)
    ∙ ap (λ b. rest ++ b) (ap (λ b. b ++ reverse names) (sym (one_name first before one.kind)) ∙ sym (reverse-append names (named first before one.kind)))
