-- The facts of a program are given by it.
use Rattle.std.proofs.Common.{◌≡◌, ◌↔◌, ℕ, Bool, true, false, List, [], ◌∷◌, Option, Some, None, IsTrue, refl, sym, ◌∙◌, ap, subst}
use mathlib.Core.Path.{fun_ext}
use Rattle.std.specs.List.{AllZip}
use Rattle.cs_ast.specs.declared.member.Member.{Member}
use Rattle.cs_ast.specs.declared.scope.Effect.{Effect}
use Rattle.std.proofs.lemmas.Bool.{false≢true}
use Rattle.cs_effects.specs.declared.deed.Deed.TheVariants.{Changes, Invokes}
use Rattle.cs_effects.specs.Effects.{Told, end, other, method, Does, fields, method_name}
use Rattle.razor_ast.specs.declared.component.Component.{Component}
use Rattle.razor_rules.specs.Programs.{Facts, AreTrue, Finding, first_broken, BreaksFirst}

-- two truth values that say one thing are the same
one_truth : {P : Type 0} (a b : Bool) → IsTrue a ↔ P → IsTrue b ↔ P → a ≡ b
one_truth true true h k = refl
one_truth true false h k = absurd (false≢true (k.1 (h.0 refl)))
one_truth false true h k = absurd (false≢true (h.1 (k.0 refl)))
one_truth false false h k = refl

no_some : (name : List ℕ) → None ≡ Some name → ⊥
no_some name e = subst is_there e tt
  where
    is_there : Option (List ℕ) → Type 0
    is_there None = Unit {0}
    is_there (Some it) = ⊥

or_empty : Option (List ℕ) → List ℕ
or_empty None = []
or_empty (Some name) = name

same_effect : (e f : Effect) → Some e.method ≡ Some f.method → e.changes ≡ f.changes → e.invokes ≡ f.invokes → e ≡ f
unfolding or_empty
same_effect e f name changes invokes = λ i. record { method = ap or_empty name i; changes = changes i; invokes = invokes i }

-- what is told of a member in front of others, which is no method
behind_other : (members : List Member) (m : Member) (others : List Member) (f : List Effect) → method_name m.kind ≡ None → Told members (m ∷ others) f → Told members others f
behind_other members m others f none (other _ _ _ _ t) = t
behind_other members m others f none (method _ _ effect _ is _ _ t) = absurd (no_some effect.method (sym none ∙ is))

-- what is told of a method in front of others
pub record Inside (members : List Member) (m : Member) (others : List Member) (f : List Effect) : Type 0 where
  effect : Effect
  effects : List Effect
  whole : f ≡ effect ∷ effects
  is : method_name m.kind ≡ Some effect.method
  changes : IsTrue effect.changes ↔ Does members (Changes (fields members)) m.kind
  invokes : IsTrue effect.invokes ↔ Does members Invokes m.kind
  told : Told members others effects

behind_method : (members : List Member) (m : Member) (others : List Member) (f : List Effect) (name : List ℕ) → method_name m.kind ≡ Some name → Told members (m ∷ others) f → Inside members m others f
behind_method members m others f name has (other _ _ _ none t) = absurd (no_some name (sym none ∙ has))
behind_method members m others f name has (method _ _ effect effects is changes invokes t) =
    record { effect = effect; effects = effects; whole = refl; is = is; changes = changes; invokes = invokes; told = t }

no_effects : (members : List Member) (f : List Effect) → Told members [] f → [] ≡ f
no_effects members f (end) = refl

same_told : (members ms : List Member) (e f : List Effect) → Told members ms e → Told members ms f → e ≡ f
same_told members _ _ f (end) k = no_effects members f k
same_told members _ _ f (other m others e none t) k = same_told members others e f t (behind_other members m others f none k)
same_told members _ _ f (method m others effect effects is changes invokes t) k =
    let it : Inside members m others f = behind_method members m others f effect.method is k in
    ap (λ x. x ∷ effects) (same_effect effect it.effect (sym is ∙ it.is) (one_truth effect.changes it.effect.changes changes it.changes) (one_truth effect.invokes it.effect.invokes invokes it.invokes))
    ∙ ap (λ xs. it.effect ∷ xs) (same_told members others effects it.effects t it.told) ∙ sym it.whole

same_effects : (components : List Component) (e f : List (List Effect)) →
    AllZip (λ component effects. Told component.members component.members effects) components e →
    AllZip (λ component effects. Told component.members component.members effects) components f → e ≡ f
same_effects [] [] [] h k = refl
same_effects [] [] (y ∷ ys) h k = absurd k
same_effects [] (x ∷ xs) ys h k = absurd h
same_effects (c ∷ cs) [] ys h k = absurd h
same_effects (c ∷ cs) (x ∷ xs) [] h k = absurd k
same_effects (c ∷ cs) (x ∷ xs) (y ∷ ys) h k = ap (λ z. z ∷ xs) (same_told c.members c.members x y h.0 k.0) ∙ ap (λ zs. y ∷ zs) (same_effects cs xs ys h.1 k.1)

same_facts : (components : List Component) (e f : Facts) → AreTrue components e → AreTrue components f → e ≡ f
same_facts components e f h k = λ i.
    record {
      effects = same_effects components e.effects f.effects h.effects k.effects i;
      circular = fun_ext (λ name. one_truth (e.circular name) (f.circular name) (h.circular name) (k.circular name)) i;
    }

pub one_first : (components : List Component) (one another : Option Finding) → BreaksFirst components one → BreaksFirst components another → one ≡ another
one_first components one another h k = sym h.2 ∙ ap (first_broken components) (same_facts components h.0 k.0 h.1 k.1) ∙ k.2
