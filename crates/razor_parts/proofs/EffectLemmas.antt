-- The numbers of bodies with effects, member by member.
use Rattle.std.proofs.Common.{◌≡◌, ℕ, ◌+◌, List, [], ◌∷◌, refl}
use Rattle.std.specs.Prelude.{Bool, true, false, ◌&&◌, ◌||◌}
use Rattle.cs_ast.specs.declared.member.Member.{Member}
use Rattle.cs_ast.specs.declared.scope.Effect.{Effect}
use Rattle.razor_rules.specs.Members.{is_method, numbered_effects}
use Rattle.razor_rules.specs.Restrictions.{with_effect}

module _ (changing : Bool) (number : ℕ) (one : Member) (others : List Member) where
  pub no_method : (effects : List Effect) → is_method one.kind ≡ false →
      with_effect (λ it. (changing && it.changes) || it.invokes) (numbered_effects number (one ∷ others) effects)
      ≡ with_effect (λ it. (changing && it.changes) || it.invokes) (numbered_effects (number + 1) others effects)
  no_method [] h = none others
    where
      none : (ms : List Member) → [] ≡ with_effect (λ it. (changing && it.changes) || it.invokes) (numbered_effects (number + 1) ms [])
      none [] = refl
      none (m ∷ ms) = refl
  no_method (effect ∷ effects) h = rw h refl

  pub with_this : (effect : Effect) (effects : List Effect) → is_method one.kind ≡ true → ((changing && effect.changes) || effect.invokes) ≡ true →
      with_effect (λ it. (changing && it.changes) || it.invokes) (numbered_effects number (one ∷ others) (effect ∷ effects))
      ≡ number ∷ with_effect (λ it. (changing && it.changes) || it.invokes) (numbered_effects (number + 1) others effects)
  with_this effect effects h t = rw (h, t) refl

  pub without_this : (effect : Effect) (effects : List Effect) → is_method one.kind ≡ true → ((changing && effect.changes) || effect.invokes) ≡ false →
      with_effect (λ it. (changing && it.changes) || it.invokes) (numbered_effects number (one ∷ others) (effect ∷ effects))
      ≡ with_effect (λ it. (changing && it.changes) || it.invokes) (numbered_effects (number + 1) others effects)
  without_this effect effects h t = rw (h, t) refl
