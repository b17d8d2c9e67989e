-- A component that files spell, that breaks no rule and stands alone comes to its parts, and shows a page or ends with a fault.
use Rattle.std.proofs.Common.{◌≡◌, ℕ, List, [], ◌∷◌, ◌++◌, refl, sym, ap, subst, ◌∙◌, arith}
use Rattle.std.specs.Prelude.{true, None, slice_index_or}
use Rattle.std.specs.List.{All}
use Rattle.component_files.specs.declared.files.SourceFile.{SourceFile}
use Rattle.component_files.specs.Files.{AllSpell}
use Rattle.component_files.specs.Files as file
use Rattle.razor_ast.specs.declared.component.Component.{Component}
use Rattle.razor_rules.specs.Programs.{home_of, IsSpelled, IsAccepted, BreaksFirst}
use Rattle.cs_rules.specs.Judged.{Judged}
use Rattle.frame_parts.specs.Components.{declared, field_in, parameter_in, meaning, component_meaning}
use Rattle.page_meaning.specs.Fresh.{fresh_alone}
use Rattle.page_meaning.specs.Fresh as fresh
use Rattle.page_meaning.specs.Items.{component_acts}
use Rattle.page_meaning.specs.Resolved.{Resolves, placing, behind_placed, judged, ◌>>=◌}
use Rattle.page_meaning.specs.Resolved.{alone as placed_alone}
use Rattle.razor_rules.specs.Scopes.{Home}
use Rattle.standing_alone.specs.Alone.{stands_alone}
use Rattle.page_typing.specs.Pages.{IsShown}
use Rattle.page_typing.proofs.AloneRules.{is_sound}
use Rattle.page_typing.proofs.SpelledComponents.{accepted_shown, accepted_acts}
use Rattle.alone_pages.proofs.Members.{without_tags, without_parameters}
use Rattle.alone_pages.proofs.Parts.{Comes, fields_come}

-- what a file spells is spelled
pub spelled_by : (files : List SourceFile) (component : Component) → AllSpell files (component ∷ []) → IsSpelled component
spelled_by files component (file.more one _ others _ h hs) = (_, _, h.1.1.1)

-- one after the other
both : {A B : Type 0} (j : Resolves A) (next : A → Resolves B) → Comes j → ((x : A) → Comes (next x)) → Comes (j >>= next)
both j next h further =
    let y = further h.0.made in
    (placing y.0.made (h.0.placed ++ y.0.placed), ap (λ z. z >>= next) h.1 ∙ ap (behind_placed h.0.placed) y.1)

judged_comes : {A : Type 0} (j : Judged A) → Comes j → Comes (judged j)
judged_comes j h = (placing h.0 [], ap judged h.1)

module _ (files : List SourceFile) (component : Component) (spelled : AllSpell files (component ∷ [])) (sound : BreaksFirst (component ∷ []) None) where
  pub accepted : IsAccepted (component ∷ [])
  accepted = record { some = omega arith; few = omega arith; spelled = only; sound = sound }
    where
      only : All IsSpelled (component ∷ [])
      only k other below =
          let first : k ≡ 0 = omega arith in
          subst (λ (z : ℕ). IsSpelled (slice_index_or (component ∷ []) z other)) (sym first) (spelled_by files component spelled)

  module _ (alone : stands_alone component ≡ true) where
    pub shown : IsShown (fresh_alone component)
    shown = accepted_shown component accepted (without_tags component alone) (without_parameters component alone)

    pub never_stuck : fresh_alone component ≡ fresh.stuck → ⊥
    never_stuck e = subst IsShown e shown

    pub parts_come : Comes (component_meaning (home_of (component ∷ []) 0 component) component)
    unfolding component_meaning
    parts_come =
        let home : Home = home_of (component ∷ []) 0 component in
        let rules = is_sound component sound in
        let fields = fields_come home rules.invoking rules.circular component.members rules.members in
        let acts = accepted_acts component accepted (without_tags component alone) (without_parameters component alone) in
        both (judged (declared (field_in home) component.members)) (λ own. judged (declared (parameter_in home) component.members) >>= λ parameters. component_acts home component >>= λ them. placed_alone (meaning home component own parameters them))
        (judged_comes _ fields.0)
        (λ own. both (judged (declared (parameter_in home) component.members)) (λ parameters. component_acts home component >>= λ them. placed_alone (meaning home component own parameters them))
        (judged_comes _ fields.1)
        (λ parameters. both (component_acts home component) (λ them. placed_alone (meaning home component own parameters them)) acts
        (λ them. (placing (meaning home component own parameters them) [], refl))))
