-- An instance of a program that keeps to its types is never stuck.
use Rattle.std.proofs.Common.{◌≡◌, ℕ, List, [], sym, subst}
use Rattle.std.specs.Prelude.{slice_get, Some, true}
use Rattle.cs_meaning.specs.State.{Fields}
use Rattle.cs_typing.specs.States.{FieldsHave}
use Rattle.cs_typing.specs.States as states
use Rattle.cs_typing.specs.Types.{Types}
use Rattle.cs_typing.specs.Values as has
use Rattle.drawing_meaning.specs.Drawing.{IsDrawn}
use Rattle.drawing_meaning.specs.Shows.{stage_at, at_first}
use Rattle.razor_ast.specs.declared.component.Component.{Component}
use Rattle.page_meaning.specs.Items.{bodies, templates, items_from, items_of_acts}
use Rattle.page_typing.specs.Drawings.{DrawnFits, ItemsDrawn}
use Rattle.page_typing.proofs.ActSoundness.{siblings_drawn}
use Rattle.page_typing.proofs.Drawing.{fits_drawn}
use Rattle.page_typing.proofs.TemplateSoundness.{stage_has}
use Rattle.program_typing.specs.Programs.{ProgramHas, HasTemplate}

module _ (types : Types) (components : List Component) (typed : ProgramHas types components) where
  pub instance_drawn : (parameters fields : Fields) (position : ℕ) (component : Component) (who depth : ℕ) → slice_get components position ≡ Some component → types.instances who ≡ Some position
      → FieldsHave types types.parameters parameters → FieldsHave types types.fields fields
      → (inner : HasTemplate types components position component) → DrawnFits (ItemsDrawn types true inner.inner) (items_from components parameters position component who depth (at_first fields 1000000))
  unfolding items_from
  instance_drawn parameters fields position component who depth there made given own template =
      let stage = stage_at parameters (bodies components) (templates components) who 1 depth in
      let stands = stage_has types true parameters (bodies components) (templates components) given typed.bodies typed.fragments position who 1 depth made in
      subst (λ z. DrawnFits (ItemsDrawn types true template.inner) (items_of_acts z stage (at_first fields 1000000))) (sym template.comes)
      (siblings_drawn (record { types = types; component = position }) true stage stands [] template.inner template.it.made (at_first fields 1000000) template.has (has.none, (own, states.none)))

  pub never_stuck : (parameters fields : Fields) (position : ℕ) (component : Component) (who depth : ℕ) → slice_get components position ≡ Some component → types.instances who ≡ Some position
      → FieldsHave types types.parameters parameters → FieldsHave types types.fields fields
      → IsDrawn (items_from components parameters position component who depth (at_first fields 1000000))
  never_stuck parameters fields position component who depth there made given own =
      let template = typed.each position component there in
      fits_drawn (ItemsDrawn types true template.inner) (items_from components parameters position component who depth (at_first fields 1000000))
      (instance_drawn parameters fields position component who depth there made given own template)
