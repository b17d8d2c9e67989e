-- Templates that keep to their signatures are never stuck, whatever fragments are shown in them.
use Rattle.std.proofs.Common.{◌≡◌, ℕ, zero, suc, ◌-◌, List, sym, subst}
use Rattle.std.specs.Prelude.{Bool, Option, Some}
use Rattle.cs_ast.specs.declared.code.Code.{Code}
use Rattle.cs_ast.specs.declared.cs_type.CsType.{CsType}
use Rattle.cs_ast.specs.declared.value.Value.{Value}
use Rattle.cs_meaning.specs.State.{Fields}
use Rattle.cs_meaning.specs.Meaning.{setting}
use Rattle.cs_typing.specs.Types.{Signature, Types}
use Rattle.cs_typing.specs.Values.{ValuesHave}
use Rattle.cs_typing.specs.Expressions.{Surroundings}
use Rattle.cs_typing.specs.Bodies.{surroundings_of, BodiesHave}
use Rattle.cs_typing.specs.States.{FieldsHave}
use Rattle.drawing_meaning.specs.Acts.{Act, all_siblings}
use Rattle.drawing_meaning.specs.Drawing.{Drawing, Draws, over_locals, done, with_state, IsDrawn}
use Rattle.drawing_meaning.specs.Shows.{shows, stage_at, template_items}
use Rattle.drawing_meaning.specs.Stages.{Stage}
use Rattle.frame_core.specs.declared.item.Item.{Item}
use Rattle.page_typing.specs.Drawings.{DrawnFits, DrawingHas, ItemsDrawn, OutputDrawn, ShowHas, StageHas}
use Rattle.page_typing.specs.Acts.{ActHas}
use Rattle.page_typing.specs.Templates.{TemplateHas, TemplatesHave}
use Rattle.page_typing.proofs.Drawing.{then_drawn, fits_drawn}
use Rattle.page_typing.proofs.ActSoundness.{act_drawn, siblings_drawn}
use Rattle.cs_meaning.specs.State.{over}

module _ (types : Types) (components : Bool) (parameters : Fields) (bodies : List (ℕ × Code)) (templates : ℕ → Option (List Act))
    (params : FieldsHave types types.parameters parameters) (have : BodiesHave types bodies) (typed : TemplatesHave types components templates) where
  -- over other locals
  over_drawn : (locals inner captured : List CsType) (captures : List Value) (draws : Draws (List Item)) (d : Drawing) → ValuesHave types captured captures → DrawingHas types locals d
      → ((d1 : Drawing) → DrawingHas types captured d1 → DrawnFits (ItemsDrawn types components inner) (draws d1)) → DrawnFits (ItemsDrawn types components locals) (over_locals captures draws d)
  over_drawn locals inner captured captures draws d hc h f =
      then_drawn (ItemsDrawn types components inner) (ItemsDrawn types components locals) (draws (with_state (over captures d.state) d)) (λ x d1. done x (with_state (over d.state.locals d1.state) d1))
      (f (with_state (over captures d.state) d) (hc, h.1)) (λ items d1 k. (k.0, (h.0, k.1.1)))

  -- what fragments show, where so many calls may still be inside one another
  shows_fit : (calls : ℕ) → ShowHas types components (shows parameters bodies templates calls)
  unfolding shows
  shows_fit zero who place template captures depth locals d numbered there hc h = tt
  shows_fit (suc calls) who place template captures depth locals d numbered there hc h =
      let found = typed.has place template numbered in
      subst (λ o. DrawnFits (ItemsDrawn types components locals) (template_items parameters bodies templates o captures (record { around = setting who parameters bodies (100 - calls); depth = depth; show = shows parameters bodies templates calls }) d)) (sym found.1)
      (over_drawn locals found.2.0 template.locals captures (all_siblings found.0 (record { around = setting who parameters bodies (100 - calls); depth = depth; show = shows parameters bodies templates calls })) d hc h
      (λ d1 k. siblings_drawn (surroundings_of types template) components (record { around = setting who parameters bodies (100 - calls); depth = depth; show = shows parameters bodies templates calls })
      (record { around = record { there = there; parameters_have = params; bodies_have = have }; shows = shows_fit calls }) template.locals found.2.0 found.0 d1 found.2.1 k))

  -- where code of an instance that is there runs
  pub stage_has : (component who calls depth : ℕ) → types.instances who ≡ Some component → StageHas (record { types = types; component = component }) components (stage_at parameters bodies templates who calls depth)
  stage_has component who calls depth there = record { around = record { there = there; parameters_have = params; bodies_have = have }; shows = shows_fit (100 - calls) }

-- a part
pub part_sound : (at : Surroundings) (components breaks : Bool) (locals inner : List CsType) (act : Act) (stage : Stage) (d : Drawing) → StageHas at components stage → ActHas at components breaks locals inner act → DrawingHas at.types locals d
    → IsDrawn (act stage d) × DrawnFits (OutputDrawn at.types components breaks locals inner) (act stage d)
part_sound at components breaks locals inner act stage d stands h hd =
    let o = act_drawn at components stage stands breaks locals inner act d h hd in
    (fits_drawn (OutputDrawn at.types components breaks locals inner) (act stage d) o, o)

-- a template
pub template_sound : (types : Types) (components : Bool) (parameters : Fields) (bodies : List (ℕ × Code)) (templates : ℕ → Option (List Act)) (template : Signature) (acts : List Act) (who calls depth : ℕ) (d : Drawing)
    → FieldsHave types types.parameters parameters → BodiesHave types bodies → TemplatesHave types components templates
    → types.instances who ≡ Some template.component → TemplateHas types components template acts → DrawingHas types template.locals d
    → IsDrawn (all_siblings acts (stage_at parameters bodies templates who calls depth) d)
template_sound types components parameters bodies templates template acts who calls depth d params have typed there h hd =
    fits_drawn (ItemsDrawn types components h.0) (all_siblings acts (stage_at parameters bodies templates who calls depth) d)
    (siblings_drawn (surroundings_of types template) components (stage_at parameters bodies templates who calls depth) (stage_has types components parameters bodies templates params have typed template.component who calls depth there) template.locals h.0 acts d h.1 hd)
