-- Which states a plain stage stands for.
use Rattle.std.specs.Prelude.{◌≡◌, ◌==◌, is_none}
use Rattle.first_click.specs.declared.component.Component.{Component}
use Rattle.plain_page.specs.declared.stage.PlainStage.{PlainStage}
use Rattle.plain_page.specs.Machine.{PlainState}

-- the component that a stage holds, with the present values of its fields
abbrev pub component_of : PlainStage → Component
component_of stage = record { fields = stage.present.fields.items; methods = stage.methods; handlers = stage.handlers; items = stage.items }

-- a stage stands for a state, of which it keeps neither the fields at the last batch nor its counts
pub record Stands (stage : PlainStage) (state : PlainState) : Type 0 where
  pub component : state.component ≡ component_of stage
  pub made : state.made ≡ stage.made
  pub released : state.released ≡ stage.released
  pub dirty : state.dirty ≡ stage.dirty
  pub begun : is_none state.rendered ≡ (stage.made == 0)

pub stands_made : (stage : PlainStage) (state : PlainState) → Stands stage state → state.made ≡ stage.made
stands_made stage state stands = stands.made

pub stands_released : (stage : PlainStage) (state : PlainState) → Stands stage state → state.released ≡ stage.released
stands_released stage state stands = stands.released
