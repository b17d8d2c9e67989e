-- What a stage does is a step of each state that it stands for.
use Rattle.std.proofs.Common.{◌≡◌, ℕ, ◌+◌, List, [], ◌∷◌, Option, Some, None, option_map, arith, refl, sym, ◌∙◌, ap, subst}
use Rattle.std.specs.Prelude.{◌==◌, is_none}
use Rattle.std.proofs.lemmas.Bool.Decides.{Decides-eqb}
use Rattle.page_core.specs.declared.counts.Counts.{Counts}
use Rattle.page_core.specs.declared.node.Node.{Node}
use Rattle.hub_messages.specs.declared.stage.Made.TheVariants.{Batch}
use Rattle.hub_messages.specs.declared.outcome.CircuitFault.{CircuitFault}
use Rattle.first_click.specs.declared.component.Component.{Component}
use Rattle.first_click.specs.declared.component.Field.{Field}
use Rattle.first_click.specs.declared.component.Item.{Item}
use Rattle.first_click.specs.Rendering.{fresh_nodes}
use Rattle.plain_page.specs.declared.stage.PlainStage.{PlainStage}
use Rattle.plain_page.specs.Running.{Ran, code_at, meaning_at}
use Rattle.plain_page.specs.Spelling.{Spells}
use Rattle.plain_page.specs.Turning.{counts_of_nodes, counts_of_changes, counts_between, Turned}
use Rattle.plain_page.specs.Machine.{PlainState, nodes_over, plain_tree, refusal, told, with_fields, Runs, Acts, ActsUnless, behind_batch, Renders}
use Rattle.plain_page.specs.Standing.{component_of, Stands}
use Rattle.plain_page.proofs.FreshLemmas.{fresh_born, fresh_alike}

-- a batch takes the page over some fields, or none before the first batch, to that over others
counted : (items : List Item) (fields : List Field) (rendered : Option (List Field)) (made : ℕ) → is_none rendered ≡ (made == 0) →
    (counts : Counts) × (counts_between (made + 1) (elim rendered [ None ↦ [] | Some before ↦ fresh_nodes 1 before items ]) (fresh_nodes 1 fields items) ≡ Some counts)
counted items fields None made begun =
    let none : made ≡ 0 = (Decides-eqb made 0).0 (sym begun) in
    let first : made + 1 ≡ 1 = omega arith in
    (counts_of_nodes (fresh_nodes 1 fields items), rw (first, fresh_born items fields) refl)
counted [] fields (Some before) made begun = (counts_of_nodes [], refl)
counted (it ∷ items) fields (Some before) made begun =
    let alike = fresh_alike (it ∷ items) before fields in
    (counts_of_changes alike.0, ap (option_map counts_of_changes) alike.1)

nodes_are : (state : PlainState) (rendered : Option (List Field)) → nodes_over state rendered ≡ elim rendered [ None ↦ [] | Some before ↦ fresh_nodes 1 before state.component.items ]
nodes_are state None = refl
nodes_are state (Some before) = refl

-- a rendering is a step of each state that a stage stands for
pub render_step : (stage : PlainStage) (bytes : List ℕ) → Spells bytes (fresh_nodes 1 stage.present.fields.items stage.items) → (before : PlainState) → Stands stage before →
    (counts : Counts) × Renders before (Batch bytes) (behind_batch before counts)
render_step stage bytes spelled before stands =
    let begun : is_none before.rendered ≡ (before.made == 0) = stands.begun ∙ ap (λ (n : ℕ). n == 0) (sym stands.made) in
    let found = counted before.component.items before.component.fields before.rendered before.made begun in
    let spells : Spells bytes (fresh_nodes 1 before.component.fields before.component.items) =
    subst (λ (c : Component). Spells bytes (fresh_nodes 1 c.fields c.items)) (sym stands.component) spelled in
    let turned : Turned (before.made + 1) bytes (plain_tree before) (plain_tree (behind_batch before found.0)) found.0 = record {
      spelled = spells;
      counted = ap (λ (nodes : List Node). counts_between (before.made + 1) nodes (fresh_nodes 1 before.component.fields before.component.items)) (nodes_are before before.rendered) ∙ found.1;
    } in
    (found.0, (turned, refl))

-- the component of a state behind code that left these fields
pub component_behind : (stage : PlainStage) (before : PlainState) (fields : List Field) → Stands stage before →
    (with_fields before fields).component ≡ record (component_of stage) { fields = fields }
component_behind stage before fields stands =
    let make : Component → Component = λ c. record c { fields = fields } in
    ap make stands.component

-- code that ran is a step of each state that a stage stands for
pub run_step : (stage : PlainStage) (handler : ℕ) (name : List ℕ) (text : Option (List ℕ)) (fault : Option CircuitFault) (fields : List Field) (before : PlainState) → Stands stage before →
    None ≡ refusal before handler name text →
    Ran fault stage.present.fields.items fields (meaning_at stage.present.fields.items (code_at stage.methods stage.handlers handler)) →
    Acts before handler name text (told fault) (with_fields before fields)
run_step stage handler name text fault fields before stands free ran =
    let code : Ran fault before.component.fields fields (meaning_at before.component.fields (code_at before.component.methods before.component.handlers handler)) =
    subst (λ (component : Component). Ran fault component.fields fields (meaning_at component.fields (code_at component.methods component.handlers handler))) (sym stands.component) ran in
    let runs : Runs before handler (told fault) (with_fields before fields) =
    record { fault = fault; fields = fields; ran = code; answered = refl; changed = refl } in
    subst (λ refused. ActsUnless refused before handler (told fault) (with_fields before fields)) free runs
