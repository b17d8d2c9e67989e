-- The items of one rendering of one instance.
use Rattle.std.specs.Prelude.{ℕ, ◌+◌, List, [], ◌∷◌, ◌++◌, map, Option}
use Rattle.std.specs.BTreeMap.{is_at}
use Rattle.std.specs.Map.{lookup}
use Rattle.std.specs.Ordering.{nat_cmp}
use Rattle.cs_ast.specs.declared.code.Code.{Code}
use Rattle.cs_meaning.specs.State.{Fields}
use Rattle.cs_rules.specs.Judged.{fine, breaks}
use Rattle.drawing_meaning.specs.Acts.{Act, all_siblings}
use Rattle.drawing_meaning.specs.Drawing.{Drawing, Drawn, Draws, stuck}
use Rattle.drawing_meaning.specs.Shows.{stage_at, at_first}
use Rattle.drawing_meaning.specs.Stages.{Stage}
use Rattle.frame_core.specs.declared.item.Item.{Item}
use Rattle.razor_ast.specs.declared.component.Component.{Component}
use Rattle.razor_rules.specs.Programs.{home_of}
use Rattle.razor_rules.specs.Scopes.{Home, member_scope}
use Rattle.page_meaning.specs.Bodies.{member_bodies}
use Rattle.page_meaning.specs.Parts.{part_of, in_order}
use Rattle.page_meaning.specs.Placed.{Placed, with_entries, bodies_in, templates_in}
use Rattle.page_meaning.specs.Resolved.{Resolves, ◌>>=◌}

-- what the template of a component comes to, behind the bodies of its members
unfoldable pub component_acts : Home → Component → Resolves (List Act)
component_acts home component = do
  bodies ← member_bodies home home.first component.members
  in_order (map part_of component.nodes) home (member_scope home)

abbrev pub placed_by : {A : Type 0} → Resolves A → List (ℕ × Placed)
placed_by (fine it) = it.placed
placed_by (breaks rule place) = []

-- the bodies and templates of the components from a position on
abbrev pub placed_from : List Component → ℕ → List Component → List (ℕ × Placed)
placed_from components position [] = []
placed_from components position (one ∷ others) = placed_by (component_acts (home_of components position one) one) ++ placed_from components (position + 1) others

-- all bodies and templates of a program
unfoldable pub placed : List Component → List (ℕ × Placed)
placed components = placed_from components 0 components

-- the bodies of a program by their numbers
unfoldable pub bodies : List Component → List (ℕ × Code)
bodies components = with_entries [] (bodies_in (placed components))

-- what its fragments do by their numbers
unfoldable pub templates : List Component → ℕ → Option (List Act)
templates components number = lookup (is_at (nat_cmp number)) (with_entries [] (templates_in (placed components)))

-- the items of what breaks no rule
abbrev pub items_of_acts : Resolves (List Act) → Stage → Draws (List Item)
items_of_acts (fine it) stage d = all_siblings it.made stage d
items_of_acts (breaks rule place) stage d = stuck

module _ (components : List Component) (parameters : Fields) where
  -- the items of an instance of the component at a position, whose slot lies so deep in the page, from a state on
  unfoldable pub items_from : ℕ → Component → ℕ → ℕ → Drawing → Drawn (List Item)
  items_from position component who depth d =
      items_of_acts (component_acts (home_of components position component) component) (stage_at parameters (bodies components) (templates components) who 1 depth) d

-- the items of an instance of the component at a position, with these own fields and parameters of all instances, on 1,000,000 units; or the first fault
abbrev pub items : List Component → Fields → Fields → ℕ → Component → ℕ → ℕ → Drawn (List Item)
items components parameters fields position component who depth = items_from components parameters position component who depth (at_first fields 1000000)
