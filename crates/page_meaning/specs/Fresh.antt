-- The page that items show, and the fresh rendering of a component by itself.
use Rattle.std.specs.Prelude.{ℕ, ◌+◌, List, [], ◌∷◌, ◌++◌, Option, Some, None}
use Rattle.std.specs.BTreeMap.{insert_entry}
use Rattle.cs_ast.specs.declared.value.Value.{Value}
use Rattle.cs_meaning.specs.Outcome.{Outcome}
use Rattle.cs_meaning.specs.Outcome as code
use Rattle.page_core.specs.ByName.{by_characters}
use Rattle.page_core.specs.declared.node.Node.{Node}
use Rattle.page_core.specs.declared.node.Node.TheOpen as node
use Rattle.page_core.specs.declared.node.Node.TheViews.{roll-Node}
use Rattle.razor_ast.specs.declared.component.Component.{Component}
use Rattle.razor_rules.specs.Programs.{home_of}
use Rattle.drawing_meaning.specs.declared.fault.PageFault.{PageFault}
use Rattle.drawing_meaning.specs.declared.fault.PageFault.TheVariants as fault
use Rattle.frame_core.specs.declared.item.Item.{Item}
use Rattle.frame_core.specs.declared.item.Item.TheOpen.{Item-F}
use Rattle.frame_core.specs.declared.item.Item.TheFolds.{fold-Item}
use Rattle.frame_core.specs.declared.item_attribute.ItemAttribute.{ItemAttribute}
use Rattle.frame_core.specs.declared.item_attribute.ItemValue.{ItemValue}
use Rattle.frame_core.specs.declared.item_attribute.ItemValue.TheVariants as stands
use Rattle.drawing_meaning.specs.Drawing.{Drawn}
use Rattle.drawing_meaning.specs.Drawing as drawing
use Rattle.page_meaning.specs.Initial.{initial_fields, fields_of, no_fields}
use Rattle.page_meaning.specs.Items.{items}

-- attributes and handlers by their names, and how many handlers were given an id so far
pub record Dressed : Type 0 where
  pub attributes : List (List ℕ × List ℕ)
  pub handlers : List (List ℕ × ℕ)
  pub given : ℕ

-- one attribute or handler more: a handler gets the next id
abbrev pub also_value : ItemValue → List ℕ → Dressed → Dressed
also_value (stands.Text text) name it = record { attributes = insert_entry by_characters it.attributes name text; handlers = it.handlers; given = it.given }
also_value (stands.Handler handler) name it = record { attributes = it.attributes; handlers = insert_entry by_characters it.handlers name (it.given + 1); given = it.given + 1 }

abbrev pub also : ItemAttribute → Dressed → Dressed
also one it = also_value one.value one.name it

abbrev pub all_worn : List ItemAttribute → Dressed → Dressed
all_worn [] it = it
all_worn (one ∷ others) it = all_worn others (also one it)

abbrev pub dressed : ℕ → List ItemAttribute → Dressed
dressed given worn = all_worn worn (record { attributes = []; handlers = []; given = given })

-- nodes, and how many handlers were given an id so far
pub record Shown : Type 0 where
  pub nodes : List Node
  pub given : ℕ

abbrev pub shown : List Node → ℕ → Shown
shown nodes given = record { nodes = nodes; given = given }

-- what is shown behind so many handlers; what stands for a component shows nothing by itself
abbrev pub Shows : Type 0
Shows = ℕ → Option Shown

abbrev pub and_also : List Node → Option Shown → Option Shown
and_also nodes None = None
and_also nodes (Some more) = Some (shown (nodes ++ more.nodes) more.given)

abbrev pub then_all : Option Shown → (ℕ → Option Shown) → Option Shown
then_all None next = None
then_all (Some first) next = and_also first.nodes (next first.given)

-- one after another, in the order of the document
abbrev pub all_shown : List Shows → Shows
all_shown [] given = Some (shown [] given)
all_shown (one ∷ others) given = then_all (one given) (all_shown others)

abbrev pub in_element : ℕ → List ℕ → Dressed → Option Shown → Option Shown
in_element born name it None = None
in_element born name it (Some inner) = Some (shown (roll-Node (node.Element born name it.attributes it.handlers inner.nodes) ∷ []) inner.given)

-- an item, by what those in it show, each node born with a batch: regions are flattened
abbrev pub shown_layer : ℕ → Item-F Shows → Shows
shown_layer born (Item-F.Element number name key worn children) given = in_element born name (dressed given worn) (all_shown children (dressed given worn).given)
shown_layer born (Item-F.Text number text) given = Some (shown (roll-Node (node.Text born text) ∷ []) given)
shown_layer born (Item-F.Markup number text) given = Some (shown (roll-Node (node.Markup born text) ∷ []) given)
shown_layer born (Item-F.Component number order made key parameters) given = None
shown_layer born (Item-F.Region number key children) given = all_shown children given

abbrev pub shown_item : ℕ → Item → Shows
shown_item born = fold-Item Shows (shown_layer born)

abbrev pub items_shown : ℕ → List Item → Shows
items_shown born [] given = Some (shown [] given)
items_shown born (one ∷ others) given = then_all (shown_item born one given) (items_shown born others)

-- what a first batch comes to: nodes, or the fault that ends it
pub data First : Type 0 where
  page : List Node → First
  ended : PageFault → First
  stuck : First

abbrev pub nodes_of : Option Shown → First
nodes_of None = stuck
nodes_of (Some it) = page it.nodes

abbrev pub of_items : Drawn (List Item) → First
of_items (drawing.gives all d) = nodes_of (items_shown 1 all 0)
of_items (drawing.faults met d) = ended met
of_items drawing.stuck = stuck

-- behind initial values
abbrev pub of_fields : Outcome (List Value) → (List Value → First) → First
of_fields (code.gives values s) next = next values
of_fields (code.faults met s) next = ended (fault.Code met)
of_fields _ next = stuck

-- the fresh rendering of a program of one component that has no tags of components, no parameters and no lifecycle methods: the page of its items over its initial fields, as instance 1 at the top of the page
unfoldable pub fresh_alone : Component → First
fresh_alone component =
    of_fields (initial_fields (home_of (component ∷ []) 0 component) 1 component.members)
    (λ values. of_items (items (component ∷ []) no_fields (fields_of 1 values) 0 component 1 1))
