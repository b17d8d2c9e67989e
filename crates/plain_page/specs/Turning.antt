-- What a batch makes of a page: the first puts all its nodes in, and a later one changes texts.
use Rattle.std.specs.Prelude.{◌≡◌, ℕ, Bool, ◌==◌, ◌&&◌, if◌then◌else◌, List, [], ◌∷◌, map, length, Option, Some, None, option_map}
use Rattle.page_core.specs.declared.counts.Counts.{Counts}
use Rattle.page_core.specs.declared.node.Node.{Node}
use Rattle.page_core.specs.declared.node.Node.TheOpen.{Node-F, Element, Text, Markup}
use Rattle.page_core.specs.declared.node.Node.TheFolds.{fold-Node}
use Rattle.plain_page.specs.declared.changes.Changed.{Changed}
use Rattle.plain_page.specs.declared.page_tree.PageTree.{PageTree}
use Rattle.plain_page.specs.Changes.{page_changes}
use Rattle.plain_page.specs.Plain.{are_all}
use Rattle.plain_page.specs.Spelling.{Spells}

-- a node of this layer is born with that batch, and its children are or not
abbrev pub is_born_layer : ℕ → Node-F Bool → Bool
is_born_layer number (Element born name attributes handlers children) = born == number && are_all children
is_born_layer number (Text born text) = born == number
is_born_layer number (Markup born text) = born == number

-- a node and all in it are born with that batch
abbrev pub is_born : ℕ → Node → Bool
is_born number = fold-Node Bool (is_born_layer number)

-- nodes and all in them are born with that batch
abbrev pub are_born : ℕ → List Node → Bool
are_born number nodes = are_all (map (is_born number) nodes)

-- the counts of a batch that puts nodes in
abbrev pub counts_of_nodes : List Node → Counts
counts_of_nodes nodes = record {
  prepend = length nodes;
  remove = 0;
  set = 0;
  unset = 0;
  text = 0;
  step_in = 0;
  step_out = 0;
  markup = 0;
  moves = 0;
  ends = 0;
}

-- the counts of a batch that changes texts, for which it goes into elements and out again
abbrev pub counts_of_changes : Changed → Counts
counts_of_changes changes = record {
  prepend = 0;
  remove = 0;
  set = 0;
  unset = 0;
  text = changes.texts;
  step_in = changes.elements;
  step_out = changes.elements;
  markup = 0;
  moves = 0;
  ends = 0;
}

-- the counts of the batch of this number that takes one page to the other; none where no batch does
abbrev pub counts_between : ℕ → List Node → List Node → Option Counts
counts_between number [] after = if are_born number after then Some (counts_of_nodes after) else None
counts_between number (node ∷ nodes) after = option_map counts_of_changes (page_changes (node ∷ nodes) after)

-- bytes, which spell the page afterwards, take one page to the other
pub record Turned (number : ℕ) (bytes : List ℕ) (before after : PageTree) (counts : Counts) : Type 0 where
  pub spelled : Spells bytes after.page.nodes
  pub counted : counts_between number before.page.nodes after.page.nodes ≡ Some counts
