-- What a counter's screen shows, and what batches make of it.
use Rattle.std.specs.Prelude.{◌≡◌, ℕ, ◌==◌, List, [], ◌∷◌, codes, if◌then◌else◌}
use Rattle.std.specs.Fmt.{decimal}
use Rattle.page_core.specs.declared.counts.Counts.{Counts}
use Rattle.page_core.specs.declared.node.Node.{Node}
use Rattle.page_core.specs.declared.node.Node.TheOpen as node
use Rattle.page_core.specs.declared.node.Node.TheViews.{roll-Node}
use Rattle.counter_stage.specs.declared.tree.CounterTree.{CounterTree}
use Rattle.counter_stage.specs.declared.tree.CounterTree.TheVariants.{Blank, Shows}

-- the text of a number
abbrev pub text_of : ℕ → List Node
text_of number = roll-Node (node.Text 1 (decimal number)) ∷ []

-- a button with the number, whose handler of clicks has the id 1
abbrev pub button : ℕ → Node
button number = roll-Node (node.Element 1 (codes "button") [] ((codes "onclick", 1) ∷ []) (text_of number))

-- the page of a tree
abbrev pub page_of : CounterTree → List Node
page_of Blank = []
page_of (Shows number) = button number ∷ []

-- the first batch puts the button in
abbrev pub put_in : Counts
put_in = record { prepend = 1; remove = 0; set = 0; unset = 0; text = 0; step_in = 0; step_out = 0; markup = 0; moves = 0; ends = 0 }

-- each later one changes its text
abbrev pub text_changed : Counts
text_changed = record { prepend = 0; remove = 0; set = 0; unset = 0; text = 1; step_in = 1; step_out = 1; markup = 0; moves = 0; ends = 0 }

-- the counts of the batch of a number
abbrev pub counts_of : ℕ → Counts
counts_of number = if number == 1 then put_in else text_changed

-- a batch is the number that is shown then, as one byte
abbrev pub Turned : ℕ → List ℕ → CounterTree → CounterTree → Counts → Type 0
Turned number bytes before Blank counts = ⊥
Turned number bytes before (Shows shown) counts = (bytes ≡ shown ∷ []) × (counts ≡ counts_of number)
