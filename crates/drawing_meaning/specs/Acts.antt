-- What parts of a template do, one after another: they make items, and a `break` may lead out of the section round them.
use Rattle.std.specs.Prelude.{false, List, [], ◌∷◌, ◌++◌, if◌then◌else◌}
use Rattle.frame_core.specs.declared.item.Item.{Item}
use Rattle.drawing_meaning.specs.declared.output.Output.{Output}
use Rattle.drawing_meaning.specs.Drawing.{Draws, stuck, done, ◌>>=◌}
use Rattle.drawing_meaning.specs.Keys.{siblings}
use Rattle.drawing_meaning.specs.Stages.{Stage}

abbrev pub output : List Item → Output
output items = record { items = items; broke = false }

-- one output behind items
abbrev pub behind : List Item → Output → Output
behind items out = record out { items = items ++ out.items }

-- what a part of a template makes
abbrev pub Act : Type 0
Act = Stage → Draws Output

abbrev pub unless_broke : Output → Draws Output → Draws Output
unless_broke out next = if out.broke then done out else (do
  other ← next
  done (behind out.items other))

-- one after another, up to a `break`
unfoldable pub in_order : List Act → Act
in_order [] stage = done (output [])
in_order (one ∷ others) stage = do
  out ← one stage
  unless_broke out (in_order others stage)

-- items of a list that no `break` leads out of
abbrev pub ended : Output → Draws (List Item)
ended out = if out.broke then (λ d. stuck) else siblings out.items

-- siblings, one after another
abbrev pub all_siblings : List Act → Stage → Draws (List Item)
all_siblings acts stage = do
  out ← in_order acts stage
  ended out
