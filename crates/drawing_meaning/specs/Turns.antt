-- What the loops of a template make: each turn is a region.
use Rattle.std.specs.Prelude.{ℕ, zero, suc, ◌+◌, Bool, true, List, [], ◌∷◌, if◌then◌else◌, Option, Some, None}
use Rattle.cs_ast.specs.declared.code.Code.{Code}
use Rattle.cs_ast.specs.declared.value.Value.{Value}
use Rattle.cs_ast.specs.declared.value.Value.TheVariants as v
use Rattle.cs_meaning.specs.declared.fault.Fault.TheVariants.{FuelSpent}
use Rattle.cs_meaning.specs.Kinds.{items_of}
use Rattle.cs_meaning.specs.Reading.{used}
use Rattle.cs_meaning.specs.State.{with_local, spent}
use Rattle.frame_core.specs.declared.item.Item.{Item}
use Rattle.frame_core.specs.declared.item.Item.TheVariants as item
use Rattle.drawing_meaning.specs.declared.fault.PageFault.TheVariants as fault
use Rattle.drawing_meaning.specs.declared.output.Output.{Output}
use Rattle.drawing_meaning.specs.Drawing.{Draws, faults, done, run, pay, scoped, with_state, and_then, ◌>>=◌}
use Rattle.drawing_meaning.specs.Stages.{Stage, code_value, truth}
use Rattle.drawing_meaning.specs.Keys.{key_of_turn}
use Rattle.drawing_meaning.specs.Acts.{Act, output, in_order, ended}

-- a turn of a loop is a region, whose key is that of the item which the node of a number makes in it
unfoldable pub turn : ℕ → Option ℕ → List Act → Stage → Draws Item
turn number keyed body stage = do
  paid ← pay
  out ← scoped (in_order body stage)
  items ← ended out
  done (item.Region number (key_of_turn keyed items) items)

-- a turn in front of those behind it
abbrev pub turn_and_more : Draws Item → Draws Value → Draws (List Item) → Draws (List Item)
turn_and_more one step more = do
  first ← one
  stepped ← step
  others ← more
  done (first ∷ others)

-- at most so many turns
unfoldable pub turns : ℕ → Draws Bool → Draws Item → Draws Value → Draws (List Item)
turns zero test one step d = faults (fault.Code FuelSpent) (with_state (spent d.state) d)
turns (suc most) test one step d = and_then (test d) (λ goes_on. if goes_on then turn_and_more one step (turns most test one step) else done [])

-- each turn costs a unit at least
abbrev pub loop : Draws Bool → Draws Item → Draws Value → Draws Output
loop test one step = do
  items ← λ d. turns (d.state.left + 1) test one step d
  done (output items)

abbrev pub nothing : Draws Value
nothing = done v.Null

unfoldable pub while_loop : ℕ → Code → Option ℕ → List Act → Act
while_loop number test keyed body stage = do
  paid ← pay
  loop (truth test stage) (turn number keyed body stage) nothing

-- a test that may be absent, which is true then
abbrev pub test_or_true : Option Code → Stage → Draws Bool
test_or_true None stage = done true
test_or_true (Some test) stage = truth test stage

abbrev pub code_or_nothing : Option Code → Stage → Draws Value
code_or_nothing None stage = nothing
code_or_nothing (Some code) stage = code_value code stage

abbrev pub behind_start : ℕ → Option Code → Option Code → Option Code → Option ℕ → List Act → Act
behind_start number start test step keyed body stage = do
  x ← code_or_nothing start stage
  loop (test_or_true test stage) (turn number keyed body stage) (code_or_nothing step stage)

-- the start is in the scope of the whole loop
unfoldable pub for_loop : ℕ → Option Code → Option Code → Option Code → Option ℕ → List Act → Act
for_loop number start test step keyed body stage = do
  paid ← pay
  scoped (behind_start number start test step keyed body stage)

-- with a new local
abbrev pub in_new_local : Value → Draws Item → Draws Item
in_new_local x draws = scoped (λ d. draws (with_state (with_local x d.state) d))

-- a turn for each value
unfoldable pub each_turn : List Value → Draws Item → Draws (List Item)
each_turn [] one = done []
each_turn (x ∷ xs) one = do
  first ← in_new_local x one
  others ← each_turn xs one
  done (first ∷ others)

-- the list is taken once
unfoldable pub for_each : ℕ → Code → Option ℕ → List Act → Act
for_each number list keyed body stage = do
  paid ← pay
  x ← code_value list stage
  xs ← run (used x (items_of x))
  items ← each_turn xs (turn number keyed body stage)
  done (output items)
