use Rattle.std.proofs.Common.{◌≡◌, ◌+◌, ◌*◌, ◌≤◌, map, drop}
use Rattle.std.specs.Option.{option_copied}
use Rattle.drawing_meaning.specs.Acts.{in_order}
use Rattle.drawing_meaning.specs.Turns.{turn, turns, each_turn, test_or_true, code_or_nothing}
use Rattle.frame_program.specs.Operations.{act_of}
use Rattle.frame_run.specs.Agrees.{reached, stage_in}
use Rattle.frame_run.proofs.SequenceLemmas.{in_front_of}
use Rattle.frame_run.proofs.TurnLemmas.{items_before}
use Rattle.frame_run.proofs.+drawing.Given as goal

-- each operation that others are in pays a unit before these, and so does each turn: the units left bound the depth
abbrev pub decreases-nodes::draw : goal.decreases-nodes::draw
decreases-nodes::draw g l = 16 * l.progress.now.left + 8

abbrev pub decreases-nodes::block : goal.decreases-nodes::block
decreases-nodes::block g l = 16 * l.progress.now.left + 1

abbrev pub decreases-nodes::branch : goal.decreases-nodes::branch
decreases-nodes::branch g l = 16 * l.progress.now.left + 1

abbrev pub decreases-nodes::switch : goal.decreases-nodes::switch
decreases-nodes::switch g l = 16 * l.progress.now.left + 1

abbrev pub decreases-children::in_order : goal.decreases-children::in_order
decreases-children::in_order g l = 16 * l.progress.now.left + 9

abbrev pub decreases-children::scoped : goal.decreases-children::scoped
decreases-children::scoped g l = 16 * l.progress.now.left + 10

abbrev pub decreases-children::all_siblings : goal.decreases-children::all_siblings
decreases-children::all_siblings g l = 16 * l.progress.now.left + 10

abbrev pub decreases-elements::inside : goal.decreases-elements::inside
decreases-elements::inside g l = 16 * l.progress.now.left + 11

abbrev pub decreases-elements::element : goal.decreases-elements::element
decreases-elements::element g l = 16 * l.progress.now.left + 1

abbrev pub decreases-contents::show : goal.decreases-contents::show
decreases-contents::show g l = 16 * l.progress.now.left + 11

abbrev pub decreases-contents::as_fragment : goal.decreases-contents::as_fragment
decreases-contents::as_fragment g l = 16 * l.progress.now.left + 12

abbrev pub decreases-contents::appears : goal.decreases-contents::appears
decreases-contents::appears g l = 16 * l.progress.now.left + 13

abbrev pub decreases-contents::content : goal.decreases-contents::content
decreases-contents::content g l = 16 * l.progress.now.left + 1

abbrev pub decreases-turns::turn : goal.decreases-turns::turn
decreases-turns::turn g l = 16 * l.progress.now.left + 1

abbrev pub decreases-turns::repeat : goal.decreases-turns::repeat
decreases-turns::repeat g l = 16 * l.progress.now.left + 2

abbrev pub decreases-turns::while_loop : goal.decreases-turns::while_loop
decreases-turns::while_loop g l = 16 * l.progress.now.left + 1

abbrev pub decreases-turns::behind_start : goal.decreases-turns::behind_start
decreases-turns::behind_start g l = 16 * l.progress.now.left + 3

abbrev pub decreases-turns::for_loop : goal.decreases-turns::for_loop
decreases-turns::for_loop g l = 16 * l.progress.now.left + 1

abbrev pub decreases-turns::turn_over : goal.decreases-turns::turn_over
decreases-turns::turn_over g l = 16 * l.progress.now.left + 2

abbrev pub decreases-turns::each : goal.decreases-turns::each
decreases-turns::each g l = 16 * l.progress.now.left + 3

abbrev pub decreases-turns::for_each : goal.decreases-turns::for_each
decreases-turns::for_each g l = 16 * l.progress.now.left + 1

-- the items so far, and what the other operations make
abbrev pub invariant-children::in_order-loop-operation : goal.invariant-children::in_order-loop-operation
invariant-children::in_order-loop-operation g l =
    let stage = stage_in l.around (g.O.Owners.parameters l.owners) in
    record {
      less : l.progress.left ≤ l.fn.progress.left;
      same : in_order (map act_of l.operations) stage (reached l.fn.progress (g.O.Owners.fields l.owners)) ≡ in_front_of l.items (in_order (map act_of (drop l.operation-index l.operations)) stage (reached l.progress (g.O.Owners.fields l.owners)));
    }

-- the turns so far, and the other values'
abbrev pub invariant-turns::each-loop-value : goal.invariant-turns::each-loop-value
invariant-turns::each-loop-value g l =
    let stage = stage_in l.around (g.O.Owners.parameters l.owners) in
    let one = turn l.number l.keyed (map act_of l.body) stage in
    record {
      less : l.progress.left ≤ l.fn.progress.left;
      same : each_turn l.values one (reached l.fn.progress (g.O.Owners.fields l.owners)) ≡ items_before l.items (each_turn (drop l.value-index l.values) one (reached l.progress (g.O.Owners.fields l.owners)));
    }

-- the turns so far, and so many others
abbrev pub invariant-turns::repeat-loop-most : goal.invariant-turns::repeat-loop-most
invariant-turns::repeat-loop-most g l =
    let stage = stage_in l.around (g.O.Owners.parameters l.owners) in
    let test = test_or_true (option_copied l.test) stage in
    let one = turn l.number l.keyed (map act_of l.body) stage in
    let step = code_or_nothing (option_copied l.step) stage in
    record {
      less : l.progress.left ≤ l.fn.progress.left;
      same : turns (l.fn.progress.left + 1) test one step (reached l.fn.progress (g.O.Owners.fields l.owners)) ≡ items_before l.items (turns l.most test one step (reached l.progress (g.O.Owners.fields l.owners)));
    }

abbrev pub decreases-turns::repeat-loop-most : goal.decreases-turns::repeat-loop-most
decreases-turns::repeat-loop-most g l = l.most
