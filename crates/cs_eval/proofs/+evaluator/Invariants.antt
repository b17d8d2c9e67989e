use Rattle.std.proofs.Common.{◌≡◌, ◌+◌, ◌*◌, ◌≤◌, map, drop}
use Rattle.std.specs.Prelude.{option_map}
use Rattle.std.specs.Option.{option_copied}
use Rattle.cs_meaning.specs.Scopes.{all_of, in_order, turns, each_of, if_there}
use Rattle.cs_meaning.specs.Statements.{test_of}
use Rattle.cs_eval.specs.Agrees.{meaning_in, reached}
use Rattle.cs_eval.proofs.OutcomeLemmas.{behind_all}
use Rattle.cs_eval.proofs.+evaluator.Given as goal

-- each level of code pays a unit, so the units left bound the depth
abbrev pub decreases-evaluator::evaluate : goal.decreases-evaluator::evaluate
decreases-evaluator::evaluate g l = 16 * l.progress.now.left + 1

abbrev pub decreases-evaluator::act : goal.decreases-evaluator::act
decreases-evaluator::act g l = 16 * l.progress.now.left + 15

abbrev pub decreases-expressions::all : goal.decreases-expressions::all
decreases-expressions::all g l = 16 * l.progress.now.left + 2

abbrev pub decreases-expressions::binary : goal.decreases-expressions::binary
decreases-expressions::binary g l = 16 * l.progress.now.left + 3

abbrev pub decreases-expressions::conditional : goal.decreases-expressions::conditional
decreases-expressions::conditional g l = 16 * l.progress.now.left + 3

abbrev pub decreases-expressions::record_with : goal.decreases-expressions::record_with
decreases-expressions::record_with g l = 16 * l.progress.now.left + 3

abbrev pub decreases-expressions::assign : goal.decreases-expressions::assign
decreases-expressions::assign g l = 16 * l.progress.now.left + 3

abbrev pub decreases-statements::optional : goal.decreases-statements::optional
decreases-statements::optional g l = 16 * l.progress.now.left + 2

abbrev pub decreases-statements::in_order : goal.decreases-statements::in_order
decreases-statements::in_order g l = 16 * l.progress.now.left + 2

abbrev pub decreases-statements::block : goal.decreases-statements::block
decreases-statements::block g l = 16 * l.progress.now.left + 3

abbrev pub decreases-statements::scoped : goal.decreases-statements::scoped
decreases-statements::scoped g l = 16 * l.progress.now.left + 2

abbrev pub decreases-statements::branch : goal.decreases-statements::branch
decreases-statements::branch g l = 16 * l.progress.now.left + 4

abbrev pub decreases-statements::switch : goal.decreases-statements::switch
decreases-statements::switch g l = 16 * l.progress.now.left + 5

abbrev pub decreases-loops::tested : goal.decreases-loops::tested
decreases-loops::tested g l = 16 * l.progress.now.left + 2

abbrev pub decreases-loops::repeat : goal.decreases-loops::repeat
decreases-loops::repeat g l = 16 * l.progress.now.left + 4

abbrev pub decreases-loops::while_loop : goal.decreases-loops::while_loop
decreases-loops::while_loop g l = 16 * l.progress.now.left + 5

abbrev pub decreases-loops::for_loop : goal.decreases-loops::for_loop
decreases-loops::for_loop g l = 16 * l.progress.now.left + 7

abbrev pub decreases-loops::for_turns : goal.decreases-loops::for_turns
decreases-loops::for_turns g l = 16 * l.progress.now.left + 6

abbrev pub decreases-loops::turn : goal.decreases-loops::turn
decreases-loops::turn g l = 16 * l.progress.now.left + 2

abbrev pub decreases-loops::each : goal.decreases-loops::each
decreases-loops::each g l = 16 * l.progress.now.left + 3

abbrev pub decreases-loops::for_each : goal.decreases-loops::for_each
decreases-loops::for_each g l = 16 * l.progress.now.left + 4

abbrev pub decreases-calls::enter : goal.decreases-calls::enter
decreases-calls::enter g l = 16 * l.progress.now.left + 2

abbrev pub decreases-calls::call : goal.decreases-calls::call
decreases-calls::call g l = 16 * l.progress.now.left + 4

abbrev pub decreases-calls::invoke : goal.decreases-calls::invoke
decreases-calls::invoke g l = 16 * l.progress.now.left + 4

abbrev pub decreases-operands::interpolated : goal.decreases-operands::interpolated
decreases-operands::interpolated g l = 16 * l.progress.now.left + 3

abbrev pub decreases-operands::unary : goal.decreases-operands::unary
decreases-operands::unary g l = 16 * l.progress.now.left + 3

abbrev pub decreases-operands::casted : goal.decreases-operands::casted
decreases-operands::casted g l = 16 * l.progress.now.left + 3

abbrev pub decreases-operands::part : goal.decreases-operands::part
decreases-operands::part g l = 16 * l.progress.now.left + 3

abbrev pub decreases-operands::null_part : goal.decreases-operands::null_part
decreases-operands::null_part g l = 16 * l.progress.now.left + 3

abbrev pub decreases-operands::index : goal.decreases-operands::index
decreases-operands::index g l = 16 * l.progress.now.left + 3

abbrev pub decreases-operands::fill : goal.decreases-operands::fill
decreases-operands::fill g l = 16 * l.progress.now.left + 3

abbrev pub decreases-operands::new_record : goal.decreases-operands::new_record
decreases-operands::new_record g l = 16 * l.progress.now.left + 3

abbrev pub decreases-operands::member_call : goal.decreases-operands::member_call
decreases-operands::member_call g l = 16 * l.progress.now.left + 3

abbrev pub decreases-statements::declare : goal.decreases-statements::declare
decreases-statements::declare g l = 16 * l.progress.now.left + 3

abbrev pub decreases-statements::returned : goal.decreases-statements::returned
decreases-statements::returned g l = 16 * l.progress.now.left + 3

abbrev pub decreases-statements::perform : goal.decreases-statements::perform
decreases-statements::perform g l = 16 * l.progress.now.left + 3

-- the statements still to run, from here, give what all give from the start
abbrev pub invariant-statements::in_order-loop-statement : goal.invariant-statements::in_order-loop-statement
invariant-statements::in_order-loop-statement g l =
    let run = meaning_in l.around (g.S.Store.parameters l.fn.store) in
    record {
      less : l.progress.left ≤ l.fn.progress.left;
      parameters : g.S.Store.parameters l.store ≡ g.S.Store.parameters l.fn.store;
      rest : g.S.Store.rest l.store ≡ g.S.Store.rest l.fn.store;
      same : in_order (map run l.statements) (reached l.fn.progress (g.S.Store.fields l.fn.store)) ≡ in_order (map run (drop l.statement-index l.statements)) (reached l.progress (g.S.Store.fields l.store));
    }

-- the values so far, and those of the parts still to run
abbrev pub invariant-expressions::all-loop-part : goal.invariant-expressions::all-loop-part
invariant-expressions::all-loop-part g l =
    let run = meaning_in l.around (g.S.Store.parameters l.fn.store) in
    record {
      less : l.progress.left ≤ l.fn.progress.left;
      parameters : g.S.Store.parameters l.store ≡ g.S.Store.parameters l.fn.store;
      rest : g.S.Store.rest l.store ≡ g.S.Store.rest l.fn.store;
      same : all_of (map run l.parts) (reached l.fn.progress (g.S.Store.fields l.fn.store)) ≡ behind_all l.values.items (all_of (map run (drop l.part-index l.parts)) (reached l.progress (g.S.Store.fields l.store)));
    }

-- the turns still to come, from here, give what all give from the start
abbrev pub invariant-loops::each-loop-item : goal.invariant-loops::each-loop-item
invariant-loops::each-loop-item g l =
    let run = meaning_in l.around (g.S.Store.parameters l.fn.store) in
    record {
      less : l.progress.left ≤ l.fn.progress.left;
      parameters : g.S.Store.parameters l.store ≡ g.S.Store.parameters l.fn.store;
      rest : g.S.Store.rest l.store ≡ g.S.Store.rest l.fn.store;
      same : each_of l.items (run l.body) (reached l.fn.progress (g.S.Store.fields l.fn.store)) ≡ each_of (drop l.item-index l.items) (run l.body) (reached l.progress (g.S.Store.fields l.store));
    }

-- so many turns, from here, give what all give from the start
abbrev pub invariant-loops::repeat-loop-most : goal.invariant-loops::repeat-loop-most
invariant-loops::repeat-loop-most g l =
    let run = meaning_in l.around (g.S.Store.parameters l.fn.store) in
    record {
      less : l.progress.left ≤ l.fn.progress.left;
      parameters : g.S.Store.parameters l.store ≡ g.S.Store.parameters l.fn.store;
      rest : g.S.Store.rest l.store ≡ g.S.Store.rest l.fn.store;
      same : turns (l.fn.progress.left + 1) (test_of (option_map run (option_copied l.test))) (run l.body) (if_there (option_map run (option_copied l.step))) (reached l.fn.progress (g.S.Store.fields l.fn.store)) ≡ turns l.most (test_of (option_map run (option_copied l.test))) (run l.body) (if_there (option_map run (option_copied l.step))) (reached l.progress (g.S.Store.fields l.store));
    }

abbrev pub decreases-loops::repeat-loop-most : goal.decreases-loops::repeat-loop-most
decreases-loops::repeat-loop-most g l = l.most
