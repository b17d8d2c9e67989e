use Rattle.std.proofs.Common.{◌≡◌, ℕ, ◌+◌, ◌-◌, ◌<◌, List, [], ◌∷◌, ◌++◌, true, false, rules, refl, sym, ap, ◌∙◌, arith, map}
use Rattle.std.specs.Option.{option_copied}
use Rattle.std.specs.Prelude.{Option, option_map}
use Rattle.drawing_meaning.specs.Acts.{Act}
use Rattle.drawing_meaning.specs.Drawing.{gives}
use Rattle.drawing_meaning.specs.Shows.{template_items, stage_at}
use Rattle.drawing_meaning.specs.Turns.{for_each, turn, turns, test_or_true, code_or_nothing}
use Rattle.drawing_meaning.proofs.ShowLaws.{deep_show, show_within}
use Rattle.frame_core.specs.declared.item.Item.{Item}
use Rattle.frame_program.specs.declared.operation.Operation.{Operation}
use Rattle.frame_program.specs.Frames.{templates_in}
use Rattle.frame_program.specs.Operations.{act_of}
use Rattle.frame_program.proofs.OperationLaws.{element_law, child_law, text_law, raw_law, content_law, statement_law, break_law, block_law, if_law, switch_law, for_law, for_each_law, while_law}
use Rattle.frame_run.specs.Agrees.{stage_in, reached}
use Rattle.frame_run.proofs.TurnLemmas.{items_before, turn_last, turn_more}
use Rattle.frame_run.proofs.+drawing.Goals as goal

-- each form of operation
pub nodes::draw-returns-in-Element-clause-means : goal.nodes::draw-returns-in-Element-clause-means
nodes::draw-returns-in-Element-clause-means g t c =
    let stage = stage_in c.args.around.now (g.O.Owners.parameters c.args.owners.now) in
    let before = reached c.args.progress.now (g.O.Owners.fields c.args.owners.now) in
    let form = ap (λ (one : Operation). act_of one stage before) c.in-Element.is ∙ ap (λ (act : Act). act stage before) (element_law c.in-Element.number c.in-Element.name c.in-Element.attributes c.in-Element.children) in
    rw form (search rules)

pub nodes::draw-returns-in-Child-clause-means : goal.nodes::draw-returns-in-Child-clause-means
nodes::draw-returns-in-Child-clause-means g t c =
    let stage = stage_in c.args.around.now (g.O.Owners.parameters c.args.owners.now) in
    let before = reached c.args.progress.now (g.O.Owners.fields c.args.owners.now) in
    let form = ap (λ (one : Operation). act_of one stage before) c.in-Child.is ∙ ap (λ (act : Act). act stage before) (child_law c.in-Child.number c.in-Child.made c.in-Child.parts) in
    rw form (search rules)

pub nodes::draw-returns-in-Text-clause-means : goal.nodes::draw-returns-in-Text-clause-means
nodes::draw-returns-in-Text-clause-means g t c =
    let stage = stage_in c.args.around.now (g.O.Owners.parameters c.args.owners.now) in
    let before = reached c.args.progress.now (g.O.Owners.fields c.args.owners.now) in
    let form = ap (λ (one : Operation). act_of one stage before) c.in-Text.is ∙ ap (λ (act : Act). act stage before) (text_law c.in-Text.number c.in-Text.text) in
    rw form (search rules)

pub nodes::draw-returns-in-Raw-clause-means : goal.nodes::draw-returns-in-Raw-clause-means
nodes::draw-returns-in-Raw-clause-means g t c =
    let stage = stage_in c.args.around.now (g.O.Owners.parameters c.args.owners.now) in
    let before = reached c.args.progress.now (g.O.Owners.fields c.args.owners.now) in
    let form = ap (λ (one : Operation). act_of one stage before) c.in-Raw.is ∙ ap (λ (act : Act). act stage before) (raw_law c.in-Raw.number c.in-Raw.text) in
    rw form (search rules)

pub nodes::draw-returns-in-Content-clause-means : goal.nodes::draw-returns-in-Content-clause-means
nodes::draw-returns-in-Content-clause-means g t c =
    let stage = stage_in c.args.around.now (g.O.Owners.parameters c.args.owners.now) in
    let before = reached c.args.progress.now (g.O.Owners.fields c.args.owners.now) in
    let form = ap (λ (one : Operation). act_of one stage before) c.in-Content.is ∙ ap (λ (act : Act). act stage before) (content_law c.in-Content.number c.in-Content.form c.in-Content.code) in
    rw form (search rules)

pub nodes::draw-returns-in-Statement-clause-means : goal.nodes::draw-returns-in-Statement-clause-means
nodes::draw-returns-in-Statement-clause-means g t c =
    let stage = stage_in c.args.around.now (g.O.Owners.parameters c.args.owners.now) in
    let before = reached c.args.progress.now (g.O.Owners.fields c.args.owners.now) in
    let form = ap (λ (one : Operation). act_of one stage before) c.in-Statement.is ∙ ap (λ (act : Act). act stage before) (statement_law c.in-Statement.code) in
    rw form (search rules)

pub nodes::draw-returns-in-Break-clause-means : goal.nodes::draw-returns-in-Break-clause-means
nodes::draw-returns-in-Break-clause-means g t c =
    let stage = stage_in c.args.around.now (g.O.Owners.parameters c.args.owners.now) in
    let before = reached c.args.progress.now (g.O.Owners.fields c.args.owners.now) in
    let form = ap (λ (one : Operation). act_of one stage before) c.in-Break.is ∙ ap (λ (act : Act). act stage before) (break_law) in
    rw form (search rules)

pub nodes::draw-returns-in-Block-clause-means : goal.nodes::draw-returns-in-Block-clause-means
nodes::draw-returns-in-Block-clause-means g t c =
    let stage = stage_in c.args.around.now (g.O.Owners.parameters c.args.owners.now) in
    let before = reached c.args.progress.now (g.O.Owners.fields c.args.owners.now) in
    let form = ap (λ (one : Operation). act_of one stage before) c.in-Block.is ∙ ap (λ (act : Act). act stage before) (block_law c.in-Block.operations) in
    rw form (search rules)

pub nodes::draw-returns-in-If-clause-means : goal.nodes::draw-returns-in-If-clause-means
nodes::draw-returns-in-If-clause-means g t c =
    let stage = stage_in c.args.around.now (g.O.Owners.parameters c.args.owners.now) in
    let before = reached c.args.progress.now (g.O.Owners.fields c.args.owners.now) in
    let form = ap (λ (one : Operation). act_of one stage before) c.in-If.is ∙ ap (λ (act : Act). act stage before) (if_law c.in-If.test c.in-If.holds c.in-If.fails) in
    rw form (search rules)

pub nodes::draw-returns-in-Switch-clause-means : goal.nodes::draw-returns-in-Switch-clause-means
nodes::draw-returns-in-Switch-clause-means g t c =
    let stage = stage_in c.args.around.now (g.O.Owners.parameters c.args.owners.now) in
    let before = reached c.args.progress.now (g.O.Owners.fields c.args.owners.now) in
    let form = ap (λ (one : Operation). act_of one stage before) c.in-Switch.is ∙ ap (λ (act : Act). act stage before) (switch_law c.in-Switch.value c.in-Switch.sections) in
    rw form (search rules)

pub nodes::draw-returns-in-For-clause-means : goal.nodes::draw-returns-in-For-clause-means
nodes::draw-returns-in-For-clause-means g t c =
    let stage = stage_in c.args.around.now (g.O.Owners.parameters c.args.owners.now) in
    let before = reached c.args.progress.now (g.O.Owners.fields c.args.owners.now) in
    let form = ap (λ (one : Operation). act_of one stage before) c.in-For.is ∙ ap (λ (act : Act). act stage before) (for_law c.in-For.number c.in-For.start c.in-For.test c.in-For.step c.in-For.keyed c.in-For.body) in
    rw form (search rules)

pub nodes::draw-returns-in-ForEach-clause-means : goal.nodes::draw-returns-in-ForEach-clause-means
nodes::draw-returns-in-ForEach-clause-means g t c =
    let stage = stage_in c.args.around.now (g.O.Owners.parameters c.args.owners.now) in
    let before = reached c.args.progress.now (g.O.Owners.fields c.args.owners.now) in
    let form = ap (λ (one : Operation). act_of one stage before) c.in-ForEach.is ∙ ap (λ (act : Act). act stage before) (for_each_law c.in-ForEach.number c.in-ForEach.list c.in-ForEach.keyed c.in-ForEach.body) in
    rw form (search rules)

pub nodes::draw-returns-in-While-clause-means : goal.nodes::draw-returns-in-While-clause-means
nodes::draw-returns-in-While-clause-means g t c =
    let stage = stage_in c.args.around.now (g.O.Owners.parameters c.args.owners.now) in
    let before = reached c.args.progress.now (g.O.Owners.fields c.args.owners.now) in
    let form = ap (λ (one : Operation). act_of one stage before) c.in-While.is ∙ ap (λ (act : Act). act stage before) (while_law c.in-While.number c.in-While.test c.in-While.keyed c.in-While.body) in
    rw form (search rules)

-- fragments that are too deep, that are none, and others
pub contents::show-returns-then-around-ge-DEEPEST-clause-means : goal.contents::show-returns-then-around-ge-DEEPEST-clause-means
contents::show-returns-then-around-ge-DEEPEST-clause-means g t c =
    let around = c.args.around.now in
    let before = reached c.args.progress.now (g.O.Owners.fields c.args.owners.now) in
    deep_show (g.O.Owners.parameters c.args.owners.now) around.program.now.bodies (templates_in around.program.now.fragments) around.calls c.args.fragment.who c.args.fragment.place c.args.fragment.captures around.depth before (omega (arith, c.if-around-ge-DEEPEST.true))

pub contents::show-returns-in_default-clause-means : goal.contents::show-returns-in_default-clause-means
contents::show-returns-in_default-clause-means g t c =
    let around = c.args.around.now in
    let before = reached c.args.progress.now (g.O.Owners.fields c.args.owners.now) in
    let parameters = g.O.Owners.parameters c.args.owners.now in
    let templates = templates_in around.program.now.fragments in
    show_within parameters around.program.now.bodies templates around.calls c.args.fragment.who c.args.fragment.place c.args.fragment.captures around.depth before (omega (arith, c.if-around-ge-DEEPEST.false))
    ∙ ap (λ (o : Option (List Operation)). template_items parameters around.program.now.bodies templates (option_map (map act_of) o) c.args.fragment.captures (stage_at parameters around.program.now.bodies templates c.args.fragment.who (around.calls + 1) around.depth) before) (sym c.in_default.ensures)

pub contents::show-returns-clause-means : goal.contents::show-returns-clause-means
contents::show-returns-clause-means g t c =
    let around = c.args.around.now in
    let before = reached c.args.progress.now (g.O.Owners.fields c.args.owners.now) in
    let parameters = g.O.Owners.parameters c.args.owners.now in
    let templates = templates_in around.program.now.fragments in
    let form =
    show_within parameters around.program.now.bodies templates around.calls c.args.fragment.who c.args.fragment.place c.args.fragment.captures around.depth before (omega (arith, c.if-around-ge-DEEPEST.false))
    ∙ ap (λ (o : Option (List Operation)). template_items parameters around.program.now.bodies templates (option_map (map act_of) o) c.args.fragment.captures (stage_at parameters around.program.now.bodies templates c.args.fragment.who (around.calls + 1) around.depth) before) (sym c.in-Some.ensures) in
    rw form (search rules)

pub contents::show-returns-in_err-items-clause-means : goal.contents::show-returns-in_err-items-clause-means
contents::show-returns-in_err-items-clause-means g t c =
    let around = c.args.around.now in
    let before = reached c.args.progress.now (g.O.Owners.fields c.args.owners.now) in
    let parameters = g.O.Owners.parameters c.args.owners.now in
    let templates = templates_in around.program.now.fragments in
    let form =
    show_within parameters around.program.now.bodies templates around.calls c.args.fragment.who c.args.fragment.place c.args.fragment.captures around.depth before (omega (arith, c.if-around-ge-DEEPEST.false))
    ∙ ap (λ (o : Option (List Operation)). template_items parameters around.program.now.bodies templates (option_map (map act_of) o) c.args.fragment.captures (stage_at parameters around.program.now.bodies templates c.args.fragment.who (around.calls + 1) around.depth) before) (sym c.in-Some.ensures) in
    rw form (search rules)

-- a list that is null, and others
pub turns::for_each-returns-in_err-values-clause-means : goal.turns::for_each-returns-in_err-values-clause-means
unfolding for_each
turns::for_each-returns-in_err-values-clause-means g t c =
    let listed = c.in_err-values.ensures (reached c.value_of.new.progress (g.O.Owners.fields c.args.owners.now)) in
    search rules

pub turns::for_each-returns-in_err-items-clause-means : goal.turns::for_each-returns-in_err-items-clause-means
unfolding for_each
turns::for_each-returns-in_err-items-clause-means g t c =
    let listed = c.in_ok-values.ensures (reached c.value_of.new.progress (g.O.Owners.fields c.args.owners.now)) in
    search rules

pub turns::for_each-returns-clause-means : goal.turns::for_each-returns-clause-means
unfolding for_each
turns::for_each-returns-clause-means g t c =
    let listed = c.in_ok-values.ensures (reached c.value_of.new.progress (g.O.Owners.fields c.args.owners.now)) in
    search rules

-- the last test of a loop, and one turn more
pub turns::repeat-returns-then-not-branch-clause-means : goal.turns::repeat-returns-then-not-branch-clause-means
turns::repeat-returns-then-not-branch-clause-means g t c =
    let stage = stage_in c.args.around.now (g.O.Owners.parameters c.args.owners.now) in
    let fields = g.O.Owners.fields c.args.owners.now in
    let test = test_or_true (option_copied c.args.test) stage in
    let one = turn c.args.number c.args.keyed (map act_of c.args.body.now) stage in
    let step = code_or_nothing (option_copied c.args.step) stage in
    let before = reached c.loop-most.progress fields in
    let behind_test = reached c.tested.new.progress fields in
    let some : 0 < c.loop-most.most = omega arith in
    let tested : test before ≡ gives false behind_test = search rules in
    c.loop-most.invariant.same ∙ turn_last test one step c.loop-most.items c.loop-most.most some before behind_test tested

pub turns::repeat-loop-most-preserved : goal.turns::repeat-loop-most-preserved
turns::repeat-loop-most-preserved g t c =
    let stage = stage_in c.args.around.now (g.O.Owners.parameters c.args.owners.now) in
    let fields = g.O.Owners.fields c.args.owners.now in
    let test = test_or_true (option_copied c.args.test) stage in
    let one = turn c.args.number c.args.keyed (map act_of c.args.body.now) stage in
    let step = code_or_nothing (option_copied c.args.step) stage in
    let before = reached c.loop-most.progress fields in
    let behind_test = reached c.tested.new.progress fields in
    let some : 0 < c.loop-most.most = omega arith in
    let behind_turn = reached c.turn.new.progress fields in
    let behind_step = reached c.optional.new.progress fields in
    let tested : test before ≡ gives true behind_test = search rules in
    let made : one behind_test ≡ gives c.in_ok-turn.field-0 behind_turn = search rules in
    let stepped : step behind_turn ≡ gives c.in_ok-optional.field-0 behind_step = search rules in
    let pushed : c.push.new.self ≡ c.loop-most.items ++ c.in_ok-turn.field-0 ∷ [] = search rules in
    record {
      less = omega arith;
      same = c.loop-most.invariant.same
          ∙ turn_more test one step c.loop-most.items c.loop-most.most some before behind_test behind_turn behind_step c.in_ok-turn.field-0 c.in_ok-optional.field-0 tested made stepped
          ∙ ap (λ (l : List Item). items_before l (turns (c.loop-most.most - 1) test one step behind_step)) (sym pushed);
    }
