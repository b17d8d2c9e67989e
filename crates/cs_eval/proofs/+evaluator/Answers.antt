use Rattle.std.proofs.Common.{◌≡◌, ℕ, ◌+◌, rules, refl, sym, ap, ◌∙◌, arith}
use Rattle.std.specs.Prelude.{Option}
use Rattle.cs_ast.specs.Bodies.{code_at}
use Rattle.cs_ast.specs.declared.code.Code.{Code}
use Rattle.cs_meaning.specs.State.{State, state}
use Rattle.cs_meaning.specs.Meaning.{setting, meaning, behind, entered}
use Rattle.cs_meaning.proofs.Laws.{piece_law, bind_law, section_law}
use Rattle.cs_meaning.proofs.FormLaws.{int_behind, bool_behind, text_behind, null_behind, field_behind, parameter_behind, local_behind, interpolated_behind, unary_behind, cast_behind, binary_behind, conditional_behind, with_behind, part_behind, null_part_behind, index_behind, new_behind, library_behind, call_behind, callback_behind, fill_behind, invoke_behind, assign_behind, step_behind, declare_behind, empty_behind, block_behind, if_behind, while_behind, for_behind, for_each_behind, switch_behind, break_behind, continue_behind, return_behind, perform_behind, piece_behind, bind_behind, section_behind}
use Rattle.cs_meaning.proofs.RecursionLaws.{deep_call, call_within}
use Rattle.cs_eval.specs.Agrees.{setting_in, reached}
use Rattle.cs_eval.proofs.OutcomeLemmas.{strict_binary}
use Rattle.cs_eval.proofs.PaidLemmas.{paid_agrees, unpaid_agrees}
use Rattle.cs_eval.proofs.+evaluator.Goals as goal

-- each form of code behind its unit
pub evaluator::act-returns-in-Int-clause-means : goal.evaluator::act-returns-in-Int-clause-means
evaluator::act-returns-in-Int-clause-means g t c =
    let around = setting_in c.args.around.now (g.S.Store.parameters c.args.store.now) in
    let before = reached c.args.progress.now (g.S.Store.fields c.args.store.now) in
    let form = ap (λ (code : Code). behind around code before) c.in-Int.is ∙ int_behind around c.in-Int.number before in
    rw form (search rules)

pub evaluator::act-returns-in-Bool-clause-means : goal.evaluator::act-returns-in-Bool-clause-means
evaluator::act-returns-in-Bool-clause-means g t c =
    let around = setting_in c.args.around.now (g.S.Store.parameters c.args.store.now) in
    let before = reached c.args.progress.now (g.S.Store.fields c.args.store.now) in
    let form = ap (λ (code : Code). behind around code before) c.in-Bool.is ∙ bool_behind around c.in-Bool.truth before in
    rw form (search rules)

pub evaluator::act-returns-in_ok-clone-in-Text-clause-means : goal.evaluator::act-returns-in_ok-clone-in-Text-clause-means
evaluator::act-returns-in_ok-clone-in-Text-clause-means g t c =
    let around = setting_in c.args.around.now (g.S.Store.parameters c.args.store.now) in
    let before = reached c.args.progress.now (g.S.Store.fields c.args.store.now) in
    let form = ap (λ (code : Code). behind around code before) c.in-Text.is ∙ text_behind around c.in-Text.text before in
    rw form (search rules)

pub evaluator::act-returns-in_err-clone-in-Text-clause-means : goal.evaluator::act-returns-in_err-clone-in-Text-clause-means
evaluator::act-returns-in_err-clone-in-Text-clause-means g t c =
    let around = setting_in c.args.around.now (g.S.Store.parameters c.args.store.now) in
    let before = reached c.args.progress.now (g.S.Store.fields c.args.store.now) in
    let form = ap (λ (code : Code). behind around code before) c.in-Text.is ∙ text_behind around c.in-Text.text before in
    rw form (search rules)

pub evaluator::act-returns-in-Null-clause-means : goal.evaluator::act-returns-in-Null-clause-means
evaluator::act-returns-in-Null-clause-means g t c =
    let around = setting_in c.args.around.now (g.S.Store.parameters c.args.store.now) in
    let before = reached c.args.progress.now (g.S.Store.fields c.args.store.now) in
    let form = ap (λ (code : Code). behind around code before) c.in-Null.is ∙ null_behind around before in
    rw form (search rules)

pub evaluator::act-returns-in-Field-clause-means : goal.evaluator::act-returns-in-Field-clause-means
evaluator::act-returns-in-Field-clause-means g t c =
    let around = setting_in c.args.around.now (g.S.Store.parameters c.args.store.now) in
    let before = reached c.args.progress.now (g.S.Store.fields c.args.store.now) in
    let form = ap (λ (code : Code). behind around code before) c.in-Field.is ∙ field_behind around c.in-Field.at before in
    rw form (search rules)

pub evaluator::act-returns-in-Parameter-clause-means : goal.evaluator::act-returns-in-Parameter-clause-means
evaluator::act-returns-in-Parameter-clause-means g t c =
    let around = setting_in c.args.around.now (g.S.Store.parameters c.args.store.now) in
    let before = reached c.args.progress.now (g.S.Store.fields c.args.store.now) in
    let form = ap (λ (code : Code). behind around code before) c.in-Parameter.is ∙ parameter_behind around c.in-Parameter.at before in
    rw form (search rules)

pub evaluator::act-returns-in-Local-clause-means : goal.evaluator::act-returns-in-Local-clause-means
evaluator::act-returns-in-Local-clause-means g t c =
    let around = setting_in c.args.around.now (g.S.Store.parameters c.args.store.now) in
    let before = reached c.args.progress.now (g.S.Store.fields c.args.store.now) in
    let form = ap (λ (code : Code). behind around code before) c.in-Local.is ∙ local_behind around c.in-Local.at before in
    rw form (search rules)

pub evaluator::act-returns-in-Interpolated-clause-means : goal.evaluator::act-returns-in-Interpolated-clause-means
evaluator::act-returns-in-Interpolated-clause-means g t c =
    let around = setting_in c.args.around.now (g.S.Store.parameters c.args.store.now) in
    let before = reached c.args.progress.now (g.S.Store.fields c.args.store.now) in
    let form = ap (λ (code : Code). behind around code before) c.in-Interpolated.is ∙ interpolated_behind around c.in-Interpolated.pieces before in
    rw form (search rules)

pub evaluator::act-returns-in-Unary-clause-means : goal.evaluator::act-returns-in-Unary-clause-means
evaluator::act-returns-in-Unary-clause-means g t c =
    let around = setting_in c.args.around.now (g.S.Store.parameters c.args.store.now) in
    let before = reached c.args.progress.now (g.S.Store.fields c.args.store.now) in
    let form = ap (λ (code : Code). behind around code before) c.in-Unary.is ∙ unary_behind around c.in-Unary.op c.in-Unary.a before in
    rw form (search rules)

pub evaluator::act-returns-in-Cast-clause-means : goal.evaluator::act-returns-in-Cast-clause-means
evaluator::act-returns-in-Cast-clause-means g t c =
    let around = setting_in c.args.around.now (g.S.Store.parameters c.args.store.now) in
    let before = reached c.args.progress.now (g.S.Store.fields c.args.store.now) in
    let form = ap (λ (code : Code). behind around code before) c.in-Cast.is ∙ cast_behind around c.in-Cast.op c.in-Cast.a before in
    rw form (search rules)

pub evaluator::act-returns-in-Binary-clause-means : goal.evaluator::act-returns-in-Binary-clause-means
evaluator::act-returns-in-Binary-clause-means g t c =
    let around = setting_in c.args.around.now (g.S.Store.parameters c.args.store.now) in
    let before = reached c.args.progress.now (g.S.Store.fields c.args.store.now) in
    let form = ap (λ (code : Code). behind around code before) c.in-Binary.is ∙ binary_behind around c.in-Binary.op c.in-Binary.a c.in-Binary.b before in
    rw form (search rules)

pub evaluator::act-returns-in-Conditional-clause-means : goal.evaluator::act-returns-in-Conditional-clause-means
evaluator::act-returns-in-Conditional-clause-means g t c =
    let around = setting_in c.args.around.now (g.S.Store.parameters c.args.store.now) in
    let before = reached c.args.progress.now (g.S.Store.fields c.args.store.now) in
    let form = ap (λ (code : Code). behind around code before) c.in-Conditional.is ∙ conditional_behind around c.in-Conditional.a c.in-Conditional.b c.in-Conditional.c before in
    rw form (search rules)

pub evaluator::act-returns-in-With-clause-means : goal.evaluator::act-returns-in-With-clause-means
evaluator::act-returns-in-With-clause-means g t c =
    let around = setting_in c.args.around.now (g.S.Store.parameters c.args.store.now) in
    let before = reached c.args.progress.now (g.S.Store.fields c.args.store.now) in
    let form = ap (λ (code : Code). behind around code before) c.in-With.is ∙ with_behind around c.in-With.a c.in-With.positions c.in-With.values before in
    rw form (search rules)

pub evaluator::act-returns-in-Part-clause-means : goal.evaluator::act-returns-in-Part-clause-means
evaluator::act-returns-in-Part-clause-means g t c =
    let around = setting_in c.args.around.now (g.S.Store.parameters c.args.store.now) in
    let before = reached c.args.progress.now (g.S.Store.fields c.args.store.now) in
    let form = ap (λ (code : Code). behind around code before) c.in-Part.is ∙ part_behind around c.in-Part.a c.in-Part.at before in
    rw form (search rules)

pub evaluator::act-returns-in-NullPart-clause-means : goal.evaluator::act-returns-in-NullPart-clause-means
evaluator::act-returns-in-NullPart-clause-means g t c =
    let around = setting_in c.args.around.now (g.S.Store.parameters c.args.store.now) in
    let before = reached c.args.progress.now (g.S.Store.fields c.args.store.now) in
    let form = ap (λ (code : Code). behind around code before) c.in-NullPart.is ∙ null_part_behind around c.in-NullPart.a c.in-NullPart.at before in
    rw form (search rules)

pub evaluator::act-returns-in-Index-clause-means : goal.evaluator::act-returns-in-Index-clause-means
evaluator::act-returns-in-Index-clause-means g t c =
    let around = setting_in c.args.around.now (g.S.Store.parameters c.args.store.now) in
    let before = reached c.args.progress.now (g.S.Store.fields c.args.store.now) in
    let form = ap (λ (code : Code). behind around code before) c.in-Index.is ∙ index_behind around c.in-Index.a c.in-Index.b before in
    rw form (search rules)

pub evaluator::act-returns-in-New-clause-means : goal.evaluator::act-returns-in-New-clause-means
evaluator::act-returns-in-New-clause-means g t c =
    let around = setting_in c.args.around.now (g.S.Store.parameters c.args.store.now) in
    let before = reached c.args.progress.now (g.S.Store.fields c.args.store.now) in
    let form = ap (λ (code : Code). behind around code before) c.in-New.is ∙ new_behind around c.in-New.kind c.in-New.parts before in
    rw form (search rules)

pub evaluator::act-returns-in-Library-clause-means : goal.evaluator::act-returns-in-Library-clause-means
evaluator::act-returns-in-Library-clause-means g t c =
    let around = setting_in c.args.around.now (g.S.Store.parameters c.args.store.now) in
    let before = reached c.args.progress.now (g.S.Store.fields c.args.store.now) in
    let form = ap (λ (code : Code). behind around code before) c.in-Library.is ∙ library_behind around c.in-Library.member c.in-Library.arguments before in
    rw form (search rules)

pub evaluator::act-returns-in-Call-clause-means : goal.evaluator::act-returns-in-Call-clause-means
evaluator::act-returns-in-Call-clause-means g t c =
    let around = setting_in c.args.around.now (g.S.Store.parameters c.args.store.now) in
    let before = reached c.args.progress.now (g.S.Store.fields c.args.store.now) in
    let form = ap (λ (code : Code). behind around code before) c.in-Call.is ∙ call_behind around c.in-Call.number c.in-Call.arguments before in
    rw form (search rules)

pub evaluator::act-returns-in-Callback-clause-means : goal.evaluator::act-returns-in-Callback-clause-means
evaluator::act-returns-in-Callback-clause-means g t c =
    let around = setting_in c.args.around.now (g.S.Store.parameters c.args.store.now) in
    let before = reached c.args.progress.now (g.S.Store.fields c.args.store.now) in
    let form = ap (λ (code : Code). behind around code before) c.in-Callback.is ∙ callback_behind around c.in-Callback.number c.in-Callback.positions before in
    rw form (search rules)

pub evaluator::act-returns-in-Fill-clause-means : goal.evaluator::act-returns-in-Fill-clause-means
evaluator::act-returns-in-Fill-clause-means g t c =
    let around = setting_in c.args.around.now (g.S.Store.parameters c.args.store.now) in
    let before = reached c.args.progress.now (g.S.Store.fields c.args.store.now) in
    let form = ap (λ (code : Code). behind around code before) c.in-Fill.is ∙ fill_behind around c.in-Fill.a c.in-Fill.b before in
    rw form (search rules)

pub evaluator::act-returns-in-Invoke-clause-means : goal.evaluator::act-returns-in-Invoke-clause-means
evaluator::act-returns-in-Invoke-clause-means g t c =
    let around = setting_in c.args.around.now (g.S.Store.parameters c.args.store.now) in
    let before = reached c.args.progress.now (g.S.Store.fields c.args.store.now) in
    let form = ap (λ (code : Code). behind around code before) c.in-Invoke.is ∙ invoke_behind around c.in-Invoke.a c.in-Invoke.argument before in
    rw form (search rules)

pub evaluator::act-returns-in-Assign-clause-means : goal.evaluator::act-returns-in-Assign-clause-means
evaluator::act-returns-in-Assign-clause-means g t c =
    let around = setting_in c.args.around.now (g.S.Store.parameters c.args.store.now) in
    let before = reached c.args.progress.now (g.S.Store.fields c.args.store.now) in
    let form = ap (λ (code : Code). behind around code before) c.in-Assign.is ∙ assign_behind around c.in-Assign.target c.in-Assign.op c.in-Assign.e before in
    rw form (search rules)

pub evaluator::act-returns-in-Step-clause-means : goal.evaluator::act-returns-in-Step-clause-means
evaluator::act-returns-in-Step-clause-means g t c =
    let around = setting_in c.args.around.now (g.S.Store.parameters c.args.store.now) in
    let before = reached c.args.progress.now (g.S.Store.fields c.args.store.now) in
    let form = ap (λ (code : Code). behind around code before) c.in-Step.is ∙ step_behind around c.in-Step.target c.in-Step.op before in
    rw form (search rules)

pub evaluator::act-returns-in-Declare-clause-means : goal.evaluator::act-returns-in-Declare-clause-means
evaluator::act-returns-in-Declare-clause-means g t c =
    let around = setting_in c.args.around.now (g.S.Store.parameters c.args.store.now) in
    let before = reached c.args.progress.now (g.S.Store.fields c.args.store.now) in
    let form = ap (λ (code : Code). behind around code before) c.in-Declare.is ∙ declare_behind around c.in-Declare.e before in
    rw form (search rules)

pub evaluator::act-returns-in-Empty-clause-means : goal.evaluator::act-returns-in-Empty-clause-means
evaluator::act-returns-in-Empty-clause-means g t c =
    let around = setting_in c.args.around.now (g.S.Store.parameters c.args.store.now) in
    let before = reached c.args.progress.now (g.S.Store.fields c.args.store.now) in
    let form = ap (λ (code : Code). behind around code before) c.in-Empty.is ∙ empty_behind around before in
    rw form (search rules)

pub evaluator::act-returns-in-Block-clause-means : goal.evaluator::act-returns-in-Block-clause-means
evaluator::act-returns-in-Block-clause-means g t c =
    let around = setting_in c.args.around.now (g.S.Store.parameters c.args.store.now) in
    let before = reached c.args.progress.now (g.S.Store.fields c.args.store.now) in
    let form = ap (λ (code : Code). behind around code before) c.in-Block.is ∙ block_behind around c.in-Block.statements before in
    rw form (search rules)

pub evaluator::act-returns-in-If-clause-means : goal.evaluator::act-returns-in-If-clause-means
evaluator::act-returns-in-If-clause-means g t c =
    let around = setting_in c.args.around.now (g.S.Store.parameters c.args.store.now) in
    let before = reached c.args.progress.now (g.S.Store.fields c.args.store.now) in
    let form = ap (λ (code : Code). behind around code before) c.in-If.is ∙ if_behind around c.in-If.test c.in-If.yes c.in-If.no before in
    rw form (search rules)

pub evaluator::act-returns-in-While-clause-means : goal.evaluator::act-returns-in-While-clause-means
evaluator::act-returns-in-While-clause-means g t c =
    let around = setting_in c.args.around.now (g.S.Store.parameters c.args.store.now) in
    let before = reached c.args.progress.now (g.S.Store.fields c.args.store.now) in
    let form = ap (λ (code : Code). behind around code before) c.in-While.is ∙ while_behind around c.in-While.test c.in-While.body before in
    rw form (search rules)

pub evaluator::act-returns-in-For-clause-means : goal.evaluator::act-returns-in-For-clause-means
evaluator::act-returns-in-For-clause-means g t c =
    let around = setting_in c.args.around.now (g.S.Store.parameters c.args.store.now) in
    let before = reached c.args.progress.now (g.S.Store.fields c.args.store.now) in
    let form = ap (λ (code : Code). behind around code before) c.in-For.is ∙ for_behind around c.in-For.start c.in-For.test c.in-For.step c.in-For.body before in
    rw form (search rules)

pub evaluator::act-returns-in-ForEach-clause-means : goal.evaluator::act-returns-in-ForEach-clause-means
evaluator::act-returns-in-ForEach-clause-means g t c =
    let around = setting_in c.args.around.now (g.S.Store.parameters c.args.store.now) in
    let before = reached c.args.progress.now (g.S.Store.fields c.args.store.now) in
    let form = ap (λ (code : Code). behind around code before) c.in-ForEach.is ∙ for_each_behind around c.in-ForEach.list c.in-ForEach.body before in
    rw form (search rules)

pub evaluator::act-returns-in-Switch-clause-means : goal.evaluator::act-returns-in-Switch-clause-means
evaluator::act-returns-in-Switch-clause-means g t c =
    let around = setting_in c.args.around.now (g.S.Store.parameters c.args.store.now) in
    let before = reached c.args.progress.now (g.S.Store.fields c.args.store.now) in
    let form = ap (λ (code : Code). behind around code before) c.in-Switch.is ∙ switch_behind around c.in-Switch.value c.in-Switch.sections before in
    rw form c.switch.ensures.means

pub evaluator::act-returns-in-Break-clause-means : goal.evaluator::act-returns-in-Break-clause-means
evaluator::act-returns-in-Break-clause-means g t c =
    let around = setting_in c.args.around.now (g.S.Store.parameters c.args.store.now) in
    let before = reached c.args.progress.now (g.S.Store.fields c.args.store.now) in
    let form = ap (λ (code : Code). behind around code before) c.in-Break.is ∙ break_behind around before in
    rw form (search rules)

pub evaluator::act-returns-in-Continue-clause-means : goal.evaluator::act-returns-in-Continue-clause-means
evaluator::act-returns-in-Continue-clause-means g t c =
    let around = setting_in c.args.around.now (g.S.Store.parameters c.args.store.now) in
    let before = reached c.args.progress.now (g.S.Store.fields c.args.store.now) in
    let form = ap (λ (code : Code). behind around code before) c.in-Continue.is ∙ continue_behind around before in
    rw form (search rules)

pub evaluator::act-returns-in-Return-clause-means : goal.evaluator::act-returns-in-Return-clause-means
evaluator::act-returns-in-Return-clause-means g t c =
    let around = setting_in c.args.around.now (g.S.Store.parameters c.args.store.now) in
    let before = reached c.args.progress.now (g.S.Store.fields c.args.store.now) in
    let form = ap (λ (code : Code). behind around code before) c.in-Return.is ∙ return_behind around c.in-Return.e before in
    rw form (search rules)

pub evaluator::act-returns-in-Perform-clause-means : goal.evaluator::act-returns-in-Perform-clause-means
evaluator::act-returns-in-Perform-clause-means g t c =
    let around = setting_in c.args.around.now (g.S.Store.parameters c.args.store.now) in
    let before = reached c.args.progress.now (g.S.Store.fields c.args.store.now) in
    let form = ap (λ (code : Code). behind around code before) c.in-Perform.is ∙ perform_behind around c.in-Perform.e before in
    rw form (search rules)

pub evaluator::act-returns-in-Piece-clause-means : goal.evaluator::act-returns-in-Piece-clause-means
evaluator::act-returns-in-Piece-clause-means g t c = grind (arith, piece_behind)

pub evaluator::act-returns-in-Bind-clause-means : goal.evaluator::act-returns-in-Bind-clause-means
evaluator::act-returns-in-Bind-clause-means g t c = grind (arith, bind_behind)

pub evaluator::act-returns-in-Section-clause-means : goal.evaluator::act-returns-in-Section-clause-means
evaluator::act-returns-in-Section-clause-means g t c = grind (arith, section_behind)

-- the unit, or none
pub evaluator::evaluate-returns-then-progress-eq0-clause-means : goal.evaluator::evaluate-returns-then-progress-eq0-clause-means
evaluator::evaluate-returns-then-progress-eq0-clause-means g t c =
    let around = setting_in c.args.around.now (g.S.Store.parameters c.args.store.now) in
    let before = reached c.args.progress.now (g.S.Store.fields c.args.store.now) in
    let none = c.if-progress-eq0.true in
    unpaid_agrees around c.args.code.now before c.in_default.not-Piece c.in_default.not-Bind c.in_default.not-Section before (ap (λ (n : ℕ). state c.args.progress.now.locals.items (g.S.Store.fields c.args.store.now) c.args.progress.now.receivers.items n) none) none

pub evaluator::evaluate-returns-else-progress-eq0-clause-means : goal.evaluator::evaluate-returns-else-progress-eq0-clause-means
evaluator::evaluate-returns-else-progress-eq0-clause-means g t c =
    let around = setting_in c.args.around.now (g.S.Store.parameters c.args.store.now) in
    let before = reached c.args.progress.now (g.S.Store.fields c.args.store.now) in
    paid_agrees around c.args.code.now before c.in_default.not-Piece c.in_default.not-Bind c.in_default.not-Section c.act.result (reached c.act.new.progress (g.S.Store.fields c.act.new.store)) (omega (arith, c.if-progress-eq0.false)) c.act.ensures.means

pub evaluator::evaluate-returns-in_ok-clone-in-Piece-clause-means : goal.evaluator::evaluate-returns-in_ok-clone-in-Piece-clause-means
evaluator::evaluate-returns-in_ok-clone-in-Piece-clause-means g t c =
    let around = setting_in c.args.around.now (g.S.Store.parameters c.args.store.now) in
    let before = reached c.args.progress.now (g.S.Store.fields c.args.store.now) in
    let form = ap (λ (code : Code). meaning around code before) c.in-Piece.is ∙ piece_law around c.in-Piece.text before in
    rw form (search rules)

pub evaluator::evaluate-returns-in-Bind-clause-means : goal.evaluator::evaluate-returns-in-Bind-clause-means
evaluator::evaluate-returns-in-Bind-clause-means g t c =
    let around = setting_in c.args.around.now (g.S.Store.parameters c.args.store.now) in
    let before = reached c.args.progress.now (g.S.Store.fields c.args.store.now) in
    let form = ap (λ (code : Code). meaning around code before) c.in-Bind.is ∙ bind_law around c.in-Bind.at c.in-Bind.kind before in
    rw form (search rules)

pub evaluator::evaluate-returns-in-Section-clause-means : goal.evaluator::evaluate-returns-in-Section-clause-means
evaluator::evaluate-returns-in-Section-clause-means g t c = grind (arith, section_law (setting_in c.args.around.now (g.S.Store.parameters c.args.store.now)))

-- operators that take both operands
pub expressions::binary-returns-clause-means : goal.expressions::binary-returns-clause-means
expressions::binary-returns-clause-means g t c =
    let around = setting_in c.args.around.now (g.S.Store.parameters c.args.store.now) in
    let before = reached c.args.progress.now (g.S.Store.fields c.args.store.now) in
    rw (strict_binary c.args.op c.in_default.not-And c.in_default.not-Or c.in_default.not-Coalesce (meaning around c.args.a.now) (meaning around c.args.b.now) before) (search rules)

-- calls that are too deep, of no body, and of a body
pub calls::enter-returns-then-around-ge-DEEPEST-clause-means : goal.calls::enter-returns-then-around-ge-DEEPEST-clause-means
calls::enter-returns-then-around-ge-DEEPEST-clause-means g t c =
    let around = setting_in c.args.around.now (g.S.Store.parameters c.args.store.now) in
    let before = reached c.args.progress.now (g.S.Store.fields c.args.store.now) in
    deep_call around c.args.who c.args.number c.args.locals.items before (omega (arith, c.if-around-ge-DEEPEST.true))

pub calls::enter-returns-in_default-clause-means : goal.calls::enter-returns-in_default-clause-means
calls::enter-returns-in_default-clause-means g t c =
    let around = setting_in c.args.around.now (g.S.Store.parameters c.args.store.now) in
    let before = reached c.args.progress.now (g.S.Store.fields c.args.store.now) in
    call_within around c.args.who c.args.number c.args.locals.items before (omega (arith, c.if-around-ge-DEEPEST.false))
    ∙ ap (λ (o : Option Code). entered around.parameters around.bodies (meaning (setting c.args.who around.parameters around.bodies (around.depth + 1))) c.args.locals.items o before) (sym c.in_default.ensures)

pub calls::enter-returns-clause-means : goal.calls::enter-returns-clause-means
calls::enter-returns-clause-means g t c =
    let around = setting_in c.args.around.now (g.S.Store.parameters c.args.store.now) in
    let before = reached c.args.progress.now (g.S.Store.fields c.args.store.now) in
    let form =
    call_within around c.args.who c.args.number c.args.locals.items before (omega (arith, c.if-around-ge-DEEPEST.false))
    ∙ ap (λ (o : Option Code). entered around.parameters around.bodies (meaning (setting c.args.who around.parameters around.bodies (around.depth + 1))) c.args.locals.items o before) (sym c.in-Some.ensures) in
    rw form (search rules)
