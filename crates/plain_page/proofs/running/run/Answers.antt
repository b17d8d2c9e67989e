use Rattle.std.proofs.Common.{refl, sym, ap, ◌∙◌}
use Rattle.cs_meaning.specs.State.{State, state}
use Rattle.plain_page.specs.Present.{fields_of}
use Rattle.plain_page.specs.Running.{meaning_at, meaning_over, Leaves}
use Rattle.plain_page.proofs.RunLemmas.{code_defined, handler_has_code, still_able, means_fault}
use Rattle.plain_page.proofs.running.run.Goals as goal

pub unreachable-requires : goal.unreachable-requires
unreachable-requires c =
    handler_has_code c.args.present.now.fields.items c.args.methods.now c.args.handlers.now c.args.handler c.requires.able c.requires.some c.requires.known (sym c.in_default.ensures)

pub run_code-requires : goal.run_code-requires
run_code-requires c =
    rw (c.new-bodies.ensures, c.new.ensures.items)
    (code_defined c.args.present.now.fields.items c.args.methods.now c.args.handlers.now c.args.handler c.in-Some.code.now c.requires.able (sym c.in-Some.ensures))

pub returns-in-Ok-clause-ran : goal.returns-in-Ok-clause-ran
returns-in-Ok-clause-ran c =
    let means = rw (c.new-bodies.ensures, c.new.ensures.items) at c.in-Ok.ensures.means in
    let after : State = state c.run_code.new.locals.values.items (fields_of c.run_code.new.owners.fields.items) c.in-Ok.field-0.receivers.items c.run_code.new.fuel.left in
    let leaves : Leaves c.args.present.now.fields.items c.run_code.new.owners.fields.items after = record { names = c.in-Ok.ensures.rest; values = refl } in
    (c.in-Ok.field-0.value, after, ap (meaning_at c.args.present.now.fields.items) (sym c.in-Some.ensures) ∙ means, leaves)

pub returns-in-Ok-clause-able : goal.returns-in-Ok-clause-able
returns-in-Ok-clause-able c _ =
    let means = rw (c.new-bodies.ensures, c.new.ensures.items) at c.in-Ok.ensures.means in
    let after : State = state c.run_code.new.locals.values.items (fields_of c.run_code.new.owners.fields.items) c.in-Ok.field-0.receivers.items c.run_code.new.fuel.left in
    let leaves : Leaves c.args.present.now.fields.items c.run_code.new.owners.fields.items after = record { names = c.in-Ok.ensures.rest; values = refl } in
    still_able c.args.present.now.fields.items c.run_code.new.owners.fields.items c.args.methods.now c.args.handlers.now c.args.handler c.in-Some.code.now
    c.in-Ok.field-0.value after c.requires.able (sym c.in-Some.ensures) means leaves

pub returns-in-Some-circuit_fault-clause-ran : goal.returns-in-Some-circuit_fault-clause-ran
returns-in-Some-circuit_fault-clause-ran c =
    let means = rw (c.new-bodies.ensures, c.new.ensures.items) at c.in-Err.ensures.means in
    let is = sym c.in-Some-circuit_fault.ensures in
    let found = means_fault c.in-Err.fault c.in-Some-circuit_fault.fault c.run_code.new.locals.values.items (fields_of c.run_code.new.owners.fields.items) c.run_code.new.fuel.left
    (meaning_over c.args.present.now.fields.items c.in-Some.code.now) is means in
    let after : State = state c.run_code.new.locals.values.items (fields_of c.run_code.new.owners.fields.items) found.0 c.run_code.new.fuel.left in
    let leaves : Leaves c.args.present.now.fields.items c.run_code.new.owners.fields.items after = record { names = c.in-Err.ensures.rest; values = refl } in
    (c.in-Err.fault, after, ap (meaning_at c.args.present.now.fields.items) (sym c.in-Some.ensures) ∙ found.1, is, leaves)
