use Rattle.std.proofs.Common.{rules}
use Rattle.cs_parse.specs.Reading.{Fails}
use Rattle.cs_parse.specs.ExpressionReading.{expr_first}
use Rattle.cs_parse.proofs.MachineLaws.{first_turn, first_fails, wanted_turn, wanted_fails, found_turn, found_fails, named_turn}
use Rattle.cs_parse.proofs.expressions.machine.expr_first.Goals.{in-Wanted+in_ok-push-in-Wanted+in_ok-begin-in-Wanted, in-Found+in-Some+in_ok-next-in-Some}
use Rattle.cs_parse.proofs.expressions.machine.expr_first.Goals as goal

pub returns-in_err-turn : goal.returns-in_err-turn
returns-in_err-turn c =
    let h : Fails c.in_err-turn.field-0.0 (expr_first c.args.level c.args.tokens.now) = first_fails c.args.level c.args.tokens.now c.in_err-turn.field-0.0 c.in_err-turn.ensures.read in
    search rules

pub loop-turn-init : goal.loop-turn-init
loop-turn-init c = first_turn c.new-stack.result c.begin.new.stack c.args.level c.args.tokens.now c.in_ok-turn.left.now c.in_ok-turn.turn c.new-stack.ensures c.in_ok-turn.ensures.read

pub returns-in_err-begin-in-Wanted : goal.returns-in_err-begin-in-Wanted
returns-in_err-begin-in-Wanted c =
    let h : Fails c.in_err-begin-in-Wanted.field-0.0 (expr_first c.args.level c.args.tokens.now) =
    wanted_fails c.loop-turn.stack c.loop-turn.turn c.in-Wanted.form c.in-Wanted.level c.loop-turn.left.now (expr_first c.args.level c.args.tokens.now) c.in_err-begin-in-Wanted.field-0.0
    c.loop-turn.invariant c.in-Wanted.is c.in_err-begin-in-Wanted.ensures.read in
    search rules

pub returns-in_err-next-in-Some : goal.returns-in_err-next-in-Some
returns-in_err-next-in-Some c =
    let h : Fails c.in_err-next-in-Some.field-0.0 (expr_first c.args.level c.args.tokens.now) =
    found_fails c.loop-turn.stack c.pop.new.self c.in-Some.frame c.loop-turn.turn c.in-Found.a c.loop-turn.left.now (expr_first c.args.level c.args.tokens.now) c.in_err-next-in-Some.field-0.0
    c.loop-turn.invariant c.in-Found.is c.in-Some.ensures c.in_err-next-in-Some.ensures.read in
    search rules

pub loop-turn-preserved : goal.loop-turn-preserved
loop-turn-preserved c =
    elim c.match-turn.branch [
      | in-Wanted+in_ok-push-in-Wanted+in_ok-begin-in-Wanted w ↦
          named_turn w.begin-in-Wanted.new.stack c.match-turn.stack (w.in_ok-begin-in-Wanted.next, w.in_ok-begin-in-Wanted.rest) c.match-turn.next (expr_first c.args.level c.args.tokens.now)
          w.stack-is w.next-is
          (wanted_turn c.loop-turn.stack w.push.new.self w.begin-in-Wanted.new.stack c.loop-turn.turn w.in_ok-begin-in-Wanted.next w.in-Wanted.form w.in-Wanted.level c.loop-turn.left.now w.in_ok-begin-in-Wanted.rest.now
          (expr_first c.args.level c.args.tokens.now) c.loop-turn.invariant w.in-Wanted.is w.in_ok-push-in-Wanted.ensures.ok w.in_ok-begin-in-Wanted.ensures.read)
      | in-Found+in-Some+in_ok-next-in-Some w ↦
          named_turn w.go_on.new.stack c.match-turn.stack (w.in_ok-next-in-Some.next, w.in_ok-next-in-Some.rest) c.match-turn.next (expr_first c.args.level c.args.tokens.now)
          w.stack-is w.next-is
          (found_turn c.loop-turn.stack w.pop.new.self w.go_on.new.stack w.in-Some.frame c.loop-turn.turn w.in_ok-next-in-Some.next w.in-Found.a c.loop-turn.left.now w.in_ok-next-in-Some.rest.now
          (expr_first c.args.level c.args.tokens.now) c.loop-turn.invariant w.in-Found.is w.in-Some.ensures w.in_ok-next-in-Some.ensures.read)
    ]
