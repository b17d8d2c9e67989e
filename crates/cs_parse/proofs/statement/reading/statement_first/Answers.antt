use Rattle.std.proofs.Common.{rules, ◌≡◌, ◌++◌, ◌∷◌, [], ◌∙◌, ap, sym, Some}
use Rattle.cs_parse.specs.Reading.{Fails}
use Rattle.cs_parse.specs.StatementReading.{begin, statement_first}
use Rattle.cs_parse.specs.StatementReading as r
use Rattle.cs_parse.proofs.StatementTurns.{distance, stacked, start_turn, start_fail, inside_fail, block_fail, switch_fail, section_fail, done_end}
use Rattle.cs_parse.proofs.StatementMachine.{fails_on, same_named, nearer_named, done_same, done_nearer, inside_same, inside_nearer, block_same, block_nearer, switch_same, switch_nearer, section_same, section_nearer}
use Rattle.cs_parse.proofs.statement.reading.statement_first.Goals.{in-Done+in-Some+in_ok-resume-in-Some, in-Inside+in_ok-push-in-Inside+in_ok-begin-in-Inside, in-Block+in_ok-block-in-Block, in-Switch+in_ok-switch-in-Switch, in-Section+in_ok-following-in-Section}
use Rattle.cs_parse.proofs.statement.reading.statement_first.Goals as goal

pub returns-in_err-next : goal.returns-in_err-next
returns-in_err-next c =
    let j = c.args.jumps in
    let ts = c.args.tokens.now in
    let h : Fails c.in_err-next.field-0.0 (statement_first j ts) = fails_on c.in_err-next.field-0.0 (begin j ts) (statement_first j ts) (start_fail j ts) c.in_err-next.ensures in
    search rules

pub loop-next-init : goal.loop-next-init
loop-next-init c =
    let none : c.new-stack.result.items ≡ [] = search rules in
    record { same = start_turn c.args.jumps c.args.tokens.now c.in_ok-next.rest.now c.in_ok-next.next c.in_ok-next.ensures ∙ ap (λ l. stacked l c.in_ok-next.next c.in_ok-next.rest.now) (sym none) }

pub returns-in-None : goal.returns-in-None
returns-in-None c =
    let none : c.loop-next.stack.items ≡ [] = search rules in
    c.loop-next.invariant.same ∙ ap (λ n. stacked c.loop-next.stack.items n c.loop-next.rest.now) c.in-Done.is ∙ done_end c.loop-next.stack.items c.in-Done.made c.loop-next.rest.now none

pub returns-in_err-begin-in-Inside : goal.returns-in_err-begin-in-Inside
returns-in_err-begin-in-Inside c =
    let whole = statement_first c.args.jumps c.args.tokens.now in
    let ts = c.loop-next.rest.now in
    let fs = c.loop-next.stack.items in
    let h : Fails c.in_err-begin-in-Inside.field-0.0 whole =
    fails_on c.in_err-begin-in-Inside.field-0.0 (begin c.in-Inside.inner ts) whole
    (λ e. c.loop-next.invariant.same ∙ ap (λ n. stacked fs n ts) c.in-Inside.is ∙ inside_fail fs c.in-Inside.frame c.in-Inside.inner ts e) c.in_err-begin-in-Inside.ensures in
    search rules

pub returns-in_err-block-in-Block : goal.returns-in_err-block-in-Block
returns-in_err-block-in-Block c =
    let whole = statement_first c.args.jumps c.args.tokens.now in
    let ts = c.loop-next.rest.now in
    let fs = c.loop-next.stack.items in
    let h : Fails c.in_err-block-in-Block.field-0.0 whole =
    fails_on c.in_err-block-in-Block.field-0.0 (r.block c.in-Block.open ts) whole
    (λ e. c.loop-next.invariant.same ∙ ap (λ n. stacked fs n ts) c.in-Block.is ∙ block_fail fs c.in-Block.open ts e) c.in_err-block-in-Block.ensures in
    search rules

pub returns-in_err-switch-in-Switch : goal.returns-in_err-switch-in-Switch
returns-in_err-switch-in-Switch c =
    let whole = statement_first c.args.jumps c.args.tokens.now in
    let ts = c.loop-next.rest.now in
    let fs = c.loop-next.stack.items in
    let h : Fails c.in_err-switch-in-Switch.field-0.0 whole =
    fails_on c.in_err-switch-in-Switch.field-0.0 (r.switch c.in-Switch.open ts) whole
    (λ e. c.loop-next.invariant.same ∙ ap (λ n. stacked fs n ts) c.in-Switch.is ∙ switch_fail fs c.in-Switch.open ts e) c.in_err-switch-in-Switch.ensures in
    search rules

pub returns-in_err-following-in-Section : goal.returns-in_err-following-in-Section
returns-in_err-following-in-Section c =
    let whole = statement_first c.args.jumps c.args.tokens.now in
    let ts = c.loop-next.rest.now in
    let fs = c.loop-next.stack.items in
    let h : Fails c.in_err-following-in-Section.field-0.0 whole =
    fails_on c.in_err-following-in-Section.field-0.0 (r.section_on c.in-Section.open ts) whole
    (λ e. c.loop-next.invariant.same ∙ ap (λ n. stacked fs n ts) c.in-Section.is ∙ section_fail fs c.in-Section.open ts e) c.in_err-following-in-Section.ensures in
    search rules

pub loop-next-preserved : goal.loop-next-preserved
loop-next-preserved c =
    let whole = statement_first c.args.jumps c.args.tokens.now in
    let ts = c.loop-next.rest.now in
    let fs = c.loop-next.stack.items in
    let now = c.loop-next.next in
    elim c.match-next.branch [
      | in-Done+in-Some+in_ok-resume-in-Some w ↦
          record {
            same = same_named c.match-next.stack.items (w.pop.new.self.items) (w.in_ok-resume-in-Some.following, w.in_ok-resume-in-Some.behind) c.match-next.following whole (ap (λ v. v.items) w.stack-is) w.following-is
                (let m : fs ≡ w.pop.new.self.items ++ w.in-Some.frame ∷ [] = search rules in done_same whole fs w.pop.new.self.items w.in-Some.frame w.in-Done.made ts w.in_ok-resume-in-Some.behind.now now w.in_ok-resume-in-Some.following c.loop-next.invariant.same w.in-Done.is m w.in_ok-resume-in-Some.ensures);
          }
      | in-Inside+in_ok-push-in-Inside+in_ok-begin-in-Inside w ↦
          record {
            same = same_named c.match-next.stack.items (w.push.new.self.items) (w.in_ok-begin-in-Inside.following, w.in_ok-begin-in-Inside.behind) c.match-next.following whole (ap (λ v. v.items) w.stack-is) w.following-is
                (let m : w.push.new.self.items ≡ fs ++ w.in-Inside.frame ∷ [] = search rules in inside_same whole fs w.push.new.self.items w.in-Inside.frame w.in-Inside.inner ts w.in_ok-begin-in-Inside.behind.now now w.in_ok-begin-in-Inside.following c.loop-next.invariant.same w.in-Inside.is m w.in_ok-begin-in-Inside.ensures);
          }
      | in-Block+in_ok-block-in-Block w ↦
          record {
            same = same_named c.match-next.stack.items (fs) (w.in_ok-block-in-Block.following, w.in_ok-block-in-Block.behind) c.match-next.following whole (ap (λ v. v.items) w.stack-is) w.following-is
                (block_same whole fs w.in-Block.open ts w.in_ok-block-in-Block.behind.now now w.in_ok-block-in-Block.following c.loop-next.invariant.same w.in-Block.is w.in_ok-block-in-Block.ensures);
          }
      | in-Switch+in_ok-switch-in-Switch w ↦
          record {
            same = same_named c.match-next.stack.items (fs) (w.in_ok-switch-in-Switch.following, w.in_ok-switch-in-Switch.behind) c.match-next.following whole (ap (λ v. v.items) w.stack-is) w.following-is
                (switch_same whole fs w.in-Switch.open ts w.in_ok-switch-in-Switch.behind.now now w.in_ok-switch-in-Switch.following c.loop-next.invariant.same w.in-Switch.is w.in_ok-switch-in-Switch.ensures);
          }
      | in-Section+in_ok-following-in-Section w ↦
          record {
            same = same_named c.match-next.stack.items (fs) (w.in_ok-following-in-Section.following, w.in_ok-following-in-Section.behind) c.match-next.following whole (ap (λ v. v.items) w.stack-is) w.following-is
                (section_same whole fs w.in-Section.open ts w.in_ok-following-in-Section.behind.now now w.in_ok-following-in-Section.following c.loop-next.invariant.same w.in-Section.is w.in_ok-following-in-Section.ensures);
          }
    ]

pub loop-next-smaller : goal.loop-next-smaller
loop-next-smaller c =
    let ts = c.loop-next.rest.now in
    let fs = c.loop-next.stack.items in
    let now = c.loop-next.next in
    elim c.match-next.branch [
      | in-Done+in-Some+in_ok-resume-in-Some w ↦
          nearer_named c.match-next.stack.items (w.pop.new.self.items) (w.in_ok-resume-in-Some.following, w.in_ok-resume-in-Some.behind) c.match-next.following (distance fs now ts) (ap (λ v. v.items) w.stack-is) w.following-is
          (let m : fs ≡ w.pop.new.self.items ++ w.in-Some.frame ∷ [] = search rules in done_nearer fs w.pop.new.self.items w.in-Some.frame w.in-Done.made ts w.in_ok-resume-in-Some.behind.now now w.in_ok-resume-in-Some.following w.in-Done.is m w.in_ok-resume-in-Some.ensures)
      | in-Inside+in_ok-push-in-Inside+in_ok-begin-in-Inside w ↦
          nearer_named c.match-next.stack.items (w.push.new.self.items) (w.in_ok-begin-in-Inside.following, w.in_ok-begin-in-Inside.behind) c.match-next.following (distance fs now ts) (ap (λ v. v.items) w.stack-is) w.following-is
          (let m : w.push.new.self.items ≡ fs ++ w.in-Inside.frame ∷ [] = search rules in inside_nearer fs w.push.new.self.items w.in-Inside.frame w.in-Inside.inner ts w.in_ok-begin-in-Inside.behind.now now w.in_ok-begin-in-Inside.following w.in-Inside.is m w.in_ok-begin-in-Inside.ensures)
      | in-Block+in_ok-block-in-Block w ↦
          nearer_named c.match-next.stack.items (fs) (w.in_ok-block-in-Block.following, w.in_ok-block-in-Block.behind) c.match-next.following (distance fs now ts) (ap (λ v. v.items) w.stack-is) w.following-is
          (block_nearer fs w.in-Block.open ts w.in_ok-block-in-Block.behind.now now w.in_ok-block-in-Block.following w.in-Block.is w.in_ok-block-in-Block.ensures)
      | in-Switch+in_ok-switch-in-Switch w ↦
          nearer_named c.match-next.stack.items (fs) (w.in_ok-switch-in-Switch.following, w.in_ok-switch-in-Switch.behind) c.match-next.following (distance fs now ts) (ap (λ v. v.items) w.stack-is) w.following-is
          (switch_nearer fs w.in-Switch.open ts w.in_ok-switch-in-Switch.behind.now now w.in_ok-switch-in-Switch.following w.in-Switch.is w.in_ok-switch-in-Switch.ensures)
      | in-Section+in_ok-following-in-Section w ↦
          nearer_named c.match-next.stack.items (fs) (w.in_ok-following-in-Section.following, w.in_ok-following-in-Section.behind) c.match-next.following (distance fs now ts) (ap (λ v. v.items) w.stack-is) w.following-is
          (section_nearer fs w.in-Section.open ts w.in_ok-following-in-Section.behind.now now w.in_ok-following-in-Section.following w.in-Section.is w.in_ok-following-in-Section.ensures)
    ]
