use Rattle.std.proofs.Common.{rules, ◌≡◌, ◌≤◌, ◌<◌, ◌++◌, ◌∷◌, [], length}
use Rattle.schedule_replay.proofs.Line.LeadLemmas.{running-after}
use Rattle.schedule_replay.proofs.Line.TurnLemmas.{Delivered, flow-none, flow-turn, flow-all, flow-dry, flow-few}
use Rattle.schedule_replay.proofs.replaying.flow.Goals as goal

pub loop-turn-init : goal.loop-turn-init
loop-turn-init g c =
    flow-none g.S.Stage.machine g.S.Stage.stands g.T.Turns.first g.T.Turns.turns g.T.Turns.page g.V.Screen.tree c.args.line c.args.lines.now.items

pub returns-then-line-len : goal.returns-then-line-len
returns-then-line-len g c =
    let few : c.loop-turn._turn ≤ c.args.count = search rules in
    let dry : length c.loop-turn.line.messages.items ≤ c.loop-turn.line.delivered = search rules in
    flow-dry g.S.Stage.machine g.S.Stage.stands g.T.Turns.first g.T.Turns.turns g.T.Turns.page g.V.Screen.tree c.args.line c.loop-turn.line c.args.lines.now.items c.loop-turn.lines.items
    c.args.count c.loop-turn._turn few dry c.loop-turn.invariant

pub deliver-requires-clause-few : goal.deliver-requires-clause-few
deliver-requires-clause-few g c =
    let less : c.loop-turn._turn < c.args.count = search rules in
    flow-few g.S.Stage.machine g.S.Stage.stands g.T.Turns.first g.T.Turns.turns g.T.Turns.page g.V.Screen.tree c.args.line c.loop-turn.line c.args.lines.now.items c.loop-turn.lines.items
    c.args.count c.loop-turn._turn 4294967296 c.requires.running c.loop-turn.invariant less c.requires.few

pub deliver-requires-clause-running : goal.deliver-requires-clause-running
deliver-requires-clause-running g c =
    running-after g.S.Stage.machine g.S.Stage.stands g.T.Turns.first g.T.Turns.turns g.T.Turns.page g.V.Screen.tree c.args.line c.loop-turn.line c.args.lines.now.items c.loop-turn.lines.items
    (Delivered g.S.Stage.machine g.S.Stage.stands g.T.Turns.first g.T.Turns.turns g.T.Turns.page g.V.Screen.tree c.loop-turn._turn) c.requires.running c.loop-turn.invariant

pub loop-turn-preserved : goal.loop-turn-preserved
loop-turn-preserved g c =
    let pushed : c.push.new.self.items ≡ c.loop-turn.lines.items ++ c.in_ok-next.text ∷ [] = search rules in
    flow-turn g.S.Stage.machine g.S.Stage.stands g.T.Turns.first g.T.Turns.turns g.T.Turns.page g.V.Screen.tree c.args.line c.loop-turn.line c.in_ok-next.next
    c.args.lines.now.items c.loop-turn.lines.items c.push.new.self.items c.in_ok-next.text c.loop-turn._turn pushed c.loop-turn.invariant c.in_ok-next.ensures

pub returns : goal.returns
returns g c =
    let all : c.loop-turn._turn ≡ c.args.count = search rules in
    flow-all g.S.Stage.machine g.S.Stage.stands g.T.Turns.first g.T.Turns.turns g.T.Turns.page g.V.Screen.tree c.args.line c.loop-turn.line c.args.lines.now.items c.loop-turn.lines.items
    c.args.count c.loop-turn._turn all c.loop-turn.invariant
