use Rattle.std.proofs.Common.{◌≡◌, Err, Some, slice_get, length, ap, sym, ◌∙◌, subst, refl, List, ℕ}
use Rattle.std.proofs.lemmas.Option.{slice_get_read}
use Rattle.hub_messages.specs.Spelling.Spells.{SpellsUp, SpellsDown}
use Rattle.hub_messages.specs.declared.hub_fault.HubFault.TheVariants.{Malformed}
use Rattle.schedule_replay.specs.declared.direct_line.message.Message.TheVariants as bytes
use Rattle.schedule_replay.specs.Line.Steps.{ends_of}
use Rattle.schedule_replay.proofs.Line.ServerLemmas.{if-ok}
use Rattle.schedule_replay.proofs.Line.StandingLemmas.{delivers-down, delivers-up, next-down, next-up}
use Rattle.schedule_replay.proofs.direct_line.state.Line.deliver.Goals as goal

pub unreachable-requires : goal.unreachable-requires
unreachable-requires g c =
    let run = c.requires.running in
    let found : slice_get c.args.self.messages.items c.args.self.delivered ≡ Some (bytes.Up c.in-Up.bytes) =
    slice_get_read c.args.self.messages.items (length c.args.self.messages.items) c.args.self.delivered c.index.result.now refl c.requires.next c.index.ensures ∙ ap Some c.in-Up.is in
    let next = next-up (ends_of g.S.Stage.machine run.0 c.args.self.window g.T.Turns.turns g.T.Turns.page) g.T.Turns.first g.S.Stage.stands g.V.Screen.tree c.args.self run.2 c.in-Up.bytes run.3 found in
    let malformed : c.decode_up.result ≡ Err Malformed = c.in-Err-Malformed.is ∙ ap Err c.in-Err-Malformed.field-0-is in
    let spells : SpellsUp c.as_slice.result.now next.0 = subst (λ (b : List ℕ). SpellsUp b next.0) (sym c.as_slice.ensures) next.2 in
    c.decode_up.ensures.malformed malformed next.0 spells

pub returns-in-Ok : goal.returns-in-Ok
returns-in-Ok g c =
    if-ok c.deliver_up.result _ _
    (λ answer leads stage begins state stood.
    let ends = ends_of g.S.Stage.machine stage c.args.self.window g.T.Turns.turns g.T.Turns.page in
    let found : slice_get c.args.self.messages.items c.args.self.delivered ≡ Some (bytes.Up c.in-Up.bytes) =
    slice_get_read c.args.self.messages.items (length c.args.self.messages.items) c.args.self.delivered c.index.result.now refl c.requires.next c.index.ensures ∙ ap Some c.in-Up.is in
    let next = next-up ends g.T.Turns.first g.S.Stage.stands g.V.Screen.tree c.args.self state c.in-Up.bytes stood found in
    let read : SpellsUp c.in-Up.bytes c.in-Ok.message = subst (λ (b : List ℕ). SpellsUp b c.in-Ok.message) c.as_slice.ensures c.in-Ok.ensures.spelled in
    let led = leads stage begins state stood in
    (led.0, led.1, led.2, delivers-up ends state led.0 c.in-Up.bytes next.0 c.in-Ok.message answer.1 next.1 next.2 read led.3))
    c.deliver_up.ensures

pub returns-in_ok-bytes-in-Down : goal.returns-in_ok-bytes-in-Down
returns-in_ok-bytes-in-Down g c =
    if-ok c.deliver_down.result _ _
    (λ answer leads stage begins state stood.
    let ends = ends_of g.S.Stage.machine stage c.args.self.window g.T.Turns.turns g.T.Turns.page in
    let found : slice_get c.args.self.messages.items c.args.self.delivered ≡ Some (bytes.Down c.in-Down.bytes) =
    slice_get_read c.args.self.messages.items (length c.args.self.messages.items) c.args.self.delivered c.index.result.now refl c.requires.next c.index.ensures ∙ ap Some c.in-Down.is in
    let next = next-down ends g.T.Turns.first g.S.Stage.stands g.V.Screen.tree c.args.self state c.in-Down.bytes stood found in
    let copied : SpellsDown c.in_ok-bytes-in-Down.bytes next.0 = subst (λ (b : List ℕ). SpellsDown b next.0) (sym c.in_ok-bytes-in-Down.ensures) next.2 in
    let led = leads next.0 copied stage begins state next.1 stood in
    (led.0, led.1, led.2, delivers-down ends state led.0 next.0 answer.1 next.1 led.3))
    c.deliver_down.ensures
