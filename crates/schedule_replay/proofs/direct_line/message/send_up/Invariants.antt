use Rattle.std.proofs.Common.{◌≡◌, ◌++◌, map}
use Rattle.schedule_replay.specs.declared.direct_line.message.Message.TheVariants.{Up}
use Rattle.schedule_replay.proofs.direct_line.message.send_up.Given as goal

-- the messages so far are sent
abbrev pub invariant-loop-up : goal.invariant-loop-up
invariant-loop-up l = l.messages.items ≡ l.initial.messages.items ++ map Up (map (λ bytes. bytes.items) l.yielded)
