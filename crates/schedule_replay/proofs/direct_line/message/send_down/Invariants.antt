use Rattle.std.proofs.Common.{take}
use Rattle.schedule_replay.specs.Line.Standing.{SpelledDown}
use Rattle.schedule_replay.proofs.direct_line.message.send_down.Given as goal

-- the replies so far are sent
abbrev pub invariant-loop-reply : goal.invariant-loop-reply
invariant-loop-reply l = SpelledDown l.initial.messages.items (take l.reply-index l.replies) l.messages.items
