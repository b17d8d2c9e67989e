use Rattle.std.proofs.Common.{◌≡◌, ◌++◌, take}
use Rattle.std.specs.List.{flat_map}
use Rattle.std.specs.Prelude.{codes}
use Rattle.schedule_replay.specs.Texts.{reply_text}
use Rattle.schedule_replay.proofs.texts.push_replies.Given as goal

abbrev pub invariant-loop-reply : goal.invariant-loop-reply
invariant-loop-reply l = l.line ≡ l.initial.line ++ flat_map (λ reply. codes ", " ++ reply_text reply) (take l.reply-index l.rest)
