use Rattle.std.proofs.Common.{rules, ◌≡◌, ◌++◌, ◌∷◌, [], Some, slice_get, length, refl}
use Rattle.std.proofs.lemmas.Option.{slice_get_read}
use Rattle.schedule_replay.specs.Line.InStep.{IsShortReply}
use Rattle.schedule_replay.specs.declared.direct_line.message.Message.TheVariants as bytes
use Rattle.schedule_replay.proofs.Line.EveryLemmas.{every-at}
use Rattle.schedule_replay.proofs.Line.ReplyLemmas.{reply-fits, take-more}
use Rattle.schedule_replay.proofs.direct_line.message.send_down.Goals as goal

pub encode_down-requires : goal.encode_down-requires
encode_down-requires c =
    let there : slice_get c.args.replies.now c.loop-reply.reply-index ≡ Some c.reply-item.result = slice_get_read c.args.replies.now (length c.args.replies.now) c.loop-reply.reply-index c.reply-item.result refl (search rules) (search rules) in
    reply-fits c.reply-item.result (every-at IsShortReply c.args.replies.now c.loop-reply.reply-index c.reply-item.result c.requires there)

pub loop-reply-preserved : goal.loop-reply-preserved
loop-reply-preserved c =
    let there : slice_get c.args.replies.now c.loop-reply.reply-index ≡ Some c.reply-item.result = slice_get_read c.args.replies.now (length c.args.replies.now) c.loop-reply.reply-index c.reply-item.result refl (search rules) (search rules) in
    let pushed : c.push.new.self.items ≡ c.loop-reply.messages.items ++ bytes.Down c.in_ok-bytes.bytes.items ∷ [] = search rules in
    take-more c.args.messages.now.items c.loop-reply.messages.items c.push.new.self.items c.args.replies.now c.loop-reply.reply-index c.reply-item.result c.in_ok-bytes.bytes.items
    there c.loop-reply.invariant c.in_ok-bytes.ensures pushed
