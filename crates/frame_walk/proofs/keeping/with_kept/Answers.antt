use Rattle.std.proofs.Common.{rules, ◌≡◌, List, [], ◌∷◌, ◌++◌}
use Rattle.frame_walk.specs.Keeping.{KeepsUnder, keeps_text}
use Rattle.frame_walk.proofs.HandlerLemmas.{handler-keeps}
use Rattle.frame_walk.proofs.keeping.with_kept.Goals as goal

pub returns-in_ok-push-in-Handler : goal.returns-in_ok-push-in-Handler
returns-in_ok-push-in-Handler c = λ attributes keeps.
    let pushed : c.push.new.self ≡ c.args.kept ++ c.kept_id.result ∷ [] = search rules in
    handler-keeps c.args.was.now attributes c.args.attribute.now c.in-Handler.handler c.args.kept c.push.new.self c.kept_id.result keeps c.in-Handler.is c.kept_id.ensures pushed

pub returns-in-Text : goal.returns-in-Text
returns-in-Text c = λ attributes keeps. keeps_text c.args.was.now attributes c.args.kept c.args.attribute.now c.in-Text.field-0 keeps c.in-Text.is
