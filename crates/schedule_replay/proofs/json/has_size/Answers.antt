use Rattle.std.proofs.Common.{rules, ◌≡◌, length, Some, refl}
use Rattle.serde_json.specs.Find.{as_object}
use Rattle.serde_json.specs.View.{view, members_view}
use Rattle.schedule_replay.proofs.ScheduleLemmas.{count-view}
use Rattle.schedule_replay.proofs.json.has_size.Goals as goal

pub returns-in-Some : goal.returns-in-Some
returns-in-Some c =
    let seen : Some (members_view c.in-Some.members.now.entries) ≡ as_object (view c.args.value.now) = search rules in
    let counted : c.len.result ≡ length c.in-Some.members.now.entries = search rules in
    rw (← seen, counted, count-view c.in-Some.members.now.entries) refl
