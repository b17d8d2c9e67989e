use Rattle.serde_json.specs.View.{view}
use Rattle.schedule_replay.specs.Reading.{outline_view}
use Rattle.schedule_replay.proofs.BoundLemmas.{given-bounds}
use Rattle.schedule_replay.proofs.reading.read_schedule.Goals as goal

pub returns-in-Some-clause-bounds : goal.returns-in-Some-clause-bounds
returns-in-Some-clause-bounds c =
    given-bounds c.schedule_with.result (outline_view c.in-Some.parts) (view c.in_ok-json.json) c.in-Some.ensures c.schedule_with.ensures
