use Rattle.std.proofs.Common.{rules}
use Rattle.serde_json.specs.Errors.{IsMemory}
use Rattle.schedule_replay.proofs.ScheduleLemmas.{json-read, json-refused}
use Rattle.schedule_replay.proofs.reading.json_of.Goals as goal

pub returns-in-Ok : goal.returns-in-Ok
returns-in-Ok c = json-read c.args.bytes.now _ c.in-Ok.ensures.ok.0 c.in-Ok.ensures.ok.1

pub returns-in-Err-2 : goal.returns-in-Err-2
returns-in-Err-2 c =
    let not_memory : IsMemory c.in-Err.error → ⊥ = search rules in
    json-refused c.args.bytes.now (c.in-Err.ensures.err not_memory)
