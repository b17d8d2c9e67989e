use Rattle.std.proofs.Common.{◌≡◌, ◌++◌, drop}
use Rattle.std.specs.Prelude.{option_map}
use Rattle.serde_json.specs.View.{items_view}
use Rattle.schedule_replay.specs.Schedule.{places_of}
use Rattle.schedule_replay.proofs.reading.places_of.Given as goal

abbrev pub invariant-loop-value : goal.invariant-loop-value
invariant-loop-value l =
    places_of (items_view l.values) ≡ option_map (λ rest. l.places ++ rest) (places_of (items_view (drop l.value-index l.values)))
