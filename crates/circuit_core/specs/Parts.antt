-- The parts of a circuit as what it keeps.
use Rattle.circuit_core.specs.Kept.{Kept}
use Rattle.circuit_core.specs.declared.parts.Parts.{Parts}

-- what is kept of the parts
abbrev pub kept_of : {Stage : Type 0} → Parts Stage → Kept Stage
kept_of parts = record { stage = parts.stage; status = parts.status; batches = parts.batches.items; outcomes = parts.outcomes.items }
