-- What a sink in memory has taken.
use Rattle.std.specs.Prelude.{◌≡◌, ℕ, List, length, Bool, true, false, ⊤}
use Rattle.outside.specs.declared.calls.Calls.{Calls}
use Rattle.outside.specs.declared.sink.Wrote.{Wrote}
use Rattle.outside.specs.declared.sink.Wrote.TheVariants.{Took, Failed, Oom}
use Rattle.outside.specs.declared.mem_sink.MemSink.{MemSink}

-- the bytes taken
abbrev pub sink_bytes : MemSink → List ℕ
sink_bytes sink = sink.bytes.items

-- the writes so far, which are the numbered calls
abbrev pub calls_of : MemSink → Calls
calls_of sink = sink.calls

-- the answer is `Failed`
abbrev pub is_failed : Wrote → Bool
is_failed Failed = true
is_failed answer = false

-- what was taken is the whole piece
abbrev pub TookWhole : List ℕ → Wrote → Type 0
TookWhole piece (Took n) = n ≡ length piece
TookWhole piece Failed = ⊤
TookWhole piece Oom = ⊤
