-- The numbered calls of an object in memory.
use Rattle.std.specs.Prelude.{◌≡◌, ℕ, List, Bool, Contains, if◌then◌else◌}
use Rattle.outside.specs.Faults.{one_more}
use Rattle.outside.specs.declared.calls.Calls.{Calls}

-- how many calls were made
abbrev pub calls_made : Calls → ℕ
calls_made calls = calls.made

-- the numbers of the calls that are to fail
abbrev pub failing_calls : Calls → List ℕ
failing_calls calls = calls.failing.items

-- how many calls failed
abbrev pub calls_failed : Calls → ℕ
calls_failed calls = calls.faults

-- no call was made, and those of these numbers are to fail
pub record IsFresh (calls : Calls) (failing : List ℕ) : Type 0 where
  pub none_made : calls_made calls ≡ 0
  pub list : failing_calls calls ≡ failing
  pub none_failed : calls_failed calls ≡ 0

-- the number of the next call is listed
abbrev pub NextFails : Calls → Type 0
NextFails calls = Contains (failing_calls calls) (one_more (calls_made calls))

-- one call more was made, and one more failed if this one did
pub record MakesCall (old new : Calls) (failed : Bool) : Type 0 where
  pub made : calls_made new ≡ one_more (calls_made old)
  pub list : failing_calls new ≡ failing_calls old
  pub faults : calls_failed new ≡ (if failed then one_more (calls_failed old) else calls_failed old)
