-- What files in memory hold.
use Rattle.std.specs.Prelude.{◌≡◌, ◌≢◌, ℕ, List, Some, Bool, true, false}
use Rattle.std.specs.declared.option.Option.{Option}
use Rattle.std.specs.Option.{option_map}
use Rattle.std.specs.Ordering.{nat_cmp}
use Rattle.std.specs.Cmp.Lexicographic.{slice_cmp}
use Rattle.std.specs.BTreeMap.{get}
use Rattle.outside.specs.declared.calls.Calls.{Calls}
use Rattle.outside.specs.declared.files.FileRead.{FileRead}
use Rattle.outside.specs.declared.files.FileRead.TheVariants.{Failed}
use Rattle.outside.specs.declared.mem_files.MemFiles.{MemFiles}

-- the bytes of the file of that name
abbrev pub file_at : MemFiles → List ℕ → Option (List ℕ)
file_at files name = option_map (λ bytes. bytes.items) (get (slice_cmp nat_cmp) files.files name)

-- the readings so far, which are the numbered calls
abbrev pub calls_of : MemFiles → Calls
calls_of files = files.calls

-- the answer is `Failed`
abbrev pub is_failed : FileRead → Bool
is_failed Failed = true
is_failed answer = false

-- the file of that name has these bytes, and those of other names are as they were
pub record PutsFile (old new : MemFiles) (name bytes : List ℕ) : Type 0 where
  pub put : file_at new name ≡ Some bytes
  pub others : (other : List ℕ) → other ≢ name → file_at new other ≡ file_at old other
