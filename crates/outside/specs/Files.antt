-- What the reading of a file may answer.
use Rattle.std.specs.Prelude.{◌≡◌, ℕ, ◌<◌, ◌≤◌, List, length, Some, None, ⊤}
use Rattle.std.specs.declared.option.Option.{Option}
use Rattle.outside.specs.declared.files.FileRead.{FileRead}
use Rattle.outside.specs.declared.files.FileRead.TheVariants.{Bytes, Missing, TooLarge, Failed, Oom}
use Rattle.outside.specs.Faults.{Rose}

-- what the answer says of files that hold these bytes
abbrev pub AnswersFrom : (List ℕ → Option (List ℕ)) → List ℕ → ℕ → FileRead → Type 0
AnswersFrom file name limit (Bytes v) = (file name ≡ Some v.items) × (length v.items ≤ limit)
AnswersFrom file name limit Missing = file name ≡ None
AnswersFrom file name limit TooLarge = (bytes : List ℕ) × (file name ≡ Some bytes) × (limit < length bytes)
AnswersFrom file name limit Failed = ⊤
AnswersFrom file name limit Oom = ⊤

-- the same, where the bytes are told; where they aren't, an answer still keeps the limit
abbrev pub Answers : Option (List ℕ → Option (List ℕ)) → List ℕ → ℕ → FileRead → Type 0
Answers (Some file) name limit answer = AnswersFrom file name limit answer
Answers None name limit (Bytes v) = length v.items ≤ limit
Answers None name limit answer = ⊤

-- this holds where the answer is `Failed`
abbrev pub OnFailed : FileRead → Type 0 → Type 0
OnFailed Failed P = P
OnFailed answer P = ⊤

-- the count never falls, and `Failed` is answered only where it rose
pub record ReadHasCause (before now : ℕ) (answer : FileRead) : Type 0 where
  pub later : before ≤ now
  pub failed : OnFailed answer (Rose before now)
