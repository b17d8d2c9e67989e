-- Which files a command names, and which of them is answered for.
use Rattle.std.specs.Prelude.{◌≡◌, ℕ, ◌<◌, ◌≤◌, List, [], ◌∷◌, length, map, Option, Some, None, ⊤}
use Rattle.blazor_top.specs.declared.command.Command.{Command}
use Rattle.blazor_top.specs.declared.command.Command.TheVariants.{Ask, Replay}

-- the bytes at each name, where files tell them
abbrev pub Contents : Type 0
Contents = Option (List ℕ → Option (List ℕ))

-- a file that is named, and the most bytes that it may have
pub record Named : Type 0 where
  pub name : List ℕ
  pub limit : ℕ

abbrev pub named : List ℕ → ℕ → Named
named name limit = record { name = name; limit = limit }

abbrev pub component_file : List ℕ → Named
component_file name = named name 1048576

abbrev pub schedule_file : List ℕ → Named
schedule_file name = named name 16777216

-- the files that a command names, in the order of the words
abbrev pub files_of : Command → List Named
files_of (Ask question files) = map component_file files
files_of (Replay schedule root others) = schedule_file schedule ∷ component_file root ∷ map component_file others

-- the file has these bytes, and no more than it may have
abbrev pub Holds : Contents → Named → List ℕ → Type 0
Holds (Some file) asked bytes = (file asked.name ≡ Some bytes) × (length bytes ≤ asked.limit)
Holds None asked bytes = length bytes ≤ asked.limit

-- the file is there, with no more bytes than it may have
abbrev pub IsThere : Contents → Named → Type 0
IsThere held asked = (bytes : List ℕ) × Holds held asked bytes

-- there is no such file
abbrev pub Lacks : Contents → Named → Type 0
Lacks (Some file) asked = file asked.name ≡ None
Lacks None asked = ⊤

-- the file has more bytes than it may have
abbrev pub Exceeds : Contents → Named → Type 0
Exceeds (Some file) asked = (bytes : List ℕ) × (file asked.name ≡ Some bytes) × (asked.limit < length bytes)
Exceeds None asked = ⊤

-- this one of the files is such, and those before it are of the other kind
pub data FirstSuch (Before Such : Named → Type 0) : List Named → Named → Type 0 where
  here : (file : Named) (files : List Named) → Such file → FirstSuch Before Such (file ∷ files) file
  behind : (other file : Named) (files : List Named) → Before other → FirstSuch Before Such files file → FirstSuch Before Such (other ∷ files) file
