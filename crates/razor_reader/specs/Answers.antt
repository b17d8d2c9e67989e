-- What reading a file answers.
use Rattle.std.specs.Prelude.{◌≡◌, ◌≤◌, ◌<◌, ℕ, List, Some, None, length, encode_utf8_all, Result, Ok, Err}
use Rattle.text_core.specs.declared.place.Place.{Place}
use Rattle.razor_token.specs.Answers.{IsPlaceIn}
use Rattle.razor_token.specs.Cutting.{Cuts}
use Rattle.razor_token.specs.declared.piece.Piece.{Piece}
use Rattle.razor_ast.specs.declared.component.Component.{Component}
use Rattle.razor_ast.specs.Components.{SpellsFile}
use Rattle.razor_ast.specs.FileTexts.{text_read}
use Rattle.razor_ast.specs.Nesting.{too_deep}
use Rattle.razor_reader.specs.declared.fault.ReadFault.{ReadFault}
use Rattle.razor_reader.specs.declared.fault.ReadFault.TheVariants as f

-- the text has at most so many bytes as a file may have
abbrev pub IsShort : List ℕ → Type 0
IsShort text = length (encode_utf8_all text) ≤ 1048576

-- the pieces of the text nest nowhere too deeply
abbrev pub IsFlat : List ℕ → Type 0
IsFlat text = (pieces : List Piece) → Cuts text pieces → too_deep pieces ≡ None

-- the first place at which the pieces of the text nest too deeply
abbrev pub NestsTooDeep : List ℕ → Place → Type 0
NestsTooDeep text place = (pieces : List Piece) × Cuts text pieces × (too_deep pieces ≡ Some place)

-- the file spells no component
abbrev pub SpellsNothing : List ℕ → List ℕ → Type 0
SpellsNothing name text = (c : Component) → SpellsFile name text c → ⊥

-- By the component, where a file of the name and the text spells it and nests nowhere too deeply; by TooLong, where the text as it is
-- given has too many bytes; by TooDeep, at the first place where it nests too deeply; by Syntax, where it does neither.
abbrev pub Answers : List ℕ → List ℕ → Result Component ReadFault → Type 0
Answers name text (Ok c) = IsShort text × IsFlat (text_read text) × SpellsFile name text c
Answers name text (Err f.TooLong) = 1048576 < length (encode_utf8_all text)
Answers name text (Err (f.TooDeep place)) = IsShort text × NestsTooDeep (text_read text) place
Answers name text (Err (f.Syntax place)) = IsShort text × IsFlat (text_read text) × SpellsNothing name text
Answers name text (Err f.Oom) = Unit {0}

-- so of a Syntax: its place is that of a character of the text that is read, or that behind its last
abbrev pub SyntaxWithin : List ℕ → Result Component ReadFault → Type 0
SyntaxWithin text (Err (f.Syntax place)) = IsPlaceIn (text_read text) place
SyntaxWithin text _ = Unit {0}
