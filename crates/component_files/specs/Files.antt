-- What the bytes of files spell.
use Rattle.std.specs.Prelude.{◌≡◌, ℕ, ◌<◌, ◌≤◌, List, [], ◌∷◌, length, slice_get, take, Some, Result, Ok, Err, IsUtf8, chars, ⊤}
use Rattle.text_core.specs.declared.place.Place.{Place}
use Rattle.razor_ast.specs.declared.component.Component.{Component}
use Rattle.razor_ast.specs.Components.{SpellsFile}
use Rattle.razor_ast.specs.FileTexts.{text_read}
use Rattle.razor_token.specs.Answers.{IsPlaceIn}
use Rattle.razor_reader.specs.declared.fault.ReadFault.{ReadFault}
use Rattle.razor_reader.specs.declared.fault.ReadFault.TheVariants as f
use Rattle.razor_reader.specs.Answers.{IsFlat, NestsTooDeep, SpellsNothing}
use Rattle.component_files.specs.declared.files.FileFault.{FileFault}
use Rattle.component_files.specs.declared.files.FileFault.TheVariants as fault
use Rattle.component_files.specs.declared.files.SourceFile.{SourceFile}
use Rattle.component_files.specs.declared.files.Unreadable.{Unreadable}
use Rattle.component_files.specs.declared.files.Unreadable.TheVariants as cause

-- the bytes are no more than a file may have
abbrev pub IsShort : List ℕ → Type 0
IsShort bytes = length bytes ≤ 1048576

-- the bytes are the UTF-8 of a text that is such
abbrev pub OfText : (List ℕ → Type 0) → List ℕ → Type 0
OfText Such bytes = IsUtf8 bytes × Such (chars bytes)

-- the file of this name with these bytes spells the component, and its text nests nowhere too deeply
abbrev pub FileSpells : List ℕ → List ℕ → Component → Type 0
FileSpells name bytes c = IsShort bytes × OfText (λ text. IsFlat (text_read text) × SpellsFile name text c) bytes

-- its text nests too deeply, first at this place
abbrev pub FileNestsTooDeep : List ℕ → Place → Type 0
FileNestsTooDeep bytes place = IsShort bytes × OfText (λ text. NestsTooDeep (text_read text) place) bytes

-- the place of the first character of a file
abbrev pub start : Place
start = record { line = 1; column = 1 }

-- the bytes are of no text, or of one that nests nowhere too deeply and spells no component; the place is the first, or lies within the text or at its end
pub data FileSpellsNothing (name bytes : List ℕ) : Place → Type 0 where
  no_text : IsShort bytes → ¬ (IsUtf8 bytes) → FileSpellsNothing name bytes start
  no_component : (place : Place) → IsShort bytes
      → OfText (λ text. IsFlat (text_read text) × SpellsNothing name text × IsPlaceIn (text_read text) place) bytes → FileSpellsNothing name bytes place

-- why a file of this name with these bytes spells no component
abbrev pub IsCause : List ℕ → List ℕ → Unreadable → Type 0
IsCause name bytes cause.TooLong = 1048576 < length bytes
IsCause name bytes (cause.TooDeep place) = FileNestsTooDeep bytes place
IsCause name bytes (cause.Syntax place) = FileSpellsNothing name bytes place

-- by the component that the file spells, or by the cause why it spells none
abbrev pub Answers : List ℕ → List ℕ → Result Component ReadFault → Type 0
Answers name bytes (Ok c) = FileSpells name bytes c
Answers name bytes (Err f.TooLong) = IsCause name bytes cause.TooLong
Answers name bytes (Err (f.TooDeep place)) = IsCause name bytes (cause.TooDeep place)
Answers name bytes (Err (f.Syntax place)) = IsCause name bytes (cause.Syntax place)
Answers name bytes (Err f.Oom) = ⊤

-- the file spells the component
abbrev pub Spells : SourceFile → Component → Type 0
Spells file c = FileSpells file.name file.bytes.items c

-- the files spell the components, each its own, in their order
pub data AllSpell : List SourceFile → List Component → Type 0 where
  none : AllSpell [] []
  more : (file : SourceFile) (c : Component) (files : List SourceFile) (components : List Component)
      → Spells file c → AllSpell files components → AllSpell (file ∷ files) (c ∷ components)

-- the file at a place of the list is the first that spells no component, for this cause
pub record FirstFails (files : List SourceFile) (place : ℕ) (cause : Unreadable) : Type 0 where
  pub file : SourceFile
  pub there : slice_get files place ≡ Some file
  pub components : List Component
  pub before : AllSpell (take place files) components
  pub is : IsCause file.name file.bytes.items cause

-- the files spell these components, or the first that spells none is told with its cause
abbrev pub AllAnswer : List SourceFile → Result (List Component) FileFault → Type 0
AllAnswer files (Ok components) = AllSpell files components
AllAnswer files (Err (fault.Unread place cause)) = FirstFails files place cause
AllAnswer files (Err fault.Oom) = ⊤

-- the fault of the file at a place of the list
abbrev pub unread : ℕ → ReadFault → FileFault
unread file f.TooLong = fault.Unread file cause.TooLong
unread file (f.TooDeep place) = fault.Unread file (cause.TooDeep place)
unread file (f.Syntax place) = fault.Unread file (cause.Syntax place)
unread file f.Oom = fault.Oom
