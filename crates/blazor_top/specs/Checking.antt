-- What `check` answers of the files that it names: how many components an accepted program has, or why there is none.
use Rattle.std.specs.Prelude.{◌≡◌, ℕ, List, [], ◌∷◌, ◌++◌, length, slice_get, codes, Option, Some, None}
use Rattle.std.specs.Fmt.{decimal}
use Rattle.text_core.specs.declared.place.Place.{Place}
use Rattle.cs_rules.specs.declared.rule.Rule.{Rule}
use Rattle.cs_rules.specs.declared.rule.Rule.TheVariants as rule
use Rattle.razor_ast.specs.declared.component.Component.{Component}
use Rattle.razor_rules.specs.Programs.{Finding, BreaksFirst}
use Rattle.component_files.specs.declared.files.SourceFile.{SourceFile}
use Rattle.component_files.specs.declared.files.Unreadable.{Unreadable}
use Rattle.component_files.specs.declared.files.Unreadable.TheVariants as cause
use Rattle.component_files.specs.Files.{AllSpell, FirstFails, start}
use Rattle.blazor_top.specs.Reading.{Contents, Holds, component_file}

-- the files of these names, each with the bytes that it holds
pub data AreHeld (held : Contents) : List (List ℕ) → List SourceFile → Type 0 where
  no_more : AreHeld held [] []
  one_more : (name : List ℕ) (file : SourceFile) (names : List (List ℕ)) (files : List SourceFile) → file.name ≡ name → Holds held (component_file name) file.bytes.items
      → AreHeld held names files → AreHeld held (name ∷ names) (file ∷ files)

-- a file of this name and these bytes stands behind others
abbrev pub IsBehind : List SourceFile → List ℕ → List ℕ → List SourceFile → Type 0
IsBehind before name bytes files = (file : SourceFile) × (file.name ≡ name) × (file.bytes.items ≡ bytes) × (files ≡ before ++ file ∷ [])

-- the kind and the place by which a file that spells no component is refused
abbrev pub unread_kind : Unreadable → List ℕ
unread_kind cause.TooLong = codes "TooLong"
unread_kind (cause.TooDeep place) = codes "TooDeep"
unread_kind (cause.Syntax place) = codes "Syntax"

abbrev pub unread_place : Unreadable → Place
unread_place cause.TooLong = start
unread_place (cause.TooDeep place) = place
unread_place (cause.Syntax place) = place

-- a rule that is broken, by its name
abbrev pub rule_kind : Rule → List ℕ
rule_kind rule.DuplicateComponent = codes "DuplicateComponent"
rule_kind rule.BadComponentName = codes "BadComponentName"
rule_kind rule.DuplicateName = codes "DuplicateName"
rule_kind rule.UnknownComponent = codes "UnknownComponent"
rule_kind rule.UnknownParameter = codes "UnknownParameter"
rule_kind rule.DuplicateAttribute = codes "DuplicateAttribute"
rule_kind rule.MixedContent = codes "MixedContent"
rule_kind rule.UnknownName = codes "UnknownName"
rule_kind rule.UnknownType = codes "UnknownType"
rule_kind rule.TypeMismatch = codes "TypeMismatch"
rule_kind rule.NotAssigned = codes "NotAssigned"
rule_kind rule.ParameterAssigned = codes "ParameterAssigned"
rule_kind rule.ForCapture = codes "ForCapture"
rule_kind rule.ChangedCapture = codes "ChangedCapture"
rule_kind rule.ImpureTemplate = codes "ImpureTemplate"
rule_kind rule.CallbackInLifecycle = codes "CallbackInLifecycle"
rule_kind rule.LoopJump = codes "LoopJump"
rule_kind rule.BadKey = codes "BadKey"
rule_kind rule.BadBind = codes "BadBind"
rule_kind rule.BadLifecycle = codes "BadLifecycle"
rule_kind rule.MissingReturn = codes "MissingReturn"
rule_kind rule.RecursiveRecord = codes "RecursiveRecord"

-- the line for a file of this name that is refused by this kind at this place
abbrev pub refusal_line : List ℕ → List ℕ → Place → List ℕ
refusal_line kind name place =
    codes "refused " ++ (kind ++ (codes " " ++ (name ++ (codes " " ++ (decimal place.line ++ (codes ":" ++ decimal place.column))))))

-- the line is about the file at this place of the list
pub record IsAbout (files : List SourceFile) (position : ℕ) (kind : List ℕ) (place : Place) (line : List ℕ) : Type 0 where
  pub file : SourceFile
  pub there : slice_get files position ≡ Some file
  pub is : line ≡ refusal_line kind file.name place

-- the program of these files is refused with this line: for its first file that spells no component, or, where all do, for the rule that it breaks first
pub data IsRefusedFor (files : List SourceFile) (line : List ℕ) : Type 0 where
  unread : (position : ℕ) (why : Unreadable) → FirstFails files position why → IsAbout files position (unread_kind why) (unread_place why) line → IsRefusedFor files line
  broken : (components : List Component) (finding : Finding) → AllSpell files components → BreaksFirst components (Some finding)
      → IsAbout files finding.file (rule_kind finding.first.rule) finding.first.place line → IsRefusedFor files line

-- the files spell a program that breaks no rule
pub record IsSound (files : List SourceFile) (components : List Component) : Type 0 where
  pub spelled : AllSpell files components
  pub sound : BreaksFirst components None

-- the line that says of how many components an accepted program is
abbrev pub sound_line : List Component → List ℕ
sound_line components = codes "ok " ++ decimal (length components)
