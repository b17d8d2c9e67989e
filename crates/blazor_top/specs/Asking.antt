-- What is answered of a program: how many components it has, its first page, or the frames of its first rendering; or why not.
use Rattle.std.specs.Prelude.{◌≡◌, ℕ, true, false, List, [], ◌∷◌, Some, ◌⊎◌}
use Rattle.component_files.specs.declared.files.SourceFile.{SourceFile}
use Rattle.first_rendering.specs.Alone.{items_alone}
use Rattle.page_meaning.specs.Fresh.{fresh_alone}
use Rattle.program_lines.specs.Lines.{page_lines, frame_lines}
use Rattle.razor_ast.specs.declared.component.Component.{Component}
use Rattle.standing_alone.specs.Alone.{stands_alone}
use Rattle.blazor_top.specs.declared.command.Question.{Question}
use Rattle.blazor_top.specs.declared.command.Question.TheVariants.{Check, Render, Frames}
use Rattle.blazor_top.specs.Checking.{IsRefusedFor, IsSound, sound_line}
use Rattle.blazor_top.specs.Lines.{refused_line}

-- the files spell a program that breaks no rule, of one component that stands alone
pub record IsAlone (files : List SourceFile) (component : Component) : Type 0 where
  pub sound : IsSound files (component ∷ [])
  pub alone : stands_alone component ≡ true

-- the lines are the answer
abbrev pub Answered : Question → List SourceFile → List (List ℕ) → Type 0
Answered Check files lines = (components : List Component) × IsSound files components × (lines ≡ sound_line components ∷ [])
Answered Render files lines = (component : Component) × IsAlone files component × (page_lines (fresh_alone component) ≡ Some lines)
Answered Frames files lines = (component : Component) × IsAlone files component × (frame_lines component.name (items_alone component) ≡ Some lines)

-- a program of these files and components is another than one component that stands alone, by the file of this name: of several files the second
pub data IsOther : List SourceFile → List Component → List ℕ → Type 0 where
  not_alone : (file : SourceFile) (component : Component) → stands_alone component ≡ false → IsOther (file ∷ []) (component ∷ []) file.name
  several : (file other : SourceFile) (files : List SourceFile) (components : List Component) → IsOther (file ∷ other ∷ files) components other.name

-- the program of these files breaks no rule, and isn't taken so far, with this line
pub record IsNotTaken (files : List SourceFile) (line : List ℕ) : Type 0 where
  pub components : List Component
  pub name : List ℕ
  pub sound : IsSound files components
  pub other : IsOther files components name
  pub is : line ≡ refused_line name

-- why there is no answer, with the line about it: any question asks first for a program that breaks no rule
abbrev pub Declined : Question → List SourceFile → List ℕ → Type 0
Declined Check files line = IsRefusedFor files line
Declined question files line = IsRefusedFor files line ⊎ IsNotTaken files line

-- the files are such that the question has an answer
abbrev pub AreAnswerable : Question → List SourceFile → Type 0
AreAnswerable Check files = (components : List Component) × IsSound files components
AreAnswerable question files = (component : Component) × IsAlone files component

-- the components are one, which stands alone
pub record AreAlone (components : List Component) : Type 0 where
  pub component : Component
  pub is : components ≡ component ∷ []
  pub alone : stands_alone component ≡ true
