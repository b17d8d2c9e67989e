-- The lines about a first rendering.
use Rattle.std.specs.Prelude.{◌≡◌, ℕ, List, [], ◌∷◌, Option, Some, None}
use Rattle.frame_compiler.specs.Compiles.{first_broken}
use Rattle.frame_text.specs.Frames.{frame_lines as lines_of_frames}
use Rattle.page_core.specs.Print.{nodes_text}
use Rattle.page_meaning.specs.Fresh as fresh
use Rattle.page_meaning.specs.Fresh.{First, fresh_alone}
use Rattle.razor_ast.specs.declared.component.Component.{Component}
use Rattle.first_rendering.specs.First as first
use Rattle.first_rendering.specs.First.{FirstItems}
use Rattle.program_lines.specs.Ended.{ended_line}

-- the printed page, or the fault that ends the rendering, in one line
abbrev pub page_lines : First → Option (List (List ℕ))
page_lines (fresh.page nodes) = Some (nodes_text nodes ∷ [])
page_lines (fresh.ended met) = Some (ended_line met ∷ [])
page_lines fresh.stuck = None

-- the lines of the frames of the items, which the component of a name makes, or of the fault
abbrev pub frame_lines : List ℕ → FirstItems → Option (List (List ℕ))
frame_lines name (first.made items) = lines_of_frames name items
frame_lines name (first.ended met) = Some (ended_line met ∷ [])
frame_lines name first.stuck = None

-- a component by itself whose code breaks no rule where it stands, and whose first rendering isn't stuck: the rules of programs are to see to both
pub record IsDrawable (component : Component) : Type 0 where
  pub resolves : first_broken (component ∷ []) 0 (component ∷ []) ≡ None
  pub drawn : fresh_alone component ≡ fresh.stuck → ⊥

-- the lines that are meant, or none where the component can't be drawn
abbrev pub Answers : Component → Option (List (List ℕ)) → Option (List (List ℕ)) → Type 0
Answers component meant (Some lines) = IsDrawable component × (meant ≡ Some lines)
Answers component meant None = IsDrawable component → ⊥
