-- What parts of a template are drawn by.
use Rattle.std.specs.Prelude.{ℕ, ◌+◌, Bool, List}
use Rattle.cs_ast.specs.declared.code.Code.{Code}
use Rattle.cs_ast.specs.declared.value.Value.{Value}
use Rattle.cs_meaning.specs.Calls.{picked}
use Rattle.cs_meaning.specs.Kinds.{truth_of}
use Rattle.cs_meaning.specs.Meaning.{Setting, body_meaning}
use Rattle.cs_meaning.specs.Outcome.{found}
use Rattle.frame_core.specs.declared.item.Item.{Item}
use Rattle.drawing_meaning.specs.Drawing.{Draws, known, run, ◌>>=◌}

-- what a fragment shows at a depth in the page, by its receiver, its number and its captures
abbrev pub Show : Type 0
Show = ℕ → ℕ → List Value → ℕ → Draws (List Item)

-- the instance whose code runs there, with its program; how deep in the page it lies; and what fragments show
pub record Stage : Type 0 where
  pub around : Setting
  pub depth : ℕ
  pub show : Show

-- in an element
abbrev pub deeper : Stage → Stage
deeper stage = record stage { depth = stage.depth + 1 }

-- the value of code, which runs as a body of its own
abbrev pub code_value : Code → Stage → Draws Value
code_value code stage d = run (body_meaning stage.around code) d

-- the same of code that has to be true or false
abbrev pub truth : Code → Stage → Draws Bool
truth code stage = do
  x ← code_value code stage
  known (truth_of x)

-- the values of the locals at these positions
abbrev pub values_at : List ℕ → Draws (List Value)
values_at positions d = run (λ s. found (picked s.locals positions) s) d
