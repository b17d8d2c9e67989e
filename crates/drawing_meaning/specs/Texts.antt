-- The texts that values show as content and as attributes.
use Rattle.std.specs.Prelude.{ℕ, Bool, List, [], ◌∷◌, ◌++◌, if◌then◌else◌, Option, Some, None}
use Rattle.cs_ast.specs.Texts.{text_of}
use Rattle.cs_ast.specs.declared.code.Code.{Code}
use Rattle.cs_ast.specs.declared.value.Value.{Value}
use Rattle.cs_meaning.specs.Kinds.{truth_of, string_of, is_null}
use Rattle.cs_meaning.specs.NewValues.{new_text}
use Rattle.drawing_meaning.specs.Drawing.{Draws, done, run, known, ◌>>=◌}
use Rattle.drawing_meaning.specs.Stages.{Stage, code_value}

-- a new text of what a value shows
abbrev pub shown : Value → Draws (List ℕ)
shown x = do
  y ← run (new_text (text_of x))
  known (string_of y)

abbrev pub some_shown : Value → Draws (Option (List ℕ))
some_shown x = do
  text ← shown x
  done (Some text)

abbrev pub text_by_truth : Option Bool → Value → Draws (Option (List ℕ))
text_by_truth (Some truth) x = done (if truth then Some [] else None)
text_by_truth None x = if is_null x then done None else some_shown x

-- the text of an attribute that is one expression: none for `false` and null, empty for `true`
abbrev pub attribute_text : Value → Draws (Option (List ℕ))
attribute_text x = text_by_truth (truth_of x) x

-- what a part of the text of an attribute shows
abbrev pub Says : Type 0
Says = Stage → Draws (List ℕ)

abbrev pub literal : List ℕ → Says
literal said stage = done said

abbrev pub shown_code : Code → Says
shown_code code stage = do
  x ← code_value code stage
  known (text_of x)

-- what parts show, one behind another
unfoldable pub all_said : List Says → Says
all_said [] stage = done []
all_said (one ∷ others) stage = do
  said ← one stage
  more ← all_said others stage
  done (said ++ more)
