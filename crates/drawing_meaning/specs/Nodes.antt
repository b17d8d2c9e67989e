-- What each form of node makes, once its code is resolved, by what its parts make.
use Rattle.std.specs.Prelude.{ℕ, List, [], ◌∷◌, true, if◌then◌else◌, Option, Some, None}
use Rattle.cs_ast.specs.declared.code.Code.{Code}
use Rattle.cs_ast.specs.declared.value.Value.{Value}
use Rattle.cs_ast.specs.declared.value.Value.TheVariants as v
use Rattle.cs_meaning.specs.Kinds.{is_null, fragment_of}
use Rattle.cs_meaning.specs.Sections.{Section, selected}
use Rattle.frame_core.specs.declared.item.Item.{Item}
use Rattle.frame_core.specs.declared.item.Item.TheVariants as item
use Rattle.drawing_meaning.specs.Drawing.{Draws, done, known, pay, scoped, begun_at, bytes_of, ◌>>=◌}
use Rattle.drawing_meaning.specs.Stages.{Stage, deeper, code_value, truth}
use Rattle.drawing_meaning.specs.Acts.{Act, output, in_order, all_siblings}
use Rattle.drawing_meaning.specs.Texts.{shown}
use Rattle.drawing_meaning.specs.Attributes.{Dresses, all_worn}

unfoldable pub element : ℕ → List ℕ → List Dresses → List Act → Act
element number name attributes children stage = do
  paid ← pay
  here ← begun_at stage.depth (bytes_of name)
  it ← all_worn attributes stage v.Null
  inside ← all_siblings children (deeper stage)
  done (output (item.Element number name it.key it.worn inside ∷ []))

-- a literal text
unfoldable pub text : ℕ → List ℕ → Act
text number said stage = do
  paid ← pay
  here ← begun_at stage.depth (bytes_of said)
  done (output (item.Text number said ∷ []))

-- a literal text that is markup
unfoldable pub raw : ℕ → List ℕ → Act
raw number said stage = do
  paid ← pay
  here ← begun_at stage.depth (bytes_of said)
  done (output (item.Markup number said ∷ []))

-- how a value is shown as content
abbrev pub Appears : Type 0
Appears = ℕ → Value → Stage → Draws (List Item)

-- a fragment is a region with what it shows; null is none
unfoldable pub as_fragment : Appears
as_fragment number x stage = if is_null x then done [] else (do
  it ← known (fragment_of x)
  items ← stage.show it.0 it.1 it.2 stage.depth
  done (item.Region number v.Null items ∷ []))

unfoldable pub as_text : Appears
as_text number x stage = do
  said ← shown x
  here ← begun_at stage.depth (bytes_of said)
  done (item.Text number said ∷ [])

unfoldable pub as_markup : Appears
as_markup number x stage = do
  said ← shown x
  here ← begun_at stage.depth (bytes_of said)
  done (item.Markup number said ∷ [])

unfoldable pub content : ℕ → Appears → Code → Act
content number appears code stage = do
  paid ← pay
  x ← code_value code stage
  items ← appears number x stage
  done (output items)

-- a statement makes nothing
unfoldable pub statement : Code → Act
statement code stage = do
  x ← code_value code stage
  done (output [])

-- a `break` of a `switch`
unfoldable pub break_out : Act
break_out stage = do
  paid ← pay
  done (record { items = []; broke = true })

unfoldable pub block : List Act → Act
block acts stage = do
  paid ← pay
  scoped (in_order acts stage)

unfoldable pub branch : Code → List Act → List Act → Act
branch test one other stage = do
  paid ← pay
  holds ← truth test stage
  if holds then scoped (in_order one stage) else scoped (in_order other stage)

abbrev pub or_nothing : Option (List Act) → List Act
or_nothing None = []
or_nothing (Some acts) = acts

-- the section of the first label that is the value, or else of `default`; its `break` ends it
unfoldable pub switch : Code → List (Section (List Act)) → Act
switch code sections stage = do
  paid ← pay
  x ← code_value code stage
  out ← scoped (in_order (or_nothing (selected x sections)) stage)
  done (output out.items)
