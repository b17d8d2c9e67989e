-- What the tag of a component makes.
use Rattle.std.specs.Prelude.{ℕ, List, [], ◌∷◌, ◌++◌}
use Rattle.cs_ast.specs.declared.code.Code.{Code}
use Rattle.cs_ast.specs.declared.value.Value.{Value}
use Rattle.cs_ast.specs.declared.value.Value.TheVariants as v
use Rattle.frame_core.specs.declared.item.Item.TheVariants as item
use Rattle.frame_core.specs.declared.item.ItemParameter.{ItemParameter}
use Rattle.frame_core.specs.declared.made.Made.{Made}
use Rattle.drawing_meaning.specs.declared.output.Gifts.{Gifts}
use Rattle.drawing_meaning.specs.Drawing.{Draws, done, pay, component_begun, ◌>>=◌}
use Rattle.drawing_meaning.specs.Stages.{Stage, code_value, values_at}
use Rattle.drawing_meaning.specs.Acts.{Act, output}

abbrev pub supplied : ℕ → Value → ItemParameter
supplied place x = record { place = place; value = x }

abbrev pub gifts : List ItemParameter → Value → Gifts
gifts supplied key = record { supplied = supplied; key = key }

-- a part of a tag, behind those before it, whose key is handed on
abbrev pub Gives : Type 0
Gives = Stage → Value → Draws Gifts

abbrev pub one_gift : ℕ → Value → Value → Draws Gifts
one_gift place x key = done (gifts (supplied place x ∷ []) key)

-- a literal text for the parameter of a place
unfoldable pub given_text : ℕ → List ℕ → Gives
given_text place said stage key = do
  paid ← pay
  one_gift place (v.Text said) key

-- an expression for it
unfoldable pub given_value : ℕ → Code → Gives
given_value place code stage key = do
  paid ← pay
  x ← code_value code stage
  one_gift place x key

-- `@key`
unfoldable pub given_key : Code → Gives
given_key code stage key = do
  x ← code_value code stage
  done (gifts [] x)

-- the fragment of a number, of the present instance, over the locals at these positions
unfoldable pub given_content : ℕ → ℕ → List ℕ → Gives
given_content place number positions stage key = do
  captures ← values_at positions
  one_gift place (v.Fragment stage.around.who number captures) key

-- the same by a tag of its own
unfoldable pub given_fragment : ℕ → ℕ → List ℕ → Gives
given_fragment place number positions stage key = do
  paid ← pay
  given_content place number positions stage key

-- the parts of a tag, one after another, from a key on
unfoldable pub all_given : List Gives → Gives
all_given [] stage key = done (gifts [] key)
all_given (one ∷ others) stage key = do
  first ← one stage key
  rest ← all_given others stage first.key
  done (gifts (first.supplied ++ rest.supplied) rest.key)

-- the component item of a tag
unfoldable pub component : ℕ → Made → List Gives → Act
component number made parts stage = do
  paid ← pay
  order ← component_begun
  it ← all_given parts stage v.Null
  done (output (item.Component number order made it.key it.supplied ∷ []))
