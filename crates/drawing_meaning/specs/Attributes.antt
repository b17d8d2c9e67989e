-- What the attributes of an element make.
use Rattle.std.specs.Prelude.{ℕ, ◌+◌, List, [], ◌∷◌, ◌++◌, if◌then◌else◌, Option, Some, None}
use Rattle.cs_ast.specs.declared.code.Code.{Code}
use Rattle.cs_ast.specs.declared.value.Value.{Value}
use Rattle.cs_ast.specs.declared.value.Value.TheVariants as v
use Rattle.cs_meaning.specs.Kinds.{is_null, callback_of}
use Rattle.frame_core.specs.declared.item_attribute.ItemAttribute.{ItemAttribute}
use Rattle.frame_core.specs.declared.item_attribute.ItemValue.{ItemValue}
use Rattle.frame_core.specs.declared.item_attribute.ItemValue.TheVariants as stands
use Rattle.drawing_meaning.specs.declared.output.Dress.{Dress}
use Rattle.drawing_meaning.specs.Drawing.{Draws, done, known, pay, begun, bytes_of, ◌>>=◌}
use Rattle.drawing_meaning.specs.Stages.{Stage, code_value}
use Rattle.drawing_meaning.specs.Texts.{Says, attribute_text, some_shown, all_said}

abbrev pub named : ℕ → List ℕ → ItemValue → ItemAttribute
named number name value = record { number = number; name = name; value = value }

-- an attribute with such a text, if it has one
abbrev pub with_text : ℕ → List ℕ → Option (List ℕ) → Draws (List ItemAttribute)
with_text number name None = done []
with_text number name (Some said) = do
  here ← begun (bytes_of name + bytes_of said)
  done (named number name (stands.Text said) ∷ [])

-- a handler: its receiver, its number and its captures; it has no id yet
abbrev pub with_handler : ℕ → List ℕ → ℕ × ℕ × List Value → Draws (List ItemAttribute)
with_handler number name it = do
  here ← begun (bytes_of name)
  done (named number name (stands.Handler (record { id = 0; who = it.0; place = it.1; captures = it.2 })) ∷ [])

-- the handler that a value is; none where it is null
abbrev pub handler_of : ℕ → List ℕ → Value → Draws (List ItemAttribute)
handler_of number name x = if is_null x then done [] else (do
  it ← known (callback_of x)
  with_handler number name it)

-- an attribute without a value: an empty text
unfoldable pub empty : ℕ → List ℕ → Stage → Draws (List ItemAttribute)
empty number name stage = do
  paid ← pay
  with_text number name (Some [])

-- an attribute whose value is one expression
unfoldable pub whole : ℕ → List ℕ → Code → Stage → Draws (List ItemAttribute)
whole number name code stage = do
  paid ← pay
  x ← code_value code stage
  said ← attribute_text x
  with_text number name said

-- an attribute whose value is one new text of several parts
unfoldable pub mixed : ℕ → List ℕ → List Says → Stage → Draws (List ItemAttribute)
mixed number name parts stage = do
  paid ← pay
  said ← all_said parts stage
  whole_text ← some_shown (v.Text said)
  with_text number name whole_text

-- an event
unfoldable pub event : ℕ → List ℕ → Code → Stage → Draws (List ItemAttribute)
event number name code stage = do
  paid ← pay
  x ← code_value code stage
  handler_of number name x

-- the handler of the body of a number, of the present instance, as that of a bound field
unfoldable pub own_handler : ℕ → List ℕ → ℕ → Stage → Draws (List ItemAttribute)
own_handler number name place stage = do
  paid ← pay
  with_handler number name (stage.around.who, place, [])

abbrev pub dress : List ItemAttribute → Value → Dress
dress worn key = record { worn = worn; key = key }

-- an attribute, behind those before it, whose key is handed on
abbrev pub Dresses : Type 0
Dresses = Stage → Value → Draws Dress

abbrev pub wears : (Stage → Draws (List ItemAttribute)) → Dresses
wears makes stage key = do
  worn ← makes stage
  done (dress worn key)

-- `@key`
abbrev pub keyed_by : Code → Dresses
keyed_by code stage key = do
  x ← code_value code stage
  done (dress [] x)

-- attributes, one after another, from a key on
unfoldable pub all_worn : List Dresses → Dresses
all_worn [] stage key = done (dress [] key)
all_worn (one ∷ others) stage key = do
  first ← one stage key
  rest ← all_worn others stage first.key
  done (dress (first.worn ++ rest.worn) rest.key)
