-- The expressions that tokens spell.
use Rattle.std.specs.Prelude.{◌≡◌, ℕ, ◌+◌, ◌≤◌, List, [], ◌∷◌, ◌++◌, codes, Option, Some, None, if◌then◌else◌}
use Rattle.std.specs.List.{list_all}
use Rattle.std.specs.Str.{bytes_eq}
use Rattle.text_core.specs.Decimal.{i32_of}
use Rattle.cs_ast.specs.declared.code.Code.{Code}
use Rattle.cs_ast.specs.declared.code.Code.TheVariants as code
use Rattle.cs_ast.specs.declared.operators.BinaryOp.{BinaryOp}
use Rattle.cs_ast.specs.declared.operators.BinaryOp.TheVariants.{Add, Subtract, Multiply}
use Rattle.first_click.specs.declared.characters.Class.TheVariants as class
use Rattle.first_click.specs.declared.component.Field.{Field}
use Rattle.first_click.specs.Characters.{is_in}
use Rattle.first_click.specs.Options.{◌>>=◌}
use Rattle.first_click.specs.Positions.{position_from}

-- the position of the field with this name
abbrev pub field_number : List Field → List ℕ → Option ℕ
field_number fields name = position_from (λ (field : Field). field.name) 0 fields name

-- the operator that a token writes
unfoldable pub operator : List ℕ → Option BinaryOp
operator token =
    if bytes_eq token (codes "+") then Some Add
    else if bytes_eq token (codes "-") then Some Subtract
    else if bytes_eq token (codes "*") then Some Multiply
    else None

-- how tightly it holds its operands
unfoldable pub tightness : BinaryOp → ℕ
tightness Multiply = 1
tightness _ = 0

-- what a single token says: letters the field of the name, anything else a number of 32 bits
unfoldable pub leaf : List Field → List ℕ → Option Code
leaf fields token =
    if list_all (is_in class.Letter) token
    then (field_number fields token >>= λ k. Some (code.Field k))
    else (i32_of token >>= λ n. Some (code.Int n))

-- over these fields the tokens spell the expression, and its outermost operator holds its operands at least so tightly:
-- level 0 has every expression, 1 those without `+` and `-` outside brackets, 2 single tokens and what stands in brackets
pub data Expresses (fields : List Field) : ℕ → List (List ℕ) → Code → Type 0 where
  single : (level : ℕ) (token : List ℕ) (e : Code) → leaf fields token ≡ Some e → Expresses fields level (token ∷ []) e
  brackets : (level : ℕ) (inside : List (List ℕ)) (e : Code) → Expresses fields 0 inside e →
      Expresses fields level (codes "(" ∷ (inside ++ codes ")" ∷ [])) e
  binary : (level : ℕ) (o : BinaryOp) (token : List ℕ) (left right : List (List ℕ)) (a b : Code) → level ≤ tightness o →
      operator token ≡ Some o → Expresses fields (tightness o) left a → Expresses fields (tightness o + 1) right b →
      Expresses fields level (left ++ token ∷ right) (code.Binary o a b)
