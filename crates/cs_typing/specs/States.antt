-- Which states keep to the types.
use Rattle.std.specs.Prelude.{◌≡◌, ℕ, List, [], ◌∷◌, Option, Some}
use Rattle.cs_ast.specs.declared.cs_type.CsType.{CsType}
use Rattle.cs_ast.specs.declared.value.Value.{Value}
use Rattle.cs_meaning.specs.State.{Fields, State}
use Rattle.cs_typing.specs.Types.{Types}
use Rattle.cs_typing.specs.Values.{ValueHas, ValuesHave}

-- a value that is there and has a type
abbrev pub HasValue : Types → CsType → Option Value → Type 0
HasValue types type found = (x : Value) × (found ≡ Some x) × ValueHas types type x

-- every instance that is there has the values that its component declares: its own fields, or its parameters
abbrev pub FieldsHave : Types → (ℕ → ℕ → Option CsType) → Fields → Type 0
FieldsHave types declared fields =
    (who component number : ℕ) (type : CsType) → types.instances who ≡ Some component → declared component number ≡ Some type → HasValue types type (fields who number)

-- these are instances that are there
pub data AreThere (types : Types) : List ℕ → Type 0 where
  none : AreThere types []
  more : (who component : ℕ) (others : List ℕ) → types.instances who ≡ Some component → AreThere types others → AreThere types (who ∷ others)

-- what outlives a body: the fields have their types, and the receivers are instances that are there
abbrev pub Keeps : Types → State → Type 0
Keeps types s = FieldsHave types types.fields s.fields × AreThere types s.receivers

-- besides, the locals have these types
abbrev pub StateHas : Types → List CsType → State → Type 0
StateHas types locals s = ValuesHave types locals s.locals × Keeps types s

-- values that begin with some of these types
pub data ValuesBegin (types : Types) : List CsType → List Value → Type 0 where
  begun : (xs : List Value) → ValuesBegin types [] xs
  further : (type : CsType) (others : List CsType) (x : Value) (xs : List Value) →
      ValueHas types type x → ValuesBegin types others xs → ValuesBegin types (type ∷ others) (x ∷ xs)

-- the outermost locals have these types, and further ones may follow
abbrev pub StateBegins : Types → List CsType → State → Type 0
StateBegins types locals s = ValuesBegin types locals s.locals × Keeps types s

-- instances that are there are still there, of the same component
abbrev pub Remain : (ℕ → Option ℕ) → (ℕ → Option ℕ) → Type 0
Remain instances later = (who component : ℕ) → instances who ≡ Some component → later who ≡ Some component
