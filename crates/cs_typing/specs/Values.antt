-- Which values have which types.
use Rattle.std.specs.Prelude.{◌≡◌, ℕ, ℤ, Bool, List, [], ◌∷◌, ◌++◌, Option, Some, None}
use Rattle.cs_ast.specs.declared.cs_type.CsType.{CsType}
use Rattle.cs_ast.specs.declared.cs_type.CsType.TheVariants as t
use Rattle.cs_ast.specs.declared.value.Value.{Value}
use Rattle.cs_ast.specs.declared.value.Value.TheVariants as v
use Rattle.cs_typing.specs.Types.{RecordType, Signature, Types}

-- a type of which null is a value: a callback is null where it is not set, and event arguments without members are null
pub data HasNull : CsType → Type 0 where
  text : HasNull t.Text
  record_of : (name : List ℕ) → HasNull (t.Rec name)
  list : (type : CsType) → HasNull (t.List type)
  callback : (argument : Option CsType) → HasNull (t.Callback argument)
  fragment : (argument : Option CsType) → HasNull (t.Fragment argument)
  args : HasNull t.Args

-- what the last local of a body may be where the body is the value of a callback with such an argument: the argument, or one that no name stands for
pub data Accepts : Option CsType → CsType → Type 0 where
  argument : (type : CsType) → Accepts (Some type) type
  unnamed : (argument : Option CsType) → Accepts argument t.Nothing

-- the types of what a fragment with such an argument is still to be given
abbrev pub awaited : Option CsType → List CsType
awaited None = []
awaited (Some type) = type ∷ []

mutual
  -- A value has a type. Anything may stand where no value is looked at.
  pub data ValueHas (types : Types) : CsType → Value → Type 0 where
    int : (n : ℤ) → ValueHas types t.Int (v.Int n)
    bool : (b : Bool) → ValueHas types t.Bool (v.Bool b)
    text : (x : List ℕ) → ValueHas types t.Text (v.Text x)
    null : (type : CsType) → HasNull type → ValueHas types type v.Null
    record_of : (name : List ℕ) (r : RecordType) (parts : List Value) →
        types.records name ≡ Some r → ValuesHave types r.parts parts → ValueHas types (t.Rec name) (v.Rec r.number parts)
    list : (type : CsType) (items : List Value) → ItemsHave types type items → ValueHas types (t.List type) (v.List items)
    callback : (argument : Option CsType) (last : CsType) (captured : List CsType) (body : Signature) (who place : ℕ) (captures : List Value) →
        types.bodies place ≡ Some body → types.instances who ≡ Some body.component → body.locals ≡ captured ++ last ∷ [] → Accepts argument last →
        ValuesHave types captured captures → ValueHas types (t.Callback argument) (v.Callback who place captures)
    fragment : (argument : Option CsType) (captured : List CsType) (template : Signature) (who place : ℕ) (captures : List Value) →
        types.templates place ≡ Some template → types.instances who ≡ Some template.component → template.locals ≡ captured ++ awaited argument →
        ValuesHave types captured captures → ValueHas types (t.Fragment argument) (v.Fragment who place captures)
    change : (x : List ℕ) → ValueHas types t.Change (v.Text x)
    anything : (x : Value) → ValueHas types t.Nothing x

  -- values have types, one by one
  pub data ValuesHave (types : Types) : List CsType → List Value → Type 0 where
    none : ValuesHave types [] []
    more : (type : CsType) (others : List CsType) (x : Value) (xs : List Value) →
        ValueHas types type x → ValuesHave types others xs → ValuesHave types (type ∷ others) (x ∷ xs)

  -- all of the values have one type
  pub data ItemsHave (types : Types) : CsType → List Value → Type 0 where
    no_item : (type : CsType) → ItemsHave types type []
    item : (type : CsType) (x : Value) (xs : List Value) → ValueHas types type x → ItemsHave types type xs → ItemsHave types type (x ∷ xs)
