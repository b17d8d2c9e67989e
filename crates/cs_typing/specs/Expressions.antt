-- Which expressions have which types.
use Rattle.std.specs.Prelude.{◌≡◌, ℕ, ℤ, Bool, List, [], ◌∷◌, ◌++◌, Option, Some, None, slice_get}
use Rattle.cs_ast.specs.declared.cs_type.CsType.{CsType}
use Rattle.cs_ast.specs.declared.cs_type.CsType.TheVariants as t
use Rattle.cs_ast.specs.declared.code.Code.{Code}
use Rattle.cs_ast.specs.declared.code.Code.TheVariants as c
use Rattle.cs_ast.specs.declared.code.BindKind.{BindKind}
use Rattle.cs_ast.specs.declared.code.LibraryMember.{LibraryMember}
use Rattle.cs_ast.specs.declared.code.Variable.{Variable}
use Rattle.cs_ast.specs.declared.code.Variable.TheVariants as variable
use Rattle.cs_ast.specs.declared.operators.AssignOp.{AssignOp}
use Rattle.cs_ast.specs.declared.operators.BinaryOp.{BinaryOp}
use Rattle.cs_ast.specs.declared.operators.CastOp.{CastOp}
use Rattle.cs_ast.specs.declared.operators.StepOp.{StepOp}
use Rattle.cs_ast.specs.declared.operators.UnaryOp.{UnaryOp}
use Rattle.cs_typing.specs.Types.{RecordType, Signature, Types}
use Rattle.cs_typing.specs.Values.{HasNull, Accepts}
use Rattle.cs_typing.specs.Operators.{Shows, UnaryTakes, BinaryTakes, AssignTakes, LibraryTakes, Binds}

-- what code stands in: the program's types, and the component whose fields and parameters it uses
pub record Surroundings : Type 0 where
  pub types : Types
  pub component : ℕ

-- the locals that a body begins with: its arguments, and one that no name stands for where it has none
abbrev pub arguments_or_one : List CsType → List CsType
arguments_or_one [] = t.Nothing ∷ []
arguments_or_one (type ∷ others) = type ∷ others

-- a variable, over locals of these types, has a type
pub data VariableHas (at : Surroundings) (locals : List CsType) : CsType → Variable → Type 0 where
  field : (type : CsType) (number : ℕ) → at.types.fields at.component number ≡ Some type → VariableHas at locals type (variable.Field number)
  local : (type : CsType) (number : ℕ) → slice_get locals number ≡ Some type → VariableHas at locals type (variable.Local number)

-- locals with these numbers have these types
pub data LocalsAre (locals : List CsType) : List CsType → List ℕ → Type 0 where
  none : LocalsAre locals [] []
  more : (type : CsType) (others : List CsType) (number : ℕ) (numbers : List ℕ) →
      slice_get locals number ≡ Some type → LocalsAre locals others numbers → LocalsAre locals (type ∷ others) (number ∷ numbers)

mutual
  -- An expression, over locals of these types, has a type. Where its value isn't used it has the type of what has no value.
  pub data CodeHas (at : Surroundings) (locals : List CsType) : CsType → Code → Type 0 where
    int : (n : ℤ) → CodeHas at locals t.Int (c.Int n)
    bool : (b : Bool) → CodeHas at locals t.Bool (c.Bool b)
    text : (x : List ℕ) → CodeHas at locals t.Text (c.Text x)
    null : (type : CsType) → HasNull type → CodeHas at locals type c.Null
    field : (type : CsType) (number : ℕ) → at.types.fields at.component number ≡ Some type → CodeHas at locals type (c.Field number)
    parameter : (type : CsType) (number : ℕ) → at.types.parameters at.component number ≡ Some type → CodeHas at locals type (c.Parameter number)
    local : (type : CsType) (number : ℕ) → slice_get locals number ≡ Some type → CodeHas at locals type (c.Local number)
    interpolated : (parts : List Code) → PartsShow at locals parts → CodeHas at locals t.Text (c.Interpolated parts)
    unary : (op : UnaryOp) (one type : CsType) (a : Code) → UnaryTakes op one type → CodeHas at locals one a → CodeHas at locals type (c.Unary op a)
    cast : (op : CastOp) (a : Code) → CodeHas at locals t.Text a → CodeHas at locals t.Text (c.Cast op a)
    binary : (op : BinaryOp) (one other type : CsType) (a b : Code) →
        BinaryTakes op one other type → CodeHas at locals one a → CodeHas at locals other b → CodeHas at locals type (c.Binary op a b)
    conditional : (type : CsType) (a b d : Code) →
        CodeHas at locals t.Bool a → CodeHas at locals type b → CodeHas at locals type d → CodeHas at locals type (c.Conditional a b d)
    changed : (name : List ℕ) (r : RecordType) (a : Code) (positions : List ℕ) (values : List Code) →
        at.types.records name ≡ Some r → CodeHas at locals (t.Rec name) a → ReplacementsHave at locals r.parts positions values →
        CodeHas at locals (t.Rec name) (c.With a positions values)
    part : (name : List ℕ) (r : RecordType) (type : CsType) (a : Code) (position : ℕ) →
        at.types.records name ≡ Some r → slice_get r.parts position ≡ Some type → CodeHas at locals (t.Rec name) a → CodeHas at locals type (c.Part a position)
    null_part : (name : List ℕ) (r : RecordType) (type : CsType) (a : Code) (position : ℕ) →
        at.types.records name ≡ Some r → slice_get r.parts position ≡ Some type → HasNull type → CodeHas at locals (t.Rec name) a →
        CodeHas at locals type (c.NullPart a position)
    index : (type : CsType) (a b : Code) → CodeHas at locals (t.List type) a → CodeHas at locals t.Int b → CodeHas at locals type (c.Index a b)
    new : (name : List ℕ) (r : RecordType) (parts : List Code) →
        at.types.records name ≡ Some r → CodesHave at locals r.parts parts → CodeHas at locals (t.Rec name) (c.New r.number parts)
    library : (member : LibraryMember) (takes : List CsType) (type : CsType) (parts : List Code) →
        LibraryTakes member takes type → CodesHave at locals takes parts → CodeHas at locals type (c.Library member parts)
    call : (number : ℕ) (body : Signature) (takes : List CsType) (arguments : List Code) →
        at.types.bodies number ≡ Some body → body.component ≡ at.component → body.locals ≡ arguments_or_one takes →
        CodesHave at locals takes arguments → CodeHas at locals body.result (c.Call number arguments)
    callback : (number : ℕ) (body : Signature) (argument : Option CsType) (last : CsType) (captured : List CsType) (captures : List ℕ) →
        at.types.bodies number ≡ Some body → body.component ≡ at.component → body.locals ≡ captured ++ last ∷ [] → Accepts argument last →
        LocalsAre locals captured captures → CodeHas at locals (t.Callback argument) (c.Callback number captures)
    wider_callback : (type : CsType) (a : Code) → CodeHas at locals (t.Callback None) a → CodeHas at locals (t.Callback (Some type)) a
    fill : (type : CsType) (a b : Code) →
        CodeHas at locals (t.Fragment (Some type)) a → CodeHas at locals type b → CodeHas at locals (t.Fragment None) (c.Fill a b)
    invoke : (a : Code) → CodeHas at locals (t.Callback None) a → CodeHas at locals t.Nothing (c.Invoke a None)
    invoke_with : (type : CsType) (a b : Code) →
        CodeHas at locals (t.Callback (Some type)) a → CodeHas at locals type b → CodeHas at locals t.Nothing (c.Invoke a (Some b))
    assign : (target : Variable) (op : AssignOp) (type value : CsType) (a : Code) →
        VariableHas at locals type target → AssignTakes op type value → CodeHas at locals value a → CodeHas at locals t.Nothing (c.Assign target op a)
    step : (target : Variable) (op : StepOp) → VariableHas at locals t.Int target → CodeHas at locals t.Nothing (c.Step target op)
    bind : (kind : BindKind) (number : ℕ) (type : CsType) →
        slice_get locals 0 ≡ Some t.Change → at.types.fields at.component number ≡ Some type → Binds kind type → CodeHas at locals t.Nothing (c.Bind number kind)
    dropped : (type : CsType) (a : Code) → CodeHas at locals type a → CodeHas at locals t.Nothing a

  -- expressions have types, one by one
  pub data CodesHave (at : Surroundings) (locals : List CsType) : List CsType → List Code → Type 0 where
    none : CodesHave at locals [] []
    more : (type : CsType) (others : List CsType) (a : Code) (codes : List Code) →
        CodeHas at locals type a → CodesHave at locals others codes → CodesHave at locals (type ∷ others) (a ∷ codes)

  -- pieces of an interpolated text, and expressions that show a text
  pub data PartsShow (at : Surroundings) (locals : List CsType) : List Code → Type 0 where
    no_part : PartsShow at locals []
    piece : (x : List ℕ) (parts : List Code) → PartsShow at locals parts → PartsShow at locals (c.Piece x ∷ parts)
    hole : (type : CsType) (a : Code) (parts : List Code) →
        Shows type → CodeHas at locals type a → PartsShow at locals parts → PartsShow at locals (a ∷ parts)

  -- values for the parts at these positions of a record with parts of these types
  pub data ReplacementsHave (at : Surroundings) (locals : List CsType) : List CsType → List ℕ → List Code → Type 0 where
    unchanged : (parts : List CsType) → ReplacementsHave at locals parts [] []
    replaced : (parts : List CsType) (type : CsType) (position : ℕ) (positions : List ℕ) (a : Code) (values : List Code) →
        slice_get parts position ≡ Some type → CodeHas at locals type a → ReplacementsHave at locals parts positions values →
        ReplacementsHave at locals parts (position ∷ positions) (a ∷ values)
