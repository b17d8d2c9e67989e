-- What is accepted has the types that it is said to have.
use Rattle.std.specs.Prelude.{List}
use Rattle.cs_ast.specs.declared.cs_type.CsType.{CsType}
use Rattle.cs_ast.specs.declared.cs_type.CsType.TheVariants as t
use Rattle.cs_ast.specs.declared.code.Code.{Code}
use Rattle.cs_ast.specs.declared.value.Value.{Value}
use Rattle.cs_meaning.specs.State.{State}
use Rattle.cs_rules.specs.declared.checked.Checked.{Checked}
use Rattle.cs_rules.specs.declared.checked.ExprType.{ExprType}
use Rattle.cs_rules.specs.declared.checked.ExprType.TheVariants.{Of, Null, Markup}
use Rattle.cs_rules.specs.declared.callee.Callee.{Callee}
use Rattle.cs_rules.specs.Judged.{Judged, fine, breaks}
use Rattle.cs_rules.specs.Library.{code_of_call}
use Rattle.cs_typing.specs.Types.{Types}
use Rattle.cs_typing.specs.Values.{HasNull, ValueHas}
use Rattle.cs_typing.specs.States.{StateHas}
use Rattle.cs_typing.specs.Expressions.{Surroundings, CodeHas, CodesHave}

-- this holds of what is fine
abbrev pub IfFine : {A : Type 0} → (A → Type 0) → Judged A → Type 0
IfFine good (fine x) = good x
IfFine good (breaks rule place) = Unit {0}

-- what has types, as the type of an expression says: null has every type that may be null, and markup is a text
abbrev pub HasOf : (CsType → Type 0) → ExprType → Type 0
HasOf has (Of type) = has type
HasOf has Null = (type : CsType) → HasNull type → has type
HasOf has Markup = has t.Text

-- code that has the type of an expression
abbrev pub HasType : Surroundings → List CsType → ExprType → Code → Type 0
HasType at locals given code = HasOf (λ type. CodeHas at locals type code) given

-- a value
abbrev pub ValueFits : Surroundings → List CsType → Checked → Type 0
ValueFits at locals x = HasType at locals x.expr_type x.code

-- what is called, over arguments of the types that it takes
abbrev pub CalleeFits : Surroundings → List CsType → Callee → Type 0
CalleeFits at locals it = (arguments : List Code) → CodesHave at locals it.takes arguments → CodeHas at locals it.gives (code_of_call it.called arguments)

-- a value as the type of an expression has it, with the locals of these types
abbrev pub Typed : Types → List CsType → ExprType → Value → State → Type 0
Typed types locals given x s = HasOf (λ type. ValueHas types type x) given × StateHas types locals s
