-- Which outcomes keep to the types.
use Rattle.std.specs.Prelude.{Bool, IsTrue, List}
use Rattle.cs_ast.specs.declared.cs_type.CsType.{CsType}
use Rattle.cs_ast.specs.declared.value.Value.{Value}
use Rattle.cs_meaning.specs.State.{State}
use Rattle.cs_meaning.specs.Outcome.{Outcome, gives, breaks, continues, returns, faults, stuck, Meaning}
use Rattle.cs_typing.specs.Types.{Types}
use Rattle.cs_typing.specs.Values.{ValueHas}
use Rattle.cs_typing.specs.Statements.{Jumps}
use Rattle.cs_typing.specs.States.{Keeps, StateHas, StateBegins}

-- what has to hold where code is left by a jump or a fault
pub record Exits : Type 1 where
  pub on_break : State → Type 0
  pub on_continue : State → Type 0
  pub on_return : Value → State → Type 0
  pub on_fault : State → Type 0

-- an outcome that isn't stuck, and of which this holds
abbrev pub Fits : {A : Type 0} → Exits → (A → State → Type 0) → Outcome A → Type 0
Fits exits good (gives x s) = good x s
Fits exits good (breaks s) = exits.on_break s
Fits exits good (continues s) = exits.on_continue s
Fits exits good (returns x s) = exits.on_return x s
Fits exits good (faults fault s) = exits.on_fault s
Fits exits good stuck = ⊥

-- expressions are left by faults alone
abbrev pub no_jump : Types → Exits
no_jump types = record { on_break = λ s. ⊥; on_continue = λ s. ⊥; on_return = λ x s. ⊥; on_fault = λ s. Keeps types s }

-- statements, by the jumps that may stand there, and with results of this type; the locals round them are still there
abbrev pub leaving : Types → CsType → Jumps → List CsType → Exits
leaving types result j locals =
    record {
      on_break = λ s. IsTrue j.breaks × StateBegins types locals s;
      on_continue = λ s. IsTrue j.continues × StateBegins types locals s;
      on_return = λ x s. ValueHas types result x × StateBegins types locals s;
      on_fault = λ s. Keeps types s;
    }

-- a value of this type, with the locals of these types
abbrev pub Typed : Types → List CsType → CsType → Value → State → Type 0
Typed types locals type x s = ValueHas types type x × StateHas types locals s

-- from any state with these locals, an expression gives a value of this type and leaves the locals their types
abbrev pub Gives : Types → List CsType → CsType → Meaning → Type 0
Gives types locals type run = (s : State) → StateHas types locals s → Fits (no_jump types) (Typed types locals type) (run s)

-- a statement comes to its end only where its end can be reached, and has then the locals of the second types
abbrev pub Ended : Types → List CsType → Bool → Value → State → Type 0
Ended types inner ends x s = IsTrue ends × StateHas types inner s

-- from any state with locals of the first types
abbrev pub Does : Types → CsType → Jumps → List CsType → List CsType → Bool → Meaning → Type 0
Does types result j locals inner ends run = (s : State) → StateHas types locals s → Fits (leaving types result j locals) (Ended types inner ends) (run s)

-- a value of this type, with what outlives a body
abbrev pub Left : Types → CsType → Value → State → Type 0
Left types type x s = ValueHas types type x × Keeps types s
