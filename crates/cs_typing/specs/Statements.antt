-- Which statements may stand where.
use Rattle.std.specs.Prelude.{◌≡◌, Bool, true, false, ◌||◌, ◌&&◌, IsTrue, List, [], ◌∷◌, ◌++◌, Option, Some, None}
use Rattle.cs_ast.specs.declared.cs_type.CsType.{CsType}
use Rattle.cs_ast.specs.declared.cs_type.CsType.TheVariants as t
use Rattle.cs_ast.specs.declared.code.Code.{Code}
use Rattle.cs_ast.specs.declared.code.Code.TheVariants as c
use Rattle.cs_ast.specs.declared.value.Value.{Value}
use Rattle.cs_typing.specs.Expressions.{Surroundings, CodeHas}

-- whether `break` and `continue` may stand here
pub record Jumps : Type 0 where
  pub breaks : Bool
  pub continues : Bool

abbrev pub jumps : Bool → Bool → Jumps
jumps breaks continues = record { breaks = breaks; continues = continues }

-- a condition that holds always: `true`, or none
pub data Always : Option Code → Type 0 where
  none : Always None
  yes_always : Always (Some (c.Bool true))

-- a condition, or none
pub data Condition (at : Surroundings) (locals : List CsType) : Option Code → Type 0 where
  none : Condition at locals None
  some : (a : Code) → CodeHas at locals t.Bool a → Condition at locals (Some a)

-- an expression whose value isn't used, or none
pub data Stepping (at : Surroundings) (locals : List CsType) : Option Code → Type 0 where
  none : Stepping at locals None
  some : (type : CsType) (a : Code) → CodeHas at locals type a → Stepping at locals (Some a)

mutual
  -- A statement may stand in a body with this result, where these jumps may stand: with locals of the first types before it and of the second behind it, and whether its end can be reached.
  pub data Runs (at : Surroundings) (result : CsType) : Jumps → List CsType → List CsType → Bool → Code → Type 0 where
    declare : (j : Jumps) (locals : List CsType) (type : CsType) (a : Code) → CodeHas at locals type a → Runs at result j locals (locals ++ type ∷ []) true (c.Declare a)
    empty : (j : Jumps) (locals : List CsType) → Runs at result j locals locals true c.Empty
    perform : (j : Jumps) (locals : List CsType) (type : CsType) (a : Code) → CodeHas at locals type a → Runs at result j locals locals true (c.Perform a)
    block : (j : Jumps) (locals inner : List CsType) (ends : Bool) (statements : List Code) →
        AllRun at result j locals inner ends statements → Runs at result j locals locals ends (c.Block statements)
    if_only : (j : Jumps) (locals inner : List CsType) (ends : Bool) (a b : Code) →
        CodeHas at locals t.Bool a → Runs at result j locals inner ends b → Runs at result j locals locals true (c.If a b None)
    if_else : (j : Jumps) (locals inner other_inner : List CsType) (ends other_ends : Bool) (a b d : Code) →
        CodeHas at locals t.Bool a → Runs at result j locals inner ends b → Runs at result j locals other_inner other_ends d →
        Runs at result j locals locals (ends || other_ends) (c.If a b (Some d))
    while : (j : Jumps) (locals inner : List CsType) (ends : Bool) (a b : Code) →
        CodeHas at locals t.Bool a → Runs at result (jumps true true) locals inner ends b → Runs at result j locals locals true (c.While a b)
    forever : (j : Jumps) (locals inner : List CsType) (ends : Bool) (b : Code) →
        Runs at result (jumps false true) locals inner ends b → Runs at result j locals locals false (c.While (c.Bool true) b)
    for_loop : (j : Jumps) (locals within inner : List CsType) (begins ends : Bool) (first condition step : Option Code) (b : Code) →
        Starts at result j locals within begins first → Condition at within condition → Stepping at within step →
        Runs at result (jumps true true) within inner ends b → Runs at result j locals locals begins (c.For first condition step b)
    for_forever : (j : Jumps) (locals within inner : List CsType) (begins ends : Bool) (first condition step : Option Code) (b : Code) →
        Starts at result j locals within begins first → Always condition → Stepping at within step →
        Runs at result (jumps false true) within inner ends b → Runs at result j locals locals false (c.For first condition step b)
    for_each : (j : Jumps) (locals inner : List CsType) (ends : Bool) (type : CsType) (a b : Code) →
        CodeHas at locals (t.List type) a → Runs at result (jumps true true) (locals ++ type ∷ []) inner ends b → Runs at result j locals locals true (c.ForEach a b)
    switch : (j : Jumps) (locals : List CsType) (type : CsType) (ends default : Bool) (a : Code) (sections : List Code) →
        CodeHas at locals type a → SectionsRun at result (jumps true j.continues) locals ends default sections → Runs at result j locals locals true (c.Switch a sections)
    switch_left : (j : Jumps) (locals : List CsType) (type : CsType) (a : Code) (sections : List Code) →
        CodeHas at locals type a → SectionsRun at result (jumps false j.continues) locals false true sections → Runs at result j locals locals false (c.Switch a sections)
    break_out : (j : Jumps) (locals : List CsType) → IsTrue j.breaks → Runs at result j locals locals false c.Break
    go_on : (j : Jumps) (locals : List CsType) → IsTrue j.continues → Runs at result j locals locals false c.Continue
    return : (j : Jumps) (locals : List CsType) → result ≡ t.Nothing → Runs at result j locals locals false (c.Return None)
    return_value : (j : Jumps) (locals : List CsType) (a : Code) → CodeHas at locals result a → Runs at result j locals locals false (c.Return (Some a))

  -- statements, one after another
  pub data AllRun (at : Surroundings) (result : CsType) : Jumps → List CsType → List CsType → Bool → List Code → Type 0 where
    none : (j : Jumps) (locals : List CsType) → AllRun at result j locals locals true []
    more : (j : Jumps) (locals between inner : List CsType) (ends others_end : Bool) (one : Code) (others : List Code) →
        Runs at result j locals between ends one → AllRun at result j between inner others_end others →
        AllRun at result j locals inner (ends && others_end) (one ∷ others)

  -- the start of a `for`, or none
  pub data Starts (at : Surroundings) (result : CsType) : Jumps → List CsType → List CsType → Bool → Option Code → Type 0 where
    no_start : (j : Jumps) (locals : List CsType) → Starts at result j locals locals true None
    start : (j : Jumps) (locals within : List CsType) (ends : Bool) (a : Code) → Runs at result j locals within ends a → Starts at result j locals within ends (Some a)

  -- the sections of a `switch`: whether the end of one can be reached, and whether one has `default`
  pub data SectionsRun (at : Surroundings) (result : CsType) : Jumps → List CsType → Bool → Bool → List Code → Type 0 where
    no_section : (j : Jumps) (locals : List CsType) → SectionsRun at result j locals false false []
    section : (j : Jumps) (locals inner : List CsType) (ends others_end default others_default : Bool) (constants : List Value) (statements others : List Code) →
        AllRun at result j locals inner ends statements → SectionsRun at result j locals others_end others_default others →
        SectionsRun at result j locals (ends || others_end) (default || others_default) (c.Section constants default statements ∷ others)
