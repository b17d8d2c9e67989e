-- A rendering while it is made.
use Rattle.std.specs.Prelude.{ℕ, ◌+◌, ◌||◌, nat_lt, encode_utf8_all, length, if◌then◌else◌, List, Option}
use Rattle.cs_ast.specs.declared.value.Value.{Value}
use Rattle.cs_meaning.specs.State.{State, state, over, cut}
use Rattle.cs_meaning.specs.Outcome as code
use Rattle.cs_meaning.specs.Outcome.{Outcome, charged, found}
use Rattle.drawing_meaning.specs.declared.fault.PageFault.{PageFault}
use Rattle.drawing_meaning.specs.declared.fault.PageFault.TheVariants.{Code, PageTooLarge}

-- the state of the code; the items begun so far, the bytes of their names and texts, and the components among them
pub record Drawing : Type 0 where
  pub state : State
  pub items : ℕ
  pub bytes : ℕ
  pub components : ℕ

abbrev pub with_state : State → Drawing → Drawing
with_state s d = record d { state = s }

-- what a part of a template makes and what is there behind it; a fault; or neither, as with code
pub data Drawn (A : Type 0) : Type 0 where
  gives : A → Drawing → Drawn A
  faults : PageFault → Drawing → Drawn A
  stuck : Drawn A

-- what is made in a rendering
abbrev pub Draws : Type 0 → Type 0
Draws A = Drawing → Drawn A

abbrev pub and_then : {A B : Type 0} → Drawn A → (A → Draws B) → Drawn B
and_then (gives x d) next = next x d
and_then (faults fault d) next = faults fault d
and_then stuck next = stuck

infixl 10 ◌>>=◌
-- one after the other, as long as there is no fault
abbrev pub ◌>>=◌ : {A B : Type 0} → Draws A → (A → Draws B) → Draws B
(first >>= next) d = and_then (first d) next

abbrev pub done : {A : Type 0} → A → Draws A
done x d = gives x d

-- what is there behind code: its locals and the units left. What it changed of fields isn't kept, nor which callbacks it ran
abbrev pub behind_code : State → Drawing → Drawing
behind_code s d = with_state (state s.locals d.state.fields d.state.receivers s.left) d

-- what code gives: a value or a fault, and no jump
abbrev pub of_outcome : {A : Type 0} → Outcome A → Drawing → Drawn A
of_outcome (code.gives x s) d = gives x (behind_code s d)
of_outcome (code.breaks s) d = stuck
of_outcome (code.continues s) d = stuck
of_outcome (code.returns x s) d = stuck
of_outcome (code.faults fault s) d = faults (Code fault) (behind_code s d)
of_outcome code.stuck d = stuck

abbrev pub run : {A : Type 0} → (State → Outcome A) → Draws A
run means d = of_outcome (means d.state) d

-- what is there
abbrev pub known : {A : Type 0} → Option A → Draws A
known x d = run (found x) d

-- a unit is paid
abbrev pub pay : Draws (Unit {0})
pay d = run (λ s. charged 1 s (λ s1. code.gives tt s1)) d

-- in a scope of its own: what is declared in it is dropped at its end
abbrev pub scoped : {A : Type 0} → Draws A → Draws A
scoped draws d = and_then (draws d) (λ x d1. done x (with_state (cut (length d.state.locals) d1.state) d1))

-- with other locals; the present ones are there again behind it
abbrev pub over_locals : {A : Type 0} → List Value → Draws A → Draws A
over_locals locals draws d = and_then (draws (with_state (over locals d.state) d)) (λ x d1. done x (with_state (over d.state.locals d1.state) d1))

-- how many bytes a text has
abbrev pub bytes_of : List ℕ → ℕ
bytes_of text = length (encode_utf8_all text)

-- one item more, with so many bytes: a rendering has at most 100,000 and 8,388,608
unfoldable pub begun : ℕ → Draws (Unit {0})
begun bytes d =
    if nat_lt 100000 (d.items + 1) || nat_lt 8388608 (d.bytes + bytes) then faults PageTooLarge d
    else gives tt (record d { items = d.items + 1; bytes = d.bytes + bytes })

-- the same for an element, a text or markup, which lies at most 1,000 deep in the page
unfoldable pub begun_at : ℕ → ℕ → Draws (Unit {0})
begun_at depth bytes d = if nat_lt 1000 depth then faults PageTooLarge d else begun bytes d

-- a component, which is an item without bytes of its own: its place among those of the rendering
unfoldable pub component_begun : Draws ℕ
component_begun = do
  here ← begun 0
  λ d. gives d.components (record d { components = d.components + 1 })

-- what comes to an end, with a fault or without one
abbrev pub IsDrawn : {A : Type 0} → Drawn A → Type 0
IsDrawn (gives x d) = Unit {0}
IsDrawn (faults fault d) = Unit {0}
IsDrawn stuck = ⊥
