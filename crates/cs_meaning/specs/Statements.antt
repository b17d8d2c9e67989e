-- Statements by the meanings of their parts.
use Rattle.std.specs.Prelude.{List, Option, Some, None, true}
use Rattle.cs_ast.specs.declared.value.Value.{Value}
use Rattle.cs_ast.specs.declared.value.Value.TheVariants as v
use Rattle.cs_meaning.specs.Outcome.{gives, returns, Meaning, and_then, chosen}
use Rattle.cs_meaning.specs.Kinds.{truth_of, items_of}
use Rattle.cs_meaning.specs.Reading.{used}
use Rattle.cs_meaning.specs.Scopes.{nothing, if_there, in_order, scoped, loop, each_of, behind_section}

-- an expression as a statement, whose value isn't used
abbrev pub performed : Meaning → Meaning
performed e s = and_then (e s) (λ x s1. nothing s1)

abbrev pub block : List Meaning → Meaning
block statements s = scoped (in_order statements) s

-- each branch has a scope of its own
abbrev pub branch : Meaning → Meaning → Option Meaning → Meaning
branch test one other s = and_then (test s) (λ x s1. chosen (truth_of x) (scoped one s1) (scoped (if_there other) s1))

abbrev pub while_loop : Meaning → Meaning → Meaning
while_loop test body s = loop test body nothing s

-- a test that may be absent, which is true then
abbrev pub test_of : Option Meaning → Meaning
test_of (Some test) s = test s
test_of None s = gives (v.Bool true) s

-- the start is in the scope of the whole loop
abbrev pub for_loop : Option Meaning → Option Meaning → Option Meaning → Meaning → Meaning
for_loop start test step body s = scoped (λ s1. and_then (if_there start s1) (λ x s2. loop (test_of test) body (if_there step) s2)) s

-- the list is taken once
abbrev pub for_each : Meaning → Meaning → Meaning
for_each list body s = and_then (list s) (λ x s1. and_then (used x (items_of x) s1) (λ items s2. each_of items body s2))

-- the statements of a section, in a scope of their own; nothing where no section is meant
abbrev pub section_run : Option (List Meaning) → Meaning
section_run (Some statements) s = behind_section (block statements s)
section_run None s = nothing s

-- a value, and the section that it selects
abbrev pub switch : Meaning → (Value → Option (List Meaning)) → Meaning
switch value selected s = and_then (value s) (λ x s1. section_run (selected x) s1)

-- `return`, with its value if there is one
abbrev pub returned : Option Meaning → Meaning
returned e s = and_then (if_there e s) (λ x s1. returns x s1)
