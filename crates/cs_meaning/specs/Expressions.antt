-- Expressions by the meanings of their parts. Operands are evaluated from left to right.
use Rattle.std.specs.Prelude.{ℕ, if◌then◌else◌, List, true, false}
use Rattle.cs_ast.specs.declared.value.Value.{Value}
use Rattle.cs_ast.specs.declared.value.Value.TheVariants as v
use Rattle.cs_ast.specs.declared.code.LibraryMember.{LibraryMember}
use Rattle.cs_ast.specs.declared.operators.BinaryOp.{BinaryOp}
use Rattle.cs_ast.specs.declared.operators.BinaryOp.TheVariants as op
use Rattle.cs_meaning.specs.Outcome.{gives, Meaning, and_then, chosen, found}
use Rattle.cs_meaning.specs.Kinds.{truth_of, is_null, record_of}
use Rattle.cs_meaning.specs.NewValues.{made, new_text, texts_of}
use Rattle.cs_meaning.specs.Operators.{of_values}
use Rattle.cs_meaning.specs.Reading.{used, with_parts}
use Rattle.cs_meaning.specs.Scopes.{all_of}
use Rattle.cs_meaning.specs.Library.{library}

-- one operand and what is made of it
abbrev pub one_operand : Meaning → (Value → Meaning) → Meaning
one_operand a next s = and_then (a s) (λ x s1. next x s1)

-- two operands and what is made of them
abbrev pub two_operands : Meaning → Meaning → (Value → Value → Meaning) → Meaning
two_operands a b next s = and_then (a s) (λ x s1. and_then (b s1) (λ y s2. next x y s2))

-- an operand that has to be true or false
abbrev pub truthful : Meaning → Meaning
truthful a s = and_then (a s) (λ x s1. and_then (found (truth_of x) s1) (λ truth s2. gives (v.Bool truth) s2))

-- an operator between two operands; `&&`, `||` and `??` evaluate the second only where they need it
abbrev pub binary : BinaryOp → Meaning → Meaning → Meaning
binary op.And a b s = and_then (a s) (λ x s1. chosen (truth_of x) (truthful b s1) (gives (v.Bool false) s1))
binary op.Or a b s = and_then (a s) (λ x s1. chosen (truth_of x) (gives (v.Bool true) s1) (truthful b s1))
binary op.Coalesce a b s = and_then (a s) (λ x s1. if is_null x then b s1 else gives x s1)
binary other a b s = two_operands a b (of_values other) s

-- `a ? b : c`
abbrev pub conditional : Meaning → Meaning → Meaning → Meaning
conditional a b c s = and_then (a s) (λ x s1. chosen (truth_of x) (b s1) (c s1))

-- an interpolated text, which is one new text
abbrev pub interpolated : List Meaning → Meaning
interpolated pieces s = and_then (all_of pieces s) (λ xs s1. new_text (texts_of xs) s1)

-- a new record
abbrev pub new_record : ℕ → List Meaning → Meaning
new_record kind parts s = and_then (all_of parts s) (λ xs s1. made (v.Rec kind xs) s1)

-- a new record with other parts at these positions
abbrev pub record_with : Meaning → List ℕ → List Meaning → Meaning
record_with a positions values s =
    and_then (a s) (λ x s1. and_then (used x (record_of x) s1) (λ it s2. and_then (all_of values s2) (λ xs s3. and_then (found (with_parts positions xs it.1) s3) (λ parts s4. made (v.Rec it.0 parts) s4))))

-- a member of the library, behind its target and arguments
abbrev pub member_call : LibraryMember → List Meaning → Meaning
member_call member arguments s = and_then (all_of arguments s) (λ xs s1. library member xs s1)
