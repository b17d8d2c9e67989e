-- What code means: by recursion on the code, a function from the state before it to what it gives.
use Rattle.std.specs.Prelude.{ℕ, zero, suc, ◌-◌, List, map, slice_get, Option, Some, None, filter_map, option_map}
use Rattle.cs_ast.specs.Bodies.{code_at}
use Rattle.cs_ast.specs.declared.value.Value.{Value}
use Rattle.cs_ast.specs.declared.value.Value.TheVariants as v
use Rattle.cs_ast.specs.declared.code.Code.{Code, out-Code}
use Rattle.cs_ast.specs.declared.code.Code.TheOpen.{Code-F}
use Rattle.cs_ast.specs.declared.code.Code.TheFolds.{map-Code, fold-Code}
use Rattle.cs_meaning.specs.declared.fault.Fault.TheVariants.{CallDepth}
use Rattle.cs_meaning.specs.State.{Fields, over}
use Rattle.cs_meaning.specs.Outcome.{gives, breaks, continues, faults, stuck, Meaning, in_state, charged, found}
use Rattle.cs_meaning.specs.Operators.{of_value, cast}
use Rattle.cs_meaning.specs.Reading.{indexed, part_of, part_or_null}
use Rattle.cs_meaning.specs.Variables.{assigned, operator_in, stepped, declared_as, bound}
use Rattle.cs_meaning.specs.Scopes.{nothing, if_there, of_body}
use Rattle.cs_meaning.specs.Calls.{Running, called, callback, invoked, with_capture}
use Rattle.cs_meaning.specs.Sections.{Section, section, section_in, selected}
use Rattle.cs_meaning.specs.Expressions.{one_operand, two_operands, binary, conditional, interpolated, new_record, record_with, member_call}
use Rattle.cs_meaning.specs.Statements.{performed, block, branch, while_loop, for_loop, for_each, switch, returned}

-- what code is run with and leaves as it is: the instance whose code it is, the parameters of all instances, the bodies of the program, and how deep the calls are
pub record Setting : Type 0 where
  pub who : ℕ
  pub parameters : Fields
  pub bodies : List (ℕ × Code)
  pub depth : ℕ

abbrev pub setting : ℕ → Fields → List (ℕ × Code) → ℕ → Setting
setting who parameters bodies depth = record { who = who; parameters = parameters; bodies = bodies; depth = depth }

-- a part of code: what it means, and what it says as a section of a `switch`, if it is one
pub record Part : Type 0 where
  pub meaning : Meaning
  pub section : Option (Section (List Meaning))

abbrev pub part : Meaning → Option (Section (List Meaning)) → Part
part meaning section = record { meaning = meaning; section = section }

abbrev pub meanings : List Part → List Meaning
meanings parts = map (λ (it : Part). it.meaning) parts

abbrev pub if_any : Option Part → Option Meaning
if_any it = option_map (λ (it : Part). it.meaning) it

-- the sections among the parts of a `switch`
abbrev pub sections_in : List Part → List (Section (List Meaning))
sections_in parts = filter_map (λ (it : Part). it.section) parts

-- a section with the meanings of its statements
abbrev pub section_meaning : Section (List Part) → Section (List Meaning)
section_meaning it = section it.constants it.otherwise (meanings it.statements)

module _ (parameters : Fields) (run : Running) (who : ℕ) where
  -- one level of code behind the unit that it costs, with each part in its place
  abbrev pub act : Code-F Part → Meaning
  act (Code-F.Int n) s = gives (v.Int n) s
  act (Code-F.Bool truth) s = gives (v.Bool truth) s
  act (Code-F.Text text) s = gives (v.Text text) s
  act Code-F.Null s = gives v.Null s
  act (Code-F.Field at) s = found (s.fields who at) s
  act (Code-F.Parameter at) s = found (parameters who at) s
  act (Code-F.Local at) s = found (slice_get s.locals at) s
  act (Code-F.Interpolated pieces) s = interpolated (meanings pieces) s
  act (Code-F.Unary op a) s = one_operand a.meaning (of_value op) s
  act (Code-F.Cast op a) s = one_operand a.meaning (cast op) s
  act (Code-F.Binary op a b) s = binary op a.meaning b.meaning s
  act (Code-F.Conditional a b c) s = conditional a.meaning b.meaning c.meaning s
  act (Code-F.With a positions values) s = record_with a.meaning positions (meanings values) s
  act (Code-F.Part a at) s = one_operand a.meaning (part_of at) s
  act (Code-F.NullPart a at) s = one_operand a.meaning (part_or_null at) s
  act (Code-F.Index a b) s = two_operands a.meaning b.meaning indexed s
  act (Code-F.New kind parts) s = new_record kind (meanings parts) s
  act (Code-F.Library member arguments) s = member_call member (meanings arguments) s
  act (Code-F.Call number arguments) s = called run who number (meanings arguments) s
  act (Code-F.Callback number positions) s = callback who number positions s
  act (Code-F.Fill a b) s = two_operands a.meaning b.meaning with_capture s
  act (Code-F.Invoke a argument) s = two_operands a.meaning (if_there (if_any argument)) (invoked run) s
  act (Code-F.Assign target op e) s = assigned who target (operator_in op) e.meaning s
  act (Code-F.Step target op) s = stepped who target op s
  act (Code-F.Declare e) s = declared_as e.meaning s
  act Code-F.Empty s = nothing s
  act (Code-F.Block statements) s = block (meanings statements) s
  act (Code-F.If test one other) s = branch test.meaning one.meaning (if_any other) s
  act (Code-F.While test body) s = while_loop test.meaning body.meaning s
  act (Code-F.For start test step body) s = for_loop (if_any start) (if_any test) (if_any step) body.meaning s
  act (Code-F.ForEach list body) s = for_each list.meaning body.meaning s
  act (Code-F.Switch value sections) s = switch value.meaning (λ x. selected x (sections_in sections)) s
  act Code-F.Break s = breaks s
  act Code-F.Continue s = continues s
  act (Code-F.Return e) s = returned (if_any e) s
  act (Code-F.Perform e) s = performed e.meaning s
  act _ s = stuck

  -- each statement and each expression costs one unit, on entry; a literal piece and a binding cost none, and a section stands in a `switch` alone
  abbrev pub paid : Code-F Part → Meaning
  paid (Code-F.Piece text) s = gives (v.Text text) s
  paid (Code-F.Bind at kind) s = bound who at kind s
  paid (Code-F.Section constants otherwise statements) s = stuck
  paid code s = charged 1 s (act code)

  abbrev pub level : Code-F Part → Part
  level code = part (λ s. paid code s) (option_map section_meaning (section_in code))

module _ (parameters : Fields) (bodies : List (ℕ × Code)) where
  -- what code means as code of an instance, where calls run so
  unfoldable pub meaning_by : Running → ℕ → Code → Meaning
  meaning_by run who code = (fold-Code Part (level parameters run who) code).meaning

  -- a body over locals of its own; the locals round the call are as they were behind it
  abbrev pub entered : (Code → Meaning) → List Value → Option Code → Meaning
  entered run locals (Some code) s = in_state (over s.locals) (of_body (run code (over locals s)))
  entered run locals None s = stuck

  -- a call, where so many calls may still be inside one another
  unfoldable pub call : ℕ → Running
  call zero who number locals s = faults CallDepth s
  call (suc calls) who number locals s = entered (meaning_by (call calls) who) locals (code_at bodies number) s

-- what calls come to: at most 100 may be inside one another
abbrev pub running : Setting → Running
running around = call around.parameters around.bodies (100 - around.depth)

-- what code means
abbrev pub meaning : Setting → Code → Meaning
meaning around = meaning_by around.parameters around.bodies (running around) around.who

-- what code means behind the unit that it costs
unfoldable pub behind : Setting → Code → Meaning
behind around code s =
    act around.parameters (running around) around.who (map-Code Code Part (fold-Code Part (level around.parameters (running around) around.who)) (out-Code code)) s

-- what a whole body means: what it returns is its value
abbrev pub body_meaning : Setting → Code → Meaning
body_meaning around code s = of_body (meaning around code s)
