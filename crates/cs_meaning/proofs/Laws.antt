-- The equations of the meaning, one for each form of code.
use Rattle.std.proofs.Common.{◌≡◌, ℕ, List, map, sym, ap, ◌∙◌}
use Rattle.std.specs.Prelude.{ℤ, slice_get, option_map, Option, Some, None}
use Rattle.std.specs.Prelude.{Bool as Truth}
use mathlib.Core.Path.{fun_ext}
use Rattle.cs_ast.specs.declared.value.Value.{Value}
use Rattle.cs_ast.specs.declared.value.Value.TheVariants as v
use Rattle.cs_ast.specs.declared.code.Code.{Code}
use Rattle.cs_ast.specs.declared.code.Code.TheVariants as c
use Rattle.cs_ast.specs.declared.code.Code.TheViews.{roll-Code}
use Rattle.cs_ast.specs.declared.code.Code.TheOpen.{Code-F}
use Rattle.cs_ast.specs.declared.code.Code.TheFolds.{map-Code, fold-roll-Code}
use Rattle.cs_ast.specs.declared.code.BindKind.{BindKind}
use Rattle.cs_ast.specs.declared.code.LibraryMember.{LibraryMember}
use Rattle.cs_ast.specs.declared.code.Variable.{Variable}
use Rattle.cs_ast.specs.declared.operators.AssignOp.{AssignOp}
use Rattle.cs_ast.specs.declared.operators.BinaryOp.{BinaryOp}
use Rattle.cs_ast.specs.declared.operators.CastOp.{CastOp}
use Rattle.cs_ast.specs.declared.operators.StepOp.{StepOp}
use Rattle.cs_ast.specs.declared.operators.UnaryOp.{UnaryOp}
use Rattle.cs_meaning.specs.State.{State}
use Rattle.cs_meaning.specs.Outcome.{gives, breaks, continues, stuck, Meaning, charged, found}
use Rattle.cs_meaning.specs.Operators.{of_value, cast}
use Rattle.cs_meaning.specs.Reading.{indexed, part_of, part_or_null}
use Rattle.cs_meaning.specs.Variables.{assigned, operator_in, stepped, declared_as, bound}
use Rattle.cs_meaning.specs.Scopes.{nothing, if_there}
use Rattle.cs_meaning.specs.Calls.{called, callback, invoked, with_capture}
use Rattle.cs_meaning.specs.Sections.{selected, sections_of}
use Rattle.cs_meaning.specs.Expressions.{one_operand, two_operands, binary, conditional, interpolated, new_record, record_with, member_call}
use Rattle.cs_meaning.specs.Statements.{performed, block, branch, while_loop, for_loop, for_each, switch, returned}
use Rattle.cs_meaning.specs.Meaning.{Setting, Part, running, paid, level, meaning_by, meaning}
use Rattle.cs_meaning.proofs.PartLemmas.{whole, all_meanings, same_selected}

module _ (around : Setting) where
  -- what a variant means
  at_variant : (code : Code) (x : Code-F Code) (s : State) → roll-Code x ≡ code → meaning around code s ≡ paid around.parameters (running around) around.who (map-Code Code Part (whole around) x) s
  unfolding meaning_by
  at_variant code x s e = ap (λ (it : Part). it.meaning s) (ap (whole around) (sym e) ∙ fold-roll-Code Part (level around.parameters (running around) around.who) x)

  pub piece_law : (text : List ℕ) (s : State) → meaning around (c.Piece text) s ≡ gives (v.Text text) s
  piece_law text s = at_variant (c.Piece text) (Code-F.Piece text) s (c.rolls-Piece text)

  pub bind_law : (at : ℕ) (kind : BindKind) (s : State) → meaning around (c.Bind at kind) s ≡ bound around.who at kind s
  bind_law at kind s = at_variant (c.Bind at kind) (Code-F.Bind at kind) s (c.rolls-Bind at kind)

  pub section_law : (constants : List Value) (otherwise : Truth) (statements : List Code) (s : State) → meaning around (c.Section constants otherwise statements) s ≡ stuck
  section_law constants otherwise statements s = at_variant (c.Section constants otherwise statements) (Code-F.Section constants otherwise statements) s (c.rolls-Section constants otherwise statements)

  pub int_law : (n : ℤ) (s : State) → meaning around (c.Int n) s ≡ charged 1 s (λ s1. gives (v.Int n) s1)
  unfolding meaning_by
  int_law n s = at_variant (c.Int n) (Code-F.Int n) s (c.rolls-Int n)

  pub bool_law : (truth : Truth) (s : State) → meaning around (c.Bool truth) s ≡ charged 1 s (λ s1. gives (v.Bool truth) s1)
  unfolding meaning_by
  bool_law truth s = at_variant (c.Bool truth) (Code-F.Bool truth) s (c.rolls-Bool truth)

  pub text_law : (text : List ℕ) (s : State) → meaning around (c.Text text) s ≡ charged 1 s (λ s1. gives (v.Text text) s1)
  unfolding meaning_by
  text_law text s = at_variant (c.Text text) (Code-F.Text text) s (c.rolls-Text text)

  pub null_law : (s : State) → meaning around c.Null s ≡ charged 1 s (λ s1. gives v.Null s1)
  unfolding meaning_by
  null_law s = at_variant c.Null Code-F.Null s c.rolls-Null

  pub field_law : (at : ℕ) (s : State) → meaning around (c.Field at) s ≡ charged 1 s (λ s1. found (State.fields s1 around.who at) s1)
  unfolding meaning_by
  field_law at s = at_variant (c.Field at) (Code-F.Field at) s (c.rolls-Field at)

  pub parameter_law : (at : ℕ) (s : State) → meaning around (c.Parameter at) s ≡ charged 1 s (λ s1. found (around.parameters around.who at) s1)
  unfolding meaning_by
  parameter_law at s = at_variant (c.Parameter at) (Code-F.Parameter at) s (c.rolls-Parameter at)

  pub local_law : (at : ℕ) (s : State) → meaning around (c.Local at) s ≡ charged 1 s (λ s1. found (slice_get (State.locals s1) at) s1)
  unfolding meaning_by
  local_law at s = at_variant (c.Local at) (Code-F.Local at) s (c.rolls-Local at)

  pub interpolated_law : (pieces : List Code) (s : State) → meaning around (c.Interpolated pieces) s ≡ charged 1 s (λ s1. interpolated (map (meaning around) pieces) s1)
  unfolding meaning_by
  interpolated_law pieces s = at_variant (c.Interpolated pieces) (Code-F.Interpolated pieces) s (c.rolls-Interpolated pieces)
      ∙ ap (λ (l : List Meaning). charged 1 s (λ s1. interpolated l s1)) (all_meanings around pieces)

  pub unary_law : (op : UnaryOp) (a : Code) (s : State) → meaning around (c.Unary op a) s ≡ charged 1 s (λ s1. one_operand (meaning around a) (of_value op) s1)
  unfolding meaning_by
  unary_law op a s = at_variant (c.Unary op a) (Code-F.Unary op a) s (c.rolls-Unary op a)

  pub cast_law : (op : CastOp) (a : Code) (s : State) → meaning around (c.Cast op a) s ≡ charged 1 s (λ s1. one_operand (meaning around a) (cast op) s1)
  unfolding meaning_by
  cast_law op a s = at_variant (c.Cast op a) (Code-F.Cast op a) s (c.rolls-Cast op a)

  pub binary_law : (op : BinaryOp) (a : Code) (b : Code) (s : State) → meaning around (c.Binary op a b) s ≡ charged 1 s (λ s1. binary op (meaning around a) (meaning around b) s1)
  unfolding meaning_by
  binary_law op a b s = at_variant (c.Binary op a b) (Code-F.Binary op a b) s (c.rolls-Binary op a b)

  pub conditional_law : (a : Code) (b : Code) (d : Code) (s : State) → meaning around (c.Conditional a b d) s ≡ charged 1 s (λ s1. conditional (meaning around a) (meaning around b) (meaning around d) s1)
  unfolding meaning_by
  conditional_law a b d s = at_variant (c.Conditional a b d) (Code-F.Conditional a b d) s (c.rolls-Conditional a b d)

  pub with_law : (a : Code) (positions : List ℕ) (values : List Code) (s : State) → meaning around (c.With a positions values) s ≡ charged 1 s (λ s1. record_with (meaning around a) positions (map (meaning around) values) s1)
  unfolding meaning_by
  with_law a positions values s = at_variant (c.With a positions values) (Code-F.With a positions values) s (c.rolls-With a positions values)
      ∙ ap (λ (l : List Meaning). charged 1 s (λ s1. record_with (meaning around a) positions l s1)) (all_meanings around values)

  pub part_law : (a : Code) (at : ℕ) (s : State) → meaning around (c.Part a at) s ≡ charged 1 s (λ s1. one_operand (meaning around a) (part_of at) s1)
  unfolding meaning_by
  part_law a at s = at_variant (c.Part a at) (Code-F.Part a at) s (c.rolls-Part a at)

  pub null_part_law : (a : Code) (at : ℕ) (s : State) → meaning around (c.NullPart a at) s ≡ charged 1 s (λ s1. one_operand (meaning around a) (part_or_null at) s1)
  unfolding meaning_by
  null_part_law a at s = at_variant (c.NullPart a at) (Code-F.NullPart a at) s (c.rolls-NullPart a at)

  pub index_law : (a : Code) (b : Code) (s : State) → meaning around (c.Index a b) s ≡ charged 1 s (λ s1. two_operands (meaning around a) (meaning around b) indexed s1)
  unfolding meaning_by
  index_law a b s = at_variant (c.Index a b) (Code-F.Index a b) s (c.rolls-Index a b)

  pub new_law : (kind : ℕ) (parts : List Code) (s : State) → meaning around (c.New kind parts) s ≡ charged 1 s (λ s1. new_record kind (map (meaning around) parts) s1)
  unfolding meaning_by
  new_law kind parts s = at_variant (c.New kind parts) (Code-F.New kind parts) s (c.rolls-New kind parts)
      ∙ ap (λ (l : List Meaning). charged 1 s (λ s1. new_record kind l s1)) (all_meanings around parts)

  pub library_law : (member : LibraryMember) (arguments : List Code) (s : State) → meaning around (c.Library member arguments) s ≡ charged 1 s (λ s1. member_call member (map (meaning around) arguments) s1)
  unfolding meaning_by
  library_law member arguments s = at_variant (c.Library member arguments) (Code-F.Library member arguments) s (c.rolls-Library member arguments)
      ∙ ap (λ (l : List Meaning). charged 1 s (λ s1. member_call member l s1)) (all_meanings around arguments)

  pub call_law : (number : ℕ) (arguments : List Code) (s : State) → meaning around (c.Call number arguments) s ≡ charged 1 s (λ s1. called (running around) around.who number (map (meaning around) arguments) s1)
  unfolding meaning_by
  call_law number arguments s = at_variant (c.Call number arguments) (Code-F.Call number arguments) s (c.rolls-Call number arguments)
      ∙ ap (λ (l : List Meaning). charged 1 s (λ s1. called (running around) around.who number l s1)) (all_meanings around arguments)

  pub callback_law : (number : ℕ) (positions : List ℕ) (s : State) → meaning around (c.Callback number positions) s ≡ charged 1 s (λ s1. callback around.who number positions s1)
  unfolding meaning_by
  callback_law number positions s = at_variant (c.Callback number positions) (Code-F.Callback number positions) s (c.rolls-Callback number positions)

  pub fill_law : (a : Code) (b : Code) (s : State) → meaning around (c.Fill a b) s ≡ charged 1 s (λ s1. two_operands (meaning around a) (meaning around b) with_capture s1)
  unfolding meaning_by
  fill_law a b s = at_variant (c.Fill a b) (Code-F.Fill a b) s (c.rolls-Fill a b)

  pub invoke_law : (a : Code) (argument : Option Code) (s : State) → meaning around (c.Invoke a argument) s ≡ charged 1 s (λ s1. two_operands (meaning around a) (if_there (option_map (meaning around) argument)) (invoked (running around)) s1)
  unfolding meaning_by
  invoke_law a None s = at_variant (c.Invoke a None) (Code-F.Invoke a None) s (c.rolls-Invoke a None)
  invoke_law a (Some x) s = at_variant (c.Invoke a (Some x)) (Code-F.Invoke a (Some x)) s (c.rolls-Invoke a (Some x))

  pub assign_law : (target : Variable) (op : AssignOp) (e : Code) (s : State) → meaning around (c.Assign target op e) s ≡ charged 1 s (λ s1. assigned around.who target (operator_in op) (meaning around e) s1)
  unfolding meaning_by
  assign_law target op e s = at_variant (c.Assign target op e) (Code-F.Assign target op e) s (c.rolls-Assign target op e)

  pub step_law : (target : Variable) (op : StepOp) (s : State) → meaning around (c.Step target op) s ≡ charged 1 s (λ s1. stepped around.who target op s1)
  unfolding meaning_by
  step_law target op s = at_variant (c.Step target op) (Code-F.Step target op) s (c.rolls-Step target op)

  pub declare_law : (e : Code) (s : State) → meaning around (c.Declare e) s ≡ charged 1 s (λ s1. declared_as (meaning around e) s1)
  unfolding meaning_by
  declare_law e s = at_variant (c.Declare e) (Code-F.Declare e) s (c.rolls-Declare e)

  pub empty_law : (s : State) → meaning around c.Empty s ≡ charged 1 s (λ s1. nothing s1)
  unfolding meaning_by
  empty_law s = at_variant c.Empty Code-F.Empty s c.rolls-Empty

  pub block_law : (statements : List Code) (s : State) → meaning around (c.Block statements) s ≡ charged 1 s (λ s1. block (map (meaning around) statements) s1)
  unfolding meaning_by
  block_law statements s = at_variant (c.Block statements) (Code-F.Block statements) s (c.rolls-Block statements)
      ∙ ap (λ (l : List Meaning). charged 1 s (λ s1. block l s1)) (all_meanings around statements)

  pub if_law : (test : Code) (one : Code) (other : Option Code) (s : State) → meaning around (c.If test one other) s ≡ charged 1 s (λ s1. branch (meaning around test) (meaning around one) (option_map (meaning around) other) s1)
  unfolding meaning_by
  if_law test one None s = at_variant (c.If test one None) (Code-F.If test one None) s (c.rolls-If test one None)
  if_law test one (Some x) s = at_variant (c.If test one (Some x)) (Code-F.If test one (Some x)) s (c.rolls-If test one (Some x))

  pub while_law : (test : Code) (body : Code) (s : State) → meaning around (c.While test body) s ≡ charged 1 s (λ s1. while_loop (meaning around test) (meaning around body) s1)
  unfolding meaning_by
  while_law test body s = at_variant (c.While test body) (Code-F.While test body) s (c.rolls-While test body)

  pub for_law : (start : Option Code) (test : Option Code) (step : Option Code) (body : Code) (s : State) → meaning around (c.For start test step body) s ≡ charged 1 s (λ s1. for_loop (option_map (meaning around) start) (option_map (meaning around) test) (option_map (meaning around) step) (meaning around body) s1)
  unfolding meaning_by
  for_law None None None body s = at_variant (c.For None None None body) (Code-F.For None None None body) s (c.rolls-For None None None body)
  for_law None None (Some x2) body s = at_variant (c.For None None (Some x2) body) (Code-F.For None None (Some x2) body) s (c.rolls-For None None (Some x2) body)
  for_law None (Some x1) None body s = at_variant (c.For None (Some x1) None body) (Code-F.For None (Some x1) None body) s (c.rolls-For None (Some x1) None body)
  for_law None (Some x1) (Some x2) body s = at_variant (c.For None (Some x1) (Some x2) body) (Code-F.For None (Some x1) (Some x2) body) s (c.rolls-For None (Some x1) (Some x2) body)
  for_law (Some x0) None None body s = at_variant (c.For (Some x0) None None body) (Code-F.For (Some x0) None None body) s (c.rolls-For (Some x0) None None body)
  for_law (Some x0) None (Some x2) body s = at_variant (c.For (Some x0) None (Some x2) body) (Code-F.For (Some x0) None (Some x2) body) s (c.rolls-For (Some x0) None (Some x2) body)
  for_law (Some x0) (Some x1) None body s = at_variant (c.For (Some x0) (Some x1) None body) (Code-F.For (Some x0) (Some x1) None body) s (c.rolls-For (Some x0) (Some x1) None body)
  for_law (Some x0) (Some x1) (Some x2) body s = at_variant (c.For (Some x0) (Some x1) (Some x2) body) (Code-F.For (Some x0) (Some x1) (Some x2) body) s (c.rolls-For (Some x0) (Some x1) (Some x2) body)

  pub for_each_law : (list : Code) (body : Code) (s : State) → meaning around (c.ForEach list body) s ≡ charged 1 s (λ s1. for_each (meaning around list) (meaning around body) s1)
  unfolding meaning_by
  for_each_law list body s = at_variant (c.ForEach list body) (Code-F.ForEach list body) s (c.rolls-ForEach list body)

  pub switch_law : (value : Code) (sections : List Code) (s : State) → meaning around (c.Switch value sections) s ≡ charged 1 s (λ s1. switch (meaning around value) (λ x. option_map (map (meaning around)) (selected x (sections_of sections))) s1)
  unfolding meaning_by
  switch_law value sections s = at_variant (c.Switch value sections) (Code-F.Switch value sections) s (c.rolls-Switch value sections)
      ∙ ap (λ (g : Value → Option (List Meaning)). charged 1 s (λ s1. switch (meaning around value) g s1)) (fun_ext (same_selected around sections))

  pub break_law : (s : State) → meaning around c.Break s ≡ charged 1 s (λ s1. breaks s1)
  unfolding meaning_by
  break_law s = at_variant c.Break Code-F.Break s c.rolls-Break

  pub continue_law : (s : State) → meaning around c.Continue s ≡ charged 1 s (λ s1. continues s1)
  unfolding meaning_by
  continue_law s = at_variant c.Continue Code-F.Continue s c.rolls-Continue

  pub return_law : (e : Option Code) (s : State) → meaning around (c.Return e) s ≡ charged 1 s (λ s1. returned (option_map (meaning around) e) s1)
  unfolding meaning_by
  return_law None s = at_variant (c.Return None) (Code-F.Return None) s (c.rolls-Return None)
  return_law (Some x) s = at_variant (c.Return (Some x)) (Code-F.Return (Some x)) s (c.rolls-Return (Some x))

  pub perform_law : (e : Code) (s : State) → meaning around (c.Perform e) s ≡ charged 1 s (λ s1. performed (meaning around e) s1)
  unfolding meaning_by
  perform_law e s = at_variant (c.Perform e) (Code-F.Perform e) s (c.rolls-Perform e)
