-- What each form of code means behind the unit that it costs.
use Rattle.std.proofs.Common.{◌≡◌, ℕ, List, map, sym, ap, ◌∙◌}
use Rattle.std.specs.Prelude.{ℤ, slice_get, option_map, Option, Some, None}
use Rattle.std.specs.Prelude.{Bool as Truth}
use mathlib.Core.Path.{fun_ext}
use Rattle.cs_ast.specs.declared.value.Value.{Value}
use Rattle.cs_ast.specs.declared.value.Value.TheVariants as v
use Rattle.cs_ast.specs.declared.code.Code.{Code, out-Code}
use Rattle.cs_ast.specs.declared.code.Code.TheVariants as c
use Rattle.cs_ast.specs.declared.code.Code.TheViews.{roll-Code, out-roll-Code}
use Rattle.cs_ast.specs.declared.code.Code.TheOpen.{Code-F}
use Rattle.cs_ast.specs.declared.code.Code.TheFolds.{map-Code}
use Rattle.cs_ast.specs.declared.code.BindKind.{BindKind}
use Rattle.cs_ast.specs.declared.code.LibraryMember.{LibraryMember}
use Rattle.cs_ast.specs.declared.code.Variable.{Variable}
use Rattle.cs_ast.specs.declared.operators.AssignOp.{AssignOp}
use Rattle.cs_ast.specs.declared.operators.BinaryOp.{BinaryOp}
use Rattle.cs_ast.specs.declared.operators.CastOp.{CastOp}
use Rattle.cs_ast.specs.declared.operators.StepOp.{StepOp}
use Rattle.cs_ast.specs.declared.operators.UnaryOp.{UnaryOp}
use Rattle.cs_meaning.specs.State.{State}
use Rattle.cs_meaning.specs.Outcome.{gives, breaks, continues, stuck, Meaning, found}
use Rattle.cs_meaning.specs.Operators.{of_value, cast}
use Rattle.cs_meaning.specs.Reading.{indexed, part_of, part_or_null}
use Rattle.cs_meaning.specs.Variables.{assigned, operator_in, stepped, declared_as}
use Rattle.cs_meaning.specs.Scopes.{nothing, if_there}
use Rattle.cs_meaning.specs.Calls.{called, callback, invoked, with_capture}
use Rattle.cs_meaning.specs.Sections.{selected, sections_of}
use Rattle.cs_meaning.specs.Expressions.{one_operand, two_operands, binary, conditional, interpolated, new_record, record_with, member_call}
use Rattle.cs_meaning.specs.Statements.{performed, block, branch, while_loop, for_loop, for_each, switch, returned}
use Rattle.cs_meaning.specs.Meaning.{Setting, Part, running, act, meaning_by, meaning, behind}
use Rattle.cs_meaning.proofs.PartLemmas.{whole, all_meanings, same_selected}

module _ (around : Setting) where
  at_form : (code : Code) (x : Code-F Code) (s : State) → roll-Code x ≡ code → behind around code s ≡ act around.parameters (running around) around.who (map-Code Code Part (whole around) x) s
  unfolding behind
  at_form code x s e = ap (λ (y : Code-F Code). act around.parameters (running around) around.who (map-Code Code Part (whole around) y) s) (ap out-Code (sym e) ∙ out-roll-Code x)

  pub piece_behind : (text : List ℕ) (s : State) → behind around (c.Piece text) s ≡ stuck
  piece_behind text s = at_form (c.Piece text) (Code-F.Piece text) s (c.rolls-Piece text)

  pub bind_behind : (at : ℕ) (kind : BindKind) (s : State) → behind around (c.Bind at kind) s ≡ stuck
  bind_behind at kind s = at_form (c.Bind at kind) (Code-F.Bind at kind) s (c.rolls-Bind at kind)

  pub section_behind : (constants : List Value) (otherwise : Truth) (statements : List Code) (s : State) → behind around (c.Section constants otherwise statements) s ≡ stuck
  section_behind constants otherwise statements s = at_form (c.Section constants otherwise statements) (Code-F.Section constants otherwise statements) s (c.rolls-Section constants otherwise statements)

  pub int_behind : (n : ℤ) (s : State) → behind around (c.Int n) s ≡ gives (v.Int n) s
  unfolding meaning_by behind
  int_behind n s = at_form (c.Int n) (Code-F.Int n) s (c.rolls-Int n)

  pub bool_behind : (truth : Truth) (s : State) → behind around (c.Bool truth) s ≡ gives (v.Bool truth) s
  unfolding meaning_by behind
  bool_behind truth s = at_form (c.Bool truth) (Code-F.Bool truth) s (c.rolls-Bool truth)

  pub text_behind : (text : List ℕ) (s : State) → behind around (c.Text text) s ≡ gives (v.Text text) s
  unfolding meaning_by behind
  text_behind text s = at_form (c.Text text) (Code-F.Text text) s (c.rolls-Text text)

  pub null_behind : (s : State) → behind around c.Null s ≡ gives v.Null s
  unfolding meaning_by behind
  null_behind s = at_form c.Null Code-F.Null s c.rolls-Null

  pub field_behind : (at : ℕ) (s : State) → behind around (c.Field at) s ≡ found (State.fields s around.who at) s
  unfolding meaning_by behind
  field_behind at s = at_form (c.Field at) (Code-F.Field at) s (c.rolls-Field at)

  pub parameter_behind : (at : ℕ) (s : State) → behind around (c.Parameter at) s ≡ found (around.parameters around.who at) s
  unfolding meaning_by behind
  parameter_behind at s = at_form (c.Parameter at) (Code-F.Parameter at) s (c.rolls-Parameter at)

  pub local_behind : (at : ℕ) (s : State) → behind around (c.Local at) s ≡ found (slice_get (State.locals s) at) s
  unfolding meaning_by behind
  local_behind at s = at_form (c.Local at) (Code-F.Local at) s (c.rolls-Local at)

  pub interpolated_behind : (pieces : List Code) (s : State) → behind around (c.Interpolated pieces) s ≡ interpolated (map (meaning around) pieces) s
  unfolding meaning_by behind
  interpolated_behind pieces s = at_form (c.Interpolated pieces) (Code-F.Interpolated pieces) s (c.rolls-Interpolated pieces)
      ∙ ap (λ (l : List Meaning). interpolated l s) (all_meanings around pieces)

  pub unary_behind : (op : UnaryOp) (a : Code) (s : State) → behind around (c.Unary op a) s ≡ one_operand (meaning around a) (of_value op) s
  unfolding meaning_by behind
  unary_behind op a s = at_form (c.Unary op a) (Code-F.Unary op a) s (c.rolls-Unary op a)

  pub cast_behind : (op : CastOp) (a : Code) (s : State) → behind around (c.Cast op a) s ≡ one_operand (meaning around a) (cast op) s
  unfolding meaning_by behind
  cast_behind op a s = at_form (c.Cast op a) (Code-F.Cast op a) s (c.rolls-Cast op a)

  pub binary_behind : (op : BinaryOp) (a : Code) (b : Code) (s : State) → behind around (c.Binary op a b) s ≡ binary op (meaning around a) (meaning around b) s
  unfolding meaning_by behind
  binary_behind op a b s = at_form (c.Binary op a b) (Code-F.Binary op a b) s (c.rolls-Binary op a b)

  pub conditional_behind : (a : Code) (b : Code) (d : Code) (s : State) → behind around (c.Conditional a b d) s ≡ conditional (meaning around a) (meaning around b) (meaning around d) s
  unfolding meaning_by behind
  conditional_behind a b d s = at_form (c.Conditional a b d) (Code-F.Conditional a b d) s (c.rolls-Conditional a b d)

  pub with_behind : (a : Code) (positions : List ℕ) (values : List Code) (s : State) → behind around (c.With a positions values) s ≡ record_with (meaning around a) positions (map (meaning around) values) s
  unfolding meaning_by behind
  with_behind a positions values s = at_form (c.With a positions values) (Code-F.With a positions values) s (c.rolls-With a positions values)
      ∙ ap (λ (l : List Meaning). record_with (meaning around a) positions l s) (all_meanings around values)

  pub part_behind : (a : Code) (at : ℕ) (s : State) → behind around (c.Part a at) s ≡ one_operand (meaning around a) (part_of at) s
  unfolding meaning_by behind
  part_behind a at s = at_form (c.Part a at) (Code-F.Part a at) s (c.rolls-Part a at)

  pub null_part_behind : (a : Code) (at : ℕ) (s : State) → behind around (c.NullPart a at) s ≡ one_operand (meaning around a) (part_or_null at) s
  unfolding meaning_by behind
  null_part_behind a at s = at_form (c.NullPart a at) (Code-F.NullPart a at) s (c.rolls-NullPart a at)

  pub index_behind : (a : Code) (b : Code) (s : State) → behind around (c.Index a b) s ≡ two_operands (meaning around a) (meaning around b) indexed s
  unfolding meaning_by behind
  index_behind a b s = at_form (c.Index a b) (Code-F.Index a b) s (c.rolls-Index a b)

  pub new_behind : (kind : ℕ) (parts : List Code) (s : State) → behind around (c.New kind parts) s ≡ new_record kind (map (meaning around) parts) s
  unfolding meaning_by behind
  new_behind kind parts s = at_form (c.New kind parts) (Code-F.New kind parts) s (c.rolls-New kind parts)
      ∙ ap (λ (l : List Meaning). new_record kind l s) (all_meanings around parts)

  pub library_behind : (member : LibraryMember) (arguments : List Code) (s : State) → behind around (c.Library member arguments) s ≡ member_call member (map (meaning around) arguments) s
  unfolding meaning_by behind
  library_behind member arguments s = at_form (c.Library member arguments) (Code-F.Library member arguments) s (c.rolls-Library member arguments)
      ∙ ap (λ (l : List Meaning). member_call member l s) (all_meanings around arguments)

  pub call_behind : (number : ℕ) (arguments : List Code) (s : State) → behind around (c.Call number arguments) s ≡ called (running around) around.who number (map (meaning around) arguments) s
  unfolding meaning_by behind
  call_behind number arguments s = at_form (c.Call number arguments) (Code-F.Call number arguments) s (c.rolls-Call number arguments)
      ∙ ap (λ (l : List Meaning). called (running around) around.who number l s) (all_meanings around arguments)

  pub callback_behind : (number : ℕ) (positions : List ℕ) (s : State) → behind around (c.Callback number positions) s ≡ callback around.who number positions s
  unfolding meaning_by behind
  callback_behind number positions s = at_form (c.Callback number positions) (Code-F.Callback number positions) s (c.rolls-Callback number positions)

  pub fill_behind : (a : Code) (b : Code) (s : State) → behind around (c.Fill a b) s ≡ two_operands (meaning around a) (meaning around b) with_capture s
  unfolding meaning_by behind
  fill_behind a b s = at_form (c.Fill a b) (Code-F.Fill a b) s (c.rolls-Fill a b)

  pub invoke_behind : (a : Code) (argument : Option Code) (s : State) → behind around (c.Invoke a argument) s ≡ two_operands (meaning around a) (if_there (option_map (meaning around) argument)) (invoked (running around)) s
  unfolding meaning_by behind
  invoke_behind a None s = at_form (c.Invoke a None) (Code-F.Invoke a None) s (c.rolls-Invoke a None)
  invoke_behind a (Some x) s = at_form (c.Invoke a (Some x)) (Code-F.Invoke a (Some x)) s (c.rolls-Invoke a (Some x))

  pub assign_behind : (target : Variable) (op : AssignOp) (e : Code) (s : State) → behind around (c.Assign target op e) s ≡ assigned around.who target (operator_in op) (meaning around e) s
  unfolding meaning_by behind
  assign_behind target op e s = at_form (c.Assign target op e) (Code-F.Assign target op e) s (c.rolls-Assign target op e)

  pub step_behind : (target : Variable) (op : StepOp) (s : State) → behind around (c.Step target op) s ≡ stepped around.who target op s
  unfolding meaning_by behind
  step_behind target op s = at_form (c.Step target op) (Code-F.Step target op) s (c.rolls-Step target op)

  pub declare_behind : (e : Code) (s : State) → behind around (c.Declare e) s ≡ declared_as (meaning around e) s
  unfolding meaning_by behind
  declare_behind e s = at_form (c.Declare e) (Code-F.Declare e) s (c.rolls-Declare e)

  pub empty_behind : (s : State) → behind around c.Empty s ≡ nothing s
  unfolding meaning_by behind
  empty_behind s = at_form c.Empty Code-F.Empty s c.rolls-Empty

  pub block_behind : (statements : List Code) (s : State) → behind around (c.Block statements) s ≡ block (map (meaning around) statements) s
  unfolding meaning_by behind
  block_behind statements s = at_form (c.Block statements) (Code-F.Block statements) s (c.rolls-Block statements)
      ∙ ap (λ (l : List Meaning). block l s) (all_meanings around statements)

  pub if_behind : (test : Code) (one : Code) (other : Option Code) (s : State) → behind around (c.If test one other) s ≡ branch (meaning around test) (meaning around one) (option_map (meaning around) other) s
  unfolding meaning_by behind
  if_behind test one None s = at_form (c.If test one None) (Code-F.If test one None) s (c.rolls-If test one None)
  if_behind test one (Some x) s = at_form (c.If test one (Some x)) (Code-F.If test one (Some x)) s (c.rolls-If test one (Some x))

  pub while_behind : (test : Code) (body : Code) (s : State) → behind around (c.While test body) s ≡ while_loop (meaning around test) (meaning around body) s
  unfolding meaning_by behind
  while_behind test body s = at_form (c.While test body) (Code-F.While test body) s (c.rolls-While test body)

  pub for_behind : (start : Option Code) (test : Option Code) (step : Option Code) (body : Code) (s : State) → behind around (c.For start test step body) s ≡ for_loop (option_map (meaning around) start) (option_map (meaning around) test) (option_map (meaning around) step) (meaning around body) s
  unfolding meaning_by behind
  for_behind None None None body s = at_form (c.For None None None body) (Code-F.For None None None body) s (c.rolls-For None None None body)
  for_behind None None (Some x2) body s = at_form (c.For None None (Some x2) body) (Code-F.For None None (Some x2) body) s (c.rolls-For None None (Some x2) body)
  for_behind None (Some x1) None body s = at_form (c.For None (Some x1) None body) (Code-F.For None (Some x1) None body) s (c.rolls-For None (Some x1) None body)
  for_behind None (Some x1) (Some x2) body s = at_form (c.For None (Some x1) (Some x2) body) (Code-F.For None (Some x1) (Some x2) body) s (c.rolls-For None (Some x1) (Some x2) body)
  for_behind (Some x0) None None body s = at_form (c.For (Some x0) None None body) (Code-F.For (Some x0) None None body) s (c.rolls-For (Some x0) None None body)
  for_behind (Some x0) None (Some x2) body s = at_form (c.For (Some x0) None (Some x2) body) (Code-F.For (Some x0) None (Some x2) body) s (c.rolls-For (Some x0) None (Some x2) body)
  for_behind (Some x0) (Some x1) None body s = at_form (c.For (Some x0) (Some x1) None body) (Code-F.For (Some x0) (Some x1) None body) s (c.rolls-For (Some x0) (Some x1) None body)
  for_behind (Some x0) (Some x1) (Some x2) body s = at_form (c.For (Some x0) (Some x1) (Some x2) body) (Code-F.For (Some x0) (Some x1) (Some x2) body) s (c.rolls-For (Some x0) (Some x1) (Some x2) body)

  pub for_each_behind : (list : Code) (body : Code) (s : State) → behind around (c.ForEach list body) s ≡ for_each (meaning around list) (meaning around body) s
  unfolding meaning_by behind
  for_each_behind list body s = at_form (c.ForEach list body) (Code-F.ForEach list body) s (c.rolls-ForEach list body)

  pub switch_behind : (value : Code) (sections : List Code) (s : State) → behind around (c.Switch value sections) s ≡ switch (meaning around value) (λ x. option_map (map (meaning around)) (selected x (sections_of sections))) s
  unfolding meaning_by behind
  switch_behind value sections s = at_form (c.Switch value sections) (Code-F.Switch value sections) s (c.rolls-Switch value sections)
      ∙ ap (λ (g : Value → Option (List Meaning)). switch (meaning around value) g s) (fun_ext (same_selected around sections))

  pub break_behind : (s : State) → behind around c.Break s ≡ breaks s
  unfolding meaning_by behind
  break_behind s = at_form c.Break Code-F.Break s c.rolls-Break

  pub continue_behind : (s : State) → behind around c.Continue s ≡ continues s
  unfolding meaning_by behind
  continue_behind s = at_form c.Continue Code-F.Continue s c.rolls-Continue

  pub return_behind : (e : Option Code) (s : State) → behind around (c.Return e) s ≡ returned (option_map (meaning around) e) s
  unfolding meaning_by behind
  return_behind None s = at_form (c.Return None) (Code-F.Return None) s (c.rolls-Return None)
  return_behind (Some x) s = at_form (c.Return (Some x)) (Code-F.Return (Some x)) s (c.rolls-Return (Some x))

  pub perform_behind : (e : Code) (s : State) → behind around (c.Perform e) s ≡ performed (meaning around e) s
  unfolding meaning_by behind
  perform_behind e s = at_form (c.Perform e) (Code-F.Perform e) s (c.rolls-Perform e)
