-- What each form of expression comes to, by what its parts come to, where some things are forbidden.
use Rattle.std.proofs.Common.{◌≡◌, ℕ, List, map, refl, sym, ap, ◌∙◌}
use Rattle.std.specs.Prelude.{ℤ, Bool, Option}
use Rattle.text_core.specs.declared.place.Place.{Place}
use Rattle.cs_ast.specs.declared.code.Code.TheVariants as c
use Rattle.cs_ast.specs.declared.cs_type.CsType.TheVariants as ty
use Rattle.cs_ast.specs.declared.cs_type.TypeExpr.{TypeExpr}
use Rattle.cs_ast.specs.declared.expression.Body.{Body}
use Rattle.cs_ast.specs.declared.expression.Body.TheOpen.{ExprKind-F}
use Rattle.cs_ast.specs.declared.expression.Body.TheViews.{roll-ExprKind, out-ExprKind, roll-out-ExprKind, out-roll-ExprKind}
use Rattle.cs_ast.specs.declared.expression.Expr.{Expr}
use Rattle.cs_ast.specs.declared.expression.ExprKind.{ExprKind}
use Rattle.cs_ast.specs.declared.expression.ExprKind.TheVariants as ek
use Rattle.cs_ast.specs.declared.expression.TextPart.{TextPart}
use Rattle.cs_ast.specs.declared.expression.WithPart.{WithPart}
use Rattle.cs_ast.specs.declared.identifier.Ident.{Ident}
use Rattle.cs_ast.specs.declared.operators.AssignOp.{AssignOp}
use Rattle.cs_ast.specs.declared.operators.BinaryOp.{BinaryOp}
use Rattle.cs_ast.specs.declared.operators.CastOp.{CastOp}
use Rattle.cs_ast.specs.declared.operators.StaticType.{StaticType}
use Rattle.cs_ast.specs.declared.operators.StepOp.{StepOp}
use Rattle.cs_ast.specs.declared.operators.UnaryOp.{UnaryOp}
use Rattle.cs_ast.specs.declared.scope.Scope.{Scope}
use Rattle.cs_rules.specs.declared.checked.ExprType.TheVariants.{Null}
use Rattle.cs_rules.specs.Judged.{fine, mismatch, ◌>>=◌}
use Rattle.cs_rules.specs.Types.{checked}
use Rattle.cs_rules.specs.Library.{static_callee, callee_of_value}
use Rattle.cs_rules.specs.Expressions as e
use Rattle.cs_rules.specs.Trees.{value_of_form, callee_of_form}
use Rattle.cs_forbidden.specs.declared.forbidden.Forbidden.{Forbidden}
use Rattle.cs_forbidden.specs.Trees.{uses}
use Rattle.cs_forbidden.specs.Forms.{KindLayer, piece, given, in_kind, value_of_kind, callee_of_kind}

module _ (f : Forbidden) where
  -- as a value
  valued : (kind : ExprKind) (x : KindLayer) (place : Place) (s : Scope) → roll-ExprKind x ≡ kind → value_of_kind f kind place s ≡ value_of_form (in_kind f x) place s
  unfolding value_of_kind
  valued kind x place s is = ap (λ it. value_of_form (in_kind f (out-ExprKind it)) place s) (sym is) ∙ ap (λ it. value_of_form (in_kind f it) place s) (out-roll-ExprKind x)

  -- as what is called
  called : (kind : ExprKind) (x : KindLayer) (place : Place) (s : Scope) → roll-ExprKind x ≡ kind → callee_of_kind f kind place s ≡ callee_of_form (in_kind f x) place s
  unfolding callee_of_kind
  called kind x place s is = ap (λ it. callee_of_form (in_kind f (out-ExprKind it)) place s) (sym is) ∙ ap (λ it. callee_of_form (in_kind f it) place s) (out-roll-ExprKind x)

  pub int_value : (n : ℤ) (place : Place) (s : Scope) → value_of_kind f (ek.Int n) place s ≡ fine (checked place (c.Int n) ty.Int)
  unfolding value_of_form
  int_value n place s = valued (ek.Int n) (ExprKind-F.Int n) place s (ek.rolls-Int n)

  pub bool_value : (b : Bool) (place : Place) (s : Scope) → value_of_kind f (ek.Bool b) place s ≡ fine (checked place (c.Bool b) ty.Bool)
  unfolding value_of_form
  bool_value b place s = valued (ek.Bool b) (ExprKind-F.Bool b) place s (ek.rolls-Bool b)

  pub text_value : (t : List ℕ) (place : Place) (s : Scope) → value_of_kind f (ek.Text t) place s ≡ fine (checked place (c.Text t) ty.Text)
  unfolding value_of_form
  text_value t place s = valued (ek.Text t) (ExprKind-F.Text t) place s (ek.rolls-Text t)

  pub null_value : (place : Place) (s : Scope) → value_of_kind f ek.Null place s ≡ fine (record { place = place; code = c.Null; expr_type = Null })
  unfolding value_of_form
  null_value place s = valued ek.Null ExprKind-F.Null place s ek.rolls-Null

  pub interpolated_value : (parts : List TextPart) (place : Place) (s : Scope) → value_of_kind f (ek.Interpolated parts) place s ≡ e.interpolated (map (piece f) parts) place s
  unfolding value_of_form
  interpolated_value parts place s = valued (ek.Interpolated parts) (ExprKind-F.Interpolated parts) place s (ek.rolls-Interpolated parts)

  pub name_value : (n : List ℕ) (place : Place) (s : Scope) → value_of_kind f (ek.Name n) place s ≡ e.name_read n place s
  unfolding value_of_form
  name_value n place s = valued (ek.Name n) (ExprKind-F.Name n) place s (ek.rolls-Name n)

  pub unary_value : (op : UnaryOp) (a : Expr) (place : Place) (s : Scope) → value_of_kind f (ek.Unary op a) place s ≡ e.unary op (uses f a).value place s
  unfolding value_of_form
  unary_value op a place s = valued (ek.Unary op a) (ExprKind-F.Unary op a) place s (ek.rolls-Unary op a)

  pub cast_value : (op : CastOp) (a : Expr) (place : Place) (s : Scope) → value_of_kind f (ek.Cast op a) place s ≡ e.cast op (uses f a).value place s
  unfolding value_of_form
  cast_value op a place s = valued (ek.Cast op a) (ExprKind-F.Cast op a) place s (ek.rolls-Cast op a)

  pub binary_value : (op : BinaryOp) (a b : Expr) (place : Place) (s : Scope) → value_of_kind f (ek.Binary op a b) place s ≡ e.binary op (uses f a).value (uses f b).value place s
  unfolding value_of_form
  binary_value op a b place s = valued (ek.Binary op a b) (ExprKind-F.Binary op a b) place s (ek.rolls-Binary op a b)

  pub conditional_value : (a b d : Expr) (place : Place) (s : Scope) → value_of_kind f (ek.Conditional a b d) place s ≡ e.conditional (uses f a).value (uses f b).value (uses f d).value place s
  unfolding value_of_form
  conditional_value a b d place s = valued (ek.Conditional a b d) (ExprKind-F.Conditional a b d) place s (ek.rolls-Conditional a b d)

  pub with_value : (a : Expr) (parts : List WithPart) (place : Place) (s : Scope) → value_of_kind f (ek.With a parts) place s ≡ e.with_of (uses f a).value (map (given f) parts) place s
  unfolding value_of_form
  with_value a parts place s = valued (ek.With a parts) (ExprKind-F.With a parts) place s (ek.rolls-With a parts)

  pub member_value : (a : Expr) (n : Ident) (place : Place) (s : Scope) → value_of_kind f (ek.Member a n) place s ≡ e.member (uses f a).value n place s
  unfolding value_of_form
  member_value a n place s = valued (ek.Member a n) (ExprKind-F.Member a n) place s (ek.rolls-Member a n)

  pub null_member_value : (a : Expr) (n : Ident) (place : Place) (s : Scope) → value_of_kind f (ek.NullMember a n) place s ≡ e.member_or_null (uses f a).value n place s
  unfolding value_of_form
  null_member_value a n place s = valued (ek.NullMember a n) (ExprKind-F.NullMember a n) place s (ek.rolls-NullMember a n)

  pub call_value : (a : Expr) (xs : List Expr) (place : Place) (s : Scope) → value_of_kind f (ek.Call a xs) place s ≡ e.call (uses f a).callee (map (λ x. x.value) (map (uses f) xs)) place s
  unfolding value_of_form
  call_value a xs place s = valued (ek.Call a xs) (ExprKind-F.Call a xs) place s (ek.rolls-Call a xs)

  pub index_value : (a b : Expr) (place : Place) (s : Scope) → value_of_kind f (ek.Index a b) place s ≡ e.index (uses f a).value (uses f b).value place s
  unfolding value_of_form
  index_value a b place s = valued (ek.Index a b) (ExprKind-F.Index a b) place s (ek.rolls-Index a b)

  pub new_value : (n : Ident) (xs : List Expr) (place : Place) (s : Scope) → value_of_kind f (ek.New n xs) place s ≡ e.new n (map (λ x. x.value) (map (uses f) xs)) place s
  unfolding value_of_form
  new_value n xs place s = valued (ek.New n xs) (ExprKind-F.New n xs) place s (ek.rolls-New n xs)

  pub empty_list_value : (t : TypeExpr) (place : Place) (s : Scope) → value_of_kind f (ek.EmptyList t) place s ≡ e.empty_list t place s
  unfolding value_of_form
  empty_list_value t place s = valued (ek.EmptyList t) (ExprKind-F.EmptyList t) place s (ek.rolls-EmptyList t)

  pub static_value : (t : StaticType) (n : Ident) (place : Place) (s : Scope) → value_of_kind f (ek.Static t n) place s ≡ e.static_member t n place s
  unfolding value_of_form
  static_value t n place s = valued (ek.Static t n) (ExprKind-F.Static t n) place s (ek.rolls-Static t n)

  pub assign_value : (op : AssignOp) (n : Ident) (a : Expr) (place : Place) (s : Scope) → value_of_kind f (ek.Assign op n a) place s ≡ e.assign op n (uses f a).value place s
  unfolding value_of_form
  assign_value op n a place s = valued (ek.Assign op n a) (ExprKind-F.Assign op n a) place s (ek.rolls-Assign op n a)

  pub step_value : (op : StepOp) (n : Ident) (place : Place) (s : Scope) → value_of_kind f (ek.Step op n) place s ≡ e.step op n place s
  unfolding value_of_form
  step_value op n place s = valued (ek.Step op n) (ExprKind-F.Step op n) place s (ek.rolls-Step op n)

  pub lambda_value : (n : Option Ident) (b : Body) (place : Place) (s : Scope) → value_of_kind f (ek.Lambda n b) place s ≡ mismatch place
  unfolding value_of_form
  lambda_value n b place s = valued (ek.Lambda n b) (ExprKind-F.Lambda n b) place s (ek.rolls-Lambda n b)

  pub name_called : (n : List ℕ) (place : Place) (s : Scope) → callee_of_kind f (ek.Name n) place s ≡ e.name_called n place s
  unfolding callee_of_form
  name_called n place s = called (ek.Name n) (ExprKind-F.Name n) place s (ek.rolls-Name n)

  pub member_called : (a : Expr) (n : Ident) (place : Place) (s : Scope) → callee_of_kind f (ek.Member a n) place s ≡ e.member_called (uses f a).value n place s
  unfolding callee_of_form
  member_called a n place s = called (ek.Member a n) (ExprKind-F.Member a n) place s (ek.rolls-Member a n)

  pub static_called : (t : StaticType) (n : Ident) (place : Place) (s : Scope) → callee_of_kind f (ek.Static t n) place s ≡ static_callee place t n
  unfolding callee_of_form
  static_called t n place s = called (ek.Static t n) (ExprKind-F.Static t n) place s (ek.rolls-Static t n)

  other_form : (x : KindLayer) (place : Place) (s : Scope)
      → ((n : List ℕ) → roll-ExprKind x ≡ ek.Name n → ⊥)
      → ((a : Expr) (n : Ident) → roll-ExprKind x ≡ ek.Member a n → ⊥)
      → ((t : StaticType) (n : Ident) → roll-ExprKind x ≡ ek.Static t n → ⊥)
      → callee_of_form (in_kind f x) place s ≡ value_of_form (in_kind f x) place s >>= callee_of_value
  unfolding callee_of_form
  other_form (ExprKind-F.Name n) place s name member static = absurd (name n (ek.rolls-Name n))
  other_form (ExprKind-F.Member a n) place s name member static = absurd (member a n (ek.rolls-Member a n))
  other_form (ExprKind-F.Static t n) place s name member static = absurd (static t n (ek.rolls-Static t n))
  other_form _ place s name member static = refl

  -- what is called is a value, but for names, members and `int.N`, `string.N`
  pub other_callee : (kind : ExprKind) (place : Place) (s : Scope)
      → ((n : List ℕ) → kind ≡ ek.Name n → ⊥)
      → ((a : Expr) (n : Ident) → kind ≡ ek.Member a n → ⊥)
      → ((t : StaticType) (n : Ident) → kind ≡ ek.Static t n → ⊥)
      → callee_of_kind f kind place s ≡ value_of_kind f kind place s >>= callee_of_value
  other_callee kind place s name member static =
      let is : roll-ExprKind (out-ExprKind kind) ≡ kind = roll-out-ExprKind kind in
      called kind (out-ExprKind kind) place s is
      ∙ other_form (out-ExprKind kind) place s (λ n h. name n (sym is ∙ h)) (λ a n h. member a n (sym is ∙ h)) (λ t n h. static t n (sym is ∙ h))
      ∙ ap (λ j. j >>= callee_of_value) (sym (valued kind (out-ExprKind kind) place s is))
