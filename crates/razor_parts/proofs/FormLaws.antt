-- Expressions at their roots.
use Rattle.std.proofs.Common.{◌≡◌, ℕ, List, sym, ap, ◌∙◌}
use Rattle.std.specs.Prelude.{ℤ, Bool, Option}
use Rattle.cs_ast.specs.declared.cs_type.TypeExpr.{TypeExpr}
use Rattle.cs_ast.specs.declared.expression.Body.{Body}
use Rattle.cs_ast.specs.declared.expression.Body.TheOpen.{ExprKind-F}
use Rattle.cs_ast.specs.declared.expression.Body.TheViews.{roll-ExprKind, out-ExprKind, out-roll-ExprKind}
use Rattle.cs_ast.specs.declared.expression.Expr.{Expr}
use Rattle.cs_ast.specs.declared.expression.ExprKind.{ExprKind}
use Rattle.cs_ast.specs.declared.expression.ExprKind.TheVariants as ek
use Rattle.cs_ast.specs.declared.expression.Section.{Section}
use Rattle.cs_ast.specs.declared.expression.Stmt.{Stmt}
use Rattle.cs_ast.specs.declared.expression.StmtKind.{StmtKind}
use Rattle.cs_ast.specs.declared.expression.TextPart.{TextPart}
use Rattle.cs_ast.specs.declared.expression.WithPart.{WithPart}
use Rattle.cs_ast.specs.declared.identifier.Ident.{Ident}
use Rattle.cs_ast.specs.declared.operators.AssignOp.{AssignOp}
use Rattle.cs_ast.specs.declared.operators.BinaryOp.{BinaryOp}
use Rattle.cs_ast.specs.declared.operators.CastOp.{CastOp}
use Rattle.cs_ast.specs.declared.operators.StaticType.{StaticType}
use Rattle.cs_ast.specs.declared.operators.StepOp.{StepOp}
use Rattle.cs_ast.specs.declared.operators.UnaryOp.{UnaryOp}

abbrev Layer : Type 0
Layer = ExprKind-F Body ExprKind StmtKind TextPart Expr Section Stmt WithPart

at_root : (kind : ExprKind) (x : Layer) → roll-ExprKind x ≡ kind → out-ExprKind kind ≡ x
at_root kind x is = ap out-ExprKind (sym is) ∙ out-roll-ExprKind x

pub out_int : (n : ℤ) → out-ExprKind (ek.Int n) ≡ ExprKind-F.Int n
out_int n = at_root (ek.Int n) (ExprKind-F.Int n) (ek.rolls-Int n)

pub out_bool : (b : Bool) → out-ExprKind (ek.Bool b) ≡ ExprKind-F.Bool b
out_bool b = at_root (ek.Bool b) (ExprKind-F.Bool b) (ek.rolls-Bool b)

pub out_text : (t : List ℕ) → out-ExprKind (ek.Text t) ≡ ExprKind-F.Text t
out_text t = at_root (ek.Text t) (ExprKind-F.Text t) (ek.rolls-Text t)

pub out_null : out-ExprKind ek.Null ≡ ExprKind-F.Null
out_null = at_root ek.Null ExprKind-F.Null ek.rolls-Null

pub out_interpolated : (parts : List TextPart) → out-ExprKind (ek.Interpolated parts) ≡ ExprKind-F.Interpolated parts
out_interpolated parts = at_root (ek.Interpolated parts) (ExprKind-F.Interpolated parts) (ek.rolls-Interpolated parts)

pub out_name : (n : List ℕ) → out-ExprKind (ek.Name n) ≡ ExprKind-F.Name n
out_name n = at_root (ek.Name n) (ExprKind-F.Name n) (ek.rolls-Name n)

pub out_unary : (op : UnaryOp) (a : Expr) → out-ExprKind (ek.Unary op a) ≡ ExprKind-F.Unary op a
out_unary op a = at_root (ek.Unary op a) (ExprKind-F.Unary op a) (ek.rolls-Unary op a)

pub out_cast : (op : CastOp) (a : Expr) → out-ExprKind (ek.Cast op a) ≡ ExprKind-F.Cast op a
out_cast op a = at_root (ek.Cast op a) (ExprKind-F.Cast op a) (ek.rolls-Cast op a)

pub out_binary : (op : BinaryOp) (a b : Expr) → out-ExprKind (ek.Binary op a b) ≡ ExprKind-F.Binary op a b
out_binary op a b = at_root (ek.Binary op a b) (ExprKind-F.Binary op a b) (ek.rolls-Binary op a b)

pub out_conditional : (a b d : Expr) → out-ExprKind (ek.Conditional a b d) ≡ ExprKind-F.Conditional a b d
out_conditional a b d = at_root (ek.Conditional a b d) (ExprKind-F.Conditional a b d) (ek.rolls-Conditional a b d)

pub out_with : (a : Expr) (parts : List WithPart) → out-ExprKind (ek.With a parts) ≡ ExprKind-F.With a parts
out_with a parts = at_root (ek.With a parts) (ExprKind-F.With a parts) (ek.rolls-With a parts)

pub out_member : (a : Expr) (n : Ident) → out-ExprKind (ek.Member a n) ≡ ExprKind-F.Member a n
out_member a n = at_root (ek.Member a n) (ExprKind-F.Member a n) (ek.rolls-Member a n)

pub out_null_member : (a : Expr) (n : Ident) → out-ExprKind (ek.NullMember a n) ≡ ExprKind-F.NullMember a n
out_null_member a n = at_root (ek.NullMember a n) (ExprKind-F.NullMember a n) (ek.rolls-NullMember a n)

pub out_call : (a : Expr) (xs : List Expr) → out-ExprKind (ek.Call a xs) ≡ ExprKind-F.Call a xs
out_call a xs = at_root (ek.Call a xs) (ExprKind-F.Call a xs) (ek.rolls-Call a xs)

pub out_index : (a b : Expr) → out-ExprKind (ek.Index a b) ≡ ExprKind-F.Index a b
out_index a b = at_root (ek.Index a b) (ExprKind-F.Index a b) (ek.rolls-Index a b)

pub out_new : (n : Ident) (xs : List Expr) → out-ExprKind (ek.New n xs) ≡ ExprKind-F.New n xs
out_new n xs = at_root (ek.New n xs) (ExprKind-F.New n xs) (ek.rolls-New n xs)

pub out_empty_list : (t : TypeExpr) → out-ExprKind (ek.EmptyList t) ≡ ExprKind-F.EmptyList t
out_empty_list t = at_root (ek.EmptyList t) (ExprKind-F.EmptyList t) (ek.rolls-EmptyList t)

pub out_static : (t : StaticType) (n : Ident) → out-ExprKind (ek.Static t n) ≡ ExprKind-F.Static t n
out_static t n = at_root (ek.Static t n) (ExprKind-F.Static t n) (ek.rolls-Static t n)

pub out_assign : (op : AssignOp) (n : Ident) (a : Expr) → out-ExprKind (ek.Assign op n a) ≡ ExprKind-F.Assign op n a
out_assign op n a = at_root (ek.Assign op n a) (ExprKind-F.Assign op n a) (ek.rolls-Assign op n a)

pub out_step : (op : StepOp) (n : Ident) → out-ExprKind (ek.Step op n) ≡ ExprKind-F.Step op n
out_step op n = at_root (ek.Step op n) (ExprKind-F.Step op n) (ek.rolls-Step op n)

pub out_lambda : (n : Option Ident) (b : Body) → out-ExprKind (ek.Lambda n b) ≡ ExprKind-F.Lambda n b
out_lambda n b = at_root (ek.Lambda n b) (ExprKind-F.Lambda n b) (ek.rolls-Lambda n b)
