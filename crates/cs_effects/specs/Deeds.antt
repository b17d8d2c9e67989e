-- Whether a body does something besides computing, wherever in it that stands.
use Rattle.std.specs.Prelude.{ℕ, List, [], ◌∷◌, ◌++◌, codes, map, Bool, true, false, not, ◌&&◌, ◌||◌, Option, Some, None, bytes_eq}
use Rattle.std.specs.List.{list_any}
use Rattle.cs_ast.specs.declared.expression.Body.{Body}
use Rattle.cs_ast.specs.declared.expression.Body.TheOpen.{Body-F, ExprKind-F, StmtKind-F, TextPart-F}
use Rattle.cs_ast.specs.declared.expression.Body.TheFolds.{fold-Body, fold-Expr, fold-ExprKind, fold-TextPart, fold-WithPart, fold-Stmt, fold-StmtKind, fold-Section}
use Rattle.cs_ast.specs.declared.expression.Expr.{Expr}
use Rattle.cs_ast.specs.declared.expression.ExprKind.{ExprKind}
use Rattle.cs_ast.specs.declared.expression.Section.{Section}
use Rattle.cs_ast.specs.declared.expression.Stmt.{Stmt}
use Rattle.cs_ast.specs.declared.expression.StmtKind.{StmtKind}
use Rattle.cs_ast.specs.declared.expression.TextPart.{TextPart}
use Rattle.cs_ast.specs.declared.expression.WithPart.{WithPart}
use Rattle.cs_effects.specs.declared.deed.Deed.{Deed}
use Rattle.cs_effects.specs.declared.deed.Deed.TheVariants.{Changes, Invokes, Runs}

-- whether it is done where these are the names of the locals
abbrev pub Done : Type 0
Done = List (List ℕ) → Bool

-- no local has the name
unfoldable pub is_free : List ℕ → Done
is_free name locals = not (list_any (λ one. bytes_eq one name) locals)

-- done by assigning or stepping a name that no local has
unfoldable pub by_change : Deed → List ℕ → Bool
by_change (Changes fields) name = list_any (λ field. bytes_eq field name) fields
by_change _ name = false

-- done by using such a name
unfoldable pub by_use : Deed → List ℕ → Bool
by_use (Runs method) name = bytes_eq method name
by_use _ name = false

-- done by a call of `InvokeAsync`
unfoldable pub by_invoking : Deed → Bool
by_invoking Invokes = true
by_invoking _ = false

-- an expression: whether it is done, and whether a call of it is one of `InvokeAsync`
pub record Asked : Type 0 where
  pub done : Done
  pub invokes : Bool

-- a statement: whether it is done, and the locals that are declared behind it
pub record Stated : Type 0 where
  pub done : Done
  pub declares : List (List ℕ)

-- where there is something
abbrev pub if_there : {A : Type 0} → (A → Bool) → Option A → Bool
if_there test None = false
if_there test (Some x) = test x

-- statements one after another, each behind the locals of those before it
abbrev pub in_order : List Stated → Done
in_order [] locals = false
in_order (one ∷ others) locals = one.done locals || in_order others (locals ++ one.declares)

-- in a `for`, behind the locals of its start
abbrev pub behind : Option Stated → List (List ℕ) → List (List ℕ)
behind None locals = locals
behind (Some start) locals = locals ++ start.declares

abbrev pub Form : Type 0
Form = ExprKind-F Done Asked Stated Done Asked Done Stated Done

abbrev pub StatementForm : Type 0
StatementForm = StmtKind-F Done Asked Stated Done Asked Done Stated Done

module _ (deed : Deed) where
  -- a form of expression, by its parts: a lambda is made and not run
  unfoldable pub done_in : Form → Done
  done_in (ExprKind-F.Interpolated parts) locals = list_any (λ part. part locals) parts
  done_in (ExprKind-F.Name name) locals = is_free name locals && by_use deed name
  done_in (ExprKind-F.Unary op a) locals = a.done locals
  done_in (ExprKind-F.Cast op a) locals = a.done locals
  done_in (ExprKind-F.Binary op a b) locals = a.done locals || b.done locals
  done_in (ExprKind-F.Conditional test a b) locals = test.done locals || (a.done locals || b.done locals)
  done_in (ExprKind-F.With a parts) locals = a.done locals || list_any (λ part. part locals) parts
  done_in (ExprKind-F.Member a name) locals = a.done locals
  done_in (ExprKind-F.NullMember a name) locals = a.done locals
  done_in (ExprKind-F.Call target arguments) locals = (target.invokes && by_invoking deed) || (target.done locals || list_any (λ a. a.done locals) arguments)
  done_in (ExprKind-F.Index a b) locals = a.done locals || b.done locals
  done_in (ExprKind-F.New name arguments) locals = list_any (λ a. a.done locals) arguments
  done_in (ExprKind-F.Assign op target a) locals = (is_free target.name locals && by_change deed target.name) || a.done locals
  done_in (ExprKind-F.Step op target) locals = is_free target.name locals && by_change deed target.name
  done_in _ locals = false

  unfoldable pub invoked : Form → Bool
  invoked (ExprKind-F.Member a name) = bytes_eq name.name (codes "InvokeAsync")
  invoked _ = false

  unfoldable pub asked : Form → Asked
  asked form = record { done = done_in form; invokes = invoked form }

  unfoldable pub part_done : TextPart-F Done Asked Stated Done Asked Done Stated Done → Done
  part_done (TextPart-F.Literal text) locals = false
  part_done (TextPart-F.Hole a) locals = a.done locals

  -- a form of statement, by its parts
  unfoldable pub done_by : StatementForm → Done
  done_by (StmtKind-F.Local cs_type name value) locals = if_there (λ a. a.done locals) value
  done_by (StmtKind-F.StmtKind::Block body) locals = in_order body locals
  done_by (StmtKind-F.If test holds fails) locals = test.done locals || (holds.done locals || if_there (λ one. one.done locals) fails)
  done_by (StmtKind-F.While test body) locals = test.done locals || body.done locals
  done_by (StmtKind-F.For start test step body) locals =
      if_there (λ one. one.done locals) start
      || (if_there (λ a. a.done (behind start locals)) test || (if_there (λ a. a.done (behind start locals)) step || body.done (behind start locals)))
  done_by (StmtKind-F.ForEach name list body) locals = list.done locals || body.done (locals ++ name.name ∷ [])
  done_by (StmtKind-F.Switch a sections) locals = a.done locals || list_any (λ one. one locals) sections
  done_by (StmtKind-F.Return a) locals = if_there (λ x. x.done locals) a
  done_by (StmtKind-F.Expr a) locals = a.done locals
  done_by (StmtKind-F.Await a) locals = a.done locals
  done_by _ locals = false

  unfoldable pub declared : StatementForm → List (List ℕ)
  declared (StmtKind-F.Local cs_type name value) = name.name ∷ []
  declared _ = []

  unfoldable pub stated : StatementForm → Stated
  stated form = record { done = done_by form; declares = declared form }

  -- a body: an expression, or a block
  unfoldable pub body_done : Body-F Done Asked Stated Done Asked Done Stated Done → Done
  body_done (Body-F.Value a) locals = a.done locals
  body_done (Body-F.Body::Block body) locals = in_order body locals

  unfoldable pub of_body : Body → Done
  of_body =
      fold-Body Done Asked Stated Done Asked Done Stated Done
      body_done asked stated part_done (λ it. it.kind) (λ it. in_order it.body) (λ it. it.kind) (λ it. it.value.done)

  unfoldable pub of_kind : ExprKind → Asked
  of_kind =
      fold-ExprKind Done Asked Stated Done Asked Done Stated Done
      body_done asked stated part_done (λ it. it.kind) (λ it. in_order it.body) (λ it. it.kind) (λ it. it.value.done)

  unfoldable pub of_statement_kind : StmtKind → Stated
  of_statement_kind =
      fold-StmtKind Done Asked Stated Done Asked Done Stated Done
      body_done asked stated part_done (λ it. it.kind) (λ it. in_order it.body) (λ it. it.kind) (λ it. it.value.done)

  unfoldable pub of_part : TextPart → Done
  of_part =
      fold-TextPart Done Asked Stated Done Asked Done Stated Done
      body_done asked stated part_done (λ it. it.kind) (λ it. in_order it.body) (λ it. it.kind) (λ it. it.value.done)

  unfoldable pub of_expr : Expr → Asked
  of_expr =
      fold-Expr Done Asked Stated Done Asked Done Stated Done
      body_done asked stated part_done (λ it. it.kind) (λ it. in_order it.body) (λ it. it.kind) (λ it. it.value.done)

  unfoldable pub of_section : Section → Done
  of_section =
      fold-Section Done Asked Stated Done Asked Done Stated Done
      body_done asked stated part_done (λ it. it.kind) (λ it. in_order it.body) (λ it. it.kind) (λ it. it.value.done)

  unfoldable pub of_statement : Stmt → Stated
  of_statement =
      fold-Stmt Done Asked Stated Done Asked Done Stated Done
      body_done asked stated part_done (λ it. it.kind) (λ it. in_order it.body) (λ it. it.kind) (λ it. it.value.done)

  unfoldable pub of_with : WithPart → Done
  of_with =
      fold-WithPart Done Asked Stated Done Asked Done Stated Done
      body_done asked stated part_done (λ it. it.kind) (λ it. in_order it.body) (λ it. it.kind) (λ it. it.value.done)
