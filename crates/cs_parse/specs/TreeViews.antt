-- What a tree is at its root.
use Rattle.std.specs.Prelude.{codes, Bool, true, false, List, [], ◌∷◌}
use Rattle.std.specs.Str.{bytes_eq}
use Rattle.cs_ast.specs.declared.expression.Expr.{Expr}
use Rattle.cs_ast.specs.declared.expression.ExprKind.{ExprKind-F, out-ExprKind}
use Rattle.cs_ast.specs.declared.expression.Stmt.{Stmt}
use Rattle.cs_ast.specs.declared.expression.StmtKind.{StmtKind-F, out-StmtKind}

-- a call
abbrev pub is_call : Expr → Bool
is_call a = elim (out-ExprKind a.kind) [ ExprKind-F.Call f bs ↦ true | _ ↦ false ]

-- the member `InvokeAsync`
abbrev pub is_invoke_member : Expr → Bool
is_invoke_member a = elim (out-ExprKind a.kind) [ ExprKind-F.Member owner n ↦ bytes_eq n.name (codes "InvokeAsync") | _ ↦ false ]

-- a call of it
abbrev pub is_invoke : Expr → Bool
is_invoke a = elim (out-ExprKind a.kind) [ ExprKind-F.Call f bs ↦ is_invoke_member f | _ ↦ false ]

-- a `break` or a `return`
abbrev pub leaves_by : Stmt → Bool
leaves_by a = elim (out-StmtKind a.kind) [ StmtKind-F.Break ↦ true | StmtKind-F.Return value ↦ true | _ ↦ false ]

-- the last of the statements is one
abbrev pub leaves : List Stmt → Bool
leaves [] = false
leaves (a ∷ []) = leaves_by a
leaves (a ∷ b ∷ others) = leaves (b ∷ others)
