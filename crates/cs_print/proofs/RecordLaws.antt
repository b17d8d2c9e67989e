-- The type `record`, and bodies of methods, by their forms.
use Rattle.std.proofs.Common.{◌≡◌, ℕ, List, ◌∷◌, map, false, ap}
use Rattle.std.specs.Prelude.{Bool, Option, bytes_eq, codes}
use Rattle.cs_ast.specs.declared.cs_type.TypeExpr.{TypeExpr}
use Rattle.cs_ast.specs.declared.cs_type.TypeKind.{TypeKind}
use Rattle.cs_ast.specs.declared.cs_type.TypeKind.TheOpen.{TypeKind-F}
use Rattle.cs_ast.specs.declared.cs_type.TypeKind.TheVariants as ty
use Rattle.cs_ast.specs.declared.expression.Body.{Body}
use Rattle.cs_ast.specs.declared.expression.Body.TheOpen.{Body-F}
use Rattle.cs_ast.specs.declared.expression.Body.TheVariants as by
use Rattle.cs_ast.specs.declared.expression.Expr.{Expr}
use Rattle.cs_ast.specs.declared.expression.ExprKind.{ExprKind}
use Rattle.cs_ast.specs.declared.expression.Section.{Section}
use Rattle.cs_ast.specs.declared.expression.Stmt.{Stmt}
use Rattle.cs_ast.specs.declared.expression.StmtKind.{StmtKind}
use Rattle.cs_ast.specs.declared.expression.TextPart.{TextPart}
use Rattle.cs_ast.specs.declared.expression.WithPart.{WithPart}
use Rattle.cs_token.specs.declared.token.TokenKind.TheVariants as k
use Rattle.cs_token.specs.declared.token.Sign.TheVariants as s
use Rattle.cs_print.specs.Printed.{Kinds, whole, ended, in_braces, joined, printed, statement_kinds}
use Rattle.cs_print.specs.PrintedMembers.{is_record, method_body}

look : TypeKind-F TypeKind TypeExpr → Bool
look x = elim x [ TypeKind-F.Named name ↦ bytes_eq name (codes "record") | _ ↦ false ]

pub is_record_named : (x : List ℕ) → is_record (ty.Named x) ≡ bytes_eq x (codes "record")
unfolding look
is_record_named x = ap look (ty.outs-Named x)

pub is_record_int : is_record (ty.Int) ≡ false
unfolding look
is_record_int = ap look (ty.outs-Int)

pub is_record_bool : is_record (ty.Bool) ≡ false
unfolding look
is_record_bool = ap look (ty.outs-Bool)

pub is_record_text : is_record (ty.Text) ≡ false
unfolding look
is_record_text = ap look (ty.outs-Text)

pub is_record_list : (a : TypeExpr) → is_record (ty.List a) ≡ false
unfolding look
is_record_list a = ap look (ty.outs-List a)

pub is_record_callback : (a : Option TypeExpr) → is_record (ty.Callback a) ≡ false
unfolding look
is_record_callback a = ap look (ty.outs-Callback a)

pub is_record_fragment : (a : Option TypeExpr) → is_record (ty.Fragment a) ≡ false
unfolding look
is_record_fragment a = ap look (ty.outs-Fragment a)

pub is_record_change : is_record (ty.Change) ≡ false
unfolding look
is_record_change = ap look (ty.outs-Change)

pub is_record_args : is_record (ty.Args) ≡ false
unfolding look
is_record_args = ap look (ty.outs-Args)

body_look : Body-F Body ExprKind StmtKind TextPart Expr Section Stmt WithPart → Kinds
body_look x = elim x [
  | Body-F.Value a ↦ k.Sign s.Arrow ∷ ended (whole (printed a))
  | Body-F.Body::Block body ↦ in_braces (joined (map statement_kinds body))
]

pub method_value : (a : Expr) → method_body (by.Value a) ≡ k.Sign s.Arrow ∷ ended (whole (printed a))
unfolding body_look
method_value a = ap body_look (by.outs-Value a)

pub method_block : (body : List Stmt) → method_body (by.Block body) ≡ in_braces (joined (map statement_kinds body))
unfolding body_look
method_block body = ap body_look (by.outs-Block body)
