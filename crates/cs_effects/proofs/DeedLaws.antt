-- The equations of what bodies do.
use Rattle.std.proofs.Common.{◌≡◌, ℕ, List, [], ◌∷◌, ◌++◌, map, refl, sym, ap, ◌∙◌}
use Rattle.std.specs.Prelude.{ℤ, Bool, true, false, ◌&&◌, ◌||◌, codes, Option, Some, None, option_map, bytes_eq}
use Rattle.std.specs.List.{list_any}
use Rattle.std.proofs.lemmas.List.{append-nil}
use Rattle.cs_ast.specs.declared.cs_type.TypeExpr.{TypeExpr}
use Rattle.cs_ast.specs.declared.expression.Body.{Body}
use Rattle.cs_ast.specs.declared.expression.Body.TheVariants as bo
use Rattle.cs_ast.specs.declared.expression.Body.TheOpen.{Body-F, ExprKind-F, StmtKind-F, TextPart-F}
use Rattle.cs_ast.specs.declared.expression.Body.TheFolds.{fold_out-Expr, fold_out-Stmt, fold_out-Section, fold_out-WithPart, fold-roll-Body, fold-roll-ExprKind, fold-roll-StmtKind, fold-roll-TextPart, map-ExprKind, map-StmtKind}
use Rattle.cs_ast.specs.declared.expression.Body.TheViews.{roll-ExprKind, roll-StmtKind}
use Rattle.cs_ast.specs.declared.expression.Expr.{Expr}
use Rattle.cs_ast.specs.declared.expression.ExprKind.{ExprKind}
use Rattle.cs_ast.specs.declared.expression.ExprKind.TheVariants as ek
use Rattle.cs_ast.specs.declared.expression.Section.{Section, out-Section}
use Rattle.cs_ast.specs.declared.expression.Stmt.{Stmt}
use Rattle.cs_ast.specs.declared.expression.StmtKind.{StmtKind}
use Rattle.cs_ast.specs.declared.expression.StmtKind.TheVariants as sk
use Rattle.cs_ast.specs.declared.expression.TextPart.{TextPart}
use Rattle.cs_ast.specs.declared.expression.TextPart.TheVariants as tp
use Rattle.cs_ast.specs.declared.expression.WithPart.{WithPart}
use Rattle.cs_ast.specs.declared.identifier.Ident.{Ident}
use Rattle.cs_ast.specs.declared.operators.AssignOp.{AssignOp}
use Rattle.cs_ast.specs.declared.operators.BinaryOp.{BinaryOp}
use Rattle.cs_ast.specs.declared.operators.CastOp.{CastOp}
use Rattle.cs_ast.specs.declared.operators.StaticType.{StaticType}
use Rattle.cs_ast.specs.declared.operators.StepOp.{StepOp}
use Rattle.cs_ast.specs.declared.operators.UnaryOp.{UnaryOp}
use Rattle.cs_effects.specs.declared.deed.Deed.{Deed}
use Rattle.cs_effects.specs.Deeds.{Done, Asked, Stated, if_there, in_order, behind, is_free, by_change, by_use, by_invoking, done_in, invoked, asked, part_done, done_by, declared, stated, body_done, of_body, of_kind, of_statement_kind, of_part, of_expr, of_section, of_statement, of_with}

module _ (deed : Deed) where
  pub expr_law : (a : Expr) → of_expr deed a ≡ of_kind deed a.kind
  unfolding of_body of_kind of_statement_kind of_part of_expr of_section of_statement of_with
  expr_law a = fold_out-Expr Done Asked Stated Done Asked Done Stated Done (body_done deed) (asked deed) (stated deed) (part_done deed) (λ it. it.kind) (λ it. in_order it.body) (λ it. it.kind) (λ it. it.value.done) a

  pub statement_law : (a : Stmt) → of_statement deed a ≡ of_statement_kind deed a.kind
  unfolding of_body of_kind of_statement_kind of_part of_expr of_section of_statement of_with
  statement_law a = fold_out-Stmt Done Asked Stated Done Asked Done Stated Done (body_done deed) (asked deed) (stated deed) (part_done deed) (λ it. it.kind) (λ it. in_order it.body) (λ it. it.kind) (λ it. it.value.done) a

  pub with_law : (a : WithPart) (locals : List (List ℕ)) → of_with deed a locals ≡ (of_expr deed a.value).done locals
  unfolding of_body of_kind of_statement_kind of_part of_expr of_section of_statement of_with
  with_law a locals = ap (λ (f : Done). f locals) (fold_out-WithPart Done Asked Stated Done Asked Done Stated Done (body_done deed) (asked deed) (stated deed) (part_done deed) (λ it. it.kind) (λ it. in_order it.body) (λ it. it.kind) (λ it. it.value.done) a)

  pub section_law : (a : Section) (locals : List (List ℕ)) → of_section deed a locals ≡ in_order (map (of_statement deed) (out-Section a).body) locals
  unfolding of_body of_kind of_statement_kind of_part of_expr of_section of_statement of_with
  section_law a locals = ap (λ (f : Done). f locals) (fold_out-Section Done Asked Stated Done Asked Done Stated Done (body_done deed) (asked deed) (stated deed) (part_done deed) (λ it. it.kind) (λ it. in_order it.body) (λ it. it.kind) (λ it. it.value.done) a)

  abbrev KindLayer : Type 0
  KindLayer = ExprKind-F Body ExprKind StmtKind TextPart Expr Section Stmt WithPart

  abbrev in_kind : KindLayer → ExprKind-F Done Asked Stated Done Asked Done Stated Done
  in_kind = map-ExprKind Body ExprKind StmtKind TextPart Expr Section Stmt WithPart Done Asked Stated Done Asked Done Stated Done
      (of_body deed) (of_kind deed) (of_statement_kind deed) (of_part deed) (of_expr deed) (of_section deed) (of_statement deed) (of_with deed)

  at_kind : (kind : ExprKind) (x : KindLayer) → roll-ExprKind x ≡ kind → of_kind deed kind ≡ asked deed (in_kind x)
  unfolding of_body of_kind of_statement_kind of_part of_expr of_section of_statement of_with
  at_kind kind x is = ap (of_kind deed) (sym is) ∙ fold-roll-ExprKind Done Asked Stated Done Asked Done Stated Done (body_done deed) (asked deed) (stated deed) (part_done deed) (λ it. it.kind) (λ it. in_order it.body) (λ it. it.kind) (λ it. it.value.done) x

  doing : (kind : ExprKind) (x : KindLayer) (locals : List (List ℕ)) → roll-ExprKind x ≡ kind → (of_kind deed kind).done locals ≡ done_in deed (in_kind x) locals
  unfolding asked
  doing kind x locals is = ap (λ u. u.done locals) (at_kind kind x is)

  calling : (kind : ExprKind) (x : KindLayer) → roll-ExprKind x ≡ kind → (of_kind deed kind).invokes ≡ invoked deed (in_kind x)
  unfolding asked
  calling kind x is = ap (λ u. u.invokes) (at_kind kind x is)

  pub int_done : (n : ℤ) (locals : List (List ℕ)) → (of_kind deed (ek.Int n)).done locals ≡ false
  unfolding done_in
  int_done n locals = doing (ek.Int n) (ExprKind-F.Int n) locals (ek.rolls-Int n)

  pub bool_done : (b : Bool) (locals : List (List ℕ)) → (of_kind deed (ek.Bool b)).done locals ≡ false
  unfolding done_in
  bool_done b locals = doing (ek.Bool b) (ExprKind-F.Bool b) locals (ek.rolls-Bool b)

  pub text_done : (t : List ℕ) (locals : List (List ℕ)) → (of_kind deed (ek.Text t)).done locals ≡ false
  unfolding done_in
  text_done t locals = doing (ek.Text t) (ExprKind-F.Text t) locals (ek.rolls-Text t)

  pub null_done : (locals : List (List ℕ)) → (of_kind deed ek.Null).done locals ≡ false
  unfolding done_in
  null_done locals = doing ek.Null ExprKind-F.Null locals ek.rolls-Null

  pub interpolated_done : (parts : List TextPart) (locals : List (List ℕ)) → (of_kind deed (ek.Interpolated parts)).done locals ≡ list_any (λ part. part locals) (map (of_part deed) parts)
  unfolding done_in
  interpolated_done parts locals = doing (ek.Interpolated parts) (ExprKind-F.Interpolated parts) locals (ek.rolls-Interpolated parts)

  pub name_done : (n : List ℕ) (locals : List (List ℕ)) → (of_kind deed (ek.Name n)).done locals ≡ is_free n locals && by_use deed n
  unfolding done_in
  name_done n locals = doing (ek.Name n) (ExprKind-F.Name n) locals (ek.rolls-Name n)

  pub unary_done : (op : UnaryOp) (a : Expr) (locals : List (List ℕ)) → (of_kind deed (ek.Unary op a)).done locals ≡ (of_expr deed a).done locals
  unfolding done_in
  unary_done op a locals = doing (ek.Unary op a) (ExprKind-F.Unary op a) locals (ek.rolls-Unary op a)

  pub cast_done : (op : CastOp) (a : Expr) (locals : List (List ℕ)) → (of_kind deed (ek.Cast op a)).done locals ≡ (of_expr deed a).done locals
  unfolding done_in
  cast_done op a locals = doing (ek.Cast op a) (ExprKind-F.Cast op a) locals (ek.rolls-Cast op a)

  pub binary_done : (op : BinaryOp) (a b : Expr) (locals : List (List ℕ)) → (of_kind deed (ek.Binary op a b)).done locals ≡ (of_expr deed a).done locals || (of_expr deed b).done locals
  unfolding done_in
  binary_done op a b locals = doing (ek.Binary op a b) (ExprKind-F.Binary op a b) locals (ek.rolls-Binary op a b)

  pub conditional_done : (a b d : Expr) (locals : List (List ℕ)) → (of_kind deed (ek.Conditional a b d)).done locals ≡ (of_expr deed a).done locals || ((of_expr deed b).done locals || (of_expr deed d).done locals)
  unfolding done_in
  conditional_done a b d locals = doing (ek.Conditional a b d) (ExprKind-F.Conditional a b d) locals (ek.rolls-Conditional a b d)

  pub with_done : (a : Expr) (parts : List WithPart) (locals : List (List ℕ)) → (of_kind deed (ek.With a parts)).done locals ≡ (of_expr deed a).done locals || list_any (λ part. part locals) (map (of_with deed) parts)
  unfolding done_in
  with_done a parts locals = doing (ek.With a parts) (ExprKind-F.With a parts) locals (ek.rolls-With a parts)

  pub member_done : (a : Expr) (n : Ident) (locals : List (List ℕ)) → (of_kind deed (ek.Member a n)).done locals ≡ (of_expr deed a).done locals
  unfolding done_in
  member_done a n locals = doing (ek.Member a n) (ExprKind-F.Member a n) locals (ek.rolls-Member a n)

  pub null_member_done : (a : Expr) (n : Ident) (locals : List (List ℕ)) → (of_kind deed (ek.NullMember a n)).done locals ≡ (of_expr deed a).done locals
  unfolding done_in
  null_member_done a n locals = doing (ek.NullMember a n) (ExprKind-F.NullMember a n) locals (ek.rolls-NullMember a n)

  pub call_done : (a : Expr) (xs : List Expr) (locals : List (List ℕ)) → (of_kind deed (ek.Call a xs)).done locals ≡ ((of_expr deed a).invokes && by_invoking deed) || ((of_expr deed a).done locals || list_any (λ x. x.done locals) (map (of_expr deed) xs))
  unfolding done_in
  call_done a xs locals = doing (ek.Call a xs) (ExprKind-F.Call a xs) locals (ek.rolls-Call a xs)

  pub index_done : (a b : Expr) (locals : List (List ℕ)) → (of_kind deed (ek.Index a b)).done locals ≡ (of_expr deed a).done locals || (of_expr deed b).done locals
  unfolding done_in
  index_done a b locals = doing (ek.Index a b) (ExprKind-F.Index a b) locals (ek.rolls-Index a b)

  pub new_done : (n : Ident) (xs : List Expr) (locals : List (List ℕ)) → (of_kind deed (ek.New n xs)).done locals ≡ list_any (λ x. x.done locals) (map (of_expr deed) xs)
  unfolding done_in
  new_done n xs locals = doing (ek.New n xs) (ExprKind-F.New n xs) locals (ek.rolls-New n xs)

  pub empty_list_done : (t : TypeExpr) (locals : List (List ℕ)) → (of_kind deed (ek.EmptyList t)).done locals ≡ false
  unfolding done_in
  empty_list_done t locals = doing (ek.EmptyList t) (ExprKind-F.EmptyList t) locals (ek.rolls-EmptyList t)

  pub static_done : (t : StaticType) (n : Ident) (locals : List (List ℕ)) → (of_kind deed (ek.Static t n)).done locals ≡ false
  unfolding done_in
  static_done t n locals = doing (ek.Static t n) (ExprKind-F.Static t n) locals (ek.rolls-Static t n)

  pub assign_done : (op : AssignOp) (n : Ident) (a : Expr) (locals : List (List ℕ)) → (of_kind deed (ek.Assign op n a)).done locals ≡ (is_free n.name locals && by_change deed n.name) || (of_expr deed a).done locals
  unfolding done_in
  assign_done op n a locals = doing (ek.Assign op n a) (ExprKind-F.Assign op n a) locals (ek.rolls-Assign op n a)

  pub step_done : (op : StepOp) (n : Ident) (locals : List (List ℕ)) → (of_kind deed (ek.Step op n)).done locals ≡ is_free n.name locals && by_change deed n.name
  unfolding done_in
  step_done op n locals = doing (ek.Step op n) (ExprKind-F.Step op n) locals (ek.rolls-Step op n)

  pub lambda_done : (n : Option Ident) (b : Body) (locals : List (List ℕ)) → (of_kind deed (ek.Lambda n b)).done locals ≡ false
  unfolding done_in
  lambda_done n b locals = doing (ek.Lambda n b) (ExprKind-F.Lambda n b) locals (ek.rolls-Lambda n b)

  pub int_invokes : (n : ℤ) → (of_kind deed (ek.Int n)).invokes ≡ false
  unfolding invoked
  int_invokes n = calling (ek.Int n) (ExprKind-F.Int n) (ek.rolls-Int n)

  pub bool_invokes : (b : Bool) → (of_kind deed (ek.Bool b)).invokes ≡ false
  unfolding invoked
  bool_invokes b = calling (ek.Bool b) (ExprKind-F.Bool b) (ek.rolls-Bool b)

  pub text_invokes : (t : List ℕ) → (of_kind deed (ek.Text t)).invokes ≡ false
  unfolding invoked
  text_invokes t = calling (ek.Text t) (ExprKind-F.Text t) (ek.rolls-Text t)

  pub null_invokes : (of_kind deed ek.Null).invokes ≡ false
  unfolding invoked
  null_invokes = calling ek.Null ExprKind-F.Null ek.rolls-Null

  pub interpolated_invokes : (parts : List TextPart) → (of_kind deed (ek.Interpolated parts)).invokes ≡ false
  unfolding invoked
  interpolated_invokes parts = calling (ek.Interpolated parts) (ExprKind-F.Interpolated parts) (ek.rolls-Interpolated parts)

  pub name_invokes : (n : List ℕ) → (of_kind deed (ek.Name n)).invokes ≡ false
  unfolding invoked
  name_invokes n = calling (ek.Name n) (ExprKind-F.Name n) (ek.rolls-Name n)

  pub unary_invokes : (op : UnaryOp) (a : Expr) → (of_kind deed (ek.Unary op a)).invokes ≡ false
  unfolding invoked
  unary_invokes op a = calling (ek.Unary op a) (ExprKind-F.Unary op a) (ek.rolls-Unary op a)

  pub cast_invokes : (op : CastOp) (a : Expr) → (of_kind deed (ek.Cast op a)).invokes ≡ false
  unfolding invoked
  cast_invokes op a = calling (ek.Cast op a) (ExprKind-F.Cast op a) (ek.rolls-Cast op a)

  pub binary_invokes : (op : BinaryOp) (a b : Expr) → (of_kind deed (ek.Binary op a b)).invokes ≡ false
  unfolding invoked
  binary_invokes op a b = calling (ek.Binary op a b) (ExprKind-F.Binary op a b) (ek.rolls-Binary op a b)

  pub conditional_invokes : (a b d : Expr) → (of_kind deed (ek.Conditional a b d)).invokes ≡ false
  unfolding invoked
  conditional_invokes a b d = calling (ek.Conditional a b d) (ExprKind-F.Conditional a b d) (ek.rolls-Conditional a b d)

  pub with_invokes : (a : Expr) (parts : List WithPart) → (of_kind deed (ek.With a parts)).invokes ≡ false
  unfolding invoked
  with_invokes a parts = calling (ek.With a parts) (ExprKind-F.With a parts) (ek.rolls-With a parts)

  pub member_invokes : (a : Expr) (n : Ident) → (of_kind deed (ek.Member a n)).invokes ≡ bytes_eq n.name (codes "InvokeAsync")
  unfolding invoked
  member_invokes a n = calling (ek.Member a n) (ExprKind-F.Member a n) (ek.rolls-Member a n)

  pub null_member_invokes : (a : Expr) (n : Ident) → (of_kind deed (ek.NullMember a n)).invokes ≡ false
  unfolding invoked
  null_member_invokes a n = calling (ek.NullMember a n) (ExprKind-F.NullMember a n) (ek.rolls-NullMember a n)

  pub call_invokes : (a : Expr) (xs : List Expr) → (of_kind deed (ek.Call a xs)).invokes ≡ false
  unfolding invoked
  call_invokes a xs = calling (ek.Call a xs) (ExprKind-F.Call a xs) (ek.rolls-Call a xs)

  pub index_invokes : (a b : Expr) → (of_kind deed (ek.Index a b)).invokes ≡ false
  unfolding invoked
  index_invokes a b = calling (ek.Index a b) (ExprKind-F.Index a b) (ek.rolls-Index a b)

  pub new_invokes : (n : Ident) (xs : List Expr) → (of_kind deed (ek.New n xs)).invokes ≡ false
  unfolding invoked
  new_invokes n xs = calling (ek.New n xs) (ExprKind-F.New n xs) (ek.rolls-New n xs)

  pub empty_list_invokes : (t : TypeExpr) → (of_kind deed (ek.EmptyList t)).invokes ≡ false
  unfolding invoked
  empty_list_invokes t = calling (ek.EmptyList t) (ExprKind-F.EmptyList t) (ek.rolls-EmptyList t)

  pub static_invokes : (t : StaticType) (n : Ident) → (of_kind deed (ek.Static t n)).invokes ≡ false
  unfolding invoked
  static_invokes t n = calling (ek.Static t n) (ExprKind-F.Static t n) (ek.rolls-Static t n)

  pub assign_invokes : (op : AssignOp) (n : Ident) (a : Expr) → (of_kind deed (ek.Assign op n a)).invokes ≡ false
  unfolding invoked
  assign_invokes op n a = calling (ek.Assign op n a) (ExprKind-F.Assign op n a) (ek.rolls-Assign op n a)

  pub step_invokes : (op : StepOp) (n : Ident) → (of_kind deed (ek.Step op n)).invokes ≡ false
  unfolding invoked
  step_invokes op n = calling (ek.Step op n) (ExprKind-F.Step op n) (ek.rolls-Step op n)

  pub lambda_invokes : (n : Option Ident) (b : Body) → (of_kind deed (ek.Lambda n b)).invokes ≡ false
  unfolding invoked
  lambda_invokes n b = calling (ek.Lambda n b) (ExprKind-F.Lambda n b) (ek.rolls-Lambda n b)

  abbrev StatementLayer : Type 0
  StatementLayer = StmtKind-F Body ExprKind StmtKind TextPart Expr Section Stmt WithPart

  abbrev in_statement : StatementLayer → StmtKind-F Done Asked Stated Done Asked Done Stated Done
  in_statement = map-StmtKind Body ExprKind StmtKind TextPart Expr Section Stmt WithPart Done Asked Stated Done Asked Done Stated Done
      (of_body deed) (of_kind deed) (of_statement_kind deed) (of_part deed) (of_expr deed) (of_section deed) (of_statement deed) (of_with deed)

  at_statement : (kind : StmtKind) (x : StatementLayer) → roll-StmtKind x ≡ kind → of_statement_kind deed kind ≡ stated deed (in_statement x)
  unfolding of_body of_kind of_statement_kind of_part of_expr of_section of_statement of_with
  at_statement kind x is = ap (of_statement_kind deed) (sym is) ∙ fold-roll-StmtKind Done Asked Stated Done Asked Done Stated Done (body_done deed) (asked deed) (stated deed) (part_done deed) (λ it. it.kind) (λ it. in_order it.body) (λ it. it.kind) (λ it. it.value.done) x

  stating : (kind : StmtKind) (x : StatementLayer) (locals : List (List ℕ)) → roll-StmtKind x ≡ kind → (of_statement_kind deed kind).done locals ≡ done_by deed (in_statement x) locals
  unfolding stated
  stating kind x locals is = ap (λ u. u.done locals) (at_statement kind x is)

  declaring : (kind : StmtKind) (x : StatementLayer) → roll-StmtKind x ≡ kind → (of_statement_kind deed kind).declares ≡ declared deed (in_statement x)
  unfolding stated
  declaring kind x is = ap (λ u. u.declares) (at_statement kind x is)

  pub local_statement : (t : Option TypeExpr) (n : Ident) (a : Option Expr) (locals : List (List ℕ)) → (of_statement_kind deed (sk.Local t n a)).done locals ≡ if_there (λ x. x.done locals) (option_map (of_expr deed) a)
  unfolding done_by
  local_statement t n None locals = stating (sk.Local t n None) (StmtKind-F.Local t n None) locals (sk.rolls-Local t n None)
  local_statement t n (Some a) locals = stating (sk.Local t n (Some a)) (StmtKind-F.Local t n (Some a)) locals (sk.rolls-Local t n (Some a))

  pub empty_statement : (locals : List (List ℕ)) → (of_statement_kind deed sk.Empty).done locals ≡ false
  unfolding done_by
  empty_statement locals = stating sk.Empty StmtKind-F.Empty locals sk.rolls-Empty

  pub block_statement : (body : List Stmt) (locals : List (List ℕ)) → (of_statement_kind deed (sk.Block body)).done locals ≡ in_order (map (of_statement deed) body) locals
  unfolding done_by
  block_statement body locals = stating (sk.Block body) (StmtKind-F.StmtKind::Block body) locals (sk.rolls-Block body)

  pub if_statement : (a : Expr) (b : Stmt) (d : Option Stmt) (locals : List (List ℕ)) → (of_statement_kind deed (sk.If a b d)).done locals ≡ (of_expr deed a).done locals || ((of_statement deed b).done locals || if_there (λ x. x.done locals) (option_map (of_statement deed) d))
  unfolding done_by
  if_statement a b None locals = stating (sk.If a b None) (StmtKind-F.If a b None) locals (sk.rolls-If a b None)
  if_statement a b (Some d) locals = stating (sk.If a b (Some d)) (StmtKind-F.If a b (Some d)) locals (sk.rolls-If a b (Some d))

  pub while_statement : (a : Expr) (b : Stmt) (locals : List (List ℕ)) → (of_statement_kind deed (sk.While a b)).done locals ≡ (of_expr deed a).done locals || (of_statement deed b).done locals
  unfolding done_by
  while_statement a b locals = stating (sk.While a b) (StmtKind-F.While a b) locals (sk.rolls-While a b)

  pub for_statement : (a : Option Stmt) (b d : Option Expr) (body : Stmt) (locals : List (List ℕ)) → (of_statement_kind deed (sk.For a b d body)).done locals ≡ if_there (λ x. x.done locals) (option_map (of_statement deed) a) || (if_there (λ x. x.done (behind (option_map (of_statement deed) a) locals)) (option_map (of_expr deed) b) || (if_there (λ x. x.done (behind (option_map (of_statement deed) a) locals)) (option_map (of_expr deed) d) || (of_statement deed body).done (behind (option_map (of_statement deed) a) locals)))
  unfolding done_by
  for_statement None None None body locals = stating (sk.For None None None body) (StmtKind-F.For None None None body) locals (sk.rolls-For None None None body)
  for_statement None None (Some d) body locals = stating (sk.For None None (Some d) body) (StmtKind-F.For None None (Some d) body) locals (sk.rolls-For None None (Some d) body)
  for_statement None (Some b) None body locals = stating (sk.For None (Some b) None body) (StmtKind-F.For None (Some b) None body) locals (sk.rolls-For None (Some b) None body)
  for_statement None (Some b) (Some d) body locals = stating (sk.For None (Some b) (Some d) body) (StmtKind-F.For None (Some b) (Some d) body) locals (sk.rolls-For None (Some b) (Some d) body)
  for_statement (Some a) None None body locals = stating (sk.For (Some a) None None body) (StmtKind-F.For (Some a) None None body) locals (sk.rolls-For (Some a) None None body)
  for_statement (Some a) None (Some d) body locals = stating (sk.For (Some a) None (Some d) body) (StmtKind-F.For (Some a) None (Some d) body) locals (sk.rolls-For (Some a) None (Some d) body)
  for_statement (Some a) (Some b) None body locals = stating (sk.For (Some a) (Some b) None body) (StmtKind-F.For (Some a) (Some b) None body) locals (sk.rolls-For (Some a) (Some b) None body)
  for_statement (Some a) (Some b) (Some d) body locals = stating (sk.For (Some a) (Some b) (Some d) body) (StmtKind-F.For (Some a) (Some b) (Some d) body) locals (sk.rolls-For (Some a) (Some b) (Some d) body)

  pub for_each_statement : (n : Ident) (a : Expr) (body : Stmt) (locals : List (List ℕ)) → (of_statement_kind deed (sk.ForEach n a body)).done locals ≡ (of_expr deed a).done locals || (of_statement deed body).done (locals ++ n.name ∷ [])
  unfolding done_by
  for_each_statement n a body locals = stating (sk.ForEach n a body) (StmtKind-F.ForEach n a body) locals (sk.rolls-ForEach n a body)

  pub switch_statement : (a : Expr) (sections : List Section) (locals : List (List ℕ)) → (of_statement_kind deed (sk.Switch a sections)).done locals ≡ (of_expr deed a).done locals || list_any (λ one. one locals) (map (of_section deed) sections)
  unfolding done_by
  switch_statement a sections locals = stating (sk.Switch a sections) (StmtKind-F.Switch a sections) locals (sk.rolls-Switch a sections)

  pub break_statement : (locals : List (List ℕ)) → (of_statement_kind deed sk.Break).done locals ≡ false
  unfolding done_by
  break_statement locals = stating sk.Break StmtKind-F.Break locals sk.rolls-Break

  pub continue_statement : (locals : List (List ℕ)) → (of_statement_kind deed sk.Continue).done locals ≡ false
  unfolding done_by
  continue_statement locals = stating sk.Continue StmtKind-F.Continue locals sk.rolls-Continue

  pub return_statement : (a : Option Expr) (locals : List (List ℕ)) → (of_statement_kind deed (sk.Return a)).done locals ≡ if_there (λ x. x.done locals) (option_map (of_expr deed) a)
  unfolding done_by
  return_statement None locals = stating (sk.Return None) (StmtKind-F.Return None) locals (sk.rolls-Return None)
  return_statement (Some a) locals = stating (sk.Return (Some a)) (StmtKind-F.Return (Some a)) locals (sk.rolls-Return (Some a))

  pub expr_statement : (a : Expr) (locals : List (List ℕ)) → (of_statement_kind deed (sk.Expr a)).done locals ≡ (of_expr deed a).done locals
  unfolding done_by
  expr_statement a locals = stating (sk.Expr a) (StmtKind-F.Expr a) locals (sk.rolls-Expr a)

  pub await_statement : (a : Expr) (locals : List (List ℕ)) → (of_statement_kind deed (sk.Await a)).done locals ≡ (of_expr deed a).done locals
  unfolding done_by
  await_statement a locals = stating (sk.Await a) (StmtKind-F.Await a) locals (sk.rolls-Await a)

  pub local_declares : (t : Option TypeExpr) (n : Ident) (a : Option Expr) → (of_statement_kind deed (sk.Local t n a)).declares ≡ n.name ∷ []
  unfolding declared
  local_declares t n None = declaring (sk.Local t n None) (StmtKind-F.Local t n None) (sk.rolls-Local t n None)
  local_declares t n (Some a) = declaring (sk.Local t n (Some a)) (StmtKind-F.Local t n (Some a)) (sk.rolls-Local t n (Some a))

  pub empty_declares : (of_statement_kind deed sk.Empty).declares ≡ []
  unfolding declared
  empty_declares = declaring sk.Empty StmtKind-F.Empty sk.rolls-Empty

  pub block_declares : (body : List Stmt) → (of_statement_kind deed (sk.Block body)).declares ≡ []
  unfolding declared
  block_declares body = declaring (sk.Block body) (StmtKind-F.StmtKind::Block body) (sk.rolls-Block body)

  pub if_declares : (a : Expr) (b : Stmt) (d : Option Stmt) → (of_statement_kind deed (sk.If a b d)).declares ≡ []
  unfolding declared
  if_declares a b None = declaring (sk.If a b None) (StmtKind-F.If a b None) (sk.rolls-If a b None)
  if_declares a b (Some d) = declaring (sk.If a b (Some d)) (StmtKind-F.If a b (Some d)) (sk.rolls-If a b (Some d))

  pub while_declares : (a : Expr) (b : Stmt) → (of_statement_kind deed (sk.While a b)).declares ≡ []
  unfolding declared
  while_declares a b = declaring (sk.While a b) (StmtKind-F.While a b) (sk.rolls-While a b)

  pub for_declares : (a : Option Stmt) (b d : Option Expr) (body : Stmt) → (of_statement_kind deed (sk.For a b d body)).declares ≡ []
  unfolding declared
  for_declares None None None body = declaring (sk.For None None None body) (StmtKind-F.For None None None body) (sk.rolls-For None None None body)
  for_declares None None (Some d) body = declaring (sk.For None None (Some d) body) (StmtKind-F.For None None (Some d) body) (sk.rolls-For None None (Some d) body)
  for_declares None (Some b) None body = declaring (sk.For None (Some b) None body) (StmtKind-F.For None (Some b) None body) (sk.rolls-For None (Some b) None body)
  for_declares None (Some b) (Some d) body = declaring (sk.For None (Some b) (Some d) body) (StmtKind-F.For None (Some b) (Some d) body) (sk.rolls-For None (Some b) (Some d) body)
  for_declares (Some a) None None body = declaring (sk.For (Some a) None None body) (StmtKind-F.For (Some a) None None body) (sk.rolls-For (Some a) None None body)
  for_declares (Some a) None (Some d) body = declaring (sk.For (Some a) None (Some d) body) (StmtKind-F.For (Some a) None (Some d) body) (sk.rolls-For (Some a) None (Some d) body)
  for_declares (Some a) (Some b) None body = declaring (sk.For (Some a) (Some b) None body) (StmtKind-F.For (Some a) (Some b) None body) (sk.rolls-For (Some a) (Some b) None body)
  for_declares (Some a) (Some b) (Some d) body = declaring (sk.For (Some a) (Some b) (Some d) body) (StmtKind-F.For (Some a) (Some b) (Some d) body) (sk.rolls-For (Some a) (Some b) (Some d) body)

  pub for_each_declares : (n : Ident) (a : Expr) (body : Stmt) → (of_statement_kind deed (sk.ForEach n a body)).declares ≡ []
  unfolding declared
  for_each_declares n a body = declaring (sk.ForEach n a body) (StmtKind-F.ForEach n a body) (sk.rolls-ForEach n a body)

  pub switch_declares : (a : Expr) (sections : List Section) → (of_statement_kind deed (sk.Switch a sections)).declares ≡ []
  unfolding declared
  switch_declares a sections = declaring (sk.Switch a sections) (StmtKind-F.Switch a sections) (sk.rolls-Switch a sections)

  pub break_declares : (of_statement_kind deed sk.Break).declares ≡ []
  unfolding declared
  break_declares = declaring sk.Break StmtKind-F.Break sk.rolls-Break

  pub continue_declares : (of_statement_kind deed sk.Continue).declares ≡ []
  unfolding declared
  continue_declares = declaring sk.Continue StmtKind-F.Continue sk.rolls-Continue

  pub return_declares : (a : Option Expr) → (of_statement_kind deed (sk.Return a)).declares ≡ []
  unfolding declared
  return_declares None = declaring (sk.Return None) (StmtKind-F.Return None) (sk.rolls-Return None)
  return_declares (Some a) = declaring (sk.Return (Some a)) (StmtKind-F.Return (Some a)) (sk.rolls-Return (Some a))

  pub expr_declares : (a : Expr) → (of_statement_kind deed (sk.Expr a)).declares ≡ []
  unfolding declared
  expr_declares a = declaring (sk.Expr a) (StmtKind-F.Expr a) (sk.rolls-Expr a)

  pub await_declares : (a : Expr) → (of_statement_kind deed (sk.Await a)).declares ≡ []
  unfolding declared
  await_declares a = declaring (sk.Await a) (StmtKind-F.Await a) (sk.rolls-Await a)

  pub literal_done : (t : List ℕ) (locals : List (List ℕ)) → of_part deed (tp.Literal t) locals ≡ false
  unfolding of_part part_done
  literal_done t locals = ap (λ k. of_part deed k locals) (sym (tp.rolls-Literal t)) ∙ ap (λ (f : Done). f locals) (fold-roll-TextPart Done Asked Stated Done Asked Done Stated Done (body_done deed) (asked deed) (stated deed) (part_done deed) (λ it. it.kind) (λ it. in_order it.body) (λ it. it.kind) (λ it. it.value.done) (TextPart-F.Literal t))

  pub hole_done : (a : Expr) (locals : List (List ℕ)) → of_part deed (tp.Hole a) locals ≡ (of_expr deed a).done locals
  unfolding of_body of_kind of_statement_kind of_part of_expr of_section of_statement of_with part_done
  hole_done a locals = ap (λ k. of_part deed k locals) (sym (tp.rolls-Hole a)) ∙ ap (λ (f : Done). f locals) (fold-roll-TextPart Done Asked Stated Done Asked Done Stated Done (body_done deed) (asked deed) (stated deed) (part_done deed) (λ it. it.kind) (λ it. in_order it.body) (λ it. it.kind) (λ it. it.value.done) (TextPart-F.Hole a))

  pub value_done : (a : Expr) (locals : List (List ℕ)) → of_body deed (bo.Value a) locals ≡ (of_expr deed a).done locals
  unfolding of_body of_kind of_statement_kind of_part of_expr of_section of_statement of_with body_done
  value_done a locals = ap (λ k. of_body deed k locals) (sym (bo.rolls-Value a)) ∙ ap (λ (f : Done). f locals) (fold-roll-Body Done Asked Stated Done Asked Done Stated Done (body_done deed) (asked deed) (stated deed) (part_done deed) (λ it. it.kind) (λ it. in_order it.body) (λ it. it.kind) (λ it. it.value.done) (Body-F.Value a))

  pub body_block_done : (body : List Stmt) (locals : List (List ℕ)) → of_body deed (bo.Block body) locals ≡ in_order (map (of_statement deed) body) locals
  unfolding of_body of_kind of_statement_kind of_part of_expr of_section of_statement of_with body_done
  body_block_done body locals = ap (λ k. of_body deed k locals) (sym (bo.rolls-Block body)) ∙ ap (λ (f : Done). f locals) (fold-roll-Body Done Asked Stated Done Asked Done Stated Done (body_done deed) (asked deed) (stated deed) (part_done deed) (λ it. it.kind) (λ it. in_order it.body) (λ it. it.kind) (λ it. it.value.done) (Body-F.Body::Block body))

-- a statement that declares nothing leaves the locals
pub none_declared : (locals declares : List (List ℕ)) → declares ≡ [] → locals ++ declares ≡ locals
none_declared locals declares none = ap (λ (d : List (List ℕ)). locals ++ d) none ∙ append-nil locals

-- behind a statement that does not do it
pub behind_one : (deed : Deed) (one : Stmt) (others : List Stated) (locals : List (List ℕ)) → (of_statement deed one).done locals ≡ false
    → in_order (of_statement deed one ∷ others) locals ≡ in_order others (locals ++ (of_statement_kind deed one.kind).declares)
behind_one deed one others locals off =
    ap (λ (b : Bool). b || in_order others (locals ++ (of_statement deed one).declares)) off
    ∙ ap (λ (it : Stated). in_order others (locals ++ it.declares)) (statement_law deed one)
