-- What each form of statement comes to, by what its parts come to, where some things are forbidden.
use Rattle.std.proofs.Common.{◌≡◌, List, map, sym, ap, ◌∙◌}
use Rattle.std.specs.Prelude.{Option, Some, None, option_map}
use Rattle.text_core.specs.declared.place.Place.{Place}
use Rattle.cs_ast.specs.declared.code.Code.TheVariants as c
use Rattle.cs_ast.specs.declared.cs_type.TypeExpr.{TypeExpr}
use Rattle.cs_ast.specs.declared.expression.Body.TheOpen.{StmtKind-F}
use Rattle.cs_ast.specs.declared.expression.Body.TheViews.{roll-StmtKind}
use Rattle.cs_ast.specs.declared.expression.Expr.{Expr}
use Rattle.cs_ast.specs.declared.expression.Section.{Section}
use Rattle.cs_ast.specs.declared.expression.Stmt.{Stmt}
use Rattle.cs_ast.specs.declared.expression.StmtKind.{StmtKind}
use Rattle.cs_ast.specs.declared.expression.StmtKind.TheVariants as sk
use Rattle.cs_ast.specs.declared.identifier.Ident.{Ident}
use Rattle.cs_ast.specs.declared.scope.Scope.{Scope}
use Rattle.cs_rules.specs.Judged.{fine}
use Rattle.cs_rules.specs.Statements as st
use Rattle.cs_rules.specs.Statements.{Statement, done}
use Rattle.cs_rules.specs.Trees.{statement_of_form}
use Rattle.cs_forbidden.specs.declared.forbidden.Forbidden.{Forbidden}
use Rattle.cs_forbidden.specs.Trees.{uses, statement}
use Rattle.cs_forbidden.specs.Forms.{StatementLayer, statement_of_kind, section, in_statement}
use Rattle.cs_forbidden.proofs.FormLaws.{statement_form_law}

module _ (f : Forbidden) where
  at_statement : (kind : StmtKind) (x : StatementLayer) (place : Place) (s : Scope) → roll-StmtKind x ≡ kind → statement_of_kind f kind place s ≡ statement_of_form (in_statement f x) place s
  at_statement kind x place s is = ap (λ it. statement_of_kind f it place s) (sym is) ∙ ap (λ (it : Statement). it s) (statement_form_law f x place)

  pub local_statement : (cs_type : Option TypeExpr) (n : Ident) (a : Option Expr) (place : Place) (s : Scope) → statement_of_kind f (sk.Local cs_type n a) place s ≡ st.local cs_type n (option_map (λ x. x.value) (option_map (uses f) a)) s
  unfolding statement_of_form
  local_statement cs_type n None place s = at_statement (sk.Local cs_type n None) (StmtKind-F.Local cs_type n None) place s (sk.rolls-Local cs_type n None)
  local_statement cs_type n (Some a) place s = at_statement (sk.Local cs_type n (Some a)) (StmtKind-F.Local cs_type n (Some a)) place s (sk.rolls-Local cs_type n (Some a))

  pub empty_statement : (place : Place) (s : Scope) → statement_of_kind f sk.Empty place s ≡ fine (done s c.Empty)
  unfolding statement_of_form
  empty_statement place s = at_statement sk.Empty StmtKind-F.Empty place s sk.rolls-Empty

  pub block_statement : (body : List Stmt) (place : Place) (s : Scope) → statement_of_kind f (sk.Block body) place s ≡ st.block (map (statement f) body) s
  unfolding statement_of_form
  block_statement body place s = at_statement (sk.Block body) (StmtKind-F.StmtKind::Block body) place s (sk.rolls-Block body)

  pub if_statement : (a : Expr) (b : Stmt) (d : Option Stmt) (place : Place) (s : Scope) → statement_of_kind f (sk.If a b d) place s ≡ st.if_else (uses f a).value (statement f b) (option_map (statement f) d) s
  unfolding statement_of_form
  if_statement a b None place s = at_statement (sk.If a b None) (StmtKind-F.If a b None) place s (sk.rolls-If a b None)
  if_statement a b (Some d) place s = at_statement (sk.If a b (Some d)) (StmtKind-F.If a b (Some d)) place s (sk.rolls-If a b (Some d))

  pub while_statement : (a : Expr) (b : Stmt) (place : Place) (s : Scope) → statement_of_kind f (sk.While a b) place s ≡ st.while_loop (uses f a).value (statement f b) s
  unfolding statement_of_form
  while_statement a b place s = at_statement (sk.While a b) (StmtKind-F.While a b) place s (sk.rolls-While a b)

  pub for_statement : (a : Option Stmt) (b d : Option Expr) (body : Stmt) (place : Place) (s : Scope) → statement_of_kind f (sk.For a b d body) place s ≡ st.for_loop (option_map (statement f) a) (option_map (λ x. x.value) (option_map (uses f) b)) (option_map (λ x. x.value) (option_map (uses f) d)) (statement f body) s
  unfolding statement_of_form
  for_statement None None None body place s = at_statement (sk.For None None None body) (StmtKind-F.For None None None body) place s (sk.rolls-For None None None body)
  for_statement None None (Some d) body place s = at_statement (sk.For None None (Some d) body) (StmtKind-F.For None None (Some d) body) place s (sk.rolls-For None None (Some d) body)
  for_statement None (Some b) None body place s = at_statement (sk.For None (Some b) None body) (StmtKind-F.For None (Some b) None body) place s (sk.rolls-For None (Some b) None body)
  for_statement None (Some b) (Some d) body place s = at_statement (sk.For None (Some b) (Some d) body) (StmtKind-F.For None (Some b) (Some d) body) place s (sk.rolls-For None (Some b) (Some d) body)
  for_statement (Some a) None None body place s = at_statement (sk.For (Some a) None None body) (StmtKind-F.For (Some a) None None body) place s (sk.rolls-For (Some a) None None body)
  for_statement (Some a) None (Some d) body place s = at_statement (sk.For (Some a) None (Some d) body) (StmtKind-F.For (Some a) None (Some d) body) place s (sk.rolls-For (Some a) None (Some d) body)
  for_statement (Some a) (Some b) None body place s = at_statement (sk.For (Some a) (Some b) None body) (StmtKind-F.For (Some a) (Some b) None body) place s (sk.rolls-For (Some a) (Some b) None body)
  for_statement (Some a) (Some b) (Some d) body place s = at_statement (sk.For (Some a) (Some b) (Some d) body) (StmtKind-F.For (Some a) (Some b) (Some d) body) place s (sk.rolls-For (Some a) (Some b) (Some d) body)

  pub for_each_statement : (n : Ident) (a : Expr) (body : Stmt) (place : Place) (s : Scope) → statement_of_kind f (sk.ForEach n a body) place s ≡ st.for_each n (uses f a).value (statement f body) s
  unfolding statement_of_form
  for_each_statement n a body place s = at_statement (sk.ForEach n a body) (StmtKind-F.ForEach n a body) place s (sk.rolls-ForEach n a body)

  pub switch_statement : (a : Expr) (sections : List Section) (place : Place) (s : Scope) → statement_of_kind f (sk.Switch a sections) place s ≡ st.switch_of (uses f a).value (map (section f) sections) s
  unfolding statement_of_form
  switch_statement a sections place s = at_statement (sk.Switch a sections) (StmtKind-F.Switch a sections) place s (sk.rolls-Switch a sections)

  pub break_statement : (place : Place) (s : Scope) → statement_of_kind f sk.Break place s ≡ fine (done s c.Break)
  unfolding statement_of_form
  break_statement place s = at_statement sk.Break StmtKind-F.Break place s sk.rolls-Break

  pub continue_statement : (place : Place) (s : Scope) → statement_of_kind f sk.Continue place s ≡ fine (done s c.Continue)
  unfolding statement_of_form
  continue_statement place s = at_statement sk.Continue StmtKind-F.Continue place s sk.rolls-Continue

  pub return_statement : (a : Option Expr) (place : Place) (s : Scope) → statement_of_kind f (sk.Return a) place s ≡ st.return_of (option_map (λ x. x.value) (option_map (uses f) a)) place s
  unfolding statement_of_form
  return_statement None place s = at_statement (sk.Return None) (StmtKind-F.Return None) place s (sk.rolls-Return None)
  return_statement (Some a) place s = at_statement (sk.Return (Some a)) (StmtKind-F.Return (Some a)) place s (sk.rolls-Return (Some a))

  pub expr_statement : (a : Expr) (place : Place) (s : Scope) → statement_of_kind f (sk.Expr a) place s ≡ st.perform (uses f a).value s
  unfolding statement_of_form
  expr_statement a place s = at_statement (sk.Expr a) (StmtKind-F.Expr a) place s (sk.rolls-Expr a)

  pub await_statement : (a : Expr) (place : Place) (s : Scope) → statement_of_kind f (sk.Await a) place s ≡ st.perform (uses f a).value s
  unfolding statement_of_form
  await_statement a place s = at_statement (sk.Await a) (StmtKind-F.Await a) place s (sk.rolls-Await a)
