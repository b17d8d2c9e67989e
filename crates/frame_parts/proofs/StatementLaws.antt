-- What each form of statement comes to.
use Rattle.std.proofs.Common.{◌≡◌, ℕ, List, [], ◌∷◌, sym, ap, ◌∙◌}
use Rattle.std.specs.Prelude.{Option}
use Rattle.cs_ast.specs.declared.cs_type.TypeExpr.{TypeExpr}
use Rattle.cs_ast.specs.declared.expression.Body.TheOpen.{StmtKind-F}
use Rattle.cs_ast.specs.declared.expression.Body.TheViews.{roll-StmtKind, out-StmtKind, out-roll-StmtKind}
use Rattle.cs_ast.specs.declared.expression.Expr.{Expr}
use Rattle.cs_ast.specs.declared.expression.Section.{Section}
use Rattle.cs_ast.specs.declared.expression.Stmt.{Stmt}
use Rattle.cs_ast.specs.declared.expression.StmtKind.{StmtKind}
use Rattle.cs_ast.specs.declared.expression.StmtKind.TheVariants as sk
use Rattle.cs_ast.specs.declared.identifier.Ident.{Ident}
use Rattle.cs_ast.specs.declared.scope.Scope.{Scope}
use Rattle.cs_rules.specs.Judged.{fine}
use Rattle.drawing_meaning.specs.Nodes.{break_out}
use Rattle.razor_rules.specs.Templates.{Level}
use Rattle.frame_parts.specs.Nodes.{plain_statement, statement_form, statement_level}

at_root : (kind : StmtKind) (x : Level) → kind ≡ roll-StmtKind x → out-StmtKind kind ≡ x
at_root kind x is = ap out-StmtKind is ∙ out-roll-StmtKind x

module _ (s : Scope) (e : Stmt) where
  pub local_statement : (t : Option TypeExpr) (n : Ident) (value : Option Expr) → e.kind ≡ sk.Local t n value → statement_form s e ≡ plain_statement s e
  unfolding statement_form
  local_statement t n value is = ap (λ (level : Level). statement_level level s e) (at_root e.kind (StmtKind-F.Local t n value) (is ∙ sym (sk.rolls-Local t n value)))

  pub empty_statement : e.kind ≡ sk.Empty → statement_form s e ≡ plain_statement s e
  unfolding statement_form
  empty_statement is = ap (λ (level : Level). statement_level level s e) (at_root e.kind StmtKind-F.Empty (is ∙ sym sk.rolls-Empty))

  pub block_statement : (body : List Stmt) → e.kind ≡ sk.Block body → statement_form s e ≡ plain_statement s e
  unfolding statement_form
  block_statement body is = ap (λ (level : Level). statement_level level s e) (at_root e.kind (StmtKind-F.StmtKind::Block body) (is ∙ sym (sk.rolls-Block body)))

  pub if_statement : (a : Expr) (holds : Stmt) (fails : Option Stmt) → e.kind ≡ sk.If a holds fails → statement_form s e ≡ plain_statement s e
  unfolding statement_form
  if_statement a holds fails is = ap (λ (level : Level). statement_level level s e) (at_root e.kind (StmtKind-F.If a holds fails) (is ∙ sym (sk.rolls-If a holds fails)))

  pub while_statement : (a : Expr) (body : Stmt) → e.kind ≡ sk.While a body → statement_form s e ≡ plain_statement s e
  unfolding statement_form
  while_statement a body is = ap (λ (level : Level). statement_level level s e) (at_root e.kind (StmtKind-F.While a body) (is ∙ sym (sk.rolls-While a body)))

  pub for_statement : (start : Option Stmt) (test : Option Expr) (next : Option Expr) (body : Stmt) → e.kind ≡ sk.For start test next body → statement_form s e ≡ plain_statement s e
  unfolding statement_form
  for_statement start test next body is = ap (λ (level : Level). statement_level level s e) (at_root e.kind (StmtKind-F.For start test next body) (is ∙ sym (sk.rolls-For start test next body)))

  pub for_each_statement : (n : Ident) (a : Expr) (body : Stmt) → e.kind ≡ sk.ForEach n a body → statement_form s e ≡ plain_statement s e
  unfolding statement_form
  for_each_statement n a body is = ap (λ (level : Level). statement_level level s e) (at_root e.kind (StmtKind-F.ForEach n a body) (is ∙ sym (sk.rolls-ForEach n a body)))

  pub switch_statement : (a : Expr) (sections : List Section) → e.kind ≡ sk.Switch a sections → statement_form s e ≡ plain_statement s e
  unfolding statement_form
  switch_statement a sections is = ap (λ (level : Level). statement_level level s e) (at_root e.kind (StmtKind-F.Switch a sections) (is ∙ sym (sk.rolls-Switch a sections)))

  pub break_statement : e.kind ≡ sk.Break → statement_form s e ≡ fine (break_out ∷ [])
  unfolding statement_form
  break_statement is = ap (λ (level : Level). statement_level level s e) (at_root e.kind StmtKind-F.Break (is ∙ sym sk.rolls-Break))

  pub continue_statement : e.kind ≡ sk.Continue → statement_form s e ≡ plain_statement s e
  unfolding statement_form
  continue_statement is = ap (λ (level : Level). statement_level level s e) (at_root e.kind StmtKind-F.Continue (is ∙ sym sk.rolls-Continue))

  pub return_statement : (value : Option Expr) → e.kind ≡ sk.Return value → statement_form s e ≡ plain_statement s e
  unfolding statement_form
  return_statement value is = ap (λ (level : Level). statement_level level s e) (at_root e.kind (StmtKind-F.Return value) (is ∙ sym (sk.rolls-Return value)))

  pub expr_statement : (a : Expr) → e.kind ≡ sk.Expr a → statement_form s e ≡ plain_statement s e
  unfolding statement_form
  expr_statement a is = ap (λ (level : Level). statement_level level s e) (at_root e.kind (StmtKind-F.Expr a) (is ∙ sym (sk.rolls-Expr a)))

  pub await_statement : (a : Expr) → e.kind ≡ sk.Await a → statement_form s e ≡ plain_statement s e
  unfolding statement_form
  await_statement a is = ap (λ (level : Level). statement_level level s e) (at_root e.kind (StmtKind-F.Await a) (is ∙ sym (sk.rolls-Await a)))
