-- The rules of each form of statement, and the locals that it declares.
use Rattle.std.proofs.Common.{◌≡◌, ℕ, List, [], ◌∷◌, ◌++◌, map, ap, sym, refl, ◌∙◌}
use Rattle.std.specs.Prelude.{Bool, true, false, if◌then◌else◌, Option, Some, None, option_map}
use Rattle.std.specs.List.{flat_map}
use Rattle.text_core.specs.declared.place.Place.{Place}
use Rattle.cs_ast.specs.declared.cs_type.CsType.{CsType}
use Rattle.cs_ast.specs.declared.expression.Expr.{Expr}
use Rattle.cs_ast.specs.declared.expression.Stmt.{Stmt}
use Rattle.cs_ast.specs.declared.identifier.Ident.{Ident}
use Rattle.cs_ast.specs.declared.cs_type.TypeExpr.{TypeExpr}
use Rattle.cs_ast.specs.declared.expression.Body.TheOpen.{StmtKind-F}
use Rattle.cs_ast.specs.declared.expression.Body.TheViews.{roll-StmtKind, out-StmtKind, out-roll-StmtKind}
use Rattle.cs_ast.specs.declared.expression.Section.{Section}
use Rattle.cs_ast.specs.declared.expression.StmtKind.{StmtKind}
use Rattle.cs_ast.specs.declared.expression.StmtKind.TheVariants as sk
use Rattle.cs_rules.specs.declared.rule.Rule.TheVariants.{LoopJump}
use Rattle.cs_forbidden.specs.Trees.{statement}
use Rattle.razor_rules.specs.declared.ground.Ground.{Ground}
use Rattle.razor_rules.specs.Findings.{broken, found}
use Rattle.razor_rules.specs.Templates.{Level, statement_level, declared_level, declared_by}

at_root : (kind : StmtKind) (x : Level) → kind ≡ roll-StmtKind x → out-StmtKind kind ≡ x
at_root kind x is = ap out-StmtKind is ∙ out-roll-StmtKind x

module _ (g : Ground) where
  pub local_statement : (e : Stmt) (t : Option TypeExpr) (n : Ident) (value : Option Expr) → e.kind ≡ sk.Local t n value → statement_level (out-StmtKind e.kind) e g ≡ found (statement g.forbidden e g.scope)
  local_statement e t n value is = ap (λ (level : Level). statement_level level e g) (at_root e.kind (StmtKind-F.Local t n value) (is ∙ sym (sk.rolls-Local t n value)))

  pub empty_statement : (e : Stmt) → e.kind ≡ sk.Empty → statement_level (out-StmtKind e.kind) e g ≡ found (statement g.forbidden e g.scope)
  empty_statement e is = ap (λ (level : Level). statement_level level e g) (at_root e.kind StmtKind-F.Empty (is ∙ sym sk.rolls-Empty))

  pub block_statement : (e : Stmt) (body : List Stmt) → e.kind ≡ sk.Block body → statement_level (out-StmtKind e.kind) e g ≡ found (statement g.forbidden e g.scope)
  block_statement e body is = ap (λ (level : Level). statement_level level e g) (at_root e.kind (StmtKind-F.StmtKind::Block body) (is ∙ sym (sk.rolls-Block body)))

  pub if_statement : (e : Stmt) (a : Expr) (holds : Stmt) (fails : Option Stmt) → e.kind ≡ sk.If a holds fails → statement_level (out-StmtKind e.kind) e g ≡ found (statement g.forbidden e g.scope)
  if_statement e a holds fails is = ap (λ (level : Level). statement_level level e g) (at_root e.kind (StmtKind-F.If a holds fails) (is ∙ sym (sk.rolls-If a holds fails)))

  pub while_statement : (e : Stmt) (a : Expr) (body : Stmt) → e.kind ≡ sk.While a body → statement_level (out-StmtKind e.kind) e g ≡ found (statement g.forbidden e g.scope)
  while_statement e a body is = ap (λ (level : Level). statement_level level e g) (at_root e.kind (StmtKind-F.While a body) (is ∙ sym (sk.rolls-While a body)))

  pub for_statement : (e : Stmt) (start : Option Stmt) (test step : Option Expr) (body : Stmt) → e.kind ≡ sk.For start test step body → statement_level (out-StmtKind e.kind) e g ≡ found (statement g.forbidden e g.scope)
  for_statement e start test step body is = ap (λ (level : Level). statement_level level e g) (at_root e.kind (StmtKind-F.For start test step body) (is ∙ sym (sk.rolls-For start test step body)))

  pub for_each_statement : (e : Stmt) (n : Ident) (a : Expr) (body : Stmt) → e.kind ≡ sk.ForEach n a body → statement_level (out-StmtKind e.kind) e g ≡ found (statement g.forbidden e g.scope)
  for_each_statement e n a body is = ap (λ (level : Level). statement_level level e g) (at_root e.kind (StmtKind-F.ForEach n a body) (is ∙ sym (sk.rolls-ForEach n a body)))

  pub switch_statement : (e : Stmt) (a : Expr) (sections : List Section) → e.kind ≡ sk.Switch a sections → statement_level (out-StmtKind e.kind) e g ≡ found (statement g.forbidden e g.scope)
  switch_statement e a sections is = ap (λ (level : Level). statement_level level e g) (at_root e.kind (StmtKind-F.Switch a sections) (is ∙ sym (sk.rolls-Switch a sections)))

  pub break_statement : (e : Stmt) → e.kind ≡ sk.Break → statement_level (out-StmtKind e.kind) e g ≡ (if g.in_switch then [] else broken LoopJump e.place ∷ [])
  break_statement e is = ap (λ (level : Level). statement_level level e g) (at_root e.kind StmtKind-F.Break (is ∙ sym sk.rolls-Break))

  pub continue_statement : (e : Stmt) → e.kind ≡ sk.Continue → statement_level (out-StmtKind e.kind) e g ≡ broken LoopJump e.place ∷ []
  continue_statement e is = ap (λ (level : Level). statement_level level e g) (at_root e.kind StmtKind-F.Continue (is ∙ sym sk.rolls-Continue))

  pub return_statement : (e : Stmt) (value : Option Expr) → e.kind ≡ sk.Return value → statement_level (out-StmtKind e.kind) e g ≡ broken LoopJump e.place ∷ []
  return_statement e value is = ap (λ (level : Level). statement_level level e g) (at_root e.kind (StmtKind-F.Return value) (is ∙ sym (sk.rolls-Return value)))

  pub expr_statement : (e : Stmt) (a : Expr) → e.kind ≡ sk.Expr a → statement_level (out-StmtKind e.kind) e g ≡ found (statement g.forbidden e g.scope)
  expr_statement e a is = ap (λ (level : Level). statement_level level e g) (at_root e.kind (StmtKind-F.Expr a) (is ∙ sym (sk.rolls-Expr a)))

  pub await_statement : (e : Stmt) (a : Expr) → e.kind ≡ sk.Await a → statement_level (out-StmtKind e.kind) e g ≡ found (statement g.forbidden e g.scope)
  await_statement e a is = ap (λ (level : Level). statement_level level e g) (at_root e.kind (StmtKind-F.Await a) (is ∙ sym (sk.rolls-Await a)))

pub local_declared : (e : Stmt) (t : Option TypeExpr) (n : Ident) (value : Option Expr) → e.kind ≡ sk.Local t n value → declared_by e ≡ Some n.name
unfolding declared_by
local_declared e t n value is = ap declared_level (at_root e.kind (StmtKind-F.Local t n value) (is ∙ sym (sk.rolls-Local t n value)))

pub empty_declared : (e : Stmt) → e.kind ≡ sk.Empty → declared_by e ≡ None
unfolding declared_by
empty_declared e is = ap declared_level (at_root e.kind StmtKind-F.Empty (is ∙ sym sk.rolls-Empty))

pub block_declared : (e : Stmt) (body : List Stmt) → e.kind ≡ sk.Block body → declared_by e ≡ None
unfolding declared_by
block_declared e body is = ap declared_level (at_root e.kind (StmtKind-F.StmtKind::Block body) (is ∙ sym (sk.rolls-Block body)))

pub if_declared : (e : Stmt) (a : Expr) (holds : Stmt) (fails : Option Stmt) → e.kind ≡ sk.If a holds fails → declared_by e ≡ None
unfolding declared_by
if_declared e a holds fails is = ap declared_level (at_root e.kind (StmtKind-F.If a holds fails) (is ∙ sym (sk.rolls-If a holds fails)))

pub while_declared : (e : Stmt) (a : Expr) (body : Stmt) → e.kind ≡ sk.While a body → declared_by e ≡ None
unfolding declared_by
while_declared e a body is = ap declared_level (at_root e.kind (StmtKind-F.While a body) (is ∙ sym (sk.rolls-While a body)))

pub for_declared : (e : Stmt) (start : Option Stmt) (test step : Option Expr) (body : Stmt) → e.kind ≡ sk.For start test step body → declared_by e ≡ None
unfolding declared_by
for_declared e start test step body is = ap declared_level (at_root e.kind (StmtKind-F.For start test step body) (is ∙ sym (sk.rolls-For start test step body)))

pub for_each_declared : (e : Stmt) (n : Ident) (a : Expr) (body : Stmt) → e.kind ≡ sk.ForEach n a body → declared_by e ≡ None
unfolding declared_by
for_each_declared e n a body is = ap declared_level (at_root e.kind (StmtKind-F.ForEach n a body) (is ∙ sym (sk.rolls-ForEach n a body)))

pub switch_declared : (e : Stmt) (a : Expr) (sections : List Section) → e.kind ≡ sk.Switch a sections → declared_by e ≡ None
unfolding declared_by
switch_declared e a sections is = ap declared_level (at_root e.kind (StmtKind-F.Switch a sections) (is ∙ sym (sk.rolls-Switch a sections)))

pub break_declared : (e : Stmt) → e.kind ≡ sk.Break → declared_by e ≡ None
unfolding declared_by
break_declared e is = ap declared_level (at_root e.kind StmtKind-F.Break (is ∙ sym sk.rolls-Break))

pub continue_declared : (e : Stmt) → e.kind ≡ sk.Continue → declared_by e ≡ None
unfolding declared_by
continue_declared e is = ap declared_level (at_root e.kind StmtKind-F.Continue (is ∙ sym sk.rolls-Continue))

pub return_declared : (e : Stmt) (value : Option Expr) → e.kind ≡ sk.Return value → declared_by e ≡ None
unfolding declared_by
return_declared e value is = ap declared_level (at_root e.kind (StmtKind-F.Return value) (is ∙ sym (sk.rolls-Return value)))

pub expr_declared : (e : Stmt) (a : Expr) → e.kind ≡ sk.Expr a → declared_by e ≡ None
unfolding declared_by
expr_declared e a is = ap declared_level (at_root e.kind (StmtKind-F.Expr a) (is ∙ sym (sk.rolls-Expr a)))

pub await_declared : (e : Stmt) (a : Expr) → e.kind ≡ sk.Await a → declared_by e ≡ None
unfolding declared_by
await_declared e a is = ap declared_level (at_root e.kind (StmtKind-F.Await a) (is ∙ sym (sk.rolls-Await a)))
