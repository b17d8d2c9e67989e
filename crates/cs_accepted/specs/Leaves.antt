-- What leaves statements: by recursion on their trees.
use Rattle.std.specs.Prelude.{Bool, true, false, ◌&&◌, ◌||◌, not, List, [], ◌∷◌, Option, Some, None}
use Rattle.cs_ast.specs.declared.expression.Expr.{Expr}
use Rattle.cs_ast.specs.declared.expression.ExprKind.{ExprKind}
use Rattle.cs_ast.specs.declared.expression.Section.{Section}
use Rattle.cs_ast.specs.declared.expression.Stmt.{Stmt}
use Rattle.cs_ast.specs.declared.expression.StmtKind.{StmtKind}
use Rattle.cs_ast.specs.declared.expression.Body.TheOpen.{ExprKind-F, StmtKind-F}
use Rattle.cs_ast.specs.declared.expression.Body.TheFolds.{fold-Expr, fold-ExprKind, fold-Stmt, fold-StmtKind, fold-Section}
use Rattle.cs_rules.specs.Statements.{has_default}

-- of a statement: whether a `break` in it leaves it, whether a `continue` does, and whether its end can be reached
pub record Leaves : Type 0 where
  pub breaks : Bool
  pub continues : Bool
  pub ends : Bool

-- the same of the sections of a `switch`, and whether one has `default`
pub record SectionLeaves : Type 0 where
  pub breaks : Bool
  pub continues : Bool
  pub ends : Bool
  pub default : Bool

-- a statement that comes to its end alone
abbrev pub plain : Leaves
plain = record { breaks = false; continues = false; ends = true }

-- one after another: the end of all can be reached where the end of each can
abbrev pub in_order : List Leaves → Leaves
in_order [] = plain
in_order (one ∷ others) =
    record { breaks = one.breaks || (in_order others).breaks; continues = one.continues || (in_order others).continues; ends = one.ends && (in_order others).ends }

-- one of two
abbrev pub either : Leaves → Leaves → Leaves
either one other = record { breaks = one.breaks || other.breaks; continues = one.continues || other.continues; ends = one.ends || other.ends }

abbrev pub branches : Leaves → Option Leaves → Leaves
branches one None = either one plain
branches one (Some other) = either one other

-- a loop catches jumps; with a test that is always true its end is reached by `break` alone
abbrev pub looped : Bool → Leaves → Leaves
looped always body = record { breaks = false; continues = false; ends = not always || body.breaks }

-- a loop behind a start
abbrev pub started : Option Leaves → Leaves → Leaves
started None body = body
started (Some start) body = record { breaks = start.breaks; continues = start.continues; ends = start.ends && body.ends }

-- no test is always true
abbrev pub always : Option Bool → Bool
always None = true
always (Some test) = test

abbrev pub any_section : List SectionLeaves → SectionLeaves
any_section [] = record { breaks = false; continues = false; ends = false; default = false }
any_section (one ∷ others) =
    record {
      breaks = one.breaks || (any_section others).breaks;
      continues = one.continues || (any_section others).continues;
      ends = one.ends || (any_section others).ends;
      default = one.default || (any_section others).default;
    }

-- a `switch` catches `break`; its end is reached from a section, by `break`, or where no section is meant
abbrev pub switched : SectionLeaves → Leaves
switched sections = record { breaks = false; continues = sections.continues; ends = not sections.default || (sections.ends || sections.breaks) }

-- a section with such statements
abbrev pub section_of : Bool → Leaves → SectionLeaves
section_of default statements = record { breaks = statements.breaks; continues = statements.continues; ends = statements.ends; default = default }

-- whether an expression is the word `true`
abbrev pub true_form : ExprKind-F (Unit {0}) Bool Leaves (Unit {0}) Bool SectionLeaves Leaves (Unit {0}) → Bool
true_form (ExprKind-F.Bool truth) = truth
true_form _ = false

abbrev pub leaves_form : StmtKind-F (Unit {0}) Bool Leaves (Unit {0}) Bool SectionLeaves Leaves (Unit {0}) → Leaves
leaves_form (StmtKind-F.StmtKind::Block body) = in_order body
leaves_form (StmtKind-F.If test holds fails) = branches holds fails
leaves_form (StmtKind-F.While test body) = looped test body
leaves_form (StmtKind-F.For start test step body) = started start (looped (always test) body)
leaves_form (StmtKind-F.ForEach name list body) = looped false body
leaves_form (StmtKind-F.Switch a sections) = switched (any_section sections)
leaves_form StmtKind-F.Break = record { breaks = true; continues = false; ends = false }
leaves_form StmtKind-F.Continue = record { breaks = false; continues = true; ends = false }
leaves_form (StmtKind-F.Return a) = record { breaks = false; continues = false; ends = false }
leaves_form _ = plain

unfoldable pub is_true : Expr → Bool
is_true =
    fold-Expr (Unit {0}) Bool Leaves (Unit {0}) Bool SectionLeaves Leaves (Unit {0})
    (λ body. tt) true_form leaves_form (λ it. tt) (λ it. it.kind) (λ it. section_of (has_default it.labels) (in_order it.body)) (λ it. it.kind) (λ it. tt)

unfoldable pub is_true_kind : ExprKind → Bool
is_true_kind =
    fold-ExprKind (Unit {0}) Bool Leaves (Unit {0}) Bool SectionLeaves Leaves (Unit {0})
    (λ body. tt) true_form leaves_form (λ it. tt) (λ it. it.kind) (λ it. section_of (has_default it.labels) (in_order it.body)) (λ it. it.kind) (λ it. tt)

-- what leaves a statement
unfoldable pub leaves : Stmt → Leaves
leaves =
    fold-Stmt (Unit {0}) Bool Leaves (Unit {0}) Bool SectionLeaves Leaves (Unit {0})
    (λ body. tt) true_form leaves_form (λ it. tt) (λ it. it.kind) (λ it. section_of (has_default it.labels) (in_order it.body)) (λ it. it.kind) (λ it. tt)

unfoldable pub leaves_of_kind : StmtKind → Leaves
leaves_of_kind =
    fold-StmtKind (Unit {0}) Bool Leaves (Unit {0}) Bool SectionLeaves Leaves (Unit {0})
    (λ body. tt) true_form leaves_form (λ it. tt) (λ it. it.kind) (λ it. section_of (has_default it.labels) (in_order it.body)) (λ it. it.kind) (λ it. tt)

unfoldable pub section_leaves : Section → SectionLeaves
section_leaves =
    fold-Section (Unit {0}) Bool Leaves (Unit {0}) Bool SectionLeaves Leaves (Unit {0})
    (λ body. tt) true_form leaves_form (λ it. tt) (λ it. it.kind) (λ it. section_of (has_default it.labels) (in_order it.body)) (λ it. it.kind) (λ it. tt)
