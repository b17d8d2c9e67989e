-- The equations of what trees come to where some things are forbidden.
use Rattle.std.proofs.Common.{◌≡◌, ℕ, List, map, sym, ap, ◌∙◌}
use Rattle.text_core.specs.declared.place.Place.{Place}
use Rattle.cs_ast.specs.declared.code.Code.{Code}
use Rattle.cs_ast.specs.declared.code.Code.TheVariants as c
use Rattle.cs_ast.specs.declared.expression.Body.TheOpen.{TextPart-F}
use Rattle.cs_ast.specs.declared.expression.Body.TheFolds.{fold_out-Expr, fold_out-Stmt, fold_out-Section, fold_out-WithPart, fold-roll-ExprKind, fold-roll-StmtKind, fold-roll-TextPart}
use Rattle.cs_ast.specs.declared.expression.Body.TheViews.{roll-ExprKind, roll-StmtKind, out-ExprKind, roll-out-ExprKind}
use Rattle.cs_ast.specs.declared.expression.Expr.{Expr}
use Rattle.cs_ast.specs.declared.expression.Section.{Section, out-Section}
use Rattle.cs_ast.specs.declared.expression.Stmt.{Stmt}
use Rattle.cs_ast.specs.declared.expression.TextPart.TheVariants as tp
use Rattle.cs_ast.specs.declared.expression.WithPart.{WithPart}
use Rattle.cs_ast.specs.declared.scope.Scope.{Scope}
use Rattle.cs_rules.specs.declared.checked.ExprType.{ExprType}
use Rattle.cs_rules.specs.Judged.{Judged, fine, ◌>>=◌}
use Rattle.cs_rules.specs.Expressions as e
use Rattle.cs_rules.specs.Expressions.{Given}
use Rattle.cs_rules.specs.Statements as st
use Rattle.cs_rules.specs.Statements.{Statement}
use Rattle.cs_rules.specs.Trees.{Uses, statement_of_form, text_part}
use Rattle.cs_forbidden.specs.declared.forbidden.Forbidden.{Forbidden}
use Rattle.cs_forbidden.specs.Roots.{against, against_called}
use Rattle.cs_forbidden.specs.Trees.{allowed, uses_of_form, uses, statement}
use Rattle.cs_forbidden.specs.Forms.{KindLayer, StatementLayer, uses_of_kind, statement_of_kind, piece, section, given, in_kind, in_statement, value_of_kind, callee_of_kind}

module _ (f : Forbidden) where
  pub uses_law : (a : Expr) → uses f a ≡ uses_of_kind f a.kind a.place
  unfolding uses uses_of_kind
  uses_law a =
      fold_out-Expr (Unit {0}) (Place → Uses) (Place → Statement) (Scope → Judged Code) Uses (ExprType → Scope → Judged Code) Statement Given
      (λ body. tt) (uses_of_form f) statement_of_form text_part (λ it. it.kind it.place) (λ it. st.section it.labels it.body)
      (λ it. it.kind it.place) (λ it. record { name = it.name; value = it.value.value }) a

  pub statement_law : (a : Stmt) → statement f a ≡ statement_of_kind f a.kind a.place
  unfolding statement statement_of_kind
  statement_law a =
      fold_out-Stmt (Unit {0}) (Place → Uses) (Place → Statement) (Scope → Judged Code) Uses (ExprType → Scope → Judged Code) Statement Given
      (λ body. tt) (uses_of_form f) statement_of_form text_part (λ it. it.kind it.place) (λ it. st.section it.labels it.body)
      (λ it. it.kind it.place) (λ it. record { name = it.name; value = it.value.value }) a

  -- a form at its root
  pub form_law : (x : KindLayer) (place : Place) → uses_of_kind f (roll-ExprKind x) place ≡ uses_of_form f (in_kind f x) place
  unfolding uses uses_of_kind piece given statement statement_of_kind section
  form_law x place = ap (λ at. at place) (fold-roll-ExprKind (Unit {0}) (Place → Uses) (Place → Statement) (Scope → Judged Code) Uses (ExprType → Scope → Judged Code) Statement Given
      (λ body. tt) (uses_of_form f) statement_of_form text_part (λ it. it.kind it.place) (λ it. st.section it.labels it.body)
      (λ it. it.kind it.place) (λ it. record { name = it.name; value = it.value.value }) x)

  pub statement_form_law : (x : StatementLayer) (place : Place) → statement_of_kind f (roll-StmtKind x) place ≡ statement_of_form (in_statement f x) place
  unfolding uses uses_of_kind piece given statement statement_of_kind section
  statement_form_law x place = ap (λ at. at place) (fold-roll-StmtKind (Unit {0}) (Place → Uses) (Place → Statement) (Scope → Judged Code) Uses (ExprType → Scope → Judged Code) Statement Given
      (λ body. tt) (uses_of_form f) statement_of_form text_part (λ it. it.kind it.place) (λ it. st.section it.labels it.body)
      (λ it. it.kind it.place) (λ it. record { name = it.name; value = it.value.value }) x)

  pub given_law : (a : WithPart) → given f a ≡ record { name = a.name; value = (uses f a.value).value }
  unfolding given uses
  given_law a =
      fold_out-WithPart (Unit {0}) (Place → Uses) (Place → Statement) (Scope → Judged Code) Uses (ExprType → Scope → Judged Code) Statement Given
      (λ body. tt) (uses_of_form f) statement_of_form text_part (λ it. it.kind it.place) (λ it. st.section it.labels it.body)
      (λ it. it.kind it.place) (λ it. record { name = it.name; value = it.value.value }) a

  pub section_law : (a : Section) → section f a ≡ st.section (out-Section a).labels (map (statement f) (out-Section a).body)
  unfolding section statement
  section_law a =
      fold_out-Section (Unit {0}) (Place → Uses) (Place → Statement) (Scope → Judged Code) Uses (ExprType → Scope → Judged Code) Statement Given
      (λ body. tt) (uses_of_form f) statement_of_form text_part (λ it. it.kind it.place) (λ it. st.section it.labels it.body)
      (λ it. it.kind it.place) (λ it. record { name = it.name; value = it.value.value }) a

  pub literal_piece : (text : List ℕ) (s : Scope) → piece f (tp.Literal text) s ≡ fine (c.Piece text)
  unfolding piece text_part
  literal_piece text s = ap (λ part. piece f part s) (sym (tp.rolls-Literal text)) ∙ ap (λ at. at s) (fold-roll-TextPart (Unit {0}) (Place → Uses) (Place → Statement) (Scope → Judged Code) Uses (ExprType → Scope → Judged Code) Statement Given
      (λ body. tt) (uses_of_form f) statement_of_form text_part (λ it. it.kind it.place) (λ it. st.section it.labels it.body)
      (λ it. it.kind it.place) (λ it. record { name = it.name; value = it.value.value }) (TextPart-F.Literal text))

  pub hole_piece : (a : Expr) (s : Scope) → piece f (tp.Hole a) s ≡ e.hole (uses f a).value s
  unfolding piece text_part uses
  hole_piece a s = ap (λ part. piece f part s) (sym (tp.rolls-Hole a)) ∙ ap (λ at. at s) (fold-roll-TextPart (Unit {0}) (Place → Uses) (Place → Statement) (Scope → Judged Code) Uses (ExprType → Scope → Judged Code) Statement Given
      (λ body. tt) (uses_of_form f) statement_of_form text_part (λ it. it.kind it.place) (λ it. st.section it.labels it.body)
      (λ it. it.kind it.place) (λ it. record { name = it.name; value = it.value.value }) (TextPart-F.Hole a))

  -- a whole expression: its form, and then what its own code does
  pub value_law : (a : Expr) (s : Scope) → (uses f a).value s ≡ value_of_kind f a.kind a.place s >>= (λ x. allowed (against f x.code) a.place x)
  unfolding uses_of_form value_of_kind
  value_law a s =
      ap (λ (u : Uses). u.value s) (uses_law a ∙ ap (λ kind. uses_of_kind f kind a.place) (sym (roll-out-ExprKind a.kind)) ∙ form_law (out-ExprKind a.kind) a.place)

  pub callee_law : (a : Expr) (s : Scope) → (uses f a).callee s ≡ callee_of_kind f a.kind a.place s >>= (λ it. allowed (against_called f it.called) a.place it)
  unfolding uses_of_form callee_of_kind
  callee_law a s =
      ap (λ (u : Uses). u.callee s) (uses_law a ∙ ap (λ kind. uses_of_kind f kind a.place) (sym (roll-out-ExprKind a.kind)) ∙ form_law (out-ExprKind a.kind) a.place)
