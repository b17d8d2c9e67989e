-- Nodes.
use Rattle.std.specs.Prelude.{ℕ, List, [], ◌∷◌, Option, Some, None}
use Rattle.std.specs.List.{flat_map}
use Rattle.cs_ast.specs.declared.expression.Expr.{Expr}
use Rattle.cs_ast.specs.declared.expression.Label.{Label}
use Rattle.cs_ast.specs.declared.expression.Stmt.{Stmt}
use Rattle.cs_ast.specs.declared.expression.StmtKind.{StmtKind-F, out-StmtKind}
use Rattle.cs_ast.specs.declared.scope.Scope.{Scope}
use Rattle.cs_meaning.specs.Sections.{Section}
use Rattle.cs_rules.specs.Judged.{Judged, fine}
use Rattle.cs_rules.specs.Judged.{◌>>=◌ as ◌>>>=◌}
use Rattle.cs_rules.specs.Names.{with_local}
use Rattle.cs_rules.specs.Statements.{has_default}
use Rattle.cs_rules.specs.Trees.{value_in, statement}
use Rattle.drawing_meaning.specs.Acts.{Act}
use Rattle.drawing_meaning.specs.Nodes as act
use Rattle.drawing_meaning.specs.Turns as turns
use Rattle.razor_ast.specs.declared.attribute.Attribute.{Attribute}
use Rattle.razor_rules.specs.Scopes.{Home}
use Rattle.razor_rules.specs.Templates.{Level}
use Rattle.page_meaning.specs.Nodes as page
use Rattle.page_meaning.specs.Nodes.{appears, constant_of}
use Rattle.page_meaning.specs.Parts.{Part, Part_of_switch}
use Rattle.frame_parts.specs.Attributes.{dressed}
use Rattle.frame_parts.specs.Heads.{headed, listed}
use Rattle.frame_parts.specs.Order.{in_order}
use Rattle.frame_parts.specs.Steps.{Steps, step, alone, judged, each, code_in, ◌>>=◌}

abbrev pub content : Scope → ℕ → Expr → Judged (List Act)
content s number a = value_in s a >>>= (λ x. fine (act.content number (appears x.expr_type) x.code ∷ []))

abbrev pub plain_statement : Scope → Stmt → Judged (List Act)
plain_statement s one = statement one s >>>= (λ it. fine (act.statement it.code ∷ []))

abbrev pub statement_level : Level → Scope → Stmt → Judged (List Act)
statement_level StmtKind-F.Break s one = fine (act.break_out ∷ [])
statement_level _ s one = plain_statement s one

-- a statement without statements in it
unfoldable pub statement_form : Scope → Stmt → Judged (List Act)
statement_form s one = statement_level (out-StmtKind one.kind) s one

abbrev pub section_of : List Label → List Act → Section (List Act)
section_of labels acts = record { constants = flat_map (λ one. constant_of one.kind) labels; otherwise = has_default labels; statements = acts }

module _ (home : Home) (s : Scope) where
  abbrev pub element : ℕ → List ℕ → List Attribute → List Part → Steps (List Act)
  element number name attributes children = do
    worn ← dressed home s name attributes attributes
    inside ← in_order home children s
    alone (act.element number name worn inside ∷ [])

  abbrev pub block : List Part → Steps (List Act)
  block items = do
    acts ← in_order home items s
    alone (act.block acts ∷ [])

  abbrev pub or_nothing : Option Part → Steps (List Act)
  or_nothing None = alone []
  or_nothing (Some one) = step (one.makes home s)

  abbrev pub branch : Expr → Part → Option Part → Steps (List Act)
  branch test one other = do
    code ← judged (code_in s test)
    holds ← step (one.makes home s)
    fails ← or_nothing other
    alone (act.branch code holds fails ∷ [])

  abbrev pub section : List Label → List Part → Steps (Section (List Act))
  section labels items = do
    acts ← in_order home items s
    alone (section_of labels acts)

  -- the same of a section whose parts are known
  abbrev pub section_of_part : Part_of_switch → Steps (Section (List Act))
  section_of_part one = step (page.section_acts home s one.section)

  abbrev pub sections : List Part_of_switch → Steps (List (Section (List Act)))
  sections all = each section_of_part all

  abbrev pub switch : Expr → List Part_of_switch → Steps (List Act)
  switch a all = do
    code ← judged (code_in s a)
    acts ← sections all
    alone (act.switch code acts ∷ [])

  abbrev pub while_loop : ℕ → Expr → Part → Steps (List Act)
  while_loop number test body = do
    code ← judged (code_in s test)
    turn ← step (body.makes home s)
    alone (turns.while_loop number code body.turn_key turn ∷ [])

  abbrev pub for_loop : ℕ → Option Stmt → Option Expr → Option Expr → Part → Steps (List Act)
  for_loop number start test next body = do
    it ← judged (headed start test next s)
    turn ← step (body.makes home it.1)
    alone (turns.for_loop number it.0.0 it.0.1 it.0.2 body.turn_key turn ∷ [])

  abbrev pub for_each : ℕ → List ℕ → Expr → Part → Steps (List Act)
  for_each number name list body = do
    it ← judged (listed list s)
    turn ← step (body.makes home (with_local s name it.0))
    alone (turns.for_each number it.1 body.turn_key turn ∷ [])
