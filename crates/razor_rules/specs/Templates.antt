-- The rules of templates: by recursion on their nodes.
use Rattle.std.specs.Prelude.{ℕ, ◌||◌, true, false, List, [], ◌∷◌, ◌++◌, if◌then◌else◌, Option, Some, None}
use Rattle.std.specs.List.{flat_map, list_any}
use Rattle.cs_ast.specs.declared.expression.Body.{Body}
use Rattle.cs_ast.specs.declared.expression.Expr.{Expr}
use Rattle.cs_ast.specs.declared.expression.ExprKind.{ExprKind}
use Rattle.cs_ast.specs.declared.expression.Label.{Label}
use Rattle.cs_ast.specs.declared.expression.Section.{Section}
use Rattle.cs_ast.specs.declared.expression.Stmt.{Stmt}
use Rattle.cs_ast.specs.declared.expression.StmtKind.{StmtKind, StmtKind-F, out-StmtKind}
use Rattle.cs_ast.specs.declared.expression.TextPart.{TextPart}
use Rattle.cs_ast.specs.declared.expression.WithPart.{WithPart}
use Rattle.cs_ast.specs.declared.identifier.Ident.{Ident}
use Rattle.cs_ast.specs.declared.scope.Scope.{Scope}
use Rattle.cs_rules.specs.declared.checked.ExprType.{ExprType}
use Rattle.cs_rules.specs.declared.rule.Rule.TheVariants.{LoopJump}
use Rattle.cs_rules.specs.Judged.{Judged, fine, mismatch, ◌>>=◌}
use Rattle.cs_rules.specs.Names.{is_new, with_local}
use Rattle.cs_rules.specs.Expressions.{items_of}
use Rattle.cs_rules.specs.Statements.{condition, decides, constants}
use Rattle.razor_ast.specs.Literals.{is_white}
use Rattle.razor_ast.specs.declared.node.TNode.{TNode}
use Rattle.razor_ast.specs.declared.node.TNode.TheOpen.{TNode-F}
use Rattle.razor_ast.specs.declared.node.TNode.TheFolds.{fold-TNode, fold-TSection}
use Rattle.razor_ast.specs.declared.node.TSection.{TSection}
use Rattle.cs_forbidden.specs.declared.forbidden.Mark.TheVariants.{OfFor}
use Rattle.razor_rules.specs.declared.finding.Broken.{Broken}
use Rattle.razor_rules.specs.Findings.{broken, found, found_then}
use Rattle.cs_forbidden.specs.Trees.{statement, uses}
use Rattle.razor_rules.specs.Scopes.{Home}
use Rattle.razor_rules.specs.declared.ground.Ground.{Ground}
use Rattle.razor_rules.specs.Grounds.{in_loop, behind_local, mark_of}
use Rattle.razor_rules.specs.Values.{value, content}
use Rattle.razor_rules.specs.TemplateDeeds.{changing, if_any, expression_does, statement_does, attributes_do}
use Rattle.razor_rules.specs.Elements.{element_rules}
use Rattle.razor_rules.specs.Parameters.{tagged}
use Rattle.razor_rules.specs.Parts.{Part, Part_of_switch, in_order, any_does, plain, text, no_fragment}
use Rattle.razor_rules.specs.Tags.{fragment_tag, tag_rules}

abbrev pub option_list : {A : Type 0} → Option A → List A
option_list None = []
option_list (Some x) = x ∷ []

-- one level of a statement
abbrev pub Level : Type 0
Level = StmtKind-F Body ExprKind StmtKind TextPart Expr Section Stmt WithPart

-- the name of a local that a statement declares
abbrev pub declared_level : Level → Option (List ℕ)
declared_level (StmtKind-F.Local cs_type name value) = Some name.name
declared_level _ = None

unfoldable pub declared_by : Stmt → Option (List ℕ)
declared_by one = declared_level (out-StmtKind one.kind)

-- behind the start of a `for`, whose local is one that a `for` declares
abbrev pub behind_start : Option (List ℕ) → Ground → Scope → Ground
behind_start None g s = g
behind_start (Some name) g s = behind_local g s OfFor

-- a test
abbrev pub test_rules : Expr → Ground → List Broken
test_rules a g = found (condition (uses g.forbidden a).value g.scope)

-- a statement without statements in it; `break` stands in a `switch` only, and the other jumps nowhere
abbrev pub statement_level : Level → Stmt → Ground → List Broken
statement_level StmtKind-F.Break one g = if g.in_switch then [] else broken LoopJump one.place ∷ []
statement_level StmtKind-F.Continue one g = broken LoopJump one.place ∷ []
statement_level (StmtKind-F.Return value) one g = broken LoopJump one.place ∷ []
statement_level _ one g = found (statement g.forbidden one g.scope)

abbrev pub statement_part : Stmt → Part
statement_part one =
    record {
      place = one.place;
      blank = false;
      tag = None;
      declares = declared_by one;
      does = λ deed. statement_does deed one;
      rules = λ g. statement_level (out-StmtKind one.kind) one g;
      behind = λ g. statement g.forbidden one g.scope >>= λ it. fine it.scope;
      as_fragment = no_fragment;
    }

-- the start of a `for`
abbrev pub started : Option Stmt → Ground → Judged Ground
started None g = fine g
started (Some start) g = statement g.forbidden start g.scope >>= λ it. fine (behind_start (declared_by start) g it.scope)

abbrev pub step_rules : Expr → Ground → List Broken
step_rules a g = found (value g a)

abbrev pub for_rules : Option Stmt → Option Expr → Option Expr → Part → Ground → List Broken
for_rules start test step body g =
    found_then (started start g) (λ inner.
    flat_map (λ a. test_rules a inner) (option_list test)
    ++ flat_map (λ a. step_rules a inner) (option_list step)
    ++ body.rules (in_loop inner))

-- the scope in the body of a `foreach`
abbrev pub item_ground : Ident → Expr → Part → Ground → Judged Ground
item_ground name list body g = do
  new ← is_new g.scope name
  x ← value g list
  item ← items_of x.place x.expr_type
  fine (behind_local g (with_local g.scope name.name item) (mark_of (body.does (changing name.name))))

-- the type by which a `switch` decides
abbrev pub decided : Expr → Ground → Judged ExprType
decided a g = do
  x ← value g a
  if decides x.expr_type then fine x.expr_type else mismatch x.place

-- the rules of a section
abbrev pub section_rules : List Label → List Part → ExprType → Ground → List Broken
section_rules labels items type g = found (constants type labels) ++ in_order items (record g { in_switch = true })

module _ (home : Home) where
  -- a node, by its parts
  abbrev pub part : TNode-F Part Part_of_switch → Part
  part (TNode-F.Element number place name attributes children) =
      plain place (λ deed. attributes_do deed attributes || any_does children deed) (λ g. element_rules home name.name attributes g ++ in_order children g)
  part (TNode-F.Child number place name attributes children) =
      record {
        place = place;
        blank = false;
        tag = Some name.name;
        declares = None;
        does = λ deed. attributes_do deed attributes || any_does children deed;
        rules = λ g. tag_rules (tagged home name.name) place name attributes children g;
        behind = λ g. fine g.scope;
        as_fragment = λ g argument outer. fragment_tag place attributes children g argument outer;
      }
  part (TNode-F.Text number place said) = text place (is_white said)
  part (TNode-F.Raw number place said) = text place false
  part (TNode-F.Content number place a) = plain place (λ deed. expression_does deed a) (λ g. found (content g a))
  part (TNode-F.Group place items) = plain place (any_does items) (in_order items)
  part (TNode-F.Statement one) = statement_part one
  part (TNode-F.Block place items) = plain place (any_does items) (in_order items)
  part (TNode-F.If place test holds fails) =
      plain place (λ deed. expression_does deed test || holds.does deed || if_any (λ (one : Part). one.does deed) fails) (λ g. test_rules test g ++ holds.rules g ++ flat_map (λ (one : Part). one.rules g) (option_list fails))
  part (TNode-F.Switch place a sections) =
      plain place (λ deed. expression_does deed a || list_any (λ (one : Part_of_switch). one.does deed) sections)
      (λ g. found_then (decided a g) (λ type. flat_map (λ (one : Part_of_switch). one.rules type g) sections))
  part (TNode-F.For number place start test step body) =
      plain place (λ deed. if_any (statement_does deed) start || if_any (expression_does deed) test || if_any (expression_does deed) step || body.does deed) (for_rules start test step body)
  part (TNode-F.ForEach number place name list body) =
      plain place (λ deed. expression_does deed list || body.does deed) (λ g. found_then (item_ground name list body g) (λ inner. body.rules (in_loop inner)))
  part (TNode-F.While number place test body) =
      plain place (λ deed. expression_does deed test || body.does deed) (λ g. test_rules test g ++ body.rules (in_loop g))

  unfoldable pub part_of : TNode → Part
  part_of =
      fold-TNode Part Part_of_switch part
      (λ section. record { does = λ deed. any_does section.items deed; rules = section_rules section.labels section.items })

  -- a section of a `switch`
  unfoldable pub part_of_section : TSection → Part_of_switch
  part_of_section =
      fold-TSection Part Part_of_switch part
      (λ section. record { does = λ deed. any_does section.items deed; rules = section_rules section.labels section.items })
