-- The rules that each form of node breaks.
use Rattle.std.proofs.Common.{◌≡◌, ℕ, List, [], ◌∷◌, ◌++◌, map, ap, sym, refl, ◌∙◌}
use Rattle.std.specs.Prelude.{Bool, true, false, if◌then◌else◌, Option, Some, None, option_map}
use Rattle.std.specs.List.{flat_map}
use Rattle.text_core.specs.declared.place.Place.{Place}
use Rattle.cs_ast.specs.declared.cs_type.CsType.{CsType}
use Rattle.cs_ast.specs.declared.expression.Expr.{Expr}
use Rattle.cs_ast.specs.declared.expression.Stmt.{Stmt}
use Rattle.cs_ast.specs.declared.identifier.Ident.{Ident}
use Rattle.cs_ast.specs.declared.expression.StmtKind.{out-StmtKind}
use Rattle.razor_ast.specs.declared.attribute.Attribute.{Attribute}
use Rattle.razor_ast.specs.declared.node.TNode.{TNode, TNode-F}
use Rattle.razor_ast.specs.declared.node.TNode.TheVariants as nd
use Rattle.razor_ast.specs.declared.node.TSection.{TSection}
use Rattle.razor_rules.specs.declared.finding.Broken.{Broken}
use Rattle.razor_rules.specs.declared.ground.Ground.{Ground}
use Rattle.razor_rules.specs.Scopes.{Home}
use Rattle.razor_rules.specs.Parts.{Part, Part_of_switch, in_order}
use Rattle.razor_rules.specs.Templates.{part_of, part_of_section}
use Rattle.razor_rules.proofs.TemplateLaws.{part_at}
use Rattle.razor_rules.specs.Findings.{found, found_then}
use Rattle.razor_rules.specs.Grounds.{in_loop}
use Rattle.razor_rules.specs.Values.{content}
use Rattle.razor_rules.specs.Elements.{element_rules}
use Rattle.razor_rules.specs.Parameters.{tagged}
use Rattle.razor_rules.specs.Tags.{tag_rules, fragment_tag}
use Rattle.razor_rules.specs.Templates.{option_list, test_rules, statement_level, for_rules, item_ground, decided}

module _ (home : Home) (g : Ground) where
  pub element_rules_law : (n : ℕ) (p : Place) (nm : Ident) (atts : List Attribute) (cs : List TNode) → (part_of home (nd.Element n p nm atts cs)).rules g ≡ (element_rules home nm.name atts g ++ in_order (map (part_of home) cs) g)
  element_rules_law n p nm atts cs = ap (λ (it : Part). it.rules g) (part_at home (nd.Element n p nm atts cs) (TNode-F.Element n p nm atts cs) (nd.rolls-Element n p nm atts cs))

  pub child_rules_law : (n : ℕ) (p : Place) (nm : Ident) (atts : List Attribute) (cs : List TNode) → (part_of home (nd.Child n p nm atts cs)).rules g ≡ (tag_rules (tagged home nm.name) p nm atts (map (part_of home) cs) g)
  child_rules_law n p nm atts cs = ap (λ (it : Part). it.rules g) (part_at home (nd.Child n p nm atts cs) (TNode-F.Child n p nm atts cs) (nd.rolls-Child n p nm atts cs))

  pub text_rules_law : (n : ℕ) (p : Place) (t : List ℕ) → (part_of home (nd.Text n p t)).rules g ≡ ([])
  text_rules_law n p t = ap (λ (it : Part). it.rules g) (part_at home (nd.Text n p t) (TNode-F.Text n p t) (nd.rolls-Text n p t))

  pub raw_rules_law : (n : ℕ) (p : Place) (t : List ℕ) → (part_of home (nd.Raw n p t)).rules g ≡ ([])
  raw_rules_law n p t = ap (λ (it : Part). it.rules g) (part_at home (nd.Raw n p t) (TNode-F.Raw n p t) (nd.rolls-Raw n p t))

  pub content_rules_law : (n : ℕ) (p : Place) (a : Expr) → (part_of home (nd.Content n p a)).rules g ≡ (found (content g a))
  content_rules_law n p a = ap (λ (it : Part). it.rules g) (part_at home (nd.Content n p a) (TNode-F.Content n p a) (nd.rolls-Content n p a))

  pub group_rules_law : (p : Place) (cs : List TNode) → (part_of home (nd.Group p cs)).rules g ≡ (in_order (map (part_of home) cs) g)
  group_rules_law p cs = ap (λ (it : Part). it.rules g) (part_at home (nd.Group p cs) (TNode-F.Group p cs) (nd.rolls-Group p cs))

  pub statement_rules_law : (st : Stmt) → (part_of home (nd.Statement st)).rules g ≡ (statement_level (out-StmtKind st.kind) st g)
  statement_rules_law st = ap (λ (it : Part). it.rules g) (part_at home (nd.Statement st) (TNode-F.Statement st) (nd.rolls-Statement st))

  pub block_rules_law : (p : Place) (cs : List TNode) → (part_of home (nd.Block p cs)).rules g ≡ (in_order (map (part_of home) cs) g)
  block_rules_law p cs = ap (λ (it : Part). it.rules g) (part_at home (nd.Block p cs) (TNode-F.Block p cs) (nd.rolls-Block p cs))

  pub if_rules_law : (p : Place) (a : Expr) (h : TNode) (o : Option TNode) → (part_of home (nd.If p a h o)).rules g ≡ (test_rules a g ++ (part_of home h).rules g ++ flat_map (λ (one : Part). one.rules g) (option_list (option_map (part_of home) o)))
  if_rules_law p a h None = ap (λ (it : Part). it.rules g) (part_at home (nd.If p a h None) (TNode-F.If p a h None) (nd.rolls-If p a h None))
  if_rules_law p a h (Some o) = ap (λ (it : Part). it.rules g) (part_at home (nd.If p a h (Some o)) (TNode-F.If p a h (Some o)) (nd.rolls-If p a h (Some o)))

  pub switch_rules_law : (p : Place) (a : Expr) (ss : List TSection) → (part_of home (nd.Switch p a ss)).rules g ≡ (found_then (decided a g) (λ given. flat_map (λ (one : Part_of_switch). one.rules given g) (map (part_of_section home) ss)))
  switch_rules_law p a ss = ap (λ (it : Part). it.rules g) (part_at home (nd.Switch p a ss) (TNode-F.Switch p a ss) (nd.rolls-Switch p a ss))

  pub for_rules_law : (n : ℕ) (p : Place) (s : Option Stmt) (a : Option Expr) (b : Option Expr) (h : TNode) → (part_of home (nd.For n p s a b h)).rules g ≡ (for_rules s a b (part_of home h) g)
  for_rules_law n p s a b h = ap (λ (it : Part). it.rules g) (part_at home (nd.For n p s a b h) (TNode-F.For n p s a b h) (nd.rolls-For n p s a b h))

  pub for_each_rules_law : (n : ℕ) (p : Place) (nm : Ident) (a : Expr) (h : TNode) → (part_of home (nd.ForEach n p nm a h)).rules g ≡ (found_then (item_ground nm a (part_of home h) g) (λ inner. (part_of home h).rules (in_loop inner)))
  for_each_rules_law n p nm a h = ap (λ (it : Part). it.rules g) (part_at home (nd.ForEach n p nm a h) (TNode-F.ForEach n p nm a h) (nd.rolls-ForEach n p nm a h))

  pub while_rules_law : (n : ℕ) (p : Place) (a : Expr) (h : TNode) → (part_of home (nd.While n p a h)).rules g ≡ (test_rules a g ++ (part_of home h).rules (in_loop g))
  while_rules_law n p a h = ap (λ (it : Part). it.rules g) (part_at home (nd.While n p a h) (TNode-F.While n p a h) (nd.rolls-While n p a h))

module _ (home : Home) (g : Ground) (argument : Option CsType) (outer : Option Ident) where
  pub element_as_fragment : (n : ℕ) (p : Place) (nm : Ident) (atts : List Attribute) (cs : List TNode) → (part_of home (nd.Element n p nm atts cs)).as_fragment g argument outer ≡ []
  element_as_fragment n p nm atts cs = ap (λ (it : Part). it.as_fragment g argument outer) (part_at home (nd.Element n p nm atts cs) (TNode-F.Element n p nm atts cs) (nd.rolls-Element n p nm atts cs))

  pub child_as_fragment : (n : ℕ) (p : Place) (nm : Ident) (atts : List Attribute) (cs : List TNode) → (part_of home (nd.Child n p nm atts cs)).as_fragment g argument outer ≡ fragment_tag p atts (map (part_of home) cs) g argument outer
  child_as_fragment n p nm atts cs = ap (λ (it : Part). it.as_fragment g argument outer) (part_at home (nd.Child n p nm atts cs) (TNode-F.Child n p nm atts cs) (nd.rolls-Child n p nm atts cs))

  pub text_as_fragment : (n : ℕ) (p : Place) (t : List ℕ) → (part_of home (nd.Text n p t)).as_fragment g argument outer ≡ []
  text_as_fragment n p t = ap (λ (it : Part). it.as_fragment g argument outer) (part_at home (nd.Text n p t) (TNode-F.Text n p t) (nd.rolls-Text n p t))

  pub raw_as_fragment : (n : ℕ) (p : Place) (t : List ℕ) → (part_of home (nd.Raw n p t)).as_fragment g argument outer ≡ []
  raw_as_fragment n p t = ap (λ (it : Part). it.as_fragment g argument outer) (part_at home (nd.Raw n p t) (TNode-F.Raw n p t) (nd.rolls-Raw n p t))

  pub content_as_fragment : (n : ℕ) (p : Place) (a : Expr) → (part_of home (nd.Content n p a)).as_fragment g argument outer ≡ []
  content_as_fragment n p a = ap (λ (it : Part). it.as_fragment g argument outer) (part_at home (nd.Content n p a) (TNode-F.Content n p a) (nd.rolls-Content n p a))

  pub group_as_fragment : (p : Place) (cs : List TNode) → (part_of home (nd.Group p cs)).as_fragment g argument outer ≡ []
  group_as_fragment p cs = ap (λ (it : Part). it.as_fragment g argument outer) (part_at home (nd.Group p cs) (TNode-F.Group p cs) (nd.rolls-Group p cs))

  pub statement_as_fragment : (st : Stmt) → (part_of home (nd.Statement st)).as_fragment g argument outer ≡ []
  statement_as_fragment st = ap (λ (it : Part). it.as_fragment g argument outer) (part_at home (nd.Statement st) (TNode-F.Statement st) (nd.rolls-Statement st))

  pub block_as_fragment : (p : Place) (cs : List TNode) → (part_of home (nd.Block p cs)).as_fragment g argument outer ≡ []
  block_as_fragment p cs = ap (λ (it : Part). it.as_fragment g argument outer) (part_at home (nd.Block p cs) (TNode-F.Block p cs) (nd.rolls-Block p cs))

  pub if_as_fragment : (p : Place) (a : Expr) (h : TNode) (o : Option TNode) → (part_of home (nd.If p a h o)).as_fragment g argument outer ≡ []
  if_as_fragment p a h None = ap (λ (it : Part). it.as_fragment g argument outer) (part_at home (nd.If p a h None) (TNode-F.If p a h None) (nd.rolls-If p a h None))
  if_as_fragment p a h (Some o) = ap (λ (it : Part). it.as_fragment g argument outer) (part_at home (nd.If p a h (Some o)) (TNode-F.If p a h (Some o)) (nd.rolls-If p a h (Some o)))

  pub switch_as_fragment : (p : Place) (a : Expr) (ss : List TSection) → (part_of home (nd.Switch p a ss)).as_fragment g argument outer ≡ []
  switch_as_fragment p a ss = ap (λ (it : Part). it.as_fragment g argument outer) (part_at home (nd.Switch p a ss) (TNode-F.Switch p a ss) (nd.rolls-Switch p a ss))

  pub for_as_fragment : (n : ℕ) (p : Place) (s : Option Stmt) (a : Option Expr) (b : Option Expr) (h : TNode) → (part_of home (nd.For n p s a b h)).as_fragment g argument outer ≡ []
  for_as_fragment n p s a b h = ap (λ (it : Part). it.as_fragment g argument outer) (part_at home (nd.For n p s a b h) (TNode-F.For n p s a b h) (nd.rolls-For n p s a b h))

  pub for_each_as_fragment : (n : ℕ) (p : Place) (nm : Ident) (a : Expr) (h : TNode) → (part_of home (nd.ForEach n p nm a h)).as_fragment g argument outer ≡ []
  for_each_as_fragment n p nm a h = ap (λ (it : Part). it.as_fragment g argument outer) (part_at home (nd.ForEach n p nm a h) (TNode-F.ForEach n p nm a h) (nd.rolls-ForEach n p nm a h))

  pub while_as_fragment : (n : ℕ) (p : Place) (a : Expr) (h : TNode) → (part_of home (nd.While n p a h)).as_fragment g argument outer ≡ []
  while_as_fragment n p a h = ap (λ (it : Part). it.as_fragment g argument outer) (part_at home (nd.While n p a h) (TNode-F.While n p a h) (nd.rolls-While n p a h))
