-- What is behind each form of node, and what it declares.
use Rattle.std.proofs.Common.{◌≡◌, ℕ, List, [], ◌∷◌, ◌++◌, map, ap, sym, refl, ◌∙◌}
use Rattle.std.specs.Prelude.{Bool, true, false, if◌then◌else◌, Option, Some, None, option_map}
use Rattle.std.specs.List.{flat_map}
use Rattle.text_core.specs.declared.place.Place.{Place}
use Rattle.cs_ast.specs.declared.cs_type.CsType.{CsType}
use Rattle.cs_ast.specs.declared.expression.Expr.{Expr}
use Rattle.cs_ast.specs.declared.expression.Stmt.{Stmt}
use Rattle.cs_ast.specs.declared.identifier.Ident.{Ident}
use Rattle.razor_ast.specs.declared.attribute.Attribute.{Attribute}
use Rattle.razor_ast.specs.declared.node.TNode.{TNode, TNode-F}
use Rattle.razor_ast.specs.declared.node.TNode.TheVariants as nd
use Rattle.razor_ast.specs.declared.node.TSection.{TSection}
use Rattle.razor_rules.specs.declared.finding.Broken.{Broken}
use Rattle.razor_rules.specs.declared.ground.Ground.{Ground}
use Rattle.razor_rules.specs.Scopes.{Home}
use Rattle.razor_rules.specs.Parts.{Part, Part_of_switch, in_order}
use Rattle.razor_rules.specs.Templates.{part_of, part_of_section}
use Rattle.razor_rules.proofs.TemplateLaws.{part_at}
use Rattle.cs_rules.specs.Judged.{fine, ◌>>=◌}
use Rattle.cs_forbidden.specs.Trees.{statement}
use Rattle.razor_rules.specs.Templates.{declared_by}

module _ (home : Home) where
  pub element_declares : (n : ℕ) (p : Place) (nm : Ident) (atts : List Attribute) (cs : List TNode) → (part_of home (nd.Element n p nm atts cs)).declares ≡ None
  element_declares n p nm atts cs = ap (λ (it : Part). it.declares) (part_at home (nd.Element n p nm atts cs) (TNode-F.Element n p nm atts cs) (nd.rolls-Element n p nm atts cs))

  pub child_declares : (n : ℕ) (p : Place) (nm : Ident) (atts : List Attribute) (cs : List TNode) → (part_of home (nd.Child n p nm atts cs)).declares ≡ None
  child_declares n p nm atts cs = ap (λ (it : Part). it.declares) (part_at home (nd.Child n p nm atts cs) (TNode-F.Child n p nm atts cs) (nd.rolls-Child n p nm atts cs))

  pub text_declares : (n : ℕ) (p : Place) (t : List ℕ) → (part_of home (nd.Text n p t)).declares ≡ None
  text_declares n p t = ap (λ (it : Part). it.declares) (part_at home (nd.Text n p t) (TNode-F.Text n p t) (nd.rolls-Text n p t))

  pub raw_declares : (n : ℕ) (p : Place) (t : List ℕ) → (part_of home (nd.Raw n p t)).declares ≡ None
  raw_declares n p t = ap (λ (it : Part). it.declares) (part_at home (nd.Raw n p t) (TNode-F.Raw n p t) (nd.rolls-Raw n p t))

  pub content_declares : (n : ℕ) (p : Place) (a : Expr) → (part_of home (nd.Content n p a)).declares ≡ None
  content_declares n p a = ap (λ (it : Part). it.declares) (part_at home (nd.Content n p a) (TNode-F.Content n p a) (nd.rolls-Content n p a))

  pub group_declares : (p : Place) (cs : List TNode) → (part_of home (nd.Group p cs)).declares ≡ None
  group_declares p cs = ap (λ (it : Part). it.declares) (part_at home (nd.Group p cs) (TNode-F.Group p cs) (nd.rolls-Group p cs))

  pub statement_declares : (st : Stmt) → (part_of home (nd.Statement st)).declares ≡ declared_by st
  statement_declares st = ap (λ (it : Part). it.declares) (part_at home (nd.Statement st) (TNode-F.Statement st) (nd.rolls-Statement st))

  pub block_declares : (p : Place) (cs : List TNode) → (part_of home (nd.Block p cs)).declares ≡ None
  block_declares p cs = ap (λ (it : Part). it.declares) (part_at home (nd.Block p cs) (TNode-F.Block p cs) (nd.rolls-Block p cs))

  pub if_declares : (p : Place) (a : Expr) (h : TNode) (o : Option TNode) → (part_of home (nd.If p a h o)).declares ≡ None
  if_declares p a h None = ap (λ (it : Part). it.declares) (part_at home (nd.If p a h None) (TNode-F.If p a h None) (nd.rolls-If p a h None))
  if_declares p a h (Some o) = ap (λ (it : Part). it.declares) (part_at home (nd.If p a h (Some o)) (TNode-F.If p a h (Some o)) (nd.rolls-If p a h (Some o)))

  pub switch_declares : (p : Place) (a : Expr) (ss : List TSection) → (part_of home (nd.Switch p a ss)).declares ≡ None
  switch_declares p a ss = ap (λ (it : Part). it.declares) (part_at home (nd.Switch p a ss) (TNode-F.Switch p a ss) (nd.rolls-Switch p a ss))

  pub for_declares : (n : ℕ) (p : Place) (s : Option Stmt) (a : Option Expr) (b : Option Expr) (h : TNode) → (part_of home (nd.For n p s a b h)).declares ≡ None
  for_declares n p s a b h = ap (λ (it : Part). it.declares) (part_at home (nd.For n p s a b h) (TNode-F.For n p s a b h) (nd.rolls-For n p s a b h))

  pub for_each_declares : (n : ℕ) (p : Place) (nm : Ident) (a : Expr) (h : TNode) → (part_of home (nd.ForEach n p nm a h)).declares ≡ None
  for_each_declares n p nm a h = ap (λ (it : Part). it.declares) (part_at home (nd.ForEach n p nm a h) (TNode-F.ForEach n p nm a h) (nd.rolls-ForEach n p nm a h))

  pub while_declares : (n : ℕ) (p : Place) (a : Expr) (h : TNode) → (part_of home (nd.While n p a h)).declares ≡ None
  while_declares n p a h = ap (λ (it : Part). it.declares) (part_at home (nd.While n p a h) (TNode-F.While n p a h) (nd.rolls-While n p a h))

module _ (home : Home) (g : Ground) where
  pub element_behind : (n : ℕ) (p : Place) (nm : Ident) (atts : List Attribute) (cs : List TNode) → (part_of home (nd.Element n p nm atts cs)).behind g ≡ fine g.scope
  element_behind n p nm atts cs = ap (λ (it : Part). it.behind g) (part_at home (nd.Element n p nm atts cs) (TNode-F.Element n p nm atts cs) (nd.rolls-Element n p nm atts cs))

  pub child_behind : (n : ℕ) (p : Place) (nm : Ident) (atts : List Attribute) (cs : List TNode) → (part_of home (nd.Child n p nm atts cs)).behind g ≡ fine g.scope
  child_behind n p nm atts cs = ap (λ (it : Part). it.behind g) (part_at home (nd.Child n p nm atts cs) (TNode-F.Child n p nm atts cs) (nd.rolls-Child n p nm atts cs))

  pub text_behind : (n : ℕ) (p : Place) (t : List ℕ) → (part_of home (nd.Text n p t)).behind g ≡ fine g.scope
  text_behind n p t = ap (λ (it : Part). it.behind g) (part_at home (nd.Text n p t) (TNode-F.Text n p t) (nd.rolls-Text n p t))

  pub raw_behind : (n : ℕ) (p : Place) (t : List ℕ) → (part_of home (nd.Raw n p t)).behind g ≡ fine g.scope
  raw_behind n p t = ap (λ (it : Part). it.behind g) (part_at home (nd.Raw n p t) (TNode-F.Raw n p t) (nd.rolls-Raw n p t))

  pub content_behind : (n : ℕ) (p : Place) (a : Expr) → (part_of home (nd.Content n p a)).behind g ≡ fine g.scope
  content_behind n p a = ap (λ (it : Part). it.behind g) (part_at home (nd.Content n p a) (TNode-F.Content n p a) (nd.rolls-Content n p a))

  pub group_behind : (p : Place) (cs : List TNode) → (part_of home (nd.Group p cs)).behind g ≡ fine g.scope
  group_behind p cs = ap (λ (it : Part). it.behind g) (part_at home (nd.Group p cs) (TNode-F.Group p cs) (nd.rolls-Group p cs))

  pub statement_behind : (st : Stmt) → (part_of home (nd.Statement st)).behind g ≡ (statement g.forbidden st g.scope >>= λ it. fine it.scope)
  statement_behind st = ap (λ (it : Part). it.behind g) (part_at home (nd.Statement st) (TNode-F.Statement st) (nd.rolls-Statement st))

  pub block_behind : (p : Place) (cs : List TNode) → (part_of home (nd.Block p cs)).behind g ≡ fine g.scope
  block_behind p cs = ap (λ (it : Part). it.behind g) (part_at home (nd.Block p cs) (TNode-F.Block p cs) (nd.rolls-Block p cs))

  pub if_behind : (p : Place) (a : Expr) (h : TNode) (o : Option TNode) → (part_of home (nd.If p a h o)).behind g ≡ fine g.scope
  if_behind p a h None = ap (λ (it : Part). it.behind g) (part_at home (nd.If p a h None) (TNode-F.If p a h None) (nd.rolls-If p a h None))
  if_behind p a h (Some o) = ap (λ (it : Part). it.behind g) (part_at home (nd.If p a h (Some o)) (TNode-F.If p a h (Some o)) (nd.rolls-If p a h (Some o)))

  pub switch_behind : (p : Place) (a : Expr) (ss : List TSection) → (part_of home (nd.Switch p a ss)).behind g ≡ fine g.scope
  switch_behind p a ss = ap (λ (it : Part). it.behind g) (part_at home (nd.Switch p a ss) (TNode-F.Switch p a ss) (nd.rolls-Switch p a ss))

  pub for_behind : (n : ℕ) (p : Place) (s : Option Stmt) (a : Option Expr) (b : Option Expr) (h : TNode) → (part_of home (nd.For n p s a b h)).behind g ≡ fine g.scope
  for_behind n p s a b h = ap (λ (it : Part). it.behind g) (part_at home (nd.For n p s a b h) (TNode-F.For n p s a b h) (nd.rolls-For n p s a b h))

  pub for_each_behind : (n : ℕ) (p : Place) (nm : Ident) (a : Expr) (h : TNode) → (part_of home (nd.ForEach n p nm a h)).behind g ≡ fine g.scope
  for_each_behind n p nm a h = ap (λ (it : Part). it.behind g) (part_at home (nd.ForEach n p nm a h) (TNode-F.ForEach n p nm a h) (nd.rolls-ForEach n p nm a h))

  pub while_behind : (n : ℕ) (p : Place) (a : Expr) (h : TNode) → (part_of home (nd.While n p a h)).behind g ≡ fine g.scope
  while_behind n p a h = ap (λ (it : Part). it.behind g) (part_at home (nd.While n p a h) (TNode-F.While n p a h) (nd.rolls-While n p a h))
