-- The equations of numbers.
use Rattle.std.proofs.Common.{◌≡◌, ℕ, ◌+◌, List, map, sym, ap, ◌∙◌}
use Rattle.std.specs.Prelude.{sum, Option, Some, None, option_map}
use Rattle.text_core.specs.declared.place.Place.{Place}
use Rattle.cs_ast.specs.declared.expression.Expr.{Expr}
use Rattle.cs_ast.specs.declared.expression.Stmt.{Stmt}
use Rattle.cs_ast.specs.declared.identifier.Ident.{Ident}
use Rattle.razor_ast.specs.declared.attribute.Attribute.{Attribute}
use Rattle.razor_ast.specs.declared.node.TNode.{TNode, TNode-F, roll-TNode}
use Rattle.razor_ast.specs.declared.node.TNode.TheVariants as nd
use Rattle.razor_ast.specs.declared.node.TSection.{TSection, out-TSection}
use Rattle.razor_ast.specs.declared.node.TNode.TheFolds.{fold-roll-TNode, fold_out-TSection, map-TNode}
use Rattle.razor_rules.specs.Numbers.{numbers_of, numbers_of_tag, numbers_of_parts, numbers_of_section, if_any}

at_node : (node : TNode) (x : TNode-F TNode TSection) → roll-TNode x ≡ node → numbers_of node ≡ numbers_of_parts (map-TNode TNode TSection ℕ ℕ numbers_of numbers_of_section x)
unfolding numbers_of numbers_of_section
at_node node x is = ap numbers_of (sym is) ∙ fold-roll-TNode ℕ ℕ numbers_of_parts (λ section. sum section.items) x

pub section_numbered : (section : TSection) → numbers_of_section section ≡ sum (map numbers_of (out-TSection section).items)
unfolding numbers_of numbers_of_section
section_numbered section = fold_out-TSection ℕ ℕ numbers_of_parts (λ section. sum section.items) section

pub element_numbered : (n : ℕ) (p : Place) (nm : Ident) (atts : List Attribute) (cs : List TNode) → numbers_of (nd.Element n p nm atts cs) ≡ numbers_of_tag atts (map numbers_of cs)
element_numbered n p nm atts cs = at_node (nd.Element n p nm atts cs) (TNode-F.Element n p nm atts cs) (nd.rolls-Element n p nm atts cs)

pub child_numbered : (n : ℕ) (p : Place) (nm : Ident) (atts : List Attribute) (cs : List TNode) → numbers_of (nd.Child n p nm atts cs) ≡ numbers_of_tag atts (map numbers_of cs)
child_numbered n p nm atts cs = at_node (nd.Child n p nm atts cs) (TNode-F.Child n p nm atts cs) (nd.rolls-Child n p nm atts cs)

pub text_numbered : (n : ℕ) (p : Place) (t : List ℕ) → numbers_of (nd.Text n p t) ≡ 1
text_numbered n p t = at_node (nd.Text n p t) (TNode-F.Text n p t) (nd.rolls-Text n p t)

pub raw_numbered : (n : ℕ) (p : Place) (t : List ℕ) → numbers_of (nd.Raw n p t) ≡ 1
raw_numbered n p t = at_node (nd.Raw n p t) (TNode-F.Raw n p t) (nd.rolls-Raw n p t)

pub content_numbered : (n : ℕ) (p : Place) (a : Expr) → numbers_of (nd.Content n p a) ≡ 1
content_numbered n p a = at_node (nd.Content n p a) (TNode-F.Content n p a) (nd.rolls-Content n p a)

pub group_numbered : (p : Place) (cs : List TNode) → numbers_of (nd.Group p cs) ≡ sum (map numbers_of cs)
group_numbered p cs = at_node (nd.Group p cs) (TNode-F.Group p cs) (nd.rolls-Group p cs)

pub statement_numbered : (st : Stmt) → numbers_of (nd.Statement st) ≡ 0
statement_numbered st = at_node (nd.Statement st) (TNode-F.Statement st) (nd.rolls-Statement st)

pub block_numbered : (p : Place) (cs : List TNode) → numbers_of (nd.Block p cs) ≡ sum (map numbers_of cs)
block_numbered p cs = at_node (nd.Block p cs) (TNode-F.Block p cs) (nd.rolls-Block p cs)

pub if_numbered : (p : Place) (a : Expr) (h : TNode) (o : Option TNode) → numbers_of (nd.If p a h o) ≡ numbers_of h + if_any (option_map numbers_of o)
if_numbered p a h None = at_node (nd.If p a h None) (TNode-F.If p a h None) (nd.rolls-If p a h None)
if_numbered p a h (Some o) = at_node (nd.If p a h (Some o)) (TNode-F.If p a h (Some o)) (nd.rolls-If p a h (Some o))

pub switch_numbered : (p : Place) (a : Expr) (ss : List TSection) → numbers_of (nd.Switch p a ss) ≡ sum (map numbers_of_section ss)
switch_numbered p a ss = at_node (nd.Switch p a ss) (TNode-F.Switch p a ss) (nd.rolls-Switch p a ss)

pub for_numbered : (n : ℕ) (p : Place) (s : Option Stmt) (a : Option Expr) (b : Option Expr) (h : TNode) → numbers_of (nd.For n p s a b h) ≡ 1 + numbers_of h
for_numbered n p s a b h = at_node (nd.For n p s a b h) (TNode-F.For n p s a b h) (nd.rolls-For n p s a b h)

pub for_each_numbered : (n : ℕ) (p : Place) (nm : Ident) (a : Expr) (h : TNode) → numbers_of (nd.ForEach n p nm a h) ≡ 1 + numbers_of h
for_each_numbered n p nm a h = at_node (nd.ForEach n p nm a h) (TNode-F.ForEach n p nm a h) (nd.rolls-ForEach n p nm a h)

pub while_numbered : (n : ℕ) (p : Place) (a : Expr) (h : TNode) → numbers_of (nd.While n p a h) ≡ 1 + numbers_of h
while_numbered n p a h = at_node (nd.While n p a h) (TNode-F.While n p a h) (nd.rolls-While n p a h)
