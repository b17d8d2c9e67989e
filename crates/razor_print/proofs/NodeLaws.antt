-- The equations of what nodes are printed as.
use Rattle.std.proofs.Common.{◌≡◌, ℕ, List, map, sym, ap, ◌∙◌}
use Rattle.std.specs.Prelude.{true, false, Option, Some, None, option_map}
use Rattle.text_core.specs.declared.place.Place.{Place}
use Rattle.cs_ast.specs.declared.expression.Expr.{Expr}
use Rattle.cs_ast.specs.declared.expression.Stmt.{Stmt}
use Rattle.cs_ast.specs.declared.identifier.Ident.{Ident}
use Rattle.cs_print.specs.Printed.{whole, printed, statement_kinds}
use Rattle.razor_ast.specs.declared.attribute.Attribute.{Attribute}
use Rattle.razor_ast.specs.declared.node.TNode.{TNode}
use Rattle.razor_ast.specs.declared.node.TNode.TheOpen.{TNode-F}
use Rattle.razor_ast.specs.declared.node.TNode.TheFolds.{fold_out-TSection, fold-roll-TNode, map-TNode}
use Rattle.razor_ast.specs.declared.node.TNode.TheVariants as nd
use Rattle.razor_ast.specs.declared.node.TNode.TheViews.{roll-TNode}
use Rattle.razor_ast.specs.declared.node.TSection.{TSection, out-TSection}
use Rattle.razor_print.specs.declared.before.Before.TheVariants as b
use Rattle.razor_print.specs.Parts.{Parts, tokens, in_block, shown}
use Rattle.razor_print.specs.Nodes.{Printed, node_form, sectioned, node, section_parts, either, coded, literal, statement, tag, group, lines, if_else, switch_of, for_loop, foreach_loop, while_loop}

at_node : (a : TNode) (x : TNode-F TNode TSection) → roll-TNode x ≡ a → node a ≡ node_form (map-TNode TNode TSection Printed Parts node section_parts x)
unfolding node section_parts
at_node a x is = ap node (sym is) ∙ fold-roll-TNode Printed Parts node_form (λ it. sectioned it.labels it.items) x

pub node_element : (n : ℕ) (p : Place) (name : Ident) (attributes : List Attribute) (children : List TNode) →
    node (nd.Element n p name attributes children) ≡ either (tag name.name attributes (map node children))
node_element n p name us xs = at_node (nd.Element n p name us xs) (TNode-F.Element n p name us xs) (nd.rolls-Element n p name us xs)

pub node_child : (n : ℕ) (p : Place) (name : Ident) (attributes : List Attribute) (children : List TNode) →
    node (nd.Child n p name attributes children) ≡ either (tag name.name attributes (map node children))
node_child n p name us xs = at_node (nd.Child n p name us xs) (TNode-F.Child n p name us xs) (nd.rolls-Child n p name us xs)

pub node_text : (n : ℕ) (p : Place) (text : List ℕ) → node (nd.Text n p text) ≡ literal text
node_text n p text = at_node (nd.Text n p text) (TNode-F.Text n p text) (nd.rolls-Text n p text)

pub node_raw : (n : ℕ) (p : Place) (text : List ℕ) → node (nd.Raw n p text) ≡ literal text
node_raw n p text = at_node (nd.Raw n p text) (TNode-F.Raw n p text) (nd.rolls-Raw n p text)

pub node_content : (n : ℕ) (p : Place) (a : Expr) → node (nd.Content n p a) ≡ either (shown (whole (printed a)))
node_content n p a = at_node (nd.Content n p a) (TNode-F.Content n p a) (nd.rolls-Content n p a)

pub node_group : (p : Place) (items : List TNode) → node (nd.Group p items) ≡ either (group (map node items))
node_group p items = at_node (nd.Group p items) (TNode-F.Group p items) (nd.rolls-Group p items)

pub node_statement : (a : Stmt) → node (nd.Statement a) ≡ statement (tokens (statement_kinds a))
node_statement a = at_node (nd.Statement a) (TNode-F.Statement a) (nd.rolls-Statement a)

pub node_block : (p : Place) (items : List TNode) → node (nd.Block p items) ≡ coded false b.Other (in_block (lines (map node items)))
node_block p items = at_node (nd.Block p items) (TNode-F.Block p items) (nd.rolls-Block p items)

if_alone : (p : Place) (a : Expr) (holds : TNode) → node (nd.If p a holds None) ≡ coded true b.If (if_else a (node holds) None)
if_alone p a holds = at_node (nd.If p a holds None) (TNode-F.If p a holds None) (nd.rolls-If p a holds None)

if_both : (p : Place) (a : Expr) (holds fails : TNode) → node (nd.If p a holds (Some fails)) ≡ coded true b.If (if_else a (node holds) (Some (node fails)))
if_both p a holds fails = at_node (nd.If p a holds (Some fails)) (TNode-F.If p a holds (Some fails)) (nd.rolls-If p a holds (Some fails))

pub node_if : (p : Place) (a : Expr) (holds : TNode) (fails : Option TNode) → node (nd.If p a holds fails) ≡ coded true b.If (if_else a (node holds) (option_map node fails))
node_if p a holds None = if_alone p a holds
node_if p a holds (Some fails) = if_both p a holds fails

pub node_switch : (p : Place) (a : Expr) (sections : List TSection) → node (nd.Switch p a sections) ≡ coded true b.Other (switch_of a (map section_parts sections))
node_switch p a sections = at_node (nd.Switch p a sections) (TNode-F.Switch p a sections) (nd.rolls-Switch p a sections)

pub node_for : (n : ℕ) (p : Place) (start : Option Stmt) (condition step : Option Expr) (body : TNode) →
    node (nd.For n p start condition step body) ≡ coded true b.Other (for_loop start condition step (node body))
node_for n p start condition step body =
    at_node (nd.For n p start condition step body) (TNode-F.For n p start condition step body) (nd.rolls-For n p start condition step body)

pub node_foreach : (n : ℕ) (p : Place) (name : Ident) (a : Expr) (body : TNode) →
    node (nd.ForEach n p name a body) ≡ coded true b.Other (foreach_loop name.name a (node body))
node_foreach n p name a body = at_node (nd.ForEach n p name a body) (TNode-F.ForEach n p name a body) (nd.rolls-ForEach n p name a body)

pub node_while : (n : ℕ) (p : Place) (a : Expr) (body : TNode) → node (nd.While n p a body) ≡ coded true b.Other (while_loop a (node body))
node_while n p a body = at_node (nd.While n p a body) (TNode-F.While n p a body) (nd.rolls-While n p a body)

pub section_law : (a : TSection) → section_parts a ≡ sectioned (out-TSection a).labels (map node (out-TSection a).items)
unfolding node section_parts
section_law a = fold_out-TSection Printed Parts node_form (λ it. sectioned it.labels it.items) a
