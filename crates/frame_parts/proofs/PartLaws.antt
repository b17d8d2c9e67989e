-- The parts of templates, form by form.
use Rattle.std.proofs.Common.{◌≡◌, ℕ, List, [], ◌∷◌, map, ap, sym, refl, ◌∙◌}
use Rattle.std.specs.Prelude.{Bool, true, false, Option, Some, None, option_map}
use Rattle.text_core.specs.declared.place.Place.{Place}
use Rattle.cs_ast.specs.declared.expression.Expr.{Expr}
use Rattle.cs_ast.specs.declared.expression.Stmt.{Stmt}
use Rattle.cs_ast.specs.declared.identifier.Ident.{Ident}
use Rattle.cs_ast.specs.declared.scope.Scope.{Scope}
use Rattle.razor_ast.specs.declared.attribute.Attribute.{Attribute}
use Rattle.razor_ast.specs.declared.node.TNode.{TNode, TNode-F}
use Rattle.razor_ast.specs.declared.node.TNode.TheVariants as nd
use Rattle.razor_ast.specs.declared.node.TSection.{TSection}
use Rattle.razor_ast.specs.declared.node.TNode.{roll-TNode}
use Rattle.razor_ast.specs.declared.node.TNode.TheFolds.{fold-roll-TNode, fold_out-TSection, map-TNode}
use Rattle.razor_ast.specs.declared.node.TSection.{out-TSection}
use Rattle.cs_rules.specs.Judged.{fine}
use Rattle.page_meaning.specs.Nodes.{section_of}
use Rattle.page_meaning.specs.Parts.{Part, Part_of_switch, part, part_of, any_does, behind_statement, first_keyed, in_order, keyed_tag}
use Rattle.frame_parts.specs.Sections.{part_of_section}

pub part_law : (x : TNode-F TNode TSection) → part_of (roll-TNode x) ≡ part (map-TNode TNode TSection Part Part_of_switch part_of part_of_section x)
unfolding part_of part_of_section
part_law x =
    fold-roll-TNode Part Part_of_switch part (λ section. record { does = any_does section.items; section = section_of section.labels (in_order section.items) }) x

-- a node that is known to be so
pub part_at : (node : TNode) (x : TNode-F TNode TSection) → roll-TNode x ≡ node → part_of node ≡ part (map-TNode TNode TSection Part Part_of_switch part_of part_of_section x)
part_at node x is = ap part_of (sym is) ∙ part_law x

pub section_parts : (one : TSection) → part_of_section one
    ≡ record { does = any_does (map part_of (out-TSection one).items); section = section_of (out-TSection one).labels (in_order (map part_of (out-TSection one).items)) }
unfolding part_of part_of_section
section_parts one = fold_out-TSection Part Part_of_switch part (λ section. record { does = any_does section.items; section = section_of section.labels (in_order section.items) }) one

pub element_keyed : (n : ℕ) (p : Place) (nm : Ident) (atts : List Attribute) (cs : List TNode) → (part_of (nd.Element n p nm atts cs)).keyed ≡ keyed_tag n atts
element_keyed n p nm atts cs = ap (λ (it : Part). it.keyed) (part_at (nd.Element n p nm atts cs) (TNode-F.Element n p nm atts cs) (nd.rolls-Element n p nm atts cs))

pub child_keyed : (n : ℕ) (p : Place) (nm : Ident) (atts : List Attribute) (cs : List TNode) → (part_of (nd.Child n p nm atts cs)).keyed ≡ keyed_tag n atts
child_keyed n p nm atts cs = ap (λ (it : Part). it.keyed) (part_at (nd.Child n p nm atts cs) (TNode-F.Child n p nm atts cs) (nd.rolls-Child n p nm atts cs))

pub text_keyed : (n : ℕ) (p : Place) (t : List ℕ) → (part_of (nd.Text n p t)).keyed ≡ None
text_keyed n p t = ap (λ (it : Part). it.keyed) (part_at (nd.Text n p t) (TNode-F.Text n p t) (nd.rolls-Text n p t))

pub raw_keyed : (n : ℕ) (p : Place) (t : List ℕ) → (part_of (nd.Raw n p t)).keyed ≡ None
raw_keyed n p t = ap (λ (it : Part). it.keyed) (part_at (nd.Raw n p t) (TNode-F.Raw n p t) (nd.rolls-Raw n p t))

pub content_keyed : (n : ℕ) (p : Place) (a : Expr) → (part_of (nd.Content n p a)).keyed ≡ None
content_keyed n p a = ap (λ (it : Part). it.keyed) (part_at (nd.Content n p a) (TNode-F.Content n p a) (nd.rolls-Content n p a))

pub group_keyed : (p : Place) (cs : List TNode) → (part_of (nd.Group p cs)).keyed ≡ None
group_keyed p cs = ap (λ (it : Part). it.keyed) (part_at (nd.Group p cs) (TNode-F.Group p cs) (nd.rolls-Group p cs))

pub statement_keyed : (st : Stmt) → (part_of (nd.Statement st)).keyed ≡ None
statement_keyed st = ap (λ (it : Part). it.keyed) (part_at (nd.Statement st) (TNode-F.Statement st) (nd.rolls-Statement st))

pub block_keyed : (p : Place) (cs : List TNode) → (part_of (nd.Block p cs)).keyed ≡ None
block_keyed p cs = ap (λ (it : Part). it.keyed) (part_at (nd.Block p cs) (TNode-F.Block p cs) (nd.rolls-Block p cs))

pub if_keyed : (p : Place) (a : Expr) (h : TNode) (o : Option TNode) → (part_of (nd.If p a h o)).keyed ≡ None
if_keyed p a h None = ap (λ (it : Part). it.keyed) (part_at (nd.If p a h None) (TNode-F.If p a h None) (nd.rolls-If p a h None))
if_keyed p a h (Some o) = ap (λ (it : Part). it.keyed) (part_at (nd.If p a h (Some o)) (TNode-F.If p a h (Some o)) (nd.rolls-If p a h (Some o)))

pub switch_keyed : (p : Place) (a : Expr) (ss : List TSection) → (part_of (nd.Switch p a ss)).keyed ≡ None
switch_keyed p a ss = ap (λ (it : Part). it.keyed) (part_at (nd.Switch p a ss) (TNode-F.Switch p a ss) (nd.rolls-Switch p a ss))

pub for_keyed : (n : ℕ) (p : Place) (s : Option Stmt) (a : Option Expr) (b : Option Expr) (h : TNode) → (part_of (nd.For n p s a b h)).keyed ≡ None
for_keyed n p s a b h = ap (λ (it : Part). it.keyed) (part_at (nd.For n p s a b h) (TNode-F.For n p s a b h) (nd.rolls-For n p s a b h))

pub for_each_keyed : (n : ℕ) (p : Place) (nm : Ident) (a : Expr) (h : TNode) → (part_of (nd.ForEach n p nm a h)).keyed ≡ None
for_each_keyed n p nm a h = ap (λ (it : Part). it.keyed) (part_at (nd.ForEach n p nm a h) (TNode-F.ForEach n p nm a h) (nd.rolls-ForEach n p nm a h))

pub while_keyed : (n : ℕ) (p : Place) (a : Expr) (h : TNode) → (part_of (nd.While n p a h)).keyed ≡ None
while_keyed n p a h = ap (λ (it : Part). it.keyed) (part_at (nd.While n p a h) (TNode-F.While n p a h) (nd.rolls-While n p a h))

pub element_turn_key : (n : ℕ) (p : Place) (nm : Ident) (atts : List Attribute) (cs : List TNode) → (part_of (nd.Element n p nm atts cs)).turn_key ≡ None
element_turn_key n p nm atts cs = ap (λ (it : Part). it.turn_key) (part_at (nd.Element n p nm atts cs) (TNode-F.Element n p nm atts cs) (nd.rolls-Element n p nm atts cs))

pub child_turn_key : (n : ℕ) (p : Place) (nm : Ident) (atts : List Attribute) (cs : List TNode) → (part_of (nd.Child n p nm atts cs)).turn_key ≡ None
child_turn_key n p nm atts cs = ap (λ (it : Part). it.turn_key) (part_at (nd.Child n p nm atts cs) (TNode-F.Child n p nm atts cs) (nd.rolls-Child n p nm atts cs))

pub text_turn_key : (n : ℕ) (p : Place) (t : List ℕ) → (part_of (nd.Text n p t)).turn_key ≡ None
text_turn_key n p t = ap (λ (it : Part). it.turn_key) (part_at (nd.Text n p t) (TNode-F.Text n p t) (nd.rolls-Text n p t))

pub raw_turn_key : (n : ℕ) (p : Place) (t : List ℕ) → (part_of (nd.Raw n p t)).turn_key ≡ None
raw_turn_key n p t = ap (λ (it : Part). it.turn_key) (part_at (nd.Raw n p t) (TNode-F.Raw n p t) (nd.rolls-Raw n p t))

pub content_turn_key : (n : ℕ) (p : Place) (a : Expr) → (part_of (nd.Content n p a)).turn_key ≡ None
content_turn_key n p a = ap (λ (it : Part). it.turn_key) (part_at (nd.Content n p a) (TNode-F.Content n p a) (nd.rolls-Content n p a))

pub group_turn_key : (p : Place) (cs : List TNode) → (part_of (nd.Group p cs)).turn_key ≡ None
group_turn_key p cs = ap (λ (it : Part). it.turn_key) (part_at (nd.Group p cs) (TNode-F.Group p cs) (nd.rolls-Group p cs))

pub statement_turn_key : (st : Stmt) → (part_of (nd.Statement st)).turn_key ≡ None
statement_turn_key st = ap (λ (it : Part). it.turn_key) (part_at (nd.Statement st) (TNode-F.Statement st) (nd.rolls-Statement st))

pub block_turn_key : (p : Place) (cs : List TNode) → (part_of (nd.Block p cs)).turn_key ≡ first_keyed (map part_of cs)
block_turn_key p cs = ap (λ (it : Part). it.turn_key) (part_at (nd.Block p cs) (TNode-F.Block p cs) (nd.rolls-Block p cs))

pub if_turn_key : (p : Place) (a : Expr) (h : TNode) (o : Option TNode) → (part_of (nd.If p a h o)).turn_key ≡ None
if_turn_key p a h None = ap (λ (it : Part). it.turn_key) (part_at (nd.If p a h None) (TNode-F.If p a h None) (nd.rolls-If p a h None))
if_turn_key p a h (Some o) = ap (λ (it : Part). it.turn_key) (part_at (nd.If p a h (Some o)) (TNode-F.If p a h (Some o)) (nd.rolls-If p a h (Some o)))

pub switch_turn_key : (p : Place) (a : Expr) (ss : List TSection) → (part_of (nd.Switch p a ss)).turn_key ≡ None
switch_turn_key p a ss = ap (λ (it : Part). it.turn_key) (part_at (nd.Switch p a ss) (TNode-F.Switch p a ss) (nd.rolls-Switch p a ss))

pub for_turn_key : (n : ℕ) (p : Place) (s : Option Stmt) (a : Option Expr) (b : Option Expr) (h : TNode) → (part_of (nd.For n p s a b h)).turn_key ≡ None
for_turn_key n p s a b h = ap (λ (it : Part). it.turn_key) (part_at (nd.For n p s a b h) (TNode-F.For n p s a b h) (nd.rolls-For n p s a b h))

pub for_each_turn_key : (n : ℕ) (p : Place) (nm : Ident) (a : Expr) (h : TNode) → (part_of (nd.ForEach n p nm a h)).turn_key ≡ None
for_each_turn_key n p nm a h = ap (λ (it : Part). it.turn_key) (part_at (nd.ForEach n p nm a h) (TNode-F.ForEach n p nm a h) (nd.rolls-ForEach n p nm a h))

pub while_turn_key : (n : ℕ) (p : Place) (a : Expr) (h : TNode) → (part_of (nd.While n p a h)).turn_key ≡ None
while_turn_key n p a h = ap (λ (it : Part). it.turn_key) (part_at (nd.While n p a h) (TNode-F.While n p a h) (nd.rolls-While n p a h))

pub element_behind : (n : ℕ) (p : Place) (nm : Ident) (atts : List Attribute) (cs : List TNode) → (scope : Scope) → (part_of (nd.Element n p nm atts cs)).behind scope ≡ fine scope
element_behind n p nm atts cs scope = ap (λ (it : Part). it.behind scope) (part_at (nd.Element n p nm atts cs) (TNode-F.Element n p nm atts cs) (nd.rolls-Element n p nm atts cs))

pub child_behind : (n : ℕ) (p : Place) (nm : Ident) (atts : List Attribute) (cs : List TNode) → (scope : Scope) → (part_of (nd.Child n p nm atts cs)).behind scope ≡ fine scope
child_behind n p nm atts cs scope = ap (λ (it : Part). it.behind scope) (part_at (nd.Child n p nm atts cs) (TNode-F.Child n p nm atts cs) (nd.rolls-Child n p nm atts cs))

pub text_behind : (n : ℕ) (p : Place) (t : List ℕ) → (scope : Scope) → (part_of (nd.Text n p t)).behind scope ≡ fine scope
text_behind n p t scope = ap (λ (it : Part). it.behind scope) (part_at (nd.Text n p t) (TNode-F.Text n p t) (nd.rolls-Text n p t))

pub raw_behind : (n : ℕ) (p : Place) (t : List ℕ) → (scope : Scope) → (part_of (nd.Raw n p t)).behind scope ≡ fine scope
raw_behind n p t scope = ap (λ (it : Part). it.behind scope) (part_at (nd.Raw n p t) (TNode-F.Raw n p t) (nd.rolls-Raw n p t))

pub content_behind : (n : ℕ) (p : Place) (a : Expr) → (scope : Scope) → (part_of (nd.Content n p a)).behind scope ≡ fine scope
content_behind n p a scope = ap (λ (it : Part). it.behind scope) (part_at (nd.Content n p a) (TNode-F.Content n p a) (nd.rolls-Content n p a))

pub group_behind : (p : Place) (cs : List TNode) → (scope : Scope) → (part_of (nd.Group p cs)).behind scope ≡ fine scope
group_behind p cs scope = ap (λ (it : Part). it.behind scope) (part_at (nd.Group p cs) (TNode-F.Group p cs) (nd.rolls-Group p cs))

pub statement_behind : (st : Stmt) → (scope : Scope) → (part_of (nd.Statement st)).behind scope ≡ behind_statement st scope
statement_behind st scope = ap (λ (it : Part). it.behind scope) (part_at (nd.Statement st) (TNode-F.Statement st) (nd.rolls-Statement st))

pub block_behind : (p : Place) (cs : List TNode) → (scope : Scope) → (part_of (nd.Block p cs)).behind scope ≡ fine scope
block_behind p cs scope = ap (λ (it : Part). it.behind scope) (part_at (nd.Block p cs) (TNode-F.Block p cs) (nd.rolls-Block p cs))

pub if_behind : (p : Place) (a : Expr) (h : TNode) (o : Option TNode) → (scope : Scope) → (part_of (nd.If p a h o)).behind scope ≡ fine scope
if_behind p a h None scope = ap (λ (it : Part). it.behind scope) (part_at (nd.If p a h None) (TNode-F.If p a h None) (nd.rolls-If p a h None))
if_behind p a h (Some o) scope = ap (λ (it : Part). it.behind scope) (part_at (nd.If p a h (Some o)) (TNode-F.If p a h (Some o)) (nd.rolls-If p a h (Some o)))

pub switch_behind : (p : Place) (a : Expr) (ss : List TSection) → (scope : Scope) → (part_of (nd.Switch p a ss)).behind scope ≡ fine scope
switch_behind p a ss scope = ap (λ (it : Part). it.behind scope) (part_at (nd.Switch p a ss) (TNode-F.Switch p a ss) (nd.rolls-Switch p a ss))

pub for_behind : (n : ℕ) (p : Place) (s : Option Stmt) (a : Option Expr) (b : Option Expr) (h : TNode) → (scope : Scope) → (part_of (nd.For n p s a b h)).behind scope ≡ fine scope
for_behind n p s a b h scope = ap (λ (it : Part). it.behind scope) (part_at (nd.For n p s a b h) (TNode-F.For n p s a b h) (nd.rolls-For n p s a b h))

pub for_each_behind : (n : ℕ) (p : Place) (nm : Ident) (a : Expr) (h : TNode) → (scope : Scope) → (part_of (nd.ForEach n p nm a h)).behind scope ≡ fine scope
for_each_behind n p nm a h scope = ap (λ (it : Part). it.behind scope) (part_at (nd.ForEach n p nm a h) (TNode-F.ForEach n p nm a h) (nd.rolls-ForEach n p nm a h))

pub while_behind : (n : ℕ) (p : Place) (a : Expr) (h : TNode) → (scope : Scope) → (part_of (nd.While n p a h)).behind scope ≡ fine scope
while_behind n p a h scope = ap (λ (it : Part). it.behind scope) (part_at (nd.While n p a h) (TNode-F.While n p a h) (nd.rolls-While n p a h))
