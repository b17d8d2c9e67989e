-- What nodes are as parts of templates: where they begin, whether they are white space alone, and the tags that they are.
use Rattle.std.proofs.Common.{◌≡◌, ℕ, List, ap}
use Rattle.std.specs.Prelude.{false, Option, Some, None}
use Rattle.text_core.specs.declared.place.Place.{Place}
use Rattle.cs_ast.specs.declared.expression.Expr.{Expr}
use Rattle.cs_ast.specs.declared.expression.Stmt.{Stmt}
use Rattle.cs_ast.specs.declared.identifier.Ident.{Ident}
use Rattle.razor_ast.specs.Literals.{is_white}
use Rattle.razor_ast.specs.declared.attribute.Attribute.{Attribute}
use Rattle.razor_ast.specs.declared.node.TNode.{TNode, TNode-F}
use Rattle.razor_ast.specs.declared.node.TNode.TheVariants as nd
use Rattle.razor_ast.specs.declared.node.TSection.{TSection}
use Rattle.razor_rules.specs.Scopes.{Home}
use Rattle.razor_rules.specs.Parts.{Part}
use Rattle.razor_rules.specs.Templates.{part_of}
use Rattle.razor_rules.proofs.TemplateLaws.{part_at}

module _ (home : Home) where
  pub element_place : (n : ℕ) (p : Place) (nm : Ident) (atts : List Attribute) (cs : List TNode) → (part_of home (nd.Element n p nm atts cs)).place ≡ p
  element_place n p nm atts cs = ap (λ (it : Part). it.place) (part_at home (nd.Element n p nm atts cs) (TNode-F.Element n p nm atts cs) (nd.rolls-Element n p nm atts cs))

  pub child_place : (n : ℕ) (p : Place) (nm : Ident) (atts : List Attribute) (cs : List TNode) → (part_of home (nd.Child n p nm atts cs)).place ≡ p
  child_place n p nm atts cs = ap (λ (it : Part). it.place) (part_at home (nd.Child n p nm atts cs) (TNode-F.Child n p nm atts cs) (nd.rolls-Child n p nm atts cs))

  pub text_place : (n : ℕ) (p : Place) (t : List ℕ) → (part_of home (nd.Text n p t)).place ≡ p
  text_place n p t = ap (λ (it : Part). it.place) (part_at home (nd.Text n p t) (TNode-F.Text n p t) (nd.rolls-Text n p t))

  pub raw_place : (n : ℕ) (p : Place) (t : List ℕ) → (part_of home (nd.Raw n p t)).place ≡ p
  raw_place n p t = ap (λ (it : Part). it.place) (part_at home (nd.Raw n p t) (TNode-F.Raw n p t) (nd.rolls-Raw n p t))

  pub content_place : (n : ℕ) (p : Place) (a : Expr) → (part_of home (nd.Content n p a)).place ≡ p
  content_place n p a = ap (λ (it : Part). it.place) (part_at home (nd.Content n p a) (TNode-F.Content n p a) (nd.rolls-Content n p a))

  pub group_place : (p : Place) (cs : List TNode) → (part_of home (nd.Group p cs)).place ≡ p
  group_place p cs = ap (λ (it : Part). it.place) (part_at home (nd.Group p cs) (TNode-F.Group p cs) (nd.rolls-Group p cs))

  pub statement_place : (st : Stmt) → (part_of home (nd.Statement st)).place ≡ st.place
  statement_place st = ap (λ (it : Part). it.place) (part_at home (nd.Statement st) (TNode-F.Statement st) (nd.rolls-Statement st))

  pub block_place : (p : Place) (cs : List TNode) → (part_of home (nd.Block p cs)).place ≡ p
  block_place p cs = ap (λ (it : Part). it.place) (part_at home (nd.Block p cs) (TNode-F.Block p cs) (nd.rolls-Block p cs))

  pub if_place : (p : Place) (a : Expr) (h : TNode) (o : Option TNode) → (part_of home (nd.If p a h o)).place ≡ p
  if_place p a h None = ap (λ (it : Part). it.place) (part_at home (nd.If p a h None) (TNode-F.If p a h None) (nd.rolls-If p a h None))
  if_place p a h (Some o) = ap (λ (it : Part). it.place) (part_at home (nd.If p a h (Some o)) (TNode-F.If p a h (Some o)) (nd.rolls-If p a h (Some o)))

  pub switch_place : (p : Place) (a : Expr) (ss : List TSection) → (part_of home (nd.Switch p a ss)).place ≡ p
  switch_place p a ss = ap (λ (it : Part). it.place) (part_at home (nd.Switch p a ss) (TNode-F.Switch p a ss) (nd.rolls-Switch p a ss))

  pub for_place : (n : ℕ) (p : Place) (s : Option Stmt) (a : Option Expr) (b : Option Expr) (h : TNode) → (part_of home (nd.For n p s a b h)).place ≡ p
  for_place n p s a b h = ap (λ (it : Part). it.place) (part_at home (nd.For n p s a b h) (TNode-F.For n p s a b h) (nd.rolls-For n p s a b h))

  pub for_each_place : (n : ℕ) (p : Place) (nm : Ident) (a : Expr) (h : TNode) → (part_of home (nd.ForEach n p nm a h)).place ≡ p
  for_each_place n p nm a h = ap (λ (it : Part). it.place) (part_at home (nd.ForEach n p nm a h) (TNode-F.ForEach n p nm a h) (nd.rolls-ForEach n p nm a h))

  pub while_place : (n : ℕ) (p : Place) (a : Expr) (h : TNode) → (part_of home (nd.While n p a h)).place ≡ p
  while_place n p a h = ap (λ (it : Part). it.place) (part_at home (nd.While n p a h) (TNode-F.While n p a h) (nd.rolls-While n p a h))

  pub element_blank : (n : ℕ) (p : Place) (nm : Ident) (atts : List Attribute) (cs : List TNode) → (part_of home (nd.Element n p nm atts cs)).blank ≡ false
  element_blank n p nm atts cs = ap (λ (it : Part). it.blank) (part_at home (nd.Element n p nm atts cs) (TNode-F.Element n p nm atts cs) (nd.rolls-Element n p nm atts cs))

  pub child_blank : (n : ℕ) (p : Place) (nm : Ident) (atts : List Attribute) (cs : List TNode) → (part_of home (nd.Child n p nm atts cs)).blank ≡ false
  child_blank n p nm atts cs = ap (λ (it : Part). it.blank) (part_at home (nd.Child n p nm atts cs) (TNode-F.Child n p nm atts cs) (nd.rolls-Child n p nm atts cs))

  pub text_blank : (n : ℕ) (p : Place) (t : List ℕ) → (part_of home (nd.Text n p t)).blank ≡ is_white t
  text_blank n p t = ap (λ (it : Part). it.blank) (part_at home (nd.Text n p t) (TNode-F.Text n p t) (nd.rolls-Text n p t))

  pub raw_blank : (n : ℕ) (p : Place) (t : List ℕ) → (part_of home (nd.Raw n p t)).blank ≡ false
  raw_blank n p t = ap (λ (it : Part). it.blank) (part_at home (nd.Raw n p t) (TNode-F.Raw n p t) (nd.rolls-Raw n p t))

  pub content_blank : (n : ℕ) (p : Place) (a : Expr) → (part_of home (nd.Content n p a)).blank ≡ false
  content_blank n p a = ap (λ (it : Part). it.blank) (part_at home (nd.Content n p a) (TNode-F.Content n p a) (nd.rolls-Content n p a))

  pub group_blank : (p : Place) (cs : List TNode) → (part_of home (nd.Group p cs)).blank ≡ false
  group_blank p cs = ap (λ (it : Part). it.blank) (part_at home (nd.Group p cs) (TNode-F.Group p cs) (nd.rolls-Group p cs))

  pub statement_blank : (st : Stmt) → (part_of home (nd.Statement st)).blank ≡ false
  statement_blank st = ap (λ (it : Part). it.blank) (part_at home (nd.Statement st) (TNode-F.Statement st) (nd.rolls-Statement st))

  pub block_blank : (p : Place) (cs : List TNode) → (part_of home (nd.Block p cs)).blank ≡ false
  block_blank p cs = ap (λ (it : Part). it.blank) (part_at home (nd.Block p cs) (TNode-F.Block p cs) (nd.rolls-Block p cs))

  pub if_blank : (p : Place) (a : Expr) (h : TNode) (o : Option TNode) → (part_of home (nd.If p a h o)).blank ≡ false
  if_blank p a h None = ap (λ (it : Part). it.blank) (part_at home (nd.If p a h None) (TNode-F.If p a h None) (nd.rolls-If p a h None))
  if_blank p a h (Some o) = ap (λ (it : Part). it.blank) (part_at home (nd.If p a h (Some o)) (TNode-F.If p a h (Some o)) (nd.rolls-If p a h (Some o)))

  pub switch_blank : (p : Place) (a : Expr) (ss : List TSection) → (part_of home (nd.Switch p a ss)).blank ≡ false
  switch_blank p a ss = ap (λ (it : Part). it.blank) (part_at home (nd.Switch p a ss) (TNode-F.Switch p a ss) (nd.rolls-Switch p a ss))

  pub for_blank : (n : ℕ) (p : Place) (s : Option Stmt) (a : Option Expr) (b : Option Expr) (h : TNode) → (part_of home (nd.For n p s a b h)).blank ≡ false
  for_blank n p s a b h = ap (λ (it : Part). it.blank) (part_at home (nd.For n p s a b h) (TNode-F.For n p s a b h) (nd.rolls-For n p s a b h))

  pub for_each_blank : (n : ℕ) (p : Place) (nm : Ident) (a : Expr) (h : TNode) → (part_of home (nd.ForEach n p nm a h)).blank ≡ false
  for_each_blank n p nm a h = ap (λ (it : Part). it.blank) (part_at home (nd.ForEach n p nm a h) (TNode-F.ForEach n p nm a h) (nd.rolls-ForEach n p nm a h))

  pub while_blank : (n : ℕ) (p : Place) (a : Expr) (h : TNode) → (part_of home (nd.While n p a h)).blank ≡ false
  while_blank n p a h = ap (λ (it : Part). it.blank) (part_at home (nd.While n p a h) (TNode-F.While n p a h) (nd.rolls-While n p a h))

  pub element_tag : (n : ℕ) (p : Place) (nm : Ident) (atts : List Attribute) (cs : List TNode) → (part_of home (nd.Element n p nm atts cs)).tag ≡ None
  element_tag n p nm atts cs = ap (λ (it : Part). it.tag) (part_at home (nd.Element n p nm atts cs) (TNode-F.Element n p nm atts cs) (nd.rolls-Element n p nm atts cs))

  pub child_tag : (n : ℕ) (p : Place) (nm : Ident) (atts : List Attribute) (cs : List TNode) → (part_of home (nd.Child n p nm atts cs)).tag ≡ Some nm.name
  child_tag n p nm atts cs = ap (λ (it : Part). it.tag) (part_at home (nd.Child n p nm atts cs) (TNode-F.Child n p nm atts cs) (nd.rolls-Child n p nm atts cs))

  pub text_tag : (n : ℕ) (p : Place) (t : List ℕ) → (part_of home (nd.Text n p t)).tag ≡ None
  text_tag n p t = ap (λ (it : Part). it.tag) (part_at home (nd.Text n p t) (TNode-F.Text n p t) (nd.rolls-Text n p t))

  pub raw_tag : (n : ℕ) (p : Place) (t : List ℕ) → (part_of home (nd.Raw n p t)).tag ≡ None
  raw_tag n p t = ap (λ (it : Part). it.tag) (part_at home (nd.Raw n p t) (TNode-F.Raw n p t) (nd.rolls-Raw n p t))

  pub content_tag : (n : ℕ) (p : Place) (a : Expr) → (part_of home (nd.Content n p a)).tag ≡ None
  content_tag n p a = ap (λ (it : Part). it.tag) (part_at home (nd.Content n p a) (TNode-F.Content n p a) (nd.rolls-Content n p a))

  pub group_tag : (p : Place) (cs : List TNode) → (part_of home (nd.Group p cs)).tag ≡ None
  group_tag p cs = ap (λ (it : Part). it.tag) (part_at home (nd.Group p cs) (TNode-F.Group p cs) (nd.rolls-Group p cs))

  pub statement_tag : (st : Stmt) → (part_of home (nd.Statement st)).tag ≡ None
  statement_tag st = ap (λ (it : Part). it.tag) (part_at home (nd.Statement st) (TNode-F.Statement st) (nd.rolls-Statement st))

  pub block_tag : (p : Place) (cs : List TNode) → (part_of home (nd.Block p cs)).tag ≡ None
  block_tag p cs = ap (λ (it : Part). it.tag) (part_at home (nd.Block p cs) (TNode-F.Block p cs) (nd.rolls-Block p cs))

  pub if_tag : (p : Place) (a : Expr) (h : TNode) (o : Option TNode) → (part_of home (nd.If p a h o)).tag ≡ None
  if_tag p a h None = ap (λ (it : Part). it.tag) (part_at home (nd.If p a h None) (TNode-F.If p a h None) (nd.rolls-If p a h None))
  if_tag p a h (Some o) = ap (λ (it : Part). it.tag) (part_at home (nd.If p a h (Some o)) (TNode-F.If p a h (Some o)) (nd.rolls-If p a h (Some o)))

  pub switch_tag : (p : Place) (a : Expr) (ss : List TSection) → (part_of home (nd.Switch p a ss)).tag ≡ None
  switch_tag p a ss = ap (λ (it : Part). it.tag) (part_at home (nd.Switch p a ss) (TNode-F.Switch p a ss) (nd.rolls-Switch p a ss))

  pub for_tag : (n : ℕ) (p : Place) (s : Option Stmt) (a : Option Expr) (b : Option Expr) (h : TNode) → (part_of home (nd.For n p s a b h)).tag ≡ None
  for_tag n p s a b h = ap (λ (it : Part). it.tag) (part_at home (nd.For n p s a b h) (TNode-F.For n p s a b h) (nd.rolls-For n p s a b h))

  pub for_each_tag : (n : ℕ) (p : Place) (nm : Ident) (a : Expr) (h : TNode) → (part_of home (nd.ForEach n p nm a h)).tag ≡ None
  for_each_tag n p nm a h = ap (λ (it : Part). it.tag) (part_at home (nd.ForEach n p nm a h) (TNode-F.ForEach n p nm a h) (nd.rolls-ForEach n p nm a h))

  pub while_tag : (n : ℕ) (p : Place) (a : Expr) (h : TNode) → (part_of home (nd.While n p a h)).tag ≡ None
  while_tag n p a h = ap (λ (it : Part). it.tag) (part_at home (nd.While n p a h) (TNode-F.While n p a h) (nd.rolls-While n p a h))
