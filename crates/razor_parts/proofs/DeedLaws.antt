-- The equations of what parts of templates do.
use Rattle.std.proofs.Common.{◌≡◌, ℕ, List, [], map, refl, ap}
use Rattle.std.specs.Prelude.{false, ◌||◌, Option, Some, None, option_map}
use Rattle.std.specs.List.{list_any}
use Rattle.text_core.specs.declared.place.Place.{Place}
use Rattle.cs_ast.specs.declared.expression.Body.{Body}
use Rattle.cs_ast.specs.declared.expression.Body.TheOpen.{ExprKind-F}
use Rattle.cs_ast.specs.declared.expression.Body.TheViews.{out-ExprKind}
use Rattle.cs_ast.specs.declared.expression.Expr.{Expr}
use Rattle.cs_ast.specs.declared.expression.Stmt.{Stmt}
use Rattle.cs_ast.specs.declared.identifier.Ident.{Ident}
use Rattle.cs_effects.specs.declared.deed.Deed.{Deed}
use Rattle.cs_effects.specs.Deeds.{of_expr, of_body}
use Rattle.razor_ast.specs.declared.attribute.Attribute.{Attribute}
use Rattle.razor_ast.specs.declared.node.TNode.{TNode, TNode-F}
use Rattle.razor_ast.specs.declared.node.TNode.TheVariants as nd
use Rattle.razor_ast.specs.declared.node.TSection.{TSection, out-TSection}
use Rattle.razor_rules.specs.Scopes.{Home}
use Rattle.razor_rules.specs.Values.{Level}
use Rattle.razor_rules.specs.TemplateDeeds.{if_any, names_in, level_does, expression_does, statement_does, attributes_do}
use Rattle.razor_rules.specs.Parts.{Part, Part_of_switch, any_does}
use Rattle.razor_rules.specs.Templates.{part_of, part_of_section}
use Rattle.razor_rules.proofs.TemplateLaws.{part_at, section_law}
use Rattle.razor_parts.specs.Forms.{lambda_in}

module _ (deed : Deed) where
  pub lambda_does : (a : Expr) (argument : Option Ident) (body : Body) → out-ExprKind a.kind ≡ ExprKind-F.Lambda argument body → expression_does deed a ≡ of_body deed body (names_in argument)
  unfolding expression_does
  lambda_does a argument body is = ap (λ (level : Level). level_does deed level a) is

  pub name_does : (a : Expr) (name : List ℕ) → out-ExprKind a.kind ≡ ExprKind-F.Name name → expression_does deed a ≡ (of_expr deed a).done []
  unfolding expression_does
  name_does a name is = ap (λ (level : Level). level_does deed level a) is

  plain_does : (a : Expr) (level : Level) → lambda_in level ≡ None → level_does deed level a ≡ (of_expr deed a).done []
  plain_does a (ExprKind-F.Lambda argument body) none = absurd (cc)
  plain_does a _ none = refl

  pub other_does : (a : Expr) → lambda_in (out-ExprKind a.kind) ≡ None → expression_does deed a ≡ (of_expr deed a).done []
  unfolding expression_does
  other_does a none = plain_does a (out-ExprKind a.kind) none

  module _ (home : Home) where
    pub section_does : (section : TSection) → (part_of_section home section).does deed ≡ any_does (map (part_of home) (out-TSection section).items) deed
    section_does section = ap (λ (it : Part_of_switch). it.does deed) (section_law home section)

    pub element_does : (n : ℕ) (p : Place) (nm : Ident) (atts : List Attribute) (cs : List TNode) → (part_of home (nd.Element n p nm atts cs)).does deed ≡ (attributes_do deed atts || any_does (map (part_of home) cs) deed)
    element_does n p nm atts cs = ap (λ (it : Part). it.does deed) (part_at home (nd.Element n p nm atts cs) (TNode-F.Element n p nm atts cs) (nd.rolls-Element n p nm atts cs))

    pub child_tag_does : (n : ℕ) (p : Place) (nm : Ident) (atts : List Attribute) (cs : List TNode) → (part_of home (nd.Child n p nm atts cs)).does deed ≡ (attributes_do deed atts || any_does (map (part_of home) cs) deed)
    child_tag_does n p nm atts cs = ap (λ (it : Part). it.does deed) (part_at home (nd.Child n p nm atts cs) (TNode-F.Child n p nm atts cs) (nd.rolls-Child n p nm atts cs))

    pub text_does : (n : ℕ) (p : Place) (t : List ℕ) → (part_of home (nd.Text n p t)).does deed ≡ (false)
    text_does n p t = ap (λ (it : Part). it.does deed) (part_at home (nd.Text n p t) (TNode-F.Text n p t) (nd.rolls-Text n p t))

    pub raw_does : (n : ℕ) (p : Place) (t : List ℕ) → (part_of home (nd.Raw n p t)).does deed ≡ (false)
    raw_does n p t = ap (λ (it : Part). it.does deed) (part_at home (nd.Raw n p t) (TNode-F.Raw n p t) (nd.rolls-Raw n p t))

    pub content_does : (n : ℕ) (p : Place) (a : Expr) → (part_of home (nd.Content n p a)).does deed ≡ (expression_does deed a)
    content_does n p a = ap (λ (it : Part). it.does deed) (part_at home (nd.Content n p a) (TNode-F.Content n p a) (nd.rolls-Content n p a))

    pub group_does : (p : Place) (cs : List TNode) → (part_of home (nd.Group p cs)).does deed ≡ (any_does (map (part_of home) cs) deed)
    group_does p cs = ap (λ (it : Part). it.does deed) (part_at home (nd.Group p cs) (TNode-F.Group p cs) (nd.rolls-Group p cs))

    pub statement_node_does : (st : Stmt) → (part_of home (nd.Statement st)).does deed ≡ (statement_does deed st)
    statement_node_does st = ap (λ (it : Part). it.does deed) (part_at home (nd.Statement st) (TNode-F.Statement st) (nd.rolls-Statement st))

    pub block_does : (p : Place) (cs : List TNode) → (part_of home (nd.Block p cs)).does deed ≡ (any_does (map (part_of home) cs) deed)
    block_does p cs = ap (λ (it : Part). it.does deed) (part_at home (nd.Block p cs) (TNode-F.Block p cs) (nd.rolls-Block p cs))

    pub if_does : (p : Place) (a : Expr) (h : TNode) (o : Option TNode) → (part_of home (nd.If p a h o)).does deed ≡ (expression_does deed a || (part_of home h).does deed || if_any (λ (one : Part). one.does deed) (option_map (part_of home) o))
    if_does p a h None = ap (λ (it : Part). it.does deed) (part_at home (nd.If p a h None) (TNode-F.If p a h None) (nd.rolls-If p a h None))
    if_does p a h (Some o) = ap (λ (it : Part). it.does deed) (part_at home (nd.If p a h (Some o)) (TNode-F.If p a h (Some o)) (nd.rolls-If p a h (Some o)))

    pub switch_does : (p : Place) (a : Expr) (ss : List TSection) → (part_of home (nd.Switch p a ss)).does deed ≡ (expression_does deed a || list_any (λ (one : Part_of_switch). one.does deed) (map (part_of_section home) ss))
    switch_does p a ss = ap (λ (it : Part). it.does deed) (part_at home (nd.Switch p a ss) (TNode-F.Switch p a ss) (nd.rolls-Switch p a ss))

    pub for_does : (n : ℕ) (p : Place) (s : Option Stmt) (a : Option Expr) (b : Option Expr) (h : TNode) → (part_of home (nd.For n p s a b h)).does deed ≡ (if_any (statement_does deed) s || if_any (expression_does deed) a || if_any (expression_does deed) b || (part_of home h).does deed)
    for_does n p s a b h = ap (λ (it : Part). it.does deed) (part_at home (nd.For n p s a b h) (TNode-F.For n p s a b h) (nd.rolls-For n p s a b h))

    pub for_each_does : (n : ℕ) (p : Place) (nm : Ident) (a : Expr) (h : TNode) → (part_of home (nd.ForEach n p nm a h)).does deed ≡ (expression_does deed a || (part_of home h).does deed)
    for_each_does n p nm a h = ap (λ (it : Part). it.does deed) (part_at home (nd.ForEach n p nm a h) (TNode-F.ForEach n p nm a h) (nd.rolls-ForEach n p nm a h))

    pub while_does : (n : ℕ) (p : Place) (a : Expr) (h : TNode) → (part_of home (nd.While n p a h)).does deed ≡ (expression_does deed a || (part_of home h).does deed)
    while_does n p a h = ap (λ (it : Part). it.does deed) (part_at home (nd.While n p a h) (TNode-F.While n p a h) (nd.rolls-While n p a h))
