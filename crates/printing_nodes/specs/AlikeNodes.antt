-- Which content, and which code with markup, is equal apart from the places in it.
use Rattle.std.specs.Prelude.{◌≡◌, ℕ, List, [], ◌∷◌, Option, Some, None}
use Rattle.text_core.specs.declared.place.Place.{Place}
use Rattle.cs_ast.specs.declared.expression.Expr.{Expr}
use Rattle.cs_ast.specs.declared.expression.Label.{Label}
use Rattle.cs_ast.specs.declared.expression.Stmt.{Stmt}
use Rattle.cs_print.specs.Alike.{Alike, AlikeBranch, AlikeLabels, AlikeMembers, AlikeOption, AlikeStatements, Each, named}
use Rattle.razor_ast.specs.declared.attribute.Attribute.{Attribute}
use Rattle.razor_ast.specs.declared.component.Component.{Component}
use Rattle.razor_ast.specs.declared.node.TNode.{TNode}
use Rattle.razor_ast.specs.declared.node.TNode.TheVariants as nd
use Rattle.razor_ast.specs.declared.node.TSection.{TSection}
use Rattle.razor_ast.specs.Statements.{section}
use Rattle.printing_again.specs.Again.{AlikeAttributes}

mutual
  pub data AlikeNodes : TNode → TNode → Type 0 where
    element : (n : ℕ) (p q i j : Place) (name : List ℕ) (xs ys : List Attribute) (cs ds : List TNode) →
        Each AlikeAttributes xs ys → AlikeContent cs ds → AlikeNodes (nd.Element n p (named i name) xs cs) (nd.Element n q (named j name) ys ds)
    child : (n : ℕ) (p q i j : Place) (name : List ℕ) (xs ys : List Attribute) (cs ds : List TNode) →
        Each AlikeAttributes xs ys → AlikeContent cs ds → AlikeNodes (nd.Child n p (named i name) xs cs) (nd.Child n q (named j name) ys ds)
    text : (n : ℕ) (p q : Place) (said : List ℕ) → AlikeNodes (nd.Text n p said) (nd.Text n q said)
    raw : (n : ℕ) (p q : Place) (said : List ℕ) → AlikeNodes (nd.Raw n p said) (nd.Raw n q said)
    shown : (n : ℕ) (p q : Place) (a b : Expr) → Alike a b → AlikeNodes (nd.Content n p a) (nd.Content n q b)
    group : (p q : Place) (xs ys : List TNode) → AlikeContent xs ys → AlikeNodes (nd.Group p xs) (nd.Group q ys)
    a_statement : (a b : Stmt) → AlikeStatements a b → AlikeNodes (nd.Statement a) (nd.Statement b)
    block : (p q : Place) (xs ys : List TNode) → AlikeContent xs ys → AlikeNodes (nd.Block p xs) (nd.Block q ys)
    if_alone : (p q : Place) (a b : Expr) (c d : TNode) → Alike a b → AlikeNodes c d → AlikeNodes (nd.If p a c None) (nd.If q b d None)
    if_else : (p q : Place) (a b : Expr) (c d e f : TNode) →
        Alike a b → AlikeNodes c d → AlikeNodes e f → AlikeNodes (nd.If p a c (Some e)) (nd.If q b d (Some f))
    switch_ : (p q : Place) (a b : Expr) (xs ys : List TSection) → Alike a b → AlikeCases xs ys → AlikeNodes (nd.Switch p a xs) (nd.Switch q b ys)
    for_ : (n : ℕ) (p q : Place) (s t : Option Stmt) (a b c d : Option Expr) (e f : TNode) →
        AlikeBranch s t → AlikeOption a b → AlikeOption c d → AlikeNodes e f → AlikeNodes (nd.For n p s a c e) (nd.For n q t b d f)
    foreach_ : (n : ℕ) (p q i j : Place) (name : List ℕ) (a b : Expr) (c d : TNode) →
        Alike a b → AlikeNodes c d → AlikeNodes (nd.ForEach n p (named i name) a c) (nd.ForEach n q (named j name) b d)
    while_ : (n : ℕ) (p q : Place) (a b : Expr) (c d : TNode) → Alike a b → AlikeNodes c d → AlikeNodes (nd.While n p a c) (nd.While n q b d)

  -- nodes one behind another
  pub data AlikeContent : List TNode → List TNode → Type 0 where
    no_node : AlikeContent [] []
    one_node : (a b : TNode) (xs ys : List TNode) → AlikeNodes a b → AlikeContent xs ys → AlikeContent (a ∷ xs) (b ∷ ys)

  -- sections of a `switch`
  pub data AlikeCases : List TSection → List TSection → Type 0 where
    no_case : AlikeCases [] []
    one_case : (ls ms : List Label) (xs ys : List TNode) (others more : List TSection) →
        Each AlikeLabels ls ms → AlikeContent xs ys → AlikeCases others more → AlikeCases (section ls xs ∷ others) (section ms ys ∷ more)

-- whole components of one name
pub record AlikeComponents (a b : Component) : Type 0 where
  pub named : a.name ≡ b.name
  pub disposes : a.disposes ≡ b.disposes
  pub members : Each AlikeMembers a.members b.members
  pub nodes : AlikeContent a.nodes b.nodes
