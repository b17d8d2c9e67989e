-- Which content, and which code with markup, has a printed text that is cut as meant.
use Rattle.std.specs.Prelude.{◌≡◌, ℕ, Bool, true, false, List, [], ◌∷◌, Option, Some, None}
use Rattle.std.specs.List.{list_all}
use Rattle.text_core.specs.declared.place.Place.{Place}
use Rattle.cs_ast.specs.declared.expression.Expr.{Expr}
use Rattle.cs_ast.specs.declared.expression.Label.{Label}
use Rattle.cs_ast.specs.declared.expression.Stmt.{Stmt}
use Rattle.cs_ast.specs.declared.identifier.Ident.{Ident}
use Rattle.cs_grammar.specs.Expressions.{SpelledExpression}
use Rattle.cs_grammar.specs.Lambdas.{SpelledValue}
use Rattle.cs_grammar.specs.Members.{SpelledMembers}
use Rattle.cs_grammar.specs.Statements.{Start, Condition, Step, Labels}
use Rattle.razor_token.specs.declared.runs.RunKind.TheVariants as r
use Rattle.razor_token.specs.Tags.{is_component, is_void}
use Rattle.razor_ast.specs.declared.attribute.Attribute.{Attribute}
use Rattle.razor_ast.specs.declared.component.Component.{Component}
use Rattle.razor_ast.specs.declared.node.TNode.{TNode}
use Rattle.razor_ast.specs.declared.node.TNode.TheVariants as nd
use Rattle.razor_ast.specs.declared.node.TSection.{TSection}
use Rattle.razor_ast.specs.Statements.{section}
use Rattle.printed_pieces.specs.Names.{IsTagName}
use Rattle.printed_pieces.specs.Places.{is_said}
use Rattle.printed_pieces.specs.Printable.{ArePrintable}
use Rattle.printed_pieces.specs.Written.{IsWritten, Named, OneStatement}

-- literal text of content: it isn't empty, and has no `<`
pub data IsContentText : List ℕ → Type 0 where
  content_text : (c : ℕ) (text : List ℕ) → list_all (is_said r.Content) (c ∷ text) ≡ true → IsContentText (c ∷ text)

mutual
  -- parts of content one behind another; where the first argument is true literal text stands right before them
  pub data ContentPrints : Bool → List TNode → Type 0 where
    nothing : (b : Bool) → ContentPrints b []
    text : (n : ℕ) (p : Place) (said : List ℕ) (others : List TNode) → IsContentText said → ContentPrints true others → ContentPrints false (nd.Text n p said ∷ others)
    raw : (n : ℕ) (p : Place) (said : List ℕ) (others : List TNode) → IsContentText said → ContentPrints true others → ContentPrints false (nd.Raw n p said ∷ others)
    item : (b : Bool) (a : TNode) (others : List TNode) → ItemPrints a → ContentPrints false others → ContentPrints b (a ∷ others)

  -- a part of content that isn't literal text
  pub data ItemPrints : TNode → Type 0 where
    of_tag : (a : TNode) → TagPrints a → ItemPrints a
    of_shown : (n : ℕ) (p : Place) (a : Expr) → IsWritten SpelledValue a → ItemPrints (nd.Content n p a)
    of_code : (a : TNode) → CodePrints false a → ItemPrints a

  -- a tag; an element that can have no content has none
  pub data TagPrints : TNode → Type 0 where
    element : (n : ℕ) (p : Place) (name : Ident) (all : List Attribute) (children : List TNode) → IsTagName name.name → ArePrintable (is_component name.name) all
        → (is_void name.name ≡ true → children ≡ []) → ContentPrints false children → TagPrints (nd.Element n p name all children)
    child : (n : ℕ) (p : Place) (name : Ident) (all : List Attribute) (children : List TNode) → IsTagName name.name → ArePrintable (is_component name.name) all
        → (is_void name.name ≡ true → children ≡ []) → ContentPrints false children → TagPrints (nd.Child n p name all children)

  -- a statement with markup; where the first argument is false it stands in content, and its bodies are blocks
  pub data CodePrints : Bool → TNode → Type 0 where
    block : (b : Bool) (p : Place) (items : List TNode) → LinesPrint items → CodePrints b (nd.Block p items)
    if_alone : (b : Bool) (p : Place) (a : Expr) (holds : TNode) → IsWritten SpelledExpression a → BodyPrints b holds → CodePrints b (nd.If p a holds None)
    if_else : (b : Bool) (p : Place) (a : Expr) (holds fails : TNode) → IsWritten SpelledExpression a → BodyPrints b holds → OtherwisePrints b fails → CodePrints b (nd.If p a holds (Some fails))
    while_ : (b : Bool) (n : ℕ) (p : Place) (a : Expr) (body : TNode) → IsWritten SpelledExpression a → BodyPrints b body → CodePrints b (nd.While n p a body)
    for_ : (b : Bool) (n : ℕ) (p : Place) (start : Option Stmt) (condition step : Option Expr) (body : TNode) → IsWritten (λ ts x. Start ts [] x) start → IsWritten (λ ts x. Condition ts [] x) condition
        → IsWritten (λ ts x. Step ts [] x) step → BodyPrints b body → CodePrints b (nd.For n p start condition step body)
    foreach_ : (b : Bool) (n : ℕ) (p : Place) (name : Ident) (a : Expr) (body : TNode) → IsWritten Named name.name → IsWritten SpelledExpression a → BodyPrints b body → CodePrints b (nd.ForEach n p name a body)
    switch_ : (b : Bool) (p : Place) (a : Expr) (sections : List TSection) → IsWritten SpelledExpression a → SectionsPrint sections → CodePrints b (nd.Switch p a sections)

  -- a body: a block, or in a block any statement
  pub data BodyPrints : Bool → TNode → Type 0 where
    in_block : (b : Bool) (p : Place) (items : List TNode) → LinesPrint items → BodyPrints b (nd.Block p items)
    other : (a : TNode) → StatementPrints a → BodyPrints true a

  -- what stands behind `else`: a body, or one more `if`
  pub data OtherwisePrints : Bool → TNode → Type 0 where
    otherwise_body : (b : Bool) (a : TNode) → BodyPrints b a → OtherwisePrints b a
    otherwise_if : (p : Place) (a : Expr) (holds : TNode) (fails : Option TNode) → CodePrints false (nd.If p a holds fails) → OtherwisePrints false (nd.If p a holds fails)

  -- a statement in a block
  pub data StatementPrints : TNode → Type 0 where
    simple : (a : Stmt) → IsWritten OneStatement a → StatementPrints (nd.Statement a)
    statement_of_code : (a : TNode) → CodePrints true a → StatementPrints a

  -- what may stand in a block: a statement, a tag, a content expression, or a group
  pub data LinePrints : TNode → Type 0 where
    a_statement : (a : TNode) → StatementPrints a → LinePrints a
    a_tag : (a : TNode) → TagPrints a → LinePrints a
    a_shown : (n : ℕ) (p : Place) (a : Expr) → IsWritten SpelledValue a → LinePrints (nd.Content n p a)
    a_group : (p : Place) (items : List TNode) → ContentPrints false items → LinePrints (nd.Group p items)

  pub data LinesPrint : List TNode → Type 0 where
    no_line : LinesPrint []
    more_lines : (a : TNode) (others : List TNode) → LinePrints a → LinesPrint others → LinesPrint (a ∷ others)

  -- sections of a `switch`
  pub data SectionsPrint : List TSection → Type 0 where
    no_section : SectionsPrint []
    more_sections : (labels : List Label) (items : List TNode) (others : List TSection) → IsWritten (λ ts x. Labels ts [] x) labels → LinesPrint items → SectionsPrint others → SectionsPrint (section labels items ∷ others)

-- the nodes of a file, where literal texts may stand side by side
pub data FilePrints : List TNode → Type 0 where
  no_node : FilePrints []
  file_text : (n : ℕ) (p : Place) (said : List ℕ) (others : List TNode) → IsContentText said → FilePrints others → FilePrints (nd.Text n p said ∷ others)
  file_raw : (n : ℕ) (p : Place) (said : List ℕ) (others : List TNode) → IsContentText said → FilePrints others → FilePrints (nd.Raw n p said ∷ others)
  file_item : (a : TNode) (others : List TNode) → ItemPrints a → FilePrints others → FilePrints (a ∷ others)

-- a component
pub record IsPrintable (a : Component) : Type 0 where
  pub nodes : FilePrints a.nodes
  pub members : IsWritten SpelledMembers a.members
