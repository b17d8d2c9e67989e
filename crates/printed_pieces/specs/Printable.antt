-- Which attributes have a printed text that is cut as meant.
use Rattle.std.specs.Prelude.{◌≡◌, ℕ, Bool, true, false, ◌==◌, List, [], ◌∷◌, Option}
use Rattle.std.specs.List.{list_all}
use Rattle.text_core.specs.declared.place.Place.{Place}
use Rattle.cs_ast.specs.declared.expression.Expr.{Expr}
use Rattle.cs_ast.specs.declared.identifier.Ident.{Ident}
use Rattle.cs_grammar.specs.Expressions.{SpelledExpression}
use Rattle.cs_grammar.specs.Lambdas.{Spelled, SpelledValue}
use Rattle.razor_token.specs.declared.context.Holds.TheVariants as h
use Rattle.razor_token.specs.declared.piece.Quote.{Quote}
use Rattle.razor_token.specs.Tags.{held_by}
use Rattle.razor_token.specs.ValueFronts.{quoted_run}
use Rattle.razor_ast.specs.declared.attribute.Attribute.{Attribute}
use Rattle.razor_ast.specs.declared.attribute.AttributeKind.{AttributeKind}
use Rattle.razor_ast.specs.declared.attribute.AttributeKind.TheVariants as ak
use Rattle.razor_ast.specs.declared.attribute.Given.TheVariants as given
use Rattle.razor_ast.specs.declared.attribute.ValuePart.{ValuePart}
use Rattle.razor_ast.specs.declared.attribute.ValuePart.TheVariants as vp
use Rattle.razor_print.specs.Quotes.{text_quote, mixed_quote}
use Rattle.razor_print.specs.ValueTexts.{stands_in}
use Rattle.printed_pieces.specs.Names.{IsAttributeName}
use Rattle.printed_pieces.specs.Places.{is_said}
use Rattle.printed_pieces.specs.Written.{IsWritten, Named}

-- Literal texts that aren't empty and don't have the quote, and expressions. Where the first argument is true, literal text stands right before them.
pub data AreParts (quote : Quote) : Bool → List ValuePart → Type 0 where
  no_part : (b : Bool) → AreParts quote b []
  literal : (c : ℕ) (text : List ℕ) (ps : List ValuePart) → list_all (is_said (quoted_run quote)) (c ∷ text) ≡ true → AreParts quote true ps → AreParts quote false (vp.Literal (c ∷ text) ∷ ps)
  shown : (b : Bool) (a : Expr) (ps : List ValuePart) → IsWritten SpelledValue a → AreParts quote false ps → AreParts quote b (vp.Shown a ∷ ps)

-- the text of a parameter: no at sign stands first, and the quote that ends it in its quotes stands behind it
pub data IsValueText : List ℕ → Type 0 where
  empty : IsValueText []
  some : (c : ℕ) (text : List ℕ) → (c == 64) ≡ false → stands_in (text_quote (c ∷ text)) (c ∷ text) ≡ true → IsValueText (c ∷ text)

-- the value of an attribute of this name, on a component's tag or not
pub data IsKindOf (component : Bool) (name : List ℕ) : AttributeKind → Type 0 where
  mixed : (n : ℕ) (ps : List ValuePart) → held_by component name ≡ h.Mixed → AreParts (mixed_quote ps) false ps → IsKindOf component name (ak.Mixed n ps)
  key : (a : Expr) → held_by component name ≡ h.Code → IsWritten SpelledExpression a → IsKindOf component name (ak.Key a)
  event : (n : ℕ) (a : Expr) → held_by component name ≡ h.Event → IsWritten Spelled a → IsKindOf component name (ak.Event n a)
  bind : (n : ℕ) (field : Ident) → held_by component name ≡ h.Code → IsWritten Named field.name → IsKindOf component name (ak.Bind n field)
  bind_event : held_by component name ≡ h.Text → IsKindOf component name ak.BindEvent
  nothing : (n : ℕ) → IsKindOf component name (ak.Parameter n given.Nothing)
  text : (n : ℕ) (p : Place) (said : List ℕ) (a : Option Expr) → held_by component name ≡ h.Supplied → IsValueText said → IsKindOf component name (ak.Parameter n (given.Text p said a))
  value : (n : ℕ) (a : Expr) → held_by component name ≡ h.Supplied → IsWritten Spelled a → IsKindOf component name (ak.Parameter n (given.Value a))
  context : (n : ℕ) (field : Ident) → held_by component name ≡ h.Text → IsWritten Named field.name → IsKindOf component name (ak.Context n field)

-- the attributes of a tag
pub data ArePrintable (component : Bool) : List Attribute → Type 0 where
  none : ArePrintable component []
  another : (a : Attribute) (others : List Attribute) → IsAttributeName a.name → IsKindOf component a.name a.kind → ArePrintable component others → ArePrintable component (a ∷ others)
