-- What pieces spell again.
use Rattle.std.specs.Prelude.{◌≡◌, ℕ, Bool, List, [], ◌∷◌, Option}
use Rattle.text_core.specs.declared.place.Place.{Place}
use Rattle.cs_ast.specs.declared.expression.Expr.{Expr}
use Rattle.cs_print.specs.Alike.{Alike, named, Each}
use Rattle.razor_token.specs.declared.piece.Piece.{Piece}
use Rattle.razor_token.specs.declared.piece.PieceKind.TheVariants as k
use Rattle.razor_ast.specs.declared.attribute.Attribute.{Attribute}
use Rattle.razor_ast.specs.declared.attribute.AttributeKind.{AttributeKind}
use Rattle.razor_ast.specs.declared.attribute.AttributeKind.TheVariants as ak
use Rattle.razor_ast.specs.declared.attribute.Given.TheVariants as given
use Rattle.razor_ast.specs.declared.attribute.ValuePart.{ValuePart}
use Rattle.razor_ast.specs.declared.attribute.ValuePart.TheVariants as vp
use Rattle.razor_ast.specs.Attributes.{KeyOf, SomeAttributes}
use Rattle.razor_ast.specs.Pieces.{IsKind}
use Rattle.razor_print.specs.Parts.{Parts}
use Rattle.printed_pieces.specs.Meant.{Mean}

-- The pieces up to some rest spell an expression that is equal to this one, apart from places, and the rest is what these parts are
-- meant to be.
pub record SpellsAgain (Tree : List Piece → List Piece → Expr → Type 0) (a : Expr) (later : Parts) (ps : List Piece) : Type 0 where
  pub rest : List Piece
  pub other : Expr
  pub spelled : Tree ps rest other
  pub alike : Alike a other
  pub mean : Mean later rest

-- parts of values that are equal apart from places
pub data AlikeParts : List ValuePart → List ValuePart → Type 0 where
  none : AlikeParts [] []
  literal : (text : List ℕ) (xs ys : List ValuePart) → AlikeParts xs ys → AlikeParts (vp.Literal text ∷ xs) (vp.Literal text ∷ ys)
  shown : (a b : Expr) (xs ys : List ValuePart) → Alike a b → AlikeParts xs ys → AlikeParts (vp.Shown a ∷ xs) (vp.Shown b ∷ ys)

-- Values of attributes that are equal apart from places. The expression of a text is the one that it spells where it stands, if any: how
-- deeply it stands may differ.
pub data AlikeValues : AttributeKind → AttributeKind → Type 0 where
  mixed : (n : ℕ) (xs ys : List ValuePart) → AlikeParts xs ys → AlikeValues (ak.Mixed n xs) (ak.Mixed n ys)
  key : (a b : Expr) → Alike a b → AlikeValues (ak.Key a) (ak.Key b)
  event : (n : ℕ) (a b : Expr) → Alike a b → AlikeValues (ak.Event n a) (ak.Event n b)
  bind : (n : ℕ) (x : List ℕ) (p q : Place) → AlikeValues (ak.Bind n (named p x)) (ak.Bind n (named q x))
  bind_event : AlikeValues ak.BindEvent ak.BindEvent
  nothing : (n : ℕ) → AlikeValues (ak.Parameter n given.Nothing) (ak.Parameter n given.Nothing)
  text : (n : ℕ) (p q : Place) (said : List ℕ) (a b : Option Expr) → AlikeValues (ak.Parameter n (given.Text p said a)) (ak.Parameter n (given.Text q said b))
  value : (n : ℕ) (a b : Expr) → Alike a b → AlikeValues (ak.Parameter n (given.Value a)) (ak.Parameter n (given.Value b))
  context : (n : ℕ) (x : List ℕ) (p q : Place) → AlikeValues (ak.Context n (named p x)) (ak.Context n (named q x))

pub data AlikeAttributes : Attribute → Attribute → Type 0 where
  alike : (p q : Place) (name : List ℕ) (j k : AttributeKind) → AlikeValues j k → AlikeAttributes (record { place = p; name = name; kind = j }) (record { place = q; name = name; kind = k })

-- Behind white space the pieces up to some rest spell an attribute that is equal to this one, apart from places, with the same numbers
-- before and behind it.
pub record AttributeAgain (Tree : ℕ → List Piece → List Piece → ℕ → Attribute → Type 0) (n m : ℕ) (a : Attribute) (later : Parts) (ps : List Piece) : Type 0 where
  pub space : Piece
  pub us : List Piece
  pub rest : List Piece
  pub other : Attribute
  pub split : space ∷ us ≡ ps
  pub blank : IsKind k.Space space
  pub spelled : Tree n us rest m other
  pub alike : AlikeAttributes a other
  pub mean : Mean later rest

-- a key has no number
abbrev pub IsKey : ℕ → List Piece → List Piece → ℕ → Attribute → Type 0
IsKey n ps rest m a = KeyOf ps rest a

-- The pieces up to some rest spell attributes of a tag, which is a component's or not, that are equal to these, apart from places, with
-- the same numbers before and behind them. The first argument gives what is open at a piece.
pub record AttributesAgain (around : Piece → List ℕ) (component : Bool) (n m : ℕ) (all : List Attribute) (later : Parts) (ps : List Piece) : Type 0 where
  pub rest : List Piece
  pub others : List Attribute
  pub spelled : SomeAttributes around component n ps rest m others
  pub alike : Each AlikeAttributes all others
  pub mean : Mean later rest
