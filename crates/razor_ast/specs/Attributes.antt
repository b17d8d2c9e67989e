-- Which pieces spell which attributes.
use Rattle.std.specs.Prelude.{◌≡◌, ◌≢◌, ℕ, ◌+◌, Bool, true, false, not, ◌||◌, codes, List, [], ◌∷◌, ◌++◌, Option}
use Rattle.std.specs.List.{list_any}
use Rattle.cs_ast.specs.declared.expression.Expr.{Expr}
use Rattle.cs_token.specs.declared.token.Token.{Token}
use Rattle.cs_token.specs.declared.token.TokenKind.TheVariants as t
use Rattle.cs_token.specs.declared.token.Sign.TheVariants as s
use Rattle.cs_grammar.specs.Expressions.{SpelledExpression}
use Rattle.cs_grammar.specs.Lambdas.{Spelled}
use Rattle.cs_grammar.specs.Tokens.{ident}
use Rattle.razor_token.specs.declared.piece.Piece.{Piece}
use Rattle.razor_token.specs.declared.piece.PieceKind.TheVariants as k
use Rattle.razor_token.specs.declared.piece.Quote.{Quote}
use Rattle.razor_ast.specs.declared.attribute.Attribute.{Attribute}
use Rattle.razor_ast.specs.declared.attribute.AttributeKind.{AttributeKind}
use Rattle.razor_ast.specs.declared.attribute.AttributeKind.TheVariants as ak
use Rattle.razor_ast.specs.declared.attribute.Given.TheVariants as given
use Rattle.razor_ast.specs.declared.attribute.ValuePart.{ValuePart}
use Rattle.razor_ast.specs.declared.attribute.ValuePart.TheVariants as vp
use Rattle.razor_ast.specs.Pieces.{IsKind, codes_of}
use Rattle.razor_ast.specs.Literals.{literal_run, place_of}
use Rattle.razor_ast.specs.Shown.{Shown}
use Rattle.razor_ast.specs.TextValues.{IsExpressionOf, IsNameText}
use Rattle.razor_ast.specs.AttributeNames.{begins_at, IsEvent}

-- literal texts and content expressions up to the end of a value
pub data Parts : List Piece → List Piece → List ValuePart → Type 0 where
  no_part : (end : Piece) (rest : List Piece) → IsKind k.ValueEnd end → Parts (end ∷ rest) rest []
  literal : (x text : List ℕ) (p : Piece) (ps us rest : List Piece) (parts : List ValuePart) →
      IsKind (k.Literal x) p → literal_run (p ∷ ps) ≡ (text, us) → Parts us rest parts → Parts (p ∷ ps) rest (vp.Literal text ∷ parts)
  shown : (ps us rest : List Piece) (a : Expr) (parts : List ValuePart) →
      Shown ps us a → Parts us rest parts → Parts ps rest (vp.Shown a ∷ parts)

-- the tokens of an expression or a lambda behind an at sign, which may be in brackets as a whole
pub data Behind : List Token → Expr → Type 0 where
  whole : (ts : List Token) (a : Expr) → Spelled ts a → Behind ts a
  in_round : (o c : Token) (ts : List Token) (a : Expr) →
      o.kind ≡ t.Sign s.OpenRound → Spelled ts a → c.kind ≡ t.Sign s.CloseRound → Behind (o ∷ (ts ++ c ∷ [])) a

-- an at sign and what stands behind it, up to the end of a value
pub data Led : List Piece → List Piece → Expr → Type 0 where
  quoted : (at end : Piece) (ts : List Token) (rest : List Piece) (a : Expr) →
      IsKind k.At at → Behind ts a → IsKind k.ValueEnd end → Led (at ∷ (codes_of ts ++ end ∷ rest)) rest a
  bare : (at e end : Piece) (ts : List Token) (rest : List Piece) (a : Expr) →
      IsKind k.At at → Behind ts a → IsKind k.ExpressionEnd e → IsKind k.ValueEnd end → Led (at ∷ (codes_of ts ++ e ∷ end ∷ rest)) rest a

-- the value of an event
pub data EventValue : List Piece → List Piece → Expr → Type 0 where
  led : (ps rest : List Piece) (a : Expr) → Led ps rest a → EventValue ps rest a
  plain : (end : Piece) (ts : List Token) (rest : List Piece) (a : Expr) →
      Spelled ts a → IsKind k.ValueEnd end → EventValue (codes_of ts ++ end ∷ rest) rest a

-- a text up to the end of a value
pub data TextValue : List Piece → List Piece → List ℕ → Type 0 where
  text : (end : Piece) (ps rest : List Piece) (text : List ℕ) →
      literal_run ps ≡ (text, end ∷ rest) → IsKind k.ValueEnd end → TextValue ps rest text

-- an attribute by its piece
abbrev pub attribute : Piece → List ℕ → AttributeKind → Attribute
attribute p name kind = record { place = p.place; name = name; kind = kind }

-- the value of an attribute begins
abbrev pub BeginsValue : Piece → Type 0
BeginsValue p = (quote : Option Quote) × IsKind (k.ValueStart quote) p

-- OfElement n ps rest m a: the pieces ps up to rest spell the attribute a of an element; n is the next number before it, m that behind it.
pub data OfElement : ℕ → List Piece → List Piece → ℕ → Attribute → Type 0 where
  no_value : (n : ℕ) (x : List ℕ) (p : Piece) (rest : List Piece) →
      IsKind (k.AttributeName x) p → begins_at x ≡ false → OfElement n (p ∷ rest) rest (n + 1) (attribute p x (ak.Mixed n []))
  mixed : (n : ℕ) (x : List ℕ) (p v : Piece) (ps rest : List Piece) (parts : List ValuePart) →
      IsKind (k.AttributeName x) p → begins_at x ≡ false → BeginsValue v → Parts ps rest parts →
      OfElement n (p ∷ v ∷ ps) rest (n + 1) (attribute p x (ak.Mixed n parts))
  event : (n : ℕ) (x : List ℕ) (p v : Piece) (ps rest : List Piece) (a : Expr) →
      IsKind (k.AttributeName x) p → IsEvent x → BeginsValue v → EventValue ps rest a →
      OfElement n (p ∷ v ∷ ps) rest (n + 1) (attribute p x (ak.Event n a))
  bind : (n : ℕ) (x : List ℕ) (p v end : Piece) (name : Token) (rest : List Piece) →
      IsKind (k.AttributeName (codes "@bind")) p → BeginsValue v → name.kind ≡ t.Name x → IsKind k.ValueEnd end →
      OfElement n (p ∷ v ∷ (codes_of (name ∷ []) ++ end ∷ rest)) rest (n + 2) (attribute p (codes "@bind") (ak.Bind n (ident name x)))
  bind_event : (n : ℕ) (p v : Piece) (ps rest : List Piece) →
      IsKind (k.AttributeName (codes "@bind:event")) p → BeginsValue v → TextValue ps rest (codes "oninput") →
      OfElement n (p ∷ v ∷ ps) rest n (attribute p (codes "@bind:event") ak.BindEvent)

-- OfComponent around n ps rest m a: the same for an attribute of a component's tag; around gives what is open at a piece.
pub data OfComponent (around : Piece → List ℕ) : ℕ → List Piece → List Piece → ℕ → Attribute → Type 0 where
  no_value : (n : ℕ) (x : List ℕ) (p : Piece) (rest : List Piece) →
      IsKind (k.AttributeName x) p → begins_at x ≡ false → x ≢ codes "Context" →
      OfComponent around n (p ∷ rest) rest (n + 1) (attribute p x (ak.Parameter n given.Nothing))
  text : (n : ℕ) (x said : List ℕ) (p v : Piece) (ps rest : List Piece) (a : Option Expr) →
      IsKind (k.AttributeName x) p → begins_at x ≡ false → x ≢ codes "Context" → BeginsValue v →
      TextValue ps rest said → IsExpressionOf (around v) (place_of ps) said a →
      OfComponent around n (p ∷ v ∷ ps) rest (n + 1) (attribute p x (ak.Parameter n (given.Text (place_of ps) said a)))
  value : (n : ℕ) (x : List ℕ) (p v : Piece) (ps rest : List Piece) (a : Expr) →
      IsKind (k.AttributeName x) p → begins_at x ≡ false → x ≢ codes "Context" → BeginsValue v → Led ps rest a →
      OfComponent around n (p ∷ v ∷ ps) rest (n + 1) (attribute p x (ak.Parameter n (given.Value a)))
  context : (n : ℕ) (x : List ℕ) (p v : Piece) (ps rest : List Piece) →
      IsKind (k.AttributeName (codes "Context")) p → BeginsValue v → TextValue ps rest x → IsNameText x →
      OfComponent around n (p ∷ v ∷ ps) rest (n + 1)
      (attribute p (codes "Context") (ak.Context n (record { place = place_of ps; name = x })))

-- `@key` with its value, which has no number
pub data KeyOf : List Piece → List Piece → Attribute → Type 0 where
  key : (p v end : Piece) (ts : List Token) (rest : List Piece) (a : Expr) →
      IsKind (k.AttributeName (codes "@key")) p → BeginsValue v → SpelledExpression ts a → IsKind k.ValueEnd end →
      KeyOf (p ∷ v ∷ (codes_of ts ++ end ∷ rest)) rest (attribute p (codes "@key") (ak.Key a))

-- an attribute of a tag, which is a component's or not
pub data OfTag (around : Piece → List ℕ) : Bool → ℕ → List Piece → List Piece → ℕ → Attribute → Type 0 where
  of_element : (n m : ℕ) (ps rest : List Piece) (a : Attribute) → OfElement n ps rest m a → OfTag around false n ps rest m a
  of_component : (n m : ℕ) (ps rest : List Piece) (a : Attribute) → OfComponent around n ps rest m a → OfTag around true n ps rest m a
  key : (component : Bool) (n : ℕ) (ps rest : List Piece) (a : Attribute) → KeyOf ps rest a → OfTag around component n ps rest n a

-- attributes one behind another, with white space before each
pub data SomeAttributes (around : Piece → List ℕ) (component : Bool) : ℕ → List Piece → List Piece → ℕ → List Attribute → Type 0 where
  none : (n : ℕ) (rest : List Piece) → SomeAttributes around component n rest rest n []
  more : (n i m : ℕ) (space : Piece) (ps us rest : List Piece) (a : Attribute) (others : List Attribute) →
      IsKind k.Space space → OfTag around component n ps us i a → SomeAttributes around component i us rest m others →
      SomeAttributes around component n (space ∷ ps) rest m (a ∷ others)

-- `@bind`
abbrev pub is_bind : AttributeKind → Bool
is_bind (ak.Bind n field) = true
is_bind _ = false

-- `@bind:event`
abbrev pub is_bind_event : AttributeKind → Bool
is_bind_event ak.BindEvent = true
is_bind_event _ = false

-- where `@bind:event` is, `@bind` is too
abbrev pub is_bound : List Attribute → Bool
is_bound all = not (list_any (λ a. is_bind_event a.kind) all) || list_any (λ a. is_bind a.kind) all

-- the attributes of a tag
pub record AttributesOf (around : Piece → List ℕ) (component : Bool) (n : ℕ) (ps rest : List Piece) (m : ℕ) (all : List Attribute) : Type 0 where
  pub spelled : SomeAttributes around component n ps rest m all
  pub bound : is_bound all ≡ true
