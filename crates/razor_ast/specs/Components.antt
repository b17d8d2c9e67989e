-- Which text spells which component.
use Rattle.std.specs.Prelude.{◌≡◌, ℕ, ◌+◌, Bool, true, false, List, [], ◌∷◌, ◌++◌, length}
use Rattle.cs_ast.specs.declared.member.Member.{Member}
use Rattle.cs_token.specs.declared.token.Token.{Token}
use Rattle.cs_token.specs.declared.token.TokenKind.TheVariants as t
use Rattle.cs_token.specs.declared.token.Sign.TheVariants as s
use Rattle.cs_grammar.specs.Members.{SpelledMembers}
use Rattle.razor_token.specs.Cutting.{Cuts}
use Rattle.razor_token.specs.declared.piece.Piece.{Piece}
use Rattle.razor_token.specs.declared.piece.PieceKind.TheVariants as k
use Rattle.razor_ast.specs.declared.component.Component.{Component}
use Rattle.razor_ast.specs.declared.node.TNode.{TNode}
use Rattle.razor_ast.specs.Pieces.{counted, IsKind, codes_of}
use Rattle.razor_ast.specs.Literals.{literal_run, place_of, is_edge, text_nodes}
use Rattle.razor_ast.specs.Nodes.{Item}
use Rattle.razor_ast.specs.FileTexts.{stem, text_read}
use Rattle.razor_ast.specs.Nesting.{open_at}

-- the tokens of `@code` behind its at sign: members in braces
pub data SpelledBlock : List Token → List Member → Type 0 where
  block : (o c : Token) (ts : List Token) (members : List Member) →
      o.kind ≡ t.Sign s.OpenBrace → SpelledMembers ts members → c.kind ≡ t.Sign s.CloseBrace → SpelledBlock (o ∷ (ts ++ c ∷ [])) members

-- The content of a whole file from some piece on: whether an edge stands right before it, the next number, the pieces; whether
-- `@implements IDisposable` is among them, the members, the nodes. The first argument gives what is open at a piece.
module _ (around : Piece → List ℕ) where
  pub data Whole : Bool → ℕ → List Piece → Bool → List Member → List TNode → Type 0 where
    last : (edge : Bool) (n : ℕ) (text : List ℕ) (ps : List Piece) →
        literal_run ps ≡ (text, []) → Whole edge n ps false [] (text_nodes edge true n (place_of ps) text)
    item : (edge disposes : Bool) (n m : ℕ) (text : List ℕ) (p : Piece) (ps us vs : List Piece) (texts nodes : List TNode) (node : TNode) (members : List Member) →
        literal_run ps ≡ (text, p ∷ us) → texts ≡ text_nodes edge (is_edge p.kind) n (place_of ps) text →
        Item around (n + length texts) (p ∷ us) vs m node → Whole (is_edge p.kind) m vs disposes members nodes →
        Whole edge n ps disposes members (texts ++ node ∷ nodes)
    code : (edge disposes : Bool) (n : ℕ) (text : List ℕ) (at end : Piece) (ps vs : List Piece) (ts : List Token) (texts nodes : List TNode) (first members : List Member) →
        literal_run ps ≡ (text, at ∷ (codes_of ts ++ end ∷ vs)) → texts ≡ text_nodes edge true n (place_of ps) text →
        IsKind k.MembersAt at → SpelledBlock ts first → IsKind k.ExpressionEnd end → Whole true (n + length texts) vs disposes members nodes →
        Whole edge n ps disposes (first ++ members) (texts ++ nodes)
    directive : (edge disposes : Bool) (n : ℕ) (text : List ℕ) (at end : Piece) (ps vs : List Piece) (ts : List Token) (texts nodes : List TNode) (members : List Member) →
        literal_run ps ≡ (text, at ∷ (codes_of ts ++ end ∷ vs)) → texts ≡ text_nodes edge true n (place_of ps) text →
        IsKind k.Directive at → IsKind k.DirectiveEnd end → Whole true (n + length texts) vs disposes members nodes →
        Whole edge n ps disposes members (texts ++ nodes)
    implements : (edge disposes : Bool) (n : ℕ) (text : List ℕ) (at : Piece) (ps vs : List Piece) (texts nodes : List TNode) (members : List Member) →
        literal_run ps ≡ (text, at ∷ vs) → texts ≡ text_nodes edge true n (place_of ps) text →
        IsKind k.Implements at → Whole true (n + length texts) vs disposes members nodes →
        Whole edge n ps true members (texts ++ nodes)

-- the pieces spell the component of this stem
abbrev pub SpelledBy : List Piece → Component → Type 0
SpelledBy pieces component = Whole (open_at pieces) true 0 (counted pieces) component.disposes component.members component.nodes

-- the text is cut into pieces that spell the component
pub record Spells (text : List ℕ) (component : Component) : Type 0 where
  pub pieces : List Piece
  pub cut : Cuts text pieces
  pub spelled : SpelledBy pieces component

-- a file of this name and this text spells the component
pub record SpellsFile (name text : List ℕ) (component : Component) : Type 0 where
  pub named : component.name ≡ stem name
  pub spelled : Spells (text_read text) component
