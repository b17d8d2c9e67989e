-- What printed nodes are spelled as again.
use Rattle.std.proofs.Common.{◌≡◌, ℕ, Bool, false, List, [], ◌∷◌, Some, None}
use Rattle.std.specs.declared.option.Option.{Option}
use Rattle.text_core.specs.declared.place.Place.{Place}
use Rattle.cs_grammar.specs.Statements.{Jumps}
use Rattle.razor_token.specs.declared.piece.Piece.{Piece}
use Rattle.razor_token.specs.declared.piece.PieceKind.{PieceKind}
use Rattle.razor_ast.specs.declared.node.TNode.{TNode}
use Rattle.razor_ast.specs.declared.node.TSection.{TSection}
use Rattle.razor_ast.specs.Literals.{literal_of, is_edge}
use Rattle.razor_ast.specs.Nodes.{Inside, Tag, Item, Code, Within, Otherwise, Line, Sections}
use Rattle.razor_print.specs.Parts.{Parts}
use Rattle.printed_pieces.specs.Meant.{Mean}
use Rattle.printing_nodes.specs.AlikeNodes.{AlikeNodes, AlikeContent, AlikeCases}

-- the kind of the first piece
abbrev pub first_kind : List Piece → Option PieceKind
first_kind [] = None
first_kind (p ∷ ps) = Some p.kind

-- the first piece is code with markup, `@code` or a directive
abbrev pub first_edge : List Piece → Bool
first_edge [] = false
first_edge (p ∷ ps) = is_edge p.kind

module _ (around : Piece → List ℕ) where
  pub record InsideAgain (name : List ℕ) (n m : ℕ) (children : List TNode) (later : Parts) (us : List Piece) : Type 0 where
    pub rest : List Piece
    pub others : List TNode
    pub spelled : Inside around name n us rest m others
    pub alike : AlikeContent children others
    pub mean : Mean later rest

  pub record TagAgain (n m : ℕ) (a : TNode) (later : Parts) (us : List Piece) : Type 0 where
    pub p : Piece
    pub behind : List Piece
    pub split : p ∷ behind ≡ us
    pub plain : literal_of p.kind ≡ None
    pub inner : is_edge p.kind ≡ false
    pub rest : List Piece
    pub other : TNode
    pub spelled : Tag around n (p ∷ behind) rest m other
    pub alike : AlikeNodes a other
    pub mean : Mean later rest

  pub record ItemAgain (edge : Bool) (n m : ℕ) (a : TNode) (later : Parts) (us : List Piece) : Type 0 where
    pub p : Piece
    pub behind : List Piece
    pub split : p ∷ behind ≡ us
    pub plain : literal_of p.kind ≡ None
    pub edged : is_edge p.kind ≡ edge
    pub rest : List Piece
    pub other : TNode
    pub spelled : Item around n (p ∷ behind) rest m other
    pub alike : AlikeNodes a other
    pub mean : Mean later rest

  -- Code begins with a piece of the same kind, where it stands in content; where it stands is part of its node.
  pub record CodeAgain (b : Bool) (j : Jumps) (f : Bool) (n m : ℕ) (kind : Option PieceKind) (a : TNode) (later : Parts) (us : List Piece) : Type 0 where
    pub p : Piece
    pub behind : List Piece
    pub split : p ∷ behind ≡ us
    pub begins : b ≡ false → Some p.kind ≡ kind
    pub rest : List Piece
    pub other : Place → TNode
    pub spelled : (q : Place) → Code around b q j f n (p ∷ behind) rest m (other q)
    pub alike : (q : Place) → AlikeNodes a (other q)
    pub mean : Mean later rest

  pub record WithinAgain (b : Bool) (j : Jumps) (f : Bool) (n m : ℕ) (a : TNode) (later : Parts) (us : List Piece) : Type 0 where
    pub rest : List Piece
    pub other : TNode
    pub spelled : Within around b j f n us rest m other
    pub alike : AlikeNodes a other
    pub mean : Mean later rest

  pub record OtherwiseAgain (b : Bool) (j : Jumps) (f : Bool) (n m : ℕ) (a : TNode) (later : Parts) (us : List Piece) : Type 0 where
    pub rest : List Piece
    pub other : TNode
    pub spelled : Otherwise around b j f n us rest m other
    pub alike : AlikeNodes a other
    pub mean : Mean later rest

  pub record LineAgain (j : Jumps) (n m : ℕ) (a : TNode) (later : Parts) (us : List Piece) : Type 0 where
    pub rest : List Piece
    pub other : TNode
    pub spelled : Line around j n us rest m other
    pub alike : AlikeNodes a other
    pub mean : Mean later rest

  pub record SectionsAgain (j : Jumps) (room n m : ℕ) (all : List TSection) (later : Parts) (us : List Piece) : Type 0 where
    pub rest : List Piece
    pub others : List TSection
    pub spelled : Sections around j room n us rest m others
    pub alike : AlikeCases all others
    pub mean : Mean later rest
