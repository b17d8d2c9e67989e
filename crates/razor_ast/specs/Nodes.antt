-- Which pieces spell which content, and which code with markup.
use Rattle.std.specs.Prelude.{◌≡◌, ℕ, ◌+◌, ◌-◌, ◌≤◌, codes, Bool, true, false, List, [], ◌∷◌, ◌++◌, length, Option, Some, None}
use Rattle.text_core.specs.declared.place.Place.{Place}
use Rattle.cs_ast.specs.declared.expression.Expr.{Expr}
use Rattle.cs_ast.specs.declared.expression.Label.{Label}
use Rattle.cs_ast.specs.declared.expression.Stmt.{Stmt}
use Rattle.cs_ast.specs.declared.identifier.Ident.{Ident}
use Rattle.cs_token.specs.declared.token.Token.{Token}
use Rattle.cs_token.specs.declared.token.Sign.TheVariants as s
use Rattle.cs_token.specs.declared.token.Word.TheVariants as w
use Rattle.cs_grammar.specs.Expressions.{SpelledExpression}
use Rattle.cs_grammar.specs.Statements.{Jumps, no_jumps, in_loop, in_switch, defaults}
use Rattle.cs_grammar.specs.Tokens.{ident}
use Rattle.razor_token.specs.declared.piece.Piece.{Piece}
use Rattle.razor_token.specs.declared.piece.PieceKind.TheVariants as k
use Rattle.razor_token.specs.Tags.{is_component}
use Rattle.razor_ast.specs.declared.attribute.Attribute.{Attribute}
use Rattle.razor_ast.specs.declared.node.TNode.{TNode}
use Rattle.razor_ast.specs.declared.node.TNode.TheVariants as nd
use Rattle.razor_ast.specs.declared.node.TSection.{TSection}
use Rattle.razor_ast.specs.Pieces.{IsKind, IsSign, IsWord}
use Rattle.razor_ast.specs.Literals.{literal_run, place_of, is_edge, text_nodes}
use Rattle.razor_ast.specs.Brackets.{Round}
use Rattle.razor_ast.specs.Shown.{Shown}
use Rattle.razor_ast.specs.AttributeNames.{IsElementName}
use Rattle.razor_ast.specs.Attributes.{AttributesOf}
use Rattle.razor_ast.specs.Statements.{Simple, SomeLabels, ForHead, ForEachHead, Leaves, break_at, continue_at, section}

-- the same pieces, or these behind white space
pub data Spaced : List Piece → List Piece → Type 0 where
  close : (ps : List Piece) → Spaced ps ps
  apart : (space : Piece) (ps : List Piece) → IsKind k.Space space → Spaced (space ∷ ps) ps

-- a name behind the first characters of its piece
abbrev pub name_at : Piece → List ℕ → Ident
name_at p name = record { place = record { line = p.place.line; column = p.place.column + 1 }; name = name }

-- a component's tag, or an element
abbrev pub tag_node : Bool → ℕ → Piece → List ℕ → List Attribute → List TNode → TNode
tag_node true n p name attributes children = nd.Child n p.place (name_at p name) attributes children
tag_node false n p name attributes children = nd.Element n p.place (name_at p name) attributes children

-- In each relation the pieces up to the rest spell the nodes, and the numbers are the next one before them and the next one behind
-- them. The first argument gives what is open at a piece.
module _ (around : Piece → List ℕ) where
  mutual
    -- what stands behind the attributes of a tag of this name
    pub data Inside : List ℕ → ℕ → List Piece → List Piece → ℕ → List TNode → Type 0 where
      without_content : (name : List ℕ) (n : ℕ) (end : Piece) (rest : List Piece) → IsKind k.EmptyTagEnd end → Inside name n (end ∷ rest) rest n []
      with_content : (name : List ℕ) (n m : ℕ) (begin close end : Piece) (ps us rest : List Piece) (children : List TNode) →
          IsKind k.ContentStart begin → Content true n ps (close ∷ us) m children → IsKind (k.EndTagStart name) close →
          Spaced us (end ∷ rest) → IsKind k.EndTagEnd end → Inside name n (begin ∷ ps) rest m children

    -- a tag that isn't that of a group
    pub data Tag : ℕ → List Piece → List Piece → ℕ → TNode → Type 0 where
      tag : (name : List ℕ) (n i m : ℕ) (p : Piece) (ps us vs rest : List Piece) (attributes : List Attribute) (children : List TNode) →
          IsKind (k.TagStart name) p → IsElementName name → AttributesOf around (is_component name) (n + 1) ps us i attributes →
          Spaced us vs → Inside name i vs rest m children → Tag n (p ∷ ps) rest m (tag_node (is_component name) n p name attributes children)

    -- a part of content that isn't literal text
    pub data Item : ℕ → List Piece → List Piece → ℕ → TNode → Type 0 where
      of_tag : (n m : ℕ) (ps rest : List Piece) (node : TNode) → Tag n ps rest m node → Item n ps rest m node
      of_shown : (n : ℕ) (p : Piece) (ps rest : List Piece) (a : Expr) →
          Shown (p ∷ ps) rest a → Item n (p ∷ ps) rest (n + 1) (nd.Content n p.place a)
      of_code : (n m : ℕ) (at : Piece) (ps rest : List Piece) (node : TNode) →
          IsKind k.CodeAt at → Code false at.place no_jumps false n ps rest m node → Item n (at ∷ ps) rest m node

    -- content, and whether an edge stands right before it; its end is an edge
    pub data Content : Bool → ℕ → List Piece → List Piece → ℕ → List TNode → Type 0 where
      last_text : (edge : Bool) (n : ℕ) (text : List ℕ) (ps rest : List Piece) (texts : List TNode) →
          literal_run ps ≡ (text, rest) → texts ≡ text_nodes edge true n (place_of ps) text → Content edge n ps rest (n + length texts) texts
      more_content : (edge : Bool) (n i m : ℕ) (text : List ℕ) (p : Piece) (ps us vs rest : List Piece) (texts : List TNode) (node : TNode) (nodes : List TNode) →
          literal_run ps ≡ (text, p ∷ us) → texts ≡ text_nodes edge (is_edge p.kind) n (place_of ps) text →
          Item (n + length texts) (p ∷ us) vs i node → Content (is_edge p.kind) i vs rest m nodes →
          Content edge n ps rest m (texts ++ node ∷ nodes)

    -- A statement at a place that is no simple one, or any in a block. Where the first argument is false it stands in content, and its
    -- bodies are blocks. Jumps and what may follow are as for statements without markup.
    pub data Code : Bool → Place → Jumps → Bool → ℕ → List Piece → List Piece → ℕ → TNode → Type 0 where
      simple : (p : Place) (j : Jumps) (f : Bool) (n : ℕ) (ps rest : List Piece) (a : Stmt) →
          Simple ps rest a → Code true p j f n ps rest n (nd.Statement a)
      break_ : (p : Place) (j : Jumps) (f : Bool) (n : ℕ) (t c : Piece) (rest : List Piece) →
          j.breaks ≡ true → IsWord w.Break t → IsSign s.Semicolon c → Code true p j f n (t ∷ c ∷ rest) rest n (break_at t.place)
      continue_ : (p : Place) (j : Jumps) (f : Bool) (n : ℕ) (t c : Piece) (rest : List Piece) →
          j.continues ≡ true → IsWord w.Continue t → IsSign s.Semicolon c → Code true p j f n (t ∷ c ∷ rest) rest n (continue_at t.place)
      block : (b : Bool) (p : Place) (j : Jumps) (f : Bool) (n m : ℕ) (o c : Piece) (ps rest : List Piece) (items : List TNode) →
          IsSign s.OpenBrace o → Lines j n ps (c ∷ rest) m items → IsSign s.CloseBrace c → Code b p j f n (o ∷ ps) rest m (nd.Block p items)
      if_alone : (b : Bool) (p : Place) (j : Jumps) (n m : ℕ) (t : Piece) (ps us rest : List Piece) (ts : List Token) (a : Expr) (yes : TNode) →
          IsWord w.If t → Round ps ts us → SpelledExpression ts a → Within b j false n us rest m yes →
          Code b p j false n (t ∷ ps) rest m (nd.If p a yes None)
      if_else : (b : Bool) (p : Place) (j : Jumps) (f : Bool) (n i m : ℕ) (t d : Piece) (ps us vs rest : List Piece) (ts : List Token) (a : Expr) (yes no : TNode) →
          IsWord w.If t → Round ps ts us → SpelledExpression ts a → Within b j true n us (d ∷ vs) i yes →
          IsWord w.Else d → Otherwise b j f i vs rest m no → Code b p j f n (t ∷ ps) rest m (nd.If p a yes (Some no))
      while_ : (b : Bool) (p : Place) (j : Jumps) (f : Bool) (n m : ℕ) (t : Piece) (ps us rest : List Piece) (ts : List Token) (a : Expr) (body : TNode) →
          IsWord w.While t → Round ps ts us → SpelledExpression ts a → Within b in_loop f (n + 1) us rest m body →
          Code b p j f n (t ∷ ps) rest m (nd.While n p a body)
      for_ : (b : Bool) (p : Place) (j : Jumps) (f : Bool) (n m : ℕ) (t : Piece) (ps us rest : List Piece) (ts : List Token)
          (start : Option Stmt) (condition step : Option Expr) (body : TNode) →
          IsWord w.For t → Round ps ts us → ForHead ts start condition step → Within b in_loop f (n + 1) us rest m body →
          Code b p j f n (t ∷ ps) rest m (nd.For n p start condition step body)
      foreach_ : (b : Bool) (p : Place) (j : Jumps) (f : Bool) (n m : ℕ) (x : List ℕ) (t : Piece) (name : Token) (ps us rest : List Piece) (ts : List Token) (a : Expr) (body : TNode) →
          IsWord w.Foreach t → Round ps ts us → ForEachHead ts name x a → Within b in_loop f (n + 1) us rest m body →
          Code b p j f n (t ∷ ps) rest m (nd.ForEach n p (ident name x) a body)
      switch_ : (b : Bool) (p : Place) (j : Jumps) (f : Bool) (n m : ℕ) (t o c : Piece) (ps us rest : List Piece) (ts : List Token) (a : Expr) (sections : List TSection) →
          IsWord w.Switch t → Round ps ts (o ∷ us) → SpelledExpression ts a → IsSign s.OpenBrace o →
          Sections (in_switch j) 1 n us (c ∷ rest) m sections → IsSign s.CloseBrace c → Code b p j f n (t ∷ ps) rest m (nd.Switch p a sections)

    -- the body of a statement: a block, or in a block any statement
    pub data Within : Bool → Jumps → Bool → ℕ → List Piece → List Piece → ℕ → TNode → Type 0 where
      in_block : (b : Bool) (j : Jumps) (f : Bool) (n m : ℕ) (o : Piece) (ps rest : List Piece) (body : TNode) →
          IsSign s.OpenBrace o → Code b o.place j f n (o ∷ ps) rest m body → Within b j f n (o ∷ ps) rest m body
      other : (j : Jumps) (f : Bool) (n m : ℕ) (p : Piece) (ps rest : List Piece) (body : TNode) →
          Code true p.place j f n (p ∷ ps) rest m body → Within true j f n (p ∷ ps) rest m body

    -- what stands behind `else`: a body, or one more `if`
    pub data Otherwise : Bool → Jumps → Bool → ℕ → List Piece → List Piece → ℕ → TNode → Type 0 where
      otherwise_body : (b : Bool) (j : Jumps) (f : Bool) (n m : ℕ) (ps rest : List Piece) (node : TNode) →
          Within b j f n ps rest m node → Otherwise b j f n ps rest m node
      otherwise_if : (b : Bool) (j : Jumps) (f : Bool) (n m : ℕ) (t : Piece) (ps rest : List Piece) (node : TNode) →
          IsWord w.If t → Code b t.place j f n (t ∷ ps) rest m node → Otherwise b j f n (t ∷ ps) rest m node

    -- a statement of a block, or what besides may stand there: a tag, `<text>`, `@:`, a content expression, or an at sign before a statement
    pub data Line : Jumps → ℕ → List Piece → List Piece → ℕ → TNode → Type 0 where
      a_statement : (j : Jumps) (n m : ℕ) (p : Piece) (ps rest : List Piece) (node : TNode) →
          Code true p.place j false n (p ∷ ps) rest m node → Line j n (p ∷ ps) rest m node
      a_marked : (j : Jumps) (n m : ℕ) (at : Piece) (ps rest : List Piece) (node : TNode) →
          IsKind k.CodeAt at → Code true at.place j false n ps rest m node → Line j n (at ∷ ps) rest m node
      a_tag : (j : Jumps) (n m : ℕ) (ps rest : List Piece) (node : TNode) → Tag n ps rest m node → Line j n ps rest m node
      a_shown : (j : Jumps) (n : ℕ) (p : Piece) (ps rest : List Piece) (a : Expr) →
          Shown (p ∷ ps) rest a → Line j n (p ∷ ps) rest (n + 1) (nd.Content n p.place a)
      a_group : (j : Jumps) (n m : ℕ) (p begin close end : Piece) (ps us vs rest : List Piece) (items : List TNode) →
          IsKind (k.TagStart (codes "text")) p → Spaced ps (begin ∷ us) → IsKind k.ContentStart begin → Content true n us (close ∷ vs) m items →
          IsKind (k.EndTagStart (codes "text")) close → Spaced vs (end ∷ rest) → IsKind k.EndTagEnd end →
          Line j n (p ∷ ps) rest m (nd.Group p.place items)
      a_line : (j : Jumps) (n m : ℕ) (p end : Piece) (ps rest : List Piece) (items : List TNode) →
          IsKind k.LineStart p → Content true n ps (end ∷ rest) m items → IsKind k.LineEnd end → Line j n (p ∷ ps) rest m (nd.Group p.place items)

    -- these one behind another
    pub data Lines : Jumps → ℕ → List Piece → List Piece → ℕ → List TNode → Type 0 where
      no_line : (j : Jumps) (n : ℕ) (rest : List Piece) → Lines j n rest rest n []
      more_lines : (j : Jumps) (n i m : ℕ) (ps us rest : List Piece) (first : TNode) (others : List TNode) →
          Line j n ps us i first → Lines j i us rest m others → Lines j n ps rest m (first ∷ others)

    -- sections of a `switch` one behind another, with at most so many labels `default`
    pub data Sections : Jumps → ℕ → ℕ → List Piece → List Piece → ℕ → List TSection → Type 0 where
      no_section : (j : Jumps) (room n : ℕ) (rest : List Piece) → Sections j room n rest rest n []
      more_sections : (j : Jumps) (room n i m : ℕ) (ps us vs rest : List Piece) (labels : List Label) (items : List TNode) (others : List TSection) →
          SomeLabels ps us labels → defaults labels ≤ room → Lines j n us vs i items → Leaves items →
          Sections j (room - defaults labels) i vs rest m others → Sections j room n ps rest m (section labels items ∷ others)
