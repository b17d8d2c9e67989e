-- What is known of a part while it is read.
use Rattle.std.proofs.Common.{◌≡◌, ◌⊎◌, ℕ, ◌+◌, List, [], ◌∷◌, ◌++◌, refl, sym, ap, ◌∙◌, subst, inl, inr}
use Rattle.std.specs.Prelude.{Bool, true, false, not, Option, Some, None}
use Rattle.text_core.specs.declared.place.Place.{Place}
use Rattle.cs_ast.specs.declared.expression.Expr.{Expr}
use Rattle.cs_token.specs.declared.token.Sign.TheVariants as s
use Rattle.cs_token.specs.declared.token.Word.TheVariants as w
use Rattle.cs_grammar.specs.Statements as cs
use Rattle.razor_token.specs.declared.piece.Piece.{Piece}
use Rattle.razor_ast.specs.declared.node.TNode.{TNode}
use Rattle.razor_ast.specs.declared.node.TNode.TheVariants as nd
use Rattle.razor_ast.specs.declared.node.TSection.{TSection}
use Rattle.razor_ast.specs.Nesting.{open_at}
use Rattle.razor_ast.specs.Nodes.{Item, Line, Lines, Within, Otherwise, Code, Content, Sections}
use Rattle.razor_ast.specs.Pieces.{IsSign, IsWord}
use Rattle.razor_ast.specs.Statements.{Leaves}
use Rattle.razor_reader.specs.declared.frame.Frame.{Frame}
use Rattle.razor_reader.specs.declared.frame.Frame.TheVariants as fr
use Rattle.razor_reader.specs.declared.frame.Jumps.{Jumps}
use Rattle.razor_reader.specs.declared.frame.Next.{Next}
use Rattle.razor_reader.specs.declared.frame.Next.TheVariants as nx
use Rattle.razor_reader.specs.declared.frame.OpenBlock.{OpenBlock}
use Rattle.razor_reader.specs.declared.frame.OpenContent.{OpenContent}
use Rattle.razor_reader.specs.declared.frame.OpenSection.{OpenSection}
use Rattle.razor_reader.specs.declared.frame.OpenSwitch.{OpenSwitch}
use Rattle.razor_reader.specs.declared.frame.Wanted.{Wanted}
use Rattle.razor_reader.specs.declared.frame.Wanted.TheVariants as wanted
use Rattle.razor_reader.specs.declared.mark.Mark.TheVariants as mark
use Rattle.razor_reader.specs.Reading.{has}
use Rattle.razor_reader.specs.ContentReading.{end_of}
use Rattle.razor_reader.specs.GoingReading.{switch_with}

-- where jumps may stand, as the grammar has it
abbrev pub given : Jumps → cs.Jumps
given j = record { breaks = j.breaks; continues = j.continues }

-- `else` may follow where it does, and otherwise not
abbrev pub Free : Bool → List Piece → Type 0
Free f rest = (f ≡ false) ⊎ (has mark.Else rest ≡ true)

module _ (all : List Piece) where
  -- a statement at a place
  abbrev pub MadeCode : Bool → Place → Jumps → ℕ → List Piece → List Piece → ℕ → TNode → Type 0
  MadeCode braced p j n ps rest m a = (f : Bool) → Free f rest → Code (open_at all) (not braced) p (given j) f n ps rest m a

  -- what was wanted
  abbrev pub Made : Wanted → ℕ → List Piece → List Piece → ℕ → TNode → Type 0
  Made wanted.Item n ps rest m a = Item (open_at all) n ps rest m a
  Made (wanted.Line j) n ps rest m a = Line (open_at all) (given j) n ps rest m a
  Made (wanted.Body braced j) n ps rest m a = (f : Bool) → Free f rest → Within (open_at all) (not braced) (given j) f n ps rest m a
  Made (wanted.Otherwise braced j) n ps rest m a = (f : Bool) → Free f rest → Otherwise (open_at all) (not braced) (given j) f n ps rest m a

  module _ (G : List Piece → ℕ → TNode → Type 0) where
    -- content from here to its end
    abbrev pub OfContent : OpenContent → ℕ → List Piece → Type 0
    OfContent o n ps = (rest : List Piece) (m : ℕ) (more : List TNode) (a : TNode) (i : ℕ) (us : List Piece) →
        Content (open_at all) o.edge n ps rest m more → end_of o.owner (o.found ++ more) m rest ≡ Some (nx.Done a, i, us) → G us i a

    -- a block from here to its end
    abbrev pub OfBlock : OpenBlock → ℕ → List Piece → Type 0
    OfBlock o n ps = (c : Piece) (rest : List Piece) (m : ℕ) (more : List TNode) →
        Lines (open_at all) (given o.jumps) n ps (c ∷ rest) m more → IsSign s.CloseBrace c → G rest m (nd.Block o.place (o.found ++ more))

    -- a `switch` from here to its end
    abbrev pub OfSwitch : OpenSwitch → ℕ → List Piece → Type 0
    OfSwitch o n ps = (c : Piece) (rest : List Piece) (m : ℕ) (more : List TSection) →
        Sections (open_at all) (given o.jumps) o.room n ps (c ∷ rest) m more → IsSign s.CloseBrace c → G rest m (nd.Switch o.place o.value (o.sections ++ more))

    -- a section from here to its end
    abbrev pub OfSection : OpenSection → ℕ → List Piece → Type 0
    OfSection o n ps = (rest : List Piece) (m : ℕ) (more : List TNode) →
        Lines (open_at all) (given o.before.jumps) n ps rest m more → Leaves (o.found ++ more) → OfSwitch (switch_with (record o { found = o.found ++ more })) m rest

    -- behind a part inside a frame
    abbrev pub After : Frame → List Piece → ℕ → TNode → Type 0
    After (fr.Content o) rest m a = OfContent (record o { found = o.found ++ a ∷ [] }) m rest
    After (fr.Block o) rest m a = OfBlock (record o { found = o.found ++ a ∷ [] }) m rest
    After (fr.Section o) rest m a = OfSection (record o { found = o.found ++ a ∷ [] }) m rest
    After (fr.Yes braced p j x) rest m a =
        (has mark.Else rest ≡ false → G rest m (nd.If p x a None)) ×
        ((d : Piece) (vs us : List Piece) (i : ℕ) (b : TNode) → rest ≡ d ∷ vs → IsWord w.Else d → Made (wanted.Otherwise braced j) m vs us i b → G us i (nd.If p x a (Some b)))
    After (fr.No p x first) rest m a = G rest m (nd.If p x first (Some a))
    After (fr.While i p x) rest m a = G rest m (nd.While i p x a)
    After (fr.For i p start condition step) rest m a = G rest m (nd.For i p start condition step a)
    After (fr.ForEach i p name list) rest m a = G rest m (nd.ForEach i p name list a)

    -- a frame waits for what is wanted from here on
    abbrev pub Waits : Frame → Wanted → ℕ → List Piece → Type 0
    Waits f x n ps = (rest : List Piece) (m : ℕ) (a : TNode) → Made x n ps rest m a → After f rest m a

    -- what follows leads to what is to be shown
    abbrev pub Stage : Next → ℕ → List Piece → Type 0
    Stage (nx.Done a) n ps = G ps n a
    Stage (nx.Inside f x) n ps = Waits f x n ps
    Stage (nx.Content o) n ps = OfContent o n ps
    Stage (nx.Block o) n ps = OfBlock o n ps
    Stage (nx.Switch o) n ps = OfSwitch o n ps
    Stage (nx.Section o) n ps = OfSection o n ps

  -- frames that wait for each other, the outermost for an item from here on
  pub data Stacked (n0 : ℕ) (ps0 : List Piece) : List Frame → Wanted → ℕ → List Piece → Type 0 where
    bottom : Stacked n0 ps0 [] wanted.Item n0 ps0
    inside : (f : Frame) (fs : List Frame) (x y : Wanted) (n i : ℕ) (ps us : List Piece) →
        Stacked n0 ps0 fs x n ps → Waits (Made x n ps) f y i us → Stacked n0 ps0 (f ∷ fs) y i us

  -- what leads to one thing leads to what follows from it
  pub stage_map : (G H : List Piece → ℕ → TNode → Type 0) → ((rest : List Piece) (m : ℕ) (a : TNode) → G rest m a → H rest m a) →
      (next : Next) (n : ℕ) (ps : List Piece) → Stage G next n ps → Stage H next n ps
  stage_map G H h (nx.Done a) n ps x = h ps n a x
  stage_map G H h (nx.Content o) n ps x = λ rest m more a i us c e. h us i a (x rest m more a i us c e)
  stage_map G H h (nx.Block o) n ps x = λ c rest m more l e. h rest m (nd.Block o.place (o.found ++ more)) (x c rest m more l e)
  stage_map G H h (nx.Switch o) n ps x = λ c rest m more l e. h rest m (nd.Switch o.place o.value (o.sections ++ more)) (x c rest m more l e)
  stage_map G H h (nx.Section o) n ps x = λ rest m more l v c us i others q e.
      let inner = switch_with (record o { found = o.found ++ more }) in
      h us i (nd.Switch inner.place inner.value (inner.sections ++ others)) (x rest m more l v c us i others q e)
  stage_map G H h (nx.Inside f y) n ps x = λ rest m a made. after f rest m a (x rest m a made)
    where
      after : (f : Frame) (rest : List Piece) (m : ℕ) (a : TNode) → After G f rest m a → After H f rest m a
      after (fr.Content o) rest m a x = λ us i more b k vs c e. h vs k b (x us i more b k vs c e)
      after (fr.Block o) rest m a x = λ c us i more l e. h us i (nd.Block o.place ((o.found ++ a ∷ []) ++ more)) (x c us i more l e)
      after (fr.Section o) rest m a x = λ us i more l v c vs k others q e.
          let inner = switch_with (record o { found = (o.found ++ a ∷ []) ++ more }) in
          h vs k (nd.Switch inner.place inner.value (inner.sections ++ others)) (x us i more l v c vs k others q e)
      after (fr.Yes braced p j y) rest m a x =
          (λ e. h rest m (nd.If p y a None) (x.0 e), λ d vs us i b e o made. h us i (nd.If p y a (Some b)) (x.1 d vs us i b e o made))
      after (fr.No p y first) rest m a x = h rest m (nd.If p y first (Some a)) x
      after (fr.While i p y) rest m a x = h rest m (nd.While i p y a) x
      after (fr.For i p start condition step) rest m a x = h rest m (nd.For i p start condition step a) x
      after (fr.ForEach i p name list) rest m a x = h rest m (nd.ForEach i p name list a) x
