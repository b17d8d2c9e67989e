-- What is read as an item is spelled so.
use Rattle.std.proofs.Common.{◌≡◌, ℕ, zero, suc, List, [], ◌∷◌, refl, sym, ap, ◌∙◌, subst}
use Rattle.std.specs.Prelude.{Option, Some, None}
use Rattle.razor_token.specs.declared.piece.Piece.{Piece}
use Rattle.razor_ast.specs.declared.node.TNode.{TNode}
use Rattle.razor_ast.specs.Nesting.{open_at}
use Rattle.razor_ast.specs.Nodes.{Item}
use Rattle.razor_reader.specs.declared.frame.Frame.{Frame}
use Rattle.razor_reader.specs.declared.frame.Next.{Next}
use Rattle.razor_reader.specs.declared.frame.Next.TheVariants as nx
use Rattle.razor_reader.specs.declared.frame.Wanted.{Wanted}
use Rattle.razor_reader.specs.declared.frame.Wanted.TheVariants as wanted
use Rattle.razor_reader.specs.declared.item.Turn.{Turn}
use Rattle.razor_reader.specs.declared.item.Turn.TheVariants as t
use Rattle.razor_reader.specs.Reading.{Numbered, ◌>>=◌}
use Rattle.razor_reader.specs.BeginReading.{begin}
use Rattle.razor_reader.specs.ContentReading.{content}
use Rattle.razor_reader.specs.GoingReading.{block, section_on, switch, resume}
use Rattle.razor_reader.specs.ItemReading as r
use Rattle.razor_reader.proofs.ReadLemmas.{bind_ok, moved}
use Rattle.razor_reader.proofs.StageTypes.{Made, Stage, Waits, Stacked}
use Rattle.razor_reader.proofs.StageTypes as stages
use Rattle.razor_reader.proofs.BeginSound.{begin_sound}
use Rattle.razor_reader.proofs.GoingSound.{content_sound, block_sound, section_sound, switch_sound, resume_sound}

module _ (all : List Piece) (n0 : ℕ) (ps0 : List Piece) where
  -- what follows, and the frames that wait, lead to an item from the first piece on
  record Going (frames : List Frame) (next : Next) (n : ℕ) (ps : List Piece) : Type 0 where
    from : Wanted
    start : ℕ
    pieces : List Piece
    waiting : Stacked all n0 ps0 frames from start pieces
    leads : Stage all (Made all from start pieces) next n ps

  -- what a turn comes to
  abbrev Reached : Turn → List Frame → ℕ → List Piece → Type 0
  Reached (t.Whole a) frames n ps = Item (open_at all) n0 ps0 ps n a
  Reached (t.Goes next) frames n ps = Going frames next n ps

  abbrev Comes : List Frame × Turn × ℕ × List Piece → Type 0
  Comes x = Reached x.1 x.0 x.2 x.3

  over_sound : (frames : List Frame) (read : Numbered Next) (x : List Frame × Turn × ℕ × List Piece) → r.over frames read ≡ Some x →
      ((y : Next × ℕ × List Piece) → read ≡ Some y → Going frames y.0 y.1 y.2) → Comes x
  over_sound frames read x e h =
      let y = bind_ok read _ _ e in
      moved {A = List Frame × Turn × ℕ × List Piece} Comes y.2 (h y.0 y.1)

  whole_sound : (frames : List Frame) (a : TNode) (n : ℕ) (ps : List Piece) (x : List Frame × Turn × ℕ × List Piece) → Going frames (nx.Done a) n ps → r.whole frames a n ps ≡ Some x → Comes x
  whole_sound frames a n ps x g e = go frames g.from g.start g.pieces g.waiting g.leads e
    where
      go : (fs : List Frame) (y : Wanted) (i : ℕ) (us : List Piece) → Stacked all n0 ps0 fs y i us → Made all y i us ps n a → r.whole fs a n ps ≡ Some x →
          Comes x
      go fs y i us stages.bottom made e = moved {A = List Frame × Turn × ℕ × List Piece} Comes e made
      go fs y i us (stages.inside f outer v _ k _ vs _ waiting waits) made e =
          let z = bind_ok (resume f a n ps) _ _ e in
          moved {A = List Frame × Turn × ℕ × List Piece} Comes z.2
          (record { from = v; start = k; pieces = vs; waiting = waiting; leads = resume_sound all (Made all v k vs) f a n ps z.0 (waits ps n a made) z.1 })

  turn_sound : (frames : List Frame) (next : Next) (n : ℕ) (ps : List Piece) (x : List Frame × Turn × ℕ × List Piece) → Going frames next n ps → r.turn all frames next n ps ≡ Some x → Comes x
  turn_sound frames (nx.Done a) n ps x g e = whole_sound frames a n ps x g e
  turn_sound frames (nx.Inside f w) n ps x g e = over_sound (f ∷ frames) (begin all w n ps) x e (λ y i. record {
    from = w;
    start = n;
    pieces = ps;
    waiting = stages.inside f frames g.from w g.start n g.pieces ps g.waiting g.leads;
    leads = begin_sound all w n ps y i;
  })
  turn_sound frames (nx.Content o) n ps x g e = over_sound frames (content o n ps) x e (λ y i. record {
    from = g.from;
    start = g.start;
    pieces = g.pieces;
    waiting = g.waiting;
    leads = content_sound all (Made all g.from g.start g.pieces) o n ps y g.leads i;
  })
  turn_sound frames (nx.Block o) n ps x g e = over_sound frames (block o n ps) x e (λ y i. record {
    from = g.from;
    start = g.start;
    pieces = g.pieces;
    waiting = g.waiting;
    leads = block_sound all (Made all g.from g.start g.pieces) o n ps y g.leads i;
  })
  turn_sound frames (nx.Switch o) n ps x g e = over_sound frames (switch o n ps) x e (λ y i. record {
    from = g.from;
    start = g.start;
    pieces = g.pieces;
    waiting = g.waiting;
    leads = switch_sound all (Made all g.from g.start g.pieces) o n ps y g.leads i;
  })
  turn_sound frames (nx.Section o) n ps x g e = over_sound frames (section_on o n ps) x e (λ y i. record {
    from = g.from;
    start = g.start;
    pieces = g.pieces;
    waiting = g.waiting;
    leads = section_sound all (Made all g.from g.start g.pieces) o n ps y g.leads i;
  })

  turns_sound : (left : ℕ) (frames : List Frame) (next : Next) (n : ℕ) (ps : List Piece) (a : TNode) (m : ℕ) (rest : List Piece) → Going frames next n ps →
      r.turns all left frames next n ps ≡ Some (a, m, rest) → Item (open_at all) n0 ps0 rest m a
  unfolding r.turns
  turns_sound zero frames next n ps a m rest g e = absurd (cc)
  turns_sound (suc left) frames next n ps a m rest g e =
      let x = bind_ok (r.turn all frames next n ps) _ _ e in
      go (λ fs y i us h e. turns_sound left fs y i us a m rest h e) x.0.1 x.0.0 x.0.2 x.0.3 (turn_sound frames next n ps x.0 g x.1) x.2
    where
      go : ((fs : List Frame) (y : Next) (i : ℕ) (us : List Piece) → Going fs y i us → r.turns all left fs y i us ≡ Some (a, m, rest) → Item (open_at all) n0 ps0 rest m a) →
          (y : Turn) (fs : List Frame) (i : ℕ) (us : List Piece) → Reached y fs i us →
          ◌≡◌ {A = Numbered TNode} (elim y [ t.Whole b ↦ Some (b, i, us) | t.Goes next ↦ r.turns all left fs next i us ]) (Some (a, m, rest)) → Item (open_at all) n0 ps0 rest m a
      go more (t.Whole b) fs i us h e = moved {A = TNode × ℕ × List Piece} (λ z. Item (open_at all) n0 ps0 z.2 z.1 z.0) e h
      go more (t.Goes next) fs i us h e = more fs next i us h e

pub item_sound : (all : List Piece) (n : ℕ) (ps : List Piece) (a : TNode) (m : ℕ) (rest : List Piece) → r.item_first all n ps ≡ Some (a, m, rest) → Item (open_at all) n ps rest m a
unfolding r.item_first
item_sound all n ps a m rest e =
    let x = bind_ok (begin all wanted.Item n ps) _ _ e in
    turns_sound all n ps (r.turns_for ps) [] x.0.0 x.0.1 x.0.2 a m rest
    (record { from = wanted.Item; start = n; pieces = ps; waiting = stages.bottom; leads = begin_sound all wanted.Item n ps x.0 x.1 }) x.2
