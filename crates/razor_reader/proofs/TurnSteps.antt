-- Turns that lead from one state to another, over any frames.
use Rattle.std.proofs.Common.{◌≡◌, ℕ, zero, suc, ◌+◌, ◌*◌, ◌≤◌, List, [], ◌∷◌, length, refl, sym, ap, ◌∙◌, subst, arith}
use Rattle.std.specs.Prelude.{Option, Some, None}
use Rattle.razor_token.specs.declared.piece.Piece.{Piece}
use Rattle.razor_ast.specs.declared.node.TNode.{TNode}
use Rattle.razor_reader.specs.declared.frame.Frame.{Frame}
use Rattle.razor_reader.specs.declared.frame.Next.{Next}
use Rattle.razor_reader.specs.declared.frame.Next.TheVariants as nx
use Rattle.razor_reader.specs.declared.frame.Wanted.{Wanted}
use Rattle.razor_reader.specs.declared.item.Turn.TheVariants as t
use Rattle.razor_reader.specs.Reading.{Numbered, ◌>>=◌}
use Rattle.razor_reader.specs.BeginReading.{begin}
use Rattle.razor_reader.specs.GoingReading.{resume}
use Rattle.razor_reader.specs.ItemReading as r
use Rattle.razor_reader.proofs.SuffixLemmas.{Behind}
use Rattle.razor_reader.proofs.ValueComplete.{bind_is}

-- the frames, what follows, the next number, and the pieces
abbrev pub State : Type 0
State = List Frame × Next × ℕ × List Piece

module _ (all : List Piece) where
  -- what at most so many turns give
  abbrev pub turned : ℕ → State → Numbered TNode
  turned left s = r.turns all left s.0 s.1 s.2 s.3

  -- so many turns lead from one state to the other
  abbrev pub Reaches : ℕ → State → State → Type 0
  Reaches count s z = (left : ℕ) → turned (count + left) s ≡ turned left z

  pub no_turn : (s : State) → Reaches 0 s s
  no_turn s = λ left. let e : 0 + left ≡ left = omega arith in ap (λ n. turned n s) e

  pub one_turn : (s z : State) → r.turn all s.0 s.1 s.2 s.3 ≡ Some (z.0, t.Goes z.1, z.2, z.3) → Reaches 1 s z
  unfolding r.turns
  one_turn s z h = λ left.
      let e : 1 + left ≡ suc left = omega arith in
      ap (λ n. turned n s) e
      ∙ bind_is (r.turn all s.0 s.1 s.2 s.3) (z.0, t.Goes z.1, z.2, z.3) (λ x. elim x.1 [ t.Whole a ↦ Some (a, x.2, x.3) | t.Goes following ↦ r.turns all left x.0 following x.2 x.3 ]) h

  pub then_turns : (count more : ℕ) (s z v : State) → Reaches count s z → Reaches more z v → Reaches (count + more) s v
  then_turns count more s z v h i = λ left.
      let e : count + more + left ≡ count + (more + left) = omega arith in
      ap (λ n. turned n s) e ∙ h (more + left) ∙ i left

  pub to_same : (count : ℕ) (s z v : State) → z ≡ v → Reaches count s z → Reaches count s v
  to_same count s z v e h = subst (Reaches count s) e h

  -- What is read leads, over any frames, to a part that is whole, by fewer turns than four for each piece.
  pub record Leads (read : Numbered Next) (ps rest : List Piece) (i : ℕ) (a : TNode) : Type 0 where
    pub next : Next
    pub number : ℕ
    pub pieces : List Piece
    pub count : ℕ
    pub begun : read ≡ Some (next, number, pieces)
    pub reaches : (frames : List Frame) → Reaches count (frames, next, number, pieces) (frames, nx.Done a, i, rest)
    pub short : count + 3 + 4 * length rest ≤ 4 * length ps
    pub behind : Behind ps rest

  pub lead_by : (read other : Numbered Next) (ps rest : List Piece) (i : ℕ) (a : TNode) → read ≡ other → Leads other ps rest i a → Leads read ps rest i a
  lead_by read other ps rest i a e h = record {
    next = h.next;
    number = h.number;
    pieces = h.pieces;
    count = h.count;
    begun = e ∙ h.begun;
    reaches = h.reaches;
    short = h.short;
    behind = h.behind;
  }

  fewer : (count short long : ℕ) → short + 1 ≤ long → 0 + 3 + 4 * short ≤ 4 * long
  fewer count short long h = omega arith

  pub done : (read : Numbered Next) (ps rest : List Piece) (i : ℕ) (a : TNode) → read ≡ Some (nx.Done a, i, rest) → length rest + 1 ≤ length ps → Behind ps rest → Leads read ps rest i a
  done read ps rest i a e less h = record {
    next = nx.Done a;
    number = i;
    pieces = rest;
    count = 0;
    begun = e;
    reaches = λ frames. no_turn (frames, nx.Done a, i, rest);
    short = fewer 0 (length rest) (length ps) less;
    behind = h;
  }

  -- what stands inside a frame is read, and the frame goes on
  pub inside : (w : Wanted) (n : ℕ) (ps rest : List Piece) (i : ℕ) (a : TNode) (h : Leads (begin all w n ps) ps rest i a) (f : Frame) (frames : List Frame) (next : Next) (number : ℕ) (pieces : List Piece) →
      resume f a i rest ≡ Some (next, number, pieces) → Reaches (1 + (h.count + 1)) (frames, nx.Inside f w, n, ps) (frames, next, number, pieces)
  inside w n ps rest i a h f frames next number pieces e =
      then_turns 1 (h.count + 1) (frames, nx.Inside f w, n, ps) (f ∷ frames, h.next, h.number, h.pieces) (frames, next, number, pieces)
      (one_turn (frames, nx.Inside f w, n, ps) (f ∷ frames, h.next, h.number, h.pieces)
      (bind_is (begin all w n ps) (h.next, h.number, h.pieces) (λ x. Some (f ∷ frames, t.Goes x.0, x.1, x.2)) h.begun))
      (then_turns h.count 1 (f ∷ frames, h.next, h.number, h.pieces) (f ∷ frames, nx.Done a, i, rest) (frames, next, number, pieces) (h.reaches (f ∷ frames))
      (one_turn (f ∷ frames, nx.Done a, i, rest) (frames, next, number, pieces)
      (bind_is (resume f a i rest) (next, number, pieces) (λ x. Some (frames, t.Goes x.0, x.1, x.2)) e)))
