-- What a turn comes to, by what it goes on with.
use Rattle.std.proofs.Common.{◌≡◌, ℕ, List, [], ◌∷◌, ◌++◌, reverse, refl, sym, ap, ◌∙◌, subst}
use Rattle.std.specs.Prelude.{Some, None, Result, Ok, Err}
use Rattle.std.specs.Borrow.{Bor}
use Rattle.std.proofs.lemmas.List.{reverse-append}
use Rattle.razor_token.specs.declared.piece.Piece.{Piece}
use Rattle.razor_ast.specs.declared.node.TNode.{TNode}
use Rattle.razor_reader.specs.declared.frame.Frame.{Frame}
use Rattle.razor_reader.specs.declared.frame.Next.{Next}
use Rattle.razor_reader.specs.declared.frame.Next.TheVariants as nx
use Rattle.razor_reader.specs.declared.frame.Wanted.{Wanted}
use Rattle.razor_reader.specs.declared.item.Turn.{Turn}
use Rattle.razor_reader.specs.declared.item.Turn.TheVariants as t
use Rattle.razor_reader.specs.declared.unread.Unread.{Unread}
use Rattle.razor_reader.specs.declared.unread.Unread.TheVariants as u
use Rattle.razor_reader.specs.Reading.{Numbered, Gives}
use Rattle.razor_reader.specs.BeginReading.{begin}
use Rattle.razor_reader.specs.GoingReading.{resume}
use Rattle.razor_reader.specs.ItemReading.{Turned, Goes, over, turn}

abbrev pub Began : Type 0
Began = Result (Next × ℕ × Bor (List Piece)) Unread

abbrev pub Went : Type 0
Went = Result (Turn × ℕ × Bor (List Piece)) Unread

abbrev pub GivesNext : Began → Numbered Next → Type 0
GivesNext x read = Gives (λ (y : Next × ℕ × Bor (List Piece)). (y.0, y.1, y.2.now)) x read

abbrev pub GivesTurn : List Frame → Went → Turned → Type 0
GivesTurn frames x read = Gives (λ (y : Turn × ℕ × Bor (List Piece)). (frames, y.0, y.1, y.2.now)) x read

pub goes_over : (frames : List Frame) (x : Began) (result : Went) (read : Numbered Next) → Goes x result → GivesNext x read → GivesTurn frames result (over frames read)
goes_over frames (Ok x) result read g h = subst (λ (r : Went). GivesTurn frames r (over frames read)) (sym g) (ap (over frames) h)
goes_over frames (Err u.Oom) result read g h = subst (λ (r : Went). GivesTurn frames r (over frames read)) (sym g) tt
goes_over frames (Err (u.Syntax left)) result read g h = subst (λ (r : Went). GivesTurn frames r (over frames read)) (sym g) (ap (over frames) h)

turned_back : (new : List Frame) (f : Frame) → reverse (new ++ f ∷ []) ≡ f ∷ reverse new
turned_back new f = reverse-append new (f ∷ [])

pub done_goes : (all : List Piece) (old new : List Frame) (f : Frame) (a : TNode) (n : ℕ) (ps : List Piece) (x : Began) (result : Went) → old ≡ new ++ f ∷ [] → Goes x result →
    GivesNext x (resume f a n ps) → GivesTurn (reverse new) result (turn all (reverse old) (nx.Done a) n ps)
done_goes all old new f a n ps x result e g h =
    subst (λ (l : List Frame). GivesTurn (reverse new) result (turn all l (nx.Done a) n ps)) (sym (ap reverse e ∙ turned_back new f))
    (goes_over (reverse new) x result (resume f a n ps) g h)

pub inside_goes : (all : List Piece) (old new : List Frame) (f : Frame) (wanted : Wanted) (n : ℕ) (ps : List Piece) (x : Began) (result : Went) → new ≡ old ++ f ∷ [] → Goes x result →
    GivesNext x (begin all wanted n ps) → GivesTurn (reverse new) result (turn all (reverse old) (nx.Inside f wanted) n ps)
inside_goes all old new f wanted n ps x result e g h =
    subst (λ (l : List Frame). GivesTurn l result (turn all (reverse old) (nx.Inside f wanted) n ps)) (sym (ap reverse e ∙ turned_back old f))
    (goes_over (f ∷ reverse old) x result (begin all wanted n ps) g h)

-- the same of what is known to be this
pub named_goes : (all : List Piece) (frames later : List Frame) (next now : Next) (n : ℕ) (ps : List Piece) (result : Went) → next ≡ now → GivesTurn later result (turn all frames now n ps) →
    GivesTurn later result (turn all frames next n ps)
named_goes all frames later next now n ps result e h = subst (λ (x : Next). GivesTurn later result (turn all frames x n ps)) (sym e) h
