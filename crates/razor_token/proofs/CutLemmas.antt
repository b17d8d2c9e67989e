-- One step after another through a text.
use Rattle.std.proofs.Common.{◌≡◌, ◌⊎◌, ℕ, zero, suc, ◌+◌, ◌<◌, ◌≤◌, Bool, true, false, cond, inl, inr, List, [], ◌∷◌, ◌++◌, length, take, drop, reverse, Some, None, refl, ap, sym, ◌∙◌, subst, arith, length-append, length-drop, Result, Ok, Err, Vec, Global, MatchResult, IfOk}
use Rattle.std.specs.declared.option.Option.{Option}
use Rattle.std.proofs.lemmas.Bool.{cases_Bool}
use Rattle.std.proofs.lemmas.List.{take-append-drop, length-reverse, drop-drop, length-take-le}
use Rattle.std.proofs.Math.Seq.{take-add}
use Rattle.text_core.specs.declared.place.Place.{Place}
use Rattle.std.specs.List.{list_any}
use Rattle.std.specs.Prelude.{◌==◌, not}
use Rattle.cs_token.specs.declared.around.Around.{Around}
use Rattle.cs_token.specs.declared.around.Opened.{Opened}
use Rattle.cs_token.specs.Spelling as code
use Rattle.cs_token.specs.Places.{behind, first_place, place_after}
use Rattle.cs_token.specs.Reading.Runs.{strip}
use Rattle.cs_token.specs.Walks.{Walk, stay, go}
use Rattle.cs_token.proofs.LexLemmas.{behind-append}
use Rattle.cs_token.proofs.WalkLemmas.{walk-more, same_walk}
use Rattle.razor_token.specs.declared.context.Change.{Change}
use Rattle.razor_token.specs.declared.context.Context.{Context}
use Rattle.razor_token.specs.declared.cutting.Cutter.{Cutter}
use Rattle.razor_token.specs.declared.found.Found.{Found}
use Rattle.razor_token.specs.declared.piece.Piece.{Piece}
use Rattle.razor_token.specs.declared.piece.PieceKind.{PieceKind}
use Rattle.razor_token.specs.Answers.{IsUncut, Cover, no_piece, one_piece}
use Rattle.razor_token.specs.Contexts.{changed, entered, left, leaves, innermost}
use Rattle.razor_token.specs.ContentFronts.{content_at}
use Rattle.razor_token.specs.Cutters.{IsWhere, moment_of, weight, IsFirst, Taken, Advances}
use Rattle.razor_token.specs.Cutting.{Moment, last_of, opened_behind, found_in, found_at, keeps_line, piece_of, moment_behind, stepped, next, Step, beginning, ending, Cuts}
use Rattle.razor_token.specs.Moving.{Moves, Takes}

-- places

place-more : (before here : List ℕ) → place_after (before ++ here) ≡ behind (place_after before) here
unfolding place_after
place-more before here = behind-append before here first_place

-- what was found is a step

stepped-found : (m : Moment) (o : Option Found) (found : Found) → o ≡ Some found → keeps_line m.line (take found.count m.rest) ≡ true
    → stepped m o ≡ Some (piece_of m found, moment_behind m found)
stepped-found m o found e keeps = ap (stepped m) e ∙ rw keeps refl

pub next-found : (m : Moment) (found : Found) → found_at m ≡ Some found → keeps_line m.line (take found.count m.rest) ≡ true
    → next m ≡ Some (piece_of m found, moment_behind m found)
unfolding next
next-found m found e keeps = stepped-found m (found_at m) found e keeps

pub next-none : (m : Moment) → found_at m ≡ None → next m ≡ None
unfolding next
next-none m e = ap (stepped m) e

pub next-cut : (m : Moment) (found : Found) → found_at m ≡ Some found → keeps_line m.line (take found.count m.rest) ≡ false → next m ≡ None
unfolding next
next-cut m found e cut = ap (stepped m) e ∙ rw cut refl

pub found-here : (text : List ℕ) (old : Cutter) (o : Option Found) (context : Option Context) (around : Option Around) (last : Option ℕ) (rest : List ℕ)
    → context ≡ innermost (reverse old.contexts.items) → around ≡ code.innermost (reverse old.opened.items) → last ≡ last_of (take old.at text) → rest ≡ drop old.at text
    → o ≡ found_in context old.line around last rest → found_at (moment_of text old) ≡ o
found-here text old o context around last rest c a l r e = sym (rw (c, a, l, r) at e)

-- a line feed in a line, and none

pub cuts-line : (line : Bool) (here x : List ℕ) → line ≡ true → list_any (λ c. c == 10) here ≡ true → here ≡ x → keeps_line line x ≡ false
cuts-line line here x l has is =
    ap (λ (b : Bool). keeps_line b x) l ∙ ap (λ (y : List ℕ). keeps_line true y) (sym is) ∙ ap not has

pub keeps-unlined : (line : Bool) (here : List ℕ) → line ≡ false → keeps_line line here ≡ true
keeps-unlined line here l = ap (λ (b : Bool). keeps_line b here) l

pub keeps-without : (line : Bool) (here : List ℕ) → list_any (λ c. c == 10) here ≡ false → keeps_line line here ≡ true
keeps-without true here none = ap not none
keeps-without false here none = refl

-- the cutter behind it stands for the moment behind it

entered-length : (o : Option Context) (contexts : List Context) → length (entered o contexts) ≤ length contexts + 1
entered-length None contexts = omega arith
entered-length (Some context) contexts = omega arith

left-length : (contexts : List Context) → length (left contexts) ≤ length contexts
left-length [] = omega arith
left-length (context ∷ outer) = omega arith

changed-length : (leaving : Bool) (enters within : Option Context) (contexts : List Context)
    → length (entered within (entered enters (cond leaving (left contexts) contexts))) ≤ length contexts + 2
changed-length true enters within contexts =
    let a = entered-length within (entered enters (left contexts)) in
    let b = entered-length enters (left contexts) in
    let c = left-length contexts in
    omega arith
changed-length false enters within contexts =
    let a = entered-length within (entered enters contexts) in
    let b = entered-length enters contexts in
    omega arith

pub change-length : (change : Change) (contexts : List Context) → length (changed change contexts) ≤ length contexts + 2
change-length change contexts = changed-length change.leaves change.enters change.within contexts

left-some : (contexts : List Context) → 0 < length contexts → length (left contexts) < length contexts
left-some [] some = some
left-some (context ∷ outer) some = omega arith

pub leaves-length : (change : Change) (contexts : List Context) → change ≡ leaves → 0 < length contexts → length (changed change contexts) < length contexts
leaves-length change contexts e some = rw e (left-some contexts some)

innermost-some : (contexts : List Context) → (innermost contexts ≡ None → ⊥) → 0 < length contexts
innermost-some [] other = absurd (other refl)
innermost-some (context ∷ outer) other = omega arith

-- equal parts make equal wholes

moments : {a b : List Context} {l m : Bool} {o p : List Opened} {x y s t : List ℕ} → a ≡ b → l ≡ m → o ≡ p → x ≡ y → s ≡ t
    → (let one : Moment = record { contexts = a; line = l; opened = o; before = x; rest = s } in
    let other : Moment = record { contexts = b; line = m; opened = p; before = y; rest = t } in one ≡ other)
moments e f g h i = rw (e, f, g, h, i) refl

made_pieces : {start end i j : ℕ} {p q : Place} (kind : PieceKind) → start ≡ i → end ≡ j → p ≡ q
    → (let one : Piece = record { kind = kind; start = start; end = end; place = p } in
    let other : Piece = record { kind = kind; start = i; end = j; place = q } in one ≡ other)
made_pieces kind e f g = rw (e, f, g) refl

some_pair : (p q : Piece) (m n : Moment) → p ≡ q → m ≡ n
    → (let one : Option (Piece × Moment) = Some (p, m) in let other : Option (Piece × Moment) = Some (q, n) in one ≡ other)
some_pair p q m n e f = rw (e, f) refl

pair_first : {A B : Type 0} (x p : A) (y n : B) → (let one : Option (A × B) = Some (x, y) in let other : Option (A × B) = Some (p, n) in one ≡ other) → p ≡ x
pair_first {A = A} {B = B} x p y n e = let f : Option (A × B) → A = λ o. elim o [ None ↦ x | Some z ↦ z.0 ] in sym (ap f e)

pair_second : {A B : Type 0} (x p : A) (y n : B) → (let one : Option (A × B) = Some (x, y) in let other : Option (A × B) = Some (p, n) in one ≡ other) → n ≡ y
pair_second {A = A} {B = B} x p y n e = let f : Option (A × B) → B = λ o. elim o [ None ↦ y | Some z ↦ z.1 ] in sym (ap f e)

zero_or_more : (n : ℕ) → (n ≡ 0) ⊎ (0 < n)
zero_or_more zero = inl refl
zero_or_more (suc n) = inr (omega arith)

-- how much nearer the end is

pub nearer : (text : List ℕ) (old new : Cutter) (found : Found) (here : List ℕ) (piece : Piece) → IsWhere text old
    → found.count ≤ length (drop old.at text) → length here ≡ found.count → (found.count ≡ 0 → found.change ≡ leaves)
    → (innermost (reverse old.contexts.items) ≡ None → 0 < found.count) → Taken old found here new piece → weight text new < weight text old
nearer text old new found here piece there within long leaving top taken = elim (zero_or_more found.count) [
  | inl none ↦
      let some : 0 < length (reverse old.contexts.items) = innermost-some (reverse old.contexts.items) (λ e. let m = top e in absurd (omega arith)) in
      let less = leaves-length found.change (reverse old.contexts.items) (leaving none) some in
      let new_long : length new.contexts.items ≡ length (changed found.change (reverse old.contexts.items)) = sym (length-reverse new.contexts.items) ∙ ap length taken.contexts in
      let old_long = length-reverse old.contexts.items in
      let at = taken.at in
      omega arith
  | inr some ↦
      let most = change-length found.change (reverse old.contexts.items) in
      let new_long : length new.contexts.items ≡ length (changed found.change (reverse old.contexts.items)) = sym (length-reverse new.contexts.items) ∙ ap length taken.contexts in
      let old_long = length-reverse old.contexts.items in
      let at = taken.at in
      let rest = length-drop old.at text in
      let whole = there.within in
      omega arith
]

pub taken-moment : (text : List ℕ) (old new : Cutter) (found : Found) (here : List ℕ) (piece : Piece) → IsWhere text old
    → here ≡ take found.count (drop old.at text) → length here ≡ found.count → Taken old found here new piece
    → moment_behind (moment_of text old) found ≡ moment_of text new
taken-moment text old new found here piece there is long taken =
    let at : new.at ≡ old.at + found.count = taken.at ∙ ap (λ (n : ℕ). old.at + n) long in
    let front : take old.at text ++ take found.count (drop old.at text) ≡ take new.at text = sym (take-add old.at found.count text) ∙ ap (λ (n : ℕ). take n text) (sym at) in
    let behind_it : drop found.count (drop old.at text) ≡ drop new.at text = drop-drop found.count old.at text ∙ ap (λ (n : ℕ). drop n text) (sym at) in
    let open_there : opened_behind found.change.sign (place_after (take old.at text)) (reverse old.opened.items) ≡ reverse new.opened.items =
    ap (λ (p : Place). opened_behind found.change.sign p (reverse old.opened.items)) (sym there.here) ∙ sym taken.opened in
    let contexts = sym taken.contexts in
    let line = sym taken.line in
    moments contexts line open_there front behind_it

pub taken-piece : (text : List ℕ) (old new : Cutter) (found : Found) (here : List ℕ) (piece : Piece) → IsWhere text old
    → here ≡ take found.count (drop old.at text) → Taken old found here new piece → piece_of (moment_of text old) found ≡ piece
taken-piece text old new found here piece there is taken =
    let start : length (take old.at text) ≡ old.at = length-take-le old.at text there.within in
    let end : length (take old.at text) + length (take found.count (drop old.at text)) ≡ new.at =
    ap (λ (n : ℕ). n + length (take found.count (drop old.at text))) start ∙ ap (λ (x : List ℕ). old.at + length x) (sym is) ∙ sym taken.at in
    made_pieces found.kind start end (sym there.here) ∙ sym taken.made

pub taken-where : (text : List ℕ) (old new : Cutter) (found : Found) (here : List ℕ) (piece : Piece) → IsWhere text old
    → here ≡ take found.count (drop old.at text) → length here ≡ found.count → found.count ≤ length (drop old.at text) → Taken old found here new piece → IsWhere text new
taken-where text old new found here piece there is long within taken =
    let at : new.at ≡ old.at + found.count = taken.at ∙ ap (λ (n : ℕ). old.at + n) long in
    let rest = length-drop old.at text in
    let whole = there.within in
    let place : new.place ≡ place_after (take new.at text) =
    taken.place ∙ ap (λ (p : Place). behind p here) there.here ∙ sym (place-more (take old.at text) here)
    ∙ ap (λ (x : List ℕ). place_after (take old.at text ++ x)) is ∙ ap place_after (sym (take-add old.at found.count text) ∙ ap (λ (n : ℕ). take n text) (sym at)) in
    record { within = omega arith; fits = taken.fits; here = place }

-- a step of the cutter is a step of the text
pub advances : (text : List ℕ) (old new : Cutter) (found : Found) (here : List ℕ) (piece : Piece) → IsWhere text old
    → found_at (moment_of text old) ≡ Some found → Moves (drop old.at text) (Some found)
    → (innermost (reverse old.contexts.items) ≡ None → Takes (drop old.at text) (Some found))
    → here ≡ take found.count (drop old.at text) → keeps_line old.line here ≡ true → Taken old found here new piece → Advances text old piece new
advances text old new found here piece there e moves top is keeps taken =
    let long : length here ≡ found.count = ap length is ∙ length-take-le found.count (drop old.at text) moves.0 in
    let kept : keeps_line old.line (take found.count (drop old.at text)) ≡ true = ap (keeps_line old.line) (sym is) ∙ keeps in
    record {
      step = next-found (moment_of text old) found e kept ∙ some_pair (piece_of (moment_of text old) found) piece (moment_behind (moment_of text old) found) (moment_of text new) (taken-piece text old new found here piece there is taken) (taken-moment text old new found here piece there is long taken);
      there = taken-where text old new found here piece there is long moves.0 taken;
      nearer = nearer text old new found here piece there moves.0 long moves.1 (λ none. (top none).0) taken;
    }

-- the beginning

pub first-where : (text : List ℕ) (cutter : Cutter) → IsFirst cutter → IsWhere text cutter
unfolding place_after
first-where text cutter first =
    let at = first.at in
    record { within = omega arith; fits = first.fits; here = first.place ∙ ap (λ (n : ℕ). place_after (take n text)) (sym at) }

pub first-moment : (text : List ℕ) (cutter : Cutter) → IsFirst cutter → moment_of text cutter ≡ beginning text
first-moment text cutter first =
    moments (ap reverse first.contexts) first.line (ap reverse first.opened) (ap (λ (n : ℕ). take n text) first.at) (ap (λ (n : ℕ). drop n text) first.at)

-- the end

no_content : (last : Option ℕ) → content_at None last [] ≡ None
unfolding content_at strip
no_content last = refl

pub nothing_at_end : (text : List ℕ) → next (ending text) ≡ None
nothing_at_end text = next-none (ending text) (no_content (last_of text))

pub one_cutting : (text : List ℕ) (a b : List Piece) → Cuts text a → Cuts text b → a ≡ b
one_cutting text a b x y =
    (same_walk Step next (λ m p n e. e) (beginning text) (ending text) (ending text) a b x y (nothing_at_end text) (nothing_at_end text)).things

pub uncut : (text : List ℕ) (m : Moment) (pieces : List Piece) → Walk Step (beginning text) pieces m → next m ≡ None → (m ≡ ending text → ⊥) → (others : List Piece) → Cuts text others → ⊥
uncut text m pieces walk stops other others cut =
    other (same_walk Step next (λ m p n e. e) (beginning text) m (ending text) pieces others walk cut stops (nothing_at_end text)).ends

-- the pieces cover the text

some_step : (m n : Moment) (p : Piece) (o : Option Found) → stepped m o ≡ Some (p, n) → (found : Found) × (p ≡ piece_of m found) × (n ≡ moment_behind m found)
some_step m n p None e = absurd (cc)
some_step m n p (Some found) e = elim (cases_Bool (keeps_line m.line (take found.count m.rest))) [
  | inl keeps ↦ let given = rw keeps at e in (found, pair_first (piece_of m found) p (moment_behind m found) n given, pair_second (piece_of m found) p (moment_behind m found) n given)
  | inr cut ↦ let given = rw cut at e in absurd (cc)
]

step-is : (m n : Moment) (p : Piece) → Step m p n → (found : Found) × (p ≡ piece_of m found) × (n ≡ moment_behind m found)
unfolding next
step-is m n p e = some_step m n p (found_at m) e

cover-step : (m n : Moment) (p : Piece) (pieces : List Piece) → Step m p n → Cover (length n.before) n.rest pieces → Cover (length m.before) m.rest (p ∷ pieces)
cover-step m n p pieces e later =
    let s = step-is m n p e in
    let found = s.0 in
    let here : List ℕ = take found.count m.rest in
    let rest : n.rest ≡ drop found.count m.rest = ap (λ (x : Moment). x.rest) s.2 in
    let before : n.before ≡ m.before ++ here = ap (λ (x : Moment). x.before) s.2 in
    let start : p.start ≡ length m.before = ap (λ (x : Piece). x.start) s.1 in
    let end : p.end ≡ length m.before + length here = ap (λ (x : Piece). x.end) s.1 in
    let at : length n.before ≡ p.end = ap length before ∙ length-append m.before here ∙ sym end in
    subst (λ (x : List ℕ). Cover (length m.before) x (p ∷ pieces)) (take-append-drop found.count m.rest)
    (one_piece (length m.before) here (drop found.count m.rest) p pieces start end
    (subst (λ (x : List ℕ). Cover p.end x pieces) rest (subst (λ (k : ℕ). Cover k n.rest pieces) at later)))

cover-walk : (m n : Moment) (pieces : List Piece) → Walk Step m pieces n → n.rest ≡ [] → Cover (length m.before) m.rest pieces
cover-walk _ _ _ (stay here) ended = subst (λ (x : List ℕ). Cover (length here.before) x []) (sym ended) (no_piece (length here.before))
cover-walk _ _ _ (go here next_one there p pieces first rest) ended = cover-step here next_one p pieces first (cover-walk next_one there pieces rest ended)

pub cut-cover : (text : List ℕ) (pieces : List Piece) → Cuts text pieces → Cover 0 text pieces
cut-cover text pieces cut = cover-walk (beginning text) (ending text) pieces cut refl

pub covered : {E : Type 0} (text : List ℕ) (answer : Result (Vec Piece Global) E) (P : E → Type 0) → MatchResult answer (λ pieces. Cuts text pieces.items) P → IfOk answer (λ pieces. Cover 0 text pieces.items)
covered text (Ok pieces) P cut = cut-cover text pieces.items cut
covered text (Err e) P why = tt

-- the loop

pub first-laid : (text : List ℕ) (cutter : Cutter) (pieces : List Piece) → IsFirst cutter → pieces ≡ [] → Walk Step (beginning text) pieces (moment_of text cutter)
first-laid text cutter pieces first none =
    subst (λ (m : Moment). Walk Step (beginning text) pieces m) (sym (first-moment text cutter first))
    (subst (λ (xs : List Piece). Walk Step (beginning text) xs (beginning text)) (sym none) (stay (beginning text)))

pub more-laid : (text : List ℕ) (old new : Cutter) (pieces more : List Piece) (piece : Piece) → Walk Step (beginning text) pieces (moment_of text old) → Advances text old piece new
    → more ≡ pieces ++ piece ∷ [] → Walk Step (beginning text) more (moment_of text new)
more-laid text old new pieces more piece laid moved is =
    subst (λ (xs : List Piece). Walk Step (beginning text) xs (moment_of text new)) (sym is)
    (walk-more Step (beginning text) (moment_of text old) (moment_of text new) pieces piece laid moved.step)

pub uncut-there : (text : List ℕ) (old new : Cutter) (pieces : List Piece) → IsWhere text old → Walk Step (beginning text) pieces (moment_of text old)
    → (next (moment_of text old) ≡ None) × (new ≡ old) → (moment_of text new ≡ ending text → ⊥) → IsUncut text new.place
uncut-there text old new pieces there laid stops other = record {
  uncut = uncut text (moment_of text old) pieces laid stops.0 (λ e. other (ap (moment_of text) stops.1 ∙ e));
  here =
      record {
        before = take old.at text;
        rest = drop old.at text;
        laid = sym (take-append-drop old.at text);
        here = ap (λ (k : Cutter). k.place) stops.1 ∙ there.here;
      };
}
