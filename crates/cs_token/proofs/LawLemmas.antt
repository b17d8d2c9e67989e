-- A text spells one list of tokens, or goes wrong in one way.
use Rattle.std.proofs.Common.{◌≡◌, ℕ, ◌-◌, List, [], ◌++◌, length, take, Some, None, Ok, Err, refl, ap, sym, ◌∙◌, arith, length-append}
use Rattle.std.specs.declared.option.Option.{Option}
use Rattle.std.proofs.lemmas.Bool.{false≢true}
use Rattle.std.proofs.lemmas.List.{take_at, append_cancel_right}
use Rattle.text_core.specs.declared.place.Place.{Place}
use Rattle.cs_token.specs.declared.around.Around.{Around}
use Rattle.cs_token.specs.declared.around.Opened.{Opened}
use Rattle.cs_token.specs.declared.fault.Cause.{Cause}
use Rattle.cs_token.specs.declared.token.Token.{Token}
use Rattle.cs_token.specs.Places.{place_after}
use Rattle.cs_token.specs.Spelling.{innermost, behind_kind, Moment, Piece, Step, step, beginning, tokens_among, Spells, fault_place, GoesWrong}
use Rattle.cs_token.specs.Wrong.{IsWrong}
use Rattle.cs_token.specs.Wrong as w
use Rattle.cs_token.specs.Reading.Fronts.{Read, front_at}
use Rattle.cs_token.proofs.ExactLemmas.{front-again, wrong-again, nothing_there}
use Rattle.cs_token.proofs.WalkLemmas.{same_walk}

-- the step that is made from a moment

abbrev here_of : List ℕ → List ℕ → List ℕ
here_of text rest = take (length text - length rest) text

abbrev stepped : Moment → Read → Option (Piece × Moment)
stepped m (Ok x) = Some ((x.0, here_of m.2 x.1), (behind_kind x.0 (place_after m.1) m.0, m.1 ++ here_of m.2 x.1, x.1))
stepped m (Err e) = None

abbrev next : Moment → Option (Piece × Moment)
next m = stepped m (front_at (innermost m.0) m.2)

here_of-append : (text rest : List ℕ) → here_of (text ++ rest) rest ≡ text
here_of-append text rest = take_at text rest _ (omega (arith, length-append text rest))

next-again : (a : Moment) (piece : Piece) (b : Moment) → Step a piece b → next a ≡ Some (piece, b)
next-again _ _ _ (step opened before kind text rest stands) = rw (front-again (innermost opened) kind text rest stands, here_of-append text rest) refl

next-wrong : (opened : List Opened) (before : List ℕ) (cause : Cause) (good from : List ℕ) → IsWrong (innermost opened) cause good from → next (opened, before, good ++ from) ≡ None
next-wrong opened before cause good from wrong = rw (wrong-again (innermost opened) cause good from wrong) refl

next-end : (text : List ℕ) → next ([], text, []) ≡ None
next-end text = rw (nothing_there None) refl

-- one list of tokens

pub one_list : (text : List ℕ) (a b : List Token) → Spells text a → Spells text b → a ≡ b
one_list text a b x y =
    let same = same_walk Step next next-again (beginning text) ([], text, []) ([], text, []) x.pieces y.pieces x.laid y.laid (next-end text) (next-end text) in
    x.are ∙ ap (tokens_among []) same.things ∙ sym y.are

-- no tokens where it goes wrong

not_at_end : (around : Option Around) (cause : Cause) (good from : List ℕ) → IsWrong around cause good from → around ≡ None → good ++ from ≡ [] → ⊥
not_at_end _ _ _ _ (w.bad_character around c rest code white word quote none) outside e = cc
not_at_end _ _ _ _ (w.bad_escape around body said c rest code is stops quote feed) outside e = cc
not_at_end _ _ _ _ (w.bad_part c rest stops quote feed brace) outside e = cc
not_at_end _ _ _ _ (w.unended_text around body said rest code is ends) outside e = cc
not_at_end _ _ _ _ (w.unended_line around rest line ends) outside e = false≢true (rw outside at line)
not_at_end _ _ _ _ (w.unended_line_in_comment around body rest code line all endless ends) outside e = cc
not_at_end _ _ _ _ (w.unended_comment body endless) outside e = cc
not_at_end _ _ _ _ (w.too_wide around digits rest code is stops says) outside e =
    let some = is.some in absurd (omega (arith, length-append digits rest, ap length e))

pub wrong_spells_nothing : (text : List ℕ) (cause : Cause) (place : Place) (tokens : List Token) → GoesWrong text cause place → Spells text tokens → ⊥
wrong_spells_nothing text cause place tokens x y =
    let same = same_walk Step next next-again (beginning text) (x.opened, x.before, x.good ++ x.from) ([], text, []) x.pieces y.pieces x.laid y.laid
    (next-wrong x.opened x.before cause x.good x.from x.wrong) (next-end text) in
    not_at_end (innermost x.opened) cause x.good x.from x.wrong (ap (λ (m : Moment). innermost m.0) same.ends) (ap (λ (m : Moment). m.2) same.ends)

-- one fault

one_error : (read : Read) (p q : Cause × List ℕ) → read ≡ Err p → read ≡ Err q → p ≡ q
one_error read p q e f = let made : Read = Err p in let want : Read = Err q in let same : made ≡ want = sym e ∙ f in cc

same_fault : (around : Option Around) (text : List ℕ) (a b : Cause) (x y : List ℕ) → front_at around text ≡ Err (a, x) → front_at around text ≡ Err (b, y) → (a ≡ b) × (x ≡ y)
same_fault around text a b x y e f =
    let p : Cause × List ℕ = (a, x) in
    let q : Cause × List ℕ = (b, y) in
    let pair : p ≡ q = one_error (front_at around text) p q e f in
    (ap (λ (z : Cause × List ℕ). z.0) pair, ap (λ (z : Cause × List ℕ). z.1) pair)

pub one_fault : (text : List ℕ) (a b : Cause) (p q : Place) → GoesWrong text a p → GoesWrong text b q → (a ≡ b) × (p ≡ q)
one_fault text a b p q x y =
    let same = same_walk Step next next-again (beginning text) (x.opened, x.before, x.good ++ x.from) (y.opened, y.before, y.good ++ y.from) x.pieces y.pieces x.laid y.laid
    (next-wrong x.opened x.before a x.good x.from x.wrong) (next-wrong y.opened y.before b y.good y.from y.wrong) in
    let opened : x.opened ≡ y.opened = ap (λ (m : Moment). m.0) same.ends in
    let before : x.before ≡ y.before = ap (λ (m : Moment). m.1) same.ends in
    let text_is : x.good ++ x.from ≡ y.good ++ y.from = ap (λ (m : Moment). m.2) same.ends in
    let first = wrong-again (innermost x.opened) a x.good x.from x.wrong in
    let second = wrong-again (innermost y.opened) b y.good y.from y.wrong in
    let faults = same_fault (innermost y.opened) (y.good ++ y.from) a b x.from y.from (rw (opened, text_is) at first) second in
    let good : x.good ≡ y.good = append_cancel_right x.good y.good y.from (ap (λ (z : List ℕ). x.good ++ z) (sym faults.1) ∙ text_is) in
    let places : fault_place a x.opened (place_after (x.before ++ x.good)) ≡ fault_place b y.opened (place_after (y.before ++ y.good)) =
    ap (λ (c : Cause). fault_place c x.opened (place_after (x.before ++ x.good))) faults.0
    ∙ ap (λ (o : List Opened). fault_place b o (place_after (x.before ++ x.good))) opened
    ∙ ap (λ (z : List ℕ). fault_place b y.opened (place_after (z ++ x.good))) before
    ∙ ap (λ (z : List ℕ). fault_place b y.opened (place_after (y.before ++ z))) good in
    (faults.0, x.here ∙ places ∙ sym y.here)
