-- What was read of a text so far.
use Rattle.std.proofs.Common.{◌≡◌, ℕ, ◌+◌, ◌-◌, ◌<◌, ◌≤◌, List, [], ◌∷◌, ◌++◌, length, take, Option, Some, Ok, Err, true, false, eqb, refl, ap, sym, ◌∙◌, subst, arith, append_assoc, length-append}
use Rattle.std.proofs.lemmas.Bool.{eqb-true, eqb-false}
use Rattle.std.proofs.lemmas.List.{append-nil, take_at}
use Rattle.text_core.specs.declared.place.Place.{Place}
use Rattle.cs_token.specs.declared.around.Around.{Around}
use Rattle.cs_token.specs.declared.around.Opened.{Opened}
use Rattle.cs_token.specs.declared.fault.Cause.{Cause}
use Rattle.cs_token.specs.declared.fault.Cause.TheVariants.{BadCharacter, UnendedText, UnendedComment, NumberTooWide}
use Rattle.cs_token.specs.declared.token.Token.{Token}
use Rattle.cs_token.specs.declared.token.TokenKind.{TokenKind}
use Rattle.cs_token.specs.Faults.{fault_at}
use Rattle.cs_token.specs.Places.{past_character, behind, first_place, place_after}
use Rattle.cs_token.specs.Spelling.{innermost, behind_kind, Moment, Piece, Step, step, beginning, token_there, tokens_among, Spells, outermost, fault_place, GoesWrong, Explains}
use Rattle.cs_token.specs.Walks.{Walk, stay, go}
use Rattle.cs_token.specs.Wrong.{IsWrong}
use Rattle.cs_token.specs.Wrong as w
use Rattle.cs_token.specs.Reading.Fronts.{front_at}
use Rattle.cs_token.proofs.FrontLengths.{stands-some}
use Rattle.cs_token.proofs.SoundLemmas.{Found, Failed, Sound, front-sound}
use Rattle.cs_token.proofs.WalkLemmas.{walk-more}

-- places

pub behind-append : (xs ys : List ℕ) (place : Place) → behind place (xs ++ ys) ≡ behind (behind place xs) ys
behind-append [] ys place = refl
behind-append (x ∷ xs) ys place = behind-append xs ys (past_character place x)

place-more : (before here : List ℕ) → place_after (before ++ here) ≡ behind (place_after before) here
unfolding place_after
place-more before here = behind-append before here first_place

-- the tokens of more pieces

pub step-before : (a b : Moment) (piece : Piece) → Step a piece b → b.1 ≡ a.1 ++ piece.1
step-before _ _ _ (step opened before kind text rest stands) = refl

tokens-more : (later : List Piece) (a b : Moment) (pieces : List Piece) → Walk Step a pieces b → tokens_among a.1 (pieces ++ later) ≡ tokens_among a.1 pieces ++ tokens_among b.1 later
tokens-more later _ _ _ (stay here) = refl
tokens-more later _ _ _ (go here next there piece pieces first rest) =
    let moved : here.1 ++ piece.1 ≡ next.1 = sym (step-before here next piece first) in
    let tail : tokens_among (here.1 ++ piece.1) (pieces ++ later) ≡ tokens_among (here.1 ++ piece.1) pieces ++ tokens_among there.1 later =
    rw moved (tokens-more later next there pieces rest) in
    rw tail (sym (append_assoc _ (tokens_among (here.1 ++ piece.1) pieces) (tokens_among there.1 later)))

pub record Reached (text : List ℕ) (tokens : List Token) (opened : List Opened) (place : Place) (rest : List ℕ) : Type 0 where
  pub pieces : List Piece
  pub before : List ℕ
  pub laid : text ≡ before ++ rest
  pub walk : Walk Step (beginning text) pieces (opened, before, rest)
  pub are : tokens ≡ tokens_among [] pieces
  pub here : place ≡ place_after before

pub reached-first : (text : List ℕ) → Reached text [] [] first_place text
unfolding place_after
reached-first text = record { pieces = []; before = []; laid = refl; walk = stay (beginning text); are = refl; here = refl }

-- what was found at the front
found-front : (around : Option Around) (text : List ℕ) (kind : Option TokenKind) (rest : List ℕ) → 0 < length text → front_at around text ≡ Ok (kind, rest) → Found around text kind rest
found-front around text kind rest some e = subst (Sound around text) e (front-sound around text some)

failed-front : (around : Option Around) (text : List ℕ) (cause : Cause) (from : List ℕ) → 0 < length text → front_at around text ≡ Err (cause, from) → Failed around text cause from
failed-front around text cause from some e = subst (Sound around text) e (front-sound around text some)

pub front-shorter : (around : Option Around) (text : List ℕ) (kind : Option TokenKind) (rest : List ℕ) → 0 < length text → front_at around text ≡ Ok (kind, rest) → length rest < length text
front-shorter around text kind rest some e =
    let found = found-front around text kind rest some e in
    let first = stands-some around kind found.here rest found.stands in
    let whole = ap length found.laid ∙ length-append found.here rest in
    omega arith

pub front-within : (around : Option Around) (text : List ℕ) (cause : Cause) (from : List ℕ) → 0 < length text → front_at around text ≡ Err (cause, from) → length from ≤ length text
front-within around text cause from some e =
    let failed = failed-front around text cause from some e in
    let whole = ap length failed.laid ∙ length-append failed.good from in
    omega arith

-- a piece more

pub reached-more : (text : List ℕ) (tokens : List Token) (opened : List Opened) (place : Place) (rest : List ℕ) (kind : Option TokenKind) (after : List ℕ) → Reached text tokens opened place rest → 0 < length rest
    → front_at (innermost opened) rest ≡ Ok (kind, after)
    → Reached text (tokens ++ token_there kind (length text - length rest) (length text - length after) place) (behind_kind kind place opened)
    (behind place (take (length text - length after - (length text - length rest)) rest)) after
reached-more text tokens opened place rest kind after reached some e =
    let found = found-front (innermost opened) rest kind after some e in
    let before = reached.before in
    let here = found.here in
    let text_long : length text ≡ length before + length rest = ap length reached.laid ∙ length-append before rest in
    let rest_long : length rest ≡ length here + length after = ap length found.laid ∙ length-append here after in
    let start_is : length text - length rest ≡ length before = omega arith in
    let end_is : length text - length after ≡ length before + length here = omega arith in
    let count_is : length text - length after - (length text - length rest) ≡ length here = omega arith in
    let here_is : take (length text - length after - (length text - length rest)) rest ≡ here = ap (take _) found.laid ∙ take_at here after _ (sym count_is) in
    let moment : Moment = (behind_kind kind place opened, before ++ here, after) in
    let made : Step (opened, before, here ++ after) (kind, here) (behind_kind kind (place_after before) opened, before ++ here, after) = step opened before kind here after found.stands in
    let taken : Step (opened, before, rest) (kind, here) (behind_kind kind place opened, before ++ here, after) =
    subst (λ (x : List ℕ). Step (opened, before, x) (kind, here) (behind_kind kind place opened, before ++ here, after)) (sym found.laid)
    (subst (λ (p : Place). Step (opened, before, here ++ after) (kind, here) (behind_kind kind p opened, before ++ here, after)) (sym reached.here) made) in
    record {
      pieces = reached.pieces ++ (kind, here) ∷ [];
      before = before ++ here;
      laid = reached.laid ∙ ap (λ (x : List ℕ). before ++ x) found.laid ∙ sym (append_assoc before here after);
      walk = walk-more Step (beginning text) (opened, before, rest) (behind_kind kind place opened, before ++ here, after) reached.pieces (kind, here) reached.walk taken;
      are =
          rw (start_is, end_is)
          (ap (λ (x : List Token). x ++ token_there kind (length before) (length before + length here) place) reached.are
          ∙ ap (λ (p : Place). tokens_among [] reached.pieces ++ token_there kind (length before) (length before + length here) p) reached.here
          ∙ ap (λ (x : List Token). tokens_among [] reached.pieces ++ x) (sym (append-nil (token_there kind (length before) (length before + length here) (place_after before))))
          ∙ sym (tokens-more ((kind, here) ∷ []) (beginning text) (opened, before, rest) reached.pieces reached.walk));
      here = ap (behind place) here_is ∙ ap (λ (p : Place). behind p here) reached.here ∙ sym (place-more before here);
    }

-- the end

pub reached-end : (text : List ℕ) (tokens : List Token) (opened : List Opened) (place : Place) (rest : List ℕ) → Reached text tokens opened place rest → length rest ≡ 0 → length opened ≡ 0 → Spells text tokens
reached-end text tokens [] place [] reached ended closed =
    let whole : reached.before ≡ text = sym (reached.laid ∙ append-nil reached.before) in
    record { pieces = reached.pieces; laid = subst (λ (x : List ℕ). Walk Step (beginning text) reached.pieces ([], x, [])) whole reached.walk; are = reached.are }
reached-end text tokens (o ∷ opened) place rest reached ended closed = absurd (omega arith)
reached-end text tokens [] place (c ∷ rest) reached ended closed = absurd (omega arith)

-- a fault

explained : (text : List ℕ) (cause : Cause) (place : Place) → GoesWrong text cause place → Explains text (fault_at cause place)
explained text BadCharacter place wrong = wrong
explained text UnendedText place wrong = wrong
explained text UnendedComment place wrong = wrong
explained text NumberTooWide place wrong = wrong

pub goes-wrong : (text : List ℕ) (tokens : List Token) (opened : List Opened) (place : Place) (rest : List ℕ) (cause : Cause) (from : List ℕ) → Reached text tokens opened place rest → 0 < length rest
    → front_at (innermost opened) rest ≡ Err (cause, from) → GoesWrong text cause (fault_place cause opened (behind place (take (length rest - length from) rest)))
goes-wrong text tokens opened place rest cause from reached some e =
    let failed = failed-front (innermost opened) rest cause from some e in
    let before = reached.before in
    let rest_long : length rest ≡ length failed.good + length from = ap length failed.laid ∙ length-append failed.good from in
    let count_is : length rest - length from ≡ length failed.good = omega arith in
    let good_is : take (length rest - length from) rest ≡ failed.good = ap (take _) failed.laid ∙ take_at failed.good from _ (sym count_is) in
    let here : behind place (take (length rest - length from) rest) ≡ place_after (before ++ failed.good) =
    ap (behind place) good_is ∙ ap (λ (p : Place). behind p failed.good) reached.here ∙ sym (place-more before failed.good) in
    record {
      pieces = reached.pieces;
      opened = opened;
      before = before;
      good = failed.good;
      from = from;
      laid = subst (λ (x : List ℕ). Walk Step (beginning text) reached.pieces (opened, before, x)) failed.laid reached.walk;
      wrong = failed.wrong;
      here = ap (fault_place cause opened) here;
    }

pub reached-wrong : (text : List ℕ) (tokens : List Token) (opened : List Opened) (place : Place) (rest : List ℕ) (cause : Cause) (from : List ℕ) → Reached text tokens opened place rest → 0 < length rest
    → front_at (innermost opened) rest ≡ Err (cause, from) → Explains text (fault_at cause (fault_place cause opened (behind place (take (length rest - length from) rest))))
reached-wrong text tokens opened place rest cause from reached some e = explained text cause _ (goes-wrong text tokens opened place rest cause from reached some e)

open_line : (opened : List Opened) → 0 < length opened → IsWrong (innermost opened) UnendedText [] []
open_line [] some = absurd (omega arith)
open_line (o ∷ opened) some = w.unended_line (Some o.around) [] refl refl

pub reached-unended : (text : List ℕ) (tokens : List Token) (opened : List Opened) (place : Place) (rest : List ℕ) → Reached text tokens opened place rest → length rest ≡ 0 → 0 < length opened
    → GoesWrong text UnendedText (fault_place UnendedText opened place)
reached-unended text tokens opened place [] reached ended some = record {
  pieces = reached.pieces;
  opened = opened;
  before = reached.before;
  good = [];
  from = [];
  laid = reached.walk;
  wrong = open_line opened some;
  here = ap (λ (p : Place). outermost p opened) (reached.here ∙ ap place_after (sym (append-nil reached.before)));
}
reached-unended text tokens opened place (c ∷ rest) reached ended some = absurd (omega arith)

-- whether anything is left

pub some_left : {X : Type 0} (xs : List X) → eqb (length xs) 0 ≡ false → 0 < length xs
some_left xs e = let ne = eqb-false _ _ e in omega arith

pub none_left : {X : Type 0} (xs : List X) → eqb (length xs) 0 ≡ true → length xs ≡ 0
none_left xs e = eqb-true _ _ e
