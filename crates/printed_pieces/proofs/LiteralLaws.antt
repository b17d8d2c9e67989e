-- Literal text is cut into pieces that say it.
use Rattle.std.proofs.Common.{◌≡◌, ℕ, ◌+◌, Bool, true, false, List, [], ◌∷◌, ◌++◌, length, None, refl, sym, ap, ◌∙◌, subst, append_assoc, arith, ne_eqb, eqb-true}
use Rattle.std.specs.declared.option.Option.{Option}
use Rattle.std.specs.Prelude.{◌==◌, ◌||◌, ◌&&◌}
use Rattle.std.specs.List.{list_all, flat_map}
use Rattle.std.proofs.lemmas.Bool.{false≢true, and_parts}
use Rattle.std.proofs.lemmas.List.{append-nil}
use Rattle.std.proofs.lemmas.List.Concat.{flat_map-append}
use Rattle.std.proofs.Math.Seq.{take-append_seam}
use Rattle.cs_token.specs.Walks.{Walk, stay, go}
use Rattle.razor_token.specs.declared.context.Context.{Context}
use Rattle.razor_token.specs.declared.piece.Piece.{Piece}
use Rattle.razor_token.specs.declared.piece.PieceKind.TheVariants as k
use Rattle.razor_token.specs.declared.runs.RunKind.{RunKind}
use Rattle.razor_token.specs.Runs.{is_of, run}
use Rattle.razor_token.specs.Contexts.{innermost, stays}
use Rattle.razor_token.specs.Pieces.{piece, literal}
use Rattle.razor_token.specs.Cutting.{Moment, Step, last_of, found_in}
use Rattle.razor_ast.specs.Pieces.{counted}
use Rattle.razor_print.specs.Parts.{Parts, doubled, written, parts_text}
use Rattle.razor_print.specs.Parts as parts
use Rattle.printed_pieces.specs.Meant.{Says, Mean}
use Rattle.printed_pieces.specs.Meant as m
use Rattle.printed_pieces.specs.Cut.{Lays, between, Stand, Cut}
use Rattle.printed_pieces.specs.Places.{is_said}
use Rattle.printed_pieces.proofs.WalkLaws.{walk-join, counted-join, Steps, step-found, counted-one}

-- literal pieces lead from one moment to the other, and say this text
pub record Saying (from : Moment) (text : List ℕ) (to : Moment) : Type 0 where
  pub pieces : List Piece
  pub laid : Walk Step from pieces to
  pub says : Says text (counted pieces)

says-join : (x y : List ℕ) (ps qs : List Piece) → Says x ps → Says y qs → Says (x ++ y) (ps ++ qs)
says-join _ y _ qs m.nothing later = later
says-join _ y _ qs (m.more x text p ps is rest) later =
    subst (λ z. Says z (p ∷ (ps ++ qs))) (sym (append_assoc x text y)) (m.more x (text ++ y) p (ps ++ qs) is (says-join text y ps qs rest later))

pub saying-join : (a b c : Moment) (x y : List ℕ) → Saying a x b → Saying b y c → Saying a (x ++ y) c
saying-join a b c x y first second = record {
  pieces = first.pieces ++ second.pieces;
  laid = walk-join a b c first.pieces second.pieces first.laid second.laid;
  says = subst (λ z. Says (x ++ y) z) (sym (counted-join first.pieces second.pieces)) (says-join x y (counted first.pieces) (counted second.pieces) first.says second.says);
}

pub saying-nothing : (a : Moment) → Saying a [] a
saying-nothing a = record { pieces = []; laid = stay a; says = m.nothing }

pub saying-one : (a b : Moment) (x : List ℕ) → Steps a (k.Literal x) b → Saying a x b
saying-one a b x h = record {
  pieces = h.piece ∷ [];
  laid = go a b b h.piece [] h.step (stay b);
  says = subst (λ z. Says x z) (counted-one h.piece (k.Literal x) h.is refl) (subst (λ z. Says z (h.piece ∷ [])) (append-nil x) (m.more x [] h.piece [] h.is m.nothing));
}

-- it is what literal text is meant to be
pub lays-said : (a b : Moment) (text : List ℕ) → Saying a text b → Lays a (parts.said text ∷ []) b
lays-said a b text h = record {
  pieces = h.pieces;
  laid = h.laid;
  mean = subst (λ z. Mean (parts.said text ∷ []) z) (append-nil (counted h.pieces)) (m.said text [] (counted h.pieces) [] h.says m.no_part);
}

pub lays-verbatim : (a b : Moment) (text : List ℕ) → Saying a text b → Lays a (parts.verbatim text ∷ []) b
lays-verbatim a b text h = record {
  pieces = h.pieces;
  laid = h.laid;
  mean = subst (λ z. Mean (parts.verbatim text ∷ []) z) (append-nil (counted h.pieces)) (m.verbatim text [] (counted h.pieces) [] h.says m.no_part);
}

-- In these contexts characters of this kind are literal text, and two at signs say one.
pub record Literals (kind : RunKind) (cs : List Context) : Type 0 where
  pub no_at : is_of kind 64 ≡ false
  pub twice : (last : Option ℕ) (rest : List ℕ) → found_in (innermost cs) false None last (64 ∷ 64 ∷ rest) ≡ piece (k.Literal (64 ∷ [])) 2 stays
  pub plain : (last : Option ℕ) (c : ℕ) (text : List ℕ) → is_of kind c ≡ true → found_in (innermost cs) false None last (c ∷ text) ≡ literal (run kind (c ∷ text)) (c ∷ text)

-- a text by its at signs and the runs between them
data Parted (kind : RunKind) : List ℕ → Type 0 where
  nothing : Parted kind []
  at : (text : List ℕ) → Parted kind text → Parted kind (64 ∷ text)
  plain : (c : ℕ) (front back : List ℕ) → is_of kind c ≡ true → list_all (is_of kind) front ≡ true → run kind back ≡ 0 → Parted kind back → Parted kind (c ∷ (front ++ back))

no-run : (kind : RunKind) (c : ℕ) (text : List ℕ) → is_of kind c ≡ false → run kind (c ∷ text) ≡ 0
no-run kind c text e = rw e refl

pub both : (a b : Bool) → a ≡ true → b ≡ true → (a && b) ≡ true
both a b e f = rw (e, f) refl

grow : (kind : RunKind) (c : ℕ) → is_of kind 64 ≡ false → is_of kind c ≡ true → (text : List ℕ) → Parted kind text → Parted kind (c ∷ text)
grow kind c none is _ nothing = plain c [] [] is refl refl nothing
grow kind c none is _ (at text v) = plain c [] (64 ∷ text) is refl (no-run kind 64 text none) (at text v)
grow kind c none is _ (plain d front back here all stops v) = plain c (d ∷ front) back is (both (is_of kind d) (list_all (is_of kind) front) here all) stops v

other_kind : (a b : Bool) → (a || b) ≡ true → a ≡ false → b ≡ true
other_kind true b e f = absurd (false≢true (sym f))
other_kind false b e f = e

parted : (kind : RunKind) → is_of kind 64 ≡ false → (text : List ℕ) → list_all (is_said kind) text ≡ true → Parted kind text
parted kind none [] all = nothing
parted kind none (c ∷ text) all = first (c == 64) refl (parted kind none text (and_parts (is_said kind c) (list_all (is_said kind) text) all).1)
  where
    first : (b : Bool) → (c == 64) ≡ b → Parted kind text → Parted kind (c ∷ text)
    first true e v = subst (λ d. Parted kind (d ∷ text)) (sym (eqb-true c 64 e)) (at text v)
    first false e v = grow kind c none (other_kind (c == 64) (is_of kind c) (and_parts (is_said kind c) (list_all (is_said kind) text) all).0 e) text v

pub run-front : (kind : RunKind) (front back : List ℕ) → list_all (is_of kind) front ≡ true → run kind back ≡ 0 → run kind (front ++ back) ≡ length front
run-front kind [] back all none = none
run-front kind (c ∷ front) back all none =
    let is = (and_parts (is_of kind c) (list_all (is_of kind) front) all).0 in
    let rest = run-front kind front back (and_parts (is_of kind c) (list_all (is_of kind) front) all).1 none in
    rw (is, rest) (omega arith)

not_at : (kind : RunKind) (c : ℕ) → is_of kind 64 ≡ false → is_of kind c ≡ true → (c == 64) ≡ false
not_at kind c none is = ne_eqb c 64 (λ e. false≢true (sym none ∙ ap (is_of kind) (sym e) ∙ is))

once : (kind : RunKind) (front : List ℕ) → is_of kind 64 ≡ false → list_all (is_of kind) front ≡ true → flat_map doubled front ≡ front
once kind [] none all = refl
once kind (c ∷ front) none all =
    let here = not_at kind c none (and_parts (is_of kind c) (list_all (is_of kind) front) all).0 in
    let rest = once kind front none (and_parts (is_of kind c) (list_all (is_of kind) front) all).1 in
    rw (here, rest) refl

-- behind a run none goes on
stops-behind : (kind : RunKind) (back rest : List ℕ) → is_of kind 64 ≡ false → Parted kind back → run kind back ≡ 0 → run kind rest ≡ 0 → run kind (flat_map doubled back ++ rest) ≡ 0
stops-behind kind _ rest none nothing here later = later
stops-behind kind _ rest none (at text v) here later = no-run kind 64 (64 ∷ (flat_map doubled text ++ rest)) none
stops-behind kind _ rest none (plain c front back is all stops v) here later = absurd (some (rw is at here))
  where
    some : run kind (front ++ back) + 1 ≡ 0 → ⊥
    some e = absurd (omega (arith, e))

pub some-literal : (c : ℕ) (front rest : List ℕ) → literal (length (c ∷ front)) ((c ∷ front) ++ rest) ≡ piece (k.Literal (c ∷ front)) (length (c ∷ front)) stays
some-literal c front rest =
    let some : (length (c ∷ front) == 0) ≡ false = ne_eqb (length (c ∷ front)) 0 (λ e. absurd (omega (arith, e))) in
    rw (take-append_seam (c ∷ front) rest, some) refl

-- a character of this kind is none of another
pub apart-from : (kind : RunKind) (c d : ℕ) → is_of kind c ≡ true → is_of kind d ≡ false → (c == d) ≡ false
apart-from kind c d is none = ne_eqb c d (λ e. false≢true (sym none ∙ ap (is_of kind) (sym e) ∙ is))

module _ (kind : RunKind) (cs : List Context) (literals : Literals kind cs) (rest : List ℕ) (later : run kind rest ≡ 0) where
  run-found : (last : Option ℕ) (c : ℕ) (front more : List ℕ) → is_of kind c ≡ true → list_all (is_of kind) front ≡ true → run kind more ≡ 0
      → found_in (innermost cs) false None last ((c ∷ front) ++ more) ≡ piece (k.Literal (c ∷ front)) (length (c ∷ front)) stays
  run-found last c front more is all stops =
      literals.plain last c (front ++ more) is
      ∙ ap (λ n. literal n ((c ∷ front) ++ more)) (run-front kind (c ∷ front) more (both (is_of kind c) (list_all (is_of kind) front) is all) stops)
      ∙ some-literal c front more

  said-parted : (text : List ℕ) → Parted kind text → (before : List ℕ) → Saying (between cs before (flat_map doubled text ++ rest)) text (between cs (before ++ flat_map doubled text) rest)
  said-parted _ nothing before = subst (λ z. Saying (between cs before rest) [] (between cs z rest)) (sym (append-nil before)) (saying-nothing (between cs before rest))
  said-parted _ (at text v) before =
      subst (λ z. Saying (between cs before (64 ∷ 64 ∷ (flat_map doubled text ++ rest))) (64 ∷ text) (between cs z rest)) (append_assoc before (64 ∷ 64 ∷ []) (flat_map doubled text))
      (saying-join _ _ _ (64 ∷ []) text
      (saying-one _ _ (64 ∷ []) (step-found cs [] before (64 ∷ 64 ∷ []) (flat_map doubled text ++ rest) (k.Literal (64 ∷ [])) stays (literals.twice (last_of before) (flat_map doubled text ++ rest)) refl))
      (said-parted text v (before ++ 64 ∷ 64 ∷ [])))
  said-parted _ (plain c front back is all stops v) before =
      let front_text : flat_map doubled (c ∷ front) ≡ c ∷ front = once kind (c ∷ front) literals.no_at (both (is_of kind c) (list_all (is_of kind) front) is all) in
      let text_is : flat_map doubled ((c ∷ front) ++ back) ≡ (c ∷ front) ++ flat_map doubled back = flat_map-append doubled (c ∷ front) back ∙ ap (λ z. z ++ flat_map doubled back) front_text in
      let more = flat_map doubled back ++ rest in
      let stopped = stops-behind kind back rest literals.no_at v stops later in
      let found = run-found (last_of before) c front more is all stopped in
      let first = saying-one _ _ (c ∷ front) (step-found cs [] before (c ∷ front) more (k.Literal (c ∷ front)) stays found refl) in
      subst (λ z. Saying (between cs before (z ++ rest)) ((c ∷ front) ++ back) (between cs (before ++ z) rest)) (sym text_is)
      (subst (λ z. Saying (between cs before z) ((c ∷ front) ++ back) (between cs (before ++ ((c ∷ front) ++ flat_map doubled back)) rest)) (sym (append_assoc (c ∷ front) (flat_map doubled back) rest))
      (subst (λ z. Saying (between cs before ((c ∷ front) ++ more)) ((c ∷ front) ++ back) (between cs z rest)) (append_assoc before (c ∷ front) (flat_map doubled back))
      (saying-join _ _ _ (c ∷ front) back first (said-parted back v (before ++ (c ∷ front))))))

-- Literal text stands before what is no literal text.
pub stand-said : (kind : RunKind) (cs : List Context) (before text rest : List ℕ) → Literals kind cs → list_all (is_said kind) text ≡ true → run kind rest ≡ 0
    → Stand cs before (parts.said text ∷ []) (flat_map doubled text) rest cs
stand-said kind cs before text rest literals all later = lays-said _ _ text (said-parted kind cs literals rest later text (parted kind literals.no_at text all) before)

said-text : (text : List ℕ) → parts_text (parts.said text ∷ []) ≡ flat_map doubled text
unfolding parts_text written
said-text text = append-nil (flat_map doubled text)

pub cut-said : (kind : RunKind) (cs : List Context) (before text rest : List ℕ) → Literals kind cs → list_all (is_said kind) text ≡ true → run kind rest ≡ 0
    → Cut cs before (parts.said text ∷ []) rest cs
cut-said kind cs before text rest literals all later =
    subst (λ z. Stand cs before (parts.said text ∷ []) z rest cs) (sym (said-text text)) (stand-said kind cs before text rest literals all later)
