-- Values in quotes are cut as meant.
use Rattle.std.proofs.Common.{◌≡◌, ℕ, Bool, true, false, List, [], ◌∷◌, ◌++◌, Some, None, refl, sym, ap, ◌∙◌, subst}
use Rattle.std.specs.declared.option.Option.{Option}
use Rattle.std.specs.Prelude.{◌==◌, codes}
use Rattle.std.specs.List.{list_all, flat_map}
use Rattle.std.proofs.lemmas.Bool.{false≢true, and_parts}
use Rattle.std.proofs.lemmas.List.{append-nil}
use Rattle.cs_token.specs.Places.{place_after}
use Rattle.cs_token.specs.Reading.Runs.{strip}
use Rattle.cs_print.specs.Printed.{Kinds}
use Rattle.razor_token.specs.declared.context.Change.{Change}
use Rattle.razor_token.specs.declared.context.Context.{Context}
use Rattle.razor_token.specs.declared.context.Context.TheVariants as x
use Rattle.razor_token.specs.declared.context.Held.TheVariants as held
use Rattle.razor_token.specs.declared.context.Holds.{Holds}
use Rattle.razor_token.specs.declared.context.Holds.TheVariants as h
use Rattle.razor_token.specs.declared.piece.PieceKind.TheVariants as k
use Rattle.razor_token.specs.declared.piece.Quote.{Quote}
use Rattle.razor_token.specs.declared.piece.Quote.TheVariants as q
use Rattle.razor_token.specs.Runs.{is_of, run, begins}
use Rattle.razor_token.specs.CodeFronts.{mark}
use Rattle.razor_token.specs.ValueFronts.{quoted_run, quoted_change, named_at, mixed_at, text_at, code_value_at}
use Rattle.razor_token.specs.Contexts.{innermost, changed, stays, leaves, becomes, becomes_both}
use Rattle.razor_token.specs.Pieces.{piece, literal}
use Rattle.razor_token.specs.Cutting.{found_in, last_of, opened_behind}
use Rattle.razor_print.specs.Parts.{Parts, quoted, led, doubled}
use Rattle.razor_print.specs.Parts as parts
use Rattle.printed_pieces.specs.Cut.{between, Stand}
use Rattle.printed_pieces.specs.Places.{is_said}
use Rattle.printed_pieces.proofs.WalkLaws.{stand-join, stand-piece, step-found, stand-nothing}
use Rattle.printed_pieces.proofs.LiteralLaws.{Saying, saying-one, saying-nothing, lays-verbatim, run-front, some-literal, stand-said}
use Rattle.printed_pieces.proofs.LiteralPlaces.{literals-mixed, neither}
use Rattle.printed_pieces.proofs.ShownLaws.{IsClosed, round_text, stand-led, stand-shown, shows-mixed}

pub start-found : (holds : Holds) (quote : Quote) (rest : List ℕ) → named_at holds (61 ∷ mark quote ∷ rest) ≡ piece (k.ValueStart (Some quote)) 2 (quoted_change holds quote (begins (codes "@") rest))
unfolding named_at strip
start-found holds q.Double rest = refl
start-found holds q.Single rest = refl

-- `=`, a quote, a value and the quote
abbrev pub quoted_text : Quote → List ℕ → List ℕ
quoted_text quote text = 61 ∷ mark quote ∷ (text ++ mark quote ∷ [])

-- a value with its quotes, where it stands between them
pub stand-quoted : (cs ds es : List Context) (before rest : List ℕ) (holds : Holds) (quote : Quote) (change : Change) (inner : Parts) (text : List ℕ)
    → quoted_change holds quote (begins (codes "@") ((text ++ mark quote ∷ []) ++ rest)) ≡ change → changed change (x.Named holds ∷ cs) ≡ ds → change.sign ≡ None
    → Stand ds (before ++ 61 ∷ mark quote ∷ []) inner text (mark quote ∷ rest) es
    → ((last : Option ℕ) → found_in (innermost es) false None last (mark quote ∷ rest) ≡ piece k.ValueEnd 1 leaves) → changed leaves es ≡ cs
    → Stand (x.Named holds ∷ cs) before (quoted quote inner) (quoted_text quote text) rest cs
stand-quoted cs ds es before rest holds quote change inner text is begins_so signless within_it ends left =
    let open_text = 61 ∷ mark quote ∷ [] in
    let behind = (text ++ mark quote ∷ []) ++ rest in
    stand-join (x.Named holds ∷ cs) ds cs before (parts.piece (k.ValueStart (Some quote)) open_text ∷ []) (inner ++ parts.piece k.ValueEnd (mark quote ∷ []) ∷ []) open_text (text ++ mark quote ∷ []) rest
    (subst (λ z. Stand (x.Named holds ∷ cs) before (parts.piece (k.ValueStart (Some quote)) open_text ∷ []) open_text behind z) begins_so
    (stand-piece (x.Named holds ∷ cs) before open_text behind (k.ValueStart (Some quote)) change
    (start-found holds quote behind ∙ ap (λ z. piece (k.ValueStart (Some quote)) 2 z) is) refl refl (ap (λ z. opened_behind z (place_after before) []) signless)))
    (stand-join ds es cs (before ++ open_text) inner (parts.piece k.ValueEnd (mark quote ∷ []) ∷ []) text (mark quote ∷ []) rest within_it
    (subst (λ z. Stand es ((before ++ open_text) ++ text) (parts.piece k.ValueEnd (mark quote ∷ []) ∷ []) (mark quote ∷ []) rest z) left
    (stand-piece es ((before ++ open_text) ++ text) (mark quote ∷ []) rest k.ValueEnd leaves (ends (last_of ((before ++ open_text) ++ text))) refl refl refl)))

-- an expression with an at sign before it

pub code-end : (quote : Quote) (rest : List ℕ) → code_value_at quote None (mark quote ∷ rest) ≡ piece k.ValueEnd 1 leaves
unfolding code_value_at strip
code-end q.Double rest = refl
code-end q.Single rest = refl

-- the values of these attributes can be one expression behind an at sign
pub data IsLed : Holds → Type 0 where
  event : IsLed h.Event
  supplied : IsLed h.Supplied

led-change : (holds : Holds) (quote : Quote) (text : List ℕ) → IsLed holds
    → quoted_change holds quote (begins (codes "@") (64 ∷ text)) ≡ becomes_both (x.Value held.Code (Some quote)) x.CodeLead
unfolding strip
led-change _ quote text event = refl
led-change _ quote text supplied = refl

pub stand-led-value : (cs : List Context) (before rest : List ℕ) (holds : Holds) (quote : Quote) (ks : Kinds) → IsLed holds → IsClosed ks
    → Stand (x.Named holds ∷ cs) before (quoted quote (led ks)) (quoted_text quote (64 ∷ round_text ks)) rest cs
stand-led-value cs before rest holds quote ks leads is =
    let value = x.Value held.Code (Some quote) ∷ cs in
    stand-quoted cs (x.CodeLead ∷ value) value before rest holds quote (becomes_both (x.Value held.Code (Some quote)) x.CodeLead) (led ks) (64 ∷ round_text ks)
    (led-change holds quote ((round_text ks ++ mark quote ∷ []) ++ rest) leads) refl refl (stand-led value (before ++ 61 ∷ mark quote ∷ []) (mark quote ∷ rest) ks is) (λ last. code-end quote rest) refl

-- literal text mixed with expressions

-- Where the first argument is true, literal text stands right before them.
pub data IsMixed (quote : Quote) : Bool → Parts → List ℕ → Type 0 where
  no_part : (b : Bool) → IsMixed quote b [] []
  said : (text : List ℕ) (ps : Parts) (more : List ℕ) → list_all (is_said (quoted_run quote)) text ≡ true → IsMixed quote true ps more → IsMixed quote false (parts.said text ∷ ps) (flat_map doubled text ++ more)
  shown : (b : Bool) (ks : Kinds) (ps : Parts) (more : List ℕ) → IsClosed ks → IsMixed quote false ps more → IsMixed quote b (parts.shown ks ++ ps) ((64 ∷ (round_text ks ++ [])) ++ more)

pub mark-ends : (quote : Quote) (rest : List ℕ) → run (quoted_run quote) (mark quote ∷ rest) ≡ 0
mark-ends q.Double rest = refl
mark-ends q.Single rest = refl

at-ends : (quote : Quote) (rest : List ℕ) → run (quoted_run quote) (64 ∷ rest) ≡ 0
at-ends q.Double rest = refl
at-ends q.Single rest = refl

mixed-ends : (quote : Quote) (b : Bool) (ps : Parts) (text rest : List ℕ) → b ≡ true → IsMixed quote b ps text → run (quoted_run quote) (text ++ mark quote ∷ rest) ≡ 0
mixed-ends quote _ _ _ rest e (no_part b) = mark-ends quote rest
mixed-ends quote _ _ _ rest e (said text ps more all is) = absurd (false≢true e)
mixed-ends quote _ _ _ rest e (shown b ks ps more closed is) = at-ends quote (((round_text ks ++ []) ++ more) ++ mark quote ∷ rest)

mixed-end : (quote : Quote) (last : Option ℕ) (rest : List ℕ) → mixed_at quote last (mark quote ∷ rest) ≡ piece k.ValueEnd 1 leaves
unfolding mixed_at strip
mixed-end q.Double last rest = refl
mixed-end q.Single last rest = refl

stand-mixed : (cs : List Context) (rest : List ℕ) (quote : Quote) (b : Bool) (ps : Parts) (text : List ℕ) → IsMixed quote b ps text → (before : List ℕ)
    → Stand (x.Value held.Mixed (Some quote) ∷ cs) before ps text (mark quote ∷ rest) (x.Value held.Mixed (Some quote) ∷ cs)
stand-mixed cs rest quote _ _ _ (no_part b) before = stand-nothing (x.Value held.Mixed (Some quote) ∷ cs) before (mark quote ∷ rest)
stand-mixed cs rest quote _ _ _ (said text ps more all is) before =
    let value = x.Value held.Mixed (Some quote) ∷ cs in
    stand-join value value value before (parts.said text ∷ []) ps (flat_map doubled text) more (mark quote ∷ rest)
    (stand-said (quoted_run quote) value before text (more ++ mark quote ∷ rest) (literals-mixed quote cs) all (mixed-ends quote true ps more rest refl is))
    (stand-mixed cs rest quote true ps more is (before ++ flat_map doubled text))
stand-mixed cs rest quote _ _ _ (shown b ks ps more closed is) before =
    let value = x.Value held.Mixed (Some quote) ∷ cs in
    stand-join value value value before (parts.shown ks) ps (64 ∷ (round_text ks ++ [])) more (mark quote ∷ rest)
    (stand-shown value before (more ++ mark quote ∷ rest) ks (shows-mixed quote cs) closed)
    (stand-mixed cs rest quote false ps more is (before ++ 64 ∷ (round_text ks ++ [])))

pub stand-mixed-value : (cs : List Context) (before rest : List ℕ) (quote : Quote) (ps : Parts) (text : List ℕ) → IsMixed quote false ps text
    → Stand (x.Named h.Mixed ∷ cs) before (quoted quote ps) (quoted_text quote text) rest cs
stand-mixed-value cs before rest quote ps text is =
    let value = x.Value held.Mixed (Some quote) ∷ cs in
    stand-quoted cs value value before rest h.Mixed quote (becomes (x.Value held.Mixed (Some quote))) ps text refl refl refl
    (stand-mixed cs rest quote false ps text is (before ++ 61 ∷ mark quote ∷ [])) (λ last. mixed-end quote last rest) refl

-- a text without at signs and without the quote

pub text-end : (quote : Quote) (rest : List ℕ) → text_at quote (mark quote ∷ rest) ≡ piece k.ValueEnd 1 leaves
unfolding text_at strip
text-end q.Double rest = refl
text-end q.Single rest = refl

pub text-plain : (quote : Quote) (c : ℕ) (text : List ℕ) → is_of (quoted_run quote) c ≡ true → text_at quote (c ∷ text) ≡ literal (run (quoted_run quote) (c ∷ text)) (c ∷ text)
unfolding text_at strip
text-plain q.Double c text is = let parts = neither (c == 64) (c == 34) is in rw (parts.0, parts.1) refl
text-plain q.Single c text is = let parts = neither (c == 64) (c == 39) is in rw (parts.0, parts.1) refl

text-saying : (cs : List Context) (before rest : List ℕ) (quote : Quote) (text : List ℕ) → list_all (is_of (quoted_run quote)) text ≡ true
    → Saying (between (x.Value held.Text (Some quote) ∷ cs) before (text ++ mark quote ∷ rest)) text (between (x.Value held.Text (Some quote) ∷ cs) (before ++ text) (mark quote ∷ rest))
text-saying cs before rest quote [] all =
    subst (λ z. Saying (between (x.Value held.Text (Some quote) ∷ cs) before (mark quote ∷ rest)) [] (between (x.Value held.Text (Some quote) ∷ cs) z (mark quote ∷ rest))) (sym (append-nil before)) (saying-nothing _)
text-saying cs before rest quote (c ∷ text) all =
    let is = (and_parts (is_of (quoted_run quote) c) (list_all (is_of (quoted_run quote)) text) all).0 in
    let found = text-plain quote c (text ++ mark quote ∷ rest) is
    ∙ ap (λ n. literal n ((c ∷ text) ++ mark quote ∷ rest)) (run-front (quoted_run quote) (c ∷ text) (mark quote ∷ rest) all (mark-ends quote rest)) ∙ some-literal c text (mark quote ∷ rest) in
    saying-one _ _ (c ∷ text) (step-found (x.Value held.Text (Some quote) ∷ cs) [] before (c ∷ text) (mark quote ∷ rest) (k.Literal (c ∷ text)) stays found refl)

pub stand-text-value : (cs : List Context) (before rest : List ℕ) (quote : Quote) (text : List ℕ) → list_all (is_of (quoted_run quote)) text ≡ true
    → Stand (x.Named h.Text ∷ cs) before (quoted quote (parts.verbatim text ∷ [])) (quoted_text quote text) rest cs
stand-text-value cs before rest quote text all =
    let value = x.Value held.Text (Some quote) ∷ cs in
    stand-quoted cs value value before rest h.Text quote (becomes (x.Value held.Text (Some quote))) (parts.verbatim text ∷ []) text refl refl refl
    (lays-verbatim _ _ text (text-saying cs (before ++ 61 ∷ mark quote ∷ []) rest quote text all)) (λ last. text-end quote rest) refl
