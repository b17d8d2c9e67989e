-- A value of a parameter that is literal text alone says the text of a parameter.
use Rattle.std.proofs.Common.{◌≡◌, ℕ, Bool, true, false, List, [], ◌∷◌, ◌++◌, take, Some, None, refl, sym, ap, ◌∙◌, subst}
use Rattle.std.specs.Prelude.{◌==◌, ◌&&◌, codes, if◌then◌else◌}
use Rattle.std.specs.declared.option.Option.{Option}
use Rattle.std.specs.List.{list_all}
use Rattle.cs_token.specs.Reading.Runs.{strip}
use Rattle.cs_token.specs.Spelling as code
use Rattle.cs_token.specs.Walks.{Walk, stay, go}
use Rattle.razor_token.specs.declared.context.Change.{Change}
use Rattle.razor_token.specs.declared.context.Context.{Context}
use Rattle.razor_token.specs.declared.context.Context.TheVariants as x
use Rattle.razor_token.specs.declared.context.Held.TheVariants as held
use Rattle.razor_token.specs.declared.found.Found.{Found}
use Rattle.razor_token.specs.declared.piece.Piece.{Piece}
use Rattle.razor_token.specs.declared.piece.PieceKind.TheVariants as k
use Rattle.razor_token.specs.declared.piece.Quote.{Quote}
use Rattle.razor_token.specs.declared.piece.Quote.TheVariants as q
use Rattle.razor_token.specs.Contexts.{innermost, left, leaves, becomes}
use Rattle.razor_token.specs.Cutting.{Moment, Step, found_at, found_in, last_of, stepped}
use Rattle.razor_token.specs.Pieces.{piece}
use Rattle.razor_token.specs.Runs.{is_of, begins, is_bare, bare_run}
use Rattle.razor_token.specs.ValueFronts.{quoted_run, bare_text_at, code_lead_at, shown_lead_at}
use Rattle.razor_ast.specs.Attributes.{TextValue}
use Rattle.razor_ast.specs.Attributes as spelled
use Rattle.razor_ast.specs.Literals.{literal_of, with_literal, literal_run}
use Rattle.razor_ast.specs.Pieces.{counted}
use Rattle.printed_pieces.specs.Printable.{IsValueText}
use Rattle.printable_texts.proofs.ParameterTexts.{is_value_text, bare_is_plain}
use Rattle.printable_texts.proofs.TextEnds.{ends_empty, ends_plain, arounds, first_plain, plain_marks, not_begun}
use Rattle.printable_texts.proofs.TextWalk.{Says, counted_some, says_literal, says_end, says_nothing, text_through}
use Rattle.printable_texts.proofs.ValueGoes.{bare_all}
use Rattle.printable_texts.proofs.WalkSteps.{made, step_found}

-- where such a value begins: a text in quotes, or without; or an at sign
pub data Begins (cs : List Context) (rest : List ℕ) : Type 0 where
  quoted : (quote : Quote) (outer : List Context) → cs ≡ x.Value held.Text (Some quote) ∷ outer → begins (codes "@") rest ≡ false → Begins cs rest
  bare : (outer : List Context) → cs ≡ x.Value held.Text None ∷ outer → Begins cs rest
  code_lead : (outer : List Context) → cs ≡ x.CodeLead ∷ outer → Begins cs rest
  shown_lead : (outer : List Context) → cs ≡ x.ShownLead ∷ outer → Begins cs rest

-- what is found in a context
found_is : (m : Moment) (c : Context) (outer : List Context) → m.contexts ≡ c ∷ outer → found_at m ≡ found_in (Some c) m.line (code.innermost m.opened) (last_of m.before) m.rest
found_is m c outer here = ap (λ cs. found_in (innermost cs) m.line (code.innermost m.opened) (last_of m.before) m.rest) here

-- an at sign
data LeadGoes : Option Found → Type 0 where
  nothing : LeadGoes None
  at : (count : ℕ) (change : Change) → LeadGoes (Some (record { kind = k.At; count = count; change = change }))

choose : (b : Bool) (y z : Option Found) → LeadGoes y → LeadGoes z → LeadGoes (if b then y else z)
choose true y z h i = h
choose false y z h i = i

code_goes : (text : List ℕ) → LeadGoes (code_lead_at text)
unfolding code_lead_at
code_goes text = search (choose, nothing, at) depth 9

shown_goes : (text : List ℕ) → LeadGoes (shown_lead_at text)
unfolding shown_lead_at
shown_goes text = search (choose, nothing, at) depth 9

no_text : (m n : Moment) (p : Piece) (ps : List Piece) (text : List ℕ) (o : Option Found) → LeadGoes o → stepped m o ≡ Some (p, n) → Says (counted (p ∷ ps)) text → ⊥
no_text m n p ps text _ nothing e says = absurd (cc)
no_text m n p ps text _ (at count change) e says =
    let is = (made m k.At count change p n e).kind_is in
    let front : literal_run (counted (p ∷ ps)) ≡ ([], p ∷ counted ps) =
    ap literal_run (counted_some p ps k.At is refl) ∙ ap (λ z. with_literal (literal_of z) p (counted ps) (literal_run (counted ps))) is in
    let whole = ap (λ (z : List ℕ × List Piece). z.1) (sym front ∙ says.run) in
    let ended = says.ended in
    let same : p ≡ says.end = cc in
    let wrong : k.At ≡ k.ValueEnd = sym is ∙ ap (λ (z : Piece). z.kind) same ∙ ended in
    absurd (cc)

no_text_behind : (m n : Moment) (ps : List Piece) (text : List ℕ) (o : Option Found) → Walk Step m ps n → found_at m ≡ o → LeadGoes o → Says (counted ps) text → ⊥
no_text_behind _ _ _ text o (stay m) is goes says = says_nothing text says
no_text_behind _ n _ text o (go m middle _ p ps first others) is goes says = no_text m middle p ps text o goes (ap (stepped m) (sym is) ∙ step_found m p middle first) says

-- a text without quotes
record Bare (m n : Moment) (p : Piece) (outer : List Context) : Type 0 where
  kind_is : p.kind ≡ k.Literal (take (bare_run m.rest) m.rest)
  contexts : n.contexts ≡ x.Value held.Ended None ∷ outer

bare_step : (m n : Moment) (p : Piece) (outer : List Context) → m.contexts ≡ x.Value held.Text None ∷ outer → stepped m (bare_text_at m.rest) ≡ Some (p, n) → Bare m n p outer
unfolding bare_text_at
bare_step m n p outer here e = by (bare_run m.rest == 0) e
  where
    by : (b : Bool) → stepped m (if b then None else piece (k.Literal (take (bare_run m.rest) m.rest)) (bare_run m.rest) (becomes (x.Value held.Ended None))) ≡ Some (p, n) → Bare m n p outer
    by true e = absurd (cc)
    by false e =
        let to = made m (k.Literal (take (bare_run m.rest) m.rest)) (bare_run m.rest) (becomes (x.Value held.Ended None)) p n e in
        record { kind_is = to.kind_is; contexts = to.contexts ∙ ap (λ cs. x.Value held.Ended None ∷ left cs) here }

ended_there : (m n : Moment) (ps : List Piece) (outer : List Context) (text : List ℕ) → Walk Step m ps n → m.contexts ≡ x.Value held.Ended None ∷ outer → Says (counted ps) text → text ≡ []
ended_there _ _ _ outer text (stay m) here says = absurd (says_nothing text says)
ended_there _ n _ outer text (go m middle _ p ps first others) here says =
    let to = made m k.ValueEnd 0 leaves p middle (ap (stepped m) (sym (found_is m (x.Value held.Ended None) outer here)) ∙ step_found m p middle first) in
    says_end p ps text to.kind_is says

plain_all : (text : List ℕ) → list_all is_bare text ≡ true → list_all (is_of (quoted_run q.Double)) text ≡ true
plain_all [] e = refl
plain_all (c ∷ text) e = by (is_bare c) refl e (λ f. plain_all text f)
  where
    by : (b : Bool) → is_bare c ≡ b → (b && list_all is_bare text) ≡ true → (list_all is_bare text ≡ true → list_all (is_of (quoted_run q.Double)) text ≡ true) → list_all (is_of (quoted_run q.Double)) (c ∷ text) ≡ true
    by true is e more = rw (bare_is_plain c is, more e) refl
    by false is e more = absurd (cc)

unmarked : (text more : List ℕ) → list_all (is_of (quoted_run q.Double)) text ≡ true → more ≡ [] → begins (codes "@") (text ++ more) ≡ false
unfolding strip
unmarked [] more all none = ap (begins (codes "@")) none
unmarked (c ∷ text) more all none = not_begun 64 c [] (text ++ more) (plain_marks q.Double c (first_plain q.Double c text all).0).0

bare_text : (m n middle : Moment) (p : Piece) (ps : List Piece) (outer : List Context) (text : List ℕ) → Bare m middle p outer → Walk Step middle ps n → Says (counted (p ∷ ps)) text → IsValueText text
bare_text m n middle p ps outer text first others says =
    let x = take (bare_run m.rest) m.rest in
    let parts = says_literal p ps x text first.kind_is says in
    let last = ended_there middle n ps outer parts.later others first.contexts parts.says in
    let all = plain_all x (bare_all m.rest) in
    let whole : text ≡ x ++ [] = parts.is ∙ ap (λ z. x ++ z) last in
    subst IsValueText (sym whole) (is_value_text q.Double (x ++ []) [] (ends_plain q.Double [] x [] all (ends_empty q.Double [])) (unmarked_twice x all))
  where
    none_more : (x : List ℕ) → (x ++ []) ++ [] ≡ x ++ []
    none_more [] = refl
    none_more (c ∷ x) = ap (λ z. c ∷ z) (none_more x)

    unmarked_twice : (x : List ℕ) → list_all (is_of (quoted_run q.Double)) x ≡ true → begins (codes "@") ((x ++ []) ++ []) ≡ false
    unmarked_twice x all = ap (begins (codes "@")) (none_more x) ∙ unmarked x [] all refl

bare_through : (m n : Moment) (ps : List Piece) (outer : List Context) (text : List ℕ) → Walk Step m ps n → m.contexts ≡ x.Value held.Text None ∷ outer → Says (counted ps) text → IsValueText text
bare_through _ _ _ outer text (stay m) here says = absurd (says_nothing text says)
bare_through _ n _ outer text (go m middle _ p ps first others) here says =
    bare_text m n middle p ps outer text (bare_step m middle p outer here (ap (stepped m) (sym (found_is m (x.Value held.Text None) outer here)) ∙ step_found m p middle first)) others says

said_through : (m n : Moment) (ps : List Piece) (text : List ℕ) → Walk Step m ps n → m.opened ≡ [] → Begins m.contexts m.rest → Says (counted ps) text → IsValueText text
said_through m n ps text walk quiet (quoted quote outer here no_at) says =
    let found = text_through quote outer m n ps walk 0 [] text here (ap arounds quiet) says in
    is_value_text quote text found.more found.ends (ap (begins (codes "@")) (sym found.whole) ∙ no_at)
said_through m n ps text walk quiet (bare outer here) says = bare_through m n ps outer text walk here says
said_through m n ps text walk quiet (code_lead outer here) says = absurd (no_text_behind m n ps text (code_lead_at m.rest) walk (found_is m x.CodeLead outer here) (code_goes m.rest) says)
said_through m n ps text walk quiet (shown_lead outer here) says = absurd (no_text_behind m n ps text (shown_lead_at m.rest) walk (found_is m x.ShownLead outer here) (shown_goes m.rest) says)

pub supplies : (m n : Moment) (ps : List Piece) → Walk Step m ps n → m.opened ≡ [] → Begins m.contexts m.rest → (rest : List Piece) (text : List ℕ) → TextValue (counted ps) rest text → IsValueText text
supplies m n ps walk quiet there _ text (spelled.text end _ rest _ run is) = said_through m n ps text walk quiet there (record { end = end; rest = rest; run = run; ended = is })
