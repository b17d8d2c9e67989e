-- The literal pieces of a parameter's value say a text that the quotes round it end.
use Rattle.std.proofs.Common.{◌≡◌, ℕ, zero, suc, ◌+◌, ◌-◌, Bool, true, false, List, [], ◌∷◌, ◌++◌, take, drop, Some, None, refl, sym, ap, ◌∙◌, subst, add-one, append_assoc, arith}
use Rattle.std.specs.Prelude.{codes, is_some, if◌then◌else◌}
use Rattle.std.specs.Str.{bytes_eq}
use Rattle.std.specs.declared.option.Option.{Option}
use Rattle.std.proofs.lemmas.List.{take-append-drop}
use Rattle.cs_token.specs.declared.around.Around.{Around}
use Rattle.cs_token.specs.declared.around.Opened.{Opened}
use Rattle.cs_token.specs.declared.token.Sign.{Sign}
use Rattle.cs_token.specs.Lexemes.{Stands}
use Rattle.cs_token.specs.Places.{first_place, place_after}
use Rattle.cs_token.specs.Reading.Runs.{strip}
use Rattle.cs_token.specs.Spelling.{innermost, behind_kind}
use Rattle.cs_token.specs.Walks.{Walk, stay, go}
use Rattle.razor_token.specs.declared.context.Context.{Context}
use Rattle.razor_token.specs.declared.context.Context.TheVariants as x
use Rattle.razor_token.specs.declared.context.Held.TheVariants as held
use Rattle.razor_token.specs.declared.found.Found.{Found}
use Rattle.razor_token.specs.declared.piece.Piece.{Piece}
use Rattle.razor_token.specs.declared.piece.PieceKind.{PieceKind}
use Rattle.razor_token.specs.declared.piece.PieceKind.TheVariants as k
use Rattle.razor_token.specs.declared.piece.Quote.{Quote}
use Rattle.razor_token.specs.CodeFronts.{sign_of, opens, closes, bracket_change, bracket_at}
use Rattle.razor_token.specs.Contexts as contexts
use Rattle.razor_token.specs.Contexts.{changed, enters, leaves, stays, with_sign}
use Rattle.razor_token.specs.Cutting.{Moment, Step, found_at, found_in, last_of, stepped}
use Rattle.razor_token.specs.Runs.{begins}
use Rattle.razor_token.specs.ValueFronts.{text_at}
use Rattle.razor_ast.specs.Literals.{literal_of, with_literal, literal_run}
use Rattle.razor_ast.specs.Pieces.{counted, is_counted, IsKind}
use Rattle.razor_print.specs.ValueTexts.{depth_behind}
use Rattle.printable_texts.proofs.TextEnds.{Ends, ends_empty, ends_two, ends_bracket, ends_at, ends_plain, ends_inside, arounds, alike_innermost, alike_behind}
use Rattle.printable_texts.proofs.TextSteps.{TextGoes, text_goes, RawGoes, raw_goes}
use Rattle.printable_texts.proofs.TextSteps as steps
use Rattle.printable_texts.proofs.WalkSteps.{made, step_found}

-- in a value, so many brackets of `@(..)` deep
abbrev raws : ℕ → List Context → List Context
raws zero cs = cs
raws (suc n) cs = x.Bracket None true ∷ raws n cs

abbrev pub In : Quote → ℕ → List Context → List Context
In quote depth outer = raws depth (x.Value held.Text (Some quote) ∷ outer)

-- the text lies at the front of the rest, and enough steps lead through it
pub record Through (quote : Quote) (depth : ℕ) (opened : List Opened) (text rest : List ℕ) : Type 0 where
  pub more : List ℕ
  pub whole : rest ≡ text ++ more
  pub ends : Ends quote depth opened text

-- the pieces say the text up to the end of a value
pub record Says (ps : List Piece) (text : List ℕ) : Type 0 where
  pub end : Piece
  pub rest : List Piece
  pub run : literal_run ps ≡ (text, end ∷ rest)
  pub ended : IsKind k.ValueEnd end

pub counted_some : (p : Piece) (ps : List Piece) (kind : PieceKind) → p.kind ≡ kind → is_counted kind ≡ true → counted (p ∷ ps) ≡ p ∷ counted ps
counted_some p ps kind is e = let some : is_counted p.kind ≡ true = ap is_counted is ∙ e in rw some refl

-- a literal piece first
pub record Parted (ps : List Piece) (x text : List ℕ) : Type 0 where
  pub later : List ℕ
  pub is : text ≡ x ++ later
  pub says : Says ps later

pub says_literal : (p : Piece) (ps : List Piece) (x text : List ℕ) → p.kind ≡ k.Literal x → Says (counted (p ∷ ps)) text → Parted (counted ps) x text
says_literal p ps x text is h =
    let front : literal_run (counted (p ∷ ps)) ≡ (x ++ (literal_run (counted ps)).0, (literal_run (counted ps)).1) =
    ap literal_run (counted_some p ps (k.Literal x) is refl) ∙ ap (λ z. with_literal (literal_of z) p (counted ps) (literal_run (counted ps))) is in
    let both = sym front ∙ h.run in
    record {
      later = (literal_run (counted ps)).0;
      is = sym (ap (λ z. z.0) both);
      says = record { end = h.end; rest = h.rest; run = ap (λ (z : List ℕ × List Piece). ((literal_run (counted ps)).0, z.1)) both; ended = h.ended };
    }

-- the end first
pub says_end : (p : Piece) (ps : List Piece) (text : List ℕ) → p.kind ≡ k.ValueEnd → Says (counted (p ∷ ps)) text → text ≡ []
says_end p ps text is h =
    let front : literal_run (counted (p ∷ ps)) ≡ ([], p ∷ counted ps) =
    ap literal_run (counted_some p ps k.ValueEnd is refl) ∙ ap (λ z. with_literal (literal_of z) p (counted ps) (literal_run (counted ps))) is in
    ap (λ z. z.0) (sym h.run ∙ front)

pub says_nothing : (text : List ℕ) → Says [] text → ⊥
says_nothing text h = let e = ap (λ (z : List ℕ × List Piece). z.1) h.run in absurd (cc)

-- the contexts behind a piece in brackets
raws_more : (depth : ℕ) (cs : List Context) → x.Bracket None true ∷ raws (suc depth) cs ≡ raws (suc depth + 1) cs
raws_more depth cs = ap (λ n. raws n cs) (sym (add-one (suc depth)))

raws_less : (depth : ℕ) (cs : List Context) → raws depth cs ≡ raws (suc depth - 1) cs
raws_less depth cs = let e : depth ≡ suc depth - 1 = omega arith in ap (λ n. raws n cs) e

by_sign : (a b : Bool) (depth : ℕ) (cs : List Context)
    → changed (if a then enters (x.Bracket None true) else if b then leaves else stays) (raws (suc depth) cs) ≡ raws (if a then suc depth + 1 else if b then suc depth - 1 else suc depth) cs
by_sign true b depth cs = raws_more depth cs
by_sign false true depth cs = raws_less depth cs
by_sign false false depth cs = refl

in_brackets : (around : Option Around) (sign : Option Sign) (depth : ℕ) (cs : List Context) → changed (with_sign sign (bracket_change None true around sign)) (raws (suc depth) cs) ≡ raws (depth_behind around sign (suc depth)) cs
in_brackets None None depth cs = refl
in_brackets None (Some sign) depth cs = by_sign (opens sign) (closes sign) depth cs
in_brackets (Some a) None depth cs = refl
in_brackets (Some a) (Some sign) depth cs = refl

-- no such at signs begin less text
shorter_at : (d : ℕ) (text more : List ℕ) → begins (64 ∷ d ∷ []) (64 ∷ (text ++ more)) ≡ false → begins (64 ∷ d ∷ []) (64 ∷ text) ≡ false
unfolding strip
shorter_at d [] more e = refl
shorter_at d (c ∷ text) more e = by (bytes_eq (64 ∷ c ∷ []) (64 ∷ d ∷ [])) e
  where
    by : (b : Bool) → is_some (if b then Some (drop 2 (64 ∷ c ∷ (text ++ more))) else None) ≡ false → is_some (if b then Some (drop 2 (64 ∷ c ∷ text)) else None) ≡ false
    by true e = absurd (cc)
    by false e = refl

-- the moment at which such a value is read, and what the pieces from there on say
abbrev Goes : Quote → List Context → Moment → List Piece → Type 0
Goes quote outer m ps = (depth : ℕ) (opened : List Opened) (text : List ℕ) → m.contexts ≡ In quote depth outer → arounds m.opened ≡ arounds opened → Says (counted ps) text → Through quote depth opened text m.rest

-- outside brackets
outside_goes : (quote : Quote) (outer : List Context) (m n : Moment) (p : Piece) (ps : List Piece) (opened : List Opened) (text : List ℕ) (o : Option Found) → TextGoes quote m.rest o → stepped m o ≡ Some (p, n)
    → m.contexts ≡ In quote 0 outer → arounds m.opened ≡ arounds opened → Says (counted (p ∷ ps)) text → Goes quote outer n ps → Through quote 0 opened text m.rest
outside_goes quote outer m n p ps opened text _ steps.nothing e here alike says later = absurd (cc)
outside_goes quote outer m n p ps opened text _ steps.ends e here alike says later =
    let to = made m k.ValueEnd 1 leaves p n e in
    let none = says_end p ps text to.kind_is says in
    subst (λ z. Through quote 0 opened z m.rest) (sym none) (record { more = m.rest; whole = refl; ends = ends_empty quote opened })
outside_goes quote outer m n p ps opened text _ (steps.two rest laid) e here alike says later =
    let to = made m (k.Literal (64 ∷ 64 ∷ [])) 2 stays p n e in
    let parts = says_literal p ps (64 ∷ 64 ∷ []) text to.kind_is says in
    let next = later 0 opened parts.later (to.contexts ∙ here) (ap arounds to.opened ∙ alike) parts.says in
    let behind_it : rest ≡ parts.later ++ next.more = sym (ap (drop 2) laid) ∙ sym to.rest ∙ next.whole in
    subst (λ z. Through quote 0 opened z m.rest) (sym parts.is)
    (record { more = next.more; whole = laid ∙ ap (λ z. 64 ∷ 64 ∷ z) behind_it; ends = ends_two quote opened parts.later next.ends })
outside_goes quote outer m n p ps opened text _ (steps.bracket rest laid) e here alike says later =
    let to = made m (k.Literal (64 ∷ 40 ∷ [])) 2 (enters (x.Bracket None true)) p n e in
    let parts = says_literal p ps (64 ∷ 40 ∷ []) text to.kind_is says in
    let next = later 1 opened parts.later (to.contexts ∙ ap (λ z. x.Bracket None true ∷ z) here) (ap arounds to.opened ∙ alike) parts.says in
    let behind_it : rest ≡ parts.later ++ next.more = sym (ap (drop 2) laid) ∙ sym to.rest ∙ next.whole in
    subst (λ z. Through quote 0 opened z m.rest) (sym parts.is)
    (record { more = next.more; whole = laid ∙ ap (λ z. 64 ∷ 40 ∷ z) behind_it; ends = ends_bracket quote opened parts.later next.ends })
outside_goes quote outer m n p ps opened text _ (steps.one rest laid two bracket) e here alike says later =
    let to = made m (k.Literal (64 ∷ [])) 1 stays p n e in
    let parts = says_literal p ps (64 ∷ []) text to.kind_is says in
    let next = later 0 opened parts.later (to.contexts ∙ here) (ap arounds to.opened ∙ alike) parts.says in
    let behind_it : rest ≡ parts.later ++ next.more = sym (ap (drop 1) laid) ∙ sym to.rest ∙ next.whole in
    let whole : m.rest ≡ 64 ∷ (parts.later ++ next.more) = laid ∙ ap (λ z. 64 ∷ z) behind_it in
    let no_two = shorter_at 64 parts.later next.more (ap (begins (codes "@@")) (sym whole) ∙ two) in
    let no_bracket = shorter_at 40 parts.later next.more (ap (begins (codes "@(")) (sym whole) ∙ bracket) in
    subst (λ z. Through quote 0 opened z m.rest) (sym parts.is) (record { more = next.more; whole = whole; ends = ends_at quote opened parts.later no_two no_bracket next.ends })
outside_goes quote outer m n p ps opened text _ (steps.plain count all) e here alike says later =
    let x = take count m.rest in
    let to = made m (k.Literal x) count stays p n e in
    let parts = says_literal p ps x text to.kind_is says in
    let next = later 0 opened parts.later (to.contexts ∙ here) (ap arounds to.opened ∙ alike) parts.says in
    let whole : m.rest ≡ (x ++ parts.later) ++ next.more =
    sym (take-append-drop count m.rest) ∙ ap (λ z. x ++ z) (sym to.rest ∙ next.whole) ∙ sym (append_assoc x parts.later next.more) in
    subst (λ z. Through quote 0 opened z m.rest) (sym parts.is) (record { more = next.more; whole = whole; ends = ends_plain quote opened x parts.later all next.ends })

-- in brackets
inside_goes : (quote : Quote) (outer : List Context) (m n : Moment) (p : Piece) (ps : List Piece) (depth : ℕ) (opened : List Opened) (text : List ℕ) (o : Option Found) → RawGoes (innermost m.opened) m.rest o → stepped m o ≡ Some (p, n)
    → m.contexts ≡ In quote (suc depth) outer → arounds m.opened ≡ arounds opened → Says (counted (p ∷ ps)) text → Goes quote outer n ps → Through quote (suc depth) opened text m.rest
inside_goes quote outer m n p ps depth opened text _ steps.nothing e here alike says later = absurd (cc)
inside_goes quote outer m n p ps depth opened text _ (steps.some token count front rest laid front_is rest_is stands) e here alike says later =
    let around = innermost m.opened in
    let same = alike_innermost m.opened opened alike in
    let change = with_sign (sign_of token) (bracket_change None true around (sign_of token)) in
    let to = made m (k.Literal (take count m.rest)) count change p n e in
    let parts = says_literal p ps (take count m.rest) text to.kind_is says in
    let there : n.contexts ≡ In quote (depth_behind around (sign_of token) (suc depth)) outer =
    to.contexts ∙ ap (changed change) here ∙ in_brackets around (sign_of token) depth (x.Value held.Text (Some quote) ∷ outer) in
    let next = later (depth_behind around (sign_of token) (suc depth)) (behind_kind token first_place opened) parts.later there (ap arounds to.opened ∙ alike_behind token (place_after m.before) m.opened opened alike) parts.says in
    let behind_it : rest ≡ parts.later ++ next.more = sym rest_is ∙ sym to.rest ∙ next.whole in
    let said : text ≡ front ++ parts.later = parts.is ∙ ap (λ z. z ++ parts.later) front_is in
    let stands_here = subst (λ a. Stands a token front (parts.later ++ next.more)) same (subst (λ z. Stands around token front z) behind_it stands) in
    let ends_here = subst (λ a. Ends quote (depth_behind a (sign_of token) (suc depth)) (behind_kind token first_place opened) parts.later) same next.ends in
    subst (λ z. Through quote (suc depth) opened z m.rest) (sym said)
    (record {
      more = next.more;
      whole = laid ∙ ap (λ z. front ++ z) behind_it ∙ sym (append_assoc front parts.later next.more);
      ends = ends_inside quote depth opened front parts.later next.more token stands_here ends_here;
    })

-- what is found there
found_outside : (quote : Quote) (outer : List Context) (m : Moment) → m.contexts ≡ In quote 0 outer → found_at m ≡ text_at quote m.rest
found_outside quote outer m here = ap (λ cs. found_in (contexts.innermost cs) m.line (innermost m.opened) (last_of m.before) m.rest) here

found_inside : (quote : Quote) (outer : List Context) (depth : ℕ) (m : Moment) → m.contexts ≡ In quote (suc depth) outer → found_at m ≡ bracket_at None true (innermost m.opened) m.rest
found_inside quote outer depth m here = ap (λ cs. found_in (contexts.innermost cs) m.line (innermost m.opened) (last_of m.before) m.rest) here

one_step : (quote : Quote) (outer : List Context) (m n : Moment) (p : Piece) (ps : List Piece) → Step m p n → Goes quote outer n ps → Goes quote outer m (p ∷ ps)
one_step quote outer m n p ps first later zero opened text here alike says =
    outside_goes quote outer m n p ps opened text (text_at quote m.rest) (text_goes quote m.rest) (ap (stepped m) (sym (found_outside quote outer m here)) ∙ step_found m p n first) here alike says later
one_step quote outer m n p ps first later (suc depth) opened text here alike says =
    inside_goes quote outer m n p ps depth opened text (bracket_at None true (innermost m.opened) m.rest) (raw_goes (innermost m.opened) m.rest)
    (ap (stepped m) (sym (found_inside quote outer depth m here)) ∙ step_found m p n first) here alike says later

pub text_through : (quote : Quote) (outer : List Context) (m n : Moment) (ps : List Piece) → Walk Step m ps n → Goes quote outer m ps
text_through quote outer _ _ _ (stay m) depth opened text here alike says = absurd (says_nothing text says)
text_through quote outer _ n _ (go m middle _ p ps first others) depth opened text here alike says = one_step quote outer m middle p ps first (text_through quote outer middle n ps others) depth opened text here alike says
