-- The same in every context.
use Rattle.std.proofs.Common.{◌≡◌, ℕ, Bool, true, false, List, [], ◌∷◌, take, drop, Some, None, refl}
use Rattle.std.specs.Prelude.{◌==◌, codes, if◌then◌else◌}
use Rattle.std.specs.declared.option.Option.{Option}
use Rattle.std.proofs.lemmas.Bool.{false≢true}
use Rattle.cs_token.specs.declared.around.Around.{Around}
use Rattle.cs_token.specs.declared.token.TokenKind.{TokenKind}
use Rattle.cs_token.specs.declared.token.TokenKind.TheVariants as t
use Rattle.cs_token.specs.declared.token.Sign.{Sign}
use Rattle.cs_token.specs.declared.token.Sign.TheVariants as s
use Rattle.razor_token.specs.declared.context.Change.{Change}
use Rattle.razor_token.specs.declared.context.Context.{Context}
use Rattle.razor_token.specs.declared.context.Context.TheVariants as x
use Rattle.razor_token.specs.declared.context.Held.TheVariants as held
use Rattle.razor_token.specs.declared.context.Holds.{Holds}
use Rattle.razor_token.specs.declared.context.Holds.TheVariants as h
use Rattle.razor_token.specs.declared.context.Point.{Point}
use Rattle.razor_token.specs.declared.context.Point.TheVariants as point
use Rattle.razor_token.specs.declared.context.Wanted.{Wanted}
use Rattle.razor_token.specs.declared.context.Wanted.TheVariants as wanted
use Rattle.razor_token.specs.declared.found.CodeFront.{CodeFront}
use Rattle.razor_token.specs.declared.piece.PieceKind.{PieceKind}
use Rattle.razor_token.specs.declared.piece.PieceKind.TheVariants as k
use Rattle.razor_token.specs.declared.piece.Quote.{Quote}
use Rattle.razor_token.specs.BlockFronts.{block_at_sign, block_at}
use Rattle.razor_token.specs.CodeFronts.{code_front, opening_at, name_piece, name_at, chain_at, members_piece, members_at}
use Rattle.razor_token.specs.ContentFronts.{comment_to, shown_at, top_word, word_at, transition_at, at_sign, tag_of, end_tag_of, tag_sign, content_at, line_at}
use Rattle.razor_token.specs.Contexts.{changed, innermost, stays, enters}
use Rattle.razor_token.specs.Cutting.{found_in}
use Rattle.razor_token.specs.Directives.{named_directive, page_text, page_directive, implements_directive, line_end, directive_at}
use Rattle.razor_token.specs.Pieces.{piece, literal}
use Rattle.razor_token.specs.Runs.{begins}
use Rattle.razor_token.specs.Tags.{held_by}
use Rattle.razor_token.specs.TagFronts.{attribute_of, start_tag_at, end_tag_at}
use Rattle.razor_token.specs.ValueFronts.{quoted_change, bare_change, quoted_start, named_at, code_lead_at, shown_lead_at, shown_in, mixed_at, text_at, bare_text_at}
use Rattle.printable_texts.proofs.Calm.{is_calm, keeps_calm, KindLeads}
use Rattle.printable_texts.proofs.CalmCode.{Finds, nothing, something, choose, in_bracket, in_head, in_statement, in_code_value, in_bare_code}

plain : (cs : List Context) (text : List ℕ) (kind : PieceKind) (count : ℕ) (change : Change) → KindLeads None text kind change.sign count → keeps_calm None change.sign (changed change cs) ≡ true → Finds cs None text (piece kind count change)
plain cs text kind count change h calm = something kind count change h calm

name_found : (cs : List Context) (text : List ℕ) (change : Change) (o : Option CodeFront) → keeps_calm None change.sign (changed change cs) ≡ true → Finds cs None text (name_piece change o)
name_found cs text change None calm = nothing
name_found cs text change (Some front) calm = go front.token
  where
    kinds : (kind : TokenKind) → Finds cs None text (name_piece change (Some (record { token = Some kind; count = front.count })))
    kinds (t.Name name) = something _ _ change tt calm
    kinds _ = nothing

    go : (token : Option TokenKind) → Finds cs None text (name_piece change (Some (record { token = token; count = front.count })))
    go None = nothing
    go (Some kind) = kinds kind

members_found : (cs : List Context) (text : List ℕ) (o : Option CodeFront) → Finds (x.Members ∷ cs) None text (members_piece o)
members_found cs text None = nothing
members_found cs text (Some front) = go front.token
  where
    signs : (sign : Sign) → Finds (x.Members ∷ cs) None text (members_piece (Some (record { token = Some (t.Sign sign); count = front.count })))
    signs s.OpenBrace = something _ _ _ (refl, refl) refl
    signs _ = nothing

    kinds : (kind : TokenKind) → Finds (x.Members ∷ cs) None text (members_piece (Some (record { token = Some kind; count = front.count })))
    kinds (t.Sign sign) = signs sign
    kinds _ = nothing

    go : (token : Option TokenKind) → Finds (x.Members ∷ cs) None text (members_piece (Some (record { token = token; count = front.count })))
    go None = something _ _ _ (refl, refl) refl
    go (Some kind) = kinds kind

in_members : (cs : List Context) (text : List ℕ) → Finds (x.Members ∷ cs) None text (members_at text)
unfolding members_at
in_members cs text = members_found cs text (code_front None text)

in_name : (cs : List Context) (quote : Option Quote) (text : List ℕ) → Finds (x.Name quote ∷ cs) None text (name_at quote text)
unfolding name_at
in_name cs quote text = name_found _ text _ (code_front None text) refl

in_chain : (cs : List Context) (quote : Option Quote) (text : List ℕ) → Finds (x.Chain quote ∷ cs) None text (chain_at quote text)
unfolding chain_at
in_chain cs quote text = search (choose, plain, something) depth 9

in_opening : (cs : List Context) (text : List ℕ) → Finds (x.Opening ∷ cs) None text (opening_at text)
unfolding opening_at
in_opening cs text = search (choose, nothing, plain, something) depth 9

-- directives
line_end_found : (cs : List Context) (text : List ℕ) → Finds cs None text (line_end text)
line_end_found cs text = search (choose, nothing, plain, something) depth 9

in_directive : (cs : List Context) (wanted_so : Wanted) (text : List ℕ) → Finds (x.Directive wanted_so ∷ cs) None text (directive_at wanted_so text)
unfolding directive_at
in_directive cs wanted.Name text = name_found _ text _ (code_front None text) refl
in_directive cs wanted.Dot text = search (choose, plain, something, line_end_found) depth 9
in_directive cs wanted.End text = line_end_found _ text

-- content
literal_found : (cs : List Context) (count : ℕ) (text : List ℕ) → Finds cs None text (literal count text)
literal_found cs count text = search (choose, nothing, plain, something) depth 9

comment_found : (cs : List Context) (text : List ℕ) (o : Option ℕ) → Finds cs None text (comment_to o)
comment_found cs text None = nothing
comment_found cs text (Some count) = something _ _ _ (refl, refl) refl

shown_found : (cs : List Context) (text : List ℕ) → Finds cs None text (shown_at text)
shown_found cs text = search (choose, nothing, plain, something) depth 9

named_found : (cs : List Context) (count : ℕ) (text : List ℕ) → Finds cs None text (named_directive count text)
named_found cs count text = search (choose, nothing, plain, something) depth 9

page_text_found : (cs : List Context) (count : ℕ) (text : List ℕ) → Finds cs None text (page_text count text)
page_text_found cs count text = search (choose, nothing, plain, something) depth 9

page_found : (cs : List Context) (text : List ℕ) → Finds cs None text (page_directive text)
page_found cs text = search (choose, nothing, page_text_found) depth 9

implements_found : (cs : List Context) (text : List ℕ) → Finds cs None text (implements_directive text)
implements_found cs text = search (choose, nothing, plain, something) depth 9

top_found : (cs : List Context) (word text : List ℕ) → Finds cs None text (top_word word text)
top_found cs word text = search (choose, plain, something, implements_found, page_found, named_found, shown_found) depth 9

word_found : (cs : List Context) (context : Option Context) (word text : List ℕ) → Finds cs None text (word_at context word text)
word_found cs context word text = search (choose, plain, something, top_found, shown_found) depth 9

transition_found : (cs : List Context) (context : Option Context) (text : List ℕ) → Finds cs None text (transition_at context text)
unfolding transition_at
transition_found cs context text = search (choose, plain, something, word_found) depth 9

at_found : (cs : List Context) (context : Option Context) (last : Option ℕ) (text : List ℕ) → Finds cs None text (at_sign context last text)
unfolding at_sign
at_found cs context last text = search (choose, plain, something, comment_found, transition_found) depth 9

tag_found : (cs : List Context) (count : ℕ) (text : List ℕ) → Finds cs None text (tag_of count text)
tag_found cs count text = search (choose, nothing, plain, something) depth 9

end_tag_found : (cs : List Context) (count : ℕ) (text : List ℕ) → Finds cs None text (end_tag_of count text)
end_tag_found cs count text = search (choose, nothing, plain, something) depth 9

tag_sign_found : (cs : List Context) (context : Option Context) (text : List ℕ) → Finds cs None text (tag_sign context text)
unfolding tag_sign
tag_sign_found cs context text = search (choose, nothing, comment_found, end_tag_found, tag_found) depth 9

in_content : (cs : List Context) (context : Option Context) (last : Option ℕ) (text : List ℕ) → Finds cs None text (content_at context last text)
unfolding content_at
in_content cs context last text = search (choose, at_found, tag_sign_found, literal_found) depth 9

in_line : (cs : List Context) (last : Option ℕ) (text : List ℕ) → Finds cs None text (line_at last text)
unfolding line_at
in_line cs last text = search (choose, plain, something, in_content) depth 9

-- tags
attribute_found : (cs : List Context) (component : Bool) (count : ℕ) (text : List ℕ) → Finds cs None text (attribute_of component count text)
attribute_found cs component count text = choose cs None text (count == 0) None _ nothing (valued (begins (codes "=") (drop count text)))
  where
    valued : (b : Bool) → Finds cs None text (piece (k.AttributeName (take count text)) count (if b then enters (x.Named (held_by component (take count text))) else stays))
    valued true = something _ _ _ tt refl
    valued false = something _ _ _ tt refl

in_start_tag : (cs : List Context) (component void : Bool) (text : List ℕ) → Finds cs None text (start_tag_at component void text)
unfolding start_tag_at
in_start_tag cs component void text = search (choose, plain, something, attribute_found) depth 9

in_end_tag : (cs : List Context) (text : List ℕ) → Finds cs None text (end_tag_at text)
unfolding end_tag_at
in_end_tag cs text = search (choose, nothing, plain, something) depth 9

-- values
quoted_found : (cs : List Context) (holds : Holds) (quote : Quote) (text : List ℕ) → Finds cs None text (quoted_start holds quote text)
quoted_found cs holds quote text = by holds (begins (codes "@") (drop 2 text))
  where
    by : (holds : Holds) (at : Bool) → Finds cs None text (piece (k.ValueStart (Some quote)) 2 (quoted_change holds quote at))
    by h.Mixed at = something _ _ _ tt refl
    by h.Text at = something _ _ _ tt refl
    by h.Code at = something _ _ _ tt refl
    by h.Supplied false = something _ _ _ tt refl
    by h.Supplied true = something _ _ _ tt refl
    by h.Event false = something _ _ _ tt refl
    by h.Event true = something _ _ _ tt refl

bare_found : (cs : List Context) (holds : Holds) (text : List ℕ) (at : Bool) → Finds cs None text (piece (k.ValueStart None) 1 (bare_change holds at))
bare_found cs h.Code text at = something _ _ _ tt refl
bare_found cs h.Event text false = something _ _ _ tt refl
bare_found cs h.Event text true = something _ _ _ tt refl
bare_found cs h.Text text at = something _ _ _ tt refl
bare_found cs h.Mixed text false = something _ _ _ tt refl
bare_found cs h.Mixed text true = something _ _ _ tt refl
bare_found cs h.Supplied text false = something _ _ _ tt refl
bare_found cs h.Supplied text true = something _ _ _ tt refl

in_named : (cs : List Context) (holds : Holds) (text : List ℕ) → Finds cs None text (named_at holds text)
unfolding named_at
in_named cs holds text = search (choose, nothing, quoted_found, bare_found) depth 9

shown_in_found : (cs : List Context) (quote : Quote) (text : List ℕ) → Finds cs None text (shown_in quote text)
shown_in_found cs quote text = search (choose, nothing, plain, something) depth 9

in_mixed : (cs : List Context) (quote : Quote) (last : Option ℕ) (text : List ℕ) → Finds cs None text (mixed_at quote last text)
unfolding mixed_at
in_mixed cs quote last text = search (choose, plain, something, shown_in_found, literal_found) depth 9

in_text : (cs : List Context) (quote : Quote) (text : List ℕ) → Finds cs None text (text_at quote text)
unfolding text_at
in_text cs quote text = search (choose, plain, something, literal_found) depth 9

in_bare_text : (cs : List Context) (text : List ℕ) → Finds cs None text (bare_text_at text)
unfolding bare_text_at
in_bare_text cs text = search (choose, nothing, plain, something) depth 9

in_code_lead : (cs : List Context) (text : List ℕ) → Finds cs None text (code_lead_at text)
unfolding code_lead_at
in_code_lead cs text = search (choose, nothing, plain, something) depth 9

in_shown_lead : (cs : List Context) (text : List ℕ) → Finds cs None text (shown_lead_at text)
unfolding shown_lead_at
in_shown_lead cs text = search (choose, nothing, plain, something) depth 9

-- blocks
block_sign_found : (cs : List Context) (line : Bool) (text : List ℕ) → Finds cs None text (block_at_sign line text)
unfolding block_at_sign
block_sign_found cs line text = search (choose, nothing, plain, something, shown_found) depth 9

in_block : (cs : List Context) (line : Bool) (at : Point) (with_else : Bool) (around : Option Around) (text : List ℕ) → is_calm (x.Block at with_else ∷ cs) around ≡ true → Finds (x.Block at with_else ∷ cs) around text (block_at line at with_else around text)
unfolding block_at
in_block cs line point.Begins with_else None text calm = let code = in_statement cs point.Begins with_else None text calm in search (choose, block_sign_found, tag_found, code) depth 9
in_block cs line point.Begins with_else (Some a) text calm = absurd (false≢true calm)
in_block cs line point.Within with_else around text calm = in_statement cs point.Within with_else around text calm
in_block cs line point.BehindWith with_else around text calm = in_statement cs point.BehindWith with_else around text calm

-- in any context
pub all_found : (cs : List Context) (line : Bool) (around : Option Around) (last : Option ℕ) (text : List ℕ) → is_calm cs around ≡ true → Finds cs around text (found_in (innermost cs) line around last text)
all_found (x.Bracket quote raw ∷ cs) line around last text calm = in_bracket cs quote raw around text
all_found (x.Head with_else ∷ cs) line around last text calm = in_head cs with_else around text
all_found (x.Block at with_else ∷ cs) line around last text calm = in_block cs line at with_else around text calm
all_found (x.Value held.Code (Some quote) ∷ cs) line around last text calm = in_code_value cs quote around text
all_found (x.Value held.Code None ∷ cs) line around last text calm = in_bare_code cs around text
all_found [] line None last text calm = in_content [] None last text
all_found (x.Element ∷ cs) line None last text calm = in_content _ (Some x.Element) last text
all_found (x.Line ∷ cs) line None last text calm = in_line _ last text
all_found (x.StartTag component void ∷ cs) line None last text calm = in_start_tag _ component void text
all_found (x.EndTag ∷ cs) line None last text calm = in_end_tag _ text
all_found (x.Named holds ∷ cs) line None last text calm = in_named _ holds text
all_found (x.Value held.Mixed (Some quote) ∷ cs) line None last text calm = in_mixed _ quote last text
all_found (x.Value held.Mixed None ∷ cs) line None last text calm = nothing
all_found (x.Value held.Text (Some quote) ∷ cs) line None last text calm = in_text _ quote text
all_found (x.Value held.Text None ∷ cs) line None last text calm = in_bare_text _ text
all_found (x.Value held.Ended quote ∷ cs) line None last text calm = something _ _ _ tt refl
all_found (x.CodeLead ∷ cs) line None last text calm = in_code_lead _ text
all_found (x.ShownLead ∷ cs) line None last text calm = in_shown_lead _ text
all_found (x.Opening ∷ cs) line None last text calm = in_opening cs text
all_found (x.Name quote ∷ cs) line None last text calm = in_name cs quote text
all_found (x.Chain quote ∷ cs) line None last text calm = in_chain cs quote text
all_found (x.Closing ∷ cs) line None last text calm = something _ _ _ tt refl
all_found (x.Members ∷ cs) line None last text calm = in_members cs text
all_found (x.Directive wanted_so ∷ cs) line None last text calm = in_directive cs wanted_so text
all_found _ line (Some a) last text calm = absurd (false≢true calm)
