-- What is found at the front of a text is sound, in each context.
use Rattle.std.proofs.Common.{◌≡◌, ℕ, Bool, true, false, List, [], ◌∷◌, drop, Some, None, Ok, Err, refl, sym, subst, arith}
use Rattle.std.specs.declared.option.Option.{Option}
use Rattle.std.specs.Prelude.{◌==◌, if◌then◌else◌}
use Rattle.cs_token.specs.declared.around.Around.{Around}
use Rattle.cs_token.specs.declared.fault.Cause.TheVariants.{UnendedText}
use Rattle.cs_token.specs.declared.token.TokenKind.{TokenKind}
use Rattle.cs_token.specs.declared.token.TokenKind.TheVariants as t
use Rattle.cs_token.specs.declared.token.Sign.{Sign}
use Rattle.cs_token.specs.declared.token.Sign.TheVariants as s
use Rattle.cs_token.specs.Lexemes.{Stands}
use Rattle.cs_token.specs.Wrong as wrong
use Rattle.cs_token.specs.Reading.Fronts.{Read, front_at}
use Rattle.cs_token.proofs.ExactLemmas.{wrong-again, nothing_there}
use Rattle.cs_token.proofs.SoundLemmas.{Sound, front-sound}
use Rattle.cs_print.proofs.CodeKinds as c
use Rattle.cs_print.proofs.ProperLemmas.{is-lexeme}
use Rattle.razor_token.specs.declared.context.Change.{Change}
use Rattle.razor_token.specs.declared.context.Context.{Context}
use Rattle.razor_token.specs.declared.context.Context.TheVariants as x
use Rattle.razor_token.specs.declared.context.Held.{Held}
use Rattle.razor_token.specs.declared.context.Held.TheVariants as held
use Rattle.razor_token.specs.declared.context.Holds.{Holds}
use Rattle.razor_token.specs.declared.context.Point.{Point}
use Rattle.razor_token.specs.declared.context.Wanted.{Wanted}
use Rattle.razor_token.specs.declared.context.Wanted.TheVariants as wanted
use Rattle.razor_token.specs.declared.found.CodeFront.{CodeFront}
use Rattle.razor_token.specs.declared.found.Found.{Found}
use Rattle.razor_token.specs.declared.piece.PieceKind.{PieceKind}
use Rattle.razor_token.specs.declared.piece.Quote.{Quote}
use Rattle.razor_token.specs.declared.runs.RunKind.TheVariants as r
use Rattle.razor_token.specs.BlockFronts.{head_piece, head_at, statement_piece, statement_at, block_at_sign, block_at}
use Rattle.razor_token.specs.CodeFronts.{front_of, code_front, where_it, code_kind, code_piece, bracket_piece, bracket_at, opening_at, name_piece, name_at, chain_at, members_piece, members_at, code_in, keeps_bare}
use Rattle.razor_token.specs.ContentFronts.{comment_to, shown_at, top_word, word_at, transition_at, at_sign, tag_of, end_tag_of, tag_sign, content_at, line_at}
use Rattle.razor_token.specs.Cutting.{found_in}
use Rattle.razor_token.specs.Directives.{named_directive, page_text, page_directive, implements_directive, line_end, directive_at}
use Rattle.razor_token.specs.Pieces.{piece, literal}
use Rattle.razor_token.specs.Runs.{run}
use Rattle.razor_token.specs.TagFronts.{name_count, attribute_of, start_tag_at, end_tag_at}
use Rattle.razor_token.specs.ValueFronts.{named_at, code_lead_at, shown_lead_at, shown_in, mixed_at, text_at, bare_text_at, plain_code, code_value_at, bare_code_at, value_at}
use Rattle.printed_pieces.specs.Sound.{IsSound}
use Rattle.printed_pieces.specs.Written.{IsLexeme}
use Rattle.printed_pieces.proofs.SoundNames.{tag-sound, attribute-sound}

-- what was found, if anything, is sound
pub data Finds : Option Found → Type 0 where
  nothing : Finds None
  something : (found : Found) → IsSound found.kind → Finds (Some found)

plain : (kind : PieceKind) (count : ℕ) (change : Change) → IsSound kind → Finds (piece kind count change)
plain kind count change h = something (record { kind = kind; count = count; change = change }) h

choose : (b : Bool) (x y : Option Found) → Finds x → Finds y → Finds (if b then x else y)
choose true x y h i = h
choose false x y h i = i

-- the same where the second is asked only where the test fails
unless : (b : Bool) (y : Option Found) → (b ≡ false → Finds y) → Finds (if b then None else y)
unless true y h = nothing
unless false y h = h refl

-- tokens

abbrev Token : Option TokenKind → Type 0
Token None = Unit {0}
Token (Some kind) = IsLexeme kind

abbrev Fronts : Option CodeFront → Type 0
Fronts None = Unit {0}
Fronts (Some front) = Token front.token

back : (kind : TokenKind) → c.IsLexeme kind → IsLexeme kind
back (t.Name x) h = h
back (t.Number i) h = h
back (t.Part x) h = h
back _ h = tt

front_nothing : (around : Option Around) → front_at around [] ≡ Err (UnendedText, [])
front_nothing None = nothing_there None
front_nothing (Some a) = wrong-again (Some a) UnendedText [] [] (wrong.unended_line (Some a) [] refl refl)

stands-sound : (around : Option Around) (kind : Option TokenKind) (here rest : List ℕ) → Stands around kind here rest → Token kind
stands-sound around None here rest h = tt
stands-sound around (Some kind) here rest h = back kind (is-lexeme around kind here rest h)

read-sound : (around : Option Around) (text : List ℕ) (found : Read) → Sound around text found → Fronts (front_of text found)
read-sound around text (Err fault) h = tt
read-sound around text (Ok found) h = stands-sound around found.0 h.here found.1 h.stands

front-finds : (around : Option Around) (text : List ℕ) → Fronts (code_front around text)
unfolding code_front
front-finds around [] = subst (λ z. Fronts (front_of [] z)) (sym (front_nothing around)) tt
front-finds around (d ∷ text) = read-sound around (d ∷ text) (front_at around (d ∷ text)) (front-sound around (d ∷ text) (omega arith))

where-finds : (test : CodeFront → Bool) (o : Option CodeFront) → Fronts o → Fronts (where_it test o)
where-finds test None h = tt
where-finds test (Some front) h = go (test front)
  where
    go : (b : Bool) → Fronts (if b then Some front else None)
    go true = h
    go false = tt

kind-sound : (token : Option TokenKind) → Token token → IsSound (code_kind token)
kind-sound None h = tt
kind-sound (Some kind) h = h

piece-finds : (front : CodeFront) (change : Change) → Token front.token → Finds (code_piece front change)
piece-finds front change h = something _ (kind-sound front.token h)

bracket-finds : (quote : Option Quote) (raw : Bool) (around : Option Around) (text : List ℕ) (o : Option CodeFront) → Fronts o → Finds (bracket_piece quote raw around text o)
bracket-finds quote raw around text None h = nothing
bracket-finds quote true around text (Some front) h = something _ tt
bracket-finds quote false around text (Some front) h = something _ (kind-sound front.token h)

in-bracket : (quote : Option Quote) (raw : Bool) (around : Option Around) (text : List ℕ) → Finds (bracket_at quote raw around text)
unfolding bracket_at
in-bracket quote raw around text = bracket-finds quote raw around text (code_in quote around text) (where-finds _ (code_front around text) (front-finds around text))

head-finds : (with_else : Bool) (around : Option Around) (o : Option CodeFront) → Fronts o → Finds (head_piece with_else around o)
head-finds with_else around None h = nothing
head-finds with_else around (Some front) h = something _ (kind-sound front.token h)

in-head : (with_else : Bool) (around : Option Around) (text : List ℕ) → Finds (head_at with_else around text)
unfolding head_at
in-head with_else around text = head-finds with_else around (code_front around text) (front-finds around text)

statement-finds : (at : Point) (with_else : Bool) (around : Option Around) (text : List ℕ) (o : Option CodeFront) → Fronts o → Finds (statement_piece at with_else around text o)
statement-finds at with_else around text None h = nothing
statement-finds at with_else around text (Some front) h = something _ (kind-sound front.token h)

in-statement : (at : Point) (with_else : Bool) (around : Option Around) (text : List ℕ) → Finds (statement_at at with_else around text)
unfolding statement_at
in-statement at with_else around text = statement-finds at with_else around text (code_front around text) (front-finds around text)

name-token : (change : Change) (count : ℕ) (kind : TokenKind) → IsLexeme kind → Finds (name_piece change (Some (record { token = Some kind; count = count })))
name-token change count (t.Name name) h = something _ h
name-token change count _ h = nothing

name-finds : (change : Change) (o : Option CodeFront) → Fronts o → Finds (name_piece change o)
name-finds change None h = nothing
name-finds change (Some front) h = go front.token h
  where
    go : (token : Option TokenKind) → Token token → Finds (name_piece change (Some (record { token = token; count = front.count })))
    go None h = nothing
    go (Some kind) h = name-token change front.count kind h

members-sign : (count : ℕ) (sign : Sign) → Finds (members_piece (Some (record { token = Some (t.Sign sign); count = count })))
members-sign count s.OpenBrace = something _ tt
members-sign count _ = nothing

members-token : (count : ℕ) (kind : TokenKind) → Finds (members_piece (Some (record { token = Some kind; count = count })))
members-token count (t.Sign sign) = members-sign count sign
members-token count _ = nothing

members-finds : (o : Option CodeFront) → Finds (members_piece o)
members-finds None = nothing
members-finds (Some front) = go front.token
  where
    go : (token : Option TokenKind) → Finds (members_piece (Some (record { token = token; count = front.count })))
    go None = something _ tt
    go (Some kind) = members-token front.count kind

in-members : (text : List ℕ) → Finds (members_at text)
unfolding members_at
in-members text = members-finds (code_front None text)

in-name : (quote : Option Quote) (text : List ℕ) → Finds (name_at quote text)
unfolding name_at
in-name quote text = name-finds _ (code_front None text) (front-finds None text)

in-chain : (quote : Option Quote) (text : List ℕ) → Finds (chain_at quote text)
unfolding chain_at
in-chain quote text = search (choose, nothing, plain, something) depth 9

in-opening : (text : List ℕ) → Finds (opening_at text)
unfolding opening_at
in-opening text = search (choose, nothing, plain, something) depth 9

-- directives

line-end-finds : (text : List ℕ) → Finds (line_end text)
line-end-finds text = search (choose, nothing, plain, something) depth 9

in-directive : (wanted_so : Wanted) (text : List ℕ) → Finds (directive_at wanted_so text)
unfolding directive_at
in-directive wanted.Name text = name-finds _ (code_front None text) (front-finds None text)
in-directive wanted.Dot text = search (choose, nothing, plain, something, line-end-finds) depth 9
in-directive wanted.End text = line-end-finds text

-- content

literal-finds : (count : ℕ) (text : List ℕ) → Finds (literal count text)
literal-finds count text = search (choose, nothing, plain, something) depth 9

comment-finds : (o : Option ℕ) → Finds (comment_to o)
comment-finds None = nothing
comment-finds (Some count) = something _ tt

shown-finds : (text : List ℕ) → Finds (shown_at text)
shown-finds text = search (choose, nothing, plain, something) depth 9

named-finds : (count : ℕ) (text : List ℕ) → Finds (named_directive count text)
named-finds count text = search (choose, nothing, plain, something) depth 9

page-text-finds : (count : ℕ) (text : List ℕ) → Finds (page_text count text)
page-text-finds count text = search (choose, nothing, plain, something) depth 9

page-finds : (text : List ℕ) → Finds (page_directive text)
page-finds text = search (choose, nothing, plain, something, page-text-finds) depth 9

implements-finds : (text : List ℕ) → Finds (implements_directive text)
implements-finds text = search (choose, nothing, plain, something) depth 9

top-finds : (word text : List ℕ) → Finds (top_word word text)
top-finds word text = search (choose, nothing, plain, something, implements-finds, page-finds, named-finds, shown-finds) depth 9

word-finds : (context : Option Context) (word text : List ℕ) → Finds (word_at context word text)
word-finds context word text = search (choose, nothing, plain, something, top-finds, shown-finds) depth 9

transition-finds : (context : Option Context) (text : List ℕ) → Finds (transition_at context text)
unfolding transition_at
transition-finds context text = search (choose, nothing, plain, something, word-finds) depth 9

at-finds : (context : Option Context) (last : Option ℕ) (text : List ℕ) → Finds (at_sign context last text)
unfolding at_sign
at-finds context last text = search (choose, nothing, plain, something, comment-finds, transition-finds) depth 9

tag-finds : (text : List ℕ) → Finds (tag_of (run r.TagName (drop 1 text)) text)
tag-finds text = unless (run r.TagName (drop 1 text) == 0) _ (λ e. something _ (tag-sound (drop 1 text) e))

end-tag-finds : (text : List ℕ) → Finds (end_tag_of (run r.TagName (drop 2 text)) text)
end-tag-finds text = unless (run r.TagName (drop 2 text) == 0) _ (λ e. something _ (tag-sound (drop 2 text) e))

tag-sign-finds : (context : Option Context) (text : List ℕ) → Finds (tag_sign context text)
unfolding tag_sign
tag-sign-finds context text = search (choose, nothing, plain, something, comment-finds, end-tag-finds, tag-finds) depth 9

in-content : (context : Option Context) (last : Option ℕ) (text : List ℕ) → Finds (content_at context last text)
unfolding content_at
in-content context last text = search (choose, nothing, plain, something, at-finds, tag-sign-finds, literal-finds) depth 9

in-line : (last : Option ℕ) (text : List ℕ) → Finds (line_at last text)
unfolding line_at
in-line last text = search (choose, nothing, plain, something, in-content) depth 9

-- tags

attribute-finds : (component : Bool) (text : List ℕ) → Finds (attribute_of component (name_count text) text)
attribute-finds component text = unless (name_count text == 0) _ (λ e. something _ (attribute-sound text e))

in-start-tag : (component void : Bool) (text : List ℕ) → Finds (start_tag_at component void text)
unfolding start_tag_at
in-start-tag component void text =
    let h = attribute-finds component text in
    search (choose, nothing, plain, something, h) depth 9

in-end-tag : (text : List ℕ) → Finds (end_tag_at text)
unfolding end_tag_at
in-end-tag text = search (choose, nothing, plain, something) depth 9

-- values

in-named : (holds : Holds) (text : List ℕ) → Finds (named_at holds text)
unfolding named_at
in-named holds text = search (choose, nothing, plain, something) depth 9

plain-finds : (o : Option CodeFront) → Fronts o → Finds (plain_code o)
plain-finds None h = nothing
plain-finds (Some front) h = something _ (kind-sound front.token h)

shown-in-finds : (quote : Quote) (text : List ℕ) → Finds (shown_in quote text)
shown-in-finds quote text = search (choose, nothing, plain, something) depth 9

in-mixed : (quote : Quote) (last : Option ℕ) (text : List ℕ) → Finds (mixed_at quote last text)
unfolding mixed_at
in-mixed quote last text = search (choose, nothing, plain, something, shown-in-finds, literal-finds) depth 9

in-text : (quote : Quote) (text : List ℕ) → Finds (text_at quote text)
unfolding text_at
in-text quote text = search (choose, nothing, plain, something, literal-finds) depth 9

in-bare-text : (text : List ℕ) → Finds (bare_text_at text)
unfolding bare_text_at
in-bare-text text = search (choose, nothing, plain, something) depth 9

in-code-value : (quote : Quote) (around : Option Around) (text : List ℕ) → Finds (code_value_at quote around text)
unfolding code_value_at
in-code-value quote around text =
    let h = plain-finds (code_in (Some quote) around text) (where-finds _ (code_front around text) (front-finds around text)) in
    search (choose, nothing, plain, something, h) depth 9

in-bare-code : (around : Option Around) (text : List ℕ) → Finds (bare_code_at around text)
unfolding bare_code_at
in-bare-code around text =
    let h = plain-finds (where_it (keeps_bare text) (code_front around text)) (where-finds (keeps_bare text) (code_front around text) (front-finds around text)) in
    search (choose, nothing, plain, something, h) depth 9

in-value : (holds : Held) (quote : Option Quote) (around : Option Around) (last : Option ℕ) (text : List ℕ) → Finds (value_at holds quote around last text)
in-value held.Mixed (Some quote) around last text = in-mixed quote last text
in-value held.Mixed None around last text = nothing
in-value held.Text (Some quote) around last text = in-text quote text
in-value held.Text None around last text = in-bare-text text
in-value held.Code (Some quote) around last text = in-code-value quote around text
in-value held.Code None around last text = in-bare-code around text
in-value held.Ended quote around last text = something _ tt

in-code-lead : (text : List ℕ) → Finds (code_lead_at text)
unfolding code_lead_at
in-code-lead text = search (choose, nothing, plain, something) depth 9

in-shown-lead : (text : List ℕ) → Finds (shown_lead_at text)
unfolding shown_lead_at
in-shown-lead text = search (choose, nothing, plain, something) depth 9

-- blocks

block-sign-finds : (in_line : Bool) (text : List ℕ) → Finds (block_at_sign in_line text)
unfolding block_at_sign
block-sign-finds in_line text = search (choose, nothing, plain, something, shown-finds) depth 9

in-block : (in_line : Bool) (at : Point) (with_else : Bool) (around : Option Around) (text : List ℕ) → Finds (block_at in_line at with_else around text)
unfolding block_at
in-block in_line at with_else around text = search (choose, nothing, plain, something, block-sign-finds, tag-finds, in-statement) depth 9

-- in any context
pub all-sound : (context : Option Context) (line : Bool) (around : Option Around) (last : Option ℕ) (text : List ℕ) → Finds (found_in context line around last text)
all-sound None line around last text = in-content None last text
all-sound (Some x.Element) line around last text = in-content (Some x.Element) last text
all-sound (Some x.Line) line around last text = in-line last text
all-sound (Some (x.StartTag component void)) line around last text = in-start-tag component void text
all-sound (Some x.EndTag) line around last text = in-end-tag text
all-sound (Some (x.Named holds)) line around last text = in-named holds text
all-sound (Some (x.Value holds quote)) line around last text = in-value holds quote around last text
all-sound (Some x.CodeLead) line around last text = in-code-lead text
all-sound (Some x.ShownLead) line around last text = in-shown-lead text
all-sound (Some x.Opening) line around last text = in-opening text
all-sound (Some (x.Name quote)) line around last text = in-name quote text
all-sound (Some (x.Chain quote)) line around last text = in-chain quote text
all-sound (Some x.Closing) line around last text = something _ tt
all-sound (Some x.Members) line around last text = in-members text
all-sound (Some (x.Bracket quote raw)) line around last text = in-bracket quote raw around text
all-sound (Some (x.Head with_else)) line around last text = in-head with_else around text
all-sound (Some (x.Block at with_else)) line around last text = in-block line at with_else around text
all-sound (Some (x.Directive wanted_so)) line around last text = in-directive wanted_so text
