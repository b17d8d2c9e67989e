-- In every context outside tags, what is found fits there and leaves such contexts open, or begins or ends a tag.
use Rattle.std.proofs.Common.{ℕ, ◌+◌, Bool, true, false, List, [], ◌∷◌, take, drop, Some, None, refl}
use Rattle.std.specs.declared.option.Option.{Option}
use Rattle.std.proofs.lemmas.Bool.{false≢true}
use Rattle.cs_token.specs.declared.around.Around.{Around}
use Rattle.razor_token.specs.declared.context.Context.{Context}
use Rattle.razor_token.specs.declared.context.Context.TheVariants as x
use Rattle.razor_token.specs.declared.context.Point.{Point}
use Rattle.razor_token.specs.declared.piece.PieceKind.TheVariants as k
use Rattle.razor_token.specs.declared.runs.RunKind.TheVariants as r
use Rattle.razor_token.specs.BlockFronts.{block_at_sign, block_at}
use Rattle.razor_token.specs.ContentFronts.{comment_to, shown_at, top_word, word_at, transition_at, at_sign, tag_of, end_tag_of, tag_sign, content_at, line_at}
use Rattle.razor_token.specs.Contexts.{stays, innermost}
use Rattle.razor_token.specs.Cutting.{found_in}
use Rattle.razor_token.specs.Directives.{named_directive, page_text, page_directive, implements_directive}
use Rattle.printed_pieces.specs.PrintableNodes.{content_text}
use Rattle.printable_texts.proofs.OutsideLaws.{IsOuter, Goes, nothing, on, starts, ends, in_statement, in_head, in_bracket}
use Rattle.printable_texts.proofs.ContentGoes.{choose, literal_goes, weaker, line_weaker, in_name, in_opening, in_chain, in_closing, in_members, in_directive}

-- what stands there at an at sign or `<`, where such contexts are open
comment_goes : (cs : List Context) (o : Option ℕ) → IsOuter cs → Goes cs (comment_to o)
comment_goes cs None h = nothing
comment_goes cs (Some count) h = on k.Comment (count + 2) stays tt refl h

shown_goes : (cs : List Context) (text : List ℕ) → IsOuter cs → Goes cs (shown_at text)
shown_goes cs text h = search (choose, nothing, on, h) depth 9

named_goes : (cs : List Context) (count : ℕ) (text : List ℕ) → IsOuter cs → Goes cs (named_directive count text)
named_goes cs count text h = search (choose, nothing, on, h) depth 9

page_text_goes : (cs : List Context) (count : ℕ) (text : List ℕ) → IsOuter cs → Goes cs (page_text count text)
page_text_goes cs count text h = search (choose, nothing, on, h) depth 9

page_goes : (cs : List Context) (text : List ℕ) → IsOuter cs → Goes cs (page_directive text)
page_goes cs text h = search (choose, nothing, page_text_goes, h) depth 9

implements_goes : (cs : List Context) (text : List ℕ) → IsOuter cs → Goes cs (implements_directive text)
implements_goes cs text h = search (choose, nothing, on, h) depth 9

top_goes : (cs : List Context) (word text : List ℕ) → IsOuter cs → Goes cs (top_word word text)
top_goes cs word text h = search (choose, on, h, implements_goes, page_goes, named_goes, shown_goes) depth 9

word_goes : (cs : List Context) (context : Option Context) (word text : List ℕ) → IsOuter cs → Goes cs (word_at context word text)
word_goes cs context word text h = search (choose, on, h, top_goes, shown_goes) depth 9

transition_goes : (cs : List Context) (context : Option Context) (text : List ℕ) → IsOuter cs → Goes cs (transition_at context text)
unfolding transition_at
transition_goes cs context text h = search (choose, on, h, word_goes) depth 9

at_goes : (cs : List Context) (context : Option Context) (last : Option ℕ) (text : List ℕ) → IsOuter cs → Goes cs (at_sign context last text)
unfolding at_sign
at_goes cs context last text h = let one = content_text 64 [] refl in search (choose, on, h, one, comment_goes, transition_goes) depth 9

tag_goes : (cs : List Context) (count : ℕ) (text : List ℕ) → IsOuter cs → Goes cs (tag_of count text)
tag_goes cs count text h = choose cs _ _ _ nothing (starts (take count (drop 1 text)) (count + 1) _ refl h)

end_goes : (cs : List Context) (count : ℕ) (text : List ℕ) → IsOuter cs → Goes (x.Element ∷ cs) (end_tag_of count text)
end_goes cs count text h = choose (x.Element ∷ cs) _ _ _ nothing (ends (take count (drop 2 text)) (count + 2) _ cs refl h)

tag_sign_top : (text : List ℕ) → Goes [] (tag_sign None text)
unfolding tag_sign
tag_sign_top text = search (choose, nothing, comment_goes, tag_goes) depth 9

tag_sign_element : (cs : List Context) (text : List ℕ) → IsOuter cs → Goes (x.Element ∷ cs) (tag_sign (Some x.Element) text)
unfolding tag_sign
tag_sign_element cs text h = search (choose, h, comment_goes, tag_goes, end_goes) depth 9

tag_sign_line : (cs : List Context) (text : List ℕ) → IsOuter cs → Goes (x.Line ∷ cs) (tag_sign (Some x.Line) text)
unfolding tag_sign
tag_sign_line cs text h = search (choose, nothing, h, comment_goes, tag_goes) depth 9

in_top : (last : Option ℕ) (text : List ℕ) → Goes [] (content_at None last text)
unfolding content_at
in_top last text = let said = literal_goes [] r.Content (weaker r.Content refl) text refl in search (choose, at_goes, tag_sign_top, said) depth 9

in_element : (last : Option ℕ) (text : List ℕ) (cs : List Context) → IsOuter cs → Goes (x.Element ∷ cs) (content_at (Some x.Element) last text)
unfolding content_at
in_element last text cs h = let said = literal_goes (x.Element ∷ cs) r.Content (weaker r.Content refl) text h in search (choose, h, at_goes, tag_sign_element, said) depth 9

in_line_content : (last : Option ℕ) (text : List ℕ) (cs : List Context) → IsOuter cs → Goes (x.Line ∷ cs) (content_at (Some x.Line) last text)
unfolding content_at
in_line_content last text cs h = let said = literal_goes (x.Line ∷ cs) r.InLine line_weaker text h in search (choose, h, at_goes, tag_sign_line, said) depth 9

in_line : (last : Option ℕ) (text : List ℕ) (cs : List Context) → IsOuter cs → Goes (x.Line ∷ cs) (line_at last text)
unfolding line_at
in_line last text cs h = search (choose, on, h, in_line_content) depth 9

block_sign_goes : (cs : List Context) (line : Bool) (text : List ℕ) → IsOuter cs → Goes cs (block_at_sign line text)
unfolding block_at_sign
block_sign_goes cs line text h = search (choose, nothing, on, h, shown_goes) depth 9

in_block : (line : Bool) (at : Point) (with_else : Bool) (around : Option Around) (text : List ℕ) (cs : List Context) → IsOuter cs → Goes (x.Block at with_else ∷ cs) (block_at line at with_else around text)
unfolding block_at
in_block line at with_else around text cs h = let code = in_statement at with_else around text cs h in search (choose, h, block_sign_goes, tag_goes, code) depth 9

-- in any of them
pub outside_goes : (cs : List Context) (line : Bool) (around : Option Around) (last : Option ℕ) (text : List ℕ) → IsOuter cs → Goes cs (found_in (innermost cs) line around last text)
outside_goes [] line around last text h = in_top last text
outside_goes (x.Element ∷ cs) line around last text h = in_element last text cs h
outside_goes (x.Line ∷ cs) line around last text h = in_line last text cs h
outside_goes (x.Opening ∷ cs) line around last text h = in_opening text cs h
outside_goes (x.Name quote ∷ cs) line around last text h = in_name quote text cs h
outside_goes (x.Chain quote ∷ cs) line around last text h = in_chain quote text cs h
outside_goes (x.Closing ∷ cs) line around last text h = in_closing cs h
outside_goes (x.Members ∷ cs) line around last text h = in_members text cs h
outside_goes (x.Bracket quote false ∷ cs) line around last text h = in_bracket quote around text cs h
outside_goes (x.Bracket quote true ∷ cs) line around last text h = absurd (false≢true h)
outside_goes (x.Head with_else ∷ cs) line around last text h = in_head with_else around text cs h
outside_goes (x.Block at with_else ∷ cs) line around last text h = in_block line at with_else around text cs h
outside_goes (x.Directive wanted_so ∷ cs) line around last text h = in_directive wanted_so text cs h
outside_goes (_ ∷ cs) line around last text h = absurd (false≢true h)
