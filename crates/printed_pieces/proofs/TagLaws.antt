-- Tags are cut as meant.
use Rattle.std.proofs.Common.{◌≡◌, ℕ, ◌+◌, Bool, false, List, [], ◌∷◌, ◌++◌, length, Some, None, refl, ap, ◌∙◌, arith, ne_eqb}
use Rattle.std.specs.declared.option.Option.{Option}
use Rattle.std.specs.Prelude.{◌==◌}
use Rattle.std.specs.List.{list_all}
use Rattle.std.proofs.Math.Seq.{take-append_seam}
use Rattle.cs_token.specs.Reading.Runs.{strip}
use Rattle.razor_token.specs.declared.context.Context.{Context}
use Rattle.razor_token.specs.declared.context.Context.TheVariants as x
use Rattle.razor_token.specs.declared.context.Point.TheVariants as point
use Rattle.razor_token.specs.declared.piece.PieceKind.TheVariants as k
use Rattle.razor_token.specs.declared.runs.RunKind.TheVariants as r
use Rattle.razor_token.specs.BlockFronts.{block_at}
use Rattle.razor_token.specs.ContentFronts.{content_at, tag_of, end_tag_of, tag_sign}
use Rattle.razor_token.specs.Contexts.{innermost, leaves, enters, becomes}
use Rattle.razor_token.specs.Cutting.{found_in, last_of}
use Rattle.razor_token.specs.Pieces.{piece}
use Rattle.razor_token.specs.Runs.{is_of, run}
use Rattle.razor_token.specs.TagFronts.{start_tag_at, end_tag_at}
use Rattle.razor_token.specs.Tags.{is_component, is_void}
use Rattle.razor_print.specs.Parts.{Parts}
use Rattle.razor_print.specs.Parts as parts
use Rattle.printed_pieces.specs.Cut.{Stand}
use Rattle.printed_pieces.specs.Names.{IsTagName, tag_name}
use Rattle.printed_pieces.specs.Places.{IsContentPlace, top, element}
use Rattle.printed_pieces.proofs.WalkLaws.{stand-join, stand-piece}
use Rattle.printed_pieces.proofs.LiteralLaws.{run-front, both, apart-from}
use Rattle.printed_pieces.proofs.AttributeLaws.{EndsName, blank, slash, greater, AreAttributes, stand-attributes, attributes-end}

name-run : (name rest : List ℕ) → IsTagName name → run r.TagName rest ≡ 0 → run r.TagName (name ++ rest) ≡ length name
name-run _ rest (tag_name c name is all) ends = run-front r.TagName (c ∷ name) rest (both (is_of r.TagName c) (list_all (is_of r.TagName) name) is all) ends

some-name : (name : List ℕ) → IsTagName name → (length name == 0) ≡ false
some-name _ (tag_name c name is all) = ne_eqb (length (c ∷ name)) 0 (λ e. absurd (omega (arith, e)))

pub ends-no-tag : (rest : List ℕ) → EndsName rest → run r.TagName rest ≡ 0
ends-no-tag _ (blank rest) = refl
ends-no-tag _ (slash rest) = refl
ends-no-tag _ (greater rest) = refl

-- a start tag

tag-is : (name rest : List ℕ) → IsTagName name → tag_of (length name) (60 ∷ (name ++ rest)) ≡ piece (k.TagStart name) (length (60 ∷ name)) (enters (x.StartTag (is_component name) (is_void name)))
tag-is name rest is =
    let long : length name + 1 ≡ length (60 ∷ name) = omega arith in
    rw (some-name name is, take-append_seam name rest, long) refl

tag-of : (name rest : List ℕ) → IsTagName name → run r.TagName rest ≡ 0 → tag_of (run r.TagName (name ++ rest)) (60 ∷ (name ++ rest)) ≡ piece (k.TagStart name) (length (60 ∷ name)) (enters (x.StartTag (is_component name) (is_void name)))
tag-of name rest is ends = ap (λ n. tag_of n (60 ∷ (name ++ rest))) (name-run name rest is ends) ∙ tag-is name rest is

-- In these contexts `<` and a name begin a tag.
pub record Tags (cs : List Context) : Type 0 where
  pub begins : (last : Option ℕ) (name rest : List ℕ) → IsTagName name → run r.TagName rest ≡ 0
      → found_in (innermost cs) false None last (60 ∷ (name ++ rest)) ≡ piece (k.TagStart name) (length (60 ∷ name)) (enters (x.StartTag (is_component name) (is_void name)))

sign-is : (context : Option Context) (last : Option ℕ) (c : ℕ) (text : List ℕ) → (c == 33) ≡ false → (c == 47) ≡ false → content_at context last (60 ∷ c ∷ text) ≡ tag_of (run r.TagName (c ∷ text)) (60 ∷ c ∷ text)
unfolding content_at tag_sign strip
sign-is context last c text e f = rw (e, f) refl

content-tag : (context : Option Context) (last : Option ℕ) (name rest : List ℕ) → IsTagName name → run r.TagName rest ≡ 0
    → content_at context last (60 ∷ (name ++ rest)) ≡ piece (k.TagStart name) (length (60 ∷ name)) (enters (x.StartTag (is_component name) (is_void name)))
content-tag context last _ rest (tag_name c name is all) ends =
    sign-is context last c (name ++ rest) (apart-from r.TagName c 33 is refl) (apart-from r.TagName c 47 is refl) ∙ tag-of (c ∷ name) rest (tag_name c name is all) ends

pub tags-content : (cs : List Context) → IsContentPlace cs → Tags cs
tags-content _ top = record { begins = content-tag None }
tags-content _ (element cs) = record { begins = content-tag (Some x.Element) }

block-tag : (with_else : Bool) (name rest : List ℕ) → IsTagName name → run r.TagName rest ≡ 0
    → block_at false point.Begins with_else None (60 ∷ (name ++ rest)) ≡ piece (k.TagStart name) (length (60 ∷ name)) (enters (x.StartTag (is_component name) (is_void name)))
unfolding block_at strip
block-tag with_else name rest is ends = tag-of name rest is ends

pub tags-block : (with_else : Bool) (cs : List Context) → Tags (x.Block point.Begins with_else ∷ cs)
tags-block with_else cs = record { begins = λ last name rest is ends. block-tag with_else name rest is ends }

-- the ends of tags

empty-found : (component void : Bool) (rest : List ℕ) → start_tag_at component void (47 ∷ 62 ∷ rest) ≡ piece k.EmptyTagEnd 2 leaves
unfolding start_tag_at strip
empty-found component void rest = refl

start-found : (component : Bool) (rest : List ℕ) → start_tag_at component false (62 ∷ rest) ≡ piece k.ContentStart 1 (becomes x.Element)
unfolding start_tag_at strip
start-found component rest = refl

end-is : (name rest : List ℕ) → IsTagName name → end_tag_of (length name) (60 ∷ 47 ∷ (name ++ rest)) ≡ piece (k.EndTagStart name) (length (60 ∷ 47 ∷ name)) (becomes x.EndTag)
end-is name rest is =
    let long : length name + 2 ≡ length (60 ∷ 47 ∷ name) = omega arith in
    rw (some-name name is, take-append_seam name rest, long) refl

end-of : (last : Option ℕ) (text : List ℕ) → content_at (Some x.Element) last (60 ∷ 47 ∷ text) ≡ end_tag_of (run r.TagName text) (60 ∷ 47 ∷ text)
unfolding content_at tag_sign strip
end-of last text = refl

end-found : (last : Option ℕ) (name rest : List ℕ) → IsTagName name → content_at (Some x.Element) last (60 ∷ 47 ∷ (name ++ 62 ∷ rest)) ≡ piece (k.EndTagStart name) (length (60 ∷ 47 ∷ name)) (becomes x.EndTag)
end-found last name rest is =
    end-of last (name ++ 62 ∷ rest) ∙ ap (λ n. end_tag_of n (60 ∷ 47 ∷ (name ++ 62 ∷ rest))) (name-run name (62 ∷ rest) is refl) ∙ end-is name (62 ∷ rest) is

close-found : (rest : List ℕ) → end_tag_at (62 ∷ rest) ≡ piece k.EndTagEnd 1 leaves
unfolding end_tag_at strip
close-found rest = refl

-- `<`, a name and attributes
pub stand-front : (cs : List Context) (before name text rest : List ℕ) (ps : Parts) → Tags cs → IsTagName name → AreAttributes (is_component name) ps text → EndsName rest
    → Stand cs before (parts.piece (k.TagStart name) (60 ∷ name) ∷ ps) ((60 ∷ name) ++ text) rest (x.StartTag (is_component name) (is_void name) ∷ cs)
stand-front cs before name text rest ps tags is attributes ends =
    let tag = x.StartTag (is_component name) (is_void name) ∷ cs in
    stand-join cs tag tag before (parts.piece (k.TagStart name) (60 ∷ name) ∷ []) ps (60 ∷ name) text rest
    (stand-piece cs before (60 ∷ name) (text ++ rest) (k.TagStart name) (enters (x.StartTag (is_component name) (is_void name)))
    (tags.begins (last_of before) name (text ++ rest) is (ends-no-tag (text ++ rest) (attributes-end (is_component name) ps text rest ends attributes))) refl refl refl)
    (stand-attributes (is_component name) (is_void name) cs (before ++ 60 ∷ name) rest ps text ends attributes)

pub stand-empty : (component void : Bool) (cs : List Context) (before rest : List ℕ) → Stand (x.StartTag component void ∷ cs) before (parts.piece k.EmptyTagEnd (47 ∷ 62 ∷ []) ∷ []) (47 ∷ 62 ∷ []) rest cs
stand-empty component void cs before rest =
    stand-piece (x.StartTag component void ∷ cs) before (47 ∷ 62 ∷ []) rest k.EmptyTagEnd leaves (empty-found component void rest) refl refl refl

pub stand-start : (component : Bool) (cs : List Context) (before rest : List ℕ) → Stand (x.StartTag component false ∷ cs) before (parts.piece k.ContentStart (62 ∷ []) ∷ []) (62 ∷ []) rest (x.Element ∷ cs)
stand-start component cs before rest =
    stand-piece (x.StartTag component false ∷ cs) before (62 ∷ []) rest k.ContentStart (becomes x.Element) (start-found component rest) refl refl refl

pub stand-end : (cs : List Context) (before name rest : List ℕ) → IsTagName name
    → Stand (x.Element ∷ cs) before (parts.piece (k.EndTagStart name) (60 ∷ 47 ∷ name) ∷ parts.piece k.EndTagEnd (62 ∷ []) ∷ []) ((60 ∷ 47 ∷ name) ++ 62 ∷ []) rest cs
stand-end cs before name rest is =
    stand-join (x.Element ∷ cs) (x.EndTag ∷ cs) cs before (parts.piece (k.EndTagStart name) (60 ∷ 47 ∷ name) ∷ []) (parts.piece k.EndTagEnd (62 ∷ []) ∷ []) (60 ∷ 47 ∷ name) (62 ∷ []) rest
    (stand-piece (x.Element ∷ cs) before (60 ∷ 47 ∷ name) (62 ∷ rest) (k.EndTagStart name) (becomes x.EndTag) (end-found (last_of before) name rest is) refl refl refl)
    (stand-piece (x.EndTag ∷ cs) (before ++ 60 ∷ 47 ∷ name) (62 ∷ []) rest k.EndTagEnd leaves (close-found rest) refl refl refl)
