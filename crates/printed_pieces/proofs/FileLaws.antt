-- The nodes of a file, its directive and its members are cut as meant.
use Rattle.std.proofs.Common.{◌≡◌, ℕ, true, false, List, [], ◌∷◌, ◌++◌, take, Some, None, refl, sym, ap, ◌∙◌, subst, append_assoc, append-nil}
use Rattle.std.specs.declared.option.Option.{Option}
use Rattle.std.specs.Prelude.{codes}
use Rattle.std.proofs.lemmas.Bool.{false≢true}
use Rattle.cs_token.specs.declared.token.Sign.TheVariants as s
use Rattle.cs_token.specs.declared.token.TokenKind.TheVariants as t
use Rattle.cs_token.specs.Reading.Runs.{strip}
use Rattle.cs_token.specs.Spelling.{behind_sign}
use Rattle.cs_print.specs.Layout.{code_text}
use Rattle.cs_print.specs.Printed.{Kinds}
use Rattle.razor_token.specs.declared.context.Context.TheVariants as x
use Rattle.razor_token.specs.declared.piece.PieceKind.TheVariants as k
use Rattle.razor_token.specs.CodeFronts.{keeps_quote, where_it, bracket_piece, bracket_at, members_piece, members_at, opens, closes}
use Rattle.razor_token.specs.ContentFronts.{is_word, content_at, at_sign, transition_at}
use Rattle.razor_token.specs.Contexts.{stays, leaves, enters, becomes_both, with_sign}
use Rattle.razor_token.specs.Cutting.{last_of}
use Rattle.razor_token.specs.Pieces.{piece}
use Rattle.razor_print.specs.declared.before.Before.{Before}
use Rattle.razor_print.specs.declared.before.Before.TheVariants as bf
use Rattle.razor_print.specs.Parts.{Parts, tokens, in_block, close_brace, expression_end}
use Rattle.razor_print.specs.Parts as parts
use Rattle.printed_pieces.specs.Cut.{Stand}
use Rattle.printed_pieces.specs.Places.{top, EndsContent, at_sign as at-sign}
use Rattle.printed_pieces.proofs.WalkLaws.{stand-join, stand-piece, stand-nothing}
use Rattle.printed_pieces.proofs.FrontLaws.{bracket}
use Rattle.printed_pieces.proofs.GoesLaws.{stand-code}
use Rattle.printed_pieces.proofs.ShownLaws.{IsClosed}
use Rattle.printed_pieces.proofs.BraceLaws.{stand-token, stand-blank, open-code, close-code, block_text}
use Rattle.printed_pieces.proofs.Forms.{takes_text, IsItem}
use Rattle.printed_pieces.proofs.EndLaws.{plain-last, ends_plain, item-begins, item-last}
use Rattle.printed_pieces.proofs.ContentLaws.{stand-item, not-word}

-- the directive

implements-found : (rest : List ℕ) → content_at None None ((codes "@implements IDisposable" ++ 10 ∷ []) ++ rest) ≡ piece k.Implements 24 stays
unfolding content_at at_sign transition_at strip
implements-found rest = refl

abbrev pub implements_text : List ℕ
implements_text = codes "@implements IDisposable" ++ 10 ∷ []

pub stand-implements : (rest : List ℕ) → Stand [] [] (parts.piece k.Implements implements_text ∷ []) implements_text rest []
stand-implements rest = stand-piece [] [] implements_text rest k.Implements stays (implements-found rest) refl refl refl

-- members

members-found : (last : Option ℕ) (rest : List ℕ) → is_word last ≡ false → content_at None last (codes "@code" ++ (123 ∷ rest)) ≡ piece k.MembersAt 5 (enters x.Members)
unfolding content_at at_sign transition_at strip
members-found last rest e = rw e refl

open-found : (rest : List ℕ) → members_at (123 ∷ rest) ≡ piece (k.Code (t.Sign s.OpenBrace)) 1 (becomes_both x.Closing (x.Bracket None false))
unfolding members_at
open-found rest = ap members_piece (open-code rest)

close-found : (rest : List ℕ) → bracket_at None false None (125 ∷ rest) ≡ piece (k.Code (t.Sign s.CloseBrace)) 1 (with_sign (Some s.CloseBrace) leaves)
unfolding bracket_at opens closes
close-found rest = ap (λ o. bracket_piece None false None (125 ∷ rest) (where_it (λ front. keeps_quote None (take front.count (125 ∷ rest))) o)) (close-code rest)

abbrev pub section_of : Kinds → Parts
section_of ks = parts.piece k.MembersAt (codes "@code") ∷ (in_block (tokens ks) ++ expression_end ∷ [])

abbrev pub section_text : Kinds → List ℕ
section_text ks = codes "@code" ++ (block_text (code_text ks) ++ [])

stand-members : (before rest : List ℕ) (ks : Kinds) → is_word (last_of before) ≡ false → IsClosed ks → Stand [] before (section_of ks) (section_text ks) rest []
unfolding behind_sign
stand-members before rest ks e is =
    let code = before ++ codes "@code" in
    let open_ones = x.Closing ∷ [] in
    let inside = x.Bracket None false ∷ open_ones in
    let brace = code ++ 123 ∷ [] in
    let within = code ++ 123 ∷ 32 ∷ [] in
    stand-join [] (x.Members ∷ []) [] before (parts.piece k.MembersAt (codes "@code") ∷ []) (in_block (tokens ks) ++ expression_end ∷ []) (codes "@code") (block_text (code_text ks) ++ []) rest
    (stand-piece [] before (codes "@code") ((block_text (code_text ks) ++ []) ++ rest) k.MembersAt (enters x.Members) (members-found (last_of before) _ e) refl refl refl)
    (stand-join (x.Members ∷ []) open_ones [] code (in_block (tokens ks)) (expression_end ∷ []) (block_text (code_text ks)) [] rest
    (stand-join (x.Members ∷ []) inside open_ones code (parts.token (t.Sign s.OpenBrace) ∷ []) (tokens ks ++ close_brace ∷ []) (123 ∷ 32 ∷ []) (code_text ks ++ 125 ∷ []) rest
    (stand-join (x.Members ∷ []) inside inside code (parts.token (t.Sign s.OpenBrace) ∷ []) [] (123 ∷ []) (32 ∷ []) ((code_text ks ++ 125 ∷ []) ++ rest)
    (stand-token (x.Members ∷ []) code (123 ∷ []) (32 ∷ ((code_text ks ++ 125 ∷ []) ++ rest)) (t.Sign s.OpenBrace) (becomes_both x.Closing (x.Bracket None false)) (open-found (32 ∷ ((code_text ks ++ 125 ∷ []) ++ rest))) refl)
    (stand-blank (x.Bracket None false) open_ones brace ((code_text ks ++ 125 ∷ []) ++ rest) bracket))
    (stand-join inside inside open_ones within (tokens ks) (close_brace ∷ []) (code_text ks) (125 ∷ []) rest
    (stand-code inside inside within (125 ∷ rest) ks is.code (is.goes open_ones))
    (stand-piece inside (within ++ code_text ks) (125 ∷ []) rest (k.Code (t.Sign s.CloseBrace)) (with_sign (Some s.CloseBrace) leaves) (close-found rest) refl refl refl)))
    (stand-piece open_ones (code ++ block_text (code_text ks)) [] rest k.ExpressionEnd leaves refl refl refl refl))

-- Parts of content, and of members, one behind another at the top of a file.
pub data IsFile : Before → Before → Parts → List ℕ → Type 0 where
  nothing : (b : Before) → IsFile b b [] []
  part : (b left last : Before) (ps qs : Parts) (text more : List ℕ) → IsItem b left ps text → IsFile left last qs more → IsFile b last (ps ++ qs) (text ++ more)
  section : (b last : Before) (ks : Kinds) (qs : Parts) (more : List ℕ) → (b ≡ bf.Word → ⊥) → IsClosed ks → IsFile bf.Other last qs more → IsFile b last (section_of ks ++ qs) (section_text ks ++ more)

pub file-join : (b middle last : Before) (ps qs : Parts) (text more : List ℕ) → IsFile b middle ps text → IsFile middle last qs more → IsFile b last (ps ++ qs) (text ++ more)
file-join _ _ last _ qs _ more (nothing b) later = later
file-join _ middle last _ qs _ more (part b left _ us ps text between is others) later =
    subst (λ z. IsFile b last z ((text ++ between) ++ more)) (sym (append_assoc us ps qs))
    (subst (λ z. IsFile b last (us ++ (ps ++ qs)) z) (sym (append_assoc text between more)) (part b left last us (ps ++ qs) text (between ++ more) is (file-join left middle last ps qs between more others later)))
file-join _ middle last _ qs _ more (section b _ ks ps between apart is others) later =
    subst (λ z. IsFile b last z ((section_text ks ++ between) ++ more)) (sym (append_assoc (section_of ks) ps qs))
    (subst (λ z. IsFile b last (section_of ks ++ (ps ++ qs)) z) (sym (append_assoc (section_text ks) between more)) (section b last ks (ps ++ qs) (between ++ more) apart is (file-join bf.Other middle last ps qs between more others later)))

file-begins : (b last : Before) (ps : Parts) (text rest : List ℕ) → takes_text b ≡ false → IsFile b last ps text → EndsContent rest → EndsContent (text ++ rest)
file-begins _ _ _ _ rest e (nothing b) ends = ends
file-begins _ _ _ _ rest e (part b left last ps qs text more is others) ends = subst (λ z. EndsContent z) (sym (append_assoc text more rest)) (item-begins b left ps text (more ++ rest) e is)
file-begins _ _ _ _ rest e (section b last ks qs more apart is others) ends = at-sign _

section-last : (before : List ℕ) (ks : Kinds) → is_word (last_of (before ++ section_text ks)) ≡ true → bf.Other ≡ bf.Word
section-last before ks e = absurd (false≢true (sym (section-plain before ks) ∙ e))
  where
    section-plain : (before : List ℕ) (ks : Kinds) → is_word (last_of (before ++ section_text ks)) ≡ false
    section-plain before ks =
        ap (λ z. is_word (last_of (before ++ (codes "@code" ++ z)))) (append-nil (block_text (code_text ks)))
        ∙ plain-last before ((codes "@code" ++ (123 ∷ 32 ∷ code_text ks)) ++ 125 ∷ []) (ends_plain (codes "@code" ++ (123 ∷ 32 ∷ code_text ks)) 125 refl)

pub stand-file : (b last : Before) (ps : Parts) (text : List ℕ) → IsFile b last ps text → (before rest : List ℕ) → (is_word (last_of before) ≡ true → b ≡ bf.Word) → EndsContent rest → Stand [] before ps text rest []
stand-file _ _ _ _ (nothing b) before rest word ends = stand-nothing [] before rest
stand-file _ _ _ _ (part b left last ps qs text more is others) before rest word ends =
    stand-join [] [] [] before ps qs text more rest
    (stand-item b left ps text is [] top before (more ++ rest) word (λ e. file-begins left last qs more rest e others ends))
    (stand-file left last qs more others (before ++ text) rest (item-last b left ps text before is) ends)
stand-file _ _ _ _ (section b last ks qs more apart is others) before rest word ends =
    stand-join [] [] [] before (section_of ks) qs (section_text ks) more rest
    (stand-members before (more ++ rest) ks (not-word b (is_word (last_of before)) word apart) is)
    (stand-file bf.Other last qs more others (before ++ section_text ks) rest (section-last before ks) ends)
