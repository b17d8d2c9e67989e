-- How the texts of parts of content begin and end.
use Rattle.std.proofs.Common.{◌≡◌, ℕ, Bool, true, false, List, [], ◌∷◌, ◌++◌, Some, refl, sym, ap, ◌∙◌, subst, append_assoc, append-nil}
use Rattle.std.proofs.lemmas.Bool.{false≢true}
use Rattle.std.proofs.lemmas.List.{reverse-append}
use Rattle.cs_token.specs.declared.characters.Class.TheVariants as class
use Rattle.cs_token.specs.Characters.{is_in}
use Rattle.cs_token.specs.Reading.Runs.{strip}
use Rattle.cs_print.specs.Layout.{code_text}
use Rattle.cs_print.specs.Printed.{Kinds}
use Rattle.razor_token.specs.declared.runs.RunKind.TheVariants as r
use Rattle.razor_token.specs.Runs.{run}
use Rattle.razor_token.specs.BlockFronts.{else_follows}
use Rattle.razor_token.specs.ContentFronts.{is_word}
use Rattle.razor_token.specs.Cutting.{first_of, last_of}
use Rattle.razor_print.specs.declared.before.Before.{Before}
use Rattle.razor_print.specs.declared.before.Before.TheVariants as bf
use Rattle.razor_print.specs.Parts.{Parts}
use Rattle.printed_pieces.specs.Places.{EndsContent, at_end, at_sign, tag_sign}
use Rattle.printed_pieces.proofs.BraceLaws.{block_text}
use Rattle.printed_pieces.proofs.ShownLaws.{round_text}
use Rattle.printed_pieces.proofs.Forms.{takes_text, IsItem, IsContent, IsTag, InHead}
use Rattle.printed_pieces.proofs.Forms as f

pub ends-run : (rest : List ℕ) → EndsContent rest → run r.Content rest ≡ 0
ends-run _ at_end = refl
ends-run _ (at_sign rest) = refl
ends-run _ (tag_sign rest) = refl

pub ends-no-else : (rest : List ℕ) → EndsContent rest → else_follows rest ≡ false
unfolding strip
ends-no-else _ at_end = refl
ends-no-else _ (at_sign rest) = refl
ends-no-else _ (tag_sign rest) = refl

tag-begins : (ps : Parts) (text rest : List ℕ) → IsTag ps text → EndsContent (text ++ rest)
tag-begins _ _ rest (f.empty name ps text is attributes) = tag_sign _
tag-begins _ _ rest (f.whole last name ps qs text inner is holds attributes content) = tag_sign _

pub item-begins : (b left : Before) (ps : Parts) (text rest : List ℕ) → takes_text b ≡ false → IsItem b left ps text → EndsContent (text ++ rest)
item-begins _ _ _ _ rest e (f.said b left text takes ends all last_is) = absurd (false≢true (sym e ∙ takes))
item-begins _ _ _ _ rest e (f.apart b) = at_sign _
item-begins _ _ _ _ rest e (f.shows b ks is) = at_sign _
item-begins _ _ _ _ rest e (f.tag b ps text is) = tag-begins ps text rest is
item-begins _ _ _ _ rest e (f.block b end ps text is) = at_sign _
item-begins _ _ _ _ rest e (f.headed b left word with_else goes_on ks ps text parted is code goes inner ends) = at_sign _

-- where no text may stand next, none does
pub content-begins : (b last : Before) (ps : Parts) (text rest : List ℕ) → takes_text b ≡ false → IsContent b last ps text → EndsContent rest → EndsContent (text ++ rest)
content-begins _ _ _ _ rest e (f.nothing b) ends = ends
content-begins _ _ _ _ rest e (f.item b left last ps qs text more is others) ends = subst (λ z. EndsContent z) (sym (append_assoc text more rest)) (item-begins b left ps text (more ++ rest) e is)

-- the last character is neither a letter nor a digit
pub data EndsPlain : List ℕ → Type 0 where
  ends_plain : (front : List ℕ) (d : ℕ) → is_in class.Word d ≡ false → EndsPlain (front ++ d ∷ [])

last-end : (front : List ℕ) (d : ℕ) → last_of (front ++ d ∷ []) ≡ Some d
last-end front d = ap first_of (reverse-append front (d ∷ []))

pub plain-last : (before text : List ℕ) → EndsPlain text → is_word (last_of (before ++ text)) ≡ false
plain-last before _ (ends_plain front d none) =
    ap (λ z. is_word (last_of z)) (sym (append_assoc before front (d ∷ []))) ∙ ap is_word (last-end (before ++ front) d) ∙ none

one : (d : ℕ) → is_in class.Word d ≡ false → EndsPlain (d ∷ [])
one d none = ends_plain [] d none

then : (c : ℕ) (text : List ℕ) → EndsPlain text → EndsPlain (c ∷ text)
then c _ (ends_plain front d none) = ends_plain (c ∷ front) d none

behind : (xs text : List ℕ) → EndsPlain text → EndsPlain (xs ++ text)
behind [] text plain = plain
behind (c ∷ xs) text plain = then c (xs ++ text) (behind xs text plain)

round-plain : (ks : Kinds) → EndsPlain (64 ∷ (round_text ks ++ []))
round-plain ks =
    then 64 (round_text ks ++ []) (subst (λ z. EndsPlain z) (sym (append-nil (round_text ks))) (then 40 (code_text ks ++ 41 ∷ []) (behind (code_text ks) (41 ∷ []) (one 41 refl))))

block-plain : (text : List ℕ) → EndsPlain (block_text text)
block-plain text = then 123 (32 ∷ (text ++ 125 ∷ [])) (then 32 (text ++ 125 ∷ []) (behind text (125 ∷ []) (one 125 refl)))

tag-plain : (ps : Parts) (text : List ℕ) → IsTag ps text → EndsPlain text
tag-plain _ _ (f.empty name ps text is attributes) = behind ((60 ∷ name) ++ text) (47 ∷ 62 ∷ []) (then 47 (62 ∷ []) (one 62 refl))
tag-plain _ _ (f.whole last name ps qs text inner is holds attributes content) =
    behind ((60 ∷ name) ++ text) _ (behind (62 ∷ []) _ (behind inner ((60 ∷ 47 ∷ name) ++ 62 ∷ []) (behind (60 ∷ 47 ∷ name) (62 ∷ []) (one 62 refl))))

head-plain : (with_else goes_on : Bool) (ps : Parts) (text : List ℕ) → InHead with_else goes_on ps text → EndsPlain text
head-plain _ _ _ _ (f.body with_else end ps text inner) = block-plain text
head-plain _ _ _ _ (f.code with_else after goes_on ks ps text code goes inner) = behind (code_text ks) text (head-plain after goes_on ps text inner)
head-plain _ _ _ _ (f.otherwise goes_on end ps qs text more inner others) = behind (block_text text) _ (behind (code_text _) more (head-plain false goes_on qs more others))

-- What an item leaves behind it is a word where its last character is one.
pub item-last : (b left : Before) (ps : Parts) (text before : List ℕ) → IsItem b left ps text → is_word (last_of (before ++ text)) ≡ true → left ≡ bf.Word
item-last _ _ _ _ before (f.said b left text takes ends all last_is) e = last_is before e
item-last _ _ _ _ before (f.apart b) e = absurd (false≢true (sym (plain-last before (64 ∷ 42 ∷ 42 ∷ 64 ∷ []) (ends_plain (64 ∷ 42 ∷ 42 ∷ []) 64 refl)) ∙ e))
item-last _ _ _ _ before (f.shows b ks is) e = absurd (false≢true (sym (plain-last before (64 ∷ (round_text ks ++ [])) (round-plain ks)) ∙ e))
item-last _ _ _ _ before (f.tag b ps text is) e = absurd (false≢true (sym (plain-last before text (tag-plain ps text is)) ∙ e))
item-last _ _ _ _ before (f.block b end ps text is) e = absurd (false≢true (sym (plain-last before (64 ∷ block_text text) (then 64 (block_text text) (block-plain text))) ∙ e))
item-last _ _ _ _ before (f.headed b left word with_else goes_on ks ps text parted is code goes inner ends) e =
    absurd (false≢true (sym (plain-last before _ (then 64 _ (behind (code_text _) text (head-plain with_else goes_on ps text inner)))) ∙ e))
