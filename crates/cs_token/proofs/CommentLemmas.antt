-- The end of a comment: where it was read it stands, and where it stands it is read.
use Rattle.std.proofs.Common.{◌≡◌, ℕ, Bool, true, false, List, [], ◌∷◌, ◌++◌, Some, None, refl, ap, sym, ◌∙◌, eqb, inl, inr}
use Rattle.std.specs.Prelude.{◌&&◌, ◌||◌, not, is_some, codes}
use Rattle.std.specs.List.{list_all}
use Rattle.std.proofs.lemmas.Bool.{and_parts, and_from, cases_Bool, eqb-true, false≢true}
use Rattle.cs_token.specs.declared.characters.Class.TheVariants as class
use Rattle.cs_token.specs.Characters.{is_in, AreAll}
use Rattle.cs_token.specs.Lexemes.{begins_end, has_end}
use Rattle.cs_token.specs.Wrong.{EndsLine}
use Rattle.cs_token.specs.Reading.Runs.{strip}
use Rattle.cs_token.specs.Reading.Fronts.{past_end}
use Rattle.cs_token.proofs.OptionLemmas.{some_none}
use Rattle.cs_token.proofs.RunLemmas.{strip-some, strip-again}

-- the test of the code is that of the definition

strip-end : (c : ℕ) (text : List ℕ) → is_some (strip (codes "*/") (c ∷ text)) ≡ begins_end (c ∷ text)
unfolding strip
strip-end c [] = elim (cases_Bool (eqb c 42)) [ inl is ↦ rw is refl | inr fails ↦ rw fails refl ]
strip-end c (d ∷ text) = elim (cases_Bool (eqb c 42)) [
  | inl is ↦ elim (cases_Bool (eqb d 47)) [ inl ends ↦ rw (is, ends) refl | inr goes_on ↦ rw (is, goes_on) refl ]
  | inr fails ↦ rw fails refl
]

-- where it was read

pub record EndCut (in_line : Bool) (text rest : List ℕ) : Type 0 where
  pub body : List ℕ
  pub laid : text ≡ body ++ (codes "*/" ++ rest)
  pub first : has_end (body ++ codes "*") ≡ false
  pub line : in_line ≡ true → AreAll class.Inline body

-- whether an end begins is decided by two characters
same_start : (c : ℕ) (body rest : List ℕ) → begins_end (c ∷ (body ++ (codes "*/" ++ rest))) ≡ begins_end (c ∷ (body ++ codes "*"))
same_start c [] rest = refl
same_start c (d ∷ body) rest = refl

goes_inline : (in_line : Bool) (c : ℕ) → (in_line && eqb c 10) ≡ false → in_line ≡ true → is_in class.Inline c ≡ true
goes_inline true c e line = rw e refl
goes_inline false c e line = absurd (false≢true line)

pub past_end-some : (in_line : Bool) (text rest : List ℕ) → past_end in_line text ≡ Some rest → EndCut in_line text rest
past_end-some in_line [] rest e = absurd (some_none rest (sym e))
past_end-some in_line (c ∷ text) rest e = elim (cases_Bool (is_some (strip (codes "*/") (c ∷ text)))) [
  | inl is ↦
      let laid : c ∷ text ≡ codes "*/" ++ rest = strip-some (codes "*/") (c ∷ text) rest (rw is at e) in
      record { body = []; laid = laid; first = refl; line = λ _. refl }
  | inr fails ↦ elim (cases_Bool (in_line && eqb c 10)) [
    | inl ends ↦ absurd (some_none rest (sym (rw (fails, ends) at e)))
    | inr goes_on ↦
        let cut = past_end-some in_line text rest (rw (fails, goes_on) at e) in
        let start : begins_end (c ∷ (cut.body ++ codes "*")) ≡ false =
        sym (same_start c cut.body rest) ∙ ap (λ (x : List ℕ). begins_end (c ∷ x)) (sym cut.laid) ∙ sym (strip-end c text) ∙ fails in
        record {
          body = c ∷ cut.body;
          laid = ap (λ (x : List ℕ). c ∷ x) cut.laid;
          first = rw (start, cut.first) refl;
          line = λ line. and_from _ _ (goes_inline in_line c goes_on line) (cut.line line);
        }
  ]
]

-- where none was read

or_false : (a b : Bool) → (a || b) ≡ false → (a ≡ false) × (b ≡ false)
or_false true b e = absurd (false≢true (sym e))
or_false false b e = (refl, e)

no_strip : (c : ℕ) (text : List ℕ) → is_some (strip (codes "*/") (c ∷ text)) ≡ true → strip (codes "*/") (c ∷ text) ≡ None → ⊥
no_strip c text is e = false≢true (rw e at is)

pub past_end-none : (text : List ℕ) → past_end false text ≡ None → has_end text ≡ false
past_end-none [] e = refl
past_end-none (c ∷ text) e = elim (cases_Bool (is_some (strip (codes "*/") (c ∷ text)))) [
  | inl is ↦ absurd (no_strip c text is (rw is at e))
  | inr fails ↦ rw (sym (strip-end c text) ∙ fails) (past_end-none text (rw fails at e))
]

pub none-past_end : (text : List ℕ) → has_end text ≡ false → past_end false text ≡ None
none-past_end [] e = refl
none-past_end (c ∷ text) e =
    let parts = or_false (begins_end (c ∷ text)) (has_end text) e in
    rw (strip-end c text ∙ parts.0) (none-past_end text parts.1)

pub record LineCut (text : List ℕ) : Type 0 where
  pub body : List ℕ
  pub rest : List ℕ
  pub laid : text ≡ body ++ rest
  pub line : AreAll class.Inline body
  pub endless : has_end body ≡ false
  pub ends : EndsLine rest

not_inline : (c : ℕ) → eqb c 10 ≡ true → is_in class.Inline c ≡ false
not_inline c e = rw e refl

line_feed : (c : ℕ) → is_in class.Inline c ≡ false → eqb c 10 ≡ true
line_feed c e = elim (cases_Bool (eqb c 10)) [ inl is ↦ is | inr fails ↦ absurd (false≢true (sym (rw fails at e))) ]

feed_is : (c : ℕ) → eqb c 10 ≡ true → c ≡ 10
feed_is c e = eqb-true _ _ e

second_ends : (c d : ℕ) (rest : List ℕ) → is_in class.Inline d ≡ false → begins_end (c ∷ d ∷ rest) ≡ false
second_ends c d rest e = elim (cases_Bool (eqb c 42)) [
  | inl is ↦ rw (is, feed_is d (line_feed d e)) refl
  | inr fails ↦ rw fails refl
]

feed_starts : (c : ℕ) (rest : List ℕ) → eqb c 10 ≡ true → begins_end (c ∷ rest) ≡ false
feed_starts c [] e = refl
feed_starts c (d ∷ rest) e = rw (feed_is c e) refl

start_inline : (c : ℕ) (body rest : List ℕ) → EndsLine rest → begins_end (c ∷ (body ++ rest)) ≡ begins_end (c ∷ body)
start_inline c [] [] ends = refl
start_inline c [] (d ∷ rest) ends = second_ends c d rest ends
start_inline c (d ∷ body) rest ends = refl

pub past_line-none : (text : List ℕ) → past_end true text ≡ None → LineCut text
past_line-none [] e = record { body = []; rest = []; laid = refl; line = refl; endless = refl; ends = refl }
past_line-none (c ∷ text) e = elim (cases_Bool (is_some (strip (codes "*/") (c ∷ text)))) [
  | inl is ↦ absurd (no_strip c text is (rw is at e))
  | inr fails ↦ elim (cases_Bool (eqb c 10)) [
    | inl ends ↦ record { body = []; rest = c ∷ text; laid = refl; line = refl; endless = refl; ends = not_inline c ends }
    | inr goes_on ↦
        let cut = past_line-none text (rw (fails, goes_on) at e) in
        let start : begins_end (c ∷ cut.body) ≡ false =
        sym (start_inline c cut.body cut.rest cut.ends) ∙ ap (λ (x : List ℕ). begins_end (c ∷ x)) (sym cut.laid) ∙ sym (strip-end c text) ∙ fails in
        record {
          body = c ∷ cut.body;
          rest = cut.rest;
          laid = ap (λ (x : List ℕ). c ∷ x) cut.laid;
          line = and_from _ _ (goes_inline true c goes_on refl) cut.line;
          endless = rw (start, cut.endless) refl;
          ends = cut.ends;
        }
  ]
]

inline_other : (c : ℕ) → is_in class.Inline c ≡ true → eqb c 10 ≡ false
inline_other c e = elim (cases_Bool (eqb c 10)) [ inl is ↦ absurd (false≢true (rw is at e)) | inr fails ↦ fails ]

ends_here : (rest : List ℕ) → EndsLine rest → past_end true rest ≡ None
ends_here [] ends = refl
ends_here (c ∷ rest) ends =
    let feed : eqb c 10 ≡ true = line_feed c ends in
    rw (strip-end c rest ∙ feed_starts c rest feed, feed) refl

pub none-past_line : (body rest : List ℕ) → AreAll class.Inline body → has_end body ≡ false → EndsLine rest → past_end true (body ++ rest) ≡ None
none-past_line [] rest line e ends = ends_here rest ends
none-past_line (c ∷ body) rest line e ends =
    let parts = or_false (begins_end (c ∷ body)) (has_end body) e in
    let inline = and_parts (is_in class.Inline c) (list_all (is_in class.Inline) body) line in
    rw (strip-end c (body ++ rest) ∙ start_inline c body rest ends ∙ parts.0, inline_other c inline.0) (none-past_line body rest inline.1 parts.1 ends)

-- where it stands

keeps : (in_line : Bool) (c : ℕ) (body : List ℕ) → (not in_line || list_all (is_in class.Inline) (c ∷ body)) ≡ true
    → ((in_line && eqb c 10) ≡ false) × ((not in_line || list_all (is_in class.Inline) body) ≡ true)
keeps true c body e = let parts = and_parts (is_in class.Inline c) (list_all (is_in class.Inline) body) e in (inline_other c parts.0, parts.1)
keeps false c body e = (refl, refl)

pub past_end-again : (in_line : Bool) (body rest : List ℕ) → (not in_line || list_all (is_in class.Inline) body) ≡ true → has_end (body ++ codes "*") ≡ false
    → past_end in_line (body ++ (codes "*/" ++ rest)) ≡ Some rest
past_end-again in_line [] rest line first = rw (strip-again (codes "*/") rest) refl
past_end-again in_line (c ∷ body) rest line first =
    let parts = or_false (begins_end (c ∷ (body ++ codes "*"))) (has_end (body ++ codes "*")) first in
    let inline = keeps in_line c body line in
    rw (strip-end c (body ++ (codes "*/" ++ rest)) ∙ same_start c body rest ∙ parts.0, inline.0) (past_end-again in_line body rest inline.1 parts.1)
