-- The parts of code and what they mean.
use Rattle.std.proofs.Common.{◌≡◌, List, [], ◌∷◌, map, refl, sym, ap, ◌∙◌}
use Rattle.std.specs.Prelude.{option_map, find, cond, Option, Some, None, true, false}
use Rattle.std.specs.Prelude.{Bool as Truth}
use Rattle.std.specs.List.{list_any, cons_option}
use Rattle.std.specs.Option.{option_or}
use Rattle.cs_ast.specs.declared.value.Value.{Value}
use Rattle.cs_ast.specs.declared.code.Code.{Code, out-Code}
use Rattle.cs_ast.specs.declared.code.Code.TheVariants as c
use Rattle.cs_ast.specs.declared.code.Code.TheViews.{roll-Code, roll-out-Code, out-roll-Code}
use Rattle.cs_ast.specs.declared.code.Code.TheOpen.{Code-F}
use Rattle.cs_ast.specs.declared.code.Code.TheFolds.{map-Code, fold-Code, fold_out-Code}
use Rattle.cs_meaning.specs.Outcome.{Meaning}
use Rattle.cs_meaning.specs.Equality.{is_same}
use Rattle.cs_meaning.specs.Sections.{Section, section, section_in, section_of, sections_of, selected}
use Rattle.cs_meaning.specs.Meaning.{Setting, Part, running, level, meanings, sections_in, section_meaning, meaning_by, meaning}

-- a section with other statements
abbrev over_statements : {A B : Type 0} → (A → B) → Section A → Section B
over_statements f it = section it.constants it.otherwise (f it.statements)

found_over : {A B : Type 0} (f : A → B) (test : Section B → Truth) (sections : List (Section A)) → find test (map (over_statements f) sections) ≡ option_map (over_statements f) (find (λ it. test (over_statements f it)) sections)
found_over f test [] = refl
found_over f test (one ∷ others) = by (test (over_statements f one)) (found_over f test others)
  where
    by : (b : Truth) → find test (map (over_statements f) others) ≡ option_map (over_statements f) (find (λ it. test (over_statements f it)) others) → cond b (Some (over_statements f one)) (find test (map (over_statements f) others)) ≡ option_map (over_statements f) (cond b (Some one) (find (λ it. test (over_statements f it)) others))
    by true others_too = refl
    by false others_too = others_too

either_over : {A B : Type 0} (f : A → B) (one other : Option (Section A)) → option_map (λ (it : Section B). it.statements) (option_or (option_map (over_statements f) one) (option_map (over_statements f) other)) ≡ option_map f (option_map (λ (it : Section A). it.statements) (option_or one other))
either_over f None None = refl
either_over f None (Some x) = refl
either_over f (Some x) other = refl

-- what is selected does not depend on what the statements are
pub selected_over : {A B : Type 0} (f : A → B) (x : Value) (sections : List (Section A)) → selected x (map (over_statements f) sections) ≡ option_map f (selected x sections)
selected_over {A} {B} f x sections =
    ap (λ o. option_map (λ (it : Section B). it.statements) (option_or o (find (λ it. it.otherwise) (map (over_statements f) sections)))) (found_over f (λ it. list_any (is_same x) it.constants) sections)
    ∙ ap (λ o. option_map (λ (it : Section B). it.statements) (option_or (option_map (over_statements f) (find (λ it. list_any (is_same x) it.constants) sections)) o)) (found_over f (λ it. it.otherwise) sections)
    ∙ either_over f (find (λ it. list_any (is_same x) it.constants) sections) (find (λ it. it.otherwise) sections)

module _ (around : Setting) where
  abbrev pub whole : Code → Part
  whole = fold-Code Part (level around.parameters (running around) around.who)

  pub all_meanings : (codes : List Code) → meanings (map whole codes) ≡ map (meaning around) codes
  unfolding meaning_by
  all_meanings [] = refl
  all_meanings (code ∷ codes) = ap (λ (l : List Meaning). meaning around code ∷ l) (all_meanings codes)

  section_level : (x : Code-F Code) → option_map section_meaning (section_in (map-Code Code Part whole x)) ≡ option_map (over_statements (map (meaning around))) (section_in x)
  section_level (Code-F.Section constants otherwise statements) = ap (λ (l : List Meaning). Some (section constants otherwise l)) (all_meanings statements)
  section_level _ = refl

  section_whole : (code : Code) → (whole code).section ≡ option_map (over_statements (map (meaning around))) (section_of code)
  section_whole code = ap (λ (it : Part). it.section) (fold_out-Code Part (level around.parameters (running around) around.who) code) ∙ section_level (out-Code code)

  sections_whole : (codes : List Code) → sections_in (map whole codes) ≡ map (over_statements (map (meaning around))) (sections_of codes)
  sections_whole [] = refl
  sections_whole (code ∷ codes) =
      ap (λ o. cons_option o (sections_in (map whole codes))) (section_whole code)
      ∙ ap (cons_option (option_map (over_statements (map (meaning around))) (section_of code))) (sections_whole codes)
      ∙ in_front (section_of code)
    where
      in_front : (o : Option (Section (List Code))) → cons_option (option_map (over_statements (map (meaning around))) o) (map (over_statements (map (meaning around))) (sections_of codes)) ≡ map (over_statements (map (meaning around))) (cons_option o (sections_of codes))
      in_front None = refl
      in_front (Some it) = refl

  pub same_selected : (sections : List Code) (x : Value) → selected x (sections_in (map whole sections)) ≡ option_map (map (meaning around)) (selected x (sections_of sections))
  same_selected sections x = ap (selected x) (sections_whole sections) ∙ selected_over (map (meaning around)) x (sections_of sections)

-- the section that a code is
pub section_some : (constants : List Value) (otherwise : Truth) (statements : List Code) → section_of (c.Section constants otherwise statements) ≡ Some (section constants otherwise statements)
section_some constants otherwise statements = ap section_in (ap out-Code (sym (c.rolls-Section constants otherwise statements)) ∙ out-roll-Code (Code-F.Section constants otherwise statements))

-- no other code is one
pub section_none : (code : Code) → ((constants : List Value) (otherwise : Truth) (statements : List Code) → code ≡ c.Section constants otherwise statements → ⊥) → section_of code ≡ None
section_none code other = by (out-Code code) (roll-out-Code code)
  where
    by : (x : Code-F Code) → roll-Code x ≡ code → section_in x ≡ None
    by (Code-F.Section constants otherwise statements) e = absurd (other constants otherwise statements (sym e ∙ c.rolls-Section constants otherwise statements))
    by _ e = refl
