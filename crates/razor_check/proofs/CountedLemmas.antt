-- The parts that count, from a place on.
use Rattle.std.proofs.Common.{◌≡◌, ℕ, ◌+◌, ◌<◌, ◌≤◌, List, [], ◌∷◌, length, map, get_or, drop, refl, ap, sym, ◌∙◌}
use Rattle.std.specs.Prelude.{true, false, Option}
use Rattle.std.proofs.lemmas.List.{at_drop_all, drop_more}
use Rattle.cs_ast.specs.declared.identifier.Ident.{Ident}
use Rattle.cs_rules.specs.declared.rule.Rule.TheVariants.{MixedContent}
use Rattle.razor_rules.specs.declared.finding.Broken.{Broken}
use Rattle.razor_rules.specs.declared.ground.Ground.{Ground}
use Rattle.razor_rules.specs.Findings.{also, broken}
use Rattle.razor_rules.specs.Parameters.{Tagged}
use Rattle.razor_rules.specs.Parts.{Part}
use Rattle.razor_rules.specs.Tags.{by_tag, counted, fragment_by, is_fragment_tag, mixed_rules, tags_rules}
use Rattle.razor_rules.proofs.FirstLaws.{also_append, also_nothing}

left_out : (one : Part) (others : List Part) → one.blank ≡ true → counted (one ∷ others) ≡ counted others
left_out one others blank = rw blank refl

taken_in : (one : Part) (others : List Part) → one.blank ≡ false → counted (one ∷ others) ≡ one ∷ counted others
taken_in one others blank = rw blank refl

mixed_on : (tag : Tagged) (one : Part) (others : List Part) → is_fragment_tag tag one ≡ true → mixed_rules tag (one ∷ others) ≡ mixed_rules tag others
mixed_on tag one others tagged = rw tagged refl

mixed_here : (tag : Tagged) (one : Part) (others : List Part) → is_fragment_tag tag one ≡ false → mixed_rules tag (one ∷ others) ≡ broken MixedContent one.place ∷ []
mixed_here tag one others untagged = rw untagged refl

module _ {A : Type 0} (view : A → Part) (xs : List A) (i : ℕ) (x : A) (within : i < length xs) (is : x ≡ get_or xs i x) where
  first : counted (map view (drop i xs)) ≡ counted (view x ∷ map view (drop (i + 1) xs))
  first = ap (λ ys. counted (map view ys)) (drop_more xs i x within ∙ ap (λ y. y ∷ drop (i + 1) xs) (sym is))

  pub blank_left : (view x).blank ≡ true → counted (map view (drop i xs)) ≡ counted (map view (drop (i + 1) xs))
  blank_left blank = first ∙ left_out (view x) (map view (drop (i + 1) xs)) blank

  pub counted_first : (view x).blank ≡ false → counted (map view (drop i xs)) ≡ view x ∷ counted (map view (drop (i + 1) xs))
  counted_first blank = first ∙ taken_in (view x) (map view (drop (i + 1) xs)) blank

  pub tag_first : (before : Option Broken) (tag : Tagged) (g : Ground) (outer : Option Ident) → (view x).blank ≡ false →
      also before (tags_rules tag (counted (map view (drop i xs))) g outer)
      ≡ also (also before (by_tag (fragment_by tag (view x).tag) g outer (view x))) (tags_rules tag (counted (map view (drop (i + 1) xs))) g outer)
  tag_first before tag g outer blank =
      ap (λ parts. also before (tags_rules tag parts g outer)) (counted_first blank)
      ∙ also_append before (by_tag (fragment_by tag (view x).tag) g outer (view x)) (tags_rules tag (counted (map view (drop (i + 1) xs))) g outer)

  pub mixed_further : (tag : Tagged) → (view x).blank ≡ false → is_fragment_tag tag (view x) ≡ true →
      mixed_rules tag (counted (map view (drop i xs))) ≡ mixed_rules tag (counted (map view (drop (i + 1) xs)))
  mixed_further tag blank tagged = ap (mixed_rules tag) (counted_first blank) ∙ mixed_on tag (view x) (counted (map view (drop (i + 1) xs))) tagged

  pub mixed_at : (tag : Tagged) → (view x).blank ≡ false → is_fragment_tag tag (view x) ≡ false → mixed_rules tag (counted (map view (drop i xs))) ≡ broken MixedContent (view x).place ∷ []
  mixed_at tag blank untagged = ap (mixed_rules tag) (counted_first blank) ∙ mixed_here tag (view x) (counted (map view (drop (i + 1) xs))) untagged

pub tags_none : {A : Type 0} (view : A → Part) (xs : List A) (i : ℕ) (before : Option Broken) (tag : Tagged) (g : Ground) (outer : Option Ident) → length xs ≤ i →
    also before (tags_rules tag (counted (map view (drop i xs))) g outer) ≡ before
tags_none view xs i before tag g outer over = at_drop_all (λ ys. also before (tags_rules tag (counted (map view ys)) g outer)) xs i over ∙ also_nothing before

pub mixed_none : {A : Type 0} (view : A → Part) (xs : List A) (i : ℕ) (tag : Tagged) → length xs ≤ i → mixed_rules tag (counted (map view (drop i xs))) ≡ []
mixed_none view xs i tag over = at_drop_all (λ ys. mixed_rules tag (counted (map view ys))) xs i over
