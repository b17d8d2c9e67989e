-- Names one after another.
use Rattle.std.proofs.Common.{◌≡◌, ℕ, ◌+◌, ◌<◌, List, [], ◌∷◌, ◌++◌, length, map, take, drop, get_or, sym, ap, ◌∙◌, refl, inl, inr, append_assoc}
use Rattle.std.specs.Prelude.{not, ◌&&◌, ◌||◌, Bool, true, false, bytes_eq, Option}
use Rattle.std.proofs.lemmas.Bool.{cases_Bool}
use Rattle.std.proofs.lemmas.List.{drop_more, take_more, map-append}
use Rattle.cs_rules.specs.declared.rule.Rule.{Rule}
use Rattle.razor_rules.specs.declared.finding.Broken.{Broken}
use Rattle.razor_rules.specs.Findings.{also, broken_unless}
use Rattle.razor_rules.specs.Names.{is_among, repeated}
use Rattle.razor_rules.proofs.FirstLaws.{also_append}
use Rattle.rule_findings.specs.declared.names.Name.{Name}
use Rattle.rule_findings.specs.Views.{text_of, ident_of}

-- among the one or the other
among_append : (x : List ℕ) (a b : List (List ℕ)) → is_among x (a ++ b) ≡ (is_among x a || is_among x b)
among_append x [] b = refl
among_append x (y ∷ a) b = elim (cases_Bool (bytes_eq x y)) [ inl h ↦ rw h refl | inr h ↦ rw h (among_append x a b) ]

pub not_among : (x : List ℕ) (a b : List (List ℕ)) → not (is_among x (a ++ b)) ≡ (not (is_among x a) && not (is_among x b))
not_among x a b = ap not (among_append x a b) ∙ neither (is_among x a) (is_among x b)
  where
    neither : (p q : Bool) → not (p || q) ≡ (not p && not q)
    neither true q = refl
    neither false q = refl

-- what is found in names from one on: what is found of it, and what is found in those behind it
pub repeated_more : (rule : Rule) (before : Option Broken) (others : List (List ℕ)) (names : List Name) (at : ℕ) (x : Name) → at < length names → x ≡ get_or names at x →
    also before (repeated rule (others ++ map text_of (take at names)) (map ident_of (drop at names)))
    ≡ also (also before (broken_unless (not (is_among (text_of x) (others ++ map text_of (take at names)))) rule x.place))
    (repeated rule (others ++ map text_of (take (at + 1) names)) (map ident_of (drop (at + 1) names)))
repeated_more rule before others names at x within is =
    ap (λ ys. also before (repeated rule (others ++ map text_of (take at names)) (map ident_of ys))) (drop_more names at x within ∙ ap (λ y. y ∷ drop (at + 1) names) (sym is))
    ∙ also_append before (broken_unless (not (is_among (text_of x) (others ++ map text_of (take at names)))) rule x.place)
    (repeated rule ((others ++ map text_of (take at names)) ++ text_of x ∷ []) (map ident_of (drop (at + 1) names)))
    ∙ ap (λ zs. also (also before (broken_unless (not (is_among (text_of x) (others ++ map text_of (take at names)))) rule x.place)) (repeated rule zs (map ident_of (drop (at + 1) names))))
    (append_assoc others (map text_of (take at names)) (text_of x ∷ [])
    ∙ ap (λ zs. others ++ zs) (sym (map-append text_of (take at names) (x ∷ [])) ∙ ap (map text_of) (ap (λ y. take at names ++ y ∷ []) is ∙ sym (take_more names at x within))))
