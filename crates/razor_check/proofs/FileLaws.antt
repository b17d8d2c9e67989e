-- From file to file.
use Rattle.std.proofs.Common.{◌≡◌, ℕ, ◌+◌, ◌<◌, List, [], ◌∷◌, ◌++◌, length, map, take, drop, get_or, refl, sym, ap, subst, ◌∙◌}
use Rattle.std.specs.Prelude.{Bool, sum, Option, None}
use Rattle.std.proofs.lemmas.List.{take_more, drop_more, map-append}
use Rattle.std.proofs.lemmas.List.Sums.{sum_by_push}
use Rattle.razor_ast.specs.declared.component.Component.{Component}
use Rattle.cs_ast.specs.declared.scope.Effect.{Effect}
use Rattle.razor_rules.specs.declared.finding.Broken.{Broken}
use Rattle.razor_rules.specs.Findings.{also, first_of}
use Rattle.razor_rules.specs.Numbers.{span, first_number}
use Rattle.std.specs.List.{AllZip}
use Rattle.razor_rules.specs.Records.{IsCircular}
use Rattle.razor_rules.specs.Restrictions.{impure_in, invoking_in}
use Rattle.razor_rules.specs.Scopes.{effects_in}
use Rattle.razor_rules.proofs.FirstLaws.{also_append}
use Rattle.razor_rules.specs.Programs as programs
use Rattle.razor_rules.specs.Programs.{files_rules, first_in, file_rules, home_of, of_file, finding_or, first_broken, BreaksFirst}
use Rattle.razor_check.specs.declared.programs.Facts.{Facts}
use Rattle.razor_check.specs.Files.{AreTold, facts, rules_by}
use Rattle.razor_check.specs.Members.{among}

-- where nothing was found before
pub also_first : (xs : List Broken) → also None xs ≡ first_of xs
unfolding also
also_first xs = refl

-- the file at a position, and those behind it
pub files_more : (components : List Component) (circular : List ℕ → Bool) (position : ℕ) (one : Component) (effect : List Effect) (effects : List (List Effect)) →
    position < length components → one ≡ get_or components position one →
    first_in position (files_rules components circular position (drop position components) (effect ∷ effects))
    ≡ finding_or position (first_of (of_file components circular position one effect)) (first_in (position + 1) (files_rules components circular (position + 1) (drop (position + 1) components) effects))
files_more components circular position one effect effects within is =
    ap (λ cs. first_in position (files_rules components circular position cs (effect ∷ effects))) (drop_more components position one within ∙ ap (λ c. c ∷ drop (position + 1) components) (sym is))

pub number_more : (components : List Component) (position : ℕ) (one : Component) → position < length components → one ≡ get_or components position one →
    first_number components (position + 1) ≡ first_number components position + span one
number_more components position one within is =
    ap (λ cs. sum (map span cs)) (take_more components position one within ∙ ap (λ c. take position components ++ c ∷ []) (sym is))
    ∙ ap sum (map-append span (take position components) (one ∷ []))
    ∙ sum_by_push (λ x. x) (map span (take position components)) (span one)

-- what is told of a program is true of it
pub told : (components : List Component) (f : Facts) (it : Option programs.Finding) → AreTold components f → it ≡ first_broken components (facts f) → BreaksFirst components it
told components f it known is =
    (facts f, record { effects = known.effects; circular = subst (λ records. IsCircular records (among f.circular)) known.records known.circular }, sym is)

-- one more component and what is told of it
pub zip_more : {A B : Type 0} (R : A → B → Type 0) (xs : List A) (ys : List B) (x : A) (y : B) → AllZip R xs ys → R x y → AllZip R (xs ++ x ∷ []) (ys ++ y ∷ [])
zip_more R [] [] x y all one = (one, tt)
zip_more R [] (b ∷ ys) x y all one = absurd all
zip_more R (a ∷ xs) [] x y all one = absurd all
zip_more R (a ∷ xs) (b ∷ ys) x y all one = (all.0, zip_more R xs ys x y all.1 one)

-- what is found by name, then among members, then in the template
pub file_found : (begun named checked whole : Option Broken) (names members nodes : List Broken) → begun ≡ None → named ≡ also begun names → checked ≡ also named members → whole ≡ also checked nodes →
    whole ≡ first_of (names ++ members ++ nodes)
file_found begun named checked whole names members nodes a b c d =
    d
    ∙ ap (λ (o : Option Broken). also o nodes) (c ∙ ap (λ (o : Option Broken). also o members) (b ∙ ap (λ (o : Option Broken). also o names) a) ∙ sym (also_append None names members))
    ∙ sym (also_append None (names ++ members) nodes)
    ∙ also_first (names ++ members ++ nodes)

-- a file, by the bodies that do what is forbidden
pub file_law : (components : List Component) (circular : List ℕ → Bool) (position : ℕ) (one : Component) (effects : List Effect) → of_file components circular position one effects
    ≡ rules_by (take position components) (home_of components position one) one (invoking_in (effects_in (home_of components position one) effects))
    (impure_in (effects_in (home_of components position one) effects)) circular
unfolding file_rules
file_law components circular position one effects = refl
