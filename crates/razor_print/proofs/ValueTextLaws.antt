-- A text is gone through step by step.
use Rattle.std.proofs.Common.{◌≡◌, ℕ, zero, suc, ◌+◌, ◌-◌, ◌<◌, List, [], ◌∷◌, length, drop, false, Some, None, refl, sym, ap, ◌∙◌, subst, arith}
use Rattle.std.specs.Prelude.{Bool, ◌==◌}
use Rattle.std.specs.declared.option.Option.{Option}
use Rattle.cs_token.specs.declared.around.Opened.{Opened}
use Rattle.razor_token.specs.declared.piece.Quote.{Quote}
use Rattle.razor_print.specs.declared.value_texts.Stride.{Stride}
use Rattle.razor_print.specs.ValueTexts.{Step, step_of, step_at, ends_from, stands_in}

-- what a step comes to
abbrev behind_step : Quote → ℕ → List ℕ → Option Step → Bool
behind_step quote n text found = elim found [ None ↦ false | Some step ↦ ends_from quote n step.depth step.opened (drop step.count text) ]

one_step : (quote : Quote) (n depth : ℕ) (opened : List Opened) (text : List ℕ) (found : Option Step) → 0 < length text → found ≡ step_at quote depth opened text
    → ends_from quote (suc n) depth opened text ≡ behind_step quote n text found
one_step quote n depth opened [] found some e = absurd (omega (arith, some))
one_step quote n depth opened (c ∷ text) found some e = subst (λ x. ends_from quote (suc n) depth opened (c ∷ text) ≡ behind_step quote n (c ∷ text) x) (sym e) refl

-- there is a step more
fuel : (n i : ℕ) → i < n → n - i ≡ suc (n - (i + 1))
fuel n i less = omega (arith, less)

-- at the start
pub begun : (quote : Quote) (text : List ℕ) → stands_in quote text ≡ ends_from quote (length text - 0) 0 [] text
unfolding stands_in
begun quote text = let same : length text ≡ length text - 0 = omega arith in ap (λ n. ends_from quote n 0 [] text) same

pub goes_on : (quote : Quote) (text rest next : List ℕ) (i depth : ℕ) (opened behind : List Opened) (stride : Stride) → i < length text → 0 < length rest
    → Some (step_of behind stride) ≡ step_at quote depth opened rest → next ≡ drop stride.count rest
    → stands_in quote text ≡ ends_from quote (length text - i) depth opened rest
    → stands_in quote text ≡ ends_from quote (length text - (i + 1)) stride.depth behind next
goes_on quote text rest next i depth opened behind stride less some found is so_far =
    so_far ∙ ap (λ n. ends_from quote n depth opened rest) (fuel (length text) i less)
    ∙ one_step quote (length text - (i + 1)) depth opened rest (Some (step_of behind stride)) some found
    ∙ ap (λ xs. ends_from quote (length text - (i + 1)) stride.depth behind xs) (sym is)

-- no step leads on
pub stops : (quote : Quote) (text rest : List ℕ) (i depth : ℕ) (opened : List Opened) → i < length text → 0 < length rest
    → None ≡ step_at quote depth opened rest
    → stands_in quote text ≡ ends_from quote (length text - i) depth opened rest
    → false ≡ stands_in quote text
stops quote text rest i depth opened less some found so_far =
    sym (so_far ∙ ap (λ n. ends_from quote n depth opened rest) (fuel (length text) i less) ∙ one_step quote (length text - (i + 1)) depth opened rest None some found)

-- at the end of the text
ended : (quote : Quote) (n depth : ℕ) (opened : List Opened) (rest : List ℕ) → length rest ≡ 0 → ends_from quote n depth opened rest ≡ (depth == 0)
ended quote n depth opened [] none = refl
ended quote n depth opened (c ∷ rest) none = absurd (omega (arith, none))

pub is_through : (quote : Quote) (text rest : List ℕ) (n depth : ℕ) (opened : List Opened) → length rest ≡ 0
    → stands_in quote text ≡ ends_from quote n depth opened rest → (depth == 0) ≡ stands_in quote text
is_through quote text rest n depth opened none so_far = sym (so_far ∙ ended quote n depth opened rest none)

-- the steps are spent before it
spent : (quote : Quote) (n depth : ℕ) (opened : List Opened) (rest : List ℕ) → n ≡ 0 → 0 < length rest → ends_from quote n depth opened rest ≡ false
spent quote zero depth opened [] none some = absurd (omega (arith, some))
spent quote zero depth opened (c ∷ rest) none some = refl
spent quote (suc n) depth opened rest none some = absurd (omega (arith, none))

pub is_short : (quote : Quote) (text rest : List ℕ) (n depth : ℕ) (opened : List Opened) → n ≡ 0 → 0 < length rest
    → stands_in quote text ≡ ends_from quote n depth opened rest → false ≡ stands_in quote text
is_short quote text rest n depth opened none some so_far = sym (so_far ∙ spent quote n depth opened rest none some)
