-- Along a walk, an interpolated text is open in code alone, and no two literal texts of one stand side by side.
use Rattle.std.proofs.Common.{◌≡◌, Bool, true, false, List, ◌∷◌, drop, Some, refl, sym, ap, ◌∙◌, subst}
use Rattle.std.specs.declared.option.Option.{Option}
use Rattle.cs_token.specs.Places.{place_after}
use Rattle.cs_token.specs.Spelling as code
use Rattle.cs_token.specs.Walks.{Walk, stay, go}
use Rattle.razor_token.specs.declared.found.Found.{Found}
use Rattle.razor_token.specs.declared.piece.Piece.{Piece}
use Rattle.razor_token.specs.Contexts.{changed}
use Rattle.razor_token.specs.Cutting.{Moment, Step, found_at, last_of, stepped, opened_behind}
use Rattle.razor_ast.specs.Pieces.{counted, is_counted}
use Rattle.printable_texts.specs.Stands.{is_text_part, begins_text_part, is_no_lead}
use Rattle.printable_texts.proofs.Calm.{is_calm, calm_behind, NoPart, no_text_part, none_behind, none_uncounted}
use Rattle.printable_texts.proofs.CalmCode.{Finds, nothing, something}
use Rattle.printable_texts.proofs.CalmGoes.{all_found}
use Rattle.printable_texts.proofs.WalkSteps.{made, step_found}

-- an interpolated text is open in code alone
abbrev pub Calm : Moment → Type 0
Calm m = is_calm m.contexts (code.innermost m.opened) ≡ true

-- literal text of one can't stand next
abbrev pub Barred : Moment → Type 0
Barred m = NoPart (code.innermost m.opened) m.rest

-- what is known behind a step
pub record Stepped (m : Moment) (p : Piece) (n : Moment) : Type 0 where
  pub calm : Calm n
  pub not_part : Barred m → is_text_part p.kind ≡ false
  pub bars : is_no_lead p.kind ≡ true → Barred n
  pub uncounted : is_counted p.kind ≡ false → Barred n

found_calm : (m n : Moment) (p : Piece) (o : Option Found) → Finds m.contexts (code.innermost m.opened) m.rest o → stepped m o ≡ Some (p, n) → Stepped m p n
found_calm m n p _ nothing e = absurd (cc)
found_calm m n p _ (something kind count change leads keeps) e =
    let to = made m kind count change p n e in
    let place = place_after m.before in
    let opened = sym to.opened in
    let rest = sym to.rest in
    let barred : NoPart (code.innermost (opened_behind change.sign place m.opened)) (drop count m.rest) → Barred n =
    λ h. subst (λ z. NoPart (code.innermost z) n.rest) opened (subst (λ z. NoPart (code.innermost (opened_behind change.sign place m.opened)) z) rest h) in
    record {
      calm = ap (λ z. is_calm z (code.innermost n.opened)) to.contexts ∙ ap (λ z. is_calm (changed change m.contexts) (code.innermost z)) to.opened ∙ calm_behind m.opened change.sign place (changed change m.contexts) keeps;
      not_part = λ none. ap is_text_part to.kind_is ∙ no_text_part (code.innermost m.opened) m.rest kind change.sign count leads none;
      bars = λ e. barred (none_behind m.opened place m.rest kind change.sign count leads (ap is_no_lead (sym to.kind_is) ∙ e));
      uncounted = λ e. barred (none_uncounted m.opened place m.rest kind change.sign count leads (ap is_counted (sym to.kind_is) ∙ e));
    }

pub step_calm : (m n : Moment) (p : Piece) → Calm m → Step m p n → Stepped m p n
step_calm m n p calm first = found_calm m n p (found_at m) (all_found m.contexts m.line (code.innermost m.opened) (last_of m.before) m.rest calm) (step_found m p n first)

-- no literal text of an interpolated one comes first
pub none_first : (m n : Moment) (ps : List Piece) → Walk Step m ps n → Calm m → Barred m → begins_text_part (counted ps) ≡ false
none_first _ _ _ (stay m) calm barred = refl
none_first _ n _ (go m middle _ p ps first others) calm barred =
    let behind_it = step_calm m middle p calm first in
    by (is_counted p.kind) refl (behind_it.not_part barred) (λ e. none_first middle n ps others behind_it.calm (behind_it.uncounted e))
  where
    by : (b : Bool) → is_counted p.kind ≡ b → is_text_part p.kind ≡ false → (is_counted p.kind ≡ false → begins_text_part (counted ps) ≡ false) → begins_text_part (counted (p ∷ ps)) ≡ false
    by true is e more = rw is e
    by false is e more = rw is (more is)
