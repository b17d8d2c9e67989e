-- The pieces of a text stand, from any moment and place on.
use Rattle.std.proofs.Common.{◌≡◌, ℕ, Bool, true, false, List, [], ◌∷◌, Some, refl, sym, ap, ◌∙◌, subst}
use Rattle.std.specs.declared.option.Option.{Option}
use Rattle.std.proofs.lemmas.Bool.{false≢true}
use Rattle.cs_token.specs.declared.around.Opened.{Opened}
use Rattle.cs_token.specs.Spelling as code
use Rattle.cs_token.specs.Walks.{Walk, stay, go}
use Rattle.razor_token.specs.declared.context.Context.{Context}
use Rattle.razor_token.specs.declared.context.Holds.{Holds}
use Rattle.razor_token.specs.declared.context.Holds.TheVariants as h
use Rattle.razor_token.specs.declared.found.Found.{Found}
use Rattle.razor_token.specs.declared.piece.Piece.{Piece}
use Rattle.razor_token.specs.declared.piece.PieceKind.{PieceKind}
use Rattle.razor_token.specs.declared.piece.PieceKind.TheVariants as k
use Rattle.razor_token.specs.Contexts.{changed}
use Rattle.razor_token.specs.Tags.{held_by}
use Rattle.razor_token.specs.Cutting.{Moment, Step, found_at, last_of, stepped}
use Rattle.razor_ast.specs.Pieces.{counted, is_counted}
use Rattle.printed_pieces.specs.Sound.{IsSound, AreSound}
use Rattle.printed_pieces.specs.Sound as sound
use Rattle.printable_texts.specs.Stands.{Where, named, behind, Fits, Supplies, Leads, is_no_lead, begins_text_part, Stands, none, one_more}
use Rattle.printable_texts.proofs.Calm.{is_calm}
use Rattle.printable_texts.proofs.PartWalk.{Calm, Stepped, step_calm, none_first}
use Rattle.printable_texts.proofs.PlaceGoes.{At, BeginsSupplied, LeadsTo, PlaceGoes, nothing, on, place_goes}
use Rattle.printable_texts.proofs.SupplyGoes.{Begins, quoted, bare, code_lead, shown_lead, supplies}
use Rattle.printable_texts.proofs.TextWalk.{counted_some}
use Rattle.printable_texts.proofs.WalkSteps.{made, step_found}

-- one piece more, which counts or not
uncounted : (p : Piece) (ps : List Piece) (kind : PieceKind) → p.kind ≡ kind → is_counted kind ≡ false → counted (p ∷ ps) ≡ counted ps
uncounted p ps kind is e = let none : is_counted p.kind ≡ false = ap is_counted is ∙ e in rw none refl

same_place : (kind : PieceKind) (place : Where) → is_counted kind ≡ false → behind kind place ≡ place
same_place k.Comment place e = refl
same_place k.Gap place e = refl
same_place _ place e = absurd (cc)

stands_more : (place : Where) (p : Piece) (ps : List Piece) (kind : PieceKind) → p.kind ≡ kind → IsSound p.kind → Fits place kind → Leads kind place (counted ps)
    → (is_no_lead p.kind ≡ true → begins_text_part (counted ps) ≡ false) → Stands (behind kind place) (counted ps) → Stands place (counted (p ∷ ps))
stands_more place p ps kind is sound_so fits leads apart later = by (is_counted kind) refl
  where
    by : (b : Bool) → is_counted kind ≡ b → Stands place (counted (p ∷ ps))
    by true e =
        subst (Stands place) (sym (counted_some p ps kind is e))
        (one_more place p (counted ps) sound_so (subst (Fits place) (sym is) fits) (subst (λ z. Leads z place (counted ps)) (sym is) leads) apart (subst (λ z. Stands (behind z place) (counted ps)) (sym is) later))
    by false e = subst (Stands place) (sym (uncounted p ps kind is e)) (subst (λ z. Stands z (counted ps)) (same_place kind place e) later)

-- nothing of an interpolated text is open where the value of a parameter begins
nothing_open : (c : Context) (cs outer : List Context) (opened : List Opened) → cs ≡ c ∷ outer → is_calm (c ∷ outer) (code.innermost opened) ≡ is_calm [] (code.innermost opened) → is_calm cs (code.innermost opened) ≡ true → opened ≡ []
nothing_open c cs outer [] is strict calm = refl
nothing_open c cs outer (o ∷ opened) is strict calm = absurd (false≢true (sym strict ∙ ap (λ z. is_calm z (Some o.around)) (sym is) ∙ calm))

quiet : (cs : List Context) (rest : List ℕ) (opened : List Opened) → Begins cs rest → is_calm cs (code.innermost opened) ≡ true → opened ≡ []
quiet cs rest opened (quoted quote outer is no_at) calm = nothing_open _ cs outer opened is refl calm
quiet cs rest opened (bare outer is) calm = nothing_open _ cs outer opened is refl calm
quiet cs rest opened (code_lead outer is) calm = nothing_open _ cs outer opened is refl calm
quiet cs rest opened (shown_lead outer is) calm = nothing_open _ cs outer opened is refl calm

-- a value that begins supplies its text
supplied : (holds : Holds) (m n : Moment) (ps : List Piece) → Walk Step m ps n → Calm m → BeginsSupplied holds m.contexts m.rest → Supplies holds (counted ps)
supplied h.Mixed m n ps walk calm there = tt
supplied h.Text m n ps walk calm there = tt
supplied h.Code m n ps walk calm there = tt
supplied h.Event m n ps walk calm there = tt
supplied h.Supplied m n ps walk calm there = supplies m n ps walk (quiet m.contexts m.rest m.opened there calm) there

begins_well : (place : Where) (quote : _) (m n : Moment) (ps : List Piece) → Walk Step m ps n → Calm m → LeadsTo (k.ValueStart quote) place m.contexts m.rest → Leads (k.ValueStart quote) place (counted ps)
begins_well (named component void name) quote m n ps walk calm there = supplied (held_by component name) m n ps walk calm there
begins_well _ quote m n ps walk calm there = tt

leads_so : (kind : PieceKind) (place : Where) (m n : Moment) (ps : List Piece) → Walk Step m ps n → Calm m → LeadsTo kind place m.contexts m.rest → Leads kind place (counted ps)
leads_so (k.ValueStart quote) place m n ps walk calm there = begins_well place quote m n ps walk calm there
leads_so _ place m n ps walk calm there = tt

one_step : (place : Where) (m middle n : Moment) (p : Piece) (ps : List Piece) (o : Option Found) → PlaceGoes m.contexts place m.rest o → stepped m o ≡ Some (p, middle) → IsSound p.kind → Stepped m p middle → Walk Step middle ps n
    → ((next : Where) → At middle.contexts next → Stands next (counted ps)) → Stands place (counted (p ∷ ps))
one_step place m middle n p ps _ nothing e sound_so behind_it walk later = absurd (cc)
one_step place m middle n p ps _ (on kind count change fits there leads) e sound_so behind_it walk later =
    let to = made m kind count change p middle e in
    let leads_there = subst (λ z. LeadsTo kind place z middle.rest) (sym to.contexts) (subst (λ z. LeadsTo kind place (changed change m.contexts) z) (sym to.rest) leads) in
    stands_more place p ps kind to.kind_is sound_so fits (leads_so kind place middle n ps walk behind_it.calm leads_there)
    (λ e. none_first middle n ps walk behind_it.calm (behind_it.bars e)) (later (behind kind place) (subst (λ z. At z (behind kind place)) (sym to.contexts) there))

pub walk_stands : (m n : Moment) (ps : List Piece) (place : Where) → Walk Step m ps n → AreSound ps → Calm m → At m.contexts place → Stands place (counted ps)
walk_stands _ _ _ place (stay m) _ calm here = none place
walk_stands _ n _ place (go m middle _ p ps first others) (sound.one_more _ _ is more) calm here =
    let behind_it = step_calm m middle p calm first in
    one_step place m middle n p ps (found_at m) (place_goes m.contexts place m.line (code.innermost m.opened) (last_of m.before) m.rest here) (step_found m p middle first) is behind_it others
    (λ next there. walk_stands middle n ps next others more behind_it.calm there)
