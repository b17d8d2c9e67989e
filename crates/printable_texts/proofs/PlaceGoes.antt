-- At each place, what is found fits there and leads to a place.
use Rattle.std.proofs.Common.{◌≡◌, ℕ, Bool, true, false, List, [], ◌∷◌, drop, Some, None, refl, sym, subst}
use Rattle.std.specs.Prelude.{codes, if◌then◌else◌}
use Rattle.std.specs.declared.option.Option.{Option}
use Rattle.cs_token.specs.declared.around.Around.{Around}
use Rattle.razor_token.specs.declared.context.Change.{Change}
use Rattle.razor_token.specs.declared.context.Context.{Context}
use Rattle.razor_token.specs.declared.context.Context.TheVariants as x
use Rattle.razor_token.specs.declared.context.Held.TheVariants as held
use Rattle.razor_token.specs.declared.context.Holds.{Holds}
use Rattle.razor_token.specs.declared.context.Holds.TheVariants as h
use Rattle.razor_token.specs.declared.found.Found.{Found}
use Rattle.razor_token.specs.declared.piece.PieceKind.{PieceKind}
use Rattle.razor_token.specs.declared.piece.PieceKind.TheVariants as k
use Rattle.razor_token.specs.declared.piece.Quote.{Quote}
use Rattle.razor_token.specs.declared.piece.Quote.TheVariants as q
use Rattle.razor_token.specs.Contexts.{innermost, changed, stays, leaves, becomes}
use Rattle.razor_token.specs.Cutting.{found_in}
use Rattle.razor_token.specs.Pieces.{piece}
use Rattle.razor_token.specs.Runs.{begins}
use Rattle.razor_token.specs.Tags.{is_component, is_void, held_by}
use Rattle.razor_token.specs.ValueFronts.{quoted_change, bare_change, named_at}
use Rattle.printable_texts.specs.Stands.{Where, content, end_tag, tag, named, value, behind, Fits}
use Rattle.printable_texts.proofs.OutsideGoes.{outside_goes}
use Rattle.printable_texts.proofs.OutsideLaws.{IsOuter}
use Rattle.printable_texts.proofs.OutsideLaws as outer
use Rattle.printable_texts.proofs.SupplyGoes.{Begins, quoted, bare, code_lead, shown_lead}
use Rattle.printable_texts.proofs.TagGoes.{TagGoes, in_start_tag, EndGoes, in_end_tag}
use Rattle.printable_texts.proofs.ValueGoes.{value_goes}
use Rattle.printable_texts.proofs.ValueStacks.{holds_mixed, holds_text, holds_bare, holds_code, holds_ended, InValue, base, inner, IsSaid, ValueGoes}
use Rattle.printable_texts.proofs.ValueStacks as values

-- what is open at a place
pub data At : List Context → Where → Type 0 where
  in_content : (cs : List Context) → IsOuter cs → At cs content
  in_end : (cs : List Context) → IsOuter cs → At (x.EndTag ∷ cs) end_tag
  in_tag : (component void : Bool) (cs : List Context) → IsOuter cs → At (x.StartTag component void ∷ cs) (tag component void)
  behind_a_name : (component void : Bool) (name : List ℕ) (cs : List Context) → IsOuter cs → At (x.StartTag component void ∷ cs) (named component void name)
  before_value : (component void : Bool) (name : List ℕ) (cs : List Context) → IsOuter cs → At (x.Named (held_by component name) ∷ x.StartTag component void ∷ cs) (named component void name)
  in_value : (component void : Bool) (holds : Holds) (quote : Option Quote) (cs : List Context) → InValue component void holds quote cs → At cs (value component void holds quote)

-- where the value of a parameter begins
abbrev pub BeginsSupplied : Holds → List Context → List ℕ → Type 0
BeginsSupplied h.Supplied cs rest = Begins cs rest
BeginsSupplied _ cs rest = Unit {0}

abbrev pub BeginsThere : Where → List Context → List ℕ → Type 0
BeginsThere (named component void name) cs rest = BeginsSupplied (held_by component name) cs rest
BeginsThere _ cs rest = Unit {0}

-- what is known behind the start of a value
abbrev pub LeadsTo : PieceKind → Where → List Context → List ℕ → Type 0
LeadsTo (k.ValueStart quote) place cs rest = BeginsThere place cs rest
LeadsTo _ place cs rest = Unit {0}

pub data PlaceGoes (cs : List Context) (place : Where) (text : List ℕ) : Option Found → Type 0 where
  nothing : PlaceGoes cs place text None
  on : (kind : PieceKind) (count : ℕ) (change : Change) → Fits place kind → At (changed change cs) (behind kind place) → LeadsTo kind place (changed change cs) (drop count text)
      → PlaceGoes cs place text (Some (record { kind = kind; count = count; change = change }))

-- in content and code
leads_content : (kind : PieceKind) (cs : List Context) (text : List ℕ) → LeadsTo kind content cs text
leads_content (k.ValueStart quote) cs text = tt
leads_content _ cs text = tt

from_outer : (cs : List Context) (text : List ℕ) (o : Option Found) → outer.Goes cs o → PlaceGoes cs content text o
from_outer cs text _ outer.nothing = nothing
from_outer cs text _ (outer.on kind count change fits same all) = on kind count change fits (subst (At (changed change cs)) (sym same) (in_content (changed change cs) all)) (leads_content kind _ _)
from_outer cs text _ (outer.starts name count change e all) = on (k.TagStart name) count change tt (subst (λ z. At z (tag (is_component name) (is_void name))) (sym e) (in_tag (is_component name) (is_void name) cs all)) tt
from_outer cs text _ (outer.ends name count change others e all) = on (k.EndTagStart name) count change tt (subst (λ z. At z end_tag) (sym e) (in_end others all)) tt

-- in tags
from_end : (cs : List Context) (text : List ℕ) (o : Option Found) → IsOuter cs → EndGoes o → PlaceGoes (x.EndTag ∷ cs) end_tag text o
from_end cs text _ all EndGoes.nothing = nothing
from_end cs text _ all (EndGoes.space count) = on k.Space count stays tt (in_end cs all) tt
from_end cs text _ all EndGoes.end = on k.EndTagEnd 1 leaves tt (in_content cs all) tt

from_tag : (component void : Bool) (cs : List Context) (text : List ℕ) (o : Option Found) → IsOuter cs → TagGoes component void cs o → PlaceGoes (x.StartTag component void ∷ cs) (tag component void) text o
from_tag component void cs text _ all TagGoes.nothing = nothing
from_tag component void cs text _ all (TagGoes.space count) = on k.Space count stays tt (in_tag component void cs all) tt
from_tag component void cs text _ all (TagGoes.empty count) = on k.EmptyTagEnd count leaves tt (in_content cs all) tt
from_tag component void cs text _ all (TagGoes.begins_content some) = on k.ContentStart 1 (becomes x.Element) some (in_content (x.Element ∷ cs) all) tt
from_tag component void cs text _ all (TagGoes.named name count change e) = on (k.AttributeName name) count change tt (subst (λ z. At z (named component void name)) (sym e) (behind_a_name component void name cs all)) tt
from_tag component void cs text _ all (TagGoes.named_with_value name count change e) = on (k.AttributeName name) count change tt (subst (λ z. At z (named component void name)) (sym e) (before_value component void name cs all)) tt

from_name : (component void : Bool) (old : List ℕ) (cs : List Context) (text : List ℕ) (o : Option Found) → IsOuter cs → TagGoes component void cs o → PlaceGoes (x.StartTag component void ∷ cs) (named component void old) text o
from_name component void old cs text _ all TagGoes.nothing = nothing
from_name component void old cs text _ all (TagGoes.space count) = on k.Space count stays tt (in_tag component void cs all) tt
from_name component void old cs text _ all (TagGoes.empty count) = on k.EmptyTagEnd count leaves tt (in_content cs all) tt
from_name component void old cs text _ all (TagGoes.begins_content some) = on k.ContentStart 1 (becomes x.Element) some (in_content (x.Element ∷ cs) all) tt
from_name component void old cs text _ all (TagGoes.named name count change e) = on (k.AttributeName name) count change tt (subst (λ z. At z (named component void name)) (sym e) (behind_a_name component void name cs all)) tt
from_name component void old cs text _ all (TagGoes.named_with_value name count change e) = on (k.AttributeName name) count change tt (subst (λ z. At z (named component void name)) (sym e) (before_value component void name cs all)) tt

-- where a value begins
data StartGoes (component void : Bool) (holds : Holds) (cs : List Context) (text : List ℕ) : Option Found → Type 0 where
  nothing : StartGoes component void holds cs text None
  starts : (quote : Option Quote) (count : ℕ) (change : Change) → InValue component void holds quote (changed change (x.Named holds ∷ x.StartTag component void ∷ cs))
      → BeginsSupplied holds (changed change (x.Named holds ∷ x.StartTag component void ∷ cs)) (drop count text) → StartGoes component void holds cs text (Some (record { kind = k.ValueStart quote; count = count; change = change }))

choose : (component void : Bool) (holds : Holds) (cs : List Context) (text : List ℕ) (b : Bool) (y z : Option Found) → StartGoes component void holds cs text y → StartGoes component void holds cs text z → StartGoes component void holds cs text (if b then y else z)
choose component void holds cs text true y z h i = h
choose component void holds cs text false y z h i = i

quoted_goes : (component void : Bool) (holds : Holds) (quote : Quote) (cs : List Context) (text : List ℕ) (at : Bool) → begins (codes "@") (drop 2 text) ≡ at → IsOuter cs
    → StartGoes component void holds cs text (piece (k.ValueStart (Some quote)) 2 (quoted_change holds quote at))
quoted_goes component void h.Mixed quote cs text at e all = starts (Some quote) 2 _ (base held.Mixed cs (holds_mixed quote) all) tt
quoted_goes component void h.Text quote cs text at e all = starts (Some quote) 2 _ (base held.Text cs (holds_text quote refl) all) tt
quoted_goes component void h.Code quote cs text at e all = starts (Some quote) 2 _ (base held.Code cs (holds_code (Some quote)) all) tt
quoted_goes component void h.Supplied quote cs text false e all = starts (Some quote) 2 _ (base held.Text cs (holds_text quote refl) all) (quoted quote (x.StartTag component void ∷ cs) refl e)
quoted_goes component void h.Supplied quote cs text true e all =
    starts (Some quote) 2 _ (inner x.CodeLead _ refl (base held.Code cs (holds_code (Some quote)) all)) (code_lead (x.Value held.Code (Some quote) ∷ x.StartTag component void ∷ cs) refl)
quoted_goes component void h.Event quote cs text false e all = starts (Some quote) 2 _ (base held.Code cs (holds_code (Some quote)) all) tt
quoted_goes component void h.Event quote cs text true e all = starts (Some quote) 2 _ (inner x.CodeLead _ refl (base held.Code cs (holds_code (Some quote)) all)) tt

bare_goes : (component void : Bool) (holds : Holds) (cs : List Context) (text : List ℕ) (at : Bool) → IsOuter cs → StartGoes component void holds cs text (piece (k.ValueStart None) 1 (bare_change holds at))
bare_goes component void h.Code cs text at all = starts None 1 _ (base held.Code cs (holds_code None) all) tt
bare_goes component void h.Text cs text at all = starts None 1 _ (base held.Text cs holds_bare all) tt
bare_goes component void h.Event cs text false all = starts None 1 _ (base held.Code cs (holds_code None) all) tt
bare_goes component void h.Event cs text true all = starts None 1 _ (inner x.ShownLead _ refl (base held.Ended cs (holds_ended None) all)) tt
bare_goes component void h.Mixed cs text false all = starts None 1 _ (base held.Text cs holds_bare all) tt
bare_goes component void h.Mixed cs text true all = starts None 1 _ (inner x.ShownLead _ refl (base held.Ended cs (holds_ended None) all)) tt
bare_goes component void h.Supplied cs text false all = starts None 1 _ (base held.Text cs holds_bare all) (bare (x.StartTag component void ∷ cs) refl)
bare_goes component void h.Supplied cs text true all =
    starts None 1 _ (inner x.ShownLead _ refl (base held.Ended cs (holds_ended None) all)) (shown_lead (x.Value held.Ended None ∷ x.StartTag component void ∷ cs) refl)

start_goes : (component void : Bool) (holds : Holds) (cs : List Context) (text : List ℕ) → IsOuter cs → StartGoes component void holds cs text (named_at holds text)
unfolding named_at
start_goes component void holds cs text all =
    let quotes = λ (quote : Quote). quoted_goes component void holds quote cs text (begins (codes "@") (drop 2 text)) refl all in
    let none = bare_goes component void holds cs text (begins (codes "@") (drop 1 text)) all in
    choose component void holds cs text (begins (61 ∷ 34 ∷ []) text) _ _ (quotes q.Double)
    (choose component void holds cs text (begins (61 ∷ 39 ∷ []) text) _ _ (quotes q.Single) (choose component void holds cs text (begins (codes "=") text) _ _ none nothing))

from_start : (component void : Bool) (name : List ℕ) (cs : List Context) (text : List ℕ) (o : Option Found) → StartGoes component void (held_by component name) cs text o
    → PlaceGoes (x.Named (held_by component name) ∷ x.StartTag component void ∷ cs) (named component void name) text o
from_start component void name cs text _ nothing = nothing
from_start component void name cs text _ (starts quote count change there begins_so) = on (k.ValueStart quote) count change tt (in_value component void (held_by component name) quote _ there) begins_so

-- in values
said_fits : (component void : Bool) (holds : Holds) (quote : Option Quote) (kind : PieceKind) → IsSaid holds quote kind → Fits (value component void holds quote) kind
said_fits component void holds quote (k.Literal x) h = h
said_fits component void holds quote k.ContentStart h = tt
said_fits component void holds quote _ h = tt

said_stays : (component void : Bool) (holds : Holds) (quote : Option Quote) (kind : PieceKind) → IsSaid holds quote kind → behind kind (value component void holds quote) ≡ value component void holds quote
said_stays component void holds quote (k.Literal x) h = refl
said_stays component void holds quote (k.Code kind) h = refl
said_stays component void holds quote k.Gap h = refl
said_stays component void holds quote k.At h = refl
said_stays component void holds quote k.ExpressionEnd h = refl
said_stays component void holds quote _ h = absurd h

leads_value : (component void : Bool) (holds : Holds) (quote : Option Quote) (kind : PieceKind) (cs : List Context) (text : List ℕ) → LeadsTo kind (value component void holds quote) cs text
leads_value component void holds quote (k.ValueStart quotes) cs text = tt
leads_value component void holds quote _ cs text = tt

from_value : (component void : Bool) (holds : Holds) (quote : Option Quote) (cs : List Context) (text : List ℕ) (o : Option Found) → ValueGoes component void holds quote cs o → PlaceGoes cs (value component void holds quote) text o
from_value component void holds quote cs text _ values.nothing = nothing
from_value component void holds quote cs text _ (values.on kind count change said there) =
    on kind count change (said_fits component void holds quote kind said)
    (subst (At (changed change cs)) (sym (said_stays component void holds quote kind said)) (in_value component void holds quote (changed change cs) there)) (leads_value component void holds quote kind _ _)
from_value component void holds quote cs text _ (values.ends count change others e all) =
    on k.ValueEnd count change tt (subst (λ z. At z (tag component void)) (sym e) (in_tag component void others all)) tt

pub place_goes : (cs : List Context) (place : Where) (line : Bool) (around : Option Around) (last : Option ℕ) (text : List ℕ) → At cs place → PlaceGoes cs place text (found_in (innermost cs) line around last text)
place_goes _ _ line around last text (in_content cs all) = from_outer cs text _ (outside_goes cs line around last text all)
place_goes _ _ line around last text (in_end cs all) = from_end cs text _ all (in_end_tag text)
place_goes _ _ line around last text (in_tag component void cs all) = from_tag component void cs text _ all (in_start_tag component void cs text)
place_goes _ _ line around last text (behind_a_name component void name cs all) = from_name component void name cs text _ all (in_start_tag component void cs text)
place_goes _ _ line around last text (before_value component void name cs all) = from_start component void name cs text _ (start_goes component void (held_by component name) cs text all)
place_goes _ _ line around last text (in_value component void holds quote cs there) = from_value component void holds quote cs text _ (value_goes component void holds quote cs line around last text there)
