-- A field that gets another value.
use Rattle.std.proofs.Common.{◌≡◌, ℕ, zero, suc, ◌<◌, Bool, true, false, List, [], ◌∷◌, length, Option, Some, option_map, arith, refl, ◌∙◌, ap, inl, inr}
use Rattle.std.specs.Prelude.{◌==◌, if◌then◌else◌, slice_get, slice_set}
use Rattle.std.proofs.Math.Dec.{eqb-suc-zero, eqb-zero-suc, eqb-suc-suc}
use Rattle.std.proofs.lemmas.Bool.{cases_Bool}
use Rattle.cs_meaning.specs.State.{with_field}
use Rattle.first_click.specs.declared.component.Field.{Field}
use Rattle.plain_page.specs.Present.{fields_of}

set_found : (fields : List Field) (at a : ℕ) (field : Field) → at < length fields → slice_get (slice_set fields at field) a ≡ (if a == at then Some field else slice_get fields a)
set_found [] at a field within = absurd (omega arith)
set_found (x ∷ xs) zero zero field within = refl
set_found (x ∷ xs) zero (suc a) field within = rw (eqb-suc-zero a) refl
set_found (x ∷ xs) (suc at) zero field within = rw (eqb-zero-suc at) refl
set_found (x ∷ xs) (suc at) (suc a) field within = rw (eqb-suc-suc a at) (set_found xs at a field (omega arith))

chosen : (b : Bool) (field : Field) (found : Option Field) →
    option_map (λ (f : Field). f.value) (if b then Some field else found) ≡ (if b then Some field.value else option_map (λ (f : Field). f.value) found)
chosen true field found = refl
chosen false field found = refl

-- the values of the fields where one gets a value
pub set_values : (fields : List Field) (at : ℕ) (field : Field) (who a : ℕ) → at < length fields →
    fields_of (slice_set fields at field) who a ≡ with_field (fields_of fields) 1 at field.value who a
set_values fields at field who a within =
    elim (cases_Bool (who == 1)) [
      | inl one ↦ rw one (ap (option_map (λ (f : Field). f.value)) (set_found fields at a field within) ∙ chosen (a == at) field (slice_get fields a))
      | inr other ↦ rw other refl
    ]
