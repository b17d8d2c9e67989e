-- Changes of fields found again.
use Rattle.std.proofs.Common.{◌≡◌, ℕ, ◌<◌, List, [], Bool, true, false, Some, refl, sym, ap, ◌∙◌, arith}
use Rattle.std.specs.Prelude.{◌==◌, ◌&&◌, if◌then◌else◌, cond, Option, Decides}
use Rattle.std.specs.Bool.{one_answer}
use Rattle.std.specs.Option.{option_or}
use Rattle.std.specs.Cmp.{ranks}
use Rattle.std.specs.declared.cmp.Ordering.{Ordering}
use Rattle.std.specs.declared.cmp.Ordering.TheVariants.{Less, Equal, Greater}
use Rattle.std.specs.Ordering.{MatchOrdering, nat_cmp, ordering_then, is_eq}
use Rattle.std.specs.BTreeMap.{BTreeMap, get, is_at}
use Rattle.std.specs.Map.{lookup}
use Rattle.std.proofs.lemmas.Bool.{eqb-true, eq-eqb}
use Rattle.cs_ast.specs.declared.value.Value.{Value}
use Rattle.cs_meaning.specs.State.{Fields, with_field}
use Rattle.cs_eval.specs.Changes.{field_cmp, changed}

both_equal : (x y : Ordering) → is_eq (ordering_then x y) ≡ (is_eq x && is_eq y)
both_equal Less y = refl
both_equal Equal y = refl
both_equal Greater y = refl

told : (x y : ℕ) (order : Ordering) → MatchOrdering order (x < y) (x ≡ y) (y < x) → Decides (is_eq order) (x ≡ y)
told x y Less h = (λ e. absurd (cc), λ e. absurd (omega arith))
told x y Equal h = (λ e. h, λ e. refl)
told x y Greater h = (λ e. absurd (cc), λ e. absurd (omega arith))

same_number : (x y : ℕ) → is_eq (nat_cmp x y) ≡ (y == x)
same_number x y = one_answer (is_eq (nat_cmp x y)) (y == x) (told x y (nat_cmp x y) (ranks x y)) (λ e. sym (eqb-true y x e), λ e. eq-eqb y x (sym e))

-- a change is found at its field alone
same_field : (who at who' at' : ℕ) → is_at (field_cmp (who, at)) (who', at') ≡ (who' == who && at' == at)
same_field who at who' at' =
    both_equal (nat_cmp who who') (nat_cmp at at')
    ∙ ap (λ b. b && is_eq (nat_cmp at at')) (same_number who who')
    ∙ ap (λ b. (who' == who) && b) (same_number at at')

chosen : (b : Bool) (value : Value) (found : Option Value) (field : Option Value) → option_or (cond b (Some value) found) field ≡ (if b then Some value else option_or found field)
chosen true value found field = refl
chosen false value found field = refl

-- the fields after one change more
pub changed_more : (before after : BTreeMap (ℕ × ℕ) Value) (fields : Fields) (who at : ℕ) (value : Value)
    → ((q : ℕ × ℕ) → get field_cmp after q ≡ cond (is_at (field_cmp (who, at)) q) (Some value) (get field_cmp before q))
    → (who' at' : ℕ) → changed after fields who' at' ≡ with_field (changed before fields) who at value who' at'
changed_more before after fields who at value updates who' at' =
    ap (λ o. option_or o (fields who' at')) (updates (who', at') ∙ ap (λ b. cond b (Some value) (get field_cmp before (who', at'))) (same_field who at who' at'))
    ∙ chosen (who' == who && at' == at) value (get field_cmp before (who', at')) (fields who' at')

-- without changes the fields are as they were
pub unchanged : (changes : BTreeMap (ℕ × ℕ) Value) (fields : Fields) → changes.entries ≡ [] → changed changes fields ≡ fields
unchanged changes fields e =
    let seen : List ((ℕ × ℕ) × Value) → Fields = λ entries who at. option_or (lookup (is_at (field_cmp (who, at))) entries) (fields who at) in
    ap seen e
