-- The equations of what fragments show.
use Rattle.std.proofs.Common.{◌≡◌, ℕ, zero, suc, ◌+◌, ◌-◌, ◌<◌, ◌≤◌, List, refl, ap, ◌∙◌, arith}
use Rattle.std.specs.Prelude.{Option}
use Rattle.cs_ast.specs.declared.code.Code.{Code}
use Rattle.cs_ast.specs.declared.value.Value.{Value}
use Rattle.cs_meaning.specs.declared.fault.Fault.TheVariants.{CallDepth}
use Rattle.cs_meaning.specs.Meaning.{setting}
use Rattle.cs_meaning.specs.State.{Fields}
use Rattle.drawing_meaning.specs.declared.fault.PageFault.TheVariants as fault
use Rattle.drawing_meaning.specs.Acts.{Act}
use Rattle.drawing_meaning.specs.Drawing.{Drawing, faults}
use Rattle.drawing_meaning.specs.Shows.{template_items, shows, stage_at}

module _ (parameters : Fields) (bodies : List (ℕ × Code)) (templates : ℕ → Option (List Act)) where
  deep : (calls who place : ℕ) (captures : List Value) (depth : ℕ) (d : Drawing) → calls ≡ 0 → shows parameters bodies templates calls who place captures depth d ≡ faults (fault.Code CallDepth) d
  unfolding shows
  deep zero who place captures depth d e = refl
  deep (suc calls) who place captures depth d e = absurd (omega arith)

  -- a fragment where the calls are as deep as they may be
  pub deep_show : (calls who place : ℕ) (captures : List Value) (depth : ℕ) (d : Drawing) → 100 ≤ calls → shows parameters bodies templates (100 - calls) who place captures depth d ≡ faults (fault.Code CallDepth) d
  deep_show calls who place captures depth d h = deep (100 - calls) who place captures depth d (omega arith)

  abbrev template_at : ℕ → ℕ → ℕ → ℕ → List Value → ℕ → Drawing → Type 0
  template_at calls inside who place captures depth d =
      shows parameters bodies templates calls who place captures depth d
      ≡ template_items parameters bodies templates (templates place) captures (record { around = setting who parameters bodies (100 - inside); depth = depth; show = shows parameters bodies templates inside }) d

  within : (calls inside who place : ℕ) (captures : List Value) (depth : ℕ) (d : Drawing) → calls ≡ inside + 1 → template_at calls inside who place captures depth d
  unfolding shows
  within zero inside who place captures depth d e = absurd (omega arith)
  within (suc calls) inside who place captures depth d e =
      ap (λ (n : ℕ). template_items parameters bodies templates (templates place) captures (record { around = setting who parameters bodies (100 - n); depth = depth; show = shows parameters bodies templates n }) d) (omega arith)

  -- any other: its template, one deeper
  pub show_within : (calls who place : ℕ) (captures : List Value) (depth : ℕ) (d : Drawing) → calls < 100 → shows parameters bodies templates (100 - calls) who place captures depth d ≡ template_items parameters bodies templates (templates place) captures (stage_at parameters bodies templates who (calls + 1) depth) d
  show_within calls who place captures depth d h =
      let deeper : 100 - (100 - (calls + 1)) ≡ calls + 1 = omega arith in
      within (100 - calls) (100 - (calls + 1)) who place captures depth d (omega arith)
      ∙ ap (λ (n : ℕ). template_items parameters bodies templates (templates place) captures (record { around = setting who parameters bodies n; depth = depth; show = shows parameters bodies templates (100 - (calls + 1)) }) d) deeper
