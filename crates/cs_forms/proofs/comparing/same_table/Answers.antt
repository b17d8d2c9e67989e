use Rattle.std.proofs.Common.{◌≡◌, Bool, true, false, Decides, refl, sym}
use Rattle.std.proofs.lemmas.Slice.Eq.{slice_eq-Decides}
use mathlib.Core.Bool.{beq}
use Rattle.cs_forms.proofs.comparing.same_table.Goals as goal

flags_decided : (a b : Bool) → Decides (beq a b) (a ≡ b)
flags_decided true true = (λ e. refl, λ e. refl)
flags_decided true false = (λ e. sym e, λ e. sym e)
flags_decided false true = (λ e. e, λ e. e)
flags_decided false false = (λ e. refl, λ e. refl)

pub returns : goal.returns
returns c = slice_eq-Decides flags_decided c.args.a.now c.args.b.now c.eq.result c.eq.ensures
