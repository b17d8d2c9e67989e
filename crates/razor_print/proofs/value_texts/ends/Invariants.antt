use Rattle.std.proofs.Common.{◌≡◌, ◌-◌, length, reverse}
use Rattle.razor_print.specs.ValueTexts.{ends_from, stands_in}
use Rattle.razor_print.proofs.value_texts.ends.Given as goal

-- the answer is that from here on
abbrev pub invariant-loop-step : goal.invariant-loop-step
invariant-loop-step l = stands_in l.quote l.text ≡ ends_from l.quote (length l.text - l._step) l.depth (reverse l.opened.items) l.rest
