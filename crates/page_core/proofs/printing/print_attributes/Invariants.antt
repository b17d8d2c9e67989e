use Rattle.std.proofs.Common.{◌≡◌, ◌++◌, map}
use Rattle.page_core.specs.Print.{attributes_text}
use Rattle.page_core.proofs.printing.print_attributes.Given as goal

-- the attributes so far are printed
abbrev pub invariant-loop-name : goal.invariant-loop-name
invariant-loop-name l = l.out ≡ l.initial.out ++ attributes_text (map (λ e. (e.0.now, e.1.now)) l.yielded)
