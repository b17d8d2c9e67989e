use Rattle.std.proofs.Common.{◌≡◌, ◌++◌, take}
use Rattle.std.specs.List.{flat_map}
use Rattle.cs_print.specs.Printed.{label_kinds}
use Rattle.cs_print.specs.Layout.{code_text}
use Rattle.cs_print.proofs.labels.push_labels.Given as goal

abbrev pub invariant-loop-label : goal.invariant-loop-label
invariant-loop-label l = l.out ≡ l.initial.out ++ flat_map (λ label. code_text (label_kinds label.kind)) (take l.label-index l.labels)
