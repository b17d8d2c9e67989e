-- How the answers of calls agree with what is meant.
use Rattle.std.specs.Prelude.{◌≡◌, Result, Ok, Err}
use Rattle.page_core.specs.declared.faults.ApplyFault.{ApplyFault}
use Rattle.page_core.specs.declared.faults.ApplyFault.TheVariants.{NoComponent, NoSibling, NotElement, NotText, NoAttribute, BadPermutation, Unbalanced, Oom}

-- the fault is the one that is meant; want of memory says nothing
abbrev pub Fails : {Y : Type 0} → ApplyFault → Result Y ApplyFault → Type 0
Fails NoComponent means = means ≡ Err NoComponent
Fails NoSibling means = means ≡ Err NoSibling
Fails NotElement means = means ≡ Err NotElement
Fails NotText means = means ≡ Err NotText
Fails NoAttribute means = means ≡ Err NoAttribute
Fails BadPermutation means = means ≡ Err BadPermutation
Fails Unbalanced means = means ≡ Err Unbalanced
Fails Oom means = Unit {0}

-- the value that is meant, or the fault
abbrev pub Gives : {X Y : Type 0} → (X → Y) → Result X ApplyFault → Result Y ApplyFault → Type 0
Gives view (Ok value) means = means ≡ Ok (view value)
Gives view (Err fault) means = Fails fault means
