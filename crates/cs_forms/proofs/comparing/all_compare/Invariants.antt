use Rattle.std.proofs.Common.{◌≡◌, drop}
use Rattle.std.specs.List.{list_all}
use Rattle.cs_rules.specs.Written.{type_of}
use Rattle.cs_forms.specs.Comparing.{compares_by}
use Rattle.cs_forms.proofs.comparing.all_compare.Given as goal

-- those so far are compared
abbrev pub invariant-loop-part : goal.invariant-loop-part
invariant-loop-part l =
    list_all (λ part. compares_by l.flags l.records (type_of part.cs_type)) l.parts ≡ list_all (λ part. compares_by l.flags l.records (type_of part.cs_type)) (drop l.part-index l.parts)
