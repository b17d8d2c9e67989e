use Rattle.std.proofs.Common.{◌≡◌, ◌++◌, drop, map}
use Rattle.std.specs.Prelude.{filter}
use Rattle.razor_rules.specs.Members.{is_record, name_of}
use Rattle.rule_findings.specs.Views.{ident_of, text_of}
use Rattle.razor_parts.proofs.records.push_record_names.Given as goal

-- those so far, and those of the rest
abbrev pub invariant-loop-member : goal.invariant-loop-member
invariant-loop-member l =
    record {
      idents : map ident_of l.fn.names.items ++ map (λ one. name_of one.kind) (filter (λ one. is_record one.kind) l.members)
          ≡ map ident_of l.names.items ++ map (λ one. name_of one.kind) (filter (λ one. is_record one.kind) (drop l.member-index l.members));
      texts : map text_of l.fn.names.items ++ map (λ one. (name_of one.kind).name) (filter (λ one. is_record one.kind) l.members)
          ≡ map text_of l.names.items ++ map (λ one. (name_of one.kind).name) (filter (λ one. is_record one.kind) (drop l.member-index l.members));
    }
