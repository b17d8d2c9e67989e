use Rattle.std.proofs.Common.{◌≡◌, ℕ, ◌+◌, ◌≤◌, ◌<◌, List, [], ◌∷◌, ◌++◌, length, drop, true, false, rules, arith, sym, ap, subst, ◌∙◌}
use Rattle.std.proofs.lemmas.List.{drop_more, drop_all}
use Rattle.cs_ast.specs.declared.identifier.Ident.{Ident}
use Rattle.cs_ast.specs.declared.member.Member.{Member}
use Rattle.razor_rules.specs.Records.{Holds}
use Rattle.razor_parts.proofs.CircleLaws.{Circular, name_in, none_found, one_found, none_more, all_found}
use Rattle.razor_parts.proofs.circles.circular_names.Goals as goal
use Rattle.razor_parts.proofs.circles.circular_names.Goals.{then-branch+in_ok-clone+in_ok-push, else-branch}

pub loop-record-init : goal.loop-record-init
loop-record-init c = subst (λ names. Circular c.args.records.now names c.args.records.now) (sym c.new-names.ensures) (none_found c.args.records.now)

pub loop-record-preserved : goal.loop-record-preserved
loop-record-preserved c =
    let records = c.args.records.now in
    let one = c.record-item.result in
    let rest = drop (c.loop-record.record-index + 1) records in
    let within : c.loop-record.record-index < length records = search rules in
    let here : drop c.loop-record.record-index records ≡ one ∷ rest =
    drop_more records c.loop-record.record-index one within ∙ ap (λ (x : Member). x ∷ rest) (sym c.record-item.is) in
    let before : Circular records c.loop-record.names (one ∷ rest) = subst (λ xs. Circular records c.loop-record.names xs) here c.loop-record.invariant in
    let named : c.member_name.result.now.name ≡ name_in records one = ap (λ (i : Ident). i.name) c.member_name.ensures in
    elim c.if-branch.branch [
      | then-branch+in_ok-clone+in_ok-push w ↦
          let longer : c.if-branch.names ≡ c.loop-record.names ++ c.member_name.result.now.name ∷ [] = search rules in
          let is : c.if-branch.names ≡ c.loop-record.names ++ name_in records one ∷ [] =
          longer ∙ ap (λ (n : List ℕ). c.loop-record.names ++ n ∷ []) named in
          let holds = c.in_ok-contains_itself.ensures.0 w.if-branch.true in
          subst (λ names. Circular records names rest) (sym is)
          (one_found records c.loop-record.names one rest before (subst (λ n. Holds records n n) named holds))
      | else-branch w ↦
          subst (λ names. Circular records names rest) (sym w.names-is)
          (none_more records c.loop-record.names one rest before
          (λ holds.
          let told : c.in_ok-contains_itself.field-0 ≡ true = c.in_ok-contains_itself.ensures.1 (subst (λ n. Holds records n n) (sym named) holds) in
          let off : c.in_ok-contains_itself.field-0 ≡ false = w.if-branch.false in
          cc (told, off)))
    ]

pub returns : goal.returns
returns c =
    let ended : length c.args.records.now ≤ c.loop-record.record-index = omega arith in
    all_found c.args.records.now c.loop-record.names
    (subst (λ rest. Circular c.args.records.now c.loop-record.names rest) (drop_all c.loop-record.record-index c.args.records.now ended) c.loop-record.invariant)
