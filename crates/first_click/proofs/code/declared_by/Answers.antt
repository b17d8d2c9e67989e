use Rattle.std.proofs.Common.{◌≡◌, false, None, Some, map, length, ap, sym, ◌∙◌, arith}
use Rattle.first_click.specs.Members.{are_named_well, fields_of}
use Rattle.first_click.specs.Reading.Views.{member_of}
use Rattle.first_click.proofs.Reading.ClosingLemmas.{ill_named, no_values, no_bodies}
use Rattle.first_click.proofs.Reading.MemberLemmas.{members-few, fields-few}
use Rattle.first_click.proofs.Reading.StatementLemmas.{definitions-few}
use Rattle.first_click.proofs.code.declared_by.Goals as goal

pub returns-then-not-are_named_well-clause-spelled : goal.returns-then-not-are_named_well-clause-spelled
returns-then-not-are_named_well-clause-spelled c =
    let ill : are_named_well (map member_of c.in-Some.members.items) ≡ false =
    sym (c.are_named_well.ensures ∙ ap (λ x. are_named_well (map member_of x)) c.deref.ensures.value) ∙ c.if-not-are_named_well.true in
    ill_named c.args.tokens.now (map member_of c.in-Some.members.items) (rw c.in-Some.is at c.in_ok-members.ensures) ill

pub returns-in_default-2-clause-spelled : goal.returns-in_default-2-clause-spelled
returns-in_default-2-clause-spelled c =
    let none : fields_of (map member_of c.in-Some.members.items) ≡ None =
    sym (sym c.in_default-2.is ∙ c.in_ok-fields.ensures ∙ ap (λ x. fields_of (map member_of x)) c.deref-2.ensures.value) in
    no_values c.args.tokens.now (map member_of c.in-Some.members.items) (rw c.in-Some.is at c.in_ok-members.ensures) none

pub methods_of-requires : goal.methods_of-requires
methods_of-requires c =
    let valued : fields_of (map member_of c.in-Some.members.items) ≡ Some c.in-Some-2.fields =
    sym (sym c.in-Some-2.is ∙ c.in_ok-fields.ensures ∙ ap (λ x. fields_of (map member_of x)) c.deref-2.ensures.value) in
    omega (
      arith,
      ap length c.as_slice.ensures,
      fields-few (map member_of c.in-Some.members.items) c.in-Some-2.fields valued,
      members-few c.args.tokens.now (map member_of c.in-Some.members.items) (rw c.in-Some.is at c.in_ok-members.ensures),
      c.requires,
    )

pub returns-in_default-3-clause-spelled : goal.returns-in_default-3-clause-spelled
returns-in_default-3-clause-spelled c =
    let valued : fields_of (map member_of c.in-Some.members.items) ≡ Some c.in-Some-2.fields =
    sym (sym c.in-Some-2.is ∙ c.in_ok-fields.ensures ∙ ap (λ x. fields_of (map member_of x)) c.deref-2.ensures.value) in
    no_bodies c.args.tokens.now (map member_of c.in-Some.members.items) (rw c.in-Some.is at c.in_ok-members.ensures) c.in-Some-2.fields valued
    (rw (c.in_default-3.is, c.as_slice.ensures, c.deref-3.ensures.value) at c.in_ok-methods.ensures)

pub returns-clause-few : goal.returns-clause-few
returns-clause-few c =
    let valued : fields_of (map member_of c.in-Some.members.items) ≡ Some c.in-Some-2.fields =
    sym (sym c.in-Some-2.is ∙ c.in_ok-fields.ensures ∙ ap (λ x. fields_of (map member_of x)) c.deref-2.ensures.value) in
    let members = members-few c.args.tokens.now (map member_of c.in-Some.members.items) (rw c.in-Some.is at c.in_ok-members.ensures) in (
      omega (arith, members, fields-few (map member_of c.in-Some.members.items) c.in-Some-2.fields valued, c.requires),
      omega (
        arith,
        members,
        definitions-few c.in-Some-2.fields (map member_of c.in-Some.members.items) c.in-Some-3.methods
            (rw (c.in-Some-3.is, c.as_slice.ensures, c.deref-3.ensures.value) at c.in_ok-methods.ensures),
        c.requires,
      ),
    )
