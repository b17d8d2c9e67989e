use Rattle.std.proofs.Common.{◌∷◌, [], sym, ◌∙◌}
use Rattle.std.proofs.lemmas.List.{map-append}
use Rattle.first_click.specs.Members.{MemberStands}
use Rattle.first_click.specs.Reading.Views.{member_of}
use Rattle.first_click.specs.Walks.{stay}
use Rattle.first_click.proofs.ListLemmas.{not_empty}
use Rattle.first_click.proofs.Reading.MemberLemmas.{member_at-some, member-shorter, not_members}
use Rattle.first_click.proofs.Reading.WalkLemmas.{walk-more}
use Rattle.first_click.proofs.members.members_of.Goals as goal

pub loop-member-init : goal.loop-member-init
loop-member-init c = rw c.new-members.ensures.items (stay _)

pub loop-member-smaller : goal.loop-member-smaller
loop-member-smaller c = member-shorter _ _ _ (member_at-some c.loop-member.rest.now (member_of c.in-Some.member) c.in-Some.next.now (sym c.in-Some.ensures))

pub loop-member-preserved : goal.loop-member-preserved
loop-member-preserved c =
    rw (c.in_ok-push.ensures.items, map-append member_of c.loop-member.members.items (c.in-Some.member ∷ []))
    (walk-more MemberStands _ _ _ _ (member_of c.in-Some.member) c.loop-member.invariant (member_at-some c.loop-member.rest.now (member_of c.in-Some.member) c.in-Some.next.now (sym c.in-Some.ensures)))

pub returns : goal.returns
returns c =
    not_members c.args.tokens.now c.loop-member.rest.now _ c.loop-member.invariant (sym c.in_default.ensures) (not_empty c.loop-member.rest.now (sym c.is_empty.ensures ∙ c.if-is_empty.false))
