use Rattle.std.proofs.Common.{rules, arith, ◌≡◌, ◌<◌, ◌++◌, ◌∷◌, [], Some, None, length, sym, ap, ◌∙◌}
use Rattle.cs_parse.specs.Reading.{Fails}
use Rattle.cs_parse.specs.MemberReading.{member, whole_members}
use Rattle.cs_parse.proofs.MemberTurns.{members_meant, members_begin, members_turn, members_end, members_fail, one_longer, none_left, some_left}
use Rattle.cs_parse.proofs.WholeMemberLemmas.{member_fewer}
use Rattle.cs_parse.proofs.member.whole_members.Goals as goal

pub loop-left-init : goal.loop-left-init
loop-left-init c =
    let ts = c.args.tokens.now in
    let e = c.new-found.ensures in
    record {
      within = omega (arith, ap length e);
      same = ap (λ found. members_meant ts found ts) e ∙ members_begin ts;
    }

pub returns-in_err-a : goal.returns-in_err-a
returns-in_err-a c =
    let e = c.in_err-a.field-0.0 in
    let ts = c.args.tokens.now in
    let left = c.loop-left.left.now in
    let d = some_left c.is_empty.result left c.is_empty.ensures c.loop-left-test.true in
    let f : Fails e (whole_members ts) = members_fail e ts c.loop-left.found left (whole_members ts) c.loop-left.invariant.within d c.loop-left.invariant.same c.in_err-a.ensures in
    search rules

pub loop-left-smaller : goal.loop-left-smaller
loop-left-smaller c =
    let left = c.loop-left.left.now in
    let us = c.in_ok-a.rest.now in
    let e : member left ≡ Some (c.in_ok-a.a, us) = search rules in
    let f : length us < length left = member_fewer left us c.in_ok-a.a e in
    f

pub loop-left-preserved : goal.loop-left-preserved
loop-left-preserved c =
    let ts = c.args.tokens.now in
    let found = c.loop-left.found in
    let left = c.loop-left.left.now in
    let a = c.in_ok-a.a in
    let us = c.in_ok-a.rest.now in
    let e : member left ≡ Some (a, us) = search rules in
    let p : c.push.new.self ≡ found ++ a ∷ [] = search rules in
    let f : length us < length left = member_fewer left us a e in
    let n = one_longer found a in
    let t = members_turn ts found left us a c.loop-left.invariant.within e in
    record {
      within = omega (arith, ap length p);
      same = ap (λ l. members_meant ts l us) p ∙ sym t ∙ c.loop-left.invariant.same;
    }

pub returns : goal.returns
returns c =
    let ts = c.args.tokens.now in
    let found = c.loop-left.found in
    let left = c.loop-left.left.now in
    let z = none_left c.is_empty.result left c.is_empty.ensures c.loop-left-test.false in
    sym c.loop-left.invariant.same ∙ ap (members_meant ts found) z ∙ members_end ts found (omega (arith, c.loop-left.invariant.within))
