use Rattle.std.proofs.Common.{rules, arith, ◌≡◌, ◌<◌, ◌++◌, ◌∷◌, [], Some, None, length, sym, ap, ◌∙◌}
use Rattle.cs_token.specs.declared.token.Sign.TheVariants as s
use Rattle.cs_parse.specs.Reading.{Fails, after}
use Rattle.cs_parse.specs.MemberReading.{argument, arguments_first}
use Rattle.cs_parse.proofs.OpenTypeLaws.{after_fewer}
use Rattle.cs_parse.proofs.MemberTurns.{arguments_meant, arguments_begin, arguments_turn, arguments_end, arguments_fail, argument_fewer, one_longer}
use Rattle.cs_parse.proofs.member.arguments.arguments_first.Goals as goal

pub loop-found-init : goal.loop-found-init
loop-found-init c =
    let ts = c.args.tokens.now in
    let e = c.new-found.ensures in
    record {
      within = omega (arith, ap length e);
      same = ap (λ found. arguments_meant ts found ts) e ∙ arguments_begin ts;
    }

pub returns-in_err-a : goal.returns-in_err-a
returns-in_err-a c =
    let e = c.in_err-a.field-0.0 in
    let ts = c.args.tokens.now in
    let f : Fails e (arguments_first ts) = arguments_fail e ts c.loop-found.found c.loop-found.left.now (arguments_first ts) c.loop-found.invariant.within c.loop-found.invariant.same c.in_err-a.ensures in
    search rules

pub loop-found-smaller : goal.loop-found-smaller
loop-found-smaller c =
    let left = c.loop-found.left.now in
    let us = c.in_ok-a.rest.now in
    let vs = c.in-Some.rest.now in
    let e : argument left ≡ Some (c.in_ok-a.a, us) = search rules in
    let q : after s.Comma us ≡ Some vs = search rules in
    let f : length us < length left = argument_fewer left us c.in_ok-a.a e in
    let h : length vs < length us = after_fewer s.Comma us vs q in
    let i : length vs < length left = omega arith in
    i

pub loop-found-preserved : goal.loop-found-preserved
loop-found-preserved c =
    let ts = c.args.tokens.now in
    let found = c.loop-found.found in
    let left = c.loop-found.left.now in
    let a = c.in_ok-a.a in
    let us = c.in_ok-a.rest.now in
    let vs = c.in-Some.rest.now in
    let e : argument left ≡ Some (a, us) = search rules in
    let q : after s.Comma us ≡ Some vs = search rules in
    let p : c.push.new.self ≡ found ++ a ∷ [] = search rules in
    let f : length us < length left = argument_fewer left us a e in
    let h : length vs < length us = after_fewer s.Comma us vs q in
    let n = one_longer found a in
    let t = arguments_turn ts found left us vs a c.loop-found.invariant.within e q in
    record {
      within = omega (arith, ap length p);
      same = ap (λ l. arguments_meant ts l vs) p ∙ sym t ∙ c.loop-found.invariant.same;
    }

pub returns-in-None : goal.returns-in-None
returns-in-None c =
    let ts = c.args.tokens.now in
    let found = c.loop-found.found in
    let left = c.loop-found.left.now in
    let a = c.in_ok-a.a in
    let us = c.in_ok-a.rest.now in
    let e : argument left ≡ Some (a, us) = search rules in
    let q : after s.Comma us ≡ None = search rules in
    let p : c.push.new.self ≡ found ++ a ∷ [] = search rules in
    sym c.loop-found.invariant.same ∙ arguments_end ts found left us a c.loop-found.invariant.within e q ∙ ap (λ l. Some (l, us)) (sym p)
