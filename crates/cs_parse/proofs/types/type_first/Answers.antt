use Rattle.std.proofs.Common.{rules, arith, ◌≡◌, ◌<◌, ◌∷◌, [], ◌++◌, Some, length, sym, ◌∙◌, subst, ap}
use Rattle.cs_parse.specs.declared.types.Begun.TheVariants as b
use Rattle.cs_parse.specs.OpenTypes.{begun}
use Rattle.cs_parse.specs.Reading.{Gives, Fails}
use Rattle.cs_parse.specs.TypeReading.{type_first}
use Rattle.cs_parse.proofs.OpenTypeLaws.{meant, first_meant, round_turn, whole_turn, begun_fails, one_more}
use Rattle.cs_parse.proofs.types.type_first.Goals as goal

pub loop-waiting-init : goal.loop-waiting-init
loop-waiting-init c =
    let ts = c.args.tokens.now in
    let e = c.new-waiting.ensures in
    record {
      within = omega (arith, ap length e);
      same = ap (λ os. meant ts os ts) e ∙ first_meant ts;
    }

pub returns-in_err-begun : goal.returns-in_err-begun
returns-in_err-begun c =
    let e = c.in_err-begun.field-0.0 in
    let ts = c.args.tokens.now in
    let f : Fails e (type_first ts) = begun_fails e ts c.loop-waiting.waiting c.loop-waiting.left.now (type_first ts) c.loop-waiting.invariant.within c.loop-waiting.invariant.same c.in_err-begun.ensures.read in
    search rules

pub returns-in-Whole : goal.returns-in-Whole
returns-in-Whole c =
    let ts = c.args.tokens.now in
    let os = c.loop-waiting.waiting in
    let left = c.loop-waiting.left.now in
    let inner = c.in-Whole.inner in
    let rest = c.in_ok-begun.rest.now in
    let e : begun left ≡ Some (b.Whole inner, rest) = search rules in
    let t = whole_turn ts os left rest inner c.loop-waiting.invariant.within e in
    subst (λ read. Gives (λ x. (x.0, x.1.now)) c.close_all.result read) (sym t ∙ c.loop-waiting.invariant.same) c.close_all.ensures

pub loop-waiting-preserved : goal.loop-waiting-preserved
loop-waiting-preserved c =
    let ts = c.args.tokens.now in
    let os = c.loop-waiting.waiting in
    let left = c.loop-waiting.left.now in
    let x = c.in-Round.opened in
    let rest = c.in_ok-begun.rest.now in
    let e : begun left ≡ Some (b.Round x, rest) = search rules in
    let p : c.push.new.self ≡ os ++ x ∷ [] = search rules in
    let n = one_more os x in
    let t = round_turn ts os left rest x c.loop-waiting.invariant.within e in
    let f : length rest < length left = search rules in
    record {
      within = omega (arith, ap length p);
      same = ap (λ l. meant ts l rest) p ∙ sym t ∙ c.loop-waiting.invariant.same;
    }
