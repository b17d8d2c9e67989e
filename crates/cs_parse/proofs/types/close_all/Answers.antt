use Rattle.std.proofs.Common.{rules, arith, ◌≡◌, ◌∷◌, [], ◌++◌, Some, sym, ◌∙◌}
use Rattle.cs_parse.specs.OpenTypes.{closed, all_closed}
use Rattle.cs_parse.specs.Reading.{Fails}
use Rattle.cs_parse.proofs.OpenTypeLaws.{closed_turn, closed_fails}
use Rattle.cs_parse.proofs.types.close_all.Goals as goal

pub returns-in_err-outer : goal.returns-in_err-outer
returns-in_err-outer c =
    let e = c.in_err-outer.field-0.0 in
    let os = c.loop-opened.waiting in
    let before = c.pop.new.self in
    let x = c.in-Some.opened in
    let a = c.loop-opened.inner in
    let ts = c.loop-opened.left.now in
    let p : os ≡ before ++ x ∷ [] = search rules in
    let whole = all_closed c.args.waiting (Some (c.args.inner, c.args.tokens.now)) in
    let f : Fails e whole = closed_fails e os before x a ts whole p c.loop-opened.invariant c.in_err-outer.ensures in
    search rules

pub loop-opened-preserved : goal.loop-opened-preserved
loop-opened-preserved c =
    let os = c.loop-opened.waiting in
    let before = c.pop.new.self in
    let x = c.in-Some.opened in
    let a = c.loop-opened.inner in
    let ts = c.loop-opened.left.now in
    let outer = c.in_ok-outer.outer in
    let rest = c.in_ok-outer.rest.now in
    let p : os ≡ before ++ x ∷ [] = search rules in
    let e : closed x a ts ≡ Some (outer, rest) = search rules in
    sym (closed_turn os before x a outer ts rest p e) ∙ c.loop-opened.invariant
