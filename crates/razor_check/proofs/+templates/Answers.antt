use Rattle.std.proofs.Common.{◌≡◌, ◌+◌, ◌-◌, ◌∙◌, ◌++◌, ap, refl, sym, subst, length, map, take, drop, arith}
use Rattle.std.specs.Prelude.{Option, OnOk, List}
use Rattle.std.specs.List.{flat_map}
use Rattle.std.specs.Option.{option_copied}
use Rattle.razor_ast.specs.declared.node.TNode.{TNode}
use Rattle.razor_ast.specs.declared.node.TNode.TheVariants as nd
use Rattle.razor_rules.specs.declared.finding.Broken.{Broken}
use Rattle.razor_rules.specs.declared.ground.Ground.{Ground}
use Rattle.razor_rules.specs.Findings.{also}
use Rattle.razor_rules.specs.Grounds.{in_loop, with_new}
use Rattle.razor_rules.specs.Parts.{Part, any_does, in_order}
use Rattle.razor_rules.specs.Tags.{by_tag, counted, fragment_by, tags_rules}
use Rattle.razor_rules.specs.TemplateDeeds.{changing}
use Rattle.razor_rules.specs.Templates.{item_ground, option_list, part_of, part_of_section, started, step_rules, test_rules}
use Rattle.razor_rules.proofs.FirstLaws.{also_append}
use Rattle.rule_findings.specs.declared.findings.Findings.{Findings}
use Rattle.razor_parts.specs.Views.{home_of, tagged_view}
use Rattle.razor_check.specs.Going.{Kept}
use Rattle.razor_check.proofs.AlsoLemmas.{rest_mapped, all_mapped}
use Rattle.razor_check.proofs.CountedLemmas.{blank_left, tag_first, tags_none}
use Rattle.razor_check.proofs.GoingLemmas.{kept_twice, others_are, turn_on, turn_stops, rest_none, returns_to, head_found, head_missed, stays_out}
use Rattle.razor_check.proofs.RuleLaws.{if_rules_law}
use Rattle.razor_check.proofs.+templates.Goals as goal
use Rattle.razor_check.proofs.+templates.Goals.{components::tags_rules-then-not-branch+in_ok-by_tag, components::tags_rules-else-not-branch}

-- nodes one after another
pub templates::nodes_rules-loop-one-preserved : goal.templates::nodes_rules-loop-one-preserved
templates::nodes_rules-loop-one-preserved t c =
    record {
      at = omega arith;
      kept = kept_twice c.args.g.now c.loop-one.g c.behind.new.g c.loop-one.invariant.kept (subst (λ (s : Ground). Kept s c.behind.new.g) c.in_ok-node_rules.ensures.same c.in_ok-goes.ensures.kept);
      does =
          c.loop-one.invariant.does
          ∙ turn_on (part_of (home_of c.args.home.now)) c.args.nodes.now (take (length c.args.nodes.now - (c.loop-one.at + 1)) (drop (c.loop-one.at + 1) c.args.nodes.now)) c.loop-one.one-index c.one-item.result c.loop-one.found.first c.node_rules.new.found.first c.loop-one.g c.node_rules.new.g c.in_ok-goes.goes
          c.loop-one-test.true c.one-item.is (others_are c.args.nodes.now c.loop-one.one-index c.loop-one.at c.loop-one.invariant.at) c.in_ok-node_rules.ensures.does c.in_ok-node_rules.ensures.same c.in_ok-goes.ensures.goes
          c.behind.new.g c.if-not-goes.false c.in_ok-goes.ensures.does;
    }

pub templates::nodes_rules-returns-then-not-goes-clause-does : goal.templates::nodes_rules-returns-then-not-goes-clause-does
templates::nodes_rules-returns-then-not-goes-clause-does t c =
    sym (c.loop-one.invariant.does
    ∙ turn_stops (part_of (home_of c.args.home.now)) c.args.nodes.now (take (length c.args.nodes.now - (c.loop-one.at + 1)) (drop (c.loop-one.at + 1) c.args.nodes.now)) c.loop-one.one-index c.one-item.result c.loop-one.found.first c.node_rules.new.found.first c.loop-one.g c.node_rules.new.g c.in_ok-goes.goes
    c.loop-one-test.true c.one-item.is (others_are c.args.nodes.now c.loop-one.one-index c.loop-one.at c.loop-one.invariant.at) c.in_ok-node_rules.ensures.does c.in_ok-node_rules.ensures.same c.in_ok-goes.ensures.goes
    c.if-not-goes.true)

pub templates::nodes_rules-returns-then-not-goes-clause-same : goal.templates::nodes_rules-returns-then-not-goes-clause-same
templates::nodes_rules-returns-then-not-goes-clause-same t c =
    returns_to c.args.g.now c.behind.new.g c.behind.new.g c.back.new.g c.depth_of-depth.result.names c.depth_of-depth.result.marks c.depth_of-depth.ensures.names c.depth_of-depth.ensures.marks c.back.ensures refl
    (kept_twice c.args.g.now c.loop-one.g c.behind.new.g c.loop-one.invariant.kept (subst (λ (s : Ground). Kept s c.behind.new.g) c.in_ok-node_rules.ensures.same c.in_ok-goes.ensures.kept))

pub templates::nodes_rules-returns-clause-does : goal.templates::nodes_rules-returns-clause-does
templates::nodes_rules-returns-clause-does t c =
    sym (c.loop-one.invariant.does ∙ rest_none (part_of (home_of c.args.home.now)) c.loop-one.found.first c.args.nodes.now c.loop-one.one-index c.loop-one.g c.loop-one-test.false)

pub templates::nodes_rules-returns-clause-same : goal.templates::nodes_rules-returns-clause-same
templates::nodes_rules-returns-clause-same t c =
    returns_to c.args.g.now c.loop-one.g c.loop-one.g c.back-2.new.g c.depth_of-depth.result.names c.depth_of-depth.result.marks c.depth_of-depth.ensures.names c.depth_of-depth.ensures.marks c.back-2.ensures refl c.loop-one.invariant.kept

-- loops
pub templates::for_rules-returns-then-not-goes-clause-does : goal.templates::for_rules-returns-then-not-goes-clause-does
templates::for_rules-returns-then-not-goes-clause-does t c =
    head_missed (started c.args.start.now c.args.g.now)
    (λ (inner : Ground). flat_map (λ a. test_rules a inner) (option_list c.args.test.now) ++ flat_map (λ a. step_rules a inner) (option_list c.args.step.now) ++ (part_of (home_of c.args.home.now) c.args.body.now).rules (in_loop inner))
    c.args.found.now.first c.start_rules.new.found.first c.in_ok-goes.goes c.in_ok-goes.ensures.goes c.if-not-goes.true c.in_ok-goes.ensures.finds

pub templates::for_rules-returns-then-not-goes-clause-same : goal.templates::for_rules-returns-then-not-goes-clause-same
templates::for_rules-returns-then-not-goes-clause-same t c =
    stays_out (started c.args.start.now c.args.g.now) c.args.g.now c.start_rules.new.g c.in_ok-goes.goes c.in_ok-goes.ensures.goes c.if-not-goes.true c.in_ok-goes.ensures.does

pub templates::for_rules-returns-clause-does : goal.templates::for_rules-returns-clause-does
templates::for_rules-returns-clause-does t c =
    let body = (part_of (home_of c.args.home.now) c.args.body.now).rules (in_loop c.start_rules.new.g) in
    let head = flat_map (λ a. test_rules a c.start_rules.new.g) (option_list c.args.test.now) ++ flat_map (λ a. step_rules a c.start_rules.new.g) (option_list c.args.step.now) in
    head_found (started c.args.start.now c.args.g.now)
    (λ (inner : Ground). flat_map (λ a. test_rules a inner) (option_list c.args.test.now) ++ flat_map (λ a. step_rules a inner) (option_list c.args.step.now) ++ (part_of (home_of c.args.home.now) c.args.body.now).rules (in_loop inner))
    c.args.found.now.first c.start_rules.new.found.first c.turn.new.found.first c.args.g.now c.start_rules.new.g c.in_ok-goes.goes c.in_ok-goes.ensures.goes c.if-not-goes.false c.in_ok-goes.ensures.finds c.in_ok-goes.ensures.does
    (c.in_ok-turn.ensures.does ∙ ap (λ (o : Option Broken). also o body) c.in_ok-head_rules.ensures ∙ sym (also_append c.start_rules.new.found.first head body))

pub templates::for_rules-returns-clause-same : goal.templates::for_rules-returns-clause-same
templates::for_rules-returns-clause-same t c =
    returns_to c.args.g.now c.start_rules.new.g c.turn.new.g c.back.new.g c.depth_of-depth.result.names c.depth_of-depth.result.marks c.depth_of-depth.ensures.names c.depth_of-depth.ensures.marks c.back.ensures
    c.in_ok-turn.ensures.same c.in_ok-goes.ensures.kept

pub templates::for_each_rules-returns-then-not-goes-clause-does : goal.templates::for_each_rules-returns-then-not-goes-clause-does
templates::for_each_rules-returns-then-not-goes-clause-does t c =
    head_missed (item_ground c.args.name.now c.args.list.now (part_of (home_of c.args.home.now) c.args.body.now) c.args.g.now)
    (λ (inner : Ground). (part_of (home_of c.args.home.now) c.args.body.now).rules (in_loop inner))
    c.args.found.now.first c.item_rules.new.found.first c.in_ok-goes.goes c.in_ok-goes.ensures.goes c.if-not-goes.true c.in_ok-goes.ensures.finds

pub templates::for_each_rules-returns-then-not-goes-clause-same : goal.templates::for_each_rules-returns-then-not-goes-clause-same
templates::for_each_rules-returns-then-not-goes-clause-same t c =
    stays_out (item_ground c.args.name.now c.args.list.now (part_of (home_of c.args.home.now) c.args.body.now) c.args.g.now) c.args.g.now c.item_rules.new.g c.in_ok-goes.goes c.in_ok-goes.ensures.goes c.if-not-goes.true c.in_ok-goes.ensures.does

pub templates::for_each_rules-returns-clause-does : goal.templates::for_each_rules-returns-clause-does
templates::for_each_rules-returns-clause-does t c =
    head_found (item_ground c.args.name.now c.args.list.now (part_of (home_of c.args.home.now) c.args.body.now) c.args.g.now)
    (λ (inner : Ground). (part_of (home_of c.args.home.now) c.args.body.now).rules (in_loop inner))
    c.args.found.now.first c.item_rules.new.found.first c.turn.new.found.first c.args.g.now c.item_rules.new.g c.in_ok-goes.goes c.in_ok-goes.ensures.goes c.if-not-goes.false c.in_ok-goes.ensures.finds c.in_ok-goes.ensures.does
    c.in_ok-turn.ensures.does

pub templates::for_each_rules-returns-clause-same : goal.templates::for_each_rules-returns-clause-same
templates::for_each_rules-returns-clause-same t c =
    returns_to c.args.g.now c.item_rules.new.g c.turn.new.g c.back.new.g c.depth_of-depth.result.names c.depth_of-depth.result.marks c.depth_of-depth.ensures.names c.depth_of-depth.ensures.marks c.back.ensures
    c.in_ok-turn.ensures.same c.in_ok-goes.ensures.kept

-- fragments
pub components::argued_rules-returns-then-not-goes-clause-does : goal.components::argued_rules-returns-then-not-goes-clause-does
components::argued_rules-returns-then-not-goes-clause-does t c =
    head_missed (with_new c.args.argument c.args.name.now (any_does (map (part_of (home_of c.args.home.now)) c.args.nodes.now) (changing c.args.name.now.name)) c.args.g.now)
    (in_order (map (part_of (home_of c.args.home.now)) c.args.nodes.now))
    c.args.found.now.first c.argument_rules.new.found.first c.in_ok-goes.goes c.in_ok-goes.ensures.goes c.if-not-goes.true c.in_ok-goes.ensures.finds

pub components::argued_rules-returns-then-not-goes-clause-same : goal.components::argued_rules-returns-then-not-goes-clause-same
components::argued_rules-returns-then-not-goes-clause-same t c =
    stays_out (with_new c.args.argument c.args.name.now (any_does (map (part_of (home_of c.args.home.now)) c.args.nodes.now) (changing c.args.name.now.name)) c.args.g.now) c.args.g.now c.argument_rules.new.g c.in_ok-goes.goes
    c.in_ok-goes.ensures.goes c.if-not-goes.true c.in_ok-goes.ensures.does

pub components::argued_rules-returns-clause-does : goal.components::argued_rules-returns-clause-does
components::argued_rules-returns-clause-does t c =
    head_found (with_new c.args.argument c.args.name.now (any_does (map (part_of (home_of c.args.home.now)) c.args.nodes.now) (changing c.args.name.now.name)) c.args.g.now)
    (in_order (map (part_of (home_of c.args.home.now)) c.args.nodes.now))
    c.args.found.now.first c.argument_rules.new.found.first c.nodes_rules.new.found.first c.args.g.now c.argument_rules.new.g c.in_ok-goes.goes c.in_ok-goes.ensures.goes c.if-not-goes.false c.in_ok-goes.ensures.finds
    c.in_ok-goes.ensures.does c.in_ok-nodes_rules.ensures.does

pub components::argued_rules-returns-clause-same : goal.components::argued_rules-returns-clause-same
components::argued_rules-returns-clause-same t c =
    returns_to c.args.g.now c.argument_rules.new.g c.nodes_rules.new.g c.back.new.g c.depth_of-depth.result.names c.depth_of-depth.result.marks c.depth_of-depth.ensures.names c.depth_of-depth.ensures.marks c.back.ensures
    c.in_ok-nodes_rules.ensures.same c.in_ok-goes.ensures.kept

-- sections
pub templates::sections_rules-loop-section-preserved : goal.templates::sections_rules-loop-section-preserved
templates::sections_rules-loop-section-preserved t c =
    record {
      same = c.in_ok-section_rules.ensures.same ∙ c.loop-section.invariant.same;
      does =
          c.loop-section.invariant.does
          ∙ rest_mapped (part_of_section (home_of c.args.home.now)) (λ one. one.rules c.args.given.now c.args.g.now) c.loop-section.found.first c.args.sections.now c.loop-section.section-index c.section-item.result c.loop-section-test.true
          c.section-item.is
          ∙ ap (λ (o : Option Broken). also o (flat_map (λ one. one.rules c.args.given.now c.args.g.now) (map (part_of_section (home_of c.args.home.now)) (drop (c.loop-section.section-index + 1) c.args.sections.now))))
          (sym (c.in_ok-section_rules.ensures.does ∙ ap (λ (g : Ground). also c.loop-section.found.first ((part_of_section (home_of c.args.home.now) c.section-item.result).rules c.args.given.now g)) c.loop-section.invariant.same));
    }

pub templates::sections_rules-returns-clause-does : goal.templates::sections_rules-returns-clause-does
templates::sections_rules-returns-clause-does t c =
    sym (c.loop-section.invariant.does
    ∙ all_mapped (part_of_section (home_of c.args.home.now)) (λ one. one.rules c.args.given.now c.args.g.now) c.loop-section.found.first c.args.sections.now c.loop-section.section-index c.loop-section-test.false)

-- tags of fragments
pub components::tags_rules-loop-one-preserved : goal.components::tags_rules-loop-one-preserved
components::tags_rules-loop-one-preserved t c =
    let view = part_of (home_of c.args.home.now) in
    let tag = tagged_view c.args.home.now.records.now c.args.around in
    let outer = option_copied c.args.outer in
    elim c.if-not-branch.branch [
      | components::tags_rules-then-not-branch+in_ok-by_tag w ↦ record {
        same = w.g-is ∙ w.in_ok-by_tag.ensures.same ∙ c.loop-one.invariant.same;
        does =
            c.loop-one.invariant.does
            ∙ tag_first view c.args.nodes.now c.loop-one.one-index c.one-item.result c.loop-one-test.true c.one-item.is c.loop-one.found.first tag c.args.g.now outer (sym c.in_ok-is_blank.ensures ∙ w.if-not-branch.true)
            ∙ ap (λ (o : Option Broken). also o (tags_rules tag (counted (map view (drop (c.loop-one.one-index + 1) c.args.nodes.now))) c.args.g.now outer))
            (sym (ap (λ (f : Findings). f.first) w.found-is ∙ w.in_ok-by_tag.ensures.does
            ∙ ap (λ (g : Ground). also c.loop-one.found.first (by_tag (fragment_by tag (view c.one-item.result).tag) g outer (view c.one-item.result))) c.loop-one.invariant.same));
      }
      | components::tags_rules-else-not-branch w ↦ record {
        same = w.g-is ∙ c.loop-one.invariant.same;
        does =
            c.loop-one.invariant.does
            ∙ ap (λ (parts : List Part). also c.loop-one.found.first (tags_rules tag parts c.args.g.now outer))
            (blank_left view c.args.nodes.now c.loop-one.one-index c.one-item.result c.loop-one-test.true c.one-item.is (sym c.in_ok-is_blank.ensures ∙ w.if-not-branch.false))
            ∙ ap (λ (f : Findings). also f.first (tags_rules tag (counted (map view (drop (c.loop-one.one-index + 1) c.args.nodes.now))) c.args.g.now outer)) (sym w.found-is);
      }
    ]

pub components::tags_rules-returns-clause-does : goal.components::tags_rules-returns-clause-does
components::tags_rules-returns-clause-does t c =
    sym (c.loop-one.invariant.does
    ∙ tags_none (part_of (home_of c.args.home.now)) c.args.nodes.now c.loop-one.one-index c.loop-one.found.first (tagged_view c.args.home.now.records.now c.args.around) c.args.g.now (option_copied c.args.outer) c.loop-one-test.false)

-- forms of nodes
pub templates::node_rules-returns-in-If-clause-does : goal.templates::node_rules-returns-in-If-clause-does
templates::node_rules-returns-in-If-clause-does t c =
    let home = home_of c.args.home.now in
    let g = c.args.g.now in
    let place = c.in-If.place in
    let test = c.in-If.condition in
    let fails = c.in-If.no in
    subst (λ (rules : List Broken). OnOk c.if_rules.result (c.if_rules.new.found.first ≡ also c.args.found.now.first rules))
    (sym (if_rules_law home g place test c.get.result.now fails)
    ∙ ap (λ (holds : TNode). (part_of home (nd.If place test holds fails)).rules g) c.get.ensures
    ∙ ap (λ (node : TNode). (part_of home node).rules g) (sym c.in-If.is))
    c.if_rules.ensures.does
