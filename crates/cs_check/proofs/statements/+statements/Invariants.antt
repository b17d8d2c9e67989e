use Rattle.std.proofs.Common.{◌≡◌, ◌+◌, ◌*◌, max, map, take, drop, length}
use Rattle.cs_rules.specs.Judged.{each}
use Rattle.cs_rules.specs.Statements.{in_order}
use Rattle.cs_forbidden.specs.Trees.{statement}
use Rattle.cs_forbidden.specs.Forms.{section}
use Rattle.cs_forms.specs.Views.{scope_of, forbidden_of}
use Rattle.cs_forms.proofs.FrontLemmas.{with_front}
use Rattle.cs_check.proofs.statements.+statements.Given as goal

-- the codes so far, and those of the rest in the scope that is reached
abbrev pub invariant-in_order-loop-one : goal.invariant-in_order-loop-one
invariant-in_order-loop-one l =
    record {
      around : l.names.around ≡ l.fn.names.around;
      kept : take (length l.fn.names.locals) l.names.locals ≡ l.fn.names.locals;
      codes : in_order (map (statement (forbidden_of l.fn.names)) l.body) (scope_of l.fn.names) ≡ with_front l.codes (in_order (map (statement (forbidden_of l.fn.names)) (drop l.one-index l.body)) (scope_of l.names));
    }

abbrev pub invariant-sections-loop-it : goal.invariant-sections-loop-it
invariant-sections-loop-it l =
    record {
      around : l.names.around ≡ l.fn.names.around;
      same : l.names.locals ≡ l.fn.names.locals;
      codes : each (λ one. one l.decided (scope_of l.fn.names)) (map (section (forbidden_of l.fn.names)) l.all) ≡ with_front l.codes (each (λ one. one l.decided (scope_of l.fn.names)) (map (section (forbidden_of l.fn.names)) (drop l.it-index l.all)));
    }

-- how deep the trees are, and who calls whom at one depth
abbrev pub decreases-form : goal.decreases-form
decreases-form l = 8 * goal.size-form l + 0

abbrev pub decreases-statement : goal.decreases-statement
decreases-statement l = 8 * goal.size-statement l + 1

abbrev pub decreases-alone : goal.decreases-alone
decreases-alone l = 8 * goal.size-alone l + 2

abbrev pub decreases-optional_alone : goal.decreases-optional_alone
decreases-optional_alone l = 8 * goal.size-optional_alone l + 3

abbrev pub decreases-in_order : goal.decreases-in_order
decreases-in_order l = 8 * goal.size-in_order l + 2

abbrev pub decreases-enclosed : goal.decreases-enclosed
decreases-enclosed l = 8 * goal.size-enclosed l + 3

abbrev pub decreases-block : goal.decreases-block
decreases-block l = 8 * goal.size-block l + 4

abbrev pub decreases-started : goal.decreases-started
decreases-started l = 8 * goal.size-started l + 2

abbrev pub decreases-section : goal.decreases-section
decreases-section l = 8 * goal.size-section l + 4

abbrev pub decreases-sections : goal.decreases-sections
decreases-sections l = 8 * goal.size-sections l + 5

abbrev pub decreases-if_else : goal.decreases-if_else
decreases-if_else l = 8 * (max (goal.size-alone (record { the-lifetimes = (l.the-lifetimes.0, (l.the-lifetimes.0, (l.the-lifetimes.0, tt {0}))); names = l.names; one = l.yes })) (goal.size-optional_alone (record { the-lifetimes = (l.the-lifetimes.0, (l.the-lifetimes.0, (l.the-lifetimes.0, tt {0}))); names = l.names; one = l.no }))) + 6

abbrev pub decreases-while_loop : goal.decreases-while_loop
decreases-while_loop l = 8 * goal.size-while_loop l + 6

abbrev pub decreases-for_loop : goal.decreases-for_loop
decreases-for_loop l = 8 * (max (goal.size-started (record { the-lifetimes = (l.the-lifetimes.0, (l.the-lifetimes.0, (l.the-lifetimes.0, tt {0}))); names = l.names; start = l.start })) (goal.size-alone (record { the-lifetimes = (l.the-lifetimes.0, (l.the-lifetimes.0, (l.the-lifetimes.0, tt {0}))); names = l.names; one = l.body }))) + 6

abbrev pub decreases-for_each : goal.decreases-for_each
decreases-for_each l = 8 * goal.size-for_each l + 6

abbrev pub decreases-switch : goal.decreases-switch
decreases-switch l = 8 * goal.size-switch l + 6
