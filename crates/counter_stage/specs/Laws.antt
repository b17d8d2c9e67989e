-- The laws of a counter's trees and states, proved.
use Rattle.std.specs.Prelude.{◌≡◌, ◌≢◌, ℕ, ◌+◌, ◌==◌, ◌||◌, Bool, true, false, not, List, [], ◌∷◌, length, is_some, codes, if◌then◌else◌, refl}
use Rattle.std.specs.Str.{bytes_eq}
use Rattle.std.proofs.Common.{sym, ◌∙◌, ap, subst, arith}
use Rattle.page_core.specs.declared.counts.Counts.{Counts}
use Rattle.hub_messages.specs.Stage.{IsLawful, FirstLaws, ActLaws, RenderLaws, ReleaseLaws, made_after}
use Rattle.hub_messages.specs.declared.outcome.Outcome.{Outcome as Outcomes}
use Rattle.hub_messages.specs.declared.outcome.Outcome.TheVariants as oc
use Rattle.hub_messages.specs.declared.outcome.CircuitFault.{CircuitFault}
use Rattle.hub_messages.specs.declared.outcome.CircuitFault.TheVariants as cf
use Rattle.hub_messages.specs.declared.stage.Acted.{Acted}
use Rattle.hub_messages.specs.declared.stage.Acted.TheVariants as ac
use Rattle.hub_messages.specs.declared.stage.Made.{Made}
use Rattle.hub_messages.specs.declared.stage.Made.TheVariants as md
use Rattle.counter_stage.specs.declared.stage.CounterState.{CounterState}
use Rattle.counter_stage.specs.declared.tree.CounterTree.{CounterTree}
use Rattle.counter_stage.specs.declared.tree.CounterTree.TheVariants.{Blank, Shows}
use Rattle.counter_stage.specs.Tree.{Turned, counts_of}
use Rattle.counter_stage.specs.Counter.{counter, counted, Rendered}

-- a batch takes a tree to one tree
pub one_tree : (number : ℕ) (bytes : List ℕ) (before after other : CounterTree) (counts others : Counts) →
    Turned number bytes before after counts → Turned number bytes before other others → after ≡ other
one_tree number bytes before Blank other counts others h k = absurd h
one_tree number bytes before (Shows shown) Blank counts others h k = absurd k
one_tree number bytes before (Shows shown) (Shows again) counts others h k =
    let same : shown ∷ [] ≡ again ∷ [] = sym h.0 ∙ k.0 in
    let number_same : shown ≡ again = cc in
    ap Shows number_same

-- with one list of counts
pub one_count : (number : ℕ) (bytes : List ℕ) (before after other : CounterTree) (counts others : Counts) →
    Turned number bytes before after counts → Turned number bytes before other others → counts ≡ others
one_count number bytes before Blank other counts others h k = absurd h
one_count number bytes before (Shows shown) Blank counts others h k = absurd k
one_count number bytes before (Shows shown) (Shows again) counts others h k = h.1 ∙ sym k.1

-- the state that is held has the numbers of the state that it stands for
pub same_made : (held state : CounterState) → held ≡ state → state.made ≡ held.made
same_made held state h = ap (λ s. s.made) (sym h)

pub same_released : (held state : CounterState) → held ≡ state → state.released ≡ held.released
same_released held state h = ap (λ s. s.released) (sym h)

-- in a first state nothing was made or released
first_laws : FirstLaws Blank counter
first_laws = record {
  tree = λ state h. ap (λ s. s.tree) h;
  made = λ state h. ap (λ s. s.made) h;
  released = λ state h. ap (λ s. s.released) h;
}

-- what is not acted changes nothing
not_counted : (state : CounterState) (outcome : Outcomes) → outcome ≢ oc.Acted → counted (ac.Outcome outcome) state ≡ state
not_counted state oc.Acted h = absurd (h refl)
not_counted state oc.HandlerUnknown h = refl
not_counted state (oc.HandlerGone batch) h = refl
not_counted state oc.ComponentGone h = refl
not_counted state oc.WrongEvent h = refl
not_counted state oc.BadArguments h = refl

-- acting makes no batch and releases nothing
counted_tree : (state : CounterState) (acted : Acted) → (counted acted state).tree ≡ state.tree
counted_tree state (ac.Outcome oc.Acted) = refl
counted_tree state (ac.Outcome _) = refl
counted_tree state (ac.Fault fault) = refl

counted_made : (state : CounterState) (acted : Acted) → (counted acted state).made ≡ state.made
counted_made state (ac.Outcome oc.Acted) = refl
counted_made state (ac.Outcome _) = refl
counted_made state (ac.Fault fault) = refl

counted_released : (state : CounterState) (acted : Acted) → (counted acted state).released ≡ state.released
counted_released state (ac.Outcome oc.Acted) = refl
counted_released state (ac.Outcome _) = refl
counted_released state (ac.Fault fault) = refl

-- the only fault of an event is that the number would be too large
overflows : (unknown other carries full : Bool) (fault : CircuitFault) →
    ac.Fault fault ≡ (if unknown then ac.Outcome oc.HandlerUnknown
    else (if other then ac.Outcome oc.WrongEvent
    else (if carries then ac.Outcome oc.BadArguments
    else (if full then ac.Fault cf.Overflow
    else ac.Outcome oc.Acted)))) → fault ≢ cf.Memory
overflows true other carries full fault h = absurd (cc)
overflows false true carries full fault h = absurd (cc)
overflows false false true full fault h = absurd (cc)
overflows false false false true fault h = λ memory. cc
overflows false false false false fault h = absurd (cc)

-- the laws of events
act_laws : ActLaws counter
act_laws = record {
  other = λ before after handler name text outcome h ne. h.1 ∙ not_counted before outcome ne;
  tree = λ before after handler name text acted h. ap (λ s. s.tree) h.1 ∙ counted_tree before acted;
  counts = λ before after handler name text acted h. ap (λ s. counts_of s.made) h.1 ∙ ap counts_of (counted_made before acted);
  made = λ before after handler name text acted h. ap (λ s. s.made) h.1 ∙ counted_made before acted;
  released = λ before after handler name text acted h. ap (λ s. s.released) h.1 ∙ counted_released before acted;
  memory = λ before after handler name text fault h.
      overflows (before.made == 0 || not (handler == 1)) (not (bytes_eq name (codes "onclick"))) (is_some text) (before.number == 255) fault h.0;
}

-- a batch takes the tree before it to the tree after it
rendered_turns : (before after : CounterState) (bytes : List ℕ) → Rendered before (md.Batch bytes) after →
    Turned (before.made + 1) bytes before.tree after.tree (counts_of after.made)
rendered_turns before after bytes h =
    subst (λ (s : CounterState). Turned (before.made + 1) bytes before.tree s.tree (counts_of s.made)) (sym h.1) (h.0, refl)

-- a rendering makes one batch and releases nothing
rendered_made : (before after : CounterState) (made : Made) → Rendered before made after → after.made ≡ made_after before.made made
rendered_made before after (md.Batch bytes) h = ap (λ s. s.made) h.1
rendered_made before after (md.Fault fault) h = absurd h

rendered_released : (before after : CounterState) (made : Made) → Rendered before made after → after.released ≡ before.released
rendered_released before after (md.Batch bytes) h = ap (λ s. s.released) h.1
rendered_released before after (md.Fault fault) h = absurd h

-- the laws of renderings
render_laws : RenderLaws Turned counter
render_laws = record {
  turned = λ before after bytes h. rendered_turns before after bytes h;
  short = λ before after bytes h. omega (arith, ap length h.0);
  clean = λ before after bytes h. ap (λ s. s.changed) h.1;
  made = λ before after made h. rendered_made before after made h;
  released = λ before after made h. rendered_released before after made h;
  memory = λ before after fault h. absurd h;
}

-- a release changes what is released alone
release_laws : ReleaseLaws counter
release_laws = record {
  tree = λ before after acked h. ap (λ s. s.tree) h;
  counts = λ before after acked h. ap (λ s. counts_of s.made) h;
  made = λ before after acked h. ap (λ s. s.made) h;
  dirty = λ before after acked h. ap (λ s. s.changed) h;
  released = λ before after acked h. ap (λ s. s.released) h;
}

-- a counter meets the laws of stages
pub counter_lawful : IsLawful Blank Turned counter
counter_lawful = record { first = first_laws; act = act_laws; render = render_laws; release = release_laws }
