-- A message that is of the circuit's batches leaves the browser in step with them.
use Rattle.std.proofs.Common.{◌≡◌, ◌<◌, ◌≤◌, ℕ, zero, suc, ◌+◌, ◌-◌, Bool, List, [], ◌∷◌, length, slice_get, Some, None, refl, ap, sym, ◌∙◌, subst, arith, true, false}
use Rattle.std.specs.Prelude.{nat_lt, nat_le}
use Rattle.std.specs.declared.option.Option.{Option}
use Rattle.std.proofs.lemmas.Bool.Decides.{nat_tests}
use Rattle.page_core.specs.declared.counts.Counts.{Counts}
use Rattle.hub_messages.specs.declared.answer.Got.{Got}
use Rattle.hub_messages.specs.declared.answer.Got.TheVariants as gt
use Rattle.hub_messages.specs.declared.down.Down.{Down}
use Rattle.hub_messages.specs.declared.down.Down.TheVariants as dn
use Rattle.hub_messages.specs.declared.screen.ScreenFault.TheVariants as sf
use Rattle.hub_messages.specs.declared.up.Up.{Up}
use Rattle.circuit_meaning.specs.Circuit.State.{BatchRow}
use Rattle.circuit_meaning.specs.Browser.State.{BrowserState, is_present, is_unanswered, was_asked}
use Rattle.circuit_meaning.specs.Browser.Receives.{Where, Only, Opens, Turned, TakesBatch, TakesOutcome, Hears, Receives}
use Rattle.schedule_replay.specs.Line.InStep.{IsOf, IsBatchOf, Chains, tree_after}
use Rattle.schedule_replay.specs.Line.Lines.{batch_row}
use Rattle.schedule_replay.specs.Line.Steps.{Ends}
use Rattle.schedule_replay.proofs.Line.RowLemmas.{row-next, row-found, after-next, get-within}

-- no batch turns a tree into two, or with two counts
abbrev pub OneTree : {Tree : Type 0} → Ends Tree → Type 0
OneTree {Tree} ends = (number : ℕ) (bytes : List ℕ) (before after other : Tree) (counts others : Counts) →
    ends.turns number bytes before after counts → ends.turns number bytes before other others → after ≡ other

abbrev pub OneCount : {Tree : Type 0} → Ends Tree → Type 0
OneCount {Tree} ends = (number : ℕ) (bytes : List ℕ) (before after other : Tree) (counts others : Counts) →
    ends.turns number bytes before after counts → ends.turns number bytes before other others → counts ≡ others

-- the browser shows the tree of the batch that it applied last
pub record Shows {Tree : Type 0} (ends : Ends Tree) (first : Tree) (rows : List (BatchRow ends.machine.State)) (browser : BrowserState Tree) : Type 0 where
  pub applied : browser.status.applied ≤ length rows
  pub shown : browser.tree ≡ tree_after ends.machine first rows browser.status.applied

pub shows-same : {Tree : Type 0} (ends : Ends Tree) (first : Tree) (rows : List (BatchRow ends.machine.State)) (before after : BrowserState Tree) → Shows ends first rows before
    → after.tree ≡ before.tree → after.status.applied ≡ before.status.applied → Shows ends first rows after
shows-same ends first rows before after shows tree applied = record {
  applied = subst (λ (n : ℕ). n ≤ length rows) (sym applied) shows.applied;
  shown = tree ∙ shows.shown ∙ ap (tree_after ends.machine first rows) (sym applied);
}

pub where-cases : (test : Bool) (P Q G : Type 0) → Where test P Q → (test ≡ true → P → G) → (test ≡ false → Q → G) → G
where-cases true P Q G holds yes_case other = yes_case refl holds
where-cases false P Q G holds yes_case other = other refl holds

module _ {Tree : Type 0} (ends : Ends Tree) (first : Tree) (rows : List (BatchRow ends.machine.State)) (chain : Chains ends first rows) (one_tree : OneTree ends) (one_count : OneCount ends) where
  abbrev Sees : BrowserState Tree → Got → Type 0
  Sees after got = Shows ends first rows after × IsBatchOf ends.machine rows after.tree got

  only-sees : (answer got : Got) (ups : List Up) (before after : BrowserState Tree) → ((tree : Tree) → IsBatchOf ends.machine rows tree answer) → Shows ends first rows before
      → Only answer before got ups after → Sees after got
  only-sees answer got ups before after plain shows only = (
    shows-same ends first rows before after shows (ap (λ (b : BrowserState Tree). b.tree) only.2) (ap (λ (b : BrowserState Tree). b.status.applied) only.2),
    subst (λ (g : Got). IsBatchOf ends.machine rows after.tree g) (sym only.0) (plain after.tree),
  )

  kept-sees : (answer got : Got) (before after next : BrowserState Tree) → ((tree : Tree) → IsBatchOf ends.machine rows tree answer) → Shows ends first rows before
      → next.tree ≡ before.tree → next.status.applied ≡ before.status.applied → got ≡ answer → after ≡ next → Sees after got
  kept-sees answer got before after next plain shows tree applied said is = (
    shows-same ends first rows before after shows (ap (λ (b : BrowserState Tree). b.tree) is ∙ tree) (ap (λ (b : BrowserState Tree). b.status.applied) is ∙ applied),
    subst (λ (g : Got). IsBatchOf ends.machine rows after.tree g) (sym said) (plain after.tree),
  )

  turned-sees : (number : ℕ) (bytes : List ℕ) (before after : BrowserState Tree) (got : Got) (ups : List Up) → Shows ends first rows before
      → number ≡ before.status.applied + 1 → IsOf rows (dn.Batch number bytes) → Turned ends.turns number bytes before got ups after → Sees after got
  turned-sees number bytes before after (gt.Applied applied counts) ups shows next is turned =
      let place : ℕ = before.status.applied in
      let row : BatchRow ends.machine.State = is.0 in
      let found : batch_row rows number ≡ Some row = is.1 in
      let there : slice_get rows place ≡ Some row = sym (row-next rows place) ∙ subst (λ (n : ℕ). batch_row rows n ≡ Some row) next found in
      let chained = chain place row there in
      let from : ends.turns (place + 1) row.bytes before.tree (ends.machine.tree row.stage) (ends.machine.counts row.stage) =
      subst (λ (t : Tree). ends.turns (place + 1) row.bytes t (ends.machine.tree row.stage) (ends.machine.counts row.stage)) (sym shows.shown) chained in
      let done : ends.turns (place + 1) row.bytes before.tree after.tree counts =
      subst (λ (n : ℕ). ends.turns n row.bytes before.tree after.tree counts) next
      (subst (λ (b : List ℕ). ends.turns number b before.tree after.tree counts) (sym is.2) turned.1) in
      let tree : after.tree ≡ ends.machine.tree row.stage = one_tree (place + 1) row.bytes before.tree after.tree (ends.machine.tree row.stage) counts (ends.machine.counts row.stage) done from in
      let counted : counts ≡ ends.machine.counts row.stage = one_count (place + 1) row.bytes before.tree after.tree (ends.machine.tree row.stage) counts (ends.machine.counts row.stage) done from in
      let now : after.status.applied ≡ number = ap (λ (b : BrowserState Tree). b.status.applied) turned.2 in
      let within = get-within rows place row there in
      let shows_now : Shows ends first rows after = record {
        applied = omega (arith, now, next, within);
        shown = tree ∙ sym (after-next ends.machine first rows place row there) ∙ ap (tree_after ends.machine first rows) (sym (now ∙ next));
      } in
      (shows_now, (row, subst (λ (n : ℕ). batch_row rows n ≡ Some row) (sym turned.0) found, counted, tree))
  turned-sees number bytes before after (gt.BadBatch (sf.Read fault)) ups shows next is turned =
      (shows-same ends first rows before after shows (ap (λ (b : BrowserState Tree). b.tree) turned.3) (ap (λ (b : BrowserState Tree). b.status.applied) turned.3), tt)
  turned-sees number bytes before after (gt.BadBatch (sf.Apply fault)) ups shows next is turned =
      (shows-same ends first rows before after shows (ap (λ (b : BrowserState Tree). b.tree) turned.3) (ap (λ (b : BrowserState Tree). b.status.applied) turned.3), tt)
  turned-sees number bytes before after _ ups shows next is turned = absurd turned

  batch-sees : (number : ℕ) (bytes : List ℕ) (before after : BrowserState Tree) (got : Got) (ups : List Up) → Shows ends first rows before
      → IsOf rows (dn.Batch number bytes) → TakesBatch ends.turns number bytes before got ups after → Sees after got
  batch-sees number bytes before after got ups shows is takes =
      where-cases (nat_le number before.status.applied) _ _ (Sees after got) takes
      (λ test again. kept-sees (gt.AgainAcked number) got before after before (λ tree. tt) shows refl refl again.0 again.2)
      (λ above other. where-cases (nat_lt (before.status.applied + 1) number) _ _ (Sees after got) other
      (λ test only. only-sees (gt.NotNext (before.status.applied + 1)) got ups before after (λ tree. tt) shows only)
      (λ below turned.
      let next : number ≡ before.status.applied + 1 = grind (arith, nat_tests, above, below) in
      turned-sees number bytes before after got ups shows next is turned))

  hears-sees : (message : Down) (before after : BrowserState Tree) (got : Got) (ups : List Up) → Shows ends first rows before → IsOf rows message
      → Hears ends.turns message before got ups after → Sees after got
  hears-sees (dn.Started number secret) before after got ups shows is hears =
      where-cases before.status.opened _ _ (Sees after got) hears
      (λ test only. only-sees (gt.AnsweredAgain 0) got ups before after (λ tree. tt) shows only)
      (λ test opens. kept-sees gt.Opened got before after _ (λ tree. tt) shows refl refl opens.0 opens.2)
  hears-sees (dn.Connected sent last) before after got ups shows is hears =
      where-cases before.status.opened _ _ (Sees after got) hears
      (λ test only. only-sees (gt.AnsweredAgain 0) got ups before after (λ tree. tt) shows only)
      (λ test opens. kept-sees gt.Opened got before after _ (λ tree. tt) shows refl refl opens.0 opens.2)
  hears-sees (dn.Refused refusal) before after got ups shows is hears = kept-sees (gt.Refused refusal) got before after _ (λ tree. tt) shows refl refl hears.0 hears.2
  hears-sees (dn.Ended fault) before after got ups shows is hears = kept-sees (gt.Ended fault) got before after _ (λ tree. tt) shows refl refl hears.0 hears.2
  hears-sees (dn.Batch number bytes) before after got ups shows is hears =
      where-cases before.status.opened _ _ (Sees after got) hears
      (λ test takes. batch-sees number bytes before after got ups shows is takes)
      (λ test only. only-sees gt.NotOpen got ups before after (λ tree. tt) shows only)
  hears-sees (dn.Outcome event outcome) before after got ups shows is hears =
      where-cases before.status.opened _ _ (Sees after got) hears
      (λ test takes. where-cases (is_unanswered event before.unanswered) _ _ (Sees after got) takes
      (λ waits answered. kept-sees (gt.Answered event outcome) got before after _ (λ tree. tt) shows refl refl answered.0 answered.2)
      (λ not_waiting other. where-cases (was_asked before.status.asked event) _ _ (Sees after got) other
      (λ asked only. only-sees (gt.AnsweredAgain event) got ups before after (λ tree. tt) shows only)
      (λ never only. only-sees gt.Stray got ups before after (λ tree. tt) shows only)))
      (λ test only. only-sees gt.NotOpen got ups before after (λ tree. tt) shows only)

  pub receives-sees : (connection : ℕ) (message : Down) (before after : BrowserState Tree) (got : Got) (ups : List Up) → Shows ends first rows before → IsOf rows message
      → Receives ends.turns connection message before got ups after → Sees after got
  receives-sees connection message before after got ups shows is receives =
      where-cases (is_present before.status.connection connection) _ _ (Sees after got) receives
      (λ test hears. hears-sees message before after got ups shows is hears)
      (λ test only. only-sees gt.OldConnection got ups before after (λ tree. tt) shows only)
