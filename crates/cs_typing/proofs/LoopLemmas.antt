-- Loops and `switch` keep to the types.
use Rattle.std.proofs.Common.{◌≡◌, ℕ, zero, suc, ◌+◌, List, [], ◌∷◌, ◌++◌, length, refl, sym, ap, subst, ◌∙◌, inl, inr}
use Rattle.std.specs.Prelude.{IsTrue, ◌||◌, true, false, cond, find, option_map, Option, Some, None, if◌then◌else◌}
use Rattle.std.specs.Prelude.{Bool as Truth}
use Rattle.std.specs.List.{list_any}
use Rattle.std.specs.Option.{option_or}
use Rattle.cs_ast.specs.declared.cs_type.CsType.{CsType}
use Rattle.cs_ast.specs.declared.cs_type.CsType.TheVariants as t
use Rattle.cs_ast.specs.declared.code.Code.{Code}
use Rattle.cs_ast.specs.declared.value.Value.{Value}
use Rattle.cs_ast.specs.declared.value.Value.TheVariants as v
use Rattle.cs_meaning.specs.State.{State, with_local}
use Rattle.cs_meaning.specs.Outcome.{Outcome, gives, breaks, continues, returns, faults, stuck, Meaning, and_then, chosen, found}
use Rattle.cs_meaning.specs.Kinds.{truth_of, items_in, items_of}
use Rattle.cs_meaning.specs.Reading.{used}
use Rattle.cs_meaning.specs.Scopes.{nothing, if_there, in_order, scoped, behind_turn, turns, loop, each_of, behind_section}
use Rattle.cs_meaning.specs.Equality.{is_same}
use Rattle.cs_meaning.specs.Sections.{Section, selected}
use Rattle.cs_meaning.specs.Statements.{block, while_loop, test_of, for_loop, for_each, section_run, switch}
use Rattle.cs_typing.specs.Types.{Types}
use Rattle.cs_typing.specs.Values.{ValueHas, ValuesHave, ItemsHave}
use Rattle.cs_typing.specs.Values as has
use Rattle.cs_typing.specs.Statements.{Jumps, jumps}
use Rattle.cs_typing.specs.States.{StateHas}
use Rattle.cs_typing.specs.Outcomes.{Fits, no_jump, leaving, Typed, Gives, Ended, Does}
use Rattle.cs_typing.proofs.ValueKinds.{is_bool, is_list}
use Rattle.cs_typing.proofs.ValueLists.{as_many, one_more, begin_all}
use Rattle.cs_typing.proofs.Fitting.{then_fits, weaker_fits}
use Rattle.cs_typing.proofs.ScopeLemmas.{Extends, or_true, Begun, all_begins, leaving_exactly, fewer_locals, no_jump_within, cut_fits, scoped_fits, scoped_does, expression_then, AllDo, all_extend, in_order_does}

module _ (types : Types) where
  -- a test of a loop: a truth, and true unless the loop may come to its end
  abbrev pub Tested : List CsType → Truth → Value → State → Type 0
  Tested locals out x s = (b : Truth) × (x ≡ v.Bool b) × (b ≡ false → IsTrue out) × StateHas types locals s

  abbrev pub Tests : List CsType → Truth → Meaning → Type 0
  Tests locals out test = (s : State) → StateHas types locals s → Fits (no_jump types) (Tested locals out) (test s)

  abbrev pub StepsOn : List CsType → Meaning → Type 0
  StepsOn locals step = (s : State) → StateHas types locals s → Fits (no_jump types) (λ x s1. StateHas types locals s1) (step s)

  -- a test that may end the loop, and none
  pub any_test : (locals : List CsType) (test : Meaning) → Gives types locals t.Bool test → Tests locals true test
  any_test locals test h s hs =
      weaker_fits (no_jump types) (no_jump types) (Typed types locals t.Bool) (Tested locals true) (test s) (record { breaks_too = λ s h. h; continues_too = λ s h. h; returns_too = λ x s h. h; faults_too = λ s h. h })
      (λ x s1 k. let b = is_bool types t.Bool x k.0 refl in (b.0, b.1, (λ e. refl), k.1)) (h s hs)

  pub no_step : (locals : List CsType) → StepsOn locals nothing
  no_step locals s hs = hs

module _ (types : Types) (result : CsType) where
  -- a turn and what follows it; `out`: whether the loop may come to its end
  behind_turn_fits : (j : Jumps) (locals : List CsType) (out ends : Truth) (o : Outcome Value) (next : Meaning) → Fits (leaving_exactly types result (jumps out true) locals) (Ended types locals ends) o
      → ((s : State) → StateHas types locals s → Fits (leaving types result j locals) (Ended types locals out) (next s)) → Fits (leaving types result j locals) (Ended types locals out) (behind_turn o next)
  behind_turn_fits j locals out ends (gives x s) next h g = g s h.1
  behind_turn_fits j locals out ends (breaks s) next h g = h
  behind_turn_fits j locals out ends (continues s) next h g = g s h.1
  behind_turn_fits j locals out ends (returns x s) next h g = (h.0, (begin_all types locals s.locals h.1.0, h.1.1))
  behind_turn_fits j locals out ends (faults fault s) next h g = h
  behind_turn_fits j locals out ends stuck next h g = h

  turns_fit : (count : ℕ) (j : Jumps) (locals inner : List CsType) (out ends : Truth) (test body step : Meaning) (s : State)
      → Extends locals inner → Tests types locals out test → Does types result (jumps out true) locals inner ends body → StepsOn types locals step → StateHas types locals s → Fits (leaving types result j locals) (Ended types locals out) (turns count test body step s)
  unfolding turns
  turns_fit zero j locals inner out ends test body step s e h g k hs = hs.1
  turns_fit (suc count) j locals inner out ends test body step s e h g k hs =
      then_fits (leaving types result j locals) (Tested types locals out) (Ended types locals out) (test s) (λ x s1. chosen (truth_of x) (behind_turn (scoped body s1) (λ s2. and_then (step s2) (λ y s3. turns count test body step s3))) (nothing s1))
      (weaker_fits (no_jump types) (leaving types result j locals) (Tested types locals out) (Tested types locals out) (test s) (no_jump_within types result j locals) (λ x s1 l. l) (h s hs))
      (λ x s1 l. subst (λ z. Fits (leaving types result j locals) (Ended types locals out) (chosen (truth_of z) (behind_turn (scoped body s1) (λ s2. and_then (step s2) (λ y s3. turns count test body step s3))) (nothing s1))) (sym l.1)
      (go l.0 s1 l.2 l.3 (λ s3 hs3. turns_fit count j locals inner out ends test body step s3 e h g k hs3)))
    where
      go : (b : Truth) (s1 : State) → (b ≡ false → IsTrue out) → StateHas types locals s1 → ((s3 : State) → StateHas types locals s3 → Fits (leaving types result j locals) (Ended types locals out) (turns count test body step s3))
          → Fits (leaving types result j locals) (Ended types locals out) (if b then behind_turn (scoped body s1) (λ s2. and_then (step s2) (λ y s3. turns count test body step s3)) else nothing s1)
      go false s1 l hs1 again = (l refl, hs1)
      go true s1 l hs1 again =
          behind_turn_fits j locals out ends (scoped body s1) (λ s2. and_then (step s2) (λ y s3. turns count test body step s3)) (scoped_fits types result (jumps out true) locals inner ends body s1 e g hs1)
          (λ s2 hs2. then_fits (leaving types result j locals) (λ x s3. StateHas types locals s3) (Ended types locals out) (step s2) (λ y s3. turns count test body step s3)
          (weaker_fits (no_jump types) (leaving types result j locals) (λ x s3. StateHas types locals s3) (λ x s3. StateHas types locals s3) (step s2) (no_jump_within types result j locals) (λ x s3 m. m) (k s2 hs2)) (λ y s3 m. again s3 m))

  loop_fits : (j : Jumps) (locals inner : List CsType) (out ends : Truth) (test body step : Meaning) (s : State)
      → Extends locals inner → Tests types locals out test → Does types result (jumps out true) locals inner ends body → StepsOn types locals step → StateHas types locals s → Fits (leaving types result j locals) (Ended types locals out) (loop test body step s)
  loop_fits j locals inner out ends test body step s e h g k hs = turns_fit (s.left + 1) j locals inner out ends test body step s e h g k hs

  pub while_does : (j : Jumps) (locals inner : List CsType) (out ends : Truth) (test body : Meaning) → Extends locals inner → Tests types locals out test → Does types result (jumps out true) locals inner ends body → Does types result j locals locals out (while_loop test body)
  while_does j locals inner out ends test body e h g s hs = loop_fits j locals inner out ends test body nothing s e h g (no_step types locals) hs

  pub for_does : (j : Jumps) (locals within inner : List CsType) (begins out total ends : Truth) (start test step : Option Meaning) (body : Meaning)
      → Extends locals within → Extends within inner → Does types result j locals within begins (if_there start) → Tests types within out (test_of test) → StepsOn types within (if_there step) → Does types result (jumps out true) within inner ends body → (IsTrue begins → IsTrue out → IsTrue total) → Does types result j locals locals total (for_loop start test step body)
  for_does j locals within inner begins out total ends start test step body e e' h g k l too s hs =
      scoped_does types result j locals within total total (λ s1. and_then (if_there start s1) (λ x s2. loop (test_of test) body (if_there step) s2)) s e
      (λ s1 hs1. then_fits (leaving types result j locals) (Ended types within begins) (Ended types within total) (if_there start s1) (λ x s2. loop (test_of test) body (if_there step) s2) (h s1 hs1)
      (λ x s2 m. weaker_fits (leaving types result j within) (leaving types result j locals) (Ended types within out) (Ended types within total) (loop (test_of test) body (if_there step) s2) (fewer_locals types result j locals within e) (λ y s3 n. (too m.0 n.0, n.1))
      (loop_fits j within inner out ends (test_of test) body (if_there step) s2 e' g l k m.1)))
      (λ d. d) hs

  -- a turn for each item
  each_fits : (j : Jumps) (locals inner : List CsType) (ends : Truth) (type : CsType) (items : List Value) (body : Meaning) (s : State)
      → Extends locals inner → ItemsHave types type items → Does types result (jumps true true) (locals ++ type ∷ []) inner ends body → StateHas types locals s → Fits (leaving types result j locals) (Ended types locals true) (each_of items body s)
  unfolding each_of
  each_fits j locals inner ends type items body s e (has.no_item _) h hs = (refl, hs)
  each_fits j locals inner ends type items body s e (has.item _ x xs hx hxs) h hs =
      behind_turn_fits j locals true ends (scoped (λ s1. body (with_local x s1)) s) (λ s1. each_of xs body s1)
      (cut_fits types result (length s.locals) (jumps true true) locals ends (body (with_local x s)) (as_many types locals s.locals hs.0)
      (weaker_fits (leaving types result (jumps true true) (locals ++ type ∷ [])) (leaving types result (jumps true true) locals) (Ended types inner ends) (Begun types result locals ends) (body (with_local x s)) (fewer_locals types result (jumps true true) locals (locals ++ type ∷ []) (type ∷ [], refl))
      (λ y s1 k. (k.0, all_begins types result locals inner s1 e k.1)) (h (with_local x s) (one_more types locals s.locals type x hs.0 hx, hs.1))))
      (λ s1 hs1. each_fits j locals inner ends type xs body s1 e hxs h hs1)

  pub for_each_does : (j : Jumps) (locals inner : List CsType) (ends : Truth) (type : CsType) (list body : Meaning)
      → Extends locals inner → Gives types locals (t.List type) list → Does types result (jumps true true) (locals ++ type ∷ []) inner ends body → Does types result j locals locals true (for_each list body)
  for_each_does j locals inner ends type list body e h g s hs =
      expression_then types result j locals (t.List type) (Ended types locals true) list (λ x s1. and_then (used x (items_of x) s1) (λ items s2. each_of items body s2)) s h hs
      (λ x s1 hx hs1. elim (is_list types (t.List type) type x hx refl) [
        | inl d ↦ subst (λ z. Fits (leaving types result j locals) (Ended types locals true) (and_then (used z (items_of z) s1) (λ items s2. each_of items body s2))) (sym d) hs1.1
        | inr l ↦ subst (λ z. Fits (leaving types result j locals) (Ended types locals true) (and_then (used z (items_of z) s1) (λ items s2. each_of items body s2))) (sym l.is)
            (subst (λ z. Fits (leaving types result j locals) (Ended types locals true) (and_then (found (items_in z) s1) (λ items s2. each_of items body s2))) (sym (v.outs-List l.items)) (each_fits j locals inner ends type l.items body s1 e l.have g hs1))
      ])

  -- a section: its `break` leaves the `switch`
  behind_section_fits : (j : Jumps) (locals : List CsType) (out ends : Truth) (o : Outcome Value) → Fits (leaving_exactly types result (jumps out j.continues) locals) (Ended types locals ends) o → (IsTrue ends → IsTrue out)
      → Fits (leaving types result j locals) (Ended types locals out) (behind_section o)
  behind_section_fits j locals out ends (gives x s) h too = (too h.0, h.1)
  behind_section_fits j locals out ends (breaks s) h too = h
  behind_section_fits j locals out ends (continues s) h too = (h.0, (begin_all types locals s.locals h.1.0, h.1.1))
  behind_section_fits j locals out ends (returns x s) h too = (h.0, (begin_all types locals s.locals h.1.0, h.1.1))
  behind_section_fits j locals out ends (faults fault s) h too = h
  behind_section_fits j locals out ends stuck h too = h

  -- sections whose statements do so: whether the end of one can be reached, and whether one has `default`
  pub data SectionsDo (f : List Code → List Meaning) : Jumps → List CsType → Truth → Truth → List (Section (List Code)) → Type 0 where
    no_section : (j : Jumps) (locals : List CsType) → SectionsDo f j locals false false []
    section : (j : Jumps) (locals inner : List CsType) (ends others_end others_default : Truth) (it : Section (List Code)) (others : List (Section (List Code))) →
        AllDo types result j locals inner ends (f it.statements) → SectionsDo f j locals others_end others_default others → SectionsDo f j locals (ends || others_end) (it.otherwise || others_default) (it ∷ others)

  -- a section that is among them
  pub record Among (f : List Code → List Meaning) (j : Jumps) (locals : List CsType) (all_end : Truth) (statements : List Code) : Type 0 where
    pub inner : List CsType
    pub ends : Truth
    pub does : AllDo types result j locals inner ends (f statements)
    pub too : IsTrue ends → IsTrue all_end

  later : (f : List Code → List Meaning) (j : Jumps) (locals : List CsType) (ends others_end : Truth) (statements : List Code) → Among f j locals others_end statements → Among f j locals (ends || others_end) statements
  later f j locals ends others_end statements a = record { inner = a.inner; ends = a.ends; does = a.does; too = λ e. ap (λ z. ends || z) (a.too e) ∙ or_true ends }

  found_among : (f : List Code → List Meaning) (j : Jumps) (locals : List CsType) (all_end default : Truth) (sections : List (Section (List Code))) (test : Section (List Code) → Truth) (it : Section (List Code))
      → SectionsDo f j locals all_end default sections → find test sections ≡ Some it → Among f j locals all_end it.statements
  found_among f j locals all_end default sections test it (no_section _ _) e = absurd (cc)
  found_among f j locals all_end default sections test it (section _ _ inner ends others_end others_default one others h hs) e = by (test one) e (λ g. found_among f j locals others_end others_default others test it hs g)
    where
      by : (b : Truth) → cond b (Some one) (find test others) ≡ Some it → (find test others ≡ Some it → Among f j locals others_end it.statements) → Among f j locals (ends || others_end) it.statements
      by false e rest = later f j locals ends others_end it.statements (rest e)
      by true e rest =
          let same : one ≡ it = cc in
          subst (λ (z : Section (List Code)). Among f j locals (ends || others_end) z.statements) same (record { inner = inner; ends = ends; does = h; too = λ d. ap (λ z. z || others_end) d })

  no_default : (f : List Code → List Meaning) (j : Jumps) (locals : List CsType) (all_end default : Truth) (sections : List (Section (List Code))) → SectionsDo f j locals all_end default sections → find (λ (it : Section (List Code)). it.otherwise) sections ≡ None → default ≡ false
  no_default f j locals all_end default sections (no_section _ _) e = refl
  no_default f j locals all_end default sections (section _ _ inner ends others_end others_default one others h hs) e = by one.otherwise e (λ g. no_default f j locals others_end others_default others hs g)
    where
      by : (b : Truth) → cond b (Some one) (find (λ (it : Section (List Code)). it.otherwise) others) ≡ None → (find (λ (it : Section (List Code)). it.otherwise) others ≡ None → others_default ≡ false) → (b || others_default) ≡ false
      by true e rest = absurd (cc)
      by false e rest = rest e

  -- the statements of the section that is selected
  run_fits : (f : List Code → List Meaning) (j : Jumps) (locals : List CsType) (out all_end : Truth) (statements : List Code) (s : State)
      → Among f (jumps out j.continues) locals all_end statements → (IsTrue all_end → IsTrue out) → StateHas types locals s → Fits (leaving types result j locals) (Ended types locals out) (behind_section (block (f statements) s))
  run_fits f j locals out all_end statements s a too hs =
      behind_section_fits j locals out a.ends (block (f statements) s)
      (scoped_fits types result (jumps out j.continues) locals a.inner a.ends (in_order (f statements)) s (all_extend types result (jumps out j.continues) locals a.inner a.ends (f statements) a.does) (in_order_does types result (jumps out j.continues) locals a.inner a.ends (f statements) a.does) hs)
      (λ d. too (a.too d))

  selected_fits : (f : List Code → List Meaning) (j : Jumps) (locals : List CsType) (out all_end default : Truth) (sections : List (Section (List Code))) (x : Value) (s : State)
      → SectionsDo f (jumps out j.continues) locals all_end default sections → (IsTrue all_end → IsTrue out) → (default ≡ false → IsTrue out) → StateHas types locals s → Fits (leaving types result j locals) (Ended types locals out) (section_run (option_map f (selected x sections)) s)
  selected_fits f j locals out all_end default sections x s h too none hs =
      by (find (λ (it : Section (List Code)). list_any (is_same x) it.constants) sections) (find (λ (it : Section (List Code)). it.otherwise) sections) refl refl
    where
      by : (one other : Option (Section (List Code))) → find (λ (it : Section (List Code)). list_any (is_same x) it.constants) sections ≡ one → find (λ (it : Section (List Code)). it.otherwise) sections ≡ other
          → Fits (leaving types result j locals) (Ended types locals out) (section_run (option_map f (option_map (λ (it : Section (List Code)). it.statements) (option_or one other))) s)
      by (Some it) other e e' = run_fits f j locals out all_end it.statements s (found_among f (jumps out j.continues) locals all_end default sections (λ (z : Section (List Code)). list_any (is_same x) z.constants) it h e) too hs
      by None (Some it) e e' = run_fits f j locals out all_end it.statements s (found_among f (jumps out j.continues) locals all_end default sections (λ (z : Section (List Code)). z.otherwise) it h e') too hs
      by None None e e' = (none (no_default f (jumps out j.continues) locals all_end default sections h e'), hs)

  pub switch_does : (f : List Code → List Meaning) (j : Jumps) (locals : List CsType) (type : CsType) (out all_end default : Truth) (value : Meaning) (sections : List (Section (List Code)))
      → Gives types locals type value → SectionsDo f (jumps out j.continues) locals all_end default sections → (IsTrue all_end → IsTrue out) → (default ≡ false → IsTrue out) → Does types result j locals locals out (switch value (λ x. option_map f (selected x sections)))
  switch_does f j locals type out all_end default value sections h g too none s hs =
      expression_then types result j locals type (Ended types locals out) value (λ x s1. section_run (option_map f (selected x sections)) s1) s h hs
      (λ x s1 hx hs1. selected_fits f j locals out all_end default sections x s1 g too none hs1)
