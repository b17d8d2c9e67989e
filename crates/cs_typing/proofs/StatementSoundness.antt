-- Statements with a typing keep to it, form by form, by recursion on the typing.
use Rattle.std.proofs.Common.{◌≡◌, List, [], ◌∷◌, ◌++◌, map, refl, sym, subst}
use Rattle.std.specs.Prelude.{◌||◌, true, false, option_map, Option, Some, None}
use Rattle.std.specs.Prelude.{Bool as Truth}
use Rattle.std.specs.List.{cons_option}
use Rattle.cs_ast.specs.declared.cs_type.CsType.{CsType}
use Rattle.cs_ast.specs.declared.cs_type.CsType.TheVariants as t
use Rattle.cs_ast.specs.declared.code.Code.{Code}
use Rattle.cs_ast.specs.declared.code.Code.TheVariants as c
use Rattle.cs_ast.specs.declared.value.Value.TheVariants as v
use Rattle.cs_meaning.specs.State.{State}
use Rattle.cs_meaning.specs.Outcome.{gives, breaks, continues, Meaning, charged}
use Rattle.cs_meaning.specs.Variables.{declared_as}
use Rattle.cs_meaning.specs.Scopes.{nothing, if_there}
use Rattle.cs_meaning.specs.Sections.{section, section_in, sections_of, selected}
use Rattle.cs_meaning.specs.Statements.{performed, block, branch, while_loop, test_of, for_loop, for_each, switch, returned}
use Rattle.cs_meaning.specs.Meaning.{Setting, meaning}
use Rattle.cs_meaning.proofs.Laws as law
use Rattle.cs_typing.specs.Types.{Types}
use Rattle.cs_typing.specs.Values.{ValueHas, ValuesHave}
use Rattle.cs_typing.specs.Values as has
use Rattle.cs_typing.specs.Expressions.{Surroundings}
use Rattle.cs_typing.specs.Statements.{Jumps, jumps, Always, Condition, Stepping, Runs, AllRun, Starts, SectionsRun}
use Rattle.cs_typing.specs.Statements as st
use Rattle.cs_typing.specs.States.{StateHas}
use Rattle.cs_typing.specs.Outcomes.{no_jump, leaving, Typed, Ended, Does}
use Rattle.cs_typing.proofs.ValueLists.{begin_all}
use Rattle.cs_typing.proofs.Fitting.{weaker_fits}
use Rattle.cs_typing.proofs.CallLemmas.{same_exits}
use Rattle.cs_typing.proofs.ScopeLemmas.{Extends, extends_none, extends_both, or_true, AllDo, block_does, perform_does, declare_does, return_value_does, branch_does}
use Rattle.cs_typing.proofs.ScopeLemmas as scope
use Rattle.cs_typing.proofs.LoopLemmas.{Tested, Tests, StepsOn, any_test, no_step, while_does, for_does, for_each_does, SectionsDo, switch_does}
use Rattle.cs_typing.proofs.LoopLemmas as loop
use Rattle.cs_typing.proofs.ExpressionSoundness.{Stands, charged_does, expression_gives}

does : (types : Types) (result : CsType) (j : Jumps) (locals inner : List CsType) (ends : Truth) (code act : Meaning) → ((s : State) → code s ≡ charged 1 s act) → Does types result j locals inner ends act → Does types result j locals inner ends code
does types result j locals inner ends code act is h s hs = charged_does types (leaving types result j locals) locals (Ended types inner ends) code act is (λ s1 k. k) h s hs

-- the locals behind a statement are those before it and further ones
extended : (place : Surroundings) (result : CsType) (j : Jumps) (locals inner : List CsType) (ends : Truth) (code : Code) → Runs place result j locals inner ends code → Extends locals inner
extended place result j locals inner ends code (st.declare _ _ type a h) = (type ∷ [], refl)
extended place result j locals inner ends code _ = extends_none locals

started : (place : Surroundings) (result : CsType) (j : Jumps) (locals within : List CsType) (begins : Truth) (first : Option Code) → Starts place result j locals within begins first → Extends locals within
started place result j locals within begins first (st.no_start _ _) = extends_none locals
started place result j locals within begins first (st.start _ _ _ _ a h) = extended place result j locals within begins a h

module _ (place : Surroundings) (around : Setting) (stands : Stands place around) where
  -- tests and steps of loops
  true_always : (locals : List CsType) → Tests place.types locals false (meaning around (c.Bool true))
  true_always locals s hs = charged_does place.types (no_jump place.types) locals (Tested place.types locals false) (meaning around (c.Bool true)) (λ s1. gives (v.Bool true) s1) (law.bool_law around true) (λ s1 k. k) (λ s1 hs1. (true, refl, (λ e. absurd (cc)), hs1)) s hs

  always_tests : (locals : List CsType) (condition : Option Code) → Always condition → Tests place.types locals false (test_of (option_map (meaning around) condition))
  always_tests locals condition st.none s hs = (true, refl, (λ e. absurd (cc)), hs)
  always_tests locals condition st.yes_always s hs = true_always locals s hs

  condition_tests : (locals : List CsType) (condition : Option Code) → Condition place locals condition → Tests place.types locals true (test_of (option_map (meaning around) condition))
  condition_tests locals condition st.none s hs = (true, refl, (λ e. refl), hs)
  condition_tests locals condition (st.some a h) s hs = any_test place.types locals (meaning around a) (expression_gives place around stands locals t.Bool a h) s hs

  steps_on : (locals : List CsType) (step : Option Code) → Stepping place locals step → StepsOn place.types locals (if_there (option_map (meaning around) step))
  steps_on locals step st.none s hs = hs
  steps_on locals step (st.some type a h) s hs =
      weaker_fits (no_jump place.types) (no_jump place.types) (Typed place.types locals type) (λ x s1. StateHas place.types locals s1) (meaning around a s) (same_exits place.types) (λ x s1 k. k.1) (expression_gives place around stands locals type a h s hs)

  module _ (result : CsType) where
    mutual
      -- statements
      pub statement_does : (j : Jumps) (locals inner : List CsType) (ends : Truth) (code : Code) → Runs place result j locals inner ends code → Does place.types result j locals inner ends (meaning around code)
      statement_does j locals inner ends code (st.declare _ _ type a h) = does place.types result j locals inner ends (meaning around code) (declared_as (meaning around a)) (law.declare_law around a) (declare_does place.types result j locals type (meaning around a) (expression_gives place around stands locals type a h))
      statement_does j locals inner ends code (st.empty _ _) = does place.types result j locals inner ends (meaning around code) nothing (law.empty_law around) (λ s hs. (refl, hs))
      statement_does j locals inner ends code (st.perform _ _ type a h) = does place.types result j locals inner ends (meaning around code) (performed (meaning around a)) (law.perform_law around a) (perform_does place.types result j locals type (meaning around a) (expression_gives place around stands locals type a h))
      statement_does j locals inner ends code (st.block _ _ within _ statements hs) =
          does place.types result j locals inner ends (meaning around code) (block (map (meaning around) statements)) (law.block_law around statements) (block_does place.types result j locals within ends (map (meaning around) statements) (all_do j locals within ends statements hs))
      statement_does j locals inner ends code (st.if_only _ _ within one_ends a b h g) =
          does place.types result j locals inner ends (meaning around code) (branch (meaning around a) (meaning around b) None) (law.if_law around a b None)
          (subst (λ d. Does place.types result j locals locals d (branch (meaning around a) (meaning around b) None)) (or_true one_ends)
          (branch_does place.types result j locals within locals one_ends true (meaning around a) (meaning around b) None (extended place result j locals within one_ends b g) (extends_none locals) (expression_gives place around stands locals t.Bool a h) (statement_does j locals within one_ends b g) (λ s hs. (refl, hs))))
      statement_does j locals inner ends code (st.if_else _ _ within other_within one_ends other_ends a b d h g k) =
          does place.types result j locals inner ends (meaning around code) (branch (meaning around a) (meaning around b) (Some (meaning around d))) (law.if_law around a b (Some d))
          (branch_does place.types result j locals within other_within one_ends other_ends (meaning around a) (meaning around b) (Some (meaning around d)) (extended place result j locals within one_ends b g) (extended place result j locals other_within other_ends d k)
          (expression_gives place around stands locals t.Bool a h) (statement_does j locals within one_ends b g) (statement_does j locals other_within other_ends d k))
      statement_does j locals inner ends code (st.while _ _ within body_ends a b h g) =
          does place.types result j locals inner ends (meaning around code) (while_loop (meaning around a) (meaning around b)) (law.while_law around a b)
          (while_does place.types result j locals within true body_ends (meaning around a) (meaning around b) (extended place result (jumps true true) locals within body_ends b g) (any_test place.types locals (meaning around a) (expression_gives place around stands locals t.Bool a h)) (statement_does (jumps true true) locals within body_ends b g))
      statement_does j locals inner ends code (st.forever _ _ within body_ends b g) =
          does place.types result j locals inner ends (meaning around code) (while_loop (meaning around (c.Bool true)) (meaning around b)) (law.while_law around (c.Bool true) b)
          (while_does place.types result j locals within false body_ends (meaning around (c.Bool true)) (meaning around b) (extended place result (jumps false true) locals within body_ends b g) (true_always locals) (statement_does (jumps false true) locals within body_ends b g))
      statement_does j locals inner ends code (st.for_loop _ _ within last starts body_ends first condition step b begins h k g) =
          does place.types result j locals inner ends (meaning around code) (for_loop (option_map (meaning around) first) (option_map (meaning around) condition) (option_map (meaning around) step) (meaning around b)) (law.for_law around first condition step b)
          (for_does place.types result j locals within last starts true starts body_ends (option_map (meaning around) first) (option_map (meaning around) condition) (option_map (meaning around) step) (meaning around b) (started place result j locals within starts first begins) (extended place result (jumps true true) within last body_ends b g)
          (start_does j locals within starts first begins) (condition_tests within condition h) (steps_on within step k) (statement_does (jumps true true) within last body_ends b g) (λ d d'. d))
      statement_does j locals inner ends code (st.for_forever _ _ within last starts body_ends first condition step b begins h k g) =
          does place.types result j locals inner ends (meaning around code) (for_loop (option_map (meaning around) first) (option_map (meaning around) condition) (option_map (meaning around) step) (meaning around b)) (law.for_law around first condition step b)
          (for_does place.types result j locals within last starts false false body_ends (option_map (meaning around) first) (option_map (meaning around) condition) (option_map (meaning around) step) (meaning around b) (started place result j locals within starts first begins) (extended place result (jumps false true) within last body_ends b g)
          (start_does j locals within starts first begins) (always_tests within condition h) (steps_on within step k) (statement_does (jumps false true) within last body_ends b g) (λ d d'. d'))
      statement_does j locals inner ends code (st.for_each _ _ within body_ends type a b h g) =
          does place.types result j locals inner ends (meaning around code) (for_each (meaning around a) (meaning around b)) (law.for_each_law around a b)
          (for_each_does place.types result j locals within body_ends type (meaning around a) (meaning around b) (extends_both locals (locals ++ type ∷ []) within (type ∷ [], refl) (extended place result (jumps true true) (locals ++ type ∷ []) within body_ends b g)) (expression_gives place around stands locals (t.List type) a h) (statement_does (jumps true true) (locals ++ type ∷ []) within body_ends b g))
      statement_does j locals inner ends code (st.switch _ _ type sections_end default a sections h hs) =
          does place.types result j locals inner ends (meaning around code) (switch (meaning around a) (λ x. option_map (map (meaning around)) (selected x (sections_of sections)))) (law.switch_law around a sections)
          (switch_does place.types result (map (meaning around)) j locals type true sections_end default (meaning around a) (sections_of sections) (expression_gives place around stands locals type a h) (sections_do (jumps true j.continues) locals sections_end default sections hs) (λ d. refl) (λ d. refl))
      statement_does j locals inner ends code (st.switch_left _ _ type a sections h hs) =
          does place.types result j locals inner ends (meaning around code) (switch (meaning around a) (λ x. option_map (map (meaning around)) (selected x (sections_of sections)))) (law.switch_law around a sections)
          (switch_does place.types result (map (meaning around)) j locals type false false true (meaning around a) (sections_of sections) (expression_gives place around stands locals type a h) (sections_do (jumps false j.continues) locals false true sections hs) (λ d. d) (λ d. absurd (cc)))
      statement_does j locals inner ends code (st.break_out _ _ h) = does place.types result j locals inner ends (meaning around code) (λ s1. breaks s1) (law.break_law around) (λ s hs. (h, (begin_all place.types locals s.locals hs.0, hs.1)))
      statement_does j locals inner ends code (st.go_on _ _ h) = does place.types result j locals inner ends (meaning around code) (λ s1. continues s1) (law.continue_law around) (λ s hs. (h, (begin_all place.types locals s.locals hs.0, hs.1)))
      statement_does j locals inner ends code (st.return _ _ h) =
          does place.types result j locals inner ends (meaning around code) (returned None) (law.return_law around None) (λ s hs. (subst (λ z. ValueHas place.types z v.Null) (sym h) (has.anything v.Null), (begin_all place.types locals s.locals hs.0, hs.1)))
      statement_does j locals inner ends code (st.return_value _ _ a h) =
          does place.types result j locals inner ends (meaning around code) (returned (Some (meaning around a))) (law.return_law around (Some a)) (return_value_does place.types result j locals (meaning around a) (expression_gives place around stands locals result a h))

      all_do : (j : Jumps) (locals inner : List CsType) (ends : Truth) (codes : List Code) → AllRun place result j locals inner ends codes → AllDo place.types result j locals inner ends (map (meaning around) codes)
      all_do j locals inner ends codes (st.none _ _) = scope.none j locals
      all_do j locals inner ends codes (st.more _ _ between _ one_ends others_end one others h hs) =
          scope.more j locals between inner one_ends others_end (meaning around one) (map (meaning around) others) (extended place result j locals between one_ends one h) (statement_does j locals between one_ends one h) (all_do j between inner others_end others hs)

      start_does : (j : Jumps) (locals within : List CsType) (begins : Truth) (first : Option Code) → Starts place result j locals within begins first → Does place.types result j locals within begins (if_there (option_map (meaning around) first))
      start_does j locals within begins first (st.no_start _ _) = λ s hs. (refl, hs)
      start_does j locals within begins first (st.start _ _ _ _ a h) = statement_does j locals within begins a h

      sections_do : (j : Jumps) (locals : List CsType) (ends default : Truth) (codes : List Code) → SectionsRun place result j locals ends default codes → SectionsDo place.types result (map (meaning around)) j locals ends default (sections_of codes)
      sections_do j locals ends default codes (st.no_section _ _) = loop.no_section j locals
      sections_do j locals ends default codes (st.section _ _ inner one_ends others_end one_default others_default constants statements others h hs) =
          subst (λ o. SectionsDo place.types result (map (meaning around)) j locals (one_ends || others_end) (one_default || others_default) (cons_option (section_in o) (sections_of others))) (sym (c.outs-Section constants one_default statements))
          (loop.section j locals inner one_ends others_end others_default (section constants one_default statements) (sections_of others) (all_do j locals inner one_ends statements h) (sections_do j locals others_end others_default others hs))
