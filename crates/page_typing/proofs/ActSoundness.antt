-- Parts of templates with types keep to them, and are never stuck: form by form, by recursion on their typing.
use Rattle.std.proofs.Common.{◌≡◌, ℕ, List, [], ◌∷◌, ◌++◌, refl, sym, subst, ◌∙◌, inl, inr}
use Rattle.std.proofs.lemmas.List.{append-nil}
use Rattle.std.specs.Prelude.{Bool, true, false, if◌then◌else◌, find, option_map, Option, Some, None}
use Rattle.std.specs.List.{list_any}
use Rattle.std.specs.Option.{option_or}
use Rattle.cs_ast.specs.declared.code.Code.{Code}
use Rattle.cs_ast.specs.declared.code.Code.TheVariants as c
use Rattle.cs_ast.specs.declared.cs_type.CsType.{CsType}
use Rattle.cs_ast.specs.declared.cs_type.CsType.TheVariants as t
use Rattle.cs_ast.specs.declared.value.Value.{Value}
use Rattle.cs_ast.specs.declared.value.Value.TheVariants as v
use Rattle.cs_meaning.specs.Equality.{is_same}
use Rattle.cs_meaning.specs.Kinds.{fragment_in, items_in, items_of}
use Rattle.cs_meaning.specs.Outcome.{found}
use Rattle.cs_meaning.specs.Reading.{used}
use Rattle.cs_meaning.specs.Scopes.{nothing}
use Rattle.cs_meaning.specs.Sections.{Section, selected}
use Rattle.cs_meaning.specs.State.{State, with_local}
use Rattle.cs_meaning.specs.Meaning.{meaning, body_meaning}
use Rattle.cs_meaning.specs.Statements.{performed}
use Rattle.cs_meaning.specs.Variables.{declared_as}
use Rattle.cs_meaning.proofs.Laws as law
use Rattle.cs_typing.specs.Values.{ValueHas, ValuesHave, ItemsHave}
use Rattle.cs_typing.specs.Operators.{Shows}
use Rattle.cs_typing.specs.Operators as shows
use Rattle.cs_typing.specs.Expressions.{Surroundings, CodeHas}
use Rattle.cs_typing.specs.Statements.{Condition, Stepping}
use Rattle.cs_typing.specs.Statements as st
use Rattle.cs_typing.specs.States.{StateHas}
use Rattle.cs_typing.specs.Outcomes.{Fits, no_jump, Typed}
use Rattle.cs_typing.proofs.BodySoundness.{expression_sound}
use Rattle.cs_typing.proofs.ExpressionSoundness.{charged_does}
use Rattle.cs_typing.proofs.Fitting.{then_fits}
use Rattle.cs_typing.proofs.OperatorLemmas as operators
use Rattle.cs_typing.proofs.ScopeLemmas.{Extends, extends_none, extends_both}
use Rattle.cs_typing.proofs.ValueKinds.{is_list, is_fragment}
use Rattle.cs_typing.proofs.ValueLists.{one_more}
use Rattle.drawing_meaning.specs.declared.output.Output.{Output}
use Rattle.drawing_meaning.specs.Acts.{Act, output, in_order, ended, all_siblings}
use Rattle.drawing_meaning.specs.Attributes.{all_worn}
use Rattle.drawing_meaning.specs.Drawing.{Drawing, Draws, and_then, done, known, run, begun_at, bytes_of, component_begun, scoped}
use Rattle.drawing_meaning.specs.Nodes as node
use Rattle.drawing_meaning.specs.Nodes.{Appears, as_fragment, as_text, as_markup, or_nothing}
use Rattle.drawing_meaning.specs.Stages.{Stage, deeper, code_value, truth}
use Rattle.drawing_meaning.specs.Tags as tag
use Rattle.drawing_meaning.specs.Tags.{all_given}
use Rattle.drawing_meaning.specs.Texts.{shown}
use Rattle.drawing_meaning.specs.Turns as turns
use Rattle.drawing_meaning.specs.Turns.{turn, loop, each_turn, test_or_true, code_or_nothing, behind_start}
use Rattle.frame_core.specs.declared.item.Item.{Item}
use Rattle.frame_core.specs.declared.item.Item.TheVariants as item
use Rattle.page_typing.specs.Drawings.{DrawnFits, DrawingHas, HandlersHave, ValueDrawn, WholeUnless, ItemsDrawn, OutputDrawn, StageHas}
use Rattle.page_typing.specs.Drawings as whole
use Rattle.page_typing.specs.Acts.{AppearsAs, SimpleHas, StartHas, ActHas, ActsHave, SectionsHave}
use Rattle.page_typing.specs.Acts as acts
use Rattle.page_typing.proofs.Drawing.{then_drawn, weaker_drawn, body_typed, outcome_drawn, paid, begun_at_drawn, component_drawn, shown_drawn, code_drawn, truth_drawn}
use Rattle.page_typing.proofs.Dressing.{dresses_drawn, gives_drawn}
use Rattle.page_typing.proofs.Turns.{has_begins, ScopedOutput, scoped_output, as_output, unless_drawn, ended_drawn, Keeps, OneItem, Any, loop_drawn, each_drawn}
use Rattle.page_typing.proofs.Whole.{unless_none}

-- behind a statement the locals are those before it and further ones
simple_extends : (at : Surroundings) (locals inner : List CsType) (code : Code) → SimpleHas at locals inner code → Extends locals inner
simple_extends at locals inner code (acts.declare type a h) = (type ∷ [], refl)
simple_extends at locals inner code acts.empty = extends_none locals
simple_extends at locals inner code (acts.perform type a h) = extends_none locals

start_extends : (at : Surroundings) (locals within : List CsType) (start : Option Code) → StartHas at locals within start → Extends locals within
start_extends at locals within start acts.none = extends_none locals
start_extends at locals within start (acts.some _ code h) = simple_extends at locals within code h

act_extends : (at : Surroundings) (components breaks : Bool) (locals inner : List CsType) (act : Act) → ActHas at components breaks locals inner act → Extends locals inner
act_extends at components breaks locals inner act (acts.statement _ _ _ code h) = simple_extends at locals inner code h
act_extends at components breaks locals inner act _ = extends_none locals

all_extend : (at : Surroundings) (components breaks : Bool) (locals inner : List CsType) (all : List Act) → ActsHave at components breaks locals inner all → Extends locals inner
all_extend at components breaks locals inner all (acts.none _ _) = extends_none locals
all_extend at components breaks locals inner all (acts.more _ _ between _ one others h hs) = extends_both locals between inner (act_extends at components breaks locals between one h) (all_extend at components breaks between inner others hs)

-- one of two, from one drawing
either_run : {A : Type 0} (P : A → Drawing → Type 0) (b : Bool) (one other : Draws A) (d : Drawing) → DrawnFits P (one d) → DrawnFits P (other d) → DrawnFits P ((if b then one else other) d)
either_run P true one other d h g = h
either_run P false one other d h g = g

-- the first section that passes a test, or one found among the others
found_section : (P : Section (List Act) → Type 0) (one it : Section (List Act)) (rest : Option (Section (List Act))) (b : Bool) → (if b then Some one else rest) ≡ Some it → P one → (rest ≡ Some it → P it) → P it
found_section P one it rest true e h g = let same : one ≡ it = cc in subst P same h
found_section P one it rest false e h g = g e

selected_section : (P : List Act → Type 0) (one other : Option (Section (List Act))) → ((it : Section (List Act)) → one ≡ Some it → P it.statements) → ((it : Section (List Act)) → other ≡ Some it → P it.statements) → P []
    → P (or_nothing (option_map (λ (it : Section (List Act)). it.statements) (option_or one other)))
selected_section P (Some it) other h g k = h it refl
selected_section P None (Some it) h g k = g it refl
selected_section P None None h g k = k

module _ (at : Surroundings) (components : Bool) where
  -- a statement without statements in it
  module _ (stage : Stage) (stands : StageHas at components stage) where
    simple_fits : (locals inner : List CsType) (code : Code) (s : State) → SimpleHas at locals inner code → StateHas at.types locals s → Fits (no_jump at.types) (λ x s1. Unit {0} × StateHas at.types inner s1) (meaning stage.around code s)
    simple_fits locals inner code s (acts.declare type a h) hs =
        charged_does at.types (no_jump at.types) locals (λ x s1. Unit {0} × StateHas at.types (locals ++ type ∷ []) s1) (meaning stage.around (c.Declare a)) (declared_as (meaning stage.around a)) (law.declare_law stage.around a) (λ s1 k. k)
        (λ s1 hs1. then_fits (no_jump at.types) (Typed at.types locals type) (λ x s2. Unit {0} × StateHas at.types (locals ++ type ∷ []) s2) (meaning stage.around a s1) (λ x s2. nothing (with_local x s2)) (expression_sound at stage.around locals type a s1 stands.around h hs1).1
        (λ x s2 k. (tt, (one_more at.types locals s2.locals type x k.1.0 k.0, k.1.1)))) s hs
    simple_fits locals inner code s acts.empty hs =
        charged_does at.types (no_jump at.types) locals (λ x s1. Unit {0} × StateHas at.types locals s1) (meaning stage.around c.Empty) (λ s1. nothing s1) (law.empty_law stage.around) (λ s1 k. k) (λ s1 hs1. (tt, hs1)) s hs
    simple_fits locals inner code s (acts.perform type a h) hs =
        charged_does at.types (no_jump at.types) locals (λ x s1. Unit {0} × StateHas at.types locals s1) (meaning stage.around (c.Perform a)) (performed (meaning stage.around a)) (law.perform_law stage.around a) (λ s1 k. k)
        (λ s1 hs1. then_fits (no_jump at.types) (Typed at.types locals type) (λ x s2. Unit {0} × StateHas at.types locals s2) (meaning stage.around a s1) (λ x s2. nothing s2) (expression_sound at stage.around locals type a s1 stands.around h hs1).1 (λ x s2 k. (tt, k.1))) s hs

    simple_drawn : (locals inner : List CsType) (code : Code) (d : Drawing) → SimpleHas at locals inner code → DrawingHas at.types locals d → DrawnFits (λ x d1. Any at.types components locals x × DrawingHas at.types inner d1) (code_value code stage d)
    simple_drawn locals inner code d h hd =
        outcome_drawn at.types locals inner (λ x. Unit {0}) (body_meaning stage.around code d.state) d hd
        (body_typed at.types (λ x s. Unit {0} × StateHas at.types inner s) (meaning stage.around code d.state) (simple_fits locals inner code d.state h hd))

    start_drawn : (locals within : List CsType) (start : Option Code) (d : Drawing) → StartHas at locals within start → DrawingHas at.types locals d → DrawnFits (λ x d1. Any at.types components locals x × DrawingHas at.types within d1) (code_or_nothing start stage d)
    start_drawn locals within start d acts.none hd = (tt, hd)
    start_drawn locals within start d (acts.some _ code h) hd = simple_drawn locals within code d h hd

    -- tests and steps of loops
    truth_keeps : (locals : List CsType) (test : Code) → CodeHas at locals t.Bool test → Keeps at.types components locals (Any at.types components locals) (truth test stage)
    truth_keeps locals test h d hd = weaker_drawn (λ x d1. DrawingHas at.types locals d1) (λ x d1. Unit {0} × DrawingHas at.types locals d1) (truth test stage d) (λ x d1 k. (tt, k)) (truth_drawn at locals test stage d stands.around h hd)

    test_keeps : (locals : List CsType) (test : Option Code) → Condition at locals test → Keeps at.types components locals (Any at.types components locals) (test_or_true test stage)
    test_keeps locals test st.none d hd = (tt, hd)
    test_keeps locals test (st.some a h) d hd = truth_keeps locals a h d hd

    step_keeps : (locals : List CsType) (step : Option Code) → Stepping at locals step → Keeps at.types components locals (Any at.types components locals) (code_or_nothing step stage)
    step_keeps locals step st.none d hd = (tt, hd)
    step_keeps locals step (st.some type a h) d hd = weaker_drawn (ValueDrawn at.types locals type) (λ x d1. Unit {0} × DrawingHas at.types locals d1) (code_value a stage d) (λ x d1 k. (tt, k.1)) (code_drawn at locals type a stage d stands.around h hd)

    -- content
    text_drawn : (number : ℕ) (locals : List CsType) (type : CsType) (x : Value) (d : Drawing) → Shows type → ValueHas at.types type x → DrawingHas at.types locals d → DrawnFits (ItemsDrawn at.types components locals) (as_text number x stage d)
    unfolding as_text
    text_drawn number locals type x d s hx hd =
        let k = operators.shown at.types locals type x s hx in
        then_drawn (λ y d1. DrawingHas at.types locals d1) (ItemsDrawn at.types components locals) (shown x d) _ (shown_drawn at.types locals x k.0 d k.1 hd)
        (λ said d1 m. then_drawn (λ y d2. DrawingHas at.types locals d2) (ItemsDrawn at.types components locals) (begun_at stage.depth (bytes_of said) d1) _ (begun_at_drawn at.types locals stage.depth (bytes_of said) d1 m)
        (λ y d2 n. ((λ e. whole.more _ [] (whole.text number said) whole.none), n)))

    markup_drawn : (number : ℕ) (locals : List CsType) (x : Value) (d : Drawing) → ValueHas at.types t.Text x → DrawingHas at.types locals d → DrawnFits (ItemsDrawn at.types components locals) (as_markup number x stage d)
    unfolding as_markup
    markup_drawn number locals x d hx hd =
        let k = operators.shown at.types locals t.Text x shows.text hx in
        then_drawn (λ y d1. DrawingHas at.types locals d1) (ItemsDrawn at.types components locals) (shown x d) _ (shown_drawn at.types locals x k.0 d k.1 hd)
        (λ said d1 m. then_drawn (λ y d2. DrawingHas at.types locals d2) (ItemsDrawn at.types components locals) (begun_at stage.depth (bytes_of said) d1) _ (begun_at_drawn at.types locals stage.depth (bytes_of said) d1 m)
        (λ y d2 n. ((λ e. whole.more _ [] (whole.markup number said) whole.none), n)))

    fragment_drawn : (number : ℕ) (locals : List CsType) (x : Value) (d : Drawing) → ValueHas at.types (t.Fragment None) x → DrawingHas at.types locals d → DrawnFits (ItemsDrawn at.types components locals) (as_fragment number x stage d)
    unfolding as_fragment
    fragment_drawn number locals x d hx hd =
        elim (is_fragment at.types (t.Fragment None) None x hx refl) [
          | inl e ↦ subst (λ z. DrawnFits (ItemsDrawn at.types components locals) (as_fragment number z stage d)) (sym e) (unless_none at.types components, hd)
          | inr r ↦ subst (λ z. DrawnFits (ItemsDrawn at.types components locals) (as_fragment number z stage d)) (sym r.is)
              (subst (λ z. DrawnFits (ItemsDrawn at.types components locals) (and_then (known (fragment_in z) d) (λ it d1. and_then (stage.show it.0 it.1 it.2 stage.depth d1) (λ items. done (item.Region number v.Null items ∷ []))))) (sym (v.outs-Fragment r.who r.place r.captures))
              (then_drawn (ItemsDrawn at.types components locals) (ItemsDrawn at.types components locals) (stage.show r.who r.place r.captures stage.depth d) (λ items. done (item.Region number v.Null items ∷ []))
              (stands.shows r.who r.place r.template r.captures stage.depth locals d r.numbered r.there (subst (λ ts. ValuesHave at.types ts r.captures) (sym (r.locals_are ∙ append-nil r.captured)) r.have) hd)
              (λ items d1 k. ((λ e. whole.more _ [] (whole.region number v.Null items (k.0 e)) whole.none), k.1))))
        ]

    content_drawn : (number : ℕ) (locals : List CsType) (type : CsType) (appears : Appears) (x : Value) (d : Drawing) → AppearsAs type appears → ValueHas at.types type x → DrawingHas at.types locals d → DrawnFits (ItemsDrawn at.types components locals) (appears number x stage d)
    content_drawn number locals type appears x d (acts.text _ s) hx hd = text_drawn number locals type x d s hx hd
    content_drawn number locals type appears x d acts.markup hx hd = markup_drawn number locals x d hx hd
    content_drawn number locals type appears x d acts.fragment hx hd = fragment_drawn number locals x d hx hd

  -- in an element what is drawn by keeps to the types too
  in_element : (stage : Stage) → StageHas at components stage → StageHas at components (deeper stage)
  in_element stage stands = record { around = stands.around; shows = stands.shows }

  one_item : (locals : List CsType) (breaks : Bool) (x : Item) (d : Drawing) → whole.AreWhole at.types (x ∷ []) → DrawingHas at.types locals d → OutputDrawn at.types components breaks locals locals (output (x ∷ [])) d
  one_item locals breaks x d w h = ((λ e. w), h)

  not_broken : (breaks : Bool) (locals inner : List CsType) (out : Output) (d : Drawing) → OutputDrawn at.types components false inner inner out d → OutputDrawn at.types components breaks locals inner out d
  not_broken breaks locals inner out d h = (h.0, by out.broke h.1)
    where
      by : (b : Bool) → whole.BehindOutput at.types false inner inner b d → whole.BehindOutput at.types breaks locals inner b d
      by true k = absurd (cc)
      by false k = k

  none_drawn : (stage : Stage) (breaks : Bool) (locals : List CsType) (d : Drawing) → DrawingHas at.types locals d → DrawnFits (OutputDrawn at.types components breaks locals locals) (in_order [] stage d)
  unfolding in_order
  none_drawn stage breaks locals d h = (unless_none at.types components, h)

  -- the list of a `foreach`
  list_drawn : (locals : List CsType) (type : CsType) (x : Value) (d : Drawing) → ValueHas at.types (t.List type) x → DrawingHas at.types locals d → DrawnFits (λ xs d1. ItemsHave at.types type xs × DrawingHas at.types locals d1) (run (used x (items_of x)) d)
  list_drawn locals type x d hx h =
      elim (is_list at.types (t.List type) type x hx refl) [
        | inl e ↦ subst (λ z. DrawnFits (λ xs d1. ItemsHave at.types type xs × DrawingHas at.types locals d1) (run (used z (items_of z)) d)) (sym e) tt
        | inr l ↦ subst (λ z. DrawnFits (λ xs d1. ItemsHave at.types type xs × DrawingHas at.types locals d1) (run (used z (items_of z)) d)) (sym l.is)
            (subst (λ z. DrawnFits (λ xs d1. ItemsHave at.types type xs × DrawingHas at.types locals d1) (run (found (items_in z)) d)) (sym (v.outs-List l.items)) (l.have, h))
      ]

  -- siblings
  siblings_from : (stage : Stage) (locals inner : List CsType) (all : List Act) (d : Drawing) → DrawnFits (OutputDrawn at.types components false locals inner) (in_order all stage d) → DrawnFits (ItemsDrawn at.types components inner) (all_siblings all stage d)
  siblings_from stage locals inner all d h = then_drawn (OutputDrawn at.types components false locals inner) (ItemsDrawn at.types components inner) (in_order all stage d) ended h (λ out d1 k. ended_drawn at.types components locals inner out d1 k)

  -- parts in a scope of their own
  scope_from : (stage : Stage) (breaks : Bool) (locals inner : List CsType) (all : List Act) (d : Drawing) → Extends locals inner → DrawingHas at.types locals d → DrawnFits (OutputDrawn at.types components breaks locals inner) (in_order all stage d) → DrawnFits (OutputDrawn at.types components breaks locals locals) (scoped (in_order all stage) d)
  scope_from stage breaks locals inner all d e h f =
      weaker_drawn (λ out d1. ScopedOutput at.types components breaks out × DrawingHas at.types locals d1) (OutputDrawn at.types components breaks locals locals) (scoped (in_order all stage) d) (λ out d1 m. as_output at.types components breaks locals out d1 m)
      (scoped_output at.types components breaks locals inner (in_order all stage) d e h f)

  -- what a section gives
  abbrev SectionDrawn : Stage → List CsType → List Act → Drawing → Type 0
  SectionDrawn stage locals acts d = DrawnFits (λ out d1. ScopedOutput at.types components true out × DrawingHas at.types locals d1) (scoped (in_order acts stage) d)

  selected_from : (stage : Stage) (locals : List CsType) (x : Value) (sections : List (Section (List Act))) (d : Drawing) → DrawingHas at.types locals d
      → ((test : Section (List Act) → Bool) (it : Section (List Act)) → find test sections ≡ Some it → SectionDrawn stage locals it.statements d) → SectionDrawn stage locals (or_nothing (selected x sections)) d
  selected_from stage locals x sections d h f =
      selected_section (λ acts. SectionDrawn stage locals acts d)
      (find (λ (it : Section (List Act)). list_any (is_same x) it.constants) sections) (find (λ (it : Section (List Act)). it.otherwise) sections)
      (λ it e1. f (λ (z : Section (List Act)). list_any (is_same x) z.constants) it e1)
      (λ it e2. f (λ (z : Section (List Act)). z.otherwise) it e2)
      (scoped_output at.types components true locals locals (in_order [] stage) d (extends_none locals) h (none_drawn stage true locals d h))

  -- a turn of a loop
  turn_from : (stage : Stage) (locals inner : List CsType) (number : ℕ) (keyed : Option ℕ) (body : List Act) → Extends locals inner → ((d : Drawing) → DrawingHas at.types locals d → DrawnFits (OutputDrawn at.types components false locals inner) (in_order body stage d))
      → Keeps at.types components locals (OneItem at.types components locals) (turn number keyed body stage)
  unfolding turn
  turn_from stage locals inner number keyed body e f d h =
      paid at.types locals (λ x d1. OneItem at.types components locals x × DrawingHas at.types locals d1) _ d h
      (λ d1 k. then_drawn (OutputDrawn at.types components false locals locals) (λ x d2. OneItem at.types components locals x × DrawingHas at.types locals d2) (scoped (in_order body stage) d1) _ (scope_from stage false locals inner body d1 e k (f d1 k))
      (λ out d2 m. then_drawn (ItemsDrawn at.types components locals) (λ x d3. OneItem at.types components locals x × DrawingHas at.types locals d3) (ended out d2) _ (ended_drawn at.types components locals locals out d2 m)
      (λ items d3 n. ((λ e1. whole.more _ [] (whole.region number _ items (n.0 e1)) whole.none), n.1))))

  mutual
    unfolding node.element node.text node.raw node.content node.statement node.break_out node.block node.branch node.switch turns.while_loop turns.for_loop turns.for_each tag.component in_order

    -- a part
    pub act_drawn : (stage : Stage) → StageHas at components stage → (breaks : Bool) (locals inner : List CsType) (act : Act) (d : Drawing) → ActHas at components breaks locals inner act → DrawingHas at.types locals d → DrawnFits (OutputDrawn at.types components breaks locals inner) (act stage d)
    act_drawn stage stands breaks locals inner act d (acts.element _ _ number name attributes children hd hc) h =
        paid at.types locals (OutputDrawn at.types components breaks locals locals) _ d h
        (λ d1 k. then_drawn (λ x d2. DrawingHas at.types locals d2) (OutputDrawn at.types components breaks locals locals) (begun_at stage.depth (bytes_of name) d1) _ (begun_at_drawn at.types locals stage.depth (bytes_of name) d1 k)
        (λ x d2 m. then_drawn (λ y d3. HandlersHave at.types y.worn × DrawingHas at.types locals d3) (OutputDrawn at.types components breaks locals locals) (all_worn attributes stage v.Null d2) _ (dresses_drawn at components locals stage stands attributes v.Null d2 hd m)
        (λ it d3 n. then_drawn (ItemsDrawn at.types components locals) (OutputDrawn at.types components breaks locals locals) (all_siblings children (deeper stage) d3) _ (siblings_from (deeper stage) locals locals children d3 (acts_drawn (deeper stage) (in_element stage stands) false locals locals children d3 hc n.1))
        (λ inside d4 o. ((λ e. whole.more _ [] (whole.element number name it.key it.worn inside n.0 (o.0 e)) whole.none), o.1)))))
    act_drawn stage stands breaks locals inner act d (acts.text _ _ number said) h =
        paid at.types locals (OutputDrawn at.types components breaks locals locals) _ d h
        (λ d1 k. then_drawn (λ x d2. DrawingHas at.types locals d2) (OutputDrawn at.types components breaks locals locals) (begun_at stage.depth (bytes_of said) d1) _ (begun_at_drawn at.types locals stage.depth (bytes_of said) d1 k)
        (λ x d2 m. ((λ e. whole.more _ [] (whole.text number said) whole.none), m)))
    act_drawn stage stands breaks locals inner act d (acts.raw _ _ number said) h =
        paid at.types locals (OutputDrawn at.types components breaks locals locals) _ d h
        (λ d1 k. then_drawn (λ x d2. DrawingHas at.types locals d2) (OutputDrawn at.types components breaks locals locals) (begun_at stage.depth (bytes_of said) d1) _ (begun_at_drawn at.types locals stage.depth (bytes_of said) d1 k)
        (λ x d2 m. ((λ e. whole.more _ [] (whole.markup number said) whole.none), m)))
    act_drawn stage stands breaks locals inner act d (acts.content _ _ number type appears a ha hc) h =
        paid at.types locals (OutputDrawn at.types components breaks locals locals) _ d h
        (λ d1 k. then_drawn (ValueDrawn at.types locals type) (OutputDrawn at.types components breaks locals locals) (code_value a stage d1) _ (code_drawn at locals type a stage d1 stands.around hc k)
        (λ x d2 m. then_drawn (ItemsDrawn at.types components locals) (OutputDrawn at.types components breaks locals locals) (appears number x stage d2) _ (content_drawn stage stands number locals type appears x d2 ha m.0 m.1) (λ items d3 n. n)))
    act_drawn stage stands breaks locals inner act d (acts.statement _ _ _ a hs) h =
        then_drawn (λ x d1. Any at.types components locals x × DrawingHas at.types inner d1) (OutputDrawn at.types components breaks locals inner) (code_value a stage d) _ (simple_drawn stage stands locals inner a d hs h) (λ x d1 k. (unless_none at.types components, k.1))
    act_drawn stage stands breaks locals inner act d (acts.break_out _ _ b) h =
        paid at.types locals (OutputDrawn at.types components breaks locals locals) _ d h (λ d1 k. (unless_none at.types components, as_output_broke d1 k))
      where
        as_output_broke : (d1 : Drawing) → DrawingHas at.types locals d1 → whole.BehindOutput at.types breaks locals locals true d1
        as_output_broke d1 k = (b, has_begins at.types locals d1 k)
    act_drawn stage stands breaks locals inner act d (acts.block _ _ within all hs) h =
        paid at.types locals (OutputDrawn at.types components breaks locals locals) _ d h (λ d1 k. scope_from stage breaks locals within all d1 (all_extend at components breaks locals within all hs) k (acts_drawn stage stands breaks locals within all d1 hs k))
    act_drawn stage stands breaks locals inner act d (acts.branch _ _ within other_within test one other ht h1 h2) h =
        paid at.types locals (OutputDrawn at.types components breaks locals locals) _ d h
        (λ d1 k. then_drawn (λ x d2. DrawingHas at.types locals d2) (OutputDrawn at.types components breaks locals locals) (truth test stage d1) _ (truth_drawn at locals test stage d1 stands.around ht k)
        (λ holds d2 m. either_run (OutputDrawn at.types components breaks locals locals) holds (scoped (in_order one stage)) (scoped (in_order other stage)) d2 (scope_from stage breaks locals within one d2 (all_extend at components breaks locals within one h1) m (acts_drawn stage stands breaks locals within one d2 h1 m)) (scope_from stage breaks locals other_within other d2 (all_extend at components breaks locals other_within other h2) m (acts_drawn stage stands breaks locals other_within other d2 h2 m))))
    act_drawn stage stands breaks locals inner act d (acts.switch _ _ type a sections ha hs) h =
        paid at.types locals (OutputDrawn at.types components breaks locals locals) _ d h
        (λ d1 k. then_drawn (ValueDrawn at.types locals type) (OutputDrawn at.types components breaks locals locals) (code_value a stage d1) _ (code_drawn at locals type a stage d1 stands.around ha k)
        (λ x d2 m. then_drawn (λ out d3. ScopedOutput at.types components true out × DrawingHas at.types locals d3) (OutputDrawn at.types components breaks locals locals) (scoped (in_order (or_nothing (selected x sections)) stage) d2) _
        (selected_from stage locals x sections d2 m.1 (λ test it e. section_drawn stage stands locals sections test it d2 hs e m.1)) (λ out d3 n. (n.0.0, n.1))))
    act_drawn stage stands breaks locals inner act d (acts.while_loop _ _ within number test keyed body ht hb) h =
        paid at.types locals (OutputDrawn at.types components breaks locals locals) _ d h
        (λ d1 k. loop_drawn at.types components locals breaks (truth test stage) (turn number keyed body stage) turns.nothing d1 (truth_keeps stage stands locals test ht) (turn_from stage locals within number keyed body (all_extend at components false locals within body hb) (λ d2 m. acts_drawn stage stands false locals within body d2 hb m)) (λ d2 m. (tt, m)) k)
    act_drawn stage stands breaks locals inner act d (acts.for_loop _ _ begun within number start test step keyed body hs ht hp hb) h =
        paid at.types locals (OutputDrawn at.types components breaks locals locals) _ d h
        (λ d1 k. weaker_drawn (λ out d2. ScopedOutput at.types components breaks out × DrawingHas at.types locals d2) (OutputDrawn at.types components breaks locals locals) (scoped (behind_start number start test step keyed body stage) d1) (λ out d2 m. as_output at.types components breaks locals out d2 m)
        (scoped_output at.types components breaks locals begun (behind_start number start test step keyed body stage) d1 (start_extends at locals begun start hs) k
        (then_drawn (λ x d2. Any at.types components locals x × DrawingHas at.types begun d2) (OutputDrawn at.types components breaks locals begun) (code_or_nothing start stage d1) _ (start_drawn stage stands locals begun start d1 hs k)
        (λ x d2 m. weaker_drawn (OutputDrawn at.types components false begun begun) (OutputDrawn at.types components breaks locals begun) (loop (test_or_true test stage) (turn number keyed body stage) (code_or_nothing step stage) d2) (λ out d3 n. not_broken breaks locals begun out d3 n)
        (loop_drawn at.types components begun false (test_or_true test stage) (turn number keyed body stage) (code_or_nothing step stage) d2 (test_keeps stage stands begun test ht) (turn_from stage begun within number keyed body (all_extend at components false begun within body hb) (λ d3 m2. acts_drawn stage stands false begun within body d3 hb m2)) (step_keeps stage stands begun step hp) m.1)))))
    act_drawn stage stands breaks locals inner act d (acts.for_each _ _ within type number list keyed body hl hb) h =
        paid at.types locals (OutputDrawn at.types components breaks locals locals) _ d h
        (λ d1 k. then_drawn (ValueDrawn at.types locals (t.List type)) (OutputDrawn at.types components breaks locals locals) (code_value list stage d1) _ (code_drawn at locals (t.List type) list stage d1 stands.around hl k)
        (λ x d2 m. then_drawn (λ xs d3. ItemsHave at.types type xs × DrawingHas at.types locals d3) (OutputDrawn at.types components breaks locals locals) (run (used x (items_of x)) d2) _ (list_drawn locals type x d2 m.0 m.1)
        (λ xs d3 n. then_drawn (ItemsDrawn at.types components locals) (OutputDrawn at.types components breaks locals locals) (each_turn xs (turn number keyed body stage) d3) _
        (each_drawn at.types components locals type xs (turn number keyed body stage) n.0 (turn_from stage (locals ++ type ∷ []) within number keyed body (all_extend at components false (locals ++ type ∷ []) within body hb) (λ d5 m2. acts_drawn stage stands false (locals ++ type ∷ []) within body d5 hb m2)) d3 n.1) (λ items d4 o. o))))
    act_drawn stage stands breaks locals inner act d (acts.component _ _ number made parts c hp) h =
        paid at.types locals (OutputDrawn at.types components breaks locals locals) _ d h
        (λ d1 k. then_drawn (λ x d2. DrawingHas at.types locals d2) (OutputDrawn at.types components breaks locals locals) (component_begun d1) _ (component_drawn at.types locals d1 k)
        (λ order d2 m. then_drawn (λ x d3. DrawingHas at.types locals d3) (OutputDrawn at.types components breaks locals locals) (all_given parts stage v.Null d2) _ (gives_drawn at components locals stage stands parts v.Null d2 hp m)
        (λ it d3 n. ((λ e. absurd (cc)), n))))

    -- parts one after another
    pub acts_drawn : (stage : Stage) → StageHas at components stage → (breaks : Bool) (locals inner : List CsType) (all : List Act) (d : Drawing) → ActsHave at components breaks locals inner all → DrawingHas at.types locals d → DrawnFits (OutputDrawn at.types components breaks locals inner) (in_order all stage d)
    acts_drawn stage stands breaks locals inner all d (acts.none _ _) h = (unless_none at.types components, h)
    acts_drawn stage stands breaks locals inner all d (acts.more _ _ between _ one others ho hs) h =
        then_drawn (OutputDrawn at.types components breaks locals between) (OutputDrawn at.types components breaks locals inner) (one stage d) _ (act_drawn stage stands breaks locals between one d ho h)
        (λ out d1 k. unless_drawn at.types components breaks locals between inner out (in_order others stage) d1 (act_extends at components breaks locals between one ho) k (λ m. acts_drawn stage stands breaks between inner others d1 hs m))

    -- the section that is selected
    section_drawn : (stage : Stage) → StageHas at components stage → (locals : List CsType) (sections : List (Section (List Act))) (test : Section (List Act) → Bool) (it : Section (List Act)) (d : Drawing) → SectionsHave at components locals sections → find test sections ≡ Some it → DrawingHas at.types locals d
        → DrawnFits (λ out d1. ScopedOutput at.types components true out × DrawingHas at.types locals d1) (scoped (in_order it.statements stage) d)
    section_drawn stage stands locals sections test it d (acts.no_section _) e h = absurd (cc)
    section_drawn stage stands locals sections test it d (acts.section _ inner one others ho hs) e h =
        found_section (λ (z : Section (List Act)). DrawnFits (λ out d1. ScopedOutput at.types components true out × DrawingHas at.types locals d1) (scoped (in_order z.statements stage) d)) one it (find test others) (test one) e
        (scoped_output at.types components true locals inner (in_order one.statements stage) d (all_extend at components true locals inner one.statements ho) h (acts_drawn stage stands true locals inner one.statements d ho h))
        (λ e1. section_drawn stage stands locals others test it d hs e1 h)

  pub siblings_drawn : (stage : Stage) → StageHas at components stage → (locals inner : List CsType) (all : List Act) (d : Drawing) → ActsHave at components false locals inner all → DrawingHas at.types locals d → DrawnFits (ItemsDrawn at.types components inner) (all_siblings all stage d)
  siblings_drawn stage stands locals inner all d hs h = siblings_from stage locals inner all d (acts_drawn stage stands false locals inner all d hs h)
