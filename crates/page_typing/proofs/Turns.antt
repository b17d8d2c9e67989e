-- Scopes, outputs one after another, and turns of loops keep to the types.
use Rattle.std.proofs.Common.{◌≡◌, ℕ, zero, suc, ◌+◌, List, [], ◌∷◌, ◌++◌, length, take, refl, sym, subst}
use Rattle.std.specs.Prelude.{Bool, true, false, IsTrue, if◌then◌else◌}
use Rattle.cs_ast.specs.declared.cs_type.CsType.{CsType}
use Rattle.cs_ast.specs.declared.value.Value.{Value}
use Rattle.cs_meaning.specs.State.{with_local, cut}
use Rattle.cs_typing.specs.Types.{Types}
use Rattle.cs_typing.specs.Values.{ValueHas, ValuesHave, ItemsHave}
use Rattle.cs_typing.specs.Values as has
use Rattle.cs_typing.specs.States.{StateBegins}
use Rattle.cs_typing.proofs.ValueLists.{as_many, one_more, begin_all, begin_fewer, cut_to}
use Rattle.cs_typing.proofs.ScopeLemmas.{Extends, all_begins}
use Rattle.cs_ast.specs.declared.cs_type.CsType.TheVariants as t
use Rattle.std.specs.List.{filter_map}
use Rattle.drawing_meaning.specs.declared.fault.PageFault.TheVariants.{DuplicateKey}
use Rattle.drawing_meaning.specs.declared.output.Output.{Output}
use Rattle.drawing_meaning.specs.Drawing.{Drawing, gives, faults, stuck, Draws, and_then, done, with_state, scoped}
use Rattle.drawing_meaning.specs.Acts.{output, behind, unless_broke, ended}
use Rattle.drawing_meaning.specs.Keys.{siblings, key_of, are_distinct}
use Rattle.drawing_meaning.specs.Turns.{turn_and_more, turns, loop, in_new_local, each_turn}
use Rattle.frame_core.specs.declared.item.Item.{Item}
use Rattle.page_typing.specs.Drawings.{DrawnFits, DrawingHas, DrawingBegins, WholeUnless, ItemsDrawn, BehindOutput, OutputDrawn}
use Rattle.page_typing.proofs.Drawing.{then_drawn, weaker_drawn, either_drawn}
use Rattle.page_typing.proofs.Whole.{unless_none, unless_append, unless_more}

module _ (types : Types) where
  pub has_begins : (locals : List CsType) (d : Drawing) → DrawingHas types locals d → DrawingBegins types locals d
  has_begins locals d h = (begin_all types locals d.state.locals h.0, h.1)

  fewer_begin : (locals inner : List CsType) (d : Drawing) → Extends locals inner → DrawingBegins types inner d → DrawingBegins types locals d
  fewer_begin locals inner d e h = subst (λ ts. StateBegins types ts d.state → StateBegins types locals d.state) (sym e.1) (λ k. (begin_fewer types locals e.0 d.state.locals k.0, k.1)) h

  inner_begins : (locals inner : List CsType) (d : Drawing) → Extends locals inner → DrawingHas types inner d → DrawingBegins types locals d
  inner_begins locals inner d e h = all_begins types t.Nothing locals inner d.state e h

  -- in a scope of its own
  pub scoped_drawn : {A : Type 0} (locals : List CsType) (P : A → Type 0) (draws : Draws A) (d : Drawing) → DrawingHas types locals d → DrawnFits (λ x d1. P x × DrawingBegins types locals d1) (draws d) → DrawnFits (λ x d1. P x × DrawingHas types locals d1) (scoped draws d)
  scoped_drawn locals P draws d h f =
      then_drawn (λ x d1. P x × DrawingBegins types locals d1) (λ x d1. P x × DrawingHas types locals d1) (draws d) (λ x d1. done x (with_state (cut (length d.state.locals) d1.state) d1)) f
      (λ x d1 k. (k.0, (subst (λ n. ValuesHave types locals (take n d1.state.locals)) (sym (as_many types locals d.state.locals h.0)) (cut_to types locals d1.state.locals k.1.0), k.1.1)))

  module _ (components : Bool) where
    -- what stands in a scope of its own gives, with the locals as they were
    abbrev pub ScopedOutput : Bool → Output → Type 0
    ScopedOutput breaks out = WholeUnless types components out.items × (out.broke ≡ true → IsTrue breaks)

    leads_out : (breaks broke : Bool) (locals inner : List CsType) (d : Drawing) → BehindOutput types breaks locals inner broke d → broke ≡ true → IsTrue breaks
    leads_out breaks true locals inner d h e = h.0
    leads_out breaks false locals inner d h e = absurd (cc)

    all_begin : (breaks broke : Bool) (locals inner : List CsType) (d : Drawing) → Extends locals inner → BehindOutput types breaks locals inner broke d → DrawingBegins types locals d
    all_begin breaks true locals inner d e h = h.1
    all_begin breaks false locals inner d e h = inner_begins locals inner d e h

    pub scoped_output : (breaks : Bool) (locals inner : List CsType) (draws : Draws Output) (d : Drawing) → Extends locals inner → DrawingHas types locals d → DrawnFits (OutputDrawn types components breaks locals inner) (draws d)
        → DrawnFits (λ out d1. ScopedOutput breaks out × DrawingHas types locals d1) (scoped draws d)
    scoped_output breaks locals inner draws d e h f =
        scoped_drawn locals (ScopedOutput breaks) draws d h
        (weaker_drawn (OutputDrawn types components breaks locals inner) (λ out d1. ScopedOutput breaks out × DrawingBegins types locals d1) (draws d)
        (λ out d1 k. ((k.0, leads_out breaks out.broke locals inner d1 k.1), all_begin breaks out.broke locals inner d1 e k.1)) f)

    as_behind : (breaks broke : Bool) (locals : List CsType) (d : Drawing) → (broke ≡ true → IsTrue breaks) → DrawingHas types locals d → BehindOutput types breaks locals locals broke d
    as_behind breaks true locals d e h = (e refl, has_begins locals d h)
    as_behind breaks false locals d e h = h

    pub as_output : (breaks : Bool) (locals : List CsType) (out : Output) (d : Drawing) → ScopedOutput breaks out × DrawingHas types locals d → OutputDrawn types components breaks locals locals out d
    as_output breaks locals out d h = (h.0.0, as_behind breaks out.broke locals d h.0.1 h.1)

    fewer_behind : (breaks broke : Bool) (locals between inner : List CsType) (d : Drawing) → Extends locals between → BehindOutput types breaks between inner broke d → BehindOutput types breaks locals inner broke d
    fewer_behind breaks true locals between inner d e h = (h.0, fewer_begin locals between d e h.1)
    fewer_behind breaks false locals between inner d e h = h

    -- an output and what follows it, unless a `break` led out
    pub unless_drawn : (breaks : Bool) (locals between inner : List CsType) (out : Output) (next : Draws Output) (d : Drawing) → Extends locals between → OutputDrawn types components breaks locals between out d
        → (DrawingHas types between d → DrawnFits (OutputDrawn types components breaks between inner) (next d)) → DrawnFits (OutputDrawn types components breaks locals inner) (unless_broke out next d)
    unless_drawn breaks locals between inner out next d e h f = by out.broke refl h.1
      where
        by : (b : Bool) → out.broke ≡ b → BehindOutput types breaks locals between b d → DrawnFits (OutputDrawn types components breaks locals inner) (unless_broke out next d)
        by true is k =
            subst (λ z. DrawnFits (OutputDrawn types components breaks locals inner) ((if z then done out else (λ d1. and_then (next d1) (λ other. done (behind out.items other)))) d)) (sym is)
            (h.0, subst (λ z. BehindOutput types breaks locals inner z d) (sym is) k)
        by false is k =
            subst (λ z. DrawnFits (OutputDrawn types components breaks locals inner) ((if z then done out else (λ d1. and_then (next d1) (λ other. done (behind out.items other)))) d)) (sym is)
            (then_drawn (OutputDrawn types components breaks between inner) (OutputDrawn types components breaks locals inner) (next d) (λ other. done (behind out.items other)) (f k)
            (λ other d1 m. (unless_append types components out.items other.items h.0 m.0, fewer_behind breaks other.broke locals between inner d1 e m.1)))

    siblings_drawn : (locals : List CsType) (items : List Item) (d : Drawing) → WholeUnless types components items → DrawingHas types locals d → DrawnFits (ItemsDrawn types components locals) (siblings items d)
    unfolding siblings
    siblings_drawn locals items d w h = either_drawn (ItemsDrawn types components locals) (are_distinct (filter_map key_of items)) (gives items d) (faults DuplicateKey d) (w, h) tt

    -- items that no `break` leads out of
    pub ended_drawn : (locals inner : List CsType) (out : Output) (d : Drawing) → OutputDrawn types components false locals inner out d → DrawnFits (ItemsDrawn types components inner) (ended out d)
    ended_drawn locals inner out d h = by out.broke refl h.1
      where
        by : (b : Bool) → out.broke ≡ b → BehindOutput types false locals inner b d → DrawnFits (ItemsDrawn types components inner) (ended out d)
        by true is k = absurd (cc)
        by false is k = subst (λ z. DrawnFits (ItemsDrawn types components inner) ((if z then (λ d1. stuck) else siblings out.items) d)) (sym is) (siblings_drawn inner out.items d h.0 k)

    module _ (locals : List CsType) where
      -- what leaves the locals as they are, from any drawing
      abbrev pub Keeps : {A : Type 0} → (A → Type 0) → Draws A → Type 0
      Keeps P draws = (d : Drawing) → DrawingHas types locals d → DrawnFits (λ x d1. P x × DrawingHas types locals d1) (draws d)

      abbrev pub OneItem : Item → Type 0
      OneItem x = WholeUnless types components (x ∷ [])

      abbrev pub Any : {A : Type 0} → A → Type 0
      Any x = Unit {0}

      more_drawn : (one : Draws Item) (step : Draws Value) (more : Draws (List Item)) → Keeps OneItem one → Keeps Any step → Keeps (WholeUnless types components) more → Keeps (WholeUnless types components) (turn_and_more one step more)
      more_drawn one step more h g k d hd =
          then_drawn (λ x d1. OneItem x × DrawingHas types locals d1) (ItemsDrawn types components locals) (one d) _ (h d hd)
          (λ first d1 m. then_drawn (λ x d2. Any x × DrawingHas types locals d2) (ItemsDrawn types components locals) (step d1) _ (g d1 m.1)
          (λ x d2 n. then_drawn (ItemsDrawn types components locals) (ItemsDrawn types components locals) (more d2) _ (k d2 n.1) (λ others d3 o. (unless_more types components first others m.0 o.0, o.1))))

      turns_drawn : (most : ℕ) (test : Draws Bool) (one : Draws Item) (step : Draws Value) → Keeps Any test → Keeps OneItem one → Keeps Any step → Keeps (WholeUnless types components) (turns most test one step)
      unfolding turns
      turns_drawn zero test one step h g k d hd = tt
      turns_drawn (suc most) test one step h g k d hd =
          then_drawn (λ x d1. Any x × DrawingHas types locals d1) (ItemsDrawn types components locals) (test d) _ (h d hd)
          (λ goes_on d1 m. by (turns_drawn most test one step h g k) goes_on d1 m.1)
        where
          by : Keeps (WholeUnless types components) (turns most test one step) → (b : Bool) (d1 : Drawing) → DrawingHas types locals d1 → DrawnFits (ItemsDrawn types components locals) ((if b then turn_and_more one step (turns most test one step) else done []) d1)
          by rest true d1 m = more_drawn one step (turns most test one step) g k rest d1 m
          by rest false d1 m = (unless_none types components, m)

      pub loop_drawn : (breaks : Bool) (test : Draws Bool) (one : Draws Item) (step : Draws Value) (d : Drawing) → Keeps Any test → Keeps OneItem one → Keeps Any step → DrawingHas types locals d → DrawnFits (OutputDrawn types components breaks locals locals) (loop test one step d)
      loop_drawn breaks test one step d h g k hd =
          then_drawn (ItemsDrawn types components locals) (OutputDrawn types components breaks locals locals) (turns (d.state.left + 1) test one step d) (λ items. done (output items)) (turns_drawn (d.state.left + 1) test one step h g k d hd) (λ items d1 m. m)

      -- a turn for each value
      pub each_drawn : (type : CsType) (xs : List Value) (one : Draws Item) → ItemsHave types type xs
          → ((d : Drawing) → DrawingHas types (locals ++ type ∷ []) d → DrawnFits (λ x d1. OneItem x × DrawingHas types (locals ++ type ∷ []) d1) (one d)) → Keeps (WholeUnless types components) (each_turn xs one)
      unfolding each_turn
      each_drawn type xs one (has.no_item _) h d hd = (unless_none types components, hd)
      each_drawn type xs one (has.item _ x rest hx hxs) h d hd =
          then_drawn (λ y d1. OneItem y × DrawingHas types locals d1) (ItemsDrawn types components locals) (in_new_local x one d) _
          (scoped_drawn locals OneItem (λ d1. one (with_state (with_local x d1.state) d1)) d hd
          (weaker_drawn (λ y d1. OneItem y × DrawingHas types (locals ++ type ∷ []) d1) (λ y d1. OneItem y × DrawingBegins types locals d1) (one (with_state (with_local x d.state) d))
          (λ y d1 k. (k.0, inner_begins locals (locals ++ type ∷ []) d1 (type ∷ [], refl) k.1))
          (h (with_state (with_local x d.state) d) (one_more types locals d.state.locals type x hd.0 hx, hd.1))))
          (λ first d1 m. then_drawn (ItemsDrawn types components locals) (ItemsDrawn types components locals) (each_turn rest one d1) _ (each_drawn type rest one hxs h d1 m.1) (λ others d2 n. (unless_more types components first others m.0 n.0, n.1)))
