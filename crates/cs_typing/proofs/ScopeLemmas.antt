-- Scopes and statements one after another keep to the types.
use Rattle.std.proofs.Common.{◌≡◌, ℕ, List, [], ◌∷◌, ◌++◌, length, take, refl, sym, ap, subst, ◌∙◌}
use Rattle.std.proofs.lemmas.List.{append-nil, append_assoc}
use Rattle.std.specs.Prelude.{IsTrue, ◌&&◌, ◌||◌, true, false, Option, Some}
use Rattle.std.specs.Prelude.{Bool as Truth}
use Rattle.cs_ast.specs.declared.cs_type.CsType.{CsType}
use Rattle.cs_ast.specs.declared.cs_type.CsType.TheVariants as t
use Rattle.cs_ast.specs.declared.value.Value.{Value}
use Rattle.cs_meaning.specs.State.{State, cut, with_local}
use Rattle.cs_meaning.specs.Outcome.{Outcome, returns, Meaning, and_then, in_state, chosen}
use Rattle.cs_meaning.specs.Kinds.{truth_of}
use Rattle.cs_meaning.specs.Scopes.{nothing, if_there, in_order, scoped}
use Rattle.cs_meaning.specs.Variables.{declared_as}
use Rattle.cs_meaning.specs.Statements.{performed, block, branch, returned}
use Rattle.cs_typing.specs.Types.{Types}
use Rattle.cs_typing.specs.Values.{ValueHas, ValuesHave}
use Rattle.cs_typing.specs.Statements.{Jumps}
use Rattle.cs_typing.specs.States.{Keeps, StateHas, StateBegins}
use Rattle.cs_typing.specs.Outcomes.{Exits, Fits, no_jump, leaving, Typed, Gives, Ended, Does}
use Rattle.cs_typing.proofs.ValueKinds.{is_bool}
use Rattle.cs_typing.proofs.ValueLists.{as_many, one_more, begin, begin_all, begin_fewer, cut_to}
use Rattle.cs_typing.proofs.Fitting.{Within, WithinBy, then_fits, weaker_fits, in_state_fits, either_fits}

-- locals of the second types are those of the first and further ones
abbrev pub Extends : List CsType → List CsType → Type 0
Extends locals inner = (more : List CsType) × (inner ≡ locals ++ more)

pub extends_none : (locals : List CsType) → Extends locals locals
extends_none locals = ([], sym (append-nil locals))

pub extends_both : (locals between inner : List CsType) → Extends locals between → Extends between inner → Extends locals inner
extends_both locals between inner a b = (a.0 ++ b.0, b.1 ∙ ap (λ z. z ++ b.0) a.1 ∙ append_assoc locals a.0 b.0)

pub or_true : (b : Truth) → (b || true) ≡ true
or_true true = refl
or_true false = refl

pub no_truth : {A : Type 0} → IsTrue false → A
no_truth h = absurd (cc)

module _ (types : Types) (result : CsType) where
  -- the exits of a scope behind its end: the locals are those round it
  abbrev pub leaving_exactly : Jumps → List CsType → Exits
  leaving_exactly j locals =
      record {
        on_break = λ s. IsTrue j.breaks × StateHas types locals s;
        on_continue = λ s. IsTrue j.continues × StateHas types locals s;
        on_return = λ x s. ValueHas types result x × StateHas types locals s;
        on_fault = λ s. Keeps types s;
      }

  -- a statement's end, where further locals may follow
  abbrev pub Begun : List CsType → Truth → Value → State → Type 0
  Begun locals ends x s = IsTrue ends × StateBegins types locals s

  pub all_begins : (locals inner : List CsType) (s : State) → Extends locals inner → StateHas types inner s → StateBegins types locals s
  all_begins locals inner s e h = (begin types locals e.0 s.locals (subst (λ ts. ValuesHave types ts s.locals) e.1 h.0), h.1)

  fewer_begins : (locals inner : List CsType) (s : State) → Extends locals inner → StateBegins types inner s → StateBegins types locals s
  fewer_begins locals inner s e h = subst (λ ts. StateBegins types ts s → StateBegins types locals s) (sym e.1) (λ k. (begin_fewer types locals e.0 s.locals k.0, k.1)) h

  -- exits in fewer locals
  pub fewer_locals : (j : Jumps) (locals inner : List CsType) → Extends locals inner → Within (leaving types result j inner) (leaving types result j locals)
  fewer_locals j locals inner e =
      record {
        breaks_too = λ s h. (h.0, fewer_begins locals inner s e h.1);
        continues_too = λ s h. (h.0, fewer_begins locals inner s e h.1);
        returns_too = λ x s h. (h.0, fewer_begins locals inner s e h.1);
        faults_too = λ s h. h;
      }

  -- an expression is left by faults alone
  pub no_jump_within : (j : Jumps) (locals : List CsType) → Within (no_jump types) (leaving types result j locals)
  no_jump_within j locals = record { breaks_too = λ s h. absurd h; continues_too = λ s h. absurd h; returns_too = λ x s h. absurd h; faults_too = λ s h. h }

  exactly_begins : (j : Jumps) (locals : List CsType) → Within (leaving_exactly j locals) (leaving types result j locals)
  exactly_begins j locals =
      record {
        breaks_too = λ s h. (h.0, (begin_all types locals s.locals h.1.0, h.1.1));
        continues_too = λ s h. (h.0, (begin_all types locals s.locals h.1.0, h.1.1));
        returns_too = λ x s h. (h.0, (begin_all types locals s.locals h.1.0, h.1.1));
        faults_too = λ s h. h;
      }

  -- back to the locals at entry
  cut_has : (count : ℕ) (locals : List CsType) (s : State) → count ≡ length locals → StateBegins types locals s → StateHas types locals (cut count s)
  cut_has count locals s e h = (subst (λ n. ValuesHave types locals (take n s.locals)) (sym e) (cut_to types locals s.locals h.0), h.1)

  cut_within : (count : ℕ) (j : Jumps) (locals : List CsType) → count ≡ length locals → WithinBy (cut count) (leaving types result j locals) (leaving_exactly j locals)
  cut_within count j locals e =
      record {
        breaks_then = λ s h. (h.0, cut_has count locals s e h.1);
        continues_then = λ s h. (h.0, cut_has count locals s e h.1);
        returns_then = λ x s h. (h.0, cut_has count locals s e h.1);
        faults_then = λ s h. h;
      }

  pub cut_fits : (count : ℕ) (j : Jumps) (locals : List CsType) (ends : Truth) (o : Outcome Value) → count ≡ length locals → Fits (leaving types result j locals) (Begun locals ends) o → Fits (leaving_exactly j locals) (Ended types locals ends) (in_state (cut count) o)
  cut_fits count j locals ends o e h =
      in_state_fits (cut count) (leaving types result j locals) (leaving_exactly j locals) (Begun locals ends) (Ended types locals ends) o (cut_within count j locals e) (λ x s k. (k.0, cut_has count locals s e k.1)) h

  -- a scope of its own
  pub scoped_fits : (j : Jumps) (locals inner : List CsType) (ends : Truth) (run : Meaning) (s : State) → Extends locals inner → Does types result j locals inner ends run → StateHas types locals s → Fits (leaving_exactly j locals) (Ended types locals ends) (scoped run s)
  scoped_fits j locals inner ends run s e h hs =
      cut_fits (length s.locals) j locals ends (run s) (as_many types locals s.locals hs.0)
      (weaker_fits (leaving types result j locals) (leaving types result j locals) (Ended types inner ends) (Begun locals ends) (run s) (fewer_locals j locals locals (extends_none locals)) (λ x s1 k. (k.0, all_begins locals inner s1 e k.1)) (h s hs))

  pub scoped_does : (j : Jumps) (locals inner : List CsType) (ends more_ends : Truth) (run : Meaning) (s : State) → Extends locals inner → Does types result j locals inner ends run → (IsTrue ends → IsTrue more_ends) → StateHas types locals s → Fits (leaving types result j locals) (Ended types locals more_ends) (scoped run s)
  scoped_does j locals inner ends more_ends run s e h too hs =
      weaker_fits (leaving_exactly j locals) (leaving types result j locals) (Ended types locals ends) (Ended types locals more_ends) (scoped run s) (exactly_begins j locals) (λ x s1 k. (too k.0, k.1)) (scoped_fits j locals inner ends run s e h hs)

  -- an expression and what follows it
  pub expression_then : (j : Jumps) (locals : List CsType) (type : CsType) (Q : Value → State → Type 0) (a : Meaning) (next : Value → State → Outcome Value) (s : State)
      → Gives types locals type a → StateHas types locals s → ((x : Value) (s1 : State) → ValueHas types type x → StateHas types locals s1 → Fits (leaving types result j locals) Q (next x s1)) → Fits (leaving types result j locals) Q (and_then (a s) next)
  expression_then j locals type Q a next s h hs f =
      then_fits (leaving types result j locals) (Typed types locals type) Q (a s) next (weaker_fits (no_jump types) (leaving types result j locals) (Typed types locals type) (Typed types locals type) (a s) (no_jump_within j locals) (λ x s1 k. k) (h s hs)) (λ x s1 k. f x s1 k.0 k.1)

  -- statements that do so, one after another
  pub data AllDo : Jumps → List CsType → List CsType → Truth → List Meaning → Type 0 where
    none : (j : Jumps) (locals : List CsType) → AllDo j locals locals true []
    more : (j : Jumps) (locals between inner : List CsType) (ends others_end : Truth) (one : Meaning) (others : List Meaning) →
        Extends locals between → Does types result j locals between ends one → AllDo j between inner others_end others → AllDo j locals inner (ends && others_end) (one ∷ others)

  pub all_extend : (j : Jumps) (locals inner : List CsType) (ends : Truth) (runs : List Meaning) → AllDo j locals inner ends runs → Extends locals inner
  all_extend j locals inner ends runs (none _ _) = extends_none locals
  all_extend j locals inner ends runs (more _ _ between _ one_ends others_end one others e h hs) = extends_both locals between inner e (all_extend j between inner others_end others hs)

  both_true : (a b : Truth) → IsTrue a → IsTrue b → IsTrue (a && b)
  both_true true b h g = g
  both_true false b h g = no_truth h

  pub in_order_does : (j : Jumps) (locals inner : List CsType) (ends : Truth) (runs : List Meaning) → AllDo j locals inner ends runs → Does types result j locals inner ends (in_order runs)
  unfolding in_order
  in_order_does j locals inner ends runs (none _ _) s hs = (refl, hs)
  in_order_does j locals inner ends runs (more _ _ between _ one_ends others_end one others e h hs) s k =
      then_fits (leaving types result j locals) (Ended types between one_ends) (Ended types inner (one_ends && others_end)) (one s) (λ x s1. in_order others s1) (h s k)
      (λ x s1 l. weaker_fits (leaving types result j between) (leaving types result j locals) (Ended types inner others_end) (Ended types inner (one_ends && others_end)) (in_order others s1) (fewer_locals j locals between e)
      (λ y s2 m. (both_true one_ends others_end l.0 m.0, m.1)) (in_order_does j between inner others_end others hs s1 l.1))

  pub block_does : (j : Jumps) (locals inner : List CsType) (ends : Truth) (runs : List Meaning) → AllDo j locals inner ends runs → Does types result j locals locals ends (block runs)
  block_does j locals inner ends runs h s hs = scoped_does j locals inner ends ends (in_order runs) s (all_extend j locals inner ends runs h) (in_order_does j locals inner ends runs h) (λ k. k) hs

  pub perform_does : (j : Jumps) (locals : List CsType) (type : CsType) (a : Meaning) → Gives types locals type a → Does types result j locals locals true (performed a)
  perform_does j locals type a h s hs = expression_then j locals type (Ended types locals true) a (λ x s1. nothing s1) s h hs (λ x s1 hx hs1. (refl, hs1))

  pub declare_does : (j : Jumps) (locals : List CsType) (type : CsType) (a : Meaning) → Gives types locals type a → Does types result j locals (locals ++ type ∷ []) true (declared_as a)
  declare_does j locals type a h s hs = expression_then j locals type (Ended types (locals ++ type ∷ []) true) a (λ x s1. nothing (with_local x s1)) s h hs (λ x s1 hx hs1. (refl, (one_more types locals s1.locals type x hs1.0 hx, hs1.1)))

  pub return_value_does : (j : Jumps) (locals : List CsType) (a : Meaning) → Gives types locals result a → Does types result j locals locals false (returned (Some a))
  return_value_does j locals a h s hs = expression_then j locals result (Ended types locals false) a (λ x s1. returns x s1) s h hs (λ x s1 hx hs1. (hx, (begin_all types locals s1.locals hs1.0, hs1.1)))

  -- one of two, by a truth
  pub truth_does : (exits : Exits) (Q : Value → State → Type 0) (x : Value) (one other : Outcome Value) → ValueHas types t.Bool x → Fits exits Q one → Fits exits Q other → Fits exits Q (chosen (truth_of x) one other)
  truth_does exits Q x one other h f g = let b = is_bool types t.Bool x h refl in subst (λ z. Fits exits Q (chosen (truth_of z) one other)) (sym b.1) (either_fits exits Q b.0 one other f g)

  pub branch_does : (j : Jumps) (locals inner other_inner : List CsType) (ends other_ends : Truth) (test one : Meaning) (other : Option Meaning)
      → Extends locals inner → Extends locals other_inner → Gives types locals t.Bool test → Does types result j locals inner ends one → Does types result j locals other_inner other_ends (if_there other) → Does types result j locals locals (ends || other_ends) (branch test one other)
  branch_does j locals inner other_inner ends other_ends test one other e e' h g k s hs =
      expression_then j locals t.Bool (Ended types locals (ends || other_ends)) test (λ x s1. chosen (truth_of x) (scoped one s1) (scoped (if_there other) s1)) s h hs
      (λ x s1 hx hs1. truth_does (leaving types result j locals) (Ended types locals (ends || other_ends)) x (scoped one s1) (scoped (if_there other) s1) hx
      (scoped_does j locals inner ends (ends || other_ends) one s1 e g (λ d. ap (λ z. z || other_ends) d) hs1)
      (scoped_does j locals other_inner other_ends (ends || other_ends) (if_there other) s1 e' k (λ d. ap (λ z. ends || z) d ∙ or_true ends) hs1))
