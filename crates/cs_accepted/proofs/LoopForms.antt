-- Loops, `switch` and `return`, where their parts have types.
use Rattle.std.proofs.Common.{◌≡◌, List, [], ◌∷◌, ◌++◌, refl, sym, subst, inl, inr}
use Rattle.std.specs.Prelude.{Bool, true, false, ◌&&◌, ◌||◌, not, if◌then◌else◌, Option, Some, None}
use Rattle.text_core.specs.declared.place.Place.{Place}
use Rattle.cs_ast.specs.declared.cs_type.CsType.{CsType, out-CsType}
use Rattle.cs_ast.specs.declared.cs_type.CsType.TheVariants as t
use Rattle.cs_ast.specs.declared.code.Code.{Code}
use Rattle.cs_ast.specs.declared.code.Code.TheVariants as c
use Rattle.cs_ast.specs.declared.identifier.Ident.{Ident}
use Rattle.cs_ast.specs.declared.expression.Label.{Label}
use Rattle.cs_ast.specs.declared.scope.Scope.{Scope}
use Rattle.cs_rules.specs.declared.checked.ExprType.{ExprType}
use Rattle.cs_rules.specs.declared.rule.Rule.TheVariants.{TypeMismatch}
use Rattle.cs_rules.specs.Judged.{Judged, fine, mismatch, each, if_there, ◌>>=◌}
use Rattle.cs_rules.specs.Types.{same_type, drops_argument, fits_type, fitting, fits, may_be_null}
use Rattle.cs_rules.specs.Names.{is_new, with_local}
use Rattle.cs_rules.specs.Expressions.{Value, items_of}
use Rattle.cs_rules.specs.Statements.{Done, done, Statement, in_order, alone, condition, started, stepped, for_loop, for_each, decides, constants, has_default, section, switch_of, return_of}
use Rattle.cs_rules.proofs.SameType.{same_equal}
use Rattle.cs_typing.specs.Expressions.{Surroundings, CodeHas}
use Rattle.cs_typing.specs.Statements.{Jumps, jumps, Always, Condition, Stepping, Runs, AllRun, Starts, SectionsRun}
use Rattle.cs_typing.specs.Statements as run
use Rattle.cs_accepted.specs.Scopes.{ScopeFits}
use Rattle.cs_accepted.specs.Accepted.{IfFine, ValueFits}
use Rattle.cs_accepted.specs.Leaves.{Leaves, SectionLeaves, looped, any_section, switched, section_of}
use Rattle.cs_accepted.specs.Leaves as leave
use Rattle.cs_accepted.specs.Sound.{ValueSound, Allows, DoneFits, StatementSound, SectionFits, SectionSound}
use Rattle.cs_accepted.proofs.Judging.{then_fine, tested_fine}
use Rattle.cs_accepted.proofs.TypeLemmas.{either_passes, drops, fitting_fine}
use Rattle.cs_accepted.proofs.OperatorLemmas.{some_type}
use Rattle.cs_accepted.proofs.NameLemmas.{items_fine}
use Rattle.cs_accepted.proofs.ScopeLemmas.{with_local_fits}
use Rattle.cs_accepted.proofs.StatementForms.{anything, first_allows, second_allows, in_loop, no_break, stays, OptionSound, no_value, a_value, AllStatements, CodesFit, in_order_fine, CodeFits, alone_fine, condition_fine, IsAlways, always_condition}

-- the start of a `for`
pub data StartSound : Option Leaves → Option Statement → Type 0 where
  no_start : StartSound None None
  a_start : (l : Leaves) (one : Statement) → StatementSound l one → StartSound (Some l) (Some one)

-- its test, which may be always true
pub data TestSound : Bool → Option Value → Type 0 where
  no_test : TestSound true None
  a_test : (forever : Bool) (a : Value) → ValueSound a → (forever ≡ true → IsAlways a) → TestSound forever (Some a)

-- whether the end of the start can be reached
begins : Option Leaves → Bool
begins None = true
begins (Some l) = l.ends

record StartFits (at : Surroundings) (locals : List CsType) (s : Scope) (j : Jumps) (ends : Bool) (first : Option Code × Scope) : Type 0 where
  within : List CsType
  starts : Starts at s.result j locals within ends first.0
  scope_fits : ScopeFits at within first.1
  same_result : first.1.result ≡ s.result

start_fine : (o : Option Leaves) (start : Option Statement) (body : Leaves) (j : Jumps) (at : Surroundings) (locals : List CsType) (s : Scope) → StartSound o start → Allows j (leave.started o body).breaks (leave.started o body).continues → ScopeFits at locals s
    → IfFine (λ first. StartFits at locals s j (begins o) first) (started start s)
unfolding begins
start_fine o start body j at locals s no_start allows fit = record { within = locals; starts = run.no_start j locals; scope_fits = fit; same_result = refl }
start_fine o start body j at locals s (a_start l one h) allows fit =
    then_fine (λ d. DoneFits at locals s j l.ends d) (λ first. StartFits at locals s j l.ends first) (one s) (λ it. fine (Some it.code, it.scope)) (h j at locals s (record { breaks_may = allows.breaks_may; continues_may = allows.continues_may }) fit)
    (λ d k. record { within = k.inner; starts = run.start j locals k.inner l.ends d.code k.runs; scope_fits = k.scope_fits; same_result = k.same_result })

test_fine : (forever : Bool) (test : Option Value) (at : Surroundings) (locals : List CsType) (s : Scope) → TestSound forever test → ScopeFits at locals s → IfFine (λ code. Condition at locals code) (if_there (λ a. condition a s) test)
unfolding condition drops_argument fits fits_type fitting may_be_null
test_fine forever test at locals s no_test fit = run.none
test_fine forever test at locals s (a_test _ a h is) fit =
    then_fine (λ x. CodeHas at locals t.Bool x) (λ code. Condition at locals code) (condition a s) (λ y. fine (Some y)) (condition_fine a at locals s h fit) (λ y k. run.some y k)

always_fine : (test : Option Value) (at : Surroundings) (locals : List CsType) (s : Scope) (forever : Bool) → TestSound forever test → forever ≡ true → IfFine (λ code. Always code) (if_there (λ a. condition a s) test)
unfolding condition drops_argument fits fits_type fitting may_be_null
always_fine test at locals s forever no_test e = run.none
always_fine test at locals s forever (a_test _ a h is) e =
    then_fine (λ x. x ≡ c.Bool true) (λ code. Always code) (condition a s) (λ y. fine (Some y)) (always_condition a s (is e)) (λ y k. subst (λ z. Always (Some z)) (sym k) run.yes_always)

step_fine : (step : Option Value) (at : Surroundings) (locals : List CsType) (s : Scope) → OptionSound step → ScopeFits at locals s → IfFine (λ code. Stepping at locals code) (if_there (λ a. stepped a s) step)
step_fine step at locals s no_value fit = run.none
step_fine step at locals s (a_value a h) fit =
    then_fine (λ z. (type : CsType) × CodeHas at locals type z) (λ code. Stepping at locals code) (stepped a s) (λ y. fine (Some y))
    (then_fine (λ x. ValueFits at locals x) (λ z. (type : CsType) × CodeHas at locals type z) (a s) (λ x. fine x.code) (h at locals s fit) (λ x hx. some_type (λ type. CodeHas at locals type x.code) x.expr_type hx))
    (λ y k. run.some k.0 y k.1)

ends_as : (a b : Bool) → b ≡ true → a ≡ (a && b)
ends_as true b e = sym e
ends_as false b e = refl

never_ends : (a b : Bool) → b ≡ false → false ≡ (a && b)
never_ends true b e = sym e
never_ends false b e = refl

-- what leaves the whole loop
total : (o : Option Leaves) (forever : Bool) (l : Leaves) → (leave.started o (looped forever l)).ends ≡ (begins o && (not forever || l.breaks))
unfolding begins
total None forever l = refl
total (Some s) forever l = refl

module _ (at : Surroundings) (locals : List CsType) (s : Scope) (j : Jumps) (o : Option Leaves) (start : Option Statement) (forever : Bool) (test step : Option Value) (l : Leaves) (body : Statement)
    (fit : ScopeFits at locals s) (begun : IfFine (λ first. StartFits at locals s j (begins o) first) (started start s)) (tests : TestSound forever test) (steps : OptionSound step) (h : StatementSound l body) where
  rest : (Option Code × Scope) → Judged Done
  unfolding condition drops_argument fits fits_type fitting may_be_null
  rest first = if_there (λ a. condition a first.1) test >>= λ code. (if_there (λ a. stepped a first.1) step >>= λ next. (alone body first.1 >>= λ turn. fine (done s (c.For first.0 code next turn))))

  loop_ends : IfFine (λ d. DoneFits at locals s j (begins o) d) (started start s >>= rest)
  unfolding rest condition drops_argument fits fits_type fitting may_be_null
  loop_ends =
      then_fine (λ first. StartFits at locals s j (begins o) first) (λ d. DoneFits at locals s j (begins o) d) (started start s) rest begun
      (λ first k. then_fine (λ code. Condition at k.within code) (λ d. DoneFits at locals s j (begins o) d) (if_there (λ a. condition a first.1) test) (λ code. (if_there (λ a. stepped a first.1) step >>= λ next. (alone body first.1 >>= λ turn. fine (done s (c.For first.0 code next turn))))) (test_fine forever test at k.within first.1 tests k.scope_fits)
      (λ code m. then_fine (λ next. Stepping at k.within next) (λ d. DoneFits at locals s j (begins o) d) (if_there (λ a. stepped a first.1) step) (λ next. (alone body first.1 >>= λ turn. fine (done s (c.For first.0 code next turn)))) (step_fine step at k.within first.1 steps k.scope_fits)
      (λ next n. then_fine (λ turn. CodeFits at first.1.result k.within (jumps true true) l.ends turn) (λ d. DoneFits at locals s j (begins o) d) (alone body first.1) (λ turn. fine (done s (c.For first.0 code next turn))) (alone_fine l body (jumps true true) at k.within first.1 h (in_loop l.breaks l.continues) k.scope_fits)
      (λ turn r. stays at locals s j (begins o) (c.For first.0 code next turn) fit (run.for_loop j locals k.within r.inner (begins o) l.ends first.0 code next turn k.starts m n (subst (λ z. Runs at z (jumps true true) k.within r.inner l.ends turn) k.same_result r.runs))))))

  loop_forever : forever ≡ true → l.breaks ≡ false → IfFine (λ d. DoneFits at locals s j false d) (started start s >>= rest)
  unfolding rest condition drops_argument fits fits_type fitting may_be_null
  loop_forever e n =
      then_fine (λ first. StartFits at locals s j (begins o) first) (λ d. DoneFits at locals s j false d) (started start s) rest begun
      (λ first k. then_fine (λ code. Always code) (λ d. DoneFits at locals s j false d) (if_there (λ a. condition a first.1) test) (λ code. (if_there (λ a. stepped a first.1) step >>= λ next. (alone body first.1 >>= λ turn. fine (done s (c.For first.0 code next turn))))) (always_fine test at k.within first.1 forever tests e)
      (λ code m. then_fine (λ next. Stepping at k.within next) (λ d. DoneFits at locals s j false d) (if_there (λ a. stepped a first.1) step) (λ next. (alone body first.1 >>= λ turn. fine (done s (c.For first.0 code next turn)))) (step_fine step at k.within first.1 steps k.scope_fits)
      (λ next p. then_fine (λ turn. CodeFits at first.1.result k.within (jumps false true) l.ends turn) (λ d. DoneFits at locals s j false d) (alone body first.1) (λ turn. fine (done s (c.For first.0 code next turn))) (alone_fine l body (jumps false true) at k.within first.1 h (no_break l.breaks l.continues n) k.scope_fits)
      (λ turn r. stays at locals s j false (c.For first.0 code next turn) fit (run.for_forever j locals k.within r.inner (begins o) l.ends first.0 code next turn k.starts m p (subst (λ z. Runs at z (jumps false true) k.within r.inner l.ends turn) k.same_result r.runs))))))

  by : (d : Bool) → forever ≡ d → (b : Bool) → l.breaks ≡ b → IfFine (λ x. DoneFits at locals s j (begins o && (not d || b)) x) (started start s >>= rest)
  by false i b e = subst (λ z. IfFine (λ x. DoneFits at locals s j z x) (started start s >>= rest)) (ends_as (begins o) true refl) loop_ends
  by true i true e = subst (λ z. IfFine (λ x. DoneFits at locals s j z x) (started start s >>= rest)) (ends_as (begins o) true refl) loop_ends
  by true i false e = subst (λ z. IfFine (λ x. DoneFits at locals s j z x) (started start s >>= rest)) (never_ends (begins o) false refl) (loop_forever i e)

  whole_loop : IfFine (λ x. DoneFits at locals s j (leave.started o (looped forever l)).ends x) (for_loop start test step body s)
  unfolding for_loop rest
  whole_loop = subst (λ z. IfFine (λ x. DoneFits at locals s j z x) (for_loop start test step body s)) (sym (total o forever l)) (by forever refl l.breaks refl)

pub for_sound : (o : Option Leaves) (start : Option Statement) (forever : Bool) (test step : Option Value) (l : Leaves) (body : Statement) → StartSound o start → TestSound forever test → OptionSound step → StatementSound l body → StatementSound (leave.started o (looped forever l)) (for_loop start test step body)
for_sound o start forever test step l body h tests steps g j at locals s allows fit =
    whole_loop at locals s j o start forever test step l body fit (start_fine o start (looped forever l) j at locals s h allows fit) tests steps g

pub for_each_sound : (name : Ident) (list : Value) (l : Leaves) (body : Statement) → ValueSound list → StatementSound l body → StatementSound (looped false l) (for_each name list body)
unfolding for_each is_new items_of with_local
for_each_sound name list l body h g j at locals s allows fit =
    then_fine (λ n. Unit {0}) (λ d. DoneFits at locals s j true d) (is_new s name) (λ new. list s >>= λ x. (items_of x.place x.expr_type >>= λ item. (alone body (with_local s name.name item) >>= λ turn. fine (done s (c.ForEach x.code turn))))) (anything (is_new s name))
    (λ n u. then_fine (λ x. ValueFits at locals x) (λ d. DoneFits at locals s j true d) (list s) (λ x. (items_of x.place x.expr_type >>= λ item. (alone body (with_local s name.name item) >>= λ turn. fine (done s (c.ForEach x.code turn))))) (h at locals s fit)
    (λ x hx. then_fine (λ item. CodeHas at locals (t.List item) x.code) (λ d. DoneFits at locals s j true d) (items_of x.place x.expr_type) (λ item. (alone body (with_local s name.name item) >>= λ turn. fine (done s (c.ForEach x.code turn)))) (items_fine at locals s fit x.place x.expr_type x.code hx)
    (λ item k. then_fine (λ turn. CodeFits at s.result (locals ++ item ∷ []) (jumps true true) l.ends turn) (λ d. DoneFits at locals s j true d) (alone body (with_local s name.name item)) (λ turn. fine (done s (c.ForEach x.code turn)))
    (alone_fine l body (jumps true true) at (locals ++ item ∷ []) (with_local s name.name item) g (in_loop l.breaks l.continues) (with_local_fits at locals s name.name item fit))
    (λ turn m. stays at locals s j true (c.ForEach x.code turn) fit (run.for_each j locals m.inner l.ends item x.code turn k m.runs)))))

-- sections
pub section_sound : (labels : List Label) (ls : List Leaves) (body : List Statement) → AllStatements ls body → SectionSound (section_of (has_default labels) (leave.in_order ls)) (section labels body)
unfolding section
section_sound labels ls body hs j at locals s decided allows fit =
    then_fine (λ k. Unit {0}) (λ x. SectionFits at s.result locals j (section_of (has_default labels) (leave.in_order ls)) x) (constants decided labels) (λ values. in_order body s >>= λ codes. fine (c.Section values (has_default labels) codes)) (anything (constants decided labels))
    (λ values u. then_fine (λ codes. CodesFit at s.result locals j (leave.in_order ls).ends codes) (λ x. SectionFits at s.result locals j (section_of (has_default labels) (leave.in_order ls)) x) (in_order body s) (λ codes. fine (c.Section values (has_default labels) codes)) (in_order_fine ls body j at locals s hs (record { breaks_may = allows.breaks_may; continues_may = allows.continues_may }) fit)
    (λ codes k. record { constants = values; statements = codes; inner = k.inner; is = refl; runs = k.runs }))

pub data AllSections : List SectionLeaves → List (ExprType → Scope → Judged Code) → Type 0 where
  no_section : AllSections [] []
  a_section : (l : SectionLeaves) (ls : List SectionLeaves) (one : ExprType → Scope → Judged Code) (others : List (ExprType → Scope → Judged Code)) → SectionSound l one → AllSections ls others → AllSections (l ∷ ls) (one ∷ others)

sections_fine : (ls : List SectionLeaves) (sections : List (ExprType → Scope → Judged Code)) (j : Jumps) (at : Surroundings) (locals : List CsType) (s : Scope) (decided : ExprType) → AllSections ls sections → Allows j (any_section ls).breaks (any_section ls).continues → ScopeFits at locals s
    → IfFine (λ codes. SectionsRun at s.result j locals (any_section ls).ends (any_section ls).default codes) (each (λ one. one decided s) sections)
sections_fine ls sections j at locals s decided no_section allows fit = run.no_section j locals
sections_fine ls sections j at locals s decided (a_section l rest one others h hs) allows fit =
    then_fine (λ x. SectionFits at s.result locals j l x) (λ codes. SectionsRun at s.result j locals (l.ends || (any_section rest).ends) (l.default || (any_section rest).default) codes) (one decided s) (λ y. each (λ z. z decided s) others >>= λ ys. fine (y ∷ ys))
    (h j at locals s decided (first_allows j l.breaks (any_section rest).breaks l.continues (any_section rest).continues allows) fit)
    (λ y k. then_fine (λ ys. SectionsRun at s.result j locals (any_section rest).ends (any_section rest).default ys) (λ codes. SectionsRun at s.result j locals (l.ends || (any_section rest).ends) (l.default || (any_section rest).default) codes) (each (λ z. z decided s) others) (λ ys. fine (y ∷ ys))
    (sections_fine rest others j at locals s decided hs (second_allows j l.breaks (any_section rest).breaks l.continues (any_section rest).continues allows) fit)
    (λ ys m. subst (λ z. SectionsRun at s.result j locals (l.ends || (any_section rest).ends) (l.default || (any_section rest).default) (z ∷ ys)) (sym k.is) (run.section j locals k.inner l.ends (any_section rest).ends l.default (any_section rest).default k.constants k.statements ys k.runs m)))

module _ (a : Value) (ls : List SectionLeaves) (sections : List (ExprType → Scope → Judged Code)) (h : ValueSound a) (hs : AllSections ls sections) (j : Jumps) (at : Surroundings) (locals : List CsType) (s : Scope) (allows : Allows j false (any_section ls).continues) (fit : ScopeFits at locals s) where
  switch_by : (ends out : Bool) → Allows (jumps out j.continues) (any_section ls).breaks (any_section ls).continues
      → ((type : CsType) (x : Code) (codes : List Code) → CodeHas at locals type x → SectionsRun at s.result (jumps out j.continues) locals (any_section ls).ends (any_section ls).default codes → Runs at s.result j locals locals ends (c.Switch x codes))
      → IfFine (λ d. DoneFits at locals s j ends d) (switch_of a sections s)
  unfolding switch_of decides
  switch_by ends out may makes =
      then_fine (λ x. ValueFits at locals x) (λ d. DoneFits at locals s j ends d) (a s) (λ x. (if decides x.expr_type then fine x.expr_type else mismatch x.place) >>= λ decided. (each (λ one. one decided s) sections >>= λ codes. fine (done s (c.Switch x.code codes)))) (h at locals s fit)
      (λ x hx. then_fine (λ z. Unit {0}) (λ d. DoneFits at locals s j ends d) (if decides x.expr_type then fine x.expr_type else mismatch x.place) (λ decided. (each (λ one. one decided s) sections >>= λ codes. fine (done s (c.Switch x.code codes)))) (anything (if decides x.expr_type then fine x.expr_type else mismatch x.place))
      (λ decided u. then_fine (λ codes. SectionsRun at s.result (jumps out j.continues) locals (any_section ls).ends (any_section ls).default codes) (λ d. DoneFits at locals s j ends d) (each (λ one. one decided s) sections) (λ codes. fine (done s (c.Switch x.code codes))) (sections_fine ls sections (jumps out j.continues) at locals s decided hs may fit)
      (λ codes k. let ty = some_type (λ type. CodeHas at locals type x.code) x.expr_type hx in stays at locals s j ends (c.Switch x.code codes) fit (makes ty.0 x.code codes ty.1 k))))

  may_break : Allows (jumps true j.continues) (any_section ls).breaks (any_section ls).continues
  may_break = record { breaks_may = λ e. refl; continues_may = allows.continues_may }

  ending : IfFine (λ d. DoneFits at locals s j true d) (switch_of a sections s)
  ending = switch_by true true may_break (λ type x codes g k. run.switch j locals type (any_section ls).ends (any_section ls).default x codes g k)

  endless : (any_section ls).default ≡ true → (any_section ls).ends ≡ false → (any_section ls).breaks ≡ false → IfFine (λ d. DoneFits at locals s j false d) (switch_of a sections s)
  endless d e b =
      switch_by false false (record { breaks_may = λ m. absurd (cc); continues_may = allows.continues_may })
      (λ type x codes g k. run.switch_left j locals type x codes g (subst (λ z. SectionsRun at s.result (jumps false j.continues) locals false z codes) d (subst (λ z. SectionsRun at s.result (jumps false j.continues) locals z (any_section ls).default codes) e k)))

  by_sections : (d e b : Bool) → (any_section ls).default ≡ d → (any_section ls).ends ≡ e → (any_section ls).breaks ≡ b → IfFine (λ x. DoneFits at locals s j (not d || (e || b)) x) (switch_of a sections s)
  by_sections false e b i i' i2 = ending
  by_sections true true b i i' i2 = ending
  by_sections true false true i i' i2 = ending
  by_sections true false false i i' i2 = endless i i' i2

pub switch_sound : (a : Value) (ls : List SectionLeaves) (sections : List (ExprType → Scope → Judged Code)) → ValueSound a → AllSections ls sections → StatementSound (switched (any_section ls)) (switch_of a sections)
switch_sound a ls sections h hs j at locals s allows fit = by_sections a ls sections h hs j at locals s (record { breaks_may = λ e. absurd (cc); continues_may = allows.continues_may }) fit (any_section ls).default (any_section ls).ends (any_section ls).breaks refl refl refl

-- `return`
nothing_result : (result : CsType) → fits_type t.Nothing result ≡ true → result ≡ t.Nothing
unfolding drops_argument fits_type
nothing_result result e =
    elim (either_passes (same_type t.Nothing result) (drops_argument (out-CsType t.Nothing) (out-CsType result)) e) [
      | inl i ↦ sym (same_equal t.Nothing result i)
      | inr i ↦ let k = drops t.Nothing result i in absurd (cc)
    ]

pub return_sound : (a : Option Value) (place : Place) → OptionSound a → StatementSound (record { breaks = false; continues = false; ends = false }) (return_of a place)
unfolding return_of drops_argument fits fits_type fitting may_be_null
return_sound a place no_value j at locals s allows fit =
    tested_fine (λ d. DoneFits at locals s j false d) (fits_type t.Nothing s.result) (done s (c.Return None)) TypeMismatch place (λ e. stays at locals s j false (c.Return None) fit (run.return j locals (nothing_result s.result e)))
return_sound a place (a_value x h) j at locals s allows fit =
    then_fine (λ y. ValueFits at locals y) (λ d. DoneFits at locals s j false d) (x s) (λ y. fitting s.result y >>= λ code. fine (done s (c.Return (Some code)))) (h at locals s fit)
    (λ y hy. then_fine (λ code. CodeHas at locals s.result code) (λ d. DoneFits at locals s j false d) (fitting s.result y) (λ code. fine (done s (c.Return (Some code)))) (fitting_fine at locals s.result y hy)
    (λ code k. stays at locals s j false (c.Return (Some code)) fit (run.return_value j locals code k)))
