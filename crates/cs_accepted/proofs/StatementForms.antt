-- Each form of statement, where its parts have types.
use Rattle.std.proofs.Common.{◌≡◌, List, [], ◌∷◌, ◌++◌, refl, sym, ap, subst}
use Rattle.std.specs.Prelude.{Bool, true, false, ◌&&◌, ◌||◌, not, Option, Some, None}
use Rattle.text_core.specs.declared.place.Place.{Place}
use Rattle.cs_ast.specs.declared.cs_type.CsType.{CsType}
use Rattle.cs_ast.specs.declared.cs_type.CsType.TheVariants as t
use Rattle.cs_ast.specs.declared.cs_type.TypeExpr.{TypeExpr}
use Rattle.cs_ast.specs.declared.code.Code.{Code}
use Rattle.cs_ast.specs.declared.code.Code.TheVariants as c
use Rattle.cs_ast.specs.declared.identifier.Ident.{Ident}
use Rattle.cs_ast.specs.declared.scope.Scope.{Scope}
use Rattle.cs_rules.specs.declared.checked.Checked.{Checked}
use Rattle.cs_rules.specs.declared.checked.ExprType.TheVariants.{Of}
use Rattle.cs_rules.specs.declared.rule.Rule.TheVariants.{TypeMismatch}
use Rattle.cs_rules.specs.Judged.{Judged, fine, breaks, if_there, ◌>>=◌}
use Rattle.cs_rules.specs.Types.{fits, fitting, own_type, checked, drops_argument, fits_type, has_values, may_be_null}
use Rattle.cs_rules.specs.Names.{is_new, with_local}
use Rattle.cs_rules.specs.Written.{written}
use Rattle.cs_rules.specs.Expressions.{Value}
use Rattle.cs_rules.specs.Statements.{done, Statement, in_order, alone, condition, initial, local_type, local, block, if_else, while_loop, perform}
use Rattle.cs_typing.specs.Expressions.{Surroundings, CodeHas}
use Rattle.cs_typing.specs.Statements.{Jumps, jumps, Always, Condition, Stepping, Runs, AllRun, Starts, SectionsRun}
use Rattle.cs_typing.specs.Statements as run
use Rattle.cs_accepted.specs.Scopes.{ScopeFits}
use Rattle.cs_accepted.specs.Accepted.{IfFine, HasType, ValueFits}
use Rattle.cs_accepted.specs.Leaves.{Leaves, SectionLeaves, plain, either, branches, looped, always, any_section, switched, section_of}
use Rattle.cs_accepted.specs.Leaves as leave
use Rattle.cs_accepted.specs.Sound.{ValueSound, Allows, DoneFits, StatementSound}
use Rattle.cs_accepted.proofs.Judging.{then_fine, weaker_fine, tested_fine}
use Rattle.cs_accepted.proofs.TypeLemmas.{fitting_fine, fits_has, own_type_fine}
use Rattle.cs_accepted.proofs.OperatorLemmas.{some_type}
use Rattle.cs_accepted.proofs.ScopeLemmas.{with_local_fits}

-- nothing is said
pub anything : {A : Type 0} (j : Judged A) → IfFine (λ x. Unit {0}) j
anything (fine x) = tt
anything (breaks rule place) = tt

pub left_true : (a b : Bool) → a ≡ true → (a || b) ≡ true
left_true a b e = ap (λ z. z || b) e

pub right_true : (a b : Bool) → b ≡ true → (a || b) ≡ true
right_true true b e = refl
right_true false b e = e

-- jumps of the first part, and of the second
pub first_allows : (j : Jumps) (a b a' b' : Bool) → Allows j (a || b) (a' || b') → Allows j a a'
first_allows j a b a' b' h = record { breaks_may = λ e. h.breaks_may (left_true a b e); continues_may = λ e. h.continues_may (left_true a' b' e) }

pub second_allows : (j : Jumps) (a b a' b' : Bool) → Allows j (a || b) (a' || b') → Allows j b b'
second_allows j a b a' b' h = record { breaks_may = λ e. h.breaks_may (right_true a b e); continues_may = λ e. h.continues_may (right_true a' b' e) }

-- a loop allows both jumps
pub in_loop : (out on : Bool) → Allows (jumps true true) out on
in_loop out on = record { breaks_may = λ e. refl; continues_may = λ e. refl }

-- a loop without `break`
pub no_break : (out on : Bool) → out ≡ false → Allows (jumps false true) out on
no_break out on n = record { breaks_may = λ e. absurd (cc); continues_may = λ e. refl }

module _ (at : Surroundings) (locals : List CsType) (s : Scope) (j : Jumps) where
  -- a statement with no local of its own behind it
  pub stays : (ends : Bool) (code : Code) → ScopeFits at locals s → Runs at s.result j locals locals ends code → DoneFits at locals s j ends (done s code)
  stays ends code fit h = record { inner = locals; runs = h; scope_fits = fit; same_result = refl }

pub empty_sound : StatementSound plain (λ s. fine (done s c.Empty))
empty_sound j at locals s allows fit = stays at locals s j true c.Empty fit (run.empty j locals)

pub break_sound : StatementSound (record { breaks = true; continues = false; ends = false }) (λ s. fine (done s c.Break))
break_sound j at locals s allows fit = stays at locals s j false c.Break fit (run.break_out j locals (allows.breaks_may refl))

pub continue_sound : StatementSound (record { breaks = false; continues = true; ends = false }) (λ s. fine (done s c.Continue))
continue_sound j at locals s allows fit = stays at locals s j false c.Continue fit (run.go_on j locals (allows.continues_may refl))

pub perform_sound : (a : Value) → ValueSound a → StatementSound plain (perform a)
unfolding perform
perform_sound a h j at locals s allows fit =
    then_fine (λ x. ValueFits at locals x) (λ d. DoneFits at locals s j true d) (a s) (λ x. fine (done s (c.Perform x.code))) (h at locals s fit)
    (λ x hx. let k = some_type (λ type. CodeHas at locals type x.code) x.expr_type hx in stays at locals s j true (c.Perform x.code) fit (run.perform j locals k.0 x.code k.1))

-- a value that may be absent
pub data OptionSound : Option Value → Type 0 where
  no_value : OptionSound None
  a_value : (a : Value) → ValueSound a → OptionSound (Some a)

-- locals
initial_fine : (at : Surroundings) (locals : List CsType) (s : Scope) (name : Ident) (value : Option Value) → OptionSound value → ScopeFits at locals s → IfFine (λ x. ValueFits at locals x) (initial name value s)
initial_fine at locals s name value no_value fit = tt
initial_fine at locals s name value (a_value a h) fit = h at locals s fit

local_type_fine : (at : Surroundings) (locals : List CsType) (declared : Option CsType) (x : Checked) → ValueFits at locals x → IfFine (λ type. CodeHas at locals type x.code) (local_type declared x)
unfolding drops_argument fits fits_type has_values local_type may_be_null own_type
local_type_fine at locals None x h = weaker_fine (λ type. x.expr_type ≡ Of type) (λ type. CodeHas at locals type x.code) (own_type x.place x.expr_type) (own_type_fine x.place x.expr_type) (λ type e. subst (λ z. HasType at locals z x.code) e h)
local_type_fine at locals (Some type) x h = tested_fine (λ z. CodeHas at locals z x.code) (fits x.expr_type type) type TypeMismatch x.place (λ e. fits_has at locals x.expr_type type x.code e h)

pub local_sound : (cs_type : Option TypeExpr) (name : Ident) (value : Option Value) → OptionSound value → StatementSound plain (local cs_type name value)
unfolding local drops_argument fits fits_type has_values is_new local_type may_be_null own_type with_local written
local_sound cs_type name value h j at locals s allows fit =
    then_fine (λ d. Unit {0}) (λ d. DoneFits at locals s j true d) (if_there (written s.records) cs_type) (λ declared. is_new s name >>= λ new. (initial name value s >>= λ x. (local_type declared x >>= λ given. fine (done (with_local s name.name given) (c.Declare x.code))))) (anything (if_there (written s.records) cs_type))
    (λ declared u. then_fine (λ n. Unit {0}) (λ d. DoneFits at locals s j true d) (is_new s name) (λ new. (initial name value s >>= λ x. (local_type declared x >>= λ given. fine (done (with_local s name.name given) (c.Declare x.code))))) (anything (is_new s name))
    (λ n u'. then_fine (λ x. ValueFits at locals x) (λ d. DoneFits at locals s j true d) (initial name value s) (λ x. (local_type declared x >>= λ given. fine (done (with_local s name.name given) (c.Declare x.code)))) (initial_fine at locals s name value h fit)
    (λ x hx. then_fine (λ type. CodeHas at locals type x.code) (λ d. DoneFits at locals s j true d) (local_type declared x) (λ given. fine (done (with_local s name.name given) (c.Declare x.code))) (local_type_fine at locals declared x hx)
    (λ given g. record { inner = locals ++ given ∷ []; runs = run.declare j locals given x.code g; scope_fits = with_local_fits at locals s name.name given fit; same_result = refl }))))

-- statements one after another
pub data AllStatements : List Leaves → List Statement → Type 0 where
  no_statement : AllStatements [] []
  a_statement : (l : Leaves) (ls : List Leaves) (one : Statement) (others : List Statement) → StatementSound l one → AllStatements ls others → AllStatements (l ∷ ls) (one ∷ others)

-- their codes
pub record CodesFit (at : Surroundings) (result : CsType) (locals : List CsType) (j : Jumps) (ends : Bool) (codes : List Code) : Type 0 where
  pub inner : List CsType
  pub runs : AllRun at result j locals inner ends codes

pub in_order_fine : (ls : List Leaves) (body : List Statement) (j : Jumps) (at : Surroundings) (locals : List CsType) (s : Scope) → AllStatements ls body → Allows j (leave.in_order ls).breaks (leave.in_order ls).continues → ScopeFits at locals s
    → IfFine (λ codes. CodesFit at s.result locals j (leave.in_order ls).ends codes) (in_order body s)
in_order_fine ls body j at locals s no_statement allows fit = record { inner = locals; runs = run.none j locals }
in_order_fine ls body j at locals s (a_statement l rest one others h hs) allows fit =
    then_fine (λ d. DoneFits at locals s j l.ends d) (λ codes. CodesFit at s.result locals j (l.ends && (leave.in_order rest).ends) codes) (one s) (λ first. in_order others first.scope >>= λ codes. fine (first.code ∷ codes)) (h j at locals s (first_allows j l.breaks (leave.in_order rest).breaks l.continues (leave.in_order rest).continues allows) fit)
    (λ d k. then_fine (λ codes. CodesFit at d.scope.result k.inner j (leave.in_order rest).ends codes) (λ codes. CodesFit at s.result locals j (l.ends && (leave.in_order rest).ends) codes) (in_order others d.scope) (λ codes. fine (d.code ∷ codes))
    (in_order_fine rest others j at k.inner d.scope hs (second_allows j l.breaks (leave.in_order rest).breaks l.continues (leave.in_order rest).continues allows) k.scope_fits)
    (λ codes m. record { inner = m.inner; runs = run.more j locals k.inner m.inner l.ends (leave.in_order rest).ends d.code codes k.runs (subst (λ z. AllRun at z j k.inner m.inner (leave.in_order rest).ends codes) k.same_result m.runs) }))

pub block_sound : (ls : List Leaves) (body : List Statement) → AllStatements ls body → StatementSound (leave.in_order ls) (block body)
unfolding block
block_sound ls body hs j at locals s allows fit =
    then_fine (λ codes. CodesFit at s.result locals j (leave.in_order ls).ends codes) (λ d. DoneFits at locals s j (leave.in_order ls).ends d) (in_order body s) (λ codes. fine (done s (c.Block codes))) (in_order_fine ls body j at locals s hs allows fit)
    (λ codes k. stays at locals s j (leave.in_order ls).ends (c.Block codes) fit (run.block j locals k.inner (leave.in_order ls).ends codes k.runs))

-- a statement in a scope of its own
pub record CodeFits (at : Surroundings) (result : CsType) (locals : List CsType) (j : Jumps) (ends : Bool) (code : Code) : Type 0 where
  pub inner : List CsType
  pub runs : Runs at result j locals inner ends code

pub alone_fine : (l : Leaves) (one : Statement) (j : Jumps) (at : Surroundings) (locals : List CsType) (s : Scope) → StatementSound l one → Allows j l.breaks l.continues → ScopeFits at locals s → IfFine (λ code. CodeFits at s.result locals j l.ends code) (alone one s)
alone_fine l one j at locals s h allows fit =
    then_fine (λ d. DoneFits at locals s j l.ends d) (λ code. CodeFits at s.result locals j l.ends code) (one s) (λ it. fine it.code) (h j at locals s allows fit) (λ d k. record { inner = k.inner; runs = k.runs })

pub condition_fine : (a : Value) (at : Surroundings) (locals : List CsType) (s : Scope) → ValueSound a → ScopeFits at locals s → IfFine (λ code. CodeHas at locals t.Bool code) (condition a s)
unfolding condition drops_argument fits fits_type fitting may_be_null
condition_fine a at locals s h fit = then_fine (λ x. ValueFits at locals x) (λ code. CodeHas at locals t.Bool code) (a s) (λ x. fitting t.Bool x) (h at locals s fit) (λ x hx. fitting_fine at locals t.Bool x hx)

-- a second branch that may be absent
pub data BranchSound : Option Leaves → Option Statement → Type 0 where
  no_branch : BranchSound None None
  a_branch : (l : Leaves) (one : Statement) → StatementSound l one → BranchSound (Some l) (Some one)

pub if_sound : (test : Value) (l : Leaves) (holds : Statement) (other : Option Leaves) (fails : Option Statement) → ValueSound test → StatementSound l holds → BranchSound other fails → StatementSound (branches l other) (if_else test holds fails)
unfolding if_else condition drops_argument fits fits_type fitting may_be_null
if_sound test l holds other fails h g no_branch j at locals s allows fit =
    then_fine (λ code. CodeHas at locals t.Bool code) (λ d. DoneFits at locals s j (l.ends || true) d) (condition test s) (λ code. alone holds s >>= λ first. fine (done s (c.If code first None))) (condition_fine test at locals s h fit)
    (λ code k. then_fine (λ first. CodeFits at s.result locals j l.ends first) (λ d. DoneFits at locals s j (l.ends || true) d) (alone holds s) (λ first. fine (done s (c.If code first None))) (alone_fine l holds j at locals s g (first_allows j l.breaks false l.continues false allows) fit)
    (λ first m. stays at locals s j (l.ends || true) (c.If code first None) fit (subst (λ z. Runs at s.result j locals locals z (c.If code first None)) (sym (right_true l.ends true refl)) (run.if_only j locals m.inner l.ends code first k m.runs))))
if_sound test l holds other fails h g (a_branch l' one g') j at locals s allows fit =
    then_fine (λ code. CodeHas at locals t.Bool code) (λ d. DoneFits at locals s j (l.ends || l'.ends) d) (condition test s) (λ code. alone holds s >>= λ first. (alone one s >>= λ y. fine (Some y)) >>= λ second. fine (done s (c.If code first second))) (condition_fine test at locals s h fit)
    (λ code k. then_fine (λ first. CodeFits at s.result locals j l.ends first) (λ d. DoneFits at locals s j (l.ends || l'.ends) d) (alone holds s) (λ first. (alone one s >>= λ y. fine (Some y)) >>= λ second. fine (done s (c.If code first second))) (alone_fine l holds j at locals s g (first_allows j l.breaks l'.breaks l.continues l'.continues allows) fit)
    (λ first m. then_fine (λ (second : Option Code). (y : Code) × (second ≡ Some y) × CodeFits at s.result locals j l'.ends y) (λ d. DoneFits at locals s j (l.ends || l'.ends) d) (alone one s >>= λ y. fine (Some y)) (λ second. fine (done s (c.If code first second)))
    (then_fine (λ y. CodeFits at s.result locals j l'.ends y) (λ (second : Option Code). (y : Code) × (second ≡ Some y) × CodeFits at s.result locals j l'.ends y) (alone one s) (λ y. fine (Some y)) (alone_fine l' one j at locals s g' (second_allows j l.breaks l'.breaks l.continues l'.continues allows) fit) (λ y n. (y, refl, n)))
    (λ second n. stays at locals s j (l.ends || l'.ends) (c.If code first second) fit (subst (λ z. Runs at s.result j locals locals (l.ends || l'.ends) (c.If code first z)) (sym n.1) (run.if_else j locals m.inner n.2.inner l.ends l'.ends code first n.0 k m.runs n.2.runs)))))

-- a test that is the word `true`
abbrev pub IsAlways : Value → Type 0
IsAlways test = (s : Scope) → (place : Place) × (test s ≡ fine (checked place (c.Bool true) t.Bool))

pub always_condition : (test : Value) (s : Scope) → IsAlways test → IfFine (λ code. code ≡ c.Bool true) (condition test s)
unfolding condition drops_argument fits fits_type fitting may_be_null
always_condition test s h = let k = h s in subst (λ z. IfFine (λ code. code ≡ c.Bool true) (z >>= λ x. fitting t.Bool x)) (sym k.1) (tested_fine (λ code. code ≡ c.Bool true) (fits (Of t.Bool) t.Bool) (c.Bool true) TypeMismatch k.0 (λ e. refl))

-- both of what holds of one judgement
pub both_fine : {A : Type 0} (P Q : A → Type 0) (j : Judged A) → IfFine P j → IfFine Q j → IfFine (λ x. P x × Q x) j
both_fine P Q (fine x) h g = (h, g)
both_fine P Q (breaks rule place) h g = tt

pub while_sound : (forever : Bool) (test : Value) (l : Leaves) (body : Statement) → (forever ≡ true → IsAlways test) → ValueSound test → StatementSound l body → StatementSound (looped forever l) (while_loop test body)
unfolding while_loop condition drops_argument fits fits_type fitting may_be_null
while_sound forever test l body is h g j at locals s allows fit = by forever is l.breaks refl
  where
    ending : IfFine (λ d. DoneFits at locals s j true d) (condition test s >>= λ code. (alone body s >>= λ turn. fine (done s (c.While code turn))))
    ending =
        then_fine (λ code. CodeHas at locals t.Bool code) (λ d. DoneFits at locals s j true d) (condition test s) (λ code. (alone body s >>= λ turn. fine (done s (c.While code turn)))) (condition_fine test at locals s h fit)
        (λ code k. then_fine (λ turn. CodeFits at s.result locals (jumps true true) l.ends turn) (λ d. DoneFits at locals s j true d) (alone body s) (λ turn. fine (done s (c.While code turn))) (alone_fine l body (jumps true true) at locals s g (in_loop l.breaks l.continues) fit)
        (λ turn m. stays at locals s j true (c.While code turn) fit (run.while j locals m.inner l.ends code turn k m.runs)))

    endless : IsAlways test → l.breaks ≡ false → IfFine (λ d. DoneFits at locals s j false d) (condition test s >>= λ code. (alone body s >>= λ turn. fine (done s (c.While code turn))))
    endless a n =
        then_fine (λ code. code ≡ c.Bool true) (λ d. DoneFits at locals s j false d) (condition test s) (λ code. (alone body s >>= λ turn. fine (done s (c.While code turn)))) (always_condition test s a)
        (λ code k. then_fine (λ turn. CodeFits at s.result locals (jumps false true) l.ends turn) (λ d. DoneFits at locals s j false d) (alone body s) (λ turn. fine (done s (c.While code turn))) (alone_fine l body (jumps false true) at locals s g (no_break l.breaks l.continues n) fit)
        (λ turn m. stays at locals s j false (c.While code turn) fit (subst (λ z. Runs at s.result j locals locals false (c.While z turn)) (sym k) (run.forever j locals m.inner l.ends turn m.runs))))

    by : (d : Bool) → (d ≡ true → IsAlways test) → (b : Bool) → l.breaks ≡ b → IfFine (λ x. DoneFits at locals s j (not d || b) x) (condition test s >>= λ code. (alone body s >>= λ turn. fine (done s (c.While code turn))))
    by false i b e = ending
    by true i true e = ending
    by true i false e = endless (i refl) e
