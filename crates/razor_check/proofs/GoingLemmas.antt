-- Going from part to part, and back.
use Rattle.std.proofs.Common.{◌≡◌, ℕ, ◌+◌, ◌-◌, ◌<◌, ◌≤◌, List, [], ◌∷◌, ◌++◌, length, map, get_or, take, drop, refl, sym, ap, ◌∙◌, append_assoc}
use Rattle.std.specs.Prelude.{Bool, true, false, Option}
use Rattle.std.proofs.Math.Seq.{take-length, take-append_seam}
use Rattle.std.proofs.lemmas.List.{append-nil, take-append-drop, drop_more, at_drop_all, length-drop}
use Rattle.cs_ast.specs.declared.cs_type.CsType.{CsType}
use Rattle.cs_ast.specs.declared.expression.Expr.{Expr}
use Rattle.cs_ast.specs.declared.identifier.Ident.{Ident}
use Rattle.cs_ast.specs.declared.scope.Named.{Named}
use Rattle.cs_ast.specs.declared.scope.Scope.{Scope}
use Rattle.cs_forbidden.specs.declared.forbidden.Mark.{Mark}
use Rattle.cs_rules.specs.Judged.{Judged, fine, breaks, ◌>>=◌}
use Rattle.cs_rules.specs.declared.checked.Checked.{Checked}
use Rattle.cs_rules.specs.Expressions.{items_of}
use Rattle.cs_rules.specs.Names.{is_new, with_local}
use Rattle.razor_rules.specs.declared.finding.Broken.{Broken}
use Rattle.razor_rules.specs.declared.ground.Ground.{Ground}
use Rattle.razor_rules.specs.Findings.{also, found, found_then}
use Rattle.razor_rules.specs.Grounds.{behind_local, mark_of}
use Rattle.razor_rules.specs.Parts.{Part, next, if_fine, in_order}
use Rattle.razor_rules.specs.TemplateDeeds.{changing}
use Rattle.razor_rules.specs.Templates.{item_ground}
use Rattle.razor_rules.specs.Values.{value}
use Rattle.razor_rules.proofs.FirstLaws.{also_append, also_nothing}
use Rattle.razor_check.specs.Entering.{cut_to, left_as, Entered}
use Rattle.razor_check.specs.Going.{Kept, is_fine, ground_or, behind_part, item_type}

-- behind a part that breaks no rule the others are looked at
on_by : (before : Option Broken) (one : Part) (rest : List Part) (g : Ground) (judged : Judged Scope) → is_fine (judged >>= λ s. fine (next one.declares rest g s)) ≡ true →
    also before (one.rules g ++ if_fine judged (λ s. in_order rest (next one.declares rest g s)))
    ≡ also (also before (one.rules g)) (in_order rest (ground_or (judged >>= λ s. fine (next one.declares rest g s)) g))
on_by before one rest g (fine s) is = also_append before (one.rules g) (in_order rest (next one.declares rest g s))
on_by before one rest g (breaks rule place) is = absurd (cc)

pub goes_on : (before : Option Broken) (one : Part) (rest : List Part) (g : Ground) → is_fine (behind_part one rest g) ≡ true →
    also before (in_order (one ∷ rest) g) ≡ also (also before (one.rules g)) (in_order rest (ground_or (behind_part one rest g) g))
goes_on before one rest g is = on_by before one rest g (one.behind g) is

-- and behind another nothing is
stop_by : (before : Option Broken) (one : Part) (rest : List Part) (g : Ground) (judged : Judged Scope) → is_fine (judged >>= λ s. fine (next one.declares rest g s)) ≡ false →
    also before (one.rules g ++ if_fine judged (λ s. in_order rest (next one.declares rest g s))) ≡ also before (one.rules g)
stop_by before one rest g (fine s) is = absurd (cc)
stop_by before one rest g (breaks rule place) is = ap (also before) (append-nil (one.rules g))

pub goes_no_further : (before : Option Broken) (one : Part) (rest : List Part) (g : Ground) → is_fine (behind_part one rest g) ≡ false →
    also before (in_order (one ∷ rest) g) ≡ also before (one.rules g)
goes_no_further before one rest g is = stop_by before one rest g (one.behind g) is

-- the same of the nodes from a place on
module _ {A : Type 0} (view : A → Part) (before : Option Broken) (xs : List A) (i : ℕ) (x : A) (g : Ground) (within : i < length xs) (is : x ≡ get_or xs i x) where
  pub rest_on : is_fine (behind_part (view x) (map view (drop (i + 1) xs)) g) ≡ true →
      also before (in_order (map view (drop i xs)) g)
      ≡ also (also before ((view x).rules g)) (in_order (map view (drop (i + 1) xs)) (ground_or (behind_part (view x) (map view (drop (i + 1) xs)) g) g))
  rest_on go =
      ap (λ ys. also before (in_order (map view ys) g)) (drop_more xs i x within ∙ ap (λ y. y ∷ drop (i + 1) xs) (sym is))
      ∙ goes_on before (view x) (map view (drop (i + 1) xs)) g go

  pub rest_stops : is_fine (behind_part (view x) (map view (drop (i + 1) xs)) g) ≡ false → also before (in_order (map view (drop i xs)) g) ≡ also before ((view x).rules g)
  rest_stops go =
      ap (λ ys. also before (in_order (map view ys) g)) (drop_more xs i x within ∙ ap (λ y. y ∷ drop (i + 1) xs) (sym is))
      ∙ goes_no_further before (view x) (map view (drop (i + 1) xs)) g go

pub rest_none : {A : Type 0} (view : A → Part) (before : Option Broken) (xs : List A) (i : ℕ) (g : Ground) → length xs ≤ i → also before (in_order (map view (drop i xs)) g) ≡ before
rest_none view before xs i g over = at_drop_all (λ ys. also before (in_order (map view ys) g)) xs i over ∙ also_nothing before

-- the nodes behind one, cut out of a list
pub others_are : {A : Type 0} (xs : List A) (i at : ℕ) → at ≡ i → take (length xs - (at + 1)) (drop (at + 1) xs) ≡ drop (i + 1) xs
others_are xs i at here =
    ap (λ (k : ℕ). take k (drop (at + 1) xs)) (sym (length-drop (at + 1) xs)) ∙ take-length (drop (at + 1) xs) ∙ ap (λ (k : ℕ). drop (k + 1) xs) here

-- one turn over nodes
module _ {A : Type 0} (view : A → Part) (xs others : List A) (i : ℕ) (x : A) (before after : Option Broken) (g inner : Ground) (go : Bool)
    (within : i < length xs) (is : x ≡ get_or xs i x) (here : others ≡ drop (i + 1) xs) (finds : after ≡ also before ((view x).rules g)) (same : inner ≡ g)
    (goes : go ≡ is_fine (behind_part (view x) (map view others) inner)) where
  moved : behind_part (view x) (map view others) inner ≡ behind_part (view x) (map view (drop (i + 1) xs)) g
  moved = ap (λ (ys : List A). behind_part (view x) (map view ys) inner) here ∙ ap (λ (s : Ground). behind_part (view x) (map view (drop (i + 1) xs)) s) same

  pub turn_on : (behind : Ground) → go ≡ true → behind ≡ ground_or (behind_part (view x) (map view others) inner) inner →
      also before (in_order (map view (drop i xs)) g) ≡ also after (in_order (map view (drop (i + 1) xs)) behind)
  turn_on behind go_on reached =
      rest_on view before xs i x g within is (sym (ap is_fine moved) ∙ sym goes ∙ go_on)
      ∙ ap (λ (s : Ground). also (also before ((view x).rules g)) (in_order (map view (drop (i + 1) xs)) s))
      (sym (reached ∙ ap (λ (j : Judged Ground). ground_or j inner) moved ∙ ap (λ (s : Ground). ground_or (behind_part (view x) (map view (drop (i + 1) xs)) g) s) same))
      ∙ ap (λ (o : Option Broken). also o (in_order (map view (drop (i + 1) xs)) behind)) (sym finds)

  pub turn_stops : go ≡ false → also before (in_order (map view (drop i xs)) g) ≡ after
  turn_stops go_on = rest_stops view before xs i x g within is (sym (ap is_fine moved) ∙ sym goes ∙ go_on) ∙ sym finds

-- behind a head that breaks no rule its body is looked at
pub head_on : (judged : Judged Ground) (rules : Ground → List Broken) (before : Option Broken) (outer : Ground) → is_fine judged ≡ true →
    also before (found_then judged rules) ≡ also (also before (found judged)) (rules (ground_or judged outer))
head_on (fine inner) rules before outer is = ap (λ z. also z (rules inner)) (sym (also_nothing before))
head_on (breaks rule place) rules before outer is = absurd (cc)

pub head_stops : (judged : Judged Ground) (rules : Ground → List Broken) (before : Option Broken) → is_fine judged ≡ false → also before (found_then judged rules) ≡ also before (found judged)
head_stops (fine inner) rules before is = absurd (cc)
head_stops (breaks rule place) rules before is = refl

pub stays : (judged : Judged Ground) (outer : Ground) → is_fine judged ≡ false → ground_or judged outer ≡ outer
stays (fine inner) outer is = absurd (cc)
stays (breaks rule place) outer is = refl

-- what is found in a head and what is under it
pub head_found : (judged : Judged Ground) (rules : Ground → List Broken) (before first last : Option Broken) (outer inner : Ground) (go : Bool) → go ≡ is_fine judged → go ≡ true →
    first ≡ also before (found judged) → inner ≡ ground_or judged outer → last ≡ also first (rules inner) → last ≡ also before (found_then judged rules)
head_found judged rules before first last outer inner go goes go_on finds reached inside =
    inside ∙ ap (λ (o : Option Broken). also o (rules inner)) finds ∙ ap (λ (s : Ground). also (also before (found judged)) (rules s)) reached
    ∙ sym (head_on judged rules before outer (sym goes ∙ go_on))

pub head_missed : (judged : Judged Ground) (rules : Ground → List Broken) (before first : Option Broken) (go : Bool) → go ≡ is_fine judged → go ≡ false →
    first ≡ also before (found judged) → first ≡ also before (found_then judged rules)
head_missed judged rules before first go goes go_on finds = finds ∙ sym (head_stops judged rules before (sym goes ∙ go_on))

pub stays_out : (judged : Judged Ground) (outer inner : Ground) (go : Bool) → go ≡ is_fine judged → go ≡ false → inner ≡ ground_or judged outer → inner ≡ outer
stays_out judged outer inner go goes go_on reached = reached ∙ stays judged outer (sym goes ∙ go_on)

-- the head of a `foreach` by the type of the items
in_turn : (new : Judged (Unit {0})) (x : Judged Checked) (items : Checked → Judged CsType) (to : CsType → Ground) →
    (new >>= λ n. x >>= λ y. items y >>= λ item. fine (to item)) ≡ ((new >>= λ n. x >>= λ y. items y) >>= λ item. fine (to item))
in_turn (fine n) (fine y) items to = refl
in_turn (fine n) (breaks rule place) items to = refl
in_turn (breaks rule place) x items to = refl

pub item_law : (name : Ident) (list : Expr) (body : Part) (g : Ground) → item_ground name list body g
    ≡ (item_type name list g >>= λ item. fine (behind_local g (with_local g.scope name.name item) (mark_of (body.does (changing name.name)))))
item_law name list body g =
    in_turn (is_new g.scope name) (value g list) (λ x. items_of x.place x.expr_type) (λ item. behind_local g (with_local g.scope name.name item) (mark_of (body.does (changing name.name))))

-- what is kept
pub kept_self : (g : Ground) → Kept g g
kept_self g = record { names = take-length g.scope.names; marks = take-length g.marks; rest = refl }

marks_on : (a b d : List Mark) → take (length a) b ≡ a → take (length b) d ≡ b → take (length a) d ≡ a
marks_on a b d first second =
    let e : a ++ (drop (length a) b ++ drop (length b) d) ≡ d =
    sym (append_assoc a (drop (length a) b) (drop (length b) d)) ∙ ap (λ z. z ++ drop (length b) d) (joined a b first) ∙ joined b d second in
    ap (take (length a)) (sym e) ∙ take-append_seam a (drop (length a) b ++ drop (length b) d)
  where
    joined : (x y : List Mark) → take (length x) y ≡ x → x ++ drop (length x) y ≡ y
    joined x y kept = ap (λ z. z ++ drop (length x) y) (sym kept) ∙ take-append-drop (length x) y

names_on : (a b d : List Named) → take (length a) b ≡ a → take (length b) d ≡ b → take (length a) d ≡ a
names_on a b d first second =
    let e : a ++ (drop (length a) b ++ drop (length b) d) ≡ d =
    sym (append_assoc a (drop (length a) b) (drop (length b) d)) ∙ ap (λ z. z ++ drop (length b) d) (joined a b first) ∙ joined b d second in
    ap (take (length a)) (sym e) ∙ take-append_seam a (drop (length a) b ++ drop (length b) d)
  where
    joined : (x y : List Named) → take (length x) y ≡ x → x ++ drop (length x) y ≡ y
    joined x y kept = ap (λ z. z ++ drop (length x) y) (sym kept) ∙ take-append-drop (length x) y

-- the names and marks of a ground
abbrev with_these : List Named → List Mark → Ground → Ground
with_these names marks g = record g { scope = record g.scope { names = names }; marks = marks }

pub kept_twice : (a b d : Ground) → Kept a b → Kept b d → Kept a d
kept_twice a b d first second =
    record {
      names = names_on a.scope.names b.scope.names d.scope.names first.names second.names;
      marks = marks_on a.marks b.marks d.marks first.marks second.marks;
      rest = second.rest ∙ ap (with_these d.scope.names d.marks) first.rest;
    }

-- going back ends what was declared
pub goes_back : (a b : Ground) → Kept a b → cut_to (length a.scope.names) (length a.marks) b ≡ a
goes_back a b kept =
    ap (cut_to (length a.scope.names) (length a.marks)) kept.rest
    ∙ ap (λ names. record a { scope = record a.scope { names = names }; marks = take (length a.marks) b.marks }) kept.names
    ∙ ap (λ marks. record a { marks = marks }) kept.marks

pub returns_to : (a inner b after : Ground) (names marks : ℕ) → names ≡ length a.scope.names → marks ≡ length a.marks → after ≡ cut_to names marks b → b ≡ inner → Kept a inner → after ≡ a
returns_to a inner b after names marks n m is same kept =
    is ∙ ap (λ (s : Ground). cut_to names marks s) same ∙ ap (λ (k : ℕ). cut_to k marks inner) n ∙ ap (λ (k : ℕ). cut_to (length a.scope.names) k inner) m ∙ goes_back a inner kept

-- leaving a fragment puts back what was there
pub leaves_again : (outside : List Mark) (in_switch : Bool) (before inner : Ground) → Entered outside in_switch before inner → left_as outside in_switch inner ≡ before
leaves_again outside in_switch before inner it =
    ap (left_as outside in_switch) it.entered
    ∙ ap (λ marks. record before { forbidden = record before.forbidden { outside = marks }; in_switch = in_switch }) it.outside_kept
    ∙ ap (λ after. record before { in_switch = after }) it.switch_kept
