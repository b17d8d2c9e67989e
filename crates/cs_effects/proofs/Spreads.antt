-- Marks that spread find exactly what methods do.
use Rattle.std.proofs.Common.{◌≡◌, ◌⊎◌, ◌↔◌, IsTrue, inl, inr, ℕ, zero, suc, ◌+◌, ◌<◌, ◌≤◌, List, [], ◌∷◌, length, map, slice_get, slice_set, Bool, true, false, Some, None, Option, if◌then◌else◌, refl, sym, ap, subst, ◌∙◌, arith}
use Rattle.std.specs.List.{Contains, list_any}
use Rattle.std.proofs.lemmas.Option.{slice_get_within, get_or_from_slice_get, slice_get-get_or}
use Rattle.cs_ast.specs.declared.member.Member.{Member}
use Rattle.cs_ast.specs.declared.member.MemberKind.{MemberKind}
use Rattle.cs_ast.specs.declared.scope.Effect.{Effect}
use Rattle.cs_effects.specs.declared.deed.Deed.{Deed}
use Rattle.cs_effects.specs.declared.deed.Deed.TheVariants.{Changes, Invokes, Runs}
use Rattle.cs_effects.specs.declared.marks.Mark.{Mark}
use Rattle.cs_effects.specs.declared.marks.Mark.TheVariants.{Clear, Waiting, Spread}
use Rattle.cs_effects.specs.Effects.{method_name, does_itself, fields, Does, itself, through, Told, end as told_end, other as told_other, method as told_method}
use Rattle.cs_effects.specs.Spreading.{is_marked, is_waiting, weight, weights, first_mark, touched, touch, spread_by, name_of, spread, with_effect, listed, Aligned, Stands, Found}

-- lists of marks

aligned_touch : (runs : Deed) (ms : List Member) (marks : List Mark) → Aligned ms marks → Aligned ms (touch runs ms marks)
aligned_touch runs [] [] h = tt
aligned_touch runs [] (y ∷ ys) h = absurd h
aligned_touch runs (x ∷ xs) [] h = absurd h
aligned_touch runs (x ∷ xs) (y ∷ ys) h = aligned_touch runs xs ys h

aligned_set : (ms : List Member) (marks : List Mark) (at : ℕ) (mark : Mark) → Aligned ms marks → Aligned ms (slice_set marks at mark)
aligned_set [] [] at mark h = tt
aligned_set [] (y ∷ ys) at mark h = absurd h
aligned_set (x ∷ xs) [] at mark h = absurd h
aligned_set (x ∷ xs) (y ∷ ys) zero mark h = h
aligned_set (x ∷ xs) (y ∷ ys) (suc at) mark h = aligned_set xs ys at mark h

aligned_map : (f : Member → Mark) (ms : List Member) → Aligned ms (map f ms)
aligned_map f [] = tt
aligned_map f (x ∷ xs) = aligned_map f xs

-- where marks come from

record Touched (runs : Deed) (m : Member) (mark : Mark) (ms : List Member) (marks : List Mark) : Type 0 where
  before : Mark
  stands : Stands m before ms marks
  is : mark ≡ touched runs m before

touch_stands : (runs : Deed) (m : Member) (mark : Mark) (ms : List Member) (marks : List Mark) → Stands m mark ms (touch runs ms marks) → Touched runs m mark ms marks
touch_stands runs m mark [] marks h = absurd h
touch_stands runs m mark (x ∷ xs) [] h = absurd h
touch_stands runs m mark (x ∷ xs) (y ∷ ys) (inl h) = record { before = y; stands = inl (h.0, refl); is = h.1 ∙ ap (λ z. touched runs z y) (sym h.0) }
touch_stands runs m mark (x ∷ xs) (y ∷ ys) (inr h) =
    let it = touch_stands runs m mark xs ys h in record { before = it.before; stands = inr it.stands; is = it.is }

-- the mark that is set stands with the member there
record SetThere (m : Member) (mark : Mark) (at : ℕ) (ms : List Member) (marks : List Mark) : Type 0 where
  is : mark ≡ Spread
  before : Stands m Waiting ms marks
  there : slice_get ms at ≡ Some m

set_stands : (m : Member) (mark : Mark) (ms : List Member) (marks : List Mark) (at : ℕ) → slice_get marks at ≡ Some Waiting → Stands m mark ms (slice_set marks at Spread) → Stands m mark ms marks ⊎ SetThere m mark at ms marks
set_stands m mark [] marks at waits h = absurd h
set_stands m mark (x ∷ xs) [] at waits h = absurd h
set_stands m mark (x ∷ xs) (y ∷ ys) zero waits (inl h) =
    let same : Waiting ≡ y = cc in inr (record { is = h.1; before = inl (h.0, same); there = ap Some (sym h.0) })
set_stands m mark (x ∷ xs) (y ∷ ys) zero waits (inr h) = inl (inr h)
set_stands m mark (x ∷ xs) (y ∷ ys) (suc at) waits (inl h) = inl (inl h)
set_stands m mark (x ∷ xs) (y ∷ ys) (suc at) waits (inr h) = elim (set_stands m mark xs ys at waits h) [
  | inl old ↦ inl (inr old)
  | inr new ↦ inr (record { is = new.is; before = inr new.before; there = new.there })
]

-- a member stands somewhere

record Somewhere (m : Member) (ms : List Member) (marks : List Mark) : Type 0 where
  mark : Mark
  stands : Stands m mark ms marks

somewhere_at : (at : ℕ) (m : Member) (ms : List Member) (marks : List Mark) → Aligned ms marks → slice_get ms at ≡ Some m → Somewhere m ms marks
somewhere_at at m [] marks h is = absurd (cc)
somewhere_at at m (x ∷ xs) [] h is = absurd h
somewhere_at zero m (x ∷ xs) (y ∷ ys) h is = let same : m ≡ x = cc in record { mark = y; stands = inl (same, refl) }
somewhere_at (suc at) m (x ∷ xs) (y ∷ ys) h is = let it = somewhere_at at m xs ys h is in record { mark = it.mark; stands = inr it.stands }

somewhere : (m : Member) (ms : List Member) (marks : List Mark) → Aligned ms marks → Contains ms m → Somewhere m ms marks
somewhere m ms marks h is = somewhere_at is.0 m ms marks h (slice_get-get_or ms is.0 m is.1 ∙ ap Some is.2)

contained : (ms : List Member) (at : ℕ) (m : Member) → slice_get ms at ≡ Some m → Contains ms m
contained ms at m is = (at, slice_get_within ms at m is, get_or_from_slice_get ms at m m is)

-- what a touch leaves marked

marked_touched : (runs : Deed) (m : Member) (mark : Mark) → is_marked mark ≡ true → is_marked (touched runs m mark) ≡ true
marked_touched runs m Clear h = absurd (cc)
marked_touched runs m Waiting h = refl
marked_touched runs m Spread h = refl

runs_touched : (runs : Deed) (m : Member) (mark : Mark) → does_itself runs m.kind ≡ true → is_marked (touched runs m mark) ≡ true
runs_touched runs m Clear h = ap (λ b. is_marked (if b then Waiting else Clear)) h
runs_touched runs m Waiting h = refl
runs_touched runs m Spread h = refl

-- a mark after a touch was one before, or the method runs the other
touched_cases : (runs : Deed) (m : Member) (mark : Mark) → is_marked (touched runs m mark) ≡ true → (is_marked mark ≡ true) ⊎ (does_itself runs m.kind ≡ true)
touched_cases runs m Clear h = by_test (does_itself runs m.kind) h
  where
    by_test : (b : Bool) → is_marked (if b then Waiting else Clear) ≡ true → (is_marked Clear ≡ true) ⊎ (b ≡ true)
    by_test true e = inr refl
    by_test false e = inl e
touched_cases runs m Waiting h = inl refl
touched_cases runs m Spread h = inl refl

-- what is spread after a touch was so before
spread_before : (runs : Deed) (m : Member) (mark : Mark) → touched runs m mark ≡ Spread → mark ≡ Spread
spread_before runs m Clear h = by_test (does_itself runs m.kind) h
  where
    by_test : (b : Bool) → (if b then Waiting else Clear) ≡ Spread → Clear ≡ Spread
    by_test true e = absurd (cc)
    by_test false e = e
spread_before runs m Waiting h = h
spread_before runs m Spread h = refl

-- those that run the method of a name are marked
abbrev pub Covered : List ℕ → List Member → List Mark → Type 0
Covered name ms marks = (m : Member) (mark : Mark) → Stands m mark ms marks → does_itself (Runs name) m.kind ≡ true → is_marked mark ≡ true

pub record Spreading (members : List Member) (deed : Deed) (marks : List Mark) : Type 0 where
  pub aligned : Aligned members marks
  pub sound : (m : Member) (mark : Mark) → Stands m mark members marks → is_marked mark ≡ true → Does members deed m.kind
  pub seeded : (m : Member) (mark : Mark) → Stands m mark members marks → does_itself deed m.kind ≡ true → is_marked mark ≡ true
  pub closed : (n : Member) → Stands n Spread members marks → (name : List ℕ) → method_name n.kind ≡ Some name → Covered name members marks

-- one turn

stands_at : (at : ℕ) (m : Member) (mark : Mark) (ms : List Member) (marks : List Mark) → slice_get ms at ≡ Some m → slice_get marks at ≡ Some mark → Stands m mark ms marks
stands_at at m mark [] marks a b = absurd (cc)
stands_at at m mark (x ∷ xs) [] a b = absurd (cc)
stands_at zero m mark (x ∷ xs) (y ∷ ys) a b =
    let one : m ≡ x = cc in
    let other : mark ≡ y = cc in
    inl (one, other)
stands_at (suc at) m mark (x ∷ xs) (y ∷ ys) a b = inr (stands_at at m mark xs ys a b)

module _ (members : List Member) (deed : Deed) (marks : List Mark) (at : ℕ) (so_far : Spreading members deed marks) (waits : slice_get marks at ≡ Some Waiting) where
  abbrev after : List Mark
  after = slice_set marks at Spread

  sound_after : (m : Member) (mark : Mark) → Stands m mark members after → is_marked mark ≡ true → Does members deed m.kind
  sound_after m mark h is = elim (set_stands m mark members marks at waits h) [
    | inl old ↦ so_far.sound m mark old is
    | inr new ↦ so_far.sound m Waiting new.before refl
  ]

  seeded_after : (m : Member) (mark : Mark) → Stands m mark members after → does_itself deed m.kind ≡ true → is_marked mark ≡ true
  seeded_after m mark h does = elim (set_stands m mark members marks at waits h) [
    | inl old ↦ so_far.seeded m mark old does
    | inr new ↦ ap is_marked new.is
  ]

  covered_after : (name : List ℕ) → Covered name members marks → Covered name members after
  covered_after name all m mark h runs = elim (set_stands m mark members marks at waits h) [
    | inl old ↦ all m mark old runs
    | inr new ↦ ap is_marked new.is
  ]

  -- what is spread now was so before, or is the one that waited
  spread_after : (n : Member) → Stands n Spread members after → Stands n Spread members marks ⊎ (slice_get members at ≡ Some n)
  spread_after n h = elim (set_stands n Spread members marks at waits h) [
    | inl old ↦ inl old
    | inr new ↦ inr new.there
  ]

  quiet : name_of (slice_get members at) ≡ None → Spreading members deed after
  quiet none = record {
    aligned = aligned_set members marks at Spread so_far.aligned;
    sound = sound_after;
    seeded = seeded_after;
    closed = λ n h name named. elim (spread_after n h) [
      | inl old ↦ covered_after name (so_far.closed n old name named)
      | inr there ↦
          let e : method_name n.kind ≡ None = sym (ap name_of there) ∙ none in
          absurd (cc)
    ];
  }

  module _ (n : Member) (name : List ℕ) (there : slice_get members at ≡ Some n) (named : method_name n.kind ≡ Some name) where
    does : Does members deed n.kind
    does = so_far.sound n Waiting (stands_at at n Waiting members marks there waits) refl

    covered_touched : (other : List ℕ) → Covered other members after → Covered other members (touch (Runs name) members after)
    covered_touched other all m mark h runs =
        let it = touch_stands (Runs name) m mark members after h in
        ap is_marked it.is ∙ marked_touched (Runs name) m it.before (all m it.before it.stands runs)

    covered_name : Covered name members (touch (Runs name) members after)
    covered_name m mark h runs =
        let it = touch_stands (Runs name) m mark members after h in
        ap is_marked it.is ∙ runs_touched (Runs name) m it.before runs

    sound_touched : (m : Member) (mark : Mark) → Stands m mark members (touch (Runs name) members after) → is_marked mark ≡ true → Does members deed m.kind
    sound_touched m mark h is =
        let it = touch_stands (Runs name) m mark members after h in
        elim (touched_cases (Runs name) m it.before (sym (ap is_marked it.is) ∙ is)) [
          | inl old ↦ sound_after m it.before it.stands old
          | inr runs ↦ through m.kind n name (contained members at n there) named runs does
        ]

    loud : Spreading members deed (touch (Runs name) members after)
    loud = record {
      aligned = aligned_touch (Runs name) members after (aligned_set members marks at Spread so_far.aligned);
      sound = sound_touched;
      seeded = λ m mark h itself_does.
          let it = touch_stands (Runs name) m mark members after h in
          ap is_marked it.is ∙ marked_touched (Runs name) m it.before (seeded_after m it.before it.stands itself_does);
      closed = λ one h other known.
          let it = touch_stands (Runs name) one Spread members after h in
          let was : Stands one Spread members after =
          subst (λ z. Stands one z members after) (spread_before (Runs name) one it.before (sym it.is)) it.stands in
          elim (spread_after one was) [
            | inl old ↦ covered_touched other (covered_after other (so_far.closed one old other known))
            | inr here ↦
                let e : method_name one.kind ≡ method_name n.kind = sym (ap name_of here) ∙ ap name_of there in
                let same : name ≡ other = cc in
                subst (λ z. Covered z members (touch (Runs name) members after)) same covered_name
          ];
    }

  turn_at : (found : Option Member) → slice_get members at ≡ found → (o : Option (List ℕ)) → name_of found ≡ o → Spreading members deed (spread_by o members after)
  turn_at None there None is = quiet (ap name_of there)
  turn_at None there (Some name) is = absurd (cc)
  turn_at (Some n) there None is = quiet (ap name_of there ∙ is)
  turn_at (Some n) there (Some name) is = loud n name there is

  pub turn : Spreading members deed (spread members marks at)
  unfolding spread
  turn = turn_at (slice_get members at) refl (name_of (slice_get members at)) refl

-- the beginning

first_stands : (deed : Deed) (m : Member) (mark : Mark) (ms : List Member) → Stands m mark ms (map (first_mark deed) ms) → mark ≡ first_mark deed m
first_stands deed m mark [] h = absurd h
first_stands deed m mark (x ∷ xs) (inl h) = h.1 ∙ ap (first_mark deed) (sym h.0)
first_stands deed m mark (x ∷ xs) (inr h) = first_stands deed m mark xs h

seen : (b : Bool) (mark : Mark) → mark ≡ (if b then Waiting else Clear) → is_marked mark ≡ b
seen true mark is = ap is_marked is
seen false mark is = ap is_marked is

not_spread : (b : Bool) → Spread ≡ (if b then Waiting else Clear) → ⊥
not_spread true is = absurd (cc)
not_spread false is = absurd (cc)

pub begins : (members : List Member) (deed : Deed) → Spreading members deed (map (first_mark deed) members)
begins members deed = record {
  aligned = aligned_map (first_mark deed) members;
  sound = λ m mark h is. itself m.kind (sym (seen (does_itself deed m.kind) mark (first_stands deed m mark members h)) ∙ is);
  seeded = λ m mark h does. seen (does_itself deed m.kind) mark (first_stands deed m mark members h) ∙ does;
  closed = λ n h name named. absurd (not_spread (does_itself deed n.kind) (first_stands deed n Spread members h));
}

-- the end

none_waits : (m : Member) (mark : Mark) (ms : List Member) (marks : List Mark) → list_any is_waiting marks ≡ false → Stands m mark ms marks → is_waiting mark ≡ false
none_waits m mark [] marks none h = absurd h
none_waits m mark (x ∷ xs) [] none h = absurd h
none_waits m mark (x ∷ xs) (Waiting ∷ ys) none h = absurd (cc)
none_waits m mark (x ∷ xs) (Clear ∷ ys) none (inl h) = ap is_waiting h.1
none_waits m mark (x ∷ xs) (Clear ∷ ys) none (inr h) = none_waits m mark xs ys none h
none_waits m mark (x ∷ xs) (Spread ∷ ys) none (inl h) = ap is_waiting h.1
none_waits m mark (x ∷ xs) (Spread ∷ ys) none (inr h) = none_waits m mark xs ys none h

all_spread : (mark : Mark) → is_waiting mark ≡ false → is_marked mark ≡ true → mark ≡ Spread
all_spread Clear waits is = absurd (cc)
all_spread Waiting waits is = absurd (cc)
all_spread Spread waits is = refl

module _ (members : List Member) (deed : Deed) (marks : List Mark) (all : Spreading members deed marks) (none : list_any is_waiting marks ≡ false) where
  complete : (kind : MemberKind) → Does members deed kind → (m : Member) (mark : Mark) → Stands m mark members marks → m.kind ≡ kind → is_marked mark ≡ true
  complete _ (itself kind does) m mark h is = all.seeded m mark h (ap (does_itself deed) is ∙ does)
  complete _ (through kind n name inside named runs does) m mark h is =
      let it = somewhere n members marks all.aligned inside in
      let marked = complete n.kind does n it.mark it.stands refl in
      let spreads = all_spread it.mark (none_waits n it.mark members marks none it.stands) marked in
      all.closed n (subst (λ z. Stands n z members marks) spreads it.stands) name named m mark h (ap (does_itself (Runs name)) is ∙ runs)

  pub ends : Found members deed marks
  ends = record { aligned = all.aligned; exact = λ m mark h. (all.sound m mark h, λ does. complete m.kind does m mark h refl) }

-- each turn makes the marks weigh less

weight_touched : (runs : Deed) (m : Member) (mark : Mark) → weight (touched runs m mark) ≤ weight mark
weight_touched runs m Clear = by_test (does_itself runs m.kind)
  where
    by_test : (b : Bool) → weight (if b then Waiting else Clear) ≤ 2
    by_test true = omega arith
    by_test false = omega arith
weight_touched runs m Waiting = omega arith
weight_touched runs m Spread = omega arith

weights_touch : (runs : Deed) (ms : List Member) (marks : List Mark) → weights (touch runs ms marks) ≤ weights marks
weights_touch runs [] marks = omega arith
weights_touch runs (x ∷ xs) [] = omega arith
weights_touch runs (x ∷ xs) (y ∷ ys) = omega (arith, weight_touched runs x y, weights_touch runs xs ys)

weights_set : (marks : List Mark) (at : ℕ) → slice_get marks at ≡ Some Waiting → weights (slice_set marks at Spread) + 1 ≡ weights marks
weights_set [] at is = absurd (cc)
weights_set (y ∷ ys) zero is = let same : y ≡ Waiting = cc in let e = ap weight same in omega arith
weights_set (y ∷ ys) (suc at) is = omega (arith, weights_set ys at is)

weights_by : (o : Option (List ℕ)) (members : List Member) (marks : List Mark) → weights (spread_by o members marks) ≤ weights marks
weights_by None members marks = omega arith
weights_by (Some name) members marks = weights_touch (Runs name) members marks

pub lighter : (members : List Member) (marks : List Mark) (at : ℕ) → slice_get marks at ≡ Some Waiting → weights (spread members marks at) < weights marks
unfolding spread
lighter members marks at is = omega (arith, weights_set marks at is, weights_by (name_of (slice_get members at)) members (slice_set marks at Spread))

-- the effects

module _ (members : List Member) where
  abbrev Exact : Deed → List Member → List Mark → Type 0
  Exact deed ms marks = (m : Member) (mark : Mark) → Stands m mark ms marks → IsTrue (is_marked mark) ↔ Does members deed m.kind

  told_one : (x : Member) (xs : List Member) (change invoke : Mark) (rest : List Effect) (o : Option (List ℕ)) → method_name x.kind ≡ o
      → IsTrue (is_marked change) ↔ Does members (Changes (fields members)) x.kind → IsTrue (is_marked invoke) ↔ Does members Invokes x.kind
      → Told members xs rest → Told members (x ∷ xs) (with_effect o change invoke rest)
  told_one x xs change invoke rest None is a b h = told_other x xs rest is h
  told_one x xs change invoke rest (Some name) is a b h =
      told_method x xs (record { method = name; changes = is_marked change; invokes = is_marked invoke }) rest is a b h

  told_all : (ms : List Member) (changes invokes : List Mark) → Aligned ms changes → Aligned ms invokes
      → Exact (Changes (fields members)) ms changes → Exact Invokes ms invokes → Told members ms (listed ms changes invokes)
  told_all [] changes invokes a b c d = told_end
  told_all (x ∷ xs) [] invokes a b c d = absurd a
  told_all (x ∷ xs) (y ∷ ys) [] a b c d = absurd b
  told_all (x ∷ xs) (y ∷ ys) (z ∷ zs) a b c d =
      told_one x xs y z (listed xs ys zs) (method_name x.kind) refl (c x y (inl (refl, refl))) (d x z (inl (refl, refl)))
      (told_all xs ys zs a b (λ m mark h. c m mark (inr h)) (λ m mark h. d m mark (inr h)))

  pub tells : (changes invokes : List Mark) → Found members (Changes (fields members)) changes → Found members Invokes invokes → Told members members (listed members changes invokes)
  tells changes invokes c d = told_all members changes invokes c.aligned d.aligned c.exact d.exact
