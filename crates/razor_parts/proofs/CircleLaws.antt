-- Marks that go from records to those that their parts hold find the records that contain themselves.
use Rattle.std.proofs.Common.{◌≡◌, ◌⊎◌, inl, inr, ℕ, zero, suc, ◌+◌, ◌<◌, ◌≤◌, List, [], ◌∷◌, ◌++◌, length, map, slice_get, slice_set, Bool, true, false, Some, None, Option, refl, sym, ap, subst, ◌∙◌, arith}
use Rattle.std.specs.Prelude.{◌||◌, if◌then◌else◌, bytes_eq}
use Rattle.std.specs.List.{list_any}
use Rattle.std.proofs.lemmas.Bool.{cases_Bool, or_cases, or_left, or_right}
use Rattle.std.proofs.lemmas.Slice.Eq.{bytes_eq-Decides}
use Rattle.cs_ast.specs.declared.member.Argument.{Argument}
use Rattle.cs_ast.specs.declared.member.Member.{Member}
use Rattle.cs_ast.specs.declared.member.MemberKind.{MemberKind}
use Rattle.cs_ast.specs.declared.member.MemberKind.TheVariants.{Field, Parameter, Method, Getter, RecordDef}
use Rattle.cs_rules.specs.Written.{type_of, Declared, found_or, record_from, record_named}
use Rattle.cs_rules.specs.Written.{parts_of as parts_named}
use Rattle.razor_rules.specs.Members.{name_of}
use Rattle.razor_rules.specs.Names.{is_among}
use Rattle.razor_rules.specs.Records.{held_record, is_named, parts_declared, has_part, Holds, itself, through}
use Rattle.razor_parts.specs.declared.circles.Mark.{Mark}
use Rattle.razor_parts.specs.declared.circles.Mark.TheVariants.{Clear, Waiting, Passed}
use Rattle.razor_parts.specs.Circles.{is_waiting, weight, weights, marked_if, marked_at, marked_found, marked, marked_by, marked_all, holds_one, parts_of, parts_at, AreCircular}

-- tests

same_text : (x y : List ℕ) → bytes_eq x y ≡ true → x ≡ y
same_text x y h = grind (arith, bytes_eq-Decides x y)

own_text : (x : List ℕ) → bytes_eq x x ≡ true
own_text x = grind (arith, bytes_eq-Decides x x)

-- marks

abbrev pub is_marked : Option Mark → Bool
is_marked None = false
is_marked (Some Clear) = false
is_marked (Some Waiting) = true
is_marked (Some Passed) = true

set_marked : (marks : List Mark) (at k : ℕ) (mark : Mark) → is_marked (Some mark) ≡ true → is_marked (slice_get marks k) ≡ true → is_marked (slice_get (slice_set marks at mark) k) ≡ true
set_marked [] at k mark m h = absurd (cc)
set_marked (y ∷ ys) zero zero mark m h = m
set_marked (y ∷ ys) zero (suc k) mark m h = h
set_marked (y ∷ ys) (suc at) zero mark m h = h
set_marked (y ∷ ys) (suc at) (suc k) mark m h = set_marked ys at k mark m h

marked_before : (marks : List Mark) (at k : ℕ) (mark : Mark) → is_marked (slice_get (slice_set marks at mark) k) ≡ true → (k ≡ at) ⊎ (is_marked (slice_get marks k) ≡ true)
marked_before [] at k mark h = absurd (cc)
marked_before (y ∷ ys) zero zero mark h = inl refl
marked_before (y ∷ ys) zero (suc k) mark h = inr h
marked_before (y ∷ ys) (suc at) zero mark h = inr h
marked_before (y ∷ ys) (suc at) (suc k) mark h = elim (marked_before ys at k mark h) [ inl e ↦ inl (ap suc e) | inr e ↦ inr e ]

passed_before : (marks : List Mark) (at k : ℕ) (mark : Mark) → slice_get (slice_set marks at mark) k ≡ Some Passed → ((k ≡ at) × (mark ≡ Passed)) ⊎ (slice_get marks k ≡ Some Passed)
passed_before [] at k mark h = absurd (cc)
passed_before (y ∷ ys) zero zero mark h = let e : mark ≡ Passed = cc in inl (refl, e)
passed_before (y ∷ ys) zero (suc k) mark h = inr h
passed_before (y ∷ ys) (suc at) zero mark h = inr h
passed_before (y ∷ ys) (suc at) (suc k) mark h = elim (passed_before ys at k mark h) [ inl e ↦ inl (ap suc e.0, e.1) | inr e ↦ inr e ]

set_there : (marks : List Mark) (at : ℕ) (old mark : Mark) → slice_get marks at ≡ Some old → slice_get (slice_set marks at mark) at ≡ Some mark
set_there [] at old mark h = absurd (cc)
set_there (y ∷ ys) zero old mark h = refl
set_there (y ∷ ys) (suc at) old mark h = set_there ys at old mark h

pub length_set : (marks : List Mark) (at : ℕ) (mark : Mark) → length (slice_set marks at mark) ≡ length marks
length_set [] at mark = refl
length_set (y ∷ ys) zero mark = refl
length_set (y ∷ ys) (suc at) mark = ap suc (length_set ys at mark)

there_is : (marks : List Mark) (k : ℕ) → k < length marks → (mark : Mark) × (slice_get marks k ≡ Some mark)
there_is [] k h = absurd (omega arith)
there_is (y ∷ ys) zero h = (y, refl)
there_is (y ∷ ys) (suc k) h = there_is ys k (omega arith)

none_waits : (marks : List Mark) (k : ℕ) (mark : Mark) → list_any is_waiting marks ≡ false → slice_get marks k ≡ Some mark → is_waiting mark ≡ false
none_waits [] k mark none h = absurd (cc)
none_waits (Waiting ∷ ys) k mark none h = absurd (cc)
none_waits (Clear ∷ ys) zero mark none h = let e : Clear ≡ mark = cc in ap is_waiting (sym e)
none_waits (Passed ∷ ys) zero mark none h = let e : Passed ≡ mark = cc in ap is_waiting (sym e)
none_waits (Clear ∷ ys) (suc k) mark none h = none_waits ys k mark none h
none_waits (Passed ∷ ys) (suc k) mark none h = none_waits ys k mark none h

all_passed : (mark : Mark) → is_waiting mark ≡ false → is_marked (Some mark) ≡ true → mark ≡ Passed
all_passed Clear w m = absurd (cc)
all_passed Waiting w m = absurd (cc)
all_passed Passed w m = refl

-- the weight of marks

weights_set : (marks : List Mark) (at : ℕ) → slice_get marks at ≡ Some Waiting → weights (slice_set marks at Passed) + 1 ≡ weights marks
weights_set [] at is = absurd (cc)
weights_set (y ∷ ys) zero is = let same : y ≡ Waiting = cc in let e = ap weight same in omega arith
weights_set (y ∷ ys) (suc at) is = omega (arith, weights_set ys at is)

weights_wait : (marks : List Mark) (at : ℕ) → slice_get marks at ≡ Some Clear → weights (slice_set marks at Waiting) ≤ weights marks
weights_wait [] at is = absurd (cc)
weights_wait (y ∷ ys) zero is = let same : y ≡ Clear = cc in let e = ap weight same in omega arith
weights_wait (y ∷ ys) (suc at) is = omega (arith, weights_wait ys at is)

-- what marking a record does to marks
record Spreads (old new : List Mark) : Type 0 where
  long : length new ≡ length old
  light : weights new ≤ weights old
  kept : (k : ℕ) → is_marked (slice_get old k) ≡ true → is_marked (slice_get new k) ≡ true
  passed : (k : ℕ) → slice_get new k ≡ Some Passed → slice_get old k ≡ Some Passed

still : (marks : List Mark) → Spreads marks marks
still marks = record { long = refl; light = omega arith; kept = λ k h. h; passed = λ k h. h }

then_on : (a b c : List Mark) → Spreads a b → Spreads b c → Spreads a c
then_on a b c x y = record {
  long = y.long ∙ x.long;
  light = omega (arith, x.light, y.light);
  kept = λ k h. y.kept k (x.kept k h);
  passed = λ k h. x.passed k (y.passed k h);
}

waits_there : (marks : List Mark) (at : ℕ) → slice_get marks at ≡ Some Clear → Spreads marks (slice_set marks at Waiting)
waits_there marks at is = record {
  long = length_set marks at Waiting;
  light = weights_wait marks at is;
  kept = λ k h. set_marked marks at k Waiting refl h;
  passed = λ k h. elim (passed_before marks at k Waiting h) [ inl e ↦ absurd (let differs : Waiting ≡ Passed = e.1 in cc) | inr e ↦ e ];
}

-- what is marked at a place
record MarkedAt (old new : List Mark) (at : ℕ) : Type 0 where
  spreads : Spreads old new
  there : at < length old → is_marked (slice_get new at) ≡ true
  else_old : (k : ℕ) → is_marked (slice_get new k) ≡ true → (k ≡ at) ⊎ (is_marked (slice_get old k) ≡ true)

if_marked : (o : Option Mark) (marks : List Mark) (at : ℕ) → slice_get marks at ≡ o → MarkedAt marks (marked_if o marks at) at
if_marked None marks at is = record {
  spreads = still marks;
  there = λ h. absurd (let it = there_is marks at h in let differs : Some it.0 ≡ None = sym it.1 ∙ is in cc);
  else_old = λ k h. inr h;
}
if_marked (Some Clear) marks at is = record {
  spreads = waits_there marks at is;
  there = λ h. ap is_marked (set_there marks at Clear Waiting is);
  else_old = λ k h. marked_before marks at k Waiting h;
}
if_marked (Some Waiting) marks at is = record { spreads = still marks; there = λ h. ap is_marked is; else_old = λ k h. inr h }
if_marked (Some Passed) marks at is = record { spreads = still marks; there = λ h. ap is_marked is; else_old = λ k h. inr h }

at_marked : (marks : List Mark) (at : ℕ) → MarkedAt marks (marked_at marks at) at
at_marked marks at = if_marked (slice_get marks at) marks at refl

-- records by name

record FoundAt (records : List Member) (start : ℕ) (found : Declared) : Type 0 where
  at : ℕ
  number : found.number ≡ start + at
  within : at < length records
  parts : parts_at (slice_get records at) ≡ found.parts

first_found : (kind : MemberKind) (name : List ℕ) (parts : List Argument) → parts_named name kind ≡ Some parts → parts_of kind ≡ parts
first_found (RecordDef other own) name parts is = elim (cases_Bool (bytes_eq other.name name)) [
  | inl e ↦ let h : Some own ≡ Some parts = sym (ap (λ b. if b then Some own else None) e) ∙ is in cc
  | inr e ↦ absurd (let h : None ≡ Some parts = sym (ap (λ b. if b then Some own else None) e) ∙ is in cc)
]
first_found (Field t n i) name parts is = absurd (cc)
first_found (Parameter c s t n i) name parts is = absurd (cc)
first_found (Method r n a b) name parts is = absurd (cc)
first_found (Getter r n v) name parts is = absurd (cc)

found_one : (one : Member) (others : List Member) (name : List ℕ) (start : ℕ) (found : Declared) (o : Option (List Argument)) → parts_named name one.kind ≡ o →
    (record_from (start + 1) name others ≡ Some found → FoundAt others (start + 1) found) →
    found_or start o (record_from (start + 1) name others) ≡ Some found → FoundAt (one ∷ others) start found
found_one one others name start found (Some parts) has further is =
    let first : Declared = record { number = start; parts = parts } in
    let e : first ≡ found = cc in
    record {
      at = 0;
      number = sym (ap (λ (d : Declared). d.number) e) ∙ omega arith;
      within = omega arith;
      parts = first_found one.kind name parts has ∙ ap (λ (d : Declared). d.parts) e;
    }
found_one one others name start found None has further is =
    let it = further is in
    record {
      at = suc it.at;
      number = let e = it.number in omega arith;
      within = let e = it.within in omega arith;
      parts = it.parts;
    }

found_here : (records : List Member) (name : List ℕ) (start : ℕ) (found : Declared) → record_from start name records ≡ Some found → FoundAt records start found
found_here [] name start found is = absurd (cc)
found_here (one ∷ others) name start found is = found_one one others name start found (parts_named name one.kind) refl (found_here others name (start + 1) found) is

record Stands (records : List Member) (found : Declared) : Type 0 where
  within : found.number < length records
  parts : parts_at (slice_get records found.number) ≡ found.parts

stands : (records : List Member) (name : List ℕ) (found : Declared) → record_named records name ≡ Some found → Stands records found
unfolding record_named
stands records name found is =
    let it = found_here records name 0 found is in
    let e : it.at ≡ found.number = let h = it.number in omega arith in
    record {
      within = subst (λ n. n < length records) e it.within;
      parts = subst (λ n. parts_at (slice_get records n) ≡ found.parts) e it.parts;
    }

-- a record that has a part that holds another is declared
record Declares (records : List Member) (other name : List ℕ) : Type 0 where
  found : Declared
  is : record_named records name ≡ Some found
  holds : holds_one other found.parts ≡ true

declares_as : (records : List Member) (other name : List ℕ) (o : Option Declared) → record_named records name ≡ o → holds_one other (parts_declared o) ≡ true → Declares records other name
declares_as records other name None is h = absurd (cc)
declares_as records other name (Some found) is h = record { found = found; is = is; holds = h }

declares : (records : List Member) (other name : List ℕ) → has_part records other name ≡ true → Declares records other name
unfolding has_part
declares records other name h = declares_as records other name (record_named records name) refl h

has_by : (records : List Member) (other name : List ℕ) (found : Declared) → record_named records name ≡ Some found → holds_one other found.parts ≡ true → has_part records other name ≡ true
unfolding has_part
has_by records other name found is h = ap (λ o. holds_one other (parts_declared o)) is ∙ h

module _ (records : List Member) where
  -- the record of a name, if there is one, is marked
  abbrev pub Reached : List Mark → List ℕ → Type 0
  Reached marks name = (found : Declared) → record_named records name ≡ Some found → is_marked (slice_get marks found.number) ≡ true

  -- all that the record of this name contains, the record of the first one contains
  abbrev pub Within : List ℕ → List ℕ → Type 0
  Within first name = (other : List ℕ) → Holds records other name → Holds records other first

  -- a record that the record of the first name contains, or that itself
  pub record Known (first : List ℕ) (at : ℕ) : Type 0 where
    pub name : List ℕ
    pub found : Declared
    pub is : record_named records name ≡ Some found
    pub number : found.number ≡ at
    pub within : Within first name

  abbrev pub Sound : List ℕ → List Mark → Type 0
  Sound first marks = (k : ℕ) → is_marked (slice_get marks k) ≡ true → Known first k

  -- the parts of a record that is passed don't hold the first one, and the records that they hold are marked
  pub record Behind (first : List ℕ) (marks : List Mark) (parts : List Argument) : Type 0 where
    pub other : holds_one first parts ≡ false
    pub reached : (name : List ℕ) → holds_one name parts ≡ true → Reached marks name

  pub record Marking (first : List ℕ) (marks : List Mark) : Type 0 where
    pub aligned : length marks ≡ length records
    pub begun : Reached marks first
    pub sound : Sound first marks
    pub passed : (k : ℕ) → slice_get marks k ≡ Some Passed → Behind first marks (parts_at (slice_get records k))

  -- what is known of marks once the record of a name is marked
  record Named (old new : List Mark) (name : List ℕ) : Type 0 where
    spreads : Spreads old new
    there : length old ≡ length records → Reached new name
    sound : (first : List ℕ) → Within first name → Sound first old → Sound first new

  named_found : (o : Option Declared) (marks : List Mark) (name : List ℕ) → record_named records name ≡ o → Named marks (marked_found o marks) name
  named_found None marks name is = record {
    spreads = still marks;
    there = λ long found e. absurd (let differs : None ≡ Some found = sym is ∙ e in cc);
    sound = λ first inside old. old;
  }
  named_found (Some found) marks name is =
      let it = at_marked marks found.number in
      let where_it_is = stands records name found is in
      record {
        spreads = it.spreads;
        there = λ long other e.
            let same : found ≡ other = (let h : Some found ≡ Some other = sym is ∙ e in cc) in
            subst (λ (d : Declared). is_marked (slice_get (marked_at marks found.number) d.number) ≡ true) same
            (it.there (let within = where_it_is.within in omega arith));
        sound = λ first inside old k h. elim (it.else_old k h) [
          | inl e ↦ record { name = name; found = found; is = is; number = sym e; within = inside }
          | inr e ↦ old k e
        ];
      }

  named : (marks : List Mark) (name : List ℕ) → Named marks (marked records name marks) name
  unfolding marked
  named marks name = named_found (record_named records name) marks name refl

  by_spreads : (o : Option (List ℕ)) (marks : List Mark) → Spreads marks (marked_by records o marks)
  by_spreads None marks = still marks
  by_spreads (Some name) marks = (named marks name).spreads

  all_spread : (parts : List Argument) (marks : List Mark) → Spreads marks (marked_all records parts marks)
  all_spread [] marks = still marks
  all_spread (part ∷ parts) marks =
      then_on marks (marked_by records (held_record (type_of part.cs_type)) marks) (marked_all records (part ∷ parts) marks)
      (by_spreads (held_record (type_of part.cs_type)) marks)
      (all_spread parts (marked_by records (held_record (type_of part.cs_type)) marks))

  reached_on : (old new : List Mark) → Spreads old new → (name : List ℕ) → Reached old name → Reached new name
  reached_on old new on name h found is = on.kept found.number (h found is)

  -- the record that a part holds is reached

  by_reaches : (o : Option (List ℕ)) (marks : List Mark) (name : List ℕ) → length marks ≡ length records → is_named name o ≡ true → Reached (marked_by records o marks) name
  by_reaches None marks name long h = absurd (cc)
  by_reaches (Some held) marks name long h =
      subst (λ n. Reached (marked records held marks) n) (same_text held name h) ((named marks held).there long)

  all_reach : (parts : List Argument) (marks : List Mark) (name : List ℕ) → length marks ≡ length records → holds_one name parts ≡ true → Reached (marked_all records parts marks) name
  all_reach [] marks name long h = absurd (cc)
  all_reach (part ∷ parts) marks name long h =
      let held = held_record (type_of part.cs_type) in
      let next = marked_by records held marks in
      elim (or_cases (is_named name held) (holds_one name parts) h) [
        | inl e ↦ reached_on next (marked_all records parts next) (all_spread parts next) name (by_reaches held marks name long e)
        | inr e ↦ all_reach parts next name ((by_spreads held marks).long ∙ long) e
      ]

  -- what is marked is contained

  by_sound : (o : Option (List ℕ)) (marks : List Mark) (first : List ℕ) → ((name : List ℕ) → is_named name o ≡ true → Within first name) → Sound first marks → Sound first (marked_by records o marks)
  by_sound None marks first inside old = old
  by_sound (Some held) marks first inside old = (named marks held).sound first (inside held (own_text held)) old

  all_sound : (parts : List Argument) (marks : List Mark) (first : List ℕ) → ((name : List ℕ) → holds_one name parts ≡ true → Within first name) → Sound first marks → Sound first (marked_all records parts marks)
  all_sound [] marks first inside old = old
  all_sound (part ∷ parts) marks first inside old =
      let held = held_record (type_of part.cs_type) in
      all_sound parts (marked_by records held marks) first (λ name h. inside name (or_right (is_named name held) (holds_one name parts) h))
      (by_sound held marks first (λ name h. inside name (or_left (is_named name held) (holds_one name parts) h)) old)

  -- one turn

  module _ (first : List ℕ) (marks : List Mark) (at : ℕ) (so_far : Marking first marks) (waits : slice_get marks at ≡ Some Waiting) where
    abbrev here : List Argument
    here = parts_at (slice_get records at)

    abbrev after : List Mark
    after = slice_set marks at Passed

    abbrev next : List Mark
    next = marked_all records here after

    known : Known first at
    known = so_far.sound at (ap is_marked waits)

    -- the parts there are those of the record that is known
    own_parts : here ≡ known.found.parts
    own_parts =
        subst (λ n. parts_at (slice_get records n) ≡ known.found.parts) known.number (stands records known.name known.found known.is).parts

    has : (name : List ℕ) → holds_one name here ≡ true → has_part records name known.name ≡ true
    has name h = has_by records name known.name known.found known.is (ap (λ parts. holds_one name parts) (sym own_parts) ∙ h)

    -- a part that holds the first one closes a circle
    pub closes : holds_one first here ≡ true → Holds records first first
    closes h = known.within first (itself known.name (has first h))

    inside : (name : List ℕ) → holds_one name here ≡ true → Within first name
    inside name h other holds = known.within other (through known.name name (has name h) holds)

    long : length after ≡ length records
    long = length_set marks at Passed ∙ so_far.aligned

    sound_after : Sound first after
    sound_after k h = elim (marked_before marks at k Passed h) [
      | inl e ↦ so_far.sound k (ap (λ n. is_marked (slice_get marks n)) e ∙ ap is_marked waits)
      | inr e ↦ so_far.sound k e
    ]

    on : Spreads after next
    on = all_spread here after

    reached_next : (name : List ℕ) → Reached marks name → Reached next name
    reached_next name h found is = on.kept found.number (set_marked marks at found.number Passed refl (h found is))

    passed_next : holds_one first here ≡ false → (k : ℕ) → slice_get next k ≡ Some Passed → Behind first next (parts_at (slice_get records k))
    passed_next off k h = elim (passed_before marks at k Passed (on.passed k h)) [
      | inl e ↦
          subst (λ n. Behind first next (parts_at (slice_get records n))) (sym e.0)
          (record { other = off; reached = λ name holds. all_reach here after name long holds })
      | inr e ↦
          let was = so_far.passed k e in
          record { other = was.other; reached = λ name holds. reached_next name (was.reached name holds) }
    ]

    pub turn : holds_one first here ≡ false → Marking first next
    turn off = record {
      aligned = on.long ∙ long;
      begun = reached_next first so_far.begun;
      sound = all_sound here after first inside sound_after;
      passed = passed_next off;
    }

    pub lighter : weights next < weights marks
    lighter = let e = weights_set marks at waits in let f = on.light in omega arith

  -- the beginning

  clear_at : (rs : List Member) (k : ℕ) → is_marked (slice_get (map (λ (one : Member). Clear) rs) k) ≡ false
  clear_at [] k = refl
  clear_at (x ∷ xs) zero = refl
  clear_at (x ∷ xs) (suc k) = clear_at xs k

  clear_long : (rs : List Member) → length (map (λ (one : Member). Clear) rs) ≡ length rs
  clear_long [] = refl
  clear_long (x ∷ xs) = ap suc (clear_long xs)

  pub begins : (first : List ℕ) → Marking first (marked records first (map (λ (one : Member). Clear) records))
  begins first =
      let none = map (λ (one : Member). Clear) records in
      let it = named none first in
      record {
        aligned = it.spreads.long ∙ clear_long records;
        begun = it.there (clear_long records);
        sound = it.sound first (λ other h. h) (λ k h. absurd (let e = clear_at records k in cc));
        passed = λ k h.
            let was : slice_get none k ≡ Some Passed = it.spreads.passed k h in
            let e : is_marked (slice_get none k) ≡ true = ap is_marked was in
            absurd (let f = clear_at records k in cc);
      }

  -- the end

  module _ (first : List ℕ) (marks : List Mark) (all : Marking first marks) (none : list_any is_waiting marks ≡ false) where
    passed_there : (name : List ℕ) (found : Declared) → record_named records name ≡ Some found → Reached marks name → Behind first marks found.parts
    passed_there name found is reached =
        let it = stands records name found is in
        let one = there_is marks found.number (let e = all.aligned in let h = it.within in omega arith) in
        let is_passed = all_passed one.0 (none_waits marks found.number one.0 none one.1) (ap is_marked (sym one.1) ∙ reached found is) in
        subst (λ parts. Behind first marks parts) it.parts (all.passed found.number (one.1 ∙ ap Some is_passed))

    never : (name : List ℕ) → Holds records first name → Reached marks name → ⊥
    never _ (itself name has) reached =
        let it = declares records first name has in
        let is = (passed_there name it.found it.is reached).other in
        let e = it.holds in
        cc
    never _ (through name part has inner) reached =
        let it = declares records part name has in
        never part inner ((passed_there name it.found it.is reached).reached part it.holds)

    pub ends : Holds records first first → ⊥
    ends h = never first h all.begun

  -- names of records

  abbrev pub name_in : Member → List ℕ
  name_in one = (name_of one.kind).name

  one_among : (name : List ℕ) (one : Member) (others : List Member) (start : ℕ) (found : Declared) (kind : MemberKind) → one.kind ≡ kind →
      (record_from (start + 1) name others ≡ Some found → is_among name (map name_in others) ≡ true) →
      found_or start (parts_named name kind) (record_from (start + 1) name others) ≡ Some found → (bytes_eq name (name_of kind).name || is_among name (map name_in others)) ≡ true
  unfolding name_of
  one_among name one others start found (RecordDef other parts) e further is = elim (cases_Bool (bytes_eq other.name name)) [
    | inl h ↦
        or_left (bytes_eq name other.name) (is_among name (map name_in others)) (subst (λ n. bytes_eq name n ≡ true) (sym (same_text other.name name h)) (own_text name))
    | inr h ↦
        or_right (bytes_eq name other.name) (is_among name (map name_in others))
        (further (sym (ap (λ b. found_or start (if b then Some parts else None) (record_from (start + 1) name others)) h) ∙ is))
  ]
  one_among name one others start found (Field t n i) e further is = or_right (bytes_eq name n.name) (is_among name (map name_in others)) (further is)
  one_among name one others start found (Parameter c s t n i) e further is = or_right (bytes_eq name n.name) (is_among name (map name_in others)) (further is)
  one_among name one others start found (Method r n a b) e further is = or_right (bytes_eq name n.name) (is_among name (map name_in others)) (further is)
  one_among name one others start found (Getter r n v) e further is = or_right (bytes_eq name n.name) (is_among name (map name_in others)) (further is)

  named_among : (name : List ℕ) (rs : List Member) (start : ℕ) (found : Declared) → record_from start name rs ≡ Some found → is_among name (map name_in rs) ≡ true
  named_among name [] start found is = absurd (cc)
  named_among name (one ∷ others) start found is = one_among name one others start found one.kind refl (named_among name others (start + 1) found) is

  declared_among : (name : List ℕ) (found : Declared) → record_named records name ≡ Some found → is_among name (map name_in records) ≡ true
  unfolding record_named
  declared_among name found is = named_among name records 0 found is

  pub holder_among : (other name : List ℕ) → Holds records other name → is_among name (map name_in records) ≡ true
  holder_among other _ (itself name has) = let it = declares records other name has in declared_among name it.found it.is
  holder_among other _ (through name part has inner) = let it = declares records part name has in declared_among name it.found it.is

  -- which names are found, where the names of these records are still looked for
  pub record Circular (names : List (List ℕ)) (rest : List Member) : Type 0 where
    pub sound : (name : List ℕ) → is_among name names ≡ true → Holds records name name
    pub whole : (name : List ℕ) → Holds records name name → (is_among name names || is_among name (map name_in rest)) ≡ true

  pub none_found : Circular [] records
  none_found = record { sound = λ name h. absurd (cc); whole = λ name holds. holder_among name name holds }

  among_append : (name : List ℕ) (a b : List (List ℕ)) → is_among name (a ++ b) ≡ (is_among name a || is_among name b)
  among_append name [] b = refl
  among_append name (x ∷ a) b = elim (cases_Bool (bytes_eq name x)) [ inl h ↦ rw h refl | inr h ↦ rw h (among_append name a b) ]

  among_one : (name x : List ℕ) → is_among name (x ∷ []) ≡ true → name ≡ x
  among_one name x h = elim (or_cases (bytes_eq name x) false h) [ inl e ↦ same_text name x e | inr e ↦ absurd (cc) ]

  module _ (names : List (List ℕ)) (one : Member) (rest : List Member) (so_far : Circular names (one ∷ rest)) where
    pub one_found : Holds records (name_in one) (name_in one) → Circular (names ++ name_in one ∷ []) rest
    one_found itself_holds = record {
      sound = λ name h. elim (or_cases (is_among name names) (is_among name (name_in one ∷ [])) (sym (among_append name names (name_in one ∷ [])) ∙ h)) [
        | inl e ↦ so_far.sound name e
        | inr e ↦ subst (λ n. Holds records n n) (sym (among_one name (name_in one) e)) itself_holds
      ];
      whole = λ name holds. elim (or_cases (is_among name names) (is_among name (map name_in (one ∷ rest))) (so_far.whole name holds)) [
        | inl e ↦
            or_left (is_among name (names ++ name_in one ∷ [])) (is_among name (map name_in rest))
            (among_append name names (name_in one ∷ []) ∙ or_left (is_among name names) (is_among name (name_in one ∷ [])) e)
        | inr e ↦ elim (or_cases (bytes_eq name (name_in one)) (is_among name (map name_in rest)) e) [
          | inl f ↦
              or_left (is_among name (names ++ name_in one ∷ [])) (is_among name (map name_in rest))
              (among_append name names (name_in one ∷ [])
              ∙ or_right (is_among name names) (is_among name (name_in one ∷ [])) (or_left (bytes_eq name (name_in one)) false f))
          | inr f ↦ or_right (is_among name (names ++ name_in one ∷ [])) (is_among name (map name_in rest)) f
        ]
      ];
    }

    pub none_more : (Holds records (name_in one) (name_in one) → ⊥) → Circular names rest
    none_more never_holds = record {
      sound = so_far.sound;
      whole = λ name holds. elim (or_cases (is_among name names) (is_among name (map name_in (one ∷ rest))) (so_far.whole name holds)) [
        | inl e ↦ or_left (is_among name names) (is_among name (map name_in rest)) e
        | inr e ↦ elim (or_cases (bytes_eq name (name_in one)) (is_among name (map name_in rest)) e) [
          | inl f ↦ absurd (never_holds (subst (λ n. Holds records n n) (same_text name (name_in one) f) holds))
          | inr f ↦ or_right (is_among name names) (is_among name (map name_in rest)) f
        ]
      ];
    }

  pub all_found : (names : List (List ℕ)) → Circular names [] → AreCircular records names
  all_found names done name =
      (done.sound name, λ holds. elim (or_cases (is_among name names) false (done.whole name holds)) [ inl e ↦ e | inr e ↦ absurd (cc) ])
