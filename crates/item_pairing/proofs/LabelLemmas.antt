-- What the tests on labels and addresses decide.
use Rattle.std.proofs.Common.{◌≡◌, ◌∙◌, refl, ap, sym, subst, ℕ, ◌==◌, ◌&&◌, Bool, true, false, List, [], ◌∷◌, Option, Some, None}
use Rattle.std.specs.Prelude.{◌↔◌, IsTrue}
use Rattle.std.specs.Bool.{Decides, one_answer}
use Rattle.std.proofs.lemmas.Bool.{eqb-true, eq-eqb}
use Rattle.std.proofs.lemmas.Slice.Eq.{bytes_eq-Decides}
use Rattle.cs_ast.specs.declared.value.Value.{Value}
use Rattle.cs_ast.specs.declared.cs_type.CsType.{CsType}
use Rattle.cs_meaning.specs.Equality.{is_same}
use Rattle.cs_meaning.proofs.EqualityLemmas.{same_decides}
use Rattle.cs_rules.specs.Types.{same_type}
use Rattle.cs_rules.proofs.SameType.{same_equal, same_self}
use Rattle.frame_core.specs.declared.made.Made.{Made}
use Rattle.frame_core.specs.declared.made.Made.TheVariants as made
use Rattle.pairing_meaning.specs.Labels.{Kind, element, text, markup, component, region, Label, same_named, same_made, same_kind, same_label}
use Rattle.pairing_meaning.specs.Slots.{Mark, Address, same_mark, same_marks, same_address}

both : (x y : Bool) → (x && y) ≡ true → (x ≡ true) × (y ≡ true)
both true y is = (refl, is)
both false y is = absurd (cc)

named_told : (one other : Option (List ℕ)) → same_named one other ≡ true → one ≡ other
named_told None None is = refl
named_told (Some name) (Some other) is = ap Some ((bytes_eq-Decides name other).0 is)
named_told None (Some other) is = absurd (cc)
named_told (Some name) None is = absurd (cc)

named_self : (one : Option (List ℕ)) → same_named one one ≡ true
named_self None = refl
named_self (Some name) = (bytes_eq-Decides name name).1 refl

made_told : (one other : Made) → same_made one other ≡ true → one ≡ other
made_told (made.Component place) (made.Component other) is = ap made.Component (eqb-true place other is)
made_told (made.Provider of name) (made.Provider other named) is =
    let parts = both (same_type of other) (same_named name named) is in
    ap (λ (t : CsType). made.Provider t name) (same_equal of other parts.0) ∙ ap (made.Provider other) (named_told name named parts.1)
made_told (made.Component place) (made.Provider other named) is = absurd (cc)
made_told (made.Provider of name) (made.Component other) is = absurd (cc)

made_self : (one : Made) → same_made one one ≡ true
made_self (made.Component place) = eq-eqb place place refl
made_self (made.Provider of name) = rw (same_self of, named_self name) refl

kind_told : (one other : Kind) → same_kind one other ≡ true → one ≡ other
kind_told (element name) (element other) is = ap element ((bytes_eq-Decides name other).0 is)
kind_told text text is = refl
kind_told markup markup is = refl
kind_told (component what) (component other) is = ap component (made_told what other is)
kind_told region region is = refl
kind_told _ _ is = absurd (cc)

kind_self : (one : Kind) → same_kind one one ≡ true
kind_self (element name) = (bytes_eq-Decides name name).1 refl
kind_self text = refl
kind_self markup = refl
kind_self (component what) = made_self what
kind_self region = refl

abbrev labelled : ℕ → Kind → Value → Label
labelled number kind key = record { number = number; kind = kind; key = key }

pub label_told : (one other : Label) → same_label one other ≡ true → one ≡ other
label_told one other is =
    let front = both (one.number == other.number && same_kind one.kind other.kind) (is_same one.key other.key) is in
    let numbers = both (one.number == other.number) (same_kind one.kind other.kind) front.0 in
    ap (λ n. labelled n one.kind one.key) (eqb-true one.number other.number numbers.0)
    ∙ ap (λ k. labelled other.number k one.key) (kind_told one.kind other.kind numbers.1)
    ∙ ap (λ v. labelled other.number other.kind v) ((same_decides one.key other.key).0 front.1)

pub label_self : (one : Label) → same_label one one ≡ true
label_self one = rw (eq-eqb one.number one.number refl, kind_self one.kind, (same_decides one.key one.key).1 refl) refl

abbrev marked : Label → ℕ → Mark
marked label before = record { label = label; before = before }

mark_told : (one other : Mark) → same_mark one other ≡ true → one ≡ other
mark_told one other is =
    let parts = both (same_label one.label other.label) (one.before == other.before) is in
    ap (λ l. marked l one.before) (label_told one.label other.label parts.0) ∙ ap (λ n. marked other.label n) (eqb-true one.before other.before parts.1)

mark_self : (one : Mark) → same_mark one one ≡ true
mark_self one = rw (label_self one.label, eq-eqb one.before one.before refl) refl

marks_told : (ones others : List Mark) → same_marks ones others ≡ true → ones ≡ others
marks_told [] [] is = refl
marks_told [] (other ∷ others) is = absurd (cc)
marks_told (one ∷ ones) [] is = absurd (cc)
marks_told (one ∷ ones) (other ∷ others) is =
    let parts = both (same_mark one other) (same_marks ones others) is in
    ap (λ m. m ∷ ones) (mark_told one other parts.0) ∙ ap (λ ms. other ∷ ms) (marks_told ones others parts.1)

marks_self : (ones : List Mark) → same_marks ones ones ≡ true
marks_self [] = refl
marks_self (one ∷ ones) = rw (mark_self one, marks_self ones) refl

abbrev addressed : List Mark → Label → Address
addressed regions label = record { regions = regions; label = label }

pub address_told : (one other : Address) → same_address one other ≡ true → one ≡ other
address_told one other is =
    let parts = both (same_label one.label other.label) (same_marks one.regions other.regions) is in
    ap (λ l. addressed one.regions l) (label_told one.label other.label parts.0) ∙ ap (λ ms. addressed ms other.label) (marks_told one.regions other.regions parts.1)

pub address_self : (one : Address) → same_address one one ≡ true
address_self one = rw (label_self one.label, marks_self one.regions) refl

-- what tells whether two labels are the same is this test
pub decided : (answer : Bool) (one other : Label) → (IsTrue answer ↔ (one ≡ other)) → answer ≡ same_label one other
decided answer one other tells = one_answer answer (same_label one other) (tells.0, tells.1) (label_told one other, λ is. subst (λ (l : Label). same_label one l ≡ true) is (label_self one))

-- what tells whether two addresses are the same is this test
pub address_decided : (answer : Bool) (one other : Address) → (IsTrue answer ↔ (one ≡ other)) → answer ≡ same_address one other
address_decided answer one other tells = one_answer answer (same_address one other) (tells.0, tells.1) (address_told one other, λ is. subst (λ (a : Address). same_address one a ≡ true) is (address_self one))

-- the same label and the same regions
pub one_address : (one other : Address) (labels regions : Bool) → (IsTrue labels ↔ (one.label ≡ other.label)) → (IsTrue regions ↔ (one.regions ≡ other.regions)) → labels ≡ true → regions ≡ same_address one other
one_address one other labels regions by_label by_regions alike =
    address_decided regions one other (
      λ same. ap (λ l. addressed one.regions l) (by_label.0 alike) ∙ ap (λ ms. addressed ms other.label) (by_regions.0 same),
      λ same. by_regions.1 (ap (λ (a : Address). a.regions) same),
    )

pub other_address : (one other : Address) (labels : Bool) → (IsTrue labels ↔ (one.label ≡ other.label)) → labels ≡ false → false ≡ same_address one other
other_address one other labels by_label apart =
    address_decided false one other (λ never. absurd (cc), λ same. (let hit = by_label.1 (ap (λ (a : Address). a.label) same) in absurd (cc)))
