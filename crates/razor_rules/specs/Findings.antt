-- Broken rules, and which of several comes first.
use Rattle.std.specs.Prelude.{◌≡◌, false, ℕ, nat_lt, ◌==◌, ◌&&◌, ◌||◌, Bool, if◌then◌else◌, List, [], ◌∷◌, Option, Some, None}
use Rattle.std.specs.List.{All, Contains}
use Rattle.text_core.specs.declared.place.Place.{Place}
use Rattle.cs_rules.specs.declared.rule.Rule.{Rule}
use Rattle.cs_rules.specs.declared.rule.Rule.TheVariants as r
use Rattle.razor_rules.specs.declared.finding.Broken.{Broken}
use Rattle.cs_rules.specs.Judged.{Judged, fine, breaks}

-- a rule that is broken at a place
abbrev pub broken : Rule → Place → Broken
broken rule place = record { rule = rule; place = place }

-- the rule that code breaks, if it breaks one
abbrev pub found : {A : Type 0} → Judged A → List Broken
found (fine x) = []
found (breaks rule place) = broken rule place ∷ []

-- the same, and where it breaks none, what follows
abbrev pub found_then : {A : Type 0} → Judged A → (A → List Broken) → List Broken
found_then (fine x) next = next x
found_then (breaks rule place) next = broken rule place ∷ []

-- where a test fails
abbrev pub broken_unless : Bool → Rule → Place → List Broken
broken_unless holds rule place = if holds then [] else broken rule place ∷ []

-- the number of a rule
unfoldable pub number_of : Rule → ℕ
number_of r.DuplicateComponent = 1
number_of r.BadComponentName = 2
number_of r.DuplicateName = 3
number_of r.UnknownComponent = 4
number_of r.UnknownParameter = 5
number_of r.DuplicateAttribute = 6
number_of r.MixedContent = 7
number_of r.UnknownName = 8
number_of r.UnknownType = 9
number_of r.TypeMismatch = 10
number_of r.NotAssigned = 11
number_of r.ParameterAssigned = 12
number_of r.ForCapture = 13
number_of r.ChangedCapture = 14
number_of r.ImpureTemplate = 15
number_of r.CallbackInLifecycle = 16
number_of r.LoopJump = 17
number_of r.BadKey = 18
number_of r.BadBind = 19
number_of r.BadLifecycle = 20
number_of r.MissingReturn = 21
number_of r.RecursiveRecord = 22

-- of two in one file the one in an earlier line comes first, in one line the one in an earlier column, and at one place the rule of the smaller number
unfoldable pub comes_before : Broken → Broken → Bool
comes_before x y =
    nat_lt x.place.line y.place.line
    || ((x.place.line == y.place.line)
    && (nat_lt x.place.column y.place.column
    || ((x.place.column == y.place.column) && nat_lt (number_of x.rule) (number_of y.rule))))

abbrev pub the_first : Broken → Option Broken → Broken
the_first x None = x
the_first x (Some y) = if comes_before y x then y else x

-- the first of all, if there are any
abbrev pub first_of : List Broken → Option Broken
first_of [] = None
first_of (x ∷ xs) = Some (the_first x (first_of xs))

-- it is one of them, and none of them comes before it; or there are none
abbrev pub IsFirst : List Broken → Option Broken → Type 0
IsFirst xs None = xs ≡ []
IsFirst xs (Some x) = Contains xs x × All (λ y. comes_before y x ≡ false) xs

-- the first of either
abbrev pub merged : Option Broken → Option Broken → Option Broken
merged None other = other
merged (Some x) other = Some (the_first x other)

-- the first of what was found before and of these
unfoldable pub also : Option Broken → List Broken → Option Broken
also before others = merged before (first_of others)
