-- Files that are held under names, and what is accepted of them.
use Rattle.std.proofs.Common.{◌≡◌, ◌≤◌, ◌<◌, ◌+◌, ℕ, zero, suc, List, [], ◌∷◌, ◌++◌, length, take, get_or, Bool, Option, Some, None, refl, sym, ap, ◌∙◌, subst, arith}
use Rattle.std.specs.Prelude.{slice_get, map}
use Rattle.std.proofs.lemmas.List.{take_more}
use Rattle.text_core.specs.declared.place.Place.{Place}
use Rattle.cs_ast.specs.declared.scope.Effect.{Effect}
use Rattle.cs_rules.specs.declared.rule.Rule.{Rule}
use Rattle.razor_rules.specs.declared.finding.Broken.{Broken}
use Rattle.razor_rules.specs.Findings.{first_of, broken as broken_rule}
use Rattle.razor_check.specs.declared.fault.ProgramFault.{ProgramFault}
use Rattle.razor_check.specs.declared.fault.ProgramFault.TheVariants as fault
use Rattle.razor_check.specs.Answers.{Refuses as RefusesProgram}
use Rattle.blazor_top.specs.declared.refusal.Stop.{Stop}
use Rattle.blazor_top.specs.declared.status.Status.TheVariants as status
use Rattle.blazor_top.specs.Stopping.{OnStop, Refuses, RefusesFor}
use Rattle.blazor_top.proofs.StopLemmas.{on_refuses}
use Rattle.first_click.proofs.OptionLemmas.{some_is}
use Rattle.schedule_replay.specs.Every.{Every}
use Rattle.razor_ast.specs.declared.component.Component.{Component}
use Rattle.razor_rules.specs.Programs.{Finding, BreaksFirst, files_rules, first_in, finding_or}
use Rattle.razor_rules.proofs.FactLaws.{one_first}
use Rattle.component_files.specs.declared.files.SourceFile.{SourceFile}
use Rattle.component_files.specs.declared.files.Unreadable.{Unreadable}
use Rattle.component_files.specs.Files.{FileSpells, IsCause, AllSpell, none, more, FirstFails}
use Rattle.component_files.proofs.FileLemmas.{same_components, never_fails}
use Rattle.blazor_top.specs.Reading.{Contents, Holds, IsThere, component_file}
use Rattle.blazor_top.specs.Checking.{AreHeld, no_more, one_more, IsBehind, IsRefusedFor, unread, broken, IsSound, refusal_line, rule_kind, unread_kind, unread_place}

-- files that are held are there
pub all_held : (held : Contents) (names : List (List ℕ)) (files : List SourceFile) → AreHeld held names files → Every (IsThere held) (map component_file names)
all_held held _ _ no_more = tt
all_held held _ _ (one_more name file names files named holds others) = ((file.bytes.items, holds), all_held held names files others)

-- each name has its file
pub held_length : (held : Contents) (names : List (List ℕ)) (files : List SourceFile) → AreHeld held names files → length names ≡ length files
held_length held _ _ no_more = refl
held_length held _ _ (one_more name file names files named holds others) = ap suc (held_length held names files others)

-- one file more
pub held_more : (held : Contents) (names : List (List ℕ)) (files : List SourceFile) (name : List ℕ) (file : SourceFile) → AreHeld held names files → file.name ≡ name
    → Holds held (component_file name) file.bytes.items → AreHeld held (names ++ name ∷ []) (files ++ file ∷ [])
held_more held _ _ name file no_more named holds = one_more name file [] [] named holds no_more
held_more held _ _ name file (one_more first one names files is kept others) named holds =
    one_more first one (names ++ name ∷ []) (files ++ file ∷ []) is kept (held_more held names files name file others named holds)

-- files of the same names and bytes, in the same order
pub data Alike : List SourceFile → List SourceFile → Type 0 where
  no_file : Alike [] []
  one_file : (one other : SourceFile) (ones others : List SourceFile) → one.name ≡ other.name → one.bytes.items ≡ other.bytes.items → Alike ones others
      → Alike (one ∷ ones) (other ∷ others)

-- what is held under the same names by files that tell it is alike
pub alike : (file : List ℕ → Option (List ℕ)) (names : List (List ℕ)) (ones others : List SourceFile) → AreHeld (Some file) names ones → AreHeld (Some file) names others → Alike ones others
alike file _ _ _ no_more no_more = no_file
alike file _ _ _ (one_more name one names ones named holds rest) (one_more _ other _ others called keeps more_of) =
    one_file one other ones others (named ∙ sym called) (some_is one.bytes.items other.bytes.items (sym holds.0 ∙ keeps.0)) (alike file names ones others rest more_of)

spells_alike : (one other : SourceFile) (c : Component) → one.name ≡ other.name → one.bytes.items ≡ other.bytes.items → FileSpells one.name one.bytes.items c
    → FileSpells other.name other.bytes.items c
spells_alike one other c named held h = subst (λ (n : List ℕ). FileSpells n other.bytes.items c) named (subst (λ (b : List ℕ). FileSpells one.name b c) held h)

pub all_spell : (ones others : List SourceFile) (components : List Component) → Alike ones others → AllSpell ones components → AllSpell others components
all_spell _ _ _ no_file none = none
all_spell _ _ _ (one_file one other ones others named held rest) (more _ c _ components h further) =
    more other c others components (spells_alike one other c named held h) (all_spell ones others components rest further)

take_alike : (place : ℕ) (ones others : List SourceFile) → Alike ones others → Alike (take place ones) (take place others)
take_alike zero _ _ same = no_file
take_alike (suc place) _ _ no_file = no_file
take_alike (suc place) _ _ (one_file one other ones others named held rest) =
    one_file one other (take place ones) (take place others) named held (take_alike place ones others rest)

record Found (others : List SourceFile) (place : ℕ) (one : SourceFile) : Type 0 where
  file : SourceFile
  there : slice_get others place ≡ Some file
  named : one.name ≡ file.name
  held : one.bytes.items ≡ file.bytes.items

no_none : {A : Type 0} (x : A) → None ≡ Some x → ⊥
no_none x e = cc

found : (ones others : List SourceFile) (place : ℕ) (file : SourceFile) → Alike ones others → slice_get ones place ≡ Some file → Found others place file
found _ _ place file no_file at = absurd (no_none file at)
found _ _ zero file (one_file one other ones others named held rest) at =
    subst (Found (other ∷ others) 0) (some_is one file at) (record { file = other; there = refl; named = named; held = held })
found _ _ (suc place) file (one_file one other ones others named held rest) at =
    let it = found ones others place file rest at in record { file = it.file; there = it.there; named = it.named; held = it.held }

fails_alike : (ones others : List SourceFile) (place : ℕ) (why : Unreadable) → Alike ones others → FirstFails ones place why → FirstFails others place why
fails_alike ones others place why same fails =
    let it = found ones others place fails.file same fails.there in
    record {
      file = it.file;
      there = it.there;
      components = fails.components;
      before = all_spell (take place ones) (take place others) fails.components (take_alike place ones others same) fails.before;
      is = subst (λ (n : List ℕ). IsCause n it.file.bytes.items why) it.named (subst (λ (b : List ℕ). IsCause fails.file.name b why) it.held fails.is);
    }

-- a program that breaks no rule is not refused
never_for : (files : List SourceFile) (components : List Component) (others : List SourceFile) (line : List ℕ) → Alike others files → IsSound files components → IsRefusedFor others line → ⊥
never_for files components others line same sound (unread place why fails about) =
    never_fails files components place why sound.spelled (fails_alike others files place why same fails)
never_for files components others line same sound (broken others_components finding spelled breaks about) =
    let one : others_components ≡ components = same_components files others_components components (all_spell others files others_components same spelled) sound.spelled in
    no_none finding (one_first components None (Some finding) sound.sound (subst (λ (x : List Component). BreaksFirst x (Some finding)) one breaks))

pub never_unsound : (file : List ℕ → Option (List ℕ)) (names : List (List ℕ)) (files others : List SourceFile) (components : List Component) (line : List ℕ)
    → AreHeld (Some file) names files → IsSound files components → AreHeld (Some file) names others → IsRefusedFor others line → ⊥
never_unsound file names files others components line held sound there refused =
    never_for files components others line (alike file names others files there held) sound refused

-- one file more is read
pub held_next : (held now : Contents) (names : List (List ℕ)) (i : ℕ) (name : List ℕ) (files new : List SourceFile) (bytes : List ℕ) → i < length names → name ≡ get_or names i name → now ≡ held
    → AreHeld held (take i names) files → Holds now (component_file name) bytes → IsBehind files name bytes new → AreHeld held (take (i + 1) names) new
held_next held now names i name files new bytes within is same so_far holds behind =
    let there : Holds held (component_file name) behind.0.bytes.items = subst (λ (b : List ℕ). Holds held (component_file name) b) (sym behind.2) (subst (λ (h : Contents). Holds h (component_file name) bytes) same holds) in
    let longer : AreHeld held (take i names ++ name ∷ []) (files ++ behind.0 ∷ []) = held_more held (take i names) files name behind.0 so_far behind.1 there in
    let next : take i names ++ name ∷ [] ≡ take (i + 1) names = ap (λ (y : List ℕ). take i names ++ y ∷ []) is ∙ sym (take_more names i name within) in
    subst (λ (ns : List (List ℕ)). AreHeld held ns new) next (subst (λ (fs : List SourceFile). AreHeld held (take i names ++ name ∷ []) fs) (sym behind.3) longer)

-- the first finding stands in one of the files
bound_or : (at : ℕ) (x : Option Broken) (rest : Option Finding) (n : ℕ) (f : Finding) → (rest ≡ Some f → f.file < at + suc n) → finding_or at x rest ≡ Some f → f.file < at + suc n
bound_or at None rest n f step e = step e
bound_or at (Some first) rest n f step e =
    let one : Finding = record { file = at; first = first } in
    let same : at ≡ f.file = ap (λ (x : Finding). x.file) (some_is one f e) in
    omega (arith, same)

first_bound : (at : ℕ) (xs : List (List Broken)) (f : Finding) → first_in at xs ≡ Some f → f.file < at + length xs
first_bound at [] f e = absurd (no_none f e)
first_bound at (one ∷ others) f e =
    bound_or at (first_of one) (first_in (at + 1) others) (length others) f (λ h. let below : f.file < at + 1 + length others = first_bound (at + 1) others f h in omega (arith, below)) e

rules_bound : (components : List Component) (circular : List ℕ → Bool) (position : ℕ) (others : List Component) (effects : List (List Effect)) → length (files_rules components circular position others effects) ≤ length others
rules_bound components circular position [] effects = omega arith
rules_bound components circular position (one ∷ others) [] = omega arith
rules_bound components circular position (one ∷ others) (effect ∷ effects) =
    let below : length (files_rules components circular (position + 1) others effects) ≤ length others = rules_bound components circular (position + 1) others effects in omega (arith, below)

pub as_many : (files : List SourceFile) (components : List Component) → AllSpell files components → length files ≡ length components
as_many _ _ none = refl
as_many _ _ (more file c files components h others) = ap suc (as_many files components others)

found_within : (files : List SourceFile) (components : List Component) (finding : Finding) → AllSpell files components → BreaksFirst components (Some finding) → finding.file < length files
found_within files components finding spelled breaks =
    let rules : List (List Broken) = files_rules components breaks.0.circular 0 components breaks.0.effects in
    let at : finding.file < 0 + length rules = first_bound 0 rules finding breaks.2 in
    let few : length rules ≤ length components = rules_bound components breaks.0.circular 0 components breaks.0.effects in
    let many : length files ≡ length components = as_many files components spelled in
    omega (arith, at, few, many)

told : (components : List Component) (e : ProgramFault) (file : ℕ) (rule : Rule) (place : Place) → e ≡ fault.Broken file rule place → RefusesProgram components e
    → BreaksFirst components (Some (record { file = file; first = broken_rule rule place }))
told components e file rule place is h = subst (RefusesProgram components) is h

-- a program that is refused in a file is refused in one of these
pub told_within : (files : List SourceFile) (components : List Component) (e : ProgramFault) (file : ℕ) (rule : Rule) (place : Place) → AllSpell files components → e ≡ fault.Broken file rule place
    → RefusesProgram components e → file < length files
told_within files components e file rule place spelled is h =
    found_within files components (record { file = file; first = broken_rule rule place }) spelled (told components e file rule place is h)

-- the refusal for a file that spells no component
pub refused_unread : (files : List SourceFile) (position : ℕ) (why : Unreadable) (file : SourceFile) (kind : List ℕ) (place : Place) (s : Stop) → FirstFails files position why
    → slice_get files position ≡ Some file → kind ≡ unread_kind why → place ≡ unread_place why → Refuses s status.Refused (refusal_line kind file.name place) → OnStop s (RefusesFor files)
refused_unread files position why file kind place s fails there kind_is place_is refuses =
    let line : refusal_line kind file.name place ≡ refusal_line (unread_kind why) file.name (unread_place why) =
    ap (λ (k : List ℕ). refusal_line k file.name place) kind_is ∙ ap (λ (p : Place). refusal_line (unread_kind why) file.name p) place_is in
    on_refuses s status.Refused (refusal_line kind file.name place) (RefusesFor files) refuses (refl, unread position why fails (record { file = file; there = there; is = line }))

-- the refusal for a rule that is broken
pub refused_broken : (files : List SourceFile) (components : List Component) (e : ProgramFault) (position : ℕ) (rule : Rule) (place : Place) (file : SourceFile) (kind : List ℕ) (s : Stop)
    → AllSpell files components → e ≡ fault.Broken position rule place → RefusesProgram components e → slice_get files position ≡ Some file → kind ≡ rule_kind rule
    → Refuses s status.Refused (refusal_line kind file.name place) → OnStop s (RefusesFor files)
refused_broken files components e position rule place file kind s spelled is h there kind_is refuses =
    let finding : Finding = record { file = position; first = broken_rule rule place } in
    let line : refusal_line kind file.name place ≡ refusal_line (rule_kind rule) file.name place = ap (λ (k : List ℕ). refusal_line k file.name place) kind_is in
    on_refuses s status.Refused (refusal_line kind file.name place) (RefusesFor files) refuses
    (refl, broken components finding spelled (told components e position rule place is h) (record { file = file; there = there; is = line }))
