-- Files one after another.
use Rattle.std.proofs.Common.{◌≡◌, ℕ, zero, suc, ◌+◌, ◌<◌, List, [], ◌∷◌, ◌++◌, length, take, get_or, Some, None, Result, Ok, Err, ap, sym, ◌∙◌, subst, refl, arith}
use Rattle.std.specs.Prelude.{slice_get, chars}
use Rattle.std.proofs.Math.Seq.{take-suc}
use Rattle.razor_ast.specs.declared.component.Component.{Component}
use Rattle.razor_reader.proofs.AnswerComplete.{one_component}
use Rattle.razor_reader.specs.declared.fault.ReadFault.{ReadFault}
use Rattle.razor_reader.specs.declared.fault.ReadFault.TheVariants as f
use Rattle.component_files.specs.declared.files.SourceFile.{SourceFile}
use Rattle.component_files.specs.declared.files.Unreadable.{Unreadable}
use Rattle.component_files.specs.declared.files.Unreadable.TheVariants as cause
use Rattle.component_files.specs.Files.{Spells, AllSpell, none, more, FileSpells, FileSpellsNothing, no_text, no_component, IsCause, FirstFails, Answers, AllAnswer, unread}

-- one file more behind the others
pub all_and_one : (files : List SourceFile) (components : List Component) (file : SourceFile) (c : Component)
    → AllSpell files components → Spells file c → AllSpell (files ++ file ∷ []) (components ++ c ∷ [])
all_and_one _ _ file c none spelled = more file c [] [] spelled none
all_and_one _ _ file c (more first d files components told others) spelled =
    more first d (files ++ file ∷ []) (components ++ c ∷ []) told (all_and_one files components file c others spelled)

-- the files up to one more
pub one_more : (files : List SourceFile) (i : ℕ) (file : SourceFile) (components : List Component) (c : Component) → i < length files → file ≡ get_or files i file
    → AllSpell (take i files) components → Spells file c → AllSpell (take (i + 1) files) (components ++ c ∷ [])
one_more files i file components c within is all spelled =
    let next : i + 1 ≡ suc i = omega arith in
    let longer : take (i + 1) files ≡ take i files ++ file ∷ [] = rw next (take-suc files i file within ∙ ap (λ (x : SourceFile). take i files ++ x ∷ []) (sym is)) in
    rw longer (all_and_one (take i files) components file c all spelled)

-- a file spells one component
same_component : (name bytes : List ℕ) (a b : Component) → FileSpells name bytes a → FileSpells name bytes b → a ≡ b
same_component name bytes a b h k = one_component name (chars bytes) a b h.1.1.0 h.1.1.1 k.1.1.1

pub same_components : (files : List SourceFile) (a b : List Component) → AllSpell files a → AllSpell files b → a ≡ b
same_components _ _ _ none none = refl
same_components _ _ _ (more file c files components h others) (more _ d _ further k rest) =
    ap (λ (x : Component). x ∷ components) (same_component file.name file.bytes.items c d h k)
    ∙ ap (λ (x : List Component). d ∷ x) (same_components files components further others rest)

-- what spells a component has no cause to spell none
never_nothing : (name bytes : List ℕ) (c : Component) (place : _) → FileSpells name bytes c → FileSpellsNothing name bytes place → ⊥
never_nothing name bytes c _ h (no_text short not_utf8) = not_utf8 h.1.0
never_nothing name bytes c _ h (no_component place short why) = why.1.1 c h.1.1.1

no_none : {A : Type 0} (x : A) → None ≡ Some x → ⊥
no_none x e = cc

never_both : (name bytes : List ℕ) (c : Component) (why : Unreadable) → FileSpells name bytes c → IsCause name bytes why → ⊥
never_both name bytes c cause.TooLong h long = let short = h.0 in omega (arith, short, long)
never_both name bytes c (cause.TooDeep place) h deep = no_none place (sym (h.1.1.0 deep.1.1.0 deep.1.1.1) ∙ deep.1.1.2)
never_both name bytes c (cause.Syntax place) h nothing = never_nothing name bytes c place h nothing

some_is : {A : Type 0} (x y : A) → Some x ≡ Some y → x ≡ y
some_is x y e = cc

-- a file among those that all spell a component spells one
at_place : (files : List SourceFile) (a : List Component) (place : ℕ) (file : SourceFile) → AllSpell files a → slice_get files place ≡ Some file → (c : Component) × Spells file c
at_place _ _ place file none at = absurd (no_none file at)
at_place _ _ zero file (more first c files components h others) at = (c, subst (λ (f : SourceFile). Spells f c) (some_is first file at) h)
at_place _ _ (suc place) file (more first c files components h others) at = at_place files components place file others at

pub never_fails : (files : List SourceFile) (a : List Component) (place : ℕ) (why : Unreadable) → AllSpell files a → FirstFails files place why → ⊥
never_fails files a place why all fails =
    let spelled = at_place files a place fails.file all fails.there in
    never_both fails.file.name fails.file.bytes.items spelled.0 why spelled.1 fails.is

got : (files : List SourceFile) (i : ℕ) (file : SourceFile) → i < length files → file ≡ get_or files i file → slice_get files i ≡ Some file
got [] i file within is = absurd (omega (arith, within))
got (first ∷ files) zero file within is = ap Some (sym is)
got (first ∷ files) (suc i) file within is = got files i file (omega (arith, within)) is

-- reading stopped at this file
fails_at : (files : List SourceFile) (i : ℕ) (file : SourceFile) (components : List Component) (why : Unreadable) → i < length files → file ≡ get_or files i file
    → AllSpell (take i files) components → IsCause file.name file.bytes.items why → FirstFails files i why
fails_at files i file components why within is before cause = record { file = file; there = got files i file within is; components = components; before = before; is = cause }

pub failed : (files : List SourceFile) (i : ℕ) (file : SourceFile) (components : List Component) (why : ReadFault) → i < length files → file ≡ get_or files i file
    → AllSpell (take i files) components → Answers file.name file.bytes.items (Err why) → AllAnswer files (Err (unread i why))
failed files i file components f.TooLong within is before a = fails_at files i file components cause.TooLong within is before a
failed files i file components (f.TooDeep place) within is before a = fails_at files i file components (cause.TooDeep place) within is before a
failed files i file components (f.Syntax place) within is before a = fails_at files i file components (cause.Syntax place) within is before a
failed files i file components f.Oom within is before a = tt
