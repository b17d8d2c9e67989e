-- Why questions have no answer.
use Rattle.std.proofs.Common.{◌≡◌, ◌<◌, ◌≤◌, ℕ, slice_index_or, List, [], ◌∷◌, length, Bool, true, false, Some, None, refl, sym, ap, subst, ◌∙◌, inl, inr, arith}
use Rattle.std.specs.Prelude.{Option}
use Rattle.alone_pages.proofs.Pages.{never_stuck, parts_come}
use Rattle.cs_rules.specs.Judged.{fine}
use Rattle.frame_compiler.specs.Compiles.{finding_or}
use Rattle.frame_parts.specs.Components.{Meaning, component_meaning}
use Rattle.page_meaning.specs.Resolved.{Placing, Resolves}
use Rattle.razor_ast.specs.declared.component.Component.{Component}
use Rattle.razor_rules.specs.Programs.{BreaksFirst, home_of}
use Rattle.component_files.specs.declared.files.SourceFile.{SourceFile}
use Rattle.component_files.specs.Files.{AllSpell}
use Rattle.component_files.proofs.FileLemmas.{same_components}
use Rattle.program_lines.specs.Lines.{Answers, IsDrawable}
use Rattle.standing_alone.specs.Alone.{stands_alone}
use Rattle.blazor_top.specs.declared.command.Question.{Question}
use Rattle.blazor_top.specs.declared.command.Question.TheVariants.{Check, Render, Frames}
use Rattle.blazor_top.specs.declared.refusal.Stop.{Stop}
use Rattle.blazor_top.specs.declared.status.Status.{Status}
use Rattle.blazor_top.specs.declared.status.Status.TheVariants as status
use Rattle.blazor_top.specs.Asking.{AreAlone, AreAnswerable, Declined, IsAlone, IsNotTaken, IsOther, not_alone, several}
use Rattle.blazor_top.specs.Checking.{AreHeld, IsSound}
use Rattle.blazor_top.specs.Lines.{refused_line}
use Rattle.blazor_top.specs.Stopping.{OnStop, Refuses, RefusesAsOther, RefusesFor, Declines}
use Rattle.blazor_top.proofs.CheckingLemmas.{Alike, alike, all_spell, as_many, never_unsound}
use Rattle.blazor_top.proofs.StopLemmas.{on_refuses}

-- one component that stands alone is no other program
not_other : (files : List SourceFile) (components : List Component) (name : List ℕ) → IsOther files components name
    → (component : Component) → components ≡ component ∷ [] → length files ≡ length components → stands_alone component ≡ true → ⊥
not_other _ _ _ (not_alone file other differs) component is many alone =
    let same : other ≡ component = cc in
    let never : false ≡ true = sym differs ∙ ap stands_alone same ∙ alone in
    absurd (cc)
not_other _ _ _ (several file other files components) component is many alone =
    let one : length components ≡ 1 = ap length is in omega (arith, many, one)

never_other : (file : List ℕ → Option (List ℕ)) (names : List (List ℕ)) (files others : List SourceFile) (component : Component) (line : List ℕ)
    → AreHeld (Some file) names files → IsAlone files component → AreHeld (Some file) names others → IsNotTaken others line → ⊥
never_other file names files others component line held it there refused =
    let spelled : AllSpell files refused.components = all_spell others files refused.components (alike file names others files there held) refused.sound.spelled in
    let one : refused.components ≡ component ∷ [] = same_components files refused.components (component ∷ []) spelled it.sound.spelled in
    not_other others refused.components refused.name refused.other component one (as_many others refused.components refused.sound.spelled) it.alone

-- what can be answered is not declined
pub never_declined : (file : List ℕ → Option (List ℕ)) (question : Question) (names : List (List ℕ)) (files others : List SourceFile) (line : List ℕ)
    → AreHeld (Some file) names files → AreAnswerable question files → AreHeld (Some file) names others → Declined question others line → ⊥
never_declined file Check names files others line held good there refused = never_unsound file names files others good.0 line held good.1 there refused
never_declined file Render names files others line held good there (inl refused) = never_unsound file names files others (good.0 ∷ []) line held good.1.sound there refused
never_declined file Render names files others line held good there (inr refused) = never_other file names files others good.0 line held good.1 there refused
never_declined file Frames names files others line held good there (inl refused) = never_unsound file names files others (good.0 ∷ []) line held good.1.sound there refused
never_declined file Frames names files others line held good there (inr refused) = never_other file names files others good.0 line held good.1 there refused

-- the second of several files is named
pub second_other : (files : List SourceFile) (components : List Component) (fallback : SourceFile) → 2 ≤ length files → IsOther files components (slice_index_or files 1 fallback).name
second_other [] components fallback many = absurd (omega (arith, many))
second_other (file ∷ []) components fallback many = absurd (omega (arith, many))
second_other (file ∷ second ∷ files) components fallback many = several file second files components

-- and else the only one, where its component does not stand alone
pub first_other : (files : List SourceFile) (components : List Component) (fallback : SourceFile) (component : Component) → length files ≡ 1 → length components ≡ 1
    → component ≡ slice_index_or components 0 component → stands_alone component ≡ false → IsOther files components (slice_index_or files 0 fallback).name
first_other [] components fallback component one many k differs = absurd (omega (arith, one))
first_other (x ∷ z ∷ others) components fallback component one many k differs = absurd (omega (arith, one))
first_other (x ∷ []) [] fallback component one many k differs = absurd (omega (arith, many))
first_other (x ∷ []) (y ∷ z ∷ others) fallback component one many k differs = absurd (omega (arith, many))
first_other (x ∷ []) (y ∷ []) fallback component one many k differs = not_alone x y (ap stands_alone (sym k) ∙ differs)

-- a program of one file is of one component
pub alone_of : (components : List Component) (component : Component) → length components ≡ 1 → component ≡ slice_index_or components 0 component → stands_alone component ≡ true → AreAlone components
alone_of [] component many k alone = absurd (omega (arith, many))
alone_of (y ∷ z ∷ others) component many k alone = absurd (omega (arith, many))
alone_of (y ∷ []) component many k alone = record { component = y; is = refl; alone = ap stands_alone (sym k) ∙ alone }

-- the refusal of a program that is not taken
pub refused_other : (files : List SourceFile) (components : List Component) (name : List ℕ) (s : Stop) → IsSound files components → IsOther files components name
    → Refuses s status.Refused (refused_line name) → OnStop s (RefusesAsOther files)
refused_other files components name s sound other refuses =
    on_refuses s status.Refused (refused_line name) (RefusesAsOther files) refuses
    (refl, record { components = components; name = name; sound = sound; other = other; is = refl })

-- what refuses a program declines any question about it
pub declines : (question : Question) (files : List SourceFile) (got : Status) (line : List ℕ) → RefusesFor files got line → Declines question files got line
declines Check files got line refused = refused
declines Render files got line refused = (refused.0, inl refused.1)
declines Frames files got line refused = (refused.0, inl refused.1)

-- a component whose parts it comes to breaks no rule where it stands
comes : (m : Resolves Meaning) (it : Placing Meaning) → m ≡ fine it → finding_or 0 m None ≡ None
comes m it e = ap (λ (z : Resolves Meaning). finding_or 0 z None) e

-- a component that its file spells, that breaks no rule and stands alone can be drawn
drawable : (files : List SourceFile) (component : Component) → IsSound files (component ∷ []) → stands_alone component ≡ true → IsDrawable component
drawable files component it alone =
    let parts = parts_come files component it.spelled it.sound alone in
    record { resolves = comes (component_meaning (home_of (component ∷ []) 0 component) component) parts.0 parts.1; drawn = never_stuck files component it.spelled it.sound alone }

module _ (files : List SourceFile) (components : List Component) (sound : IsSound files components) (it : AreAlone components) where
  sound_alone : IsSound files (it.component ∷ [])
  sound_alone = subst (λ (cs : List Component). IsSound files cs) it.is sound

  pub is_alone : IsAlone files it.component
  is_alone = record { sound = sound_alone; alone = it.alone }

  -- so there is no component without lines
  pub never_without : (meant : Component → Option (List (List ℕ))) → ((component : Component) → components ≡ component ∷ [] → Answers component (meant component) None) → ⊥
  never_without meant answers = answers it.component it.is (drawable files it.component sound_alone it.alone)

  -- and the lines are those that are meant
  pub lines_meant : (meant : Component → Option (List (List ℕ))) (lines : List (List ℕ)) → ((component : Component) → components ≡ component ∷ [] → Answers component (meant component) (Some lines))
      → meant it.component ≡ Some lines
  lines_meant meant lines answers = (answers it.component it.is).1

-- any question is declined where the program breaks a rule
pub declined-rules : (question : Question) (files : List SourceFile) (got : Status) (line : List ℕ) → RefusesFor files got line → Declines question files got line
declined-rules Check files got line why = why
declined-rules Render files got line why = (why.0, inl why.1)
declined-rules Frames files got line why = (why.0, inl why.1)
