-- What is said of a component that is drawn, and of one that can't be.
use Rattle.std.proofs.Common.{◌≡◌, ◌∙◌, refl, sym, ap, subst, ℕ, List, [], ◌∷◌, map, IfOk}
use Rattle.std.specs.Prelude.{Option, Some, None, Result, Ok, Err, option_map, slice_get}
use Rattle.cs_meaning.specs.declared.fault.Fault.TheVariants as code_fault
use Rattle.cs_rules.specs.Judged as judged
use Rattle.cs_rules.specs.Judged.{Judged, fine}
use Rattle.cs_rules.specs.Judged.{◌>>=◌ as ◌>>>=◌}
use Rattle.drawing_meaning.specs.declared.fault.PageFault.{PageFault}
use Rattle.drawing_meaning.specs.declared.fault.PageFault.TheVariants as fault
use Rattle.frame_compiler.specs.Compiles.{Compiles, finding_or, first_broken, made_by, meaning_of}
use Rattle.frame_parts.specs.Components.{Meaning, component_meaning}
use Rattle.frame_program.specs.declared.compiled.Compiled.{Compiled}
use Rattle.frame_program.specs.declared.compiled.CompiledComponent.{CompiledComponent}
use Rattle.frame_text.specs.Frames.{items_listed, Listed}
use Rattle.page_meaning.specs.Fresh as fresh
use Rattle.page_meaning.specs.Fresh.{First, Shown, fresh_alone, items_shown}
use Rattle.page_meaning.specs.Resolved.{Resolves}
use Rattle.razor_ast.specs.declared.component.Component.{Component}
use Rattle.razor_rules.specs.Programs.{home_of}
use Rattle.first_rendering.specs.Alone.{items_alone}
use Rattle.first_rendering.specs.First as first
use Rattle.first_rendering.specs.First.{FirstItems, first_items, first_page, page_of}
use Rattle.first_rendering.specs.Tried.{TriesItems, TriesPage}
use Rattle.first_rendering.proofs.LawLemmas.{Lone, lone, page-alone}
use Rattle.program_lines.specs.Lines.{page_lines, frame_lines, Answers}
use Rattle.program_lines.proofs.AlikeLemmas.{Alike, items-alike}

-- what holds of the value, if there is one, may be put otherwise
pub if-ok : {T E : Type 0} (r : Result T E) (P Q : T → Type 0) → ((x : T) → P x → Q x) → IfOk r P → IfOk r Q
if-ok (Ok x) P Q f p = f x p
if-ok (Err e) P Q f p = tt

-- a fault that isn't want of memory is the fault of the rendering
abbrev IsMemory : PageFault → Type 0
IsMemory met = met ≡ fault.Code code_fault.Oom

pub page-fault : (met : PageFault) (it : First) → TriesPage (Err met) it → (IsMemory met → ⊥) → it ≡ fresh.ended met
page-fault (fault.Code code_fault.Oom) it tries other = absurd (other refl)
page-fault (fault.Code code_fault.DivideByZero) it tries other = tries
page-fault (fault.Code code_fault.Overflow) it tries other = tries
page-fault (fault.Code code_fault.NullUse) it tries other = tries
page-fault (fault.Code code_fault.IndexOutOfRange) it tries other = tries
page-fault (fault.Code code_fault.FuelSpent) it tries other = tries
page-fault (fault.Code code_fault.CallDepth) it tries other = tries
page-fault (fault.Code code_fault.ValueTooLarge) it tries other = tries
page-fault fault.DuplicateKey it tries other = tries
page-fault fault.PageTooLarge it tries other = tries

pub items-fault : (met : PageFault) (it : FirstItems) → TriesItems (Err met) it → (IsMemory met → ⊥) → it ≡ first.ended met
items-fault (fault.Code code_fault.Oom) it tries other = absurd (other refl)
items-fault (fault.Code code_fault.DivideByZero) it tries other = tries
items-fault (fault.Code code_fault.Overflow) it tries other = tries
items-fault (fault.Code code_fault.NullUse) it tries other = tries
items-fault (fault.Code code_fault.IndexOutOfRange) it tries other = tries
items-fault (fault.Code code_fault.FuelSpent) it tries other = tries
items-fault (fault.Code code_fault.CallDepth) it tries other = tries
items-fault (fault.Code code_fault.ValueTooLarge) it tries other = tries
items-fault fault.DuplicateKey it tries other = tries
items-fault fault.PageTooLarge it tries other = tries

-- what is compiled breaks no rule
fine-alone : (m : Resolves Meaning) (all : List Meaning) → (made_by m >>>= (λ one. fine (one ∷ []))) ≡ fine all → finding_or 0 m None ≡ None
fine-alone (fine it) all e = refl
fine-alone (judged.breaks rule place) all e = absurd (cc)

compiled-resolves : (component : Component) (compiled : Compiled) → Compiles (component ∷ []) compiled → first_broken (component ∷ []) 0 (component ∷ []) ≡ None
compiled-resolves component compiled known = fine-alone (component_meaning (home_of (component ∷ []) 0 component) component) (map meaning_of compiled.components) known.meanings

not-stuck : (it : First) (lines : List (List ℕ)) → page_lines it ≡ Some lines → it ≡ fresh.stuck → ⊥
not-stuck (fresh.page nodes) lines e is = absurd (cc)
not-stuck (fresh.ended met) lines e is = absurd (cc)
not-stuck fresh.stuck lines e is = absurd (cc)

no-lines-stuck : (it : First) → page_lines it ≡ None → it ≡ fresh.stuck
no-lines-stuck (fresh.page nodes) e = absurd (cc)
no-lines-stuck (fresh.ended met) e = absurd (cc)
no-lines-stuck fresh.stuck e = refl

answers : (component : Component) (compiled : Compiled) (meant said : Option (List (List ℕ))) → Compiles (component ∷ []) compiled → said ≡ meant
    → ((lines : List (List ℕ)) → meant ≡ Some lines → fresh_alone component ≡ fresh.stuck → ⊥) → (meant ≡ None → fresh_alone component ≡ fresh.stuck) → Answers component meant said
answers component compiled meant (Some lines) known is there gone =
    (record { resolves = compiled-resolves component compiled known; drawn = there lines (sym is) }, sym is)
answers component compiled meant None known is there gone = λ drawable. drawable.drawn (gone (sym is))

-- of a compiled component the lines of its page are said
pub page-answers : (components : List Component) (component : Component) (compiled : Compiled) (said : Option (List (List ℕ))) → components ≡ component ∷ [] → Compiles components compiled
    → first_page compiled ≡ fresh_alone component → said ≡ page_lines (first_page compiled) → Answers component (page_lines (fresh_alone component)) said
page-answers components component compiled said is known law same =
    answers component compiled (page_lines (fresh_alone component)) said (subst (λ (xs : List Component). Compiles xs compiled) is known) (same ∙ ap page_lines law)
    (not-stuck (fresh_alone component)) (no-lines-stuck (fresh_alone component))

-- where there are lines of frames there is a page, and where there are none there is none
page-there : (listed : Option Listed) (shown : Option Shown) (lines : List (List ℕ)) (finish : Listed → List (List ℕ)) → Alike listed shown → option_map finish listed ≡ Some lines
    → fresh.nodes_of shown ≡ fresh.stuck → ⊥
page-there None None lines finish same e is = absurd (cc)
page-there (Some one) (Some other) lines finish same e is = absurd (cc)
page-there None (Some other) lines finish same e is = same
page-there (Some one) None lines finish same e is = same

page-gone : (listed : Option Listed) (shown : Option Shown) (finish : Listed → List (List ℕ)) → Alike listed shown → option_map finish listed ≡ None → fresh.nodes_of shown ≡ fresh.stuck
page-gone None None finish same e = refl
page-gone (Some one) (Some other) finish same e = absurd (cc)
page-gone None (Some other) finish same e = absurd same
page-gone (Some one) None finish same e = absurd same

frames-there : (name : List ℕ) (it : FirstItems) (lines : List (List ℕ)) → frame_lines name it ≡ Some lines → page_of it ≡ fresh.stuck → ⊥
frames-there name (first.made items) lines e is = page-there (items_listed items 0) (items_shown 1 items 0) lines _ (items-alike 1 items 0 0) e is
frames-there name (first.ended met) lines e is = absurd (cc)
frames-there name first.stuck lines e is = absurd (cc)

frames-gone : (name : List ℕ) (it : FirstItems) → frame_lines name it ≡ None → page_of it ≡ fresh.stuck
frames-gone name (first.made items) e = page-gone (items_listed items 0) (items_shown 1 items 0) _ (items-alike 1 items 0 0) e
frames-gone name (first.ended met) e = absurd (cc)
frames-gone name first.stuck e = refl

named : (component : Component) (all : List CompiledComponent) → Lone component all → option_map (λ (one : CompiledComponent). one.name) (slice_get all 0) ≡ Some component.name
named component all it = ap (option_map (λ (one : CompiledComponent). one.name)) it.there ∙ ap Some it.named

-- of a compiled component the lines of its frames are said
pub frame-answers : (components : List Component) (component : Component) (compiled : Compiled) (said : Option (List (List ℕ))) → components ≡ component ∷ [] → Compiles components compiled
    → (Compiles (component ∷ []) compiled → first_items compiled ≡ items_alone component)
    → ((name : List ℕ) → option_map (λ (one : CompiledComponent). one.name) (slice_get compiled.components 0) ≡ Some name → said ≡ frame_lines name (first_items compiled))
    → Answers component (frame_lines component.name (items_alone component)) said
frame-answers components component compiled said is known law same =
    let alone : Compiles (component ∷ []) compiled = subst (λ (xs : List Component). Compiles xs compiled) is known in
    let it = lone component compiled.components alone.meanings in
    answers component compiled (frame_lines component.name (items_alone component)) said alone
    (same component.name (named component compiled.components it) ∙ ap (frame_lines component.name) (law alone))
    (λ lines e stuck. frames-there component.name (items_alone component) lines e (page-alone component ∙ stuck))
    (λ none. sym (page-alone component) ∙ frames-gone component.name (items_alone component) none)

-- of a component whose code breaks a rule nothing is said
pub broken-answers : (components : List Component) (component : Component) (meant : Option (List (List ℕ))) → components ≡ component ∷ []
    → (first_broken components 0 components ≡ None → ⊥) → Answers component meant None
broken-answers components component meant is broken = λ drawable. broken (subst (λ (xs : List Component). first_broken xs 0 xs ≡ None) (sym is) drawable.resolves)
