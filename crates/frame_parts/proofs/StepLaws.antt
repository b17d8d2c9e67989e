-- What parts come to one after another, with what has a number by later.
use Rattle.std.proofs.Common.{◌≡◌, ℕ, List, [], ◌∷◌, ◌++◌, map, refl, sym, ap, ◌∙◌}
use Rattle.std.proofs.lemmas.List.Elements.{filter_map-append}
use Rattle.std.specs.BTreeMap.{insert_entry}
use Rattle.std.specs.Ordering.{nat_cmp}
use Rattle.cs_ast.specs.declared.code.Code.{Code}
use Rattle.cs_ast.specs.declared.expression.Expr.{Expr}
use Rattle.cs_ast.specs.declared.scope.Scope.{Scope}
use Rattle.cs_rules.specs.declared.checked.Checked.{Checked}
use Rattle.cs_rules.specs.Judged.{Judged, fine, breaks}
use Rattle.cs_rules.specs.Judged as judging
use Rattle.cs_rules.specs.Judged.{◌>>=◌ as ◌>>>=◌}
use Rattle.cs_rules.specs.Trees.{value_in}
use Rattle.cs_typing.specs.Types.{Signature}
use Rattle.drawing_meaning.specs.Acts.{Act}
use Rattle.page_meaning.specs.Placed.{Placed, body, template, body_in, template_in, with_number, bodies_in, templates_in, with_entries}
use Rattle.page_meaning.specs.Resolved as page
use Rattle.page_meaning.specs.Resolved.{Resolves, Placing, placing, behind_placed}
use Rattle.page_meaning.specs.Resolved.{◌>>=◌ as ◌>>~◌}
use Rattle.frame_parts.specs.Steps as steps
use Rattle.frame_parts.specs.Steps.{Numbered, Steps, step, with_placed, code_in, ◌>>=◌}

more_entries : {A : Type 0} (entries xs ys : List (ℕ × A)) → with_entries entries (xs ++ ys) ≡ with_entries (with_entries entries xs) ys
more_entries entries [] ys = refl
more_entries entries (x ∷ xs) ys = more_entries (insert_entry nat_cmp entries x.0 x.1) xs ys

pub placed_more : (xs ys : List (ℕ × Placed)) (before : Numbered) → with_placed (xs ++ ys) before ≡ with_placed ys (with_placed xs before)
placed_more xs ys before =
    ap (λ (all : List (ℕ × Code)). record { bodies = with_entries before.bodies all; templates = with_entries before.templates (templates_in (xs ++ ys)) })
    (filter_map-append (λ (one : ℕ × Placed). with_number one.0 (body_in one.1)) xs ys)
    ∙ ap (λ (all : List (ℕ × Code)). record { bodies = all; templates = with_entries before.templates (templates_in (xs ++ ys)) }) (more_entries before.bodies (bodies_in xs) (bodies_in ys))
    ∙ ap (λ (all : List (ℕ × List Act)). record { bodies = with_entries (with_entries before.bodies (bodies_in xs)) (bodies_in ys); templates = with_entries before.templates all })
    (filter_map-append (λ (one : ℕ × Placed). with_number one.0 (template_in one.1)) xs ys)
    ∙ ap (λ (all : List (ℕ × List Act)). record { bodies = with_entries (with_entries before.bodies (bodies_in xs)) (bodies_in ys); templates = all })
    (more_entries before.templates (templates_in xs) (templates_in ys))

step_behind : {A : Type 0} (placed : List (ℕ × Placed)) (m : Resolves A) (before : Numbered) → step (behind_placed placed m) before ≡ step m (with_placed placed before)
unfolding step
step_behind placed (fine it) before = ap (λ (now : Numbered). fine (it.made, now)) (placed_more placed it.placed before)
step_behind placed (breaks rule place) before = refl

pub step_then : {A B : Type 0} (m : Resolves A) (f : A → Resolves B) (before : Numbered) → step (m >>~ f) before ≡ (step m before >>>= (λ it. step (f it.0) it.1))
unfolding step
step_then (fine it) f before = step_behind it.placed (f it.made) before
step_then (breaks rule place) f before = refl

pub step_alone : {A : Type 0} (made : A) (before : Numbered) → step (page.alone made) before ≡ fine (made, before)
unfolding step
step_alone made before = refl

pub step_judged : {A : Type 0} (it : Judged A) (before : Numbered) → step (page.judged it) before ≡ steps.judged it before
unfolding step
step_judged (fine x) before = refl
step_judged (breaks rule place) before = refl

pub step_body : (number : ℕ) (s : Signature) (code : Code) (before : Numbered) → step (page.put number (body s code)) before ≡ steps.put_body number code before
unfolding step
step_body number s code before = refl

pub step_template : (number : ℕ) (s : Signature) (acts : List Act) (before : Numbered) → step (page.put number (template s acts)) before ≡ steps.put_template number acts before
unfolding step
step_template number s acts before = refl

then_on : {A B : Type 0} (it : Judged (A × Numbered)) (f g : A → Steps B) → ((x : A) (now : Numbered) → f x now ≡ g x now) → (it >>>= (λ one. f one.0 one.1)) ≡ (it >>>= (λ one. g one.0 one.1))
then_on (fine one) f g same = same one.0 one.1
then_on (breaks rule place) f g same = refl

-- one part and later another
pub then_by : {A B : Type 0} (m : Resolves A) (f : A → Resolves B) (n : Steps A) (g : A → Steps B) →
    ((now : Numbered) → step m now ≡ n now) → ((x : A) (now : Numbered) → step (f x) now ≡ g x now) → (before : Numbered) → step (m >>~ f) before ≡ (n >>= g) before
then_by m f n g first next before =
    step_then m f before
    ∙ ap (λ (it : Judged (_ × Numbered)). it >>>= (λ one. step (f one.0) one.1)) (first before)
    ∙ then_on (n before) (λ x. step (f x)) g next

value_by : (it : Judged Checked) (now : Numbered) → step (page.judged it >>~ (λ x. page.alone x.code)) now ≡ steps.judged (it >>>= (λ x. fine x.code)) now
unfolding step
value_by (fine x) now = refl
value_by (breaks rule place) now = refl

pub value_law : (s : Scope) (a : Expr) (before : Numbered) → step (page.value_code s a) before ≡ steps.judged (code_in s a) before
value_law s a before = value_by (value_in s a) before

pub each_law : {A B : Type 0} (resolve : A → Resolves B) (one : A → Steps B) → ((x : A) (now : Numbered) → step (resolve x) now ≡ one x now) →
    (xs : List A) (before : Numbered) → step (page.each resolve xs) before ≡ steps.each one xs before
each_law resolve one same [] before = step_alone [] before
each_law resolve one same (x ∷ xs) before =
    then_by (resolve x) (λ y. page.each resolve xs >>~ (λ ys. page.alone (y ∷ ys))) (one x) (λ y. steps.each one xs >>= (λ ys. steps.alone (y ∷ ys))) (same x)
    (λ y now. then_by (page.each resolve xs) (λ ys. page.alone (y ∷ ys)) (steps.each one xs) (λ ys. steps.alone (y ∷ ys)) (each_law resolve one same xs) (λ ys later. step_alone (y ∷ ys) later) now)
    before

pub each_of_law : {A B : Type 0} (resolve : A → Resolves (List B)) (one : A → Steps (List B)) → ((x : A) (now : Numbered) → step (resolve x) now ≡ one x now) →
    (xs : List A) (before : Numbered) → step (page.each_of resolve xs) before ≡ steps.each_of one xs before
each_of_law resolve one same [] before = step_alone [] before
each_of_law resolve one same (x ∷ xs) before =
    then_by (resolve x) (λ ys. page.each_of resolve xs >>~ (λ more. page.alone (ys ++ more))) (one x) (λ ys. steps.each_of one xs >>= (λ more. steps.alone (ys ++ more))) (same x)
    (λ ys now. then_by (page.each_of resolve xs) (λ more. page.alone (ys ++ more)) (steps.each_of one xs) (λ more. steps.alone (ys ++ more)) (each_of_law resolve one same xs) (λ more later. step_alone (ys ++ more) later) now)
    before

judged_twice : {A : Type 0} (first : Judged A) (others : Judged (List A)) (before : Numbered) →
    (steps.judged first >>= (λ y. steps.judged others >>= (λ ys. steps.alone (y ∷ ys)))) before ≡ steps.judged (first >>>= (λ y. others >>>= (λ ys. fine (y ∷ ys)))) before
judged_twice (fine y) (fine ys) before = refl
judged_twice (fine y) (breaks rule place) before = refl
judged_twice (breaks rule place) others before = refl

-- where nothing gets a number
pub each_judged : {A B : Type 0} (resolve : A → Resolves B) (one : A → Judged B) → ((x : A) (now : Numbered) → step (resolve x) now ≡ steps.judged (one x) now) →
    (xs : List A) (before : Numbered) → step (page.each resolve xs) before ≡ steps.judged (judging.each one xs) before
each_judged resolve one same [] before = step_alone [] before
each_judged resolve one same (x ∷ xs) before =
    then_by (resolve x) (λ y. page.each resolve xs >>~ (λ ys. page.alone (y ∷ ys))) (steps.judged (one x)) (λ y. steps.judged (judging.each one xs) >>= (λ ys. steps.alone (y ∷ ys))) (same x)
    (λ y now. then_by (page.each resolve xs) (λ ys. page.alone (y ∷ ys)) (steps.judged (judging.each one xs)) (λ ys. steps.alone (y ∷ ys)) (each_judged resolve one same xs) (λ ys later. step_alone (y ∷ ys) later) now)
    before
    ∙ judged_twice (one x) (judging.each one xs) before

-- a last part that makes something of the one before
pub then_made : {A B : Type 0} (m : Resolves A) (n : Steps A) (f : A → B) → ((now : Numbered) → step m now ≡ n now) → (before : Numbered) →
    step (m >>~ (λ x. page.alone (f x))) before ≡ (n >>= (λ x. steps.alone (f x))) before
then_made m n f first before = then_by m (λ x. page.alone (f x)) n (λ x. steps.alone (f x)) first (λ x now. step_alone (f x) now) before

-- what nothing gets a number in may be made in two steps
pub judged_made : {A B : Type 0} (it : Judged A) (f : A → B) (before : Numbered) → (steps.judged it >>= (λ x. steps.alone (f x))) before ≡ steps.judged (it >>>= (λ x. fine (f x))) before
judged_made (fine x) f before = refl
judged_made (breaks rule place) f before = refl

pub judged_through : {A B C : Type 0} (it : Judged A) (f : A → B) (g : B → C) (before : Numbered) →
    (steps.judged it >>= (λ x. steps.alone (g (f x)))) before ≡ (steps.judged (it >>>= (λ x. fine (f x))) >>= (λ y. steps.alone (g y))) before
judged_through (fine x) f g before = refl
judged_through (breaks rule place) f g before = refl

pub value_made : {B : Type 0} (s : Scope) (a : Expr) (f : Code → B) (before : Numbered) →
    step (page.value_code s a >>~ (λ code. page.alone (f code))) before ≡ steps.judged (code_in s a >>>= (λ code. fine (f code))) before
value_made s a f before = then_made (page.value_code s a) (steps.judged (code_in s a)) f (value_law s a) before ∙ judged_made (code_in s a) f before

made_last : {A B C D : Type 0} (it : Judged (A × Numbered)) (p : A → Steps B) (f : A → B → C) (g : C → D) →
    ((it >>>= (λ x. (p x.0 >>= (λ y. steps.alone (f x.0 y))) x.1)) >>>= (λ z. steps.alone (g z.0) z.1))
    ≡ (it >>>= (λ x. (p x.0 >>= (λ y. steps.alone (g (f x.0 y)))) x.1))
made_last (breaks rule place) p f g = refl
made_last (fine x) p f g = within (p x.0 x.1)
  where
    within : (one : Judged (_ × Numbered)) → ((one >>>= (λ y. steps.alone (f x.0 y.0) y.1)) >>>= (λ z. steps.alone (g z.0) z.1)) ≡ (one >>>= (λ y. steps.alone (g (f x.0 y.0)) y.1))
    within (fine y) = refl
    within (breaks rule place) = refl

-- two parts and what is made of both
pub made_through : {A B C D : Type 0} (n : Steps A) (p : A → Steps B) (f : A → B → C) (g : C → D) (before : Numbered) →
    ((n >>= (λ x. p x >>= (λ y. steps.alone (f x y)))) >>= (λ z. steps.alone (g z))) before ≡ (n >>= (λ x. p x >>= (λ y. steps.alone (g (f x y))))) before
made_through n p f g before = made_last (n before) p f g
