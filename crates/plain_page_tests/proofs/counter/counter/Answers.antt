use Rattle.std.proofs.Common.{◌≡◌, ℕ, zero, suc, ◌<◌, ◌≤◌, List, [], ◌∷◌, ◌++◌, arith, sym, ◌∙◌, ap, subst}
use Rattle.std.specs.Prelude.{All}
use Rattle.cs_meaning.specs.FirstForms.{IsStatement}
use Rattle.first_click.specs.declared.component.Component.{Component}
use Rattle.first_click.specs.declared.component.Field.{Field}
use Rattle.first_click.specs.declared.component.Item.{Item}
use Rattle.first_click.specs.declared.component.Method.{Method}
use Rattle.plain_page.specs.Runnable.{IsNumeric, IsRunnable}
use Rattle.first_click.specs.Weight.{weight}
use Rattle.plain_page.proofs.FreshLemmas.{weights-cons}
use Rattle.plain_page_tests.proofs.counter.counter.Goals as goal

all_one : {X : Type 0} (P : X → Type 0) (x : X) → P x → All P (x ∷ [])
all_one P x holds zero d within = holds
all_one P x holds (suc k) d within = absurd (omega arith)

-- one number, one method, one handler and one light item
runs : (field : Field) (method : Method) (it : Item) → IsNumeric field → IsStatement 1 method.body → weight it ≤ 1000 →
    IsRunnable (record { fields = field ∷ []; methods = method ∷ []; handlers = 0 ∷ []; items = it ∷ [] })
runs field method it number statement light = record {
  numbers = all_one IsNumeric field number;
  statements = all_one (λ (method : Method). IsStatement 1 method.body) method statement;
  handled = all_one (λ position. position < 1) 0 (omega arith);
  light = omega (arith, light, weights-cons it []);
}

-- an item pushed behind none
alone : {X : Type 0} (x : X) (before after : List X) → before ≡ [] → after ≡ before ++ x ∷ [] → x ∷ [] ≡ after
alone x before after none is = sym (is ∙ ap (λ front. front ++ x ∷ []) none)

pub returns : goal.returns
returns c =
    let fields = alone c.new.result c.new-fields.result c.push.new.self c.new-fields.ensures c.in_ok-push.ensures.ok in
    let methods = alone c.in_ok-adding.field-0 c.new-methods.result c.push-2.new.self c.new-methods.ensures c.in_ok-push-2.ensures.ok in
    let handlers = alone 0 c.new-handlers.result c.push-3.new.self c.new-handlers.ensures c.in_ok-push-3.ensures.ok in
    let items = alone c.in_ok-button.field-0 c.new-items.result c.push-4.new.self c.new-items.ensures c.in_ok-push-4.ensures.ok in
    let number : IsNumeric c.new.result = (_, ap (λ (field : Field). field.value) c.new.ensures) in
    let make : List Field → List Method → List ℕ → List Item → Component = λ f m h i. record { fields = f; methods = m; handlers = h; items = i } in
    let same = ap (λ f. make f (c.in_ok-adding.field-0 ∷ []) (0 ∷ []) (c.in_ok-button.field-0 ∷ [])) fields
    ∙ ap (λ m. make c.push.new.self m (0 ∷ []) (c.in_ok-button.field-0 ∷ [])) methods
    ∙ ap (λ h. make c.push.new.self c.push-2.new.self h (c.in_ok-button.field-0 ∷ [])) handlers
    ∙ ap (λ i. make c.push.new.self c.push-2.new.self c.push-3.new.self i) items in
    subst IsRunnable same (runs c.new.result c.in_ok-adding.field-0 c.in_ok-button.field-0 number c.in_ok-adding.ensures c.in_ok-button.ensures)
