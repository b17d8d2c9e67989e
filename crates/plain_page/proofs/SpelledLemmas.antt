-- The component that a file spells can run.
use Rattle.std.proofs.Common.{◌≡◌, ℕ, zero, suc, ◌+◌, ◌<◌, List, [], ◌∷◌, length, refl, sym, subst, arith}
use Rattle.std.specs.Prelude.{All}
use Rattle.cs_ast.specs.declared.code.Code.{Code}
use Rattle.cs_ast.specs.declared.code.Code.TheVariants as code
use Rattle.cs_ast.specs.declared.operators.BinaryOp.TheVariants as op
use Rattle.cs_meaning.specs.FirstForms.{IsNumber, IsStatement, AreStatements, literal, field, joined, assigned, stepped, block, none, more}
use Rattle.first_click.specs.declared.component.Component.{Component}
use Rattle.first_click.specs.declared.component.Method.{Method}
use Rattle.first_click.specs.Component.{Spells}
use Rattle.first_click.proofs.FormLemmas.{Holds, IsBlockOf, spelled-numbers, spelled-handlers, spelled-methods}
use Rattle.first_click.proofs.Reading.WeightLemmas.{light}
use Rattle.plain_page.specs.Runnable.{IsRunnable}

-- the first forms
first_forms : (count : ℕ) → Holds count (IsNumber count) (IsStatement count)
first_forms count = record {
  number = λ n. literal n;
  name = λ k within. field k within;
  sum = λ a b x y. joined op.Add a b refl x y;
  difference = λ a b x y. joined op.Subtract a b refl x y;
  product = λ a b x y. joined op.Multiply a b refl x y;
  assigned = λ k e within number. assigned k e within number;
  stepped = λ k o within. stepped k o within;
}

in_order : (count : ℕ) (statements : List Code) → All (IsStatement count) statements → AreStatements count statements
in_order count [] all = none
in_order count (one ∷ others) all =
    more one others (all 0 one (omega arith)) (in_order count others (λ k d within. all (suc k) d (omega arith)))

-- a block of statements is a statement
blocks : (count : ℕ) (methods : List Method) → All (IsBlockOf (IsStatement count)) methods → All (λ (method : Method). IsStatement count method.body) methods
blocks count methods all k d within =
    let found = all k d within in
    subst (IsStatement count) (sym found.1) (block found.0 (in_order count found.0 found.2))

pub spelled_runs : (path text : List ℕ) (component : Component) → Spells path text component → IsRunnable component
spelled_runs path text component spelled =
    let count = length component.fields in
    record {
      numbers = spelled-numbers path text component spelled;
      statements = blocks (length component.fields) component.methods
          (spelled-methods path text component spelled (IsNumber (length component.fields)) (IsStatement (length component.fields)) (first_forms (length component.fields)));
      handled = spelled-handlers path text component spelled;
      light = light text spelled.pieces spelled.end component.fields component.items spelled.laid spelled.short spelled.few spelled.tree;
    }
