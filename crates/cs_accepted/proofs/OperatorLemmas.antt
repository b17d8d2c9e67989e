-- Operators that are accepted take the types of their operands.
use Rattle.std.proofs.Common.{◌≡◌, List, refl, sym, ap, subst, ◌∙◌, inl, inr}
use Rattle.std.specs.Prelude.{true, ◌||◌, if◌then◌else◌, Some}
use Rattle.text_core.specs.declared.place.Place.{Place}
use Rattle.cs_ast.specs.declared.cs_type.CsType.{CsType}
use Rattle.cs_ast.specs.declared.cs_type.CsType.TheVariants as t
use Rattle.cs_ast.specs.declared.code.Code.TheVariants as c
use Rattle.cs_ast.specs.declared.member.Member.{Member}
use Rattle.cs_ast.specs.declared.operators.AssignOp.{AssignOp}
use Rattle.cs_ast.specs.declared.operators.AssignOp.TheVariants as assign
use Rattle.cs_ast.specs.declared.operators.BinaryOp.{BinaryOp}
use Rattle.cs_ast.specs.declared.operators.BinaryOp.TheVariants as binary
use Rattle.cs_rules.specs.declared.checked.Checked.{Checked}
use Rattle.cs_rules.specs.declared.checked.ExprType.{ExprType}
use Rattle.cs_rules.specs.declared.checked.ExprType.TheVariants.{Of, Null, Markup}
use Rattle.cs_rules.specs.declared.rule.Rule.TheVariants.{TypeMismatch}
use Rattle.cs_rules.specs.Judged.{fine, mismatch, known, ◌>>=◌}
use Rattle.cs_rules.specs.Types.{fits, common_type, wants, drops_argument, fits_type, may_be_null}
use Rattle.cs_rules.specs.Operators.{is_text, is_shown, shown, is_nullable, alike, sum_type, either_type, may_compare, are_compared, comparison_type, binary_type, operator_of, given_type, plain_type, taken_type}
use Rattle.cs_typing.specs.Values.{HasNull}
use Rattle.cs_typing.specs.Values as has
use Rattle.cs_typing.specs.Operators.{Shows, IsArithmetic, IsOrder, Combines, BinaryTakes, AssignTakes}
use Rattle.cs_typing.specs.Operators as op
use Rattle.cs_typing.specs.Expressions.{Surroundings, CodeHas}
use Rattle.cs_typing.specs.Expressions as code
use Rattle.cs_accepted.specs.Accepted.{IfFine, HasOf, HasType, ValueFits}
use Rattle.cs_accepted.proofs.Judging.{then_fine, weaker_fine, known_fine, tested_fine, either_fine}
use Rattle.cs_accepted.proofs.TypeLemmas.{Form, form, int, bool, text, record_of, list, callback, fragment, change, args, nothing, either_passes, no_callback, exactly, int_alone, bool_alone, wants_fine, common_has}
use Rattle.cs_rules.specs.Written.{is_comparable}

-- a type of operands that is no callback
abbrev pub Plain : CsType → Type 0
Plain wanted = (argument : CsType) → wanted ≡ t.Callback (Some argument) → ⊥

-- what two operands have, and what an operator gives of them
pub record Joined (H K : CsType → Type 0) (a : ExprType) (o : BinaryOp) (given : ExprType) : Type 0 where
  pub one : CsType
  pub other : CsType
  pub type : CsType
  pub left : H one
  pub right : K other
  pub is : given ≡ Of type
  pub takes : Combines o one other type
  pub own : (known : CsType) → a ≡ Of known → known ≡ one

-- the same type on both sides
pub record Alike (H K : CsType → Type 0) (a : ExprType) (taken result : CsType) (given : ExprType) : Type 0 where
  pub first : H taken
  pub second : K taken
  pub gives : given ≡ Of result
  pub own_one : (known : CsType) → a ≡ Of known → known ≡ taken

-- what shows a text
pub record Shown (G : CsType → Type 0) (given : ExprType) : Type 0 where
  pub as_type : CsType
  pub shows : Shows as_type
  pub has_it : G as_type
  pub same : (known : CsType) → given ≡ Of known → known ≡ as_type

shown_form : (G : CsType → Type 0) (type : CsType) → Form type → is_shown (Of type) ≡ true → G type → Shown G (Of type)
unfolding is_shown
shown_form G type int e h = record { as_type = t.Int; shows = op.int; has_it = h; same = λ known is. cc }
shown_form G type bool e h = record { as_type = t.Bool; shows = op.bool; has_it = h; same = λ known is. cc }
shown_form G type text e h = record { as_type = t.Text; shows = op.text; has_it = h; same = λ known is. cc }
shown_form G type (record_of name) e h = absurd (cc)
shown_form G type (list item) e h = absurd (cc)
shown_form G type (callback argument) e h = absurd (cc)
shown_form G type (fragment argument) e h = absurd (cc)
shown_form G type change e h = absurd (cc)
shown_form G type args e h = absurd (cc)
shown_form G type nothing e h = absurd (cc)

pub shown_has : (G : CsType → Type 0) (given : ExprType) → is_shown given ≡ true → HasOf G given → Shown G given
unfolding is_shown
shown_has G (Of type) e h = shown_form G type (form type) e h
shown_has G Null e h = record { as_type = t.Text; shows = op.text; has_it = h t.Text has.text; same = λ known is. absurd (cc) }
shown_has G Markup e h = absurd (cc)

text_form : (type : CsType) → Form type → is_text (Of type) ≡ true → type ≡ t.Text
unfolding is_text
text_form type text e = refl
text_form type int e = absurd (cc)
text_form type bool e = absurd (cc)
text_form type (record_of name) e = absurd (cc)
text_form type (list item) e = absurd (cc)
text_form type (callback argument) e = absurd (cc)
text_form type (fragment argument) e = absurd (cc)
text_form type change e = absurd (cc)
text_form type args e = absurd (cc)
text_form type nothing e = absurd (cc)

text_is : (given : ExprType) → is_text given ≡ true → given ≡ Of t.Text
unfolding is_text
text_is (Of type) e = ap (λ z. Of z) (text_form type (form type) e)
text_is Null e = absurd (cc)
text_is Markup e = absurd (cc)

module _ (H K : CsType → Type 0) where
  alike_fine : (taken result : CsType) (p q : Place) (a b : ExprType) → Plain taken → HasOf H a → HasOf K b → IfFine (Alike H K a taken result) (alike taken result p a q b)
  unfolding drops_argument fits fits_type may_be_null wants
  alike_fine taken result p q a b plain h k =
      then_fine (λ u. fits a taken ≡ true) (Alike H K a taken result) (wants taken p a) (λ x. wants taken q b >>= λ y. fine (Of result)) (wants_fine taken p a)
      (λ u e. then_fine (λ v. fits b taken ≡ true) (Alike H K a taken result) (wants taken q b) (λ y. fine (Of result)) (wants_fine taken q b)
      (λ v f. record { first = exactly H a taken plain e h; second = exactly K b taken plain f k; gives = refl; own_one = λ known is. no_callback known taken plain (ap (λ z. fits z taken) (sym is) ∙ e) }))

  arithmetic_fine : (o : BinaryOp) (p q : Place) (a b : ExprType) → IsArithmetic o → HasOf H a → HasOf K b → IfFine (Joined H K a o) (alike t.Int t.Int p a q b)
  arithmetic_fine o p q a b i h k =
      weaker_fine (Alike H K a t.Int t.Int) (Joined H K a o) (alike t.Int t.Int p a q b) (alike_fine t.Int t.Int p q a b int_alone h k)
      (λ given l. record { one = t.Int; other = t.Int; type = t.Int; left = l.first; right = l.second; is = l.gives; takes = op.arithmetic o i; own = l.own_one })

  -- a sum
  joins : (a b : ExprType) → (is_text a || is_text b) ≡ true → Shown H a → Shown K b → Joined H K a binary.Add (Of t.Text)
  unfolding is_text
  joins a b e x y =
      elim (either_passes (is_text a) (is_text b) e) [
        | inl i ↦
            let first : t.Text ≡ x.as_type = x.same t.Text (text_is a i) in
            record { one = t.Text; other = y.as_type; type = t.Text; left = subst H (sym first) x.has_it; right = y.has_it; is = refl; takes = op.text_first y.as_type y.shows; own = λ known is. x.same known is ∙ sym first }
        | inr i ↦
            let second : t.Text ≡ y.as_type = y.same t.Text (text_is b i) in
            record { one = x.as_type; other = t.Text; type = t.Text; left = x.has_it; right = subst K (sym second) y.has_it; is = refl; takes = op.text_second x.as_type x.shows; own = x.same }
      ]

  sum_fine : (p q : Place) (a b : ExprType) → HasOf H a → HasOf K b → IfFine (Joined H K a binary.Add) (sum_type p a q b)
  unfolding is_shown is_text shown sum_type
  sum_fine p q a b h k =
      either_fine (Joined H K a binary.Add) (is_text a || is_text b) (shown p a >>= λ x. (shown q b >>= λ y. fine (Of t.Text))) (alike t.Int t.Int p a q b)
      (λ e. then_fine (λ u. is_shown a ≡ true) (Joined H K a binary.Add) (shown p a) (λ x. shown q b >>= λ y. fine (Of t.Text)) (tested_fine (λ u. is_shown a ≡ true) (is_shown a) tt TypeMismatch p (λ i. i))
      (λ u i. then_fine (λ v. is_shown b ≡ true) (Joined H K a binary.Add) (shown q b) (λ y. fine (Of t.Text)) (tested_fine (λ v. is_shown b ≡ true) (is_shown b) tt TypeMismatch q (λ l. l))
      (λ v l. joins a b e (shown_has H a i h) (shown_has K b l k))))
      (λ e. arithmetic_fine binary.Add p q a b op.add h k)

  -- the operators of assignments
  pub joined_fine : (records : List Member) (o : AssignOp) (by : BinaryOp) (p q : Place) (a b : ExprType) → operator_of o ≡ Some by → HasOf H a → HasOf K b → IfFine (Joined H K a by) (binary_type records by p a q b)
  unfolding are_compared binary_type common_type comparison_type drops_argument either_type fits_type given_type is_comparable is_nullable is_shown is_text may_be_null may_compare operator_of plain_type shown sum_type taken_type
  joined_fine records o by p q a b e h k = go o by e
    where
      go : (o : AssignOp) (by : BinaryOp) → operator_of o ≡ Some by → IfFine (Joined H K a by) (binary_type records by p a q b)
      go assign.Set by e = absurd (cc)
      go assign.Add by e = let same : binary.Add ≡ by = cc in subst (λ z. IfFine (Joined H K a z) (binary_type records z p a q b)) same (sum_fine p q a b h k)
      go assign.Subtract by e = let same : binary.Subtract ≡ by = cc in subst (λ z. IfFine (Joined H K a z) (binary_type records z p a q b)) same (arithmetic_fine binary.Subtract p q a b op.subtract h k)
      go assign.Multiply by e = let same : binary.Multiply ≡ by = cc in subst (λ z. IfFine (Joined H K a z) (binary_type records z p a q b)) same (arithmetic_fine binary.Multiply p q a b op.multiply h k)
      go assign.Divide by e = let same : binary.Divide ≡ by = cc in subst (λ z. IfFine (Joined H K a z) (binary_type records z p a q b)) same (arithmetic_fine binary.Divide p q a b op.divide h k)
      go assign.Remainder by e = let same : binary.Remainder ≡ by = cc in subst (λ z. IfFine (Joined H K a z) (binary_type records z p a q b)) same (arithmetic_fine binary.Remainder p q a b op.remainder h k)

-- what has some type
pub some_type : (H : CsType → Type 0) (given : ExprType) → HasOf H given → (type : CsType) × H type
some_type H (Of type) h = (type, h)
some_type H Null h = (t.Text, h t.Text has.text)
some_type H Markup h = (t.Text, h)

module _ (at : Surroundings) (locals : List CsType) (records : List Member) where
  joined_has : (o : BinaryOp) (x y : Checked) (given : ExprType) → Joined (λ type. CodeHas at locals type x.code) (λ type. CodeHas at locals type y.code) x.expr_type o given → HasType at locals given (c.Binary o x.code y.code)
  joined_has o x y given j = subst (λ z. HasType at locals z (c.Binary o x.code y.code)) (sym j.is) (code.binary o j.one j.other j.type x.code y.code (op.combined o j.one j.other j.type j.takes) j.left j.right)

  alike_has : (o : BinaryOp) (taken result : CsType) (x y : Checked) → Plain taken → BinaryTakes o taken taken result → ValueFits at locals x → ValueFits at locals y → IfFine (λ given. HasType at locals given (c.Binary o x.code y.code)) (alike taken result x.place x.expr_type y.place y.expr_type)
  alike_has o taken result x y plain takes h k =
      weaker_fine (Alike (λ type. CodeHas at locals type x.code) (λ type. CodeHas at locals type y.code) x.expr_type taken result) (λ given. HasType at locals given (c.Binary o x.code y.code)) (alike taken result x.place x.expr_type y.place y.expr_type)
      (alike_fine (λ type. CodeHas at locals type x.code) (λ type. CodeHas at locals type y.code) taken result x.place y.place x.expr_type y.expr_type plain h k)
      (λ given l. subst (λ z. HasType at locals z (c.Binary o x.code y.code)) (sym l.gives) (code.binary o taken taken result x.code y.code takes l.first l.second))

  arithmetic_has : (o : BinaryOp) (x y : Checked) → IsArithmetic o → ValueFits at locals x → ValueFits at locals y → IfFine (λ given. HasType at locals given (c.Binary o x.code y.code)) (alike t.Int t.Int x.place x.expr_type y.place y.expr_type)
  arithmetic_has o x y i h k = alike_has o t.Int t.Int x y int_alone (op.combined o t.Int t.Int t.Int (op.arithmetic o i)) h k

  order_has : (o : BinaryOp) (x y : Checked) → IsOrder o → ValueFits at locals x → ValueFits at locals y → IfFine (λ given. HasType at locals given (c.Binary o x.code y.code)) (alike t.Int t.Bool x.place x.expr_type y.place y.expr_type)
  order_has o x y i h k = alike_has o t.Int t.Bool x y int_alone (op.combined o t.Int t.Int t.Bool (op.ordering o i)) h k

  compared_has : (o : BinaryOp) (x y : Checked) → ((one other : CsType) → Combines o one other t.Bool) → ValueFits at locals x → ValueFits at locals y → IfFine (λ given. HasType at locals given (c.Binary o x.code y.code)) (comparison_type records x.place x.expr_type y.place y.expr_type)
  unfolding are_compared comparison_type is_comparable may_be_null may_compare
  compared_has o x y takes h k =
      let a = some_type (λ type. CodeHas at locals type x.code) x.expr_type h in
      let b = some_type (λ type. CodeHas at locals type y.code) y.expr_type k in
      either_fine (λ given. HasType at locals given (c.Binary o x.code y.code)) (may_compare records x.expr_type) (if are_compared records x.expr_type y.expr_type then fine (Of t.Bool) else mismatch y.place) (mismatch x.place)
      (λ e. tested_fine (λ given. HasType at locals given (c.Binary o x.code y.code)) (are_compared records x.expr_type y.expr_type) (Of t.Bool) TypeMismatch y.place
      (λ i. code.binary o a.0 b.0 t.Bool x.code y.code (op.combined o a.0 b.0 t.Bool (takes a.0 b.0)) a.1 b.1))
      (λ e. tt)

  -- `??` of two values of one type
  coalesced : (x y : Checked) (given : ExprType) → HasType at locals given x.code → HasType at locals given y.code → HasType at locals given (c.Binary binary.Coalesce x.code y.code)
  coalesced x y (Of type) h k = code.binary binary.Coalesce type type type x.code y.code (op.coalesce type) h k
  coalesced x y Null h k = λ type n. code.binary binary.Coalesce type type type x.code y.code (op.coalesce type) (h type n) (k type n)
  coalesced x y Markup h k = code.binary binary.Coalesce t.Text t.Text t.Text x.code y.code (op.coalesce t.Text) h k

  coalesce_has : (x y : Checked) → ValueFits at locals x → ValueFits at locals y → IfFine (λ given. HasType at locals given (c.Binary binary.Coalesce x.code y.code)) (either_type (is_nullable x.expr_type) x.place x.expr_type y.place y.expr_type)
  unfolding common_type drops_argument either_type fits_type is_nullable may_be_null
  coalesce_has x y h k =
      either_fine (λ given. HasType at locals given (c.Binary binary.Coalesce x.code y.code)) (is_nullable x.expr_type) (known TypeMismatch y.place (common_type x.expr_type y.expr_type)) (mismatch x.place)
      (λ e. weaker_fine (λ given. common_type x.expr_type y.expr_type ≡ Some given) (λ given. HasType at locals given (c.Binary binary.Coalesce x.code y.code)) (known TypeMismatch y.place (common_type x.expr_type y.expr_type)) (known_fine TypeMismatch y.place (common_type x.expr_type y.expr_type))
      (λ given i. let both = common_has at locals x.expr_type y.expr_type given i in coalesced x y given (both.0 x.code h) (both.1 y.code k)))
      (λ e. tt)

  pub binary_has : (o : BinaryOp) (x y : Checked) → ValueFits at locals x → ValueFits at locals y → IfFine (λ given. HasType at locals given (c.Binary o x.code y.code)) (binary_type records o x.place x.expr_type y.place y.expr_type)
  unfolding are_compared binary_type common_type comparison_type drops_argument either_type fits_type given_type is_comparable is_nullable is_shown is_text may_be_null may_compare plain_type shown sum_type taken_type
  binary_has binary.Add x y h k =
      weaker_fine (Joined (λ type. CodeHas at locals type x.code) (λ type. CodeHas at locals type y.code) x.expr_type binary.Add) (λ given. HasType at locals given (c.Binary binary.Add x.code y.code)) (sum_type x.place x.expr_type y.place y.expr_type)
      (sum_fine (λ type. CodeHas at locals type x.code) (λ type. CodeHas at locals type y.code) x.place y.place x.expr_type y.expr_type h k) (λ given j. joined_has binary.Add x y given j)
  binary_has binary.Equal x y h k = compared_has binary.Equal x y op.equal h k
  binary_has binary.NotEqual x y h k = compared_has binary.NotEqual x y op.not_equal h k
  binary_has binary.Coalesce x y h k = coalesce_has x y h k
  binary_has binary.Or x y h k = alike_has binary.Or t.Bool t.Bool x y bool_alone op.either h k
  binary_has binary.And x y h k = alike_has binary.And t.Bool t.Bool x y bool_alone op.both h k
  binary_has binary.Less x y h k = order_has binary.Less x y op.less h k
  binary_has binary.Greater x y h k = order_has binary.Greater x y op.greater h k
  binary_has binary.LessOrEqual x y h k = order_has binary.LessOrEqual x y op.less_or_equal h k
  binary_has binary.GreaterOrEqual x y h k = order_has binary.GreaterOrEqual x y op.greater_or_equal h k
  binary_has binary.Subtract x y h k = arithmetic_has binary.Subtract x y op.subtract h k
  binary_has binary.Multiply x y h k = arithmetic_has binary.Multiply x y op.multiply h k
  binary_has binary.Divide x y h k = arithmetic_has binary.Divide x y op.divide h k
  binary_has binary.Remainder x y h k = arithmetic_has binary.Remainder x y op.remainder h k
