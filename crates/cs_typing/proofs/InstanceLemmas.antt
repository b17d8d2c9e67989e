-- Values keep their types where further instances are there.
use Rattle.std.proofs.Common.{◌≡◌, ℕ, List}
use Rattle.std.specs.Prelude.{Option, Some}
use Rattle.cs_ast.specs.declared.cs_type.CsType.{CsType}
use Rattle.cs_ast.specs.declared.value.Value.{Value}
use Rattle.cs_typing.specs.Types.{Types, with_instances}
use Rattle.cs_typing.specs.Values.{ValueHas, ValuesHave, ItemsHave}
use Rattle.cs_typing.specs.Values as has
use Rattle.cs_typing.specs.States.{Remain}

module _ (types : Types) (instances : ℕ → Option ℕ) (remain : Remain types.instances instances) where
  mutual
    pub value_still : (type : CsType) (x : Value) → ValueHas types type x → ValueHas (with_instances types instances) type x
    value_still type x (has.int n) = has.int n
    value_still type x (has.bool b) = has.bool b
    value_still type x (has.text y) = has.text y
    value_still type x (has.null _ h) = has.null type h
    value_still type x (has.record_of name r parts h hs) = has.record_of name r parts h (values_still r.parts parts hs)
    value_still type x (has.list item items hs) = has.list item items (items_still item items hs)
    value_still type x (has.callback argument last captured body who place captures h1 h2 h3 h4 h5) = has.callback argument last captured body who place captures h1 (remain who body.component h2) h3 h4 (values_still captured captures h5)
    value_still type x (has.fragment argument captured template who place captures h1 h2 h3 h4) = has.fragment argument captured template who place captures h1 (remain who template.component h2) h3 (values_still captured captures h4)
    value_still type x (has.change y) = has.change y
    value_still type x (has.anything y) = has.anything y

    values_still : (ts : List CsType) (xs : List Value) → ValuesHave types ts xs → ValuesHave (with_instances types instances) ts xs
    values_still ts xs has.none = has.none
    values_still ts xs (has.more type others x rest h hs) = has.more type others x rest (value_still type x h) (values_still others rest hs)

    items_still : (type : CsType) (xs : List Value) → ItemsHave types type xs → ItemsHave (with_instances types instances) type xs
    items_still type xs (has.no_item _) = has.no_item type
    items_still type xs (has.item _ x rest h hs) = has.item type x rest (value_still type x h) (items_still type rest hs)
