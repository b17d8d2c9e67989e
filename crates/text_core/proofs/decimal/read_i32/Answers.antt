use Rattle.std.proofs.Common.{◌≡◌, sym, ◌∙◌, get_or, eqb, lit<}
use Rattle.std.proofs.lemmas.Bool.{eqb-false}
use Rattle.text_core.proofs.DecimalLemmas.{parsed, i32_of-encodes}
use Rattle.text_core.proofs.decimal.read_i32.Goals as goal

pub returns : goal.returns
returns c =
    let tested : c.starts_with.result ≡ eqb (get_or c.as_str-text.result.now 0 0) 43 =
    c.starts_with.ensures.byte (lit< tt) (lit< tt) (λ w o found. found) in
    c.ok.ensures.value
    ∙ parsed c.as_str-text.result.now c.parse.result c.parse.ensures.value.0 (eqb-false _ _ (sym tested ∙ c.if-starts_with.false))
    ∙ i32_of-encodes _ _ c.as_str-text.ensures.characters (sym c.as_str-text.ensures.bytes)
