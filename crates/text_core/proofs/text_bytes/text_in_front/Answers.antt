use Rattle.std.proofs.Common.{◌≡◌, true, false, take, refl}
use Rattle.std.specs.Str.{is_utf8}
use Rattle.std.proofs.lemmas.Bool.{le-ltb, false_from_ne_true}
use Rattle.std.proofs.lemmas.Str.{is_utf8-from_IsUtf8, IsUtf8-from_is_utf8}
use Rattle.text_core.specs.TextBytes.{text_at}
use Rattle.text_core.proofs.text_bytes.text_in_front.Goals as goal

pub returns-in_ok-from_str-in-Ok : goal.returns-in_ok-from_str-in-Ok
unfolding text_at
returns-in_ok-from_str-in-Ok c =
    let utf8 : is_utf8 (take c.in_ok-size.size c.in_ok-size.content.now) ≡ true =
    is_utf8-from_IsUtf8 _ (rw c.split_at.ensures.front at c.in-Ok.ensures.cases.1) in
    rw (c.in_ok-size.ensures.value, le-ltb _ _ c.if-content-size.false, utf8, c.in_ok-from_str-in-Ok.ensures, c.in-Ok.ensures.cases.0, c.split_at.ensures.front, c.split_at.ensures.back) refl

pub returns-in-Err : goal.returns-in-Err
unfolding text_at
returns-in-Err c =
    let not_utf8 : is_utf8 (take c.in_ok-size.size c.in_ok-size.content.now) ≡ false =
    false_from_ne_true _ (λ t. (rw c.split_at.ensures.front at c.in-Err.ensures.cases.0) (IsUtf8-from_is_utf8 _ t)) in
    rw (c.in_ok-size.ensures.value, le-ltb _ _ c.if-content-size.false, not_utf8) refl
