use Rattle.std.proofs.Common.{◌≡◌, sym, ◌∙◌, ap, arith, length, reverse, Ok, Err, List, ◌<◌}
use Rattle.std.proofs.lemmas.Bool.{eqb-false}
use Rattle.std.proofs.lemmas.List.{length-reverse}
use Rattle.cs_token.specs.declared.around.Opened.{Opened}
use Rattle.cs_token.specs.Spelling.{innermost}
use Rattle.cs_token.specs.Reading.Fronts.{front_at}
use Rattle.cs_token.proofs.LexLemmas.{reached-first, reached-more, reached-wrong, reached-unended, front-shorter, front-within, some_left, none_left}
use Rattle.cs_token.proofs.lexer.lex.Goals as goal

pub loop-rest-init : goal.loop-rest-init
loop-rest-init c = record {
  within = omega arith;
  bound = rw c.first_place-place.ensures (omega arith);
  column = rw c.first_place-place.ensures (omega arith);
  reached = rw (c.new-tokens.ensures.items, c.new-opened.ensures.items, c.first_place-place.ensures) (reached-first c.args.text.now);
}

pub overflow_sub-rest : goal.overflow_sub-rest
overflow_sub-rest c =
    front-within c.innermost.result c.loop-rest.rest.now c.in-Wrong.cause c.in-Wrong.from.now (some_left c.loop-rest.rest.now (sym c.is_empty.ensures ∙ c.loop-rest-test.true)) (sym (rw c.in-Wrong.is at c.in_ok-cause.ensures))

pub returns-in-Wrong : goal.returns-in-Wrong
returns-in-Wrong c =
    let opened : List Opened = reverse c.loop-rest.opened.items in
    let around : c.innermost.result ≡ innermost opened = c.innermost.ensures ∙ ap (λ (x : List Opened). innermost (reverse x)) c.deref.ensures.value in
    let read : front_at (innermost opened) c.loop-rest.rest.now ≡ Err (c.in-Wrong.cause, c.in-Wrong.from.now) = rw around at (sym (rw c.in-Wrong.is at c.in_ok-cause.ensures)) in
    rw (c.fault.ensures, c.deref-in-Wrong.ensures.value, c.behind.ensures.value, c.split_at.ensures.front)
    (reached-wrong c.args.text.now c.loop-rest.tokens.items opened c.loop-rest.place c.loop-rest.rest.now c.in-Wrong.cause c.in-Wrong.from.now c.loop-rest.invariant.reached
    (some_left c.loop-rest.rest.now (sym c.is_empty.ensures ∙ c.loop-rest-test.true)) read)

pub overflow_sub-end : goal.overflow_sub-end
overflow_sub-end c =
    let shorter = front-shorter c.innermost.result c.loop-rest.rest.now c.in-Piece.kind c.in-Piece.after.now (some_left c.loop-rest.rest.now (sym c.is_empty.ensures ∙ c.loop-rest-test.true)) (sym (rw c.in-Piece.is at c.in_ok-cause.ensures)) in
    omega arith

pub overflow_sub-end-in-Piece : goal.overflow_sub-end-in-Piece
overflow_sub-end-in-Piece c =
    let shorter = front-shorter c.innermost.result c.loop-rest.rest.now c.in-Piece.kind c.in-Piece.after.now (some_left c.loop-rest.rest.now (sym c.is_empty.ensures ∙ c.loop-rest-test.true)) (sym (rw c.in-Piece.is at c.in_ok-cause.ensures)) in
    omega arith

pub loop-rest-smaller : goal.loop-rest-smaller
loop-rest-smaller c =
    front-shorter c.innermost.result c.loop-rest.rest.now c.in-Piece.kind c.in-Piece.after.now (some_left c.loop-rest.rest.now (sym c.is_empty.ensures ∙ c.loop-rest-test.true)) (sym (rw c.in-Piece.is at c.in_ok-cause.ensures))

pub loop-rest-preserved : goal.loop-rest-preserved
loop-rest-preserved c =
    let some : 0 < length c.loop-rest.rest.now = some_left c.loop-rest.rest.now (sym c.is_empty.ensures ∙ c.loop-rest-test.true) in
    let opened : List Opened = reverse c.loop-rest.opened.items in
    let around : c.innermost.result ≡ innermost opened = c.innermost.ensures ∙ ap (λ (x : List Opened). innermost (reverse x)) c.deref.ensures.value in
    let front : front_at c.innermost.result c.loop-rest.rest.now ≡ Ok (c.in-Piece.kind, c.in-Piece.after.now) = sym (rw c.in-Piece.is at c.in_ok-cause.ensures) in
    let read : front_at (innermost opened) c.loop-rest.rest.now ≡ Ok (c.in-Piece.kind, c.in-Piece.after.now) = rw around at front in
    let shorter = front-shorter c.innermost.result c.loop-rest.rest.now c.in-Piece.kind c.in-Piece.after.now some front in
    record {
      within = omega arith;
      bound = omega (arith, c.behind-place.ensures.bound, c.split_at-in-Piece.ensures.front_len);
      column = c.behind-place.ensures.column;
      reached =
          rw (c.behind-place.ensures.value, c.split_at-in-Piece.ensures.front, c.in_ok-keep-in-Piece.ensures, c.in_ok-move_past-in-Piece.ensures)
          (reached-more c.args.text.now c.loop-rest.tokens.items opened c.loop-rest.place c.loop-rest.rest.now c.in-Piece.kind c.in-Piece.after.now c.loop-rest.invariant.reached some read);
    }

pub returns-else-is_empty : goal.returns-else-is_empty
returns-else-is_empty c =
    let opened : List Opened = reverse c.loop-rest.opened.items in
    let some : 0 < length opened = let ne = eqb-false _ _ (sym c.is_empty-2.ensures ∙ c.if-is_empty.false) in omega (arith, length-reverse c.loop-rest.opened.items, c.deref-else-is_empty.ensures.len, ap length c.deref-else-is_empty.ensures.value) in
    rw (c.fault-else-is_empty.ensures, c.deref-else-is_empty.ensures.value)
    (reached-unended c.args.text.now c.loop-rest.tokens.items opened c.loop-rest.place c.loop-rest.rest.now c.loop-rest.invariant.reached
    (none_left c.loop-rest.rest.now (sym c.is_empty.ensures ∙ c.loop-rest-test.false)) some)
