use Rattle.std.proofs.Common.{◌≡◌, ◌-◌, List, ℕ, false, take, drop, length, refl, sym, ◌∙◌, ap, arith, length-drop}
use Rattle.std.proofs.lemmas.List.{take_all}
use Rattle.std.specs.Prelude.{codes}
use Rattle.std.specs.declared.option.Option.{Option}
use Rattle.razor_token.specs.declared.context.Context.{Context}
use Rattle.razor_token.specs.declared.runs.RunKind.TheVariants as r
use Rattle.razor_token.specs.Runs.{begins, run}
use Rattle.razor_token.specs.ContentFronts.{word_behind, word_at, transition_at}
use Rattle.razor_token.proofs.content.transition.Goals as goal

tail_is : (text : List ℕ) → take (length text - 1) (drop 1 text) ≡ drop 1 text
tail_is text = let long = length-drop 1 text in take_all (length text - 1) (drop 1 text) (omega arith)

word_there : (context : Option Context) (text word : List ℕ) → begins (codes "{") (drop 1 text) ≡ false → word ≡ word_behind text
    → word_at context word text ≡ transition_at context text
unfolding transition_at
word_there context text word none is = rw (none, is) refl

pub returns-clause-same : goal.returns-clause-same
returns-clause-same c =
    let text : List ℕ = c.args.text.now in
    let size = c.run-size.ensures.same ∙ ap (run r.Word) (tail_is text) in
    let word : c.in_ok-word.word ≡ word_behind text =
    c.in_ok-word.ensures ∙ ap (take c.run-size.result) (tail_is text) ∙ ap (λ (n : ℕ). take n (drop 1 text)) size in
    let none = ap (begins (codes "{")) (sym (tail_is text)) ∙ sym c.begins.ensures.same ∙ c.if-begins.false in
    c.word_at.ensures.same ∙ word_there c.args.context text c.in_ok-word.word none word
