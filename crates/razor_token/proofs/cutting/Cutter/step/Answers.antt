use Rattle.std.proofs.Common.{◌≡◌, List, true, Some, None, refl, ap, sym, ◌∙◌, take, drop, reverse}
use Rattle.cs_token.specs.declared.around.Opened.{Opened}
use Rattle.cs_token.specs.Spelling as code
use Rattle.razor_token.specs.declared.context.Context.{Context}
use Rattle.razor_token.specs.Contexts.{innermost}
use Rattle.razor_token.specs.Cutters.{moment_of}
use Rattle.razor_token.specs.Cutting.{last_of, keeps_line}
use Rattle.razor_token.specs.Moving.{Moves, Takes}
use Rattle.razor_token.proofs.CutLemmas.{found-here, next-none, next-cut, cuts-line, keeps-unlined, keeps-without, advances}
use Rattle.razor_token.proofs.cutting.Cutter.step.Goals as goal
use Rattle.razor_token.proofs.cutting.Cutter.step.Goals.{else-self-via-then-self+else-contains, else-self-via-else-self}

pub returns-in_default : goal.returns-in_default
returns-in_default c =
    let context = c.innermost_context-context.ensures ∙ ap (λ (x : List Context). innermost (reverse x)) c.deref.ensures.value in
    let around = c.innermost-around.ensures ∙ ap (λ (x : List Opened). code.innermost (reverse x)) c.deref-2.ensures.value in
    let last = c.last_of.ensures ∙ ap last_of c.split_at.ensures.front in
    let found = found-here c.args.text.now c.args.self.now c.in_ok-found.field-0 c.innermost_context-context.result c.innermost-around.result c.last_of.result c.split_at.result.1.now
    context around last c.split_at.ensures.back c.in_ok-found.ensures.same in
    (next-none (moment_of c.args.text.now c.args.self.now) (found ∙ c.in_default.is), refl)

pub returns-then-contains : goal.returns-then-contains
returns-then-contains c =
    let context = c.innermost_context-context.ensures ∙ ap (λ (x : List Context). innermost (reverse x)) c.deref.ensures.value in
    let around = c.innermost-around.ensures ∙ ap (λ (x : List Opened). code.innermost (reverse x)) c.deref-2.ensures.value in
    let last = c.last_of.ensures ∙ ap last_of c.split_at.ensures.front in
    let found = found-here c.args.text.now c.args.self.now c.in_ok-found.field-0 c.innermost_context-context.result c.innermost-around.result c.last_of.result c.split_at.result.1.now
    context around last c.split_at.ensures.back c.in_ok-found.ensures.same in
    let here = c.split_at-2.ensures.front ∙ ap (take c.in-Some.found.count) c.split_at.ensures.back in
    let cut = cuts-line c.args.self.now.line c.split_at-2.result.0.now (take c.in-Some.found.count (drop c.args.self.now.at c.args.text.now)) c.if-self.true (sym c.contains.ensures ∙ c.if-contains.true) here in
    (next-cut (moment_of c.args.text.now c.args.self.now) c.in-Some.found (found ∙ c.in-Some.is) cut, refl)

pub returns : goal.returns
returns c =
    let context = c.innermost_context-context.ensures ∙ ap (λ (x : List Context). innermost (reverse x)) c.deref.ensures.value in
    let around = c.innermost-around.ensures ∙ ap (λ (x : List Opened). code.innermost (reverse x)) c.deref-2.ensures.value in
    let last = c.last_of.ensures ∙ ap last_of c.split_at.ensures.front in
    let found = found-here c.args.text.now c.args.self.now c.in_ok-found.field-0 c.innermost_context-context.result c.innermost-around.result c.last_of.result c.split_at.result.1.now
    context around last c.split_at.ensures.back c.in_ok-found.ensures.same in
    let here = c.split_at-2.ensures.front ∙ ap (take c.in-Some.found.count) c.split_at.ensures.back in
    let moves : Moves (drop c.args.self.now.at c.args.text.now) (Some c.in-Some.found) = rw (c.split_at.ensures.back, c.in-Some.is) at c.in_ok-found.ensures.moves in
    let top : innermost (reverse c.args.self.now.contexts.items) ≡ None → Takes (drop c.args.self.now.at c.args.text.now) (Some c.in-Some.found) =
    λ none. rw (c.split_at.ensures.back, c.in-Some.is) at (c.in_ok-found.ensures.top (context ∙ none)) in
    let keeps : keeps_line c.args.self.now.line c.split_at-2.result.0.now ≡ true =
    elim c.else-self.branch [
      | else-self-via-then-self+else-contains w ↦ keeps-without c.args.self.now.line c.split_at-2.result.0.now (sym w.contains.ensures ∙ w.if-contains.false)
      | else-self-via-else-self w ↦ keeps-unlined c.args.self.now.line c.split_at-2.result.0.now w.if-self.false
    ] in
    advances c.args.text.now c.args.self.now c.take.new.self c.in-Some.found c.split_at-2.result.0.now c.in_ok-take.field-0 c.requires.there (found ∙ c.in-Some.is) moves top here keeps c.in_ok-take.ensures
