-- Which texts are the value of a parameter in quotes of one kind: the first quote that ends a value stands behind them. One in the
-- brackets of `@(..)` ends none.
use Rattle.std.specs.Prelude.{ℕ, zero, suc, ◌+◌, ◌-◌, ◌==◌, Bool, false, List, [], ◌∷◌, length, drop, codes, Option, Some, None, Ok, Err, if◌then◌else◌}
use Rattle.cs_token.specs.declared.around.Around.{Around}
use Rattle.cs_token.specs.declared.around.Opened.{Opened}
use Rattle.cs_token.specs.declared.token.Sign.{Sign}
use Rattle.cs_token.specs.Places.{first_place}
use Rattle.cs_token.specs.Spelling.{innermost, behind_kind}
use Rattle.cs_token.specs.Reading.Fronts.{Read, front_at}
use Rattle.razor_token.specs.declared.piece.Quote.{Quote}
use Rattle.razor_token.specs.CodeFronts.{mark, sign_of, opens, closes}
use Rattle.razor_token.specs.Runs.{begins}
use Rattle.razor_print.specs.declared.value_texts.Stride.{Stride}

-- a step through such a text: so many characters, and behind them so many open brackets and this of an interpolated text
pub record Step : Type 0 where
  pub count : ℕ
  pub depth : ℕ
  pub opened : List Opened

-- what the code found, where this is open behind it
abbrev pub step_of : List Opened → Stride → Step
step_of opened stride = record { count = stride.count; depth = stride.depth; opened = opened }

-- outside brackets, unless the value ends: two at signs, an at sign and its bracket, or a character
abbrev pub outside : Quote → List Opened → List ℕ → Option Step
outside quote opened text =
    if begins (mark quote ∷ []) text then None
    else if begins (codes "@(") text then Some (record { count = 2; depth = 1; opened = opened })
    else if begins (codes "@@") text then Some (record { count = 2; depth = 0; opened = opened })
    else Some (record { count = 1; depth = 0; opened = opened })

-- how many brackets are open behind a sign; in an interpolated text none counts
abbrev pub depth_behind : Option Around → Option Sign → ℕ → ℕ
depth_behind None (Some sign) depth = if opens sign then depth + 1 else if closes sign then depth - 1 else depth
depth_behind _ _ depth = depth

-- in brackets: code, if some stands there
abbrev pub inside : ℕ → List Opened → List ℕ → Read → Option Step
inside depth opened text (Err wrong) = None
inside depth opened text (Ok front) = Some (record {
  count = length text - length front.1;
  depth = depth_behind (innermost opened) (sign_of front.0) depth;
  opened = behind_kind front.0 first_place opened;
})

-- a step, where so many brackets are open
abbrev pub step_at : Quote → ℕ → List Opened → List ℕ → Option Step
step_at quote zero opened text = outside quote opened text
step_at quote (suc depth) opened text = inside (suc depth) opened text (front_at (innermost opened) text)

-- at most so many steps lead through the text, and no bracket is open at its end
abbrev pub ends_from : Quote → ℕ → ℕ → List Opened → List ℕ → Bool
ends_from quote steps depth opened [] = depth == 0
ends_from quote zero depth opened (c ∷ text) = false
ends_from quote (suc steps) depth opened (c ∷ text) = elim (step_at quote depth opened (c ∷ text)) [
  | None ↦ false
  | Some step ↦ ends_from quote steps step.depth step.opened (drop step.count (c ∷ text))
]

-- the text is a value in these quotes
unfoldable pub stands_in : Quote → List ℕ → Bool
stands_in quote text = ends_from quote (length text) 0 [] text
