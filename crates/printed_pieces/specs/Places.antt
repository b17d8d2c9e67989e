-- Where parts stand, and what stands in them.
use Rattle.std.specs.Prelude.{ℕ, Bool, ◌==◌, ◌||◌, List, [], ◌∷◌}
use Rattle.razor_token.specs.declared.context.Context.{Context}
use Rattle.razor_token.specs.declared.context.Context.TheVariants as x
use Rattle.razor_token.specs.declared.runs.RunKind.{RunKind}
use Rattle.razor_token.specs.Runs.{is_of}

-- content stands there: at the top of a file, or in an element
pub data IsContentPlace : List Context → Type 0 where
  top : IsContentPlace []
  element : (cs : List Context) → IsContentPlace (x.Element ∷ cs)

-- an at sign, or of this kind
abbrev pub is_said : RunKind → ℕ → Bool
is_said kind c = (c == 64) || is_of kind c

-- a text that no literal text of content goes on with: nothing, an at sign, or `<`
pub data EndsContent : List ℕ → Type 0 where
  at_end : EndsContent []
  at_sign : (rest : List ℕ) → EndsContent (64 ∷ rest)
  tag_sign : (rest : List ℕ) → EndsContent (60 ∷ rest)
