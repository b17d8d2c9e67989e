-- The pieces of content.
use Rattle.std.specs.Prelude.{◌≡◌, ◌≢◌, ℕ, Bool, true, false, List, [], ◌∷◌, ◌++◌, codes}
use Rattle.first_click.specs.declared.characters.Class.TheVariants as class
use Rattle.first_click.specs.declared.pieces.PieceKind.{PieceKind}
use Rattle.first_click.specs.declared.pieces.PieceKind.TheVariants.{Open, Close, Literal, Shown}
use Rattle.first_click.specs.Characters.{IsRun, begins_with, ends_with}

-- its kind, its name or text, and the method that a start tag names for clicks, which is empty where there is none
abbrev pub Piece : Type 0
Piece = PieceKind × List ℕ × List ℕ

-- whether a letter, digit or `_` stands right before, and the text from here on
abbrev pub Moment : Type 0
Moment = Bool × List ℕ

-- ` @onclick="`
abbrev pub onclick : List ℕ
onclick = codes " @onclick=" ++ 34 ∷ []

-- `">`
abbrev pub end_of_tag : List ℕ
end_of_tag = 34 ∷ 62 ∷ []

-- from a moment, this piece stands first, and leaves that moment behind it
pub data Stands : Moment → Piece → Moment → Type 0 where
  -- `<name>`
  open_tag : (joined : Bool) (name rest : List ℕ) → IsRun class.Lower name →
      Stands (joined, codes "<" ++ (name ++ (codes ">" ++ rest))) (Open, name, []) (false, rest)
  -- `<name @onclick="method">`
  handler_tag : (joined : Bool) (name method rest : List ℕ) → IsRun class.Lower name → IsRun class.Letter method →
      Stands (joined, codes "<" ++ (name ++ (onclick ++ (method ++ (end_of_tag ++ rest))))) (Open, name, method) (false, rest)
  -- `</name>`
  close_tag : (joined : Bool) (name rest : List ℕ) → IsRun class.Lower name →
      Stands (joined, codes "</" ++ (name ++ (codes ">" ++ rest))) (Close, name, []) (false, rest)
  -- literal characters, as many as there are
  literal : (joined : Bool) (text rest : List ℕ) → IsRun class.Literal text → begins_with class.Literal rest ≡ false →
      Stands (joined, text ++ rest) (Literal, text, []) (ends_with class.Word text, rest)
  -- `@name`, with no letter, digit or `_` before it, and nothing behind it that would go on the expression
  shown : (name rest : List ℕ) → IsRun class.Letter name → name ≢ codes "code" → begins_with class.Continuing rest ≡ false →
      Stands (false, codes "@" ++ (name ++ rest)) (Shown, name, []) (true, rest)
