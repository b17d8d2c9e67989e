-- Into which pieces a text is cut from one moment to another.
use Rattle.std.specs.Prelude.{ℕ, false, List, [], ◌++◌}
use Rattle.cs_token.specs.declared.around.Opened.{Opened}
use Rattle.cs_token.specs.Walks.{Walk}
use Rattle.razor_token.specs.declared.context.Context.{Context}
use Rattle.razor_token.specs.declared.piece.Piece.{Piece}
use Rattle.razor_token.specs.Cutting.{Moment, Step}
use Rattle.razor_ast.specs.Pieces.{counted}
use Rattle.razor_print.specs.Parts.{Parts, parts_text}
use Rattle.printed_pieces.specs.Meant.{Mean}

-- from one moment to the other, the text is cut into pieces, of which those that count are what the parts are meant to be
pub record Lays (from : Moment) (parts : Parts) (to : Moment) : Type 0 where
  pub pieces : List Piece
  pub laid : Walk Step from pieces to
  pub mean : Mean parts (counted pieces)

-- the moment in these contexts between these characters, with this open of an interpolated text and no line
abbrev pub within : List Context → List Opened → List ℕ → List ℕ → Moment
within contexts opened before rest = record { contexts = contexts; line = false; opened = opened; before = before; rest = rest }

-- the same with nothing open of an interpolated text
abbrev pub between : List Context → List ℕ → List ℕ → Moment
between contexts before rest = within contexts [] before rest

-- In these contexts, behind these characters and before that rest, this text is cut into what the parts are meant to be, and the
-- last contexts are open behind it.
abbrev pub Stand : List Context → List ℕ → Parts → List ℕ → List ℕ → List Context → Type 0
Stand contexts before parts text rest left = Lays (between contexts before (text ++ rest)) parts (between left (before ++ text) rest)

-- the same of the text that the parts are printed as
abbrev pub Cut : List Context → List ℕ → Parts → List ℕ → List Context → Type 0
Cut contexts before parts rest left = Stand contexts before parts (parts_text parts) rest left
