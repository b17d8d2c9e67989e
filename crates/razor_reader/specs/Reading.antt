-- How pieces are read one by one, and what a reader gives.
use Rattle.std.specs.Prelude.{◌≡◌, ℕ, Bool, false, if◌then◌else◌, List, [], ◌∷◌, Option, Some, None, Result, Ok, Err}
use Rattle.razor_token.specs.declared.piece.Piece.{Piece}
use Rattle.razor_reader.specs.declared.mark.Mark.{Mark}
use Rattle.razor_reader.specs.declared.mark.Mark.TheVariants as m
use Rattle.razor_reader.specs.declared.unread.Unread.{Unread}
use Rattle.razor_reader.specs.declared.unread.Unread.TheVariants as u
use Rattle.razor_reader.specs.Marks.{is_mark}

-- what is read, and the pieces behind it
abbrev pub Read : Type 0 → Type 0
Read A = Option (A × List Piece)

-- the same, with the next number between them
abbrev pub Numbered : Type 0 → Type 0
Numbered A = Option (A × ℕ × List Piece)

-- a step, and the next where it gave something
infixl 10 ◌>>=◌
abbrev pub ◌>>=◌ : {A B : Type 0} → Option A → (A → Option B) → Option B
None >>= g = None
(Some x) >>= g = g x

-- a piece of this mark stands first
abbrev pub has : Mark → List Piece → Bool
has mark [] = false
has mark (p ∷ ps) = is_mark mark p.kind

-- the pieces behind it
abbrev pub after : Mark → List Piece → Option (List Piece)
after mark [] = None
after mark (p ∷ ps) = if is_mark mark p.kind then Some ps else None

-- the pieces behind white space of a tag, if it stands first
abbrev pub past_space : List Piece → List Piece
past_space [] = []
past_space (p ∷ ps) = if is_mark m.Space p.kind then ps else p ∷ ps

-- What a function returned, seen by view, is what reading gives, unless memory ran out.
abbrev pub Fails : {Y : Type 0} → Unread → Option Y → Type 0
Fails u.Oom read = Unit {0}
Fails (u.Syntax left) read = read ≡ None

abbrev pub Gives : {X Y : Type 0} → (X → Y) → Result X Unread → Option Y → Type 0
Gives view (Ok x) read = read ≡ Some (view x)
Gives view (Err e) read = Fails e read
