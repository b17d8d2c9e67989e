-- Which tokens a text spells, and where and why it spells none.
use Rattle.std.specs.Prelude.{◌≡◌, ℕ, ◌+◌, List, [], ◌∷◌, ◌++◌, length, Option, Some, None}
use Rattle.text_core.specs.declared.place.Place.{Place}
use Rattle.cs_token.specs.declared.around.Around.{Around}
use Rattle.cs_token.specs.declared.around.Around.TheVariants.{Interpolation, Hole, Braces}
use Rattle.cs_token.specs.declared.around.Opened.{Opened}
use Rattle.cs_token.specs.declared.fault.Cause.{Cause}
use Rattle.cs_token.specs.declared.fault.Cause.TheVariants.{BadCharacter, UnendedText, UnendedComment, NumberTooWide}
use Rattle.cs_token.specs.declared.fault.LexFault.{LexFault}
use Rattle.cs_token.specs.declared.fault.LexFault.TheVariants as fault
use Rattle.cs_token.specs.declared.token.Sign.{Sign}
use Rattle.cs_token.specs.declared.token.Sign.TheVariants.{OpenBrace, CloseBrace, InterpolationStart, InterpolationEnd, HoleOpen, HoleClose}
use Rattle.cs_token.specs.declared.token.Token.{Token}
use Rattle.cs_token.specs.declared.token.TokenKind.{TokenKind}
use Rattle.cs_token.specs.declared.token.TokenKind.TheVariants as kind
use Rattle.cs_token.specs.Lexemes.{Stands}
use Rattle.cs_token.specs.Places.{place_after}
use Rattle.cs_token.specs.Walks.{Walk}
use Rattle.cs_token.specs.Wrong.{IsWrong}

-- the innermost of what is open
abbrev pub innermost : List Opened → Option Around
innermost [] = None
innermost (opened ∷ outer) = Some opened.around

-- this too is open, from this place on
abbrev pub with_open : Around → Place → List Opened → List Opened
with_open around place outer = record { around = around; place = place } ∷ outer

-- the innermost of it is closed
abbrev pub closed : List Opened → List Opened
closed [] = []
closed (opened ∷ outer) = outer

-- a pair of braces counts inside an interpolated text alone
abbrev pub with_brace : Place → List Opened → List Opened
with_brace place [] = []
with_brace place (opened ∷ outer) = with_open Braces place (opened ∷ outer)

-- what is open behind a sign at this place
unfoldable pub behind_sign : Sign → Place → List Opened → List Opened
behind_sign InterpolationStart place opened = with_open Interpolation place opened
behind_sign InterpolationEnd place opened = closed opened
behind_sign HoleOpen place opened = with_open Hole place opened
behind_sign HoleClose place opened = closed opened
behind_sign OpenBrace place opened = with_brace place opened
behind_sign CloseBrace place opened = closed opened
behind_sign _ place opened = opened

-- what is open behind a token, or behind white space or a comment
abbrev pub behind_kind : Option TokenKind → Place → List Opened → List Opened
behind_kind (Some (kind.Sign sign)) place opened = behind_sign sign place opened
behind_kind _ place opened = opened

-- what is open, the innermost first, the characters so far, and those from here on
abbrev pub Moment : Type 0
Moment = List Opened × List ℕ × List ℕ

-- the kind of a token, or none for white space and a comment, and its characters
abbrev pub Piece : Type 0
Piece = Option TokenKind × List ℕ

-- from a moment, this piece stands first, and leaves that moment behind it
pub data Step : Moment → Piece → Moment → Type 0 where
  step : (opened : List Opened) (before : List ℕ) (kind : Option TokenKind) (text rest : List ℕ) →
      Stands (innermost opened) kind text rest →
      Step (opened, before, text ++ rest) (kind, text) (behind_kind kind (place_after before) opened, before ++ text, rest)

-- the moment at which a text begins
abbrev pub beginning : List ℕ → Moment
beginning text = ([], [], text)

-- the token of this kind from start to end, at this place, or none
abbrev pub token_there : Option TokenKind → ℕ → ℕ → Place → List Token
token_there None start end place = []
token_there (Some kind) start end place = record { kind = kind; start = start; end = end; place = place } ∷ []

-- the tokens of the pieces, behind the characters before
abbrev pub tokens_among : List ℕ → List Piece → List Token
tokens_among before [] = []
tokens_among before (piece ∷ pieces) =
    token_there piece.0 (length before) (length before + length piece.1) (place_after before) ++ tokens_among (before ++ piece.1) pieces

-- pieces one after another make up the text, nothing is open behind them, and these are the tokens among them
pub record Spells (text : List ℕ) (tokens : List Token) : Type 0 where
  pub pieces : List Piece
  pub laid : Walk Step (beginning text) pieces ([], text, [])
  pub are : tokens ≡ tokens_among [] pieces

-- the outermost of what is open begins here
abbrev pub outermost : Place → List Opened → Place
outermost place [] = place
outermost place (opened ∷ outer) = outermost opened.place outer

-- the place of a fault: an unended text is the outermost that is open, or the one that begins here
abbrev pub fault_place : Cause → List Opened → Place → Place
fault_place UnendedText opened place = outermost place opened
fault_place cause opened place = place

-- pieces one after another lead to a moment at which the text can't go on, for this cause, and this is the place of the fault
pub record GoesWrong (text : List ℕ) (cause : Cause) (place : Place) : Type 0 where
  pub pieces : List Piece
  pub opened : List Opened
  pub before : List ℕ
  pub good : List ℕ
  pub from : List ℕ
  pub laid : Walk Step (beginning text) pieces (opened, before, good ++ from)
  pub wrong : IsWrong (innermost opened) cause good from
  pub here : place ≡ fault_place cause opened (place_after (before ++ good))

-- what a fault says of a text; of want of memory nothing
abbrev pub Explains : List ℕ → LexFault → Type 0
Explains text (fault.BadCharacter place) = GoesWrong text BadCharacter place
Explains text (fault.UnendedText place) = GoesWrong text UnendedText place
Explains text (fault.UnendedComment place) = GoesWrong text UnendedComment place
Explains text (fault.NumberTooWide place) = GoesWrong text NumberTooWide place
Explains text fault.Oom = Unit {0}
