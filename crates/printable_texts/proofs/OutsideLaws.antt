-- Outside tags, what is found in each context fits there, and leaves contexts of content and code open.
use Rattle.std.proofs.Common.{◌≡◌, ℕ, Bool, true, false, List, ◌∷◌, drop, Some, None, refl}
use Rattle.std.specs.Prelude.{◌&&◌, not, if◌then◌else◌}
use Rattle.std.specs.declared.option.Option.{Option}
use Rattle.std.specs.List.{list_all}
use Rattle.cs_token.specs.declared.around.Around.{Around}
use Rattle.cs_token.specs.declared.token.TokenKind.{TokenKind}
use Rattle.cs_token.specs.declared.token.TokenKind.TheVariants as t
use Rattle.cs_token.specs.declared.token.Sign.{Sign}
use Rattle.cs_token.specs.declared.token.Sign.TheVariants as s
use Rattle.cs_token.specs.declared.token.Word.TheVariants as w
use Rattle.razor_token.specs.declared.context.Change.{Change}
use Rattle.razor_token.specs.declared.context.Context.{Context}
use Rattle.razor_token.specs.declared.context.Context.TheVariants as x
use Rattle.razor_token.specs.declared.context.Point.{Point}
use Rattle.razor_token.specs.declared.context.Point.TheVariants as point
use Rattle.razor_token.specs.declared.found.CodeFront.{CodeFront}
use Rattle.razor_token.specs.declared.found.Found.{Found}
use Rattle.razor_token.specs.declared.piece.PieceKind.{PieceKind}
use Rattle.razor_token.specs.declared.piece.PieceKind.TheVariants as k
use Rattle.razor_token.specs.declared.piece.Quote.{Quote}
use Rattle.razor_token.specs.BlockFronts.{head_change, head_change_of, head_piece, head_at, else_follows, brace_change, block_sign, block_change, block_change_of, statement_piece, statement_at}
use Rattle.razor_token.specs.CodeFronts.{code_front, code_in, code_kind, sign_of, opens, closes, bracket_change, bracket_piece, bracket_at}
use Rattle.razor_token.specs.Contexts.{changed, stays, leaves}
use Rattle.razor_token.specs.Tags.{is_component, is_void}
use Rattle.printable_texts.specs.Stands.{content, Fits, behind}

-- a context of content or of code outside tags
abbrev pub is_outer : Context → Bool
is_outer x.Element = true
is_outer x.Line = true
is_outer x.Opening = true
is_outer (x.Name quote) = true
is_outer (x.Chain quote) = true
is_outer x.Closing = true
is_outer x.Members = true
is_outer (x.Bracket quote raw) = not raw
is_outer (x.Head with_else) = true
is_outer (x.Block at with_else) = true
is_outer (x.Directive wanted) = true
is_outer _ = false

abbrev pub IsOuter : List Context → Type 0
IsOuter cs = list_all is_outer cs ≡ true

-- what is found there leaves such contexts open, or begins or ends a tag
pub data Goes (cs : List Context) : Option Found → Type 0 where
  nothing : Goes cs None
  on : (kind : PieceKind) (count : ℕ) (change : Change) → Fits content kind → behind kind content ≡ content → IsOuter (changed change cs) → Goes cs (Some (record { kind = kind; count = count; change = change }))
  starts : (name : List ℕ) (count : ℕ) (change : Change) → changed change cs ≡ x.StartTag (is_component name) (is_void name) ∷ cs → IsOuter cs → Goes cs (Some (record { kind = k.TagStart name; count = count; change = change }))
  ends : (name : List ℕ) (count : ℕ) (change : Change) (outer : List Context) → changed change cs ≡ x.EndTag ∷ outer → IsOuter outer → Goes cs (Some (record { kind = k.EndTagStart name; count = count; change = change }))

-- code
code_goes : (cs : List Context) (token : Option TokenKind) (count : ℕ) (change : Change) → IsOuter (changed change cs) → Goes cs (Some (record { kind = code_kind token; count = count; change = change }))
code_goes cs None count change h = on k.Gap count change tt refl h
code_goes cs (Some kind) count change h = on (k.Code kind) count change tt refl h

bracket_by : (quote : Option Quote) (cs : List Context) (opened closed : Bool) → IsOuter cs
    → IsOuter (changed (if opened then record { leaves = false; enters = Some (x.Bracket quote false); within = None; sign = None } else if closed then leaves else stays) (x.Bracket quote false ∷ cs))
bracket_by quote cs true closed h = h
bracket_by quote cs false true h = h
bracket_by quote cs false false h = h

bracket_outer : (quote : Option Quote) (around : Option Around) (sign : Option Sign) (cs : List Context) → IsOuter cs → IsOuter (changed (bracket_change quote false around sign) (x.Bracket quote false ∷ cs))
bracket_outer quote None (Some sign) cs h = bracket_by quote cs (opens sign) (closes sign) h
bracket_outer quote None None cs h = h
bracket_outer quote (Some a) None cs h = h
bracket_outer quote (Some a) (Some sign) cs h = h

pub in_bracket : (quote : Option Quote) (around : Option Around) (text : List ℕ) (cs : List Context) → IsOuter cs → Goes (x.Bracket quote false ∷ cs) (bracket_at quote false around text)
unfolding bracket_at
in_bracket quote around text cs h = go (code_in quote around text)
  where
    go : (o : Option CodeFront) → Goes (x.Bracket quote false ∷ cs) (bracket_piece quote false around text o)
    go None = nothing
    go (Some front) = code_goes _ front.token front.count _ (bracket_outer quote around (sign_of front.token) cs h)

head_outer : (with_else : Bool) (kind : TokenKind) (cs : List Context) → IsOuter cs → IsOuter (changed (head_change with_else kind) (x.Head with_else ∷ cs))
head_outer with_else (t.Sign s.OpenBrace) cs h = h
head_outer with_else (t.Sign s.OpenRound) cs h = h
head_outer with_else (t.Sign s.OpenSquare) cs h = h
head_outer with_else (t.Word w.If) cs h = h
head_outer with_else (t.Word w.Else) cs h = h
head_outer with_else _ cs h = h

pub in_head : (with_else : Bool) (around : Option Around) (text : List ℕ) (cs : List Context) → IsOuter cs → Goes (x.Head with_else ∷ cs) (head_at with_else around text)
unfolding head_at
in_head with_else around text cs h = go (code_front around text)
  where
    change_outer : (around : Option Around) (token : Option TokenKind) → IsOuter (changed (head_change_of with_else around token) (x.Head with_else ∷ cs))
    change_outer None (Some kind) = head_outer with_else kind cs h
    change_outer None None = h
    change_outer (Some a) None = h
    change_outer (Some a) (Some kind) = h

    go : (o : Option CodeFront) → Goes (x.Head with_else ∷ cs) (head_piece with_else around o)
    go None = nothing
    go (Some front) = code_goes _ front.token front.count _ (change_outer around front.token)

brace_outer : (at : Point) (with_else : Bool) (cs : List Context) → IsOuter cs → IsOuter (changed (brace_change at with_else) (x.Block at with_else ∷ cs))
brace_outer point.BehindWith with_else cs h = h
brace_outer point.Begins with_else cs h = h
brace_outer point.Within with_else cs h = h

end_outer : (at : Point) (with_else b : Bool) (cs : List Context) → IsOuter cs → IsOuter (changed (if b then record { leaves = true; enters = Some (x.Head false); within = None; sign = None } else leaves) (x.Block at with_else ∷ cs))
end_outer at with_else true cs h = h
end_outer at with_else false cs h = h

block_sign_outer : (at : Point) (with_else : Bool) (sign : Sign) (text : List ℕ) (cs : List Context) → IsOuter cs → IsOuter (changed (block_sign at with_else sign text) (x.Block at with_else ∷ cs))
block_sign_outer at with_else s.OpenBrace text cs h = brace_outer at with_else cs h
block_sign_outer at with_else s.CloseBrace text cs h = end_outer at with_else (with_else && else_follows text) cs h
block_sign_outer at with_else s.OpenRound text cs h = h
block_sign_outer at with_else s.OpenSquare text cs h = h
block_sign_outer at with_else s.Semicolon text cs h = h
block_sign_outer at with_else s.Colon text cs h = h
block_sign_outer at with_else _ text cs h = h

block_outer : (at : Point) (with_else : Bool) (kind : TokenKind) (text : List ℕ) (cs : List Context) → IsOuter cs → IsOuter (changed (block_change at with_else kind text) (x.Block at with_else ∷ cs))
block_outer at with_else (t.Sign sign) text cs h = block_sign_outer at with_else sign text cs h
block_outer at with_else (t.Name name) text cs h = h
block_outer at with_else _ text cs h = h

pub in_statement : (at : Point) (with_else : Bool) (around : Option Around) (text : List ℕ) (cs : List Context) → IsOuter cs → Goes (x.Block at with_else ∷ cs) (statement_at at with_else around text)
unfolding statement_at
in_statement at with_else around text cs h = go (code_front around text)
  where
    change_outer : (around : Option Around) (token : Option TokenKind) (rest : List ℕ) → IsOuter (changed (block_change_of at with_else around token rest) (x.Block at with_else ∷ cs))
    change_outer None (Some kind) rest = block_outer at with_else kind rest cs h
    change_outer None None rest = h
    change_outer (Some a) None rest = h
    change_outer (Some a) (Some kind) rest = h

    go : (o : Option CodeFront) → Goes (x.Block at with_else ∷ cs) (statement_piece at with_else around text o)
    go None = nothing
    go (Some front) = code_goes _ front.token front.count _ (change_outer around front.token (drop front.count text))
