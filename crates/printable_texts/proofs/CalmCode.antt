-- In code, what is found leaves an interpolated text open there alone.
use Rattle.std.proofs.Common.{◌≡◌, ℕ, ◌-◌, Bool, true, false, List, [], ◌∷◌, ◌++◌, length, drop, Some, None, Ok, Err, refl, sym, subst, arith}
use Rattle.std.specs.Prelude.{◌&&◌, ◌||◌, not, is_some, if◌then◌else◌}
use Rattle.std.specs.declared.option.Option.{Option}
use Rattle.cs_token.specs.declared.around.Around.{Around}
use Rattle.cs_token.specs.declared.token.Sign.{Sign}
use Rattle.cs_token.specs.declared.token.Sign.TheVariants as s
use Rattle.cs_token.specs.declared.token.TokenKind.{TokenKind}
use Rattle.cs_token.specs.declared.token.TokenKind.TheVariants as t
use Rattle.cs_token.specs.declared.token.Word.TheVariants as w
use Rattle.cs_token.specs.Reading.Fronts.{Read, front_at}
use Rattle.cs_token.proofs.SoundLemmas.{Sound, front-sound}
use Rattle.razor_token.specs.declared.context.Change.{Change}
use Rattle.razor_token.specs.declared.context.Context.{Context}
use Rattle.razor_token.specs.declared.context.Context.TheVariants as x
use Rattle.razor_token.specs.declared.context.Held.TheVariants as held
use Rattle.razor_token.specs.declared.context.Point.{Point}
use Rattle.razor_token.specs.declared.context.Point.TheVariants as point
use Rattle.razor_token.specs.declared.found.CodeFront.{CodeFront}
use Rattle.razor_token.specs.declared.found.Found.{Found}
use Rattle.razor_token.specs.declared.piece.PieceKind.{PieceKind}
use Rattle.razor_token.specs.declared.piece.PieceKind.TheVariants as k
use Rattle.razor_token.specs.declared.piece.Quote.{Quote}
use Rattle.razor_token.specs.BlockFronts.{head_change, head_change_of, head_piece, head_at, else_follows, brace_change, block_sign, block_change, block_change_of, statement_piece, statement_at}
use Rattle.razor_token.specs.CodeFronts.{front_of, code_front, where_it, code_in, keeps_bare, sign_of, code_kind, code_piece, opens, closes, bracket_change, bracket_piece, bracket_at}
use Rattle.razor_token.specs.Contexts.{changed, stays, leaves, with_sign}
use Rattle.razor_token.specs.Pieces.{piece}
use Rattle.razor_token.specs.ValueFronts.{plain_code, code_value_at, bare_code_at}
use Rattle.printable_texts.proofs.TextSteps.{front_nothing, counts}
use Rattle.printable_texts.proofs.Calm.{is_calm, keeps_calm, starts, KindLeads, FrontLeads, stands_lead, piece_leads}

-- what was found, if anything
pub data Finds (cs : List Context) (around : Option Around) (text : List ℕ) : Option Found → Type 0 where
  nothing : Finds cs around text None
  something : (kind : PieceKind) (count : ℕ) (change : Change) → KindLeads around text kind change.sign count → keeps_calm around change.sign (changed change cs) ≡ true
      → Finds cs around text (Some (record { kind = kind; count = count; change = change }))

pub choose : (cs : List Context) (around : Option Around) (text : List ℕ) (b : Bool) (y z : Option Found) → Finds cs around text y → Finds cs around text z → Finds cs around text (if b then y else z)
choose cs around text true y z h i = h
choose cs around text false y z h i = i

-- tokens
abbrev Fronts : Option Around → List ℕ → Option CodeFront → Type 0
Fronts around text None = Unit {0}
Fronts around text (Some front) = FrontLeads around text front.token front.count

read_leads : (around : Option Around) (text : List ℕ) (found : Read) → Sound around text found → Fronts around text (front_of text found)
read_leads around text (Err fault) h = tt
read_leads around text (Ok found) h =
    subst (λ z. FrontLeads around z found.0 (length z - length found.1)) (sym h.laid)
    (subst (λ n. FrontLeads around (h.here ++ found.1) found.0 n) (sym (counts h.here found.1)) (stands_lead around found.0 h.here found.1 h.stands))

front_leads : (around : Option Around) (text : List ℕ) → Fronts around text (code_front around text)
unfolding code_front
front_leads around [] = subst (λ z. Fronts around [] (front_of [] z)) (sym (front_nothing around)) tt
front_leads around (d ∷ text) = read_leads around (d ∷ text) (front_at around (d ∷ text)) (front-sound around (d ∷ text) (omega arith))

where_leads : (around : Option Around) (text : List ℕ) (test : CodeFront → Bool) (o : Option CodeFront) → Fronts around text o → Fronts around text (where_it test o)
where_leads around text test None h = tt
where_leads around text test (Some front) h = go (test front)
  where
    go : (b : Bool) → Fronts around text (if b then Some front else None)
    go true = h
    go false = tt

code_found : (cs : List Context) (around : Option Around) (text : List ℕ) (front : CodeFront) (change : Change) → FrontLeads around text front.token front.count
    → keeps_calm around (sign_of front.token) (changed change cs) ≡ true → Finds cs around text (code_piece front change)
code_found cs around text front change h calm = something (code_kind front.token) front.count (with_sign (sign_of front.token) change) (piece_leads around text front.token front.count h) calm

or_right : (a b : Bool) → b ≡ true → (a || b) ≡ true
or_right true b e = refl
or_right false b e = e

-- brackets
bracket_signs : (quote : Option Quote) (raw : Bool) (sign : Sign) (cs : List Context) → keeps_calm None (Some sign) (changed (bracket_change quote raw None (Some sign)) (x.Bracket quote raw ∷ cs)) ≡ true
unfolding opens closes
bracket_signs quote raw s.CloseRound cs = refl
bracket_signs quote raw s.CloseSquare cs = refl
bracket_signs quote raw s.CloseBrace cs = refl
bracket_signs quote raw _ cs = refl

bracket_calm : (quote : Option Quote) (raw : Bool) (around : Option Around) (sign : Option Sign) (cs : List Context) → keeps_calm around sign (changed (bracket_change quote raw around sign) (x.Bracket quote raw ∷ cs)) ≡ true
bracket_calm quote raw None None cs = refl
bracket_calm quote raw None (Some sign) cs = bracket_signs quote raw sign cs
bracket_calm quote raw (Some a) sign cs = refl

bracket_found : (cs : List Context) (quote : Option Quote) (raw : Bool) (around : Option Around) (text : List ℕ) (o : Option CodeFront) → Fronts around text o → Finds (x.Bracket quote raw ∷ cs) around text (bracket_piece quote raw around text o)
bracket_found cs quote raw around text None h = nothing
bracket_found cs quote true around text (Some front) h = something _ _ _ tt (bracket_calm quote true around (sign_of front.token) cs)
bracket_found cs quote false around text (Some front) h = something _ _ _ (piece_leads around text front.token front.count h) (bracket_calm quote false around (sign_of front.token) cs)

pub in_bracket : (cs : List Context) (quote : Option Quote) (raw : Bool) (around : Option Around) (text : List ℕ) → Finds (x.Bracket quote raw ∷ cs) around text (bracket_at quote raw around text)
unfolding bracket_at
in_bracket cs quote raw around text = bracket_found cs quote raw around text (code_in quote around text) (where_leads around text _ (code_front around text) (front_leads around text))

-- heads
head_calm : (with_else : Bool) (kind : TokenKind) (cs : List Context) → keeps_calm None (sign_of (Some kind)) (changed (head_change with_else kind) (x.Head with_else ∷ cs)) ≡ true
head_calm with_else (t.Sign s.OpenBrace) cs = refl
head_calm with_else (t.Sign s.OpenRound) cs = refl
head_calm with_else (t.Sign s.OpenSquare) cs = refl
head_calm with_else (t.Sign s.InterpolationStart) cs = refl
head_calm with_else (t.Sign s.HoleOpen) cs = refl
head_calm with_else (t.Sign _) cs = refl
head_calm with_else (t.Word w.If) cs = refl
head_calm with_else (t.Word w.Else) cs = refl
head_calm with_else (t.Word _) cs = refl
head_calm with_else _ cs = refl

head_found : (cs : List Context) (with_else : Bool) (around : Option Around) (text : List ℕ) (o : Option CodeFront) → Fronts around text o → Finds (x.Head with_else ∷ cs) around text (head_piece with_else around o)
head_found cs with_else around text None h = nothing
head_found cs with_else around text (Some front) h = code_found _ around text front (head_change_of with_else around front.token) h (calm around front.token)
  where
    calm : (around : Option Around) (token : Option TokenKind) → keeps_calm around (sign_of token) (changed (head_change_of with_else around token) (x.Head with_else ∷ cs)) ≡ true
    calm None None = refl
    calm None (Some kind) = head_calm with_else kind cs
    calm (Some a) token = refl

pub in_head : (cs : List Context) (with_else : Bool) (around : Option Around) (text : List ℕ) → Finds (x.Head with_else ∷ cs) around text (head_at with_else around text)
unfolding head_at
in_head cs with_else around text = head_found cs with_else around text (code_front around text) (front_leads around text)

-- statements
brace_calm : (at : Point) (with_else : Bool) (cs : List Context) → keeps_calm None (Some s.OpenBrace) (changed (brace_change at with_else) (x.Block at with_else ∷ cs)) ≡ true
brace_calm point.BehindWith with_else cs = refl
brace_calm point.Begins with_else cs = refl
brace_calm point.Within with_else cs = refl

end_calm : (at : Point) (with_else b : Bool) (cs : List Context) → keeps_calm None (Some s.CloseBrace) (changed (if b then record { leaves = true; enters = Some (x.Head false); within = None; sign = None } else leaves) (x.Block at with_else ∷ cs)) ≡ true
end_calm at with_else true cs = refl
end_calm at with_else false cs = refl

sign_calm : (at : Point) (with_else : Bool) (sign : Sign) (text : List ℕ) (cs : List Context) → keeps_calm None (Some sign) (changed (block_sign at with_else sign text) (x.Block at with_else ∷ cs)) ≡ true
sign_calm at with_else s.OpenBrace text cs = brace_calm at with_else cs
sign_calm at with_else s.CloseBrace text cs = end_calm at with_else (with_else && else_follows text) cs
sign_calm at with_else _ text cs = refl

block_calm : (at : Point) (with_else : Bool) (kind : TokenKind) (text : List ℕ) (cs : List Context) → keeps_calm None (sign_of (Some kind)) (changed (block_change at with_else kind text) (x.Block at with_else ∷ cs)) ≡ true
block_calm at with_else (t.Sign sign) text cs = sign_calm at with_else sign text cs
block_calm at with_else (t.Name name) text cs = refl
block_calm at with_else _ text cs = refl

open_calm : (at : Point) (with_else : Bool) (a : Around) (sign : Option Sign) (cs : List Context) → is_calm (x.Block at with_else ∷ cs) (Some a) ≡ true → keeps_calm (Some a) sign (x.Block at with_else ∷ cs) ≡ true
open_calm at with_else a sign cs e = e

statement_found : (cs : List Context) (at : Point) (with_else : Bool) (around : Option Around) (text : List ℕ) (o : Option CodeFront) → is_calm (x.Block at with_else ∷ cs) around ≡ true → Fronts around text o
    → Finds (x.Block at with_else ∷ cs) around text (statement_piece at with_else around text o)
statement_found cs at with_else around text None calm h = nothing
statement_found cs at with_else around text (Some front) calm h =
    code_found _ around text front (block_change_of at with_else around front.token (drop front.count text)) h (by around front.token (drop front.count text) calm)
  where
    by : (around : Option Around) (token : Option TokenKind) (rest : List ℕ) → is_calm (x.Block at with_else ∷ cs) around ≡ true
        → keeps_calm around (sign_of token) (changed (block_change_of at with_else around token rest) (x.Block at with_else ∷ cs)) ≡ true
    by None None rest calm = refl
    by None (Some kind) rest calm = block_calm at with_else kind rest cs
    by (Some a) token rest calm = open_calm at with_else a (sign_of token) cs calm

pub in_statement : (cs : List Context) (at : Point) (with_else : Bool) (around : Option Around) (text : List ℕ) → is_calm (x.Block at with_else ∷ cs) around ≡ true → Finds (x.Block at with_else ∷ cs) around text (statement_at at with_else around text)
unfolding statement_at
in_statement cs at with_else around text calm = statement_found cs at with_else around text (code_front around text) calm (front_leads around text)

-- values of code
plain_found : (cs : List Context) (quote : Option Quote) (around : Option Around) (text : List ℕ) (o : Option CodeFront) → Fronts around text o → Finds (x.Value held.Code quote ∷ cs) around text (plain_code o)
plain_found cs quote around text None h = nothing
plain_found cs quote around text (Some front) h = code_found _ around text front stays h (or_right (not (is_some around) && not (starts (sign_of front.token))) true refl)

code_ends : (cs : List Context) (quote : Option Quote) (around : Option Around) (text : List ℕ) (count : ℕ) (b : Bool) (y : Option Found) → Finds (x.Value held.Code quote ∷ cs) around text y
    → Finds (x.Value held.Code quote ∷ cs) around text (if not (is_some around) && b then piece k.ValueEnd count leaves else y)
code_ends cs quote None text count b y h = choose _ None text b _ y (something _ _ _ tt refl) h
code_ends cs quote (Some a) text count b y h = h

pub in_code_value : (cs : List Context) (quote : Quote) (around : Option Around) (text : List ℕ) → Finds (x.Value held.Code (Some quote) ∷ cs) around text (code_value_at quote around text)
unfolding code_value_at
in_code_value cs quote around text = code_ends cs (Some quote) around text 1 _ _ (plain_found cs (Some quote) around text _ (where_leads around text _ (code_front around text) (front_leads around text)))

pub in_bare_code : (cs : List Context) (around : Option Around) (text : List ℕ) → Finds (x.Value held.Code None ∷ cs) around text (bare_code_at around text)
unfolding bare_code_at
in_bare_code cs around text = code_ends cs None around text 0 _ _ (plain_found cs None around text _ (where_leads around text (keeps_bare text) (code_front around text) (front_leads around text)))
