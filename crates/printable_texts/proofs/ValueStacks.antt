-- What is open in the value of an attribute, and what is found in the expressions of one.
use Rattle.std.proofs.Common.{◌≡◌, ℕ, Bool, true, false, List, ◌∷◌, Some, None, refl}
use Rattle.std.specs.Prelude.{if◌then◌else◌}
use Rattle.std.specs.declared.option.Option.{Option}
use Rattle.cs_token.specs.declared.around.Around.{Around}
use Rattle.cs_token.specs.declared.token.TokenKind.{TokenKind}
use Rattle.cs_token.specs.declared.token.TokenKind.TheVariants as t
use Rattle.cs_token.specs.declared.token.Sign.{Sign}
use Rattle.cs_token.specs.declared.token.Sign.TheVariants as s
use Rattle.razor_token.specs.declared.context.Change.{Change}
use Rattle.razor_token.specs.declared.context.Context.{Context}
use Rattle.razor_token.specs.declared.context.Context.TheVariants as x
use Rattle.razor_token.specs.declared.context.Held.{Held}
use Rattle.razor_token.specs.declared.context.Held.TheVariants as held
use Rattle.razor_token.specs.declared.context.Holds.{Holds}
use Rattle.razor_token.specs.declared.context.Holds.TheVariants as h
use Rattle.razor_token.specs.declared.found.CodeFront.{CodeFront}
use Rattle.razor_token.specs.declared.found.Found.{Found}
use Rattle.razor_token.specs.declared.piece.PieceKind.{PieceKind}
use Rattle.razor_token.specs.declared.piece.PieceKind.TheVariants as k
use Rattle.razor_token.specs.declared.piece.Quote.{Quote}
use Rattle.razor_token.specs.CodeFronts.{code_front, code_in, sign_of, code_kind, opens, closes, bracket_change, bracket_piece, bracket_at, opening_at, name_piece, name_at, chain_at, closing_at}
use Rattle.razor_token.specs.Contexts.{changed, stays, leaves, becomes, becomes_both}
use Rattle.razor_token.specs.ValueFronts.{code_lead_at, shown_lead_at}
use Rattle.printable_texts.specs.Stands.{FitsValue}
use Rattle.printable_texts.proofs.OutsideLaws.{IsOuter}

-- a context of an expression
abbrev pub is_inner : Context → Bool
is_inner x.CodeLead = true
is_inner x.ShownLead = true
is_inner x.Opening = true
is_inner (x.Name quote) = true
is_inner (x.Chain quote) = true
is_inner x.Closing = true
is_inner (x.Bracket quote false) = true
is_inner _ = false

-- literal text and expressions
abbrev pub is_mixed : Holds → Bool
is_mixed h.Mixed = true
is_mixed _ = false

-- what a value in these quotes or none can be, by what its attribute can hold
pub data MayHold (holds : Holds) : Option Quote → Held → Type 0 where
  holds_mixed : (quote : Quote) → MayHold holds (Some quote) held.Mixed
  holds_text : (quote : Quote) → is_mixed holds ≡ false → MayHold holds (Some quote) held.Text
  holds_bare : MayHold holds None held.Text
  holds_code : (quote : Option Quote) → MayHold holds quote held.Code
  holds_ended : (quote : Option Quote) → MayHold holds quote held.Ended

-- in a value, in the brackets of its text, or in an expression of it
pub data InValue (component void : Bool) (holds : Holds) (quote : Option Quote) : List Context → Type 0 where
  base : (kind : Held) (outer : List Context) → MayHold holds quote kind → IsOuter outer → InValue component void holds quote (x.Value kind quote ∷ x.StartTag component void ∷ outer)
  inner : (c : Context) (cs : List Context) → is_inner c ≡ true → InValue component void holds quote cs → InValue component void holds quote (c ∷ cs)
  in_brackets : (cs : List Context) → is_mixed holds ≡ false → InValue component void holds quote cs → InValue component void holds quote (x.Bracket None true ∷ cs)

-- a piece inside a value
abbrev pub IsSaid : Holds → Option Quote → PieceKind → Type 0
IsSaid holds quote (k.Literal x) = FitsValue holds quote x
IsSaid holds quote (k.Code kind) = Unit {0}
IsSaid holds quote k.Gap = Unit {0}
IsSaid holds quote k.At = Unit {0}
IsSaid holds quote k.ExpressionEnd = Unit {0}
IsSaid holds quote _ = ⊥

-- what is found there: a piece that leaves the value open, or its end
pub data ValueGoes (component void : Bool) (holds : Holds) (quote : Option Quote) (cs : List Context) : Option Found → Type 0 where
  nothing : ValueGoes component void holds quote cs None
  on : (kind : PieceKind) (count : ℕ) (change : Change) → IsSaid holds quote kind → InValue component void holds quote (changed change cs)
      → ValueGoes component void holds quote cs (Some (record { kind = kind; count = count; change = change }))
  ends : (count : ℕ) (change : Change) (outer : List Context) → changed change cs ≡ x.StartTag component void ∷ outer → IsOuter outer
      → ValueGoes component void holds quote cs (Some (record { kind = k.ValueEnd; count = count; change = change }))

module _ (component void : Bool) (holds : Holds) (quote : Option Quote) where
  abbrev pub In : List Context → Type 0
  In cs = InValue component void holds quote cs

  abbrev pub Goes : List Context → Option Found → Type 0
  Goes cs o = ValueGoes component void holds quote cs o

  pub choose : (cs : List Context) (b : Bool) (y z : Option Found) → Goes cs y → Goes cs z → Goes cs (if b then y else z)
  choose cs true y z h i = h
  choose cs false y z h i = i

  pub code_goes : (cs : List Context) (token : Option TokenKind) (count : ℕ) (change : Change) → In (changed change cs) → Goes cs (Some (record { kind = code_kind token; count = count; change = change }))
  code_goes cs None count change h = on k.Gap count change tt h
  code_goes cs (Some kind) count change h = on (k.Code kind) count change tt h

  -- brackets
  pub by_sign : (context : Context) (cs : List Context) → ((ds : List Context) → In ds → In (context ∷ ds)) → (a b : Bool) → In cs
      → In (changed (if a then record { leaves = false; enters = Some context; within = None; sign = None } else if b then leaves else stays) (context ∷ cs))
  by_sign context cs more true b here = more (context ∷ cs) (more cs here)
  by_sign context cs more false true here = here
  by_sign context cs more false false here = more cs here

  pub bracket_in : (quotes : Option Quote) (raw : Bool) (around : Option Around) (sign : Option Sign) (cs : List Context) → ((ds : List Context) → In ds → In (x.Bracket quotes raw ∷ ds)) → In cs
      → In (changed (bracket_change quotes raw around sign) (x.Bracket quotes raw ∷ cs))
  bracket_in quotes raw None (Some sign) cs more here = by_sign (x.Bracket quotes raw) cs more (opens sign) (closes sign) here
  bracket_in quotes raw None None cs more here = more cs here
  bracket_in quotes raw (Some a) sign cs more here = more cs here

  pub in_bracket : (quotes : Option Quote) (around : Option Around) (text : List ℕ) (cs : List Context) → In cs → Goes (x.Bracket quotes false ∷ cs) (bracket_at quotes false around text)
  unfolding bracket_at
  in_bracket quotes around text cs here = go (code_in quotes around text)
    where
      go : (o : Option CodeFront) → Goes (x.Bracket quotes false ∷ cs) (bracket_piece quotes false around text o)
      go None = nothing
      go (Some front) = code_goes _ front.token front.count _ (bracket_in quotes false around (sign_of front.token) cs (λ ds i. inner (x.Bracket quotes false) ds refl i) here)

  -- names
  name_goes : (cs : List Context) (change : Change) (o : Option CodeFront) → In (changed change cs) → Goes cs (name_piece change o)
  name_goes cs change None here = nothing
  name_goes cs change (Some front) here = go front.token
    where
      kinds : (kind : TokenKind) → Goes cs (name_piece change (Some (record { token = Some kind; count = front.count })))
      kinds (t.Name name) = on (k.Code (t.Name name)) front.count change tt here
      kinds _ = nothing

      go : (token : Option TokenKind) → Goes cs (name_piece change (Some (record { token = token; count = front.count })))
      go None = nothing
      go (Some kind) = kinds kind

  pub in_name : (quotes : Option Quote) (text : List ℕ) (cs : List Context) → In cs → Goes (x.Name quotes ∷ cs) (name_at quotes text)
  unfolding name_at
  in_name quotes text cs here = name_goes (x.Name quotes ∷ cs) (becomes (x.Chain quotes)) (code_front None text) (inner (x.Chain quotes) cs refl here)

  pub in_opening : (text : List ℕ) (cs : List Context) → In cs → Goes (x.Opening ∷ cs) (opening_at text)
  unfolding opening_at
  in_opening text cs here = choose _ _ _ _ (on (k.Code (t.Sign s.OpenRound)) 1 _ tt (inner (x.Bracket None false) cs refl here)) nothing

  pub in_chain : (quotes : Option Quote) (text : List ℕ) (cs : List Context) → In cs → Goes (x.Chain quotes ∷ cs) (chain_at quotes text)
  unfolding chain_at
  in_chain quotes text cs here =
      let chain = inner (x.Chain quotes) cs refl here in
      choose _ _ _ _ (on (k.Code (t.Sign s.Dot)) 1 _ tt (inner (x.Name quotes) cs refl here))
      (choose _ _ _ _ (on (k.Code (t.Sign s.OpenRound)) 1 _ tt (inner (x.Bracket quotes false) (x.Chain quotes ∷ cs) refl chain))
      (choose _ _ _ _ (on (k.Code (t.Sign s.OpenSquare)) 1 _ tt (inner (x.Bracket quotes false) (x.Chain quotes ∷ cs) refl chain)) (on k.ExpressionEnd 0 leaves tt here)))

  pub in_closing : (cs : List Context) → In cs → Goes (x.Closing ∷ cs) closing_at
  in_closing cs here = on k.ExpressionEnd 0 leaves tt here

  -- at signs
  pub in_code_lead : (text : List ℕ) (cs : List Context) → In cs → Goes (x.CodeLead ∷ cs) (code_lead_at text)
  unfolding code_lead_at
  in_code_lead text cs here = choose _ _ _ _ (on k.At 1 (becomes x.Opening) tt (inner x.Opening cs refl here)) (choose _ _ _ _ (on k.At 1 leaves tt here) nothing)

  pub in_shown_lead : (text : List ℕ) (cs : List Context) → In cs → Goes (x.ShownLead ∷ cs) (shown_lead_at text)
  unfolding shown_lead_at
  in_shown_lead text cs here =
      choose _ _ _ _ (on k.At 1 (becomes_both x.Closing x.Opening) tt (inner x.Opening (x.Closing ∷ cs) refl (inner x.Closing cs refl here)))
      (choose _ _ _ _ (on k.At 1 (becomes (x.Name None)) tt (inner (x.Name None) cs refl here)) nothing)
