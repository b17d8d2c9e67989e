-- The same in content, and where an expression, members or a directive stand.
use Rattle.std.proofs.Common.{◌≡◌, ℕ, ◌+◌, Bool, true, false, List, [], ◌∷◌, take, Some, None, refl, sym, ap, ◌∙◌, subst, add-one}
use Rattle.std.specs.Prelude.{◌==◌, ◌||◌, not, if◌then◌else◌}
use Rattle.std.specs.declared.option.Option.{Option}
use Rattle.std.specs.List.{list_all}
use Rattle.std.proofs.lemmas.Bool.{false≢true}
use Rattle.cs_token.specs.declared.token.TokenKind.{TokenKind}
use Rattle.cs_token.specs.declared.token.TokenKind.TheVariants as t
use Rattle.cs_token.specs.declared.token.Sign.{Sign}
use Rattle.cs_token.specs.declared.token.Sign.TheVariants as s
use Rattle.razor_token.specs.declared.context.Change.{Change}
use Rattle.razor_token.specs.declared.context.Context.{Context}
use Rattle.razor_token.specs.declared.context.Context.TheVariants as x
use Rattle.razor_token.specs.declared.context.Wanted.{Wanted}
use Rattle.razor_token.specs.declared.context.Wanted.TheVariants as wanted
use Rattle.razor_token.specs.declared.found.CodeFront.{CodeFront}
use Rattle.razor_token.specs.declared.found.Found.{Found}
use Rattle.razor_token.specs.declared.piece.PieceKind.TheVariants as k
use Rattle.razor_token.specs.declared.piece.Quote.{Quote}
use Rattle.razor_token.specs.declared.runs.RunKind.{RunKind}
use Rattle.razor_token.specs.declared.runs.RunKind.TheVariants as r
use Rattle.razor_token.specs.CodeFronts.{code_front, opening_at, name_piece, name_at, chain_at, closing_at, members_piece, members_at}
use Rattle.razor_token.specs.Contexts.{changed, stays, leaves, becomes}
use Rattle.razor_token.specs.Directives.{line_end, directive_at}
use Rattle.razor_token.specs.Pieces.{piece, literal}
use Rattle.razor_token.specs.Runs.{is_of, run}
use Rattle.printed_pieces.specs.Places.{is_said}
use Rattle.printed_pieces.specs.PrintableNodes.{IsContentText, content_text}
use Rattle.printable_texts.proofs.OutsideLaws.{IsOuter, Goes, nothing, on}

pub choose : (cs : List Context) (b : Bool) (y z : Option Found) → Goes cs y → Goes cs z → Goes cs (if b then y else z)
choose cs true y z h i = h
choose cs false y z h i = i

-- names
name_goes : (cs : List Context) (change : Change) (o : Option CodeFront) → IsOuter (changed change cs) → Goes cs (name_piece change o)
name_goes cs change None h = nothing
name_goes cs change (Some front) h = go front.token
  where
    kinds : (kind : TokenKind) → Goes cs (name_piece change (Some (record { token = Some kind; count = front.count })))
    kinds (t.Name name) = on (k.Code (t.Name name)) front.count change tt refl h
    kinds _ = nothing

    go : (token : Option TokenKind) → Goes cs (name_piece change (Some (record { token = token; count = front.count })))
    go None = nothing
    go (Some kind) = kinds kind

pub in_name : (quote : Option Quote) (text : List ℕ) (cs : List Context) → IsOuter cs → Goes (x.Name quote ∷ cs) (name_at quote text)
unfolding name_at
in_name quote text cs h = name_goes (x.Name quote ∷ cs) (becomes (x.Chain quote)) (code_front None text) h

pub in_opening : (text : List ℕ) (cs : List Context) → IsOuter cs → Goes (x.Opening ∷ cs) (opening_at text)
unfolding opening_at
in_opening text cs h = choose _ _ _ _ (on (k.Code (t.Sign s.OpenRound)) 1 _ tt refl h) nothing

pub in_chain : (quote : Option Quote) (text : List ℕ) (cs : List Context) → IsOuter cs → Goes (x.Chain quote ∷ cs) (chain_at quote text)
unfolding chain_at
in_chain quote text cs h =
    choose _ _ _ _ (on (k.Code (t.Sign s.Dot)) 1 _ tt refl h)
    (choose _ _ _ _ (on (k.Code (t.Sign s.OpenRound)) 1 _ tt refl h) (choose _ _ _ _ (on (k.Code (t.Sign s.OpenSquare)) 1 _ tt refl h) (on k.ExpressionEnd 0 leaves tt refl h)))

pub in_closing : (cs : List Context) → IsOuter cs → Goes (x.Closing ∷ cs) closing_at
in_closing cs h = on k.ExpressionEnd 0 leaves tt refl h

pub in_members : (text : List ℕ) (cs : List Context) → IsOuter cs → Goes (x.Members ∷ cs) (members_at text)
unfolding members_at
in_members text cs h = go (code_front None text)
  where
    signs : (count : ℕ) (sign : Sign) → Goes (x.Members ∷ cs) (members_piece (Some (record { token = Some (t.Sign sign); count = count })))
    signs count s.OpenBrace = on (k.Code (t.Sign s.OpenBrace)) count _ tt refl h
    signs count _ = nothing

    kinds : (count : ℕ) (kind : TokenKind) → Goes (x.Members ∷ cs) (members_piece (Some (record { token = Some kind; count = count })))
    kinds count (t.Sign sign) = signs count sign
    kinds count _ = nothing

    tokens : (count : ℕ) (token : Option TokenKind) → Goes (x.Members ∷ cs) (members_piece (Some (record { token = token; count = count })))
    tokens count None = on k.Gap count stays tt refl h
    tokens count (Some kind) = kinds count kind

    go : (o : Option CodeFront) → Goes (x.Members ∷ cs) (members_piece o)
    go None = nothing
    go (Some front) = tokens front.count front.token

-- directives
line_end_goes : (cs : List Context) (text : List ℕ) → IsOuter (changed leaves cs) → Goes cs (line_end text)
line_end_goes cs text h = choose _ _ _ _ (on k.DirectiveEnd _ leaves tt refl h) nothing

pub in_directive : (wanted_so : Wanted) (text : List ℕ) (cs : List Context) → IsOuter cs → Goes (x.Directive wanted_so ∷ cs) (directive_at wanted_so text)
unfolding directive_at
in_directive wanted.Name text cs h = name_goes _ (becomes (x.Directive wanted.Dot)) (code_front None text) h
in_directive wanted.Dot text cs h = choose _ _ _ _ (on (k.Code (t.Sign s.Dot)) 1 _ tt refl h) (line_end_goes _ text h)
in_directive wanted.End text cs h = line_end_goes _ text h

-- literal text
take_more : (n c : ℕ) (text : List ℕ) → take (n + 1) (c ∷ text) ≡ c ∷ take n text
take_more n c text = ap (λ m. take m (c ∷ text)) (add-one n)

pub weaker : (kind : RunKind) → (kind ≡ r.Content) → (c : ℕ) → is_of kind c ≡ true → is_said r.Content c ≡ true
weaker kind is c e = content_said (c == 64) (c == 60) (subst (λ z. is_of z c ≡ true) is e)
  where
    content_said : (a b : Bool) → not (a || b) ≡ true → (a || not (a || b)) ≡ true
    content_said true b e = refl
    content_said false b e = e

pub line_weaker : (c : ℕ) → is_of r.InLine c ≡ true → is_said r.Content c ≡ true
line_weaker c e = by (c == 64) (c == 60) (c == 10) e
  where
    by : (a b d : Bool) → not (a || b || d) ≡ true → (a || not (a || b)) ≡ true
    by true b d e = refl
    by false true d e = absurd (cc)
    by false false d e = refl

run_all : (kind : RunKind) → ((c : ℕ) → is_of kind c ≡ true → is_said r.Content c ≡ true) → (text : List ℕ) → list_all (is_said r.Content) (take (run kind text) text) ≡ true
run_all kind said [] = refl
run_all kind said (c ∷ text) = go (is_of kind c) refl (run_all kind said text)
  where
    go : (b : Bool) → is_of kind c ≡ b → list_all (is_said r.Content) (take (run kind text) text) ≡ true → list_all (is_said r.Content) (take (run kind (c ∷ text)) (c ∷ text)) ≡ true
    go true e all =
        let long : run kind (c ∷ text) ≡ run kind text + 1 = rw e refl in
        ap (λ m. list_all (is_said r.Content) (take m (c ∷ text))) long ∙ ap (list_all (is_said r.Content)) (take_more (run kind text) c text) ∙ rw (said c e, all) refl
    go false e all = let none : run kind (c ∷ text) ≡ 0 = rw e refl in ap (λ m. list_all (is_said r.Content) (take m (c ∷ text))) none

run_text : (kind : RunKind) → ((c : ℕ) → is_of kind c ≡ true → is_said r.Content c ≡ true) → (text : List ℕ) → (run kind text == 0) ≡ false → IsContentText (take (run kind text) text)
run_text kind said [] some = absurd (false≢true (sym some))
run_text kind said (c ∷ text) some = go (is_of kind c) refl (run_all kind said (c ∷ text))
  where
    go : (b : Bool) → is_of kind c ≡ b → list_all (is_said r.Content) (take (run kind (c ∷ text)) (c ∷ text)) ≡ true → IsContentText (take (run kind (c ∷ text)) (c ∷ text))
    go true e all =
        let long : run kind (c ∷ text) ≡ run kind text + 1 = rw e refl in
        let whole = ap (λ m. take m (c ∷ text)) long ∙ take_more (run kind text) c text in
        subst IsContentText (sym whole) (content_text c (take (run kind text) text) (ap (list_all (is_said r.Content)) (sym whole) ∙ all))
    go false e all = let none : run kind (c ∷ text) ≡ 0 = rw e refl in absurd (false≢true (sym some ∙ ap (λ m. m == 0) none))

pub literal_goes : (cs : List Context) (kind : RunKind) → ((c : ℕ) → is_of kind c ≡ true → is_said r.Content c ≡ true) → (text : List ℕ) → IsOuter cs → Goes cs (literal (run kind text) text)
literal_goes cs kind said text h = go (run kind text == 0) refl
  where
    go : (b : Bool) → (run kind text == 0) ≡ b → Goes cs (if b then None else piece (k.Literal (take (run kind text) text)) (run kind text) stays)
    go true e = nothing
    go false e = on (k.Literal (take (run kind text) text)) (run kind text) stays (run_text kind said text e) refl h
