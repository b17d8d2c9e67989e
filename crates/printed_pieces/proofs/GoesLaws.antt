-- Code is cut into its tokens, each of which changes what is open.
use Rattle.std.proofs.Common.{◌≡◌, ℕ, true, List, [], ◌∷◌, ◌++◌, Some, None, refl, sym, subst}
use Rattle.std.specs.declared.option.Option.{Option}
use Rattle.text_core.specs.declared.place.Place.{Place}
use Rattle.cs_token.specs.declared.around.Around.{Around}
use Rattle.cs_token.specs.declared.around.Around.TheVariants as around
use Rattle.cs_token.specs.declared.around.Opened.{Opened}
use Rattle.cs_token.specs.declared.token.Sign.TheVariants as s
use Rattle.cs_token.specs.declared.token.TokenKind.{TokenKind}
use Rattle.cs_token.specs.declared.token.TokenKind.TheVariants as t
use Rattle.cs_token.specs.Lexemes.{Stands}
use Rattle.cs_token.specs.Places.{place_after}
use Rattle.cs_token.specs.Spelling as code
use Rattle.cs_token.specs.Walks.{stay}
use Rattle.cs_token.specs.Spelling.{behind_sign, behind_kind, Step, step}
use Rattle.cs_print.specs.Layout.{code_text}
use Rattle.cs_print.specs.Printed.{Kinds}
use Rattle.cs_print.proofs.CodeKinds.{IsCode}
use Rattle.cs_print.proofs.LayLemmas as l
use Rattle.cs_print.proofs.LayLemmas.{code-laid}
use Rattle.razor_token.specs.declared.context.Context.{Context}
use Rattle.razor_token.specs.declared.piece.PieceKind.TheVariants as k
use Rattle.razor_token.specs.CodeFronts.{sign_of}
use Rattle.razor_token.specs.Contexts.{changed, with_sign}
use Rattle.razor_token.specs.Cutting.{last_of, opened_behind}
use Rattle.razor_print.specs.Parts.{Parts, tokens}
use Rattle.razor_print.specs.Parts as parts
use Rattle.printed_pieces.specs.Meant as m
use Rattle.printed_pieces.specs.Cut.{Lays, within, Stand}
use Rattle.printed_pieces.proofs.WalkLaws.{step-found, lays-one, lays-none, lays-join}
use Rattle.printed_pieces.proofs.FrontLaws.{IsCodePlace, code_change, fits, context-found, gap-stays}

-- what is open of interpolated texts, without places
abbrev pub arounds : List Opened → List Around
arounds [] = []
arounds (opened ∷ outer) = opened.around ∷ arounds outer

abbrev pub first : List Around → Option Around
first [] = None
first (a ∷ outer) = Some a

abbrev pub outer_of : List Around → List Around
outer_of [] = []
outer_of (a ∷ outer) = outer

abbrev pub with_braces : List Around → List Around
with_braces [] = []
with_braces (a ∷ outer) = around.Braces ∷ a ∷ outer

-- the same behind a token
abbrev pub around_behind : TokenKind → List Around → List Around
around_behind (t.Sign s.InterpolationStart) open_ones = around.Interpolation ∷ open_ones
around_behind (t.Sign s.InterpolationEnd) open_ones = outer_of open_ones
around_behind (t.Sign s.HoleOpen) open_ones = around.Hole ∷ open_ones
around_behind (t.Sign s.HoleClose) open_ones = outer_of open_ones
around_behind (t.Sign s.OpenBrace) open_ones = with_braces open_ones
around_behind (t.Sign s.CloseBrace) open_ones = outer_of open_ones
around_behind _ open_ones = open_ones

pub same-first : (o : List Opened) → first (arounds o) ≡ code.innermost o
same-first [] = refl
same-first (opened ∷ o) = refl

same-outer : (o : List Opened) → arounds (code.closed o) ≡ outer_of (arounds o)
same-outer [] = refl
same-outer (opened ∷ o) = refl

same-braces : (place : Place) (o : List Opened) → arounds (code.with_brace place o) ≡ with_braces (arounds o)
same-braces place [] = refl
same-braces place (opened ∷ o) = refl

pub same-behind : (kind : TokenKind) (place : Place) (o : List Opened) → arounds (behind_kind (Some kind) place o) ≡ around_behind kind (arounds o)
unfolding behind_sign
same-behind (t.Sign s.InterpolationStart) place o = refl
same-behind (t.Sign s.InterpolationEnd) place o = same-outer o
same-behind (t.Sign s.HoleOpen) place o = refl
same-behind (t.Sign s.HoleClose) place o = same-outer o
same-behind (t.Sign s.OpenBrace) place o = same-braces place o
same-behind (t.Sign s.CloseBrace) place o = same-outer o
same-behind (t.Sign sign) place o = refl
same-behind kind place o = refl

pub same-opened : (kind : TokenKind) (place : Place) (o : List Opened) → opened_behind (sign_of (Some kind)) place o ≡ behind_kind (Some kind) place o
same-opened (t.Sign sign) place o = refl
same-opened kind place o = refl

-- Goes cs open_ones ks ds left: tokens of these kinds may stand one behind another in these contexts, where this is open of
-- interpolated texts, and the last contexts are open behind them.
pub data Goes : List Context → List Around → Kinds → List Context → List Around → Type 0 where
  stop : (c : Context) (cs : List Context) (open_ones : List Around) → IsCodePlace c → Goes (c ∷ cs) open_ones [] (c ∷ cs) open_ones
  token : (c : Context) (cs ds : List Context) (open_ones left : List Around) (kind : TokenKind) (ks : Kinds) → IsCodePlace c → fits c (first open_ones) kind ≡ true →
      Goes (changed (code_change c (first open_ones) (Some kind)) (c ∷ cs)) (around_behind kind open_ones) ks ds left → Goes (c ∷ cs) open_ones (kind ∷ ks) ds left

pub goes-join : (cs ds es : List Context) (open_ones left last : List Around) (ks ms : Kinds) → Goes cs open_ones ks ds left → Goes ds left ms es last → Goes cs open_ones (ks ++ ms) es last
goes-join _ _ es _ _ last _ ms (stop c cs open_ones place) more = more
goes-join _ ds es _ left last _ ms (token c cs _ open_ones _ kind ks place fit rest) more =
    token c cs es open_ones last kind (ks ++ ms) place fit (goes-join _ ds es _ left last ks ms rest more)

-- the first token, and the others
record Next (cs : List Context) (open_ones : List Around) (kind : TokenKind) (ks : Kinds) (ds : List Context) (left : List Around) : Type 0 where
  c : Context
  outer : List Context
  is : c ∷ outer ≡ cs
  place : IsCodePlace c
  fit : fits c (first open_ones) kind ≡ true
  behind : Goes (changed (code_change c (first open_ones) (Some kind)) (c ∷ outer)) (around_behind kind open_ones) ks ds left

next : (cs : List Context) (open_ones : List Around) (kind : TokenKind) (ks : Kinds) (ds : List Context) (left : List Around) → Goes cs open_ones (kind ∷ ks) ds left → Next cs open_ones kind ks ds left
next _ _ _ _ _ _ (token c cs ds open_ones left kind ks place fit rest) = record { c = c; outer = cs; is = refl; place = place; fit = fit; behind = rest }

-- the innermost context is one of code
record Inner (cs : List Context) : Type 0 where
  c : Context
  outer : List Context
  is : c ∷ outer ≡ cs
  place : IsCodePlace c

inner : (cs : List Context) (open_ones : List Around) (ks : Kinds) (ds : List Context) (left : List Around) → Goes cs open_ones ks ds left → Inner cs
inner _ _ _ _ _ (stop c cs open_ones place) = record { c = c; outer = cs; is = refl; place = place }
inner _ _ _ _ _ (token c cs ds open_ones left kind ks place fit rest) = record { c = c; outer = cs; is = refl; place = place }

record Ends (cs ds : List Context) (open_ones left : List Around) : Type 0 where
  contexts : cs ≡ ds
  open_is : open_ones ≡ left

ends : (cs ds : List Context) (open_ones left : List Around) → Goes cs open_ones [] ds left → Ends cs ds open_ones left
ends _ _ _ _ (stop c cs open_ones place) = record { contexts = refl; open_is = refl }

-- one token, and white space or a comment

token-lays : (c : Context) (cs : List Context) (o : List Opened) (before text rest : List ℕ) (kind : TokenKind) → IsCodePlace c → fits c (first (arounds o)) kind ≡ true → Stands (code.innermost o) (Some kind) text rest
    → Lays (within (c ∷ cs) o before (text ++ rest)) (parts.token kind ∷ []) (within (changed (code_change c (first (arounds o)) (Some kind)) (c ∷ cs)) (behind_kind (Some kind) (place_after before) o) (before ++ text) rest)
token-lays c cs o before text rest kind place fit stands =
    let change = with_sign (sign_of (Some kind)) (code_change c (code.innermost o) (Some kind)) in
    let found = context-found c (code.innermost o) (Some kind) (last_of before) text rest place (subst (λ z. fits c z kind ≡ true) (same-first o) fit) stands in
    let steps = step-found (c ∷ cs) o before text rest (k.Code kind) change found refl in
    subst (λ z. Lays (within (c ∷ cs) o before (text ++ rest)) (parts.token kind ∷ []) (within (changed (code_change c z (Some kind)) (c ∷ cs)) (behind_kind (Some kind) (place_after before) o) (before ++ text) rest)) (sym (same-first o))
    (subst (λ z. Lays (within (c ∷ cs) o before (text ++ rest)) (parts.token kind ∷ []) (within (changed (code_change c (code.innermost o) (Some kind)) (c ∷ cs)) z (before ++ text) rest)) (same-opened kind (place_after before) o)
    (lays-one _ _ (k.Code kind) (parts.token kind ∷ []) steps refl (λ p is. m.token kind p [] [] is m.no_part)))

pub gap-lays : (c : Context) (cs : List Context) (o : List Opened) (before text rest : List ℕ) → IsCodePlace c → Stands (code.innermost o) None text rest
    → Lays (within (c ∷ cs) o before (text ++ rest)) [] (within (c ∷ cs) o (before ++ text) rest)
gap-lays c cs o before text rest place stands =
    let found = context-found c (code.innermost o) None (last_of before) text rest place refl stands in
    let steps = step-found (c ∷ cs) o before text rest k.Gap (with_sign None (code_change c (code.innermost o) None)) found refl in
    subst (λ z. Lays (within (c ∷ cs) o before (text ++ rest)) [] (within (changed z (c ∷ cs)) o (before ++ text) rest)) (gap-stays c (code.innermost o) place)
    (lays-none _ _ k.Gap [] steps refl m.no_part)

-- what a walk of C# is here
record Walked (cs : List Context) (a : code.Moment) (ks : Kinds) (ds : List Context) (b : code.Moment) (left : List Around) : Type 0 where
  lays : Lays (within cs a.0 a.1 a.2) (tokens ks) (within ds b.0 b.1 b.2)
  open_is : arounds b.0 ≡ left

walks : (a b : code.Moment) (ks : Kinds) → l.Lays a ks b → (cs ds : List Context) (left : List Around) → Goes cs (arounds a.0) ks ds left → Walked cs a ks ds b left
walks _ _ _ (l.stop a) cs ds left goes =
    let e = ends cs ds (arounds a.0) left goes in
    record { lays = subst (λ z. Lays (within cs a.0 a.1 a.2) [] (within z a.0 a.1 a.2)) e.contexts (record { pieces = []; laid = stay (within cs a.0 a.1 a.2); mean = m.no_part }); open_is = e.open_is }
walks _ b _ (l.token _ _ _ _ _ ks (step o before (Some kind) text rest stands) later) cs ds left goes =
    let x = next cs (arounds o) kind ks ds left goes in
    let after = changed (code_change x.c (first (arounds o)) (Some kind)) (x.c ∷ x.outer) in
    let more = walks _ b ks later after ds left (subst (λ z. Goes after z ks ds left) (sym (same-behind kind (place_after before) o)) x.behind) in
    let here = token-lays x.c x.outer o before text rest kind x.place x.fit stands in
    record {
      lays = subst (λ z. Lays (within z o before (text ++ rest)) (tokens (kind ∷ ks)) (within ds b.0 b.1 b.2)) x.is (lays-join _ _ _ (parts.token kind ∷ []) (tokens ks) here more.lays);
      open_is = more.open_is;
    }
walks _ b ks (l.gap _ _ _ _ _ (step o before None text rest stands) later) cs ds left goes =
    let x = inner cs (arounds o) ks ds left goes in
    let more = walks _ b ks later cs ds left goes in
    record {
      lays = lays-join _ _ _ [] (tokens ks) (subst (λ z. Lays (within z o before (text ++ rest)) [] (within z o (before ++ text) rest)) x.is (gap-lays x.c x.outer o before text rest x.place stands)) more.lays;
      open_is = more.open_is;
    }

-- Code stands where its tokens may stand one behind another.
pub stand-code : (cs ds : List Context) (before rest : List ℕ) (ks : Kinds) → IsCode ks → Goes cs [] ks ds [] → Stand cs before (tokens ks) (code_text ks) rest ds
stand-code cs ds before rest ks code goes = (walks _ _ ks (code-laid ks [] before rest code refl) cs ds [] goes).lays
