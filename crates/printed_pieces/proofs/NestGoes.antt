-- Tokens with whole brackets stand in brackets.
use Rattle.std.proofs.Common.{◌≡◌, Bool, true, false, List, [], ◌∷◌, ◌++◌, Some, None, refl, sym, ap, ◌∙◌, subst}
use Rattle.std.specs.Prelude.{◌&&◌, not}
use Rattle.std.proofs.lemmas.Bool.{false≢true}
use Rattle.cs_token.specs.declared.around.Around.{Around}
use Rattle.cs_token.specs.declared.around.Around.TheVariants as around
use Rattle.cs_token.specs.declared.token.Token.{Token}
use Rattle.cs_token.specs.declared.token.TokenKind.{TokenKind}
use Rattle.cs_token.specs.declared.token.TokenKind.TheVariants as k
use Rattle.cs_token.specs.declared.token.Sign.TheVariants as s
use Rattle.cs_print.specs.Printed.{Kinds}
use Rattle.cs_print.proofs.LayLemmas.{Are}
use Rattle.cs_print.proofs.LayLemmas as l
use Rattle.razor_token.specs.declared.context.Context.{Context}
use Rattle.razor_token.specs.declared.context.Context.TheVariants as x
use Rattle.razor_token.specs.declared.context.Point.TheVariants as point
use Rattle.razor_token.specs.CodeFronts.{opens, closes}
use Rattle.razor_token.specs.Contexts.{changed, stays}
use Rattle.printed_pieces.proofs.FrontLaws.{IsCodePlace, bracket, block, code_change, fits}
use Rattle.printed_pieces.proofs.GoesLaws.{Goes, stop, token, goes-join, first, around_behind}
use Rattle.printed_pieces.proofs.Nests.{Nests, NestsTexts, is_flat}
use Rattle.printed_pieces.proofs.Nests as n

-- tokens up to others, by their kinds

pub are-join : (ks ms : Kinds) (ts us rest : List Token) → Are ks ts us → Are ms us rest → Are (ks ++ ms) ts rest
are-join _ ms _ us rest (l.nil _) more = more
are-join _ ms _ us rest (l.cons kind t ks ts _ is inner) more = l.cons kind t (ks ++ ms) ts rest is (are-join ks ms ts us rest inner more)

-- the kinds of all tokens
pub kinds_of : List Token → Kinds
kinds_of [] = []
kinds_of (t ∷ ts) = t.kind ∷ kinds_of ts

pub are-kinds : (ks : Kinds) (ts rest : List Token) → rest ≡ [] → Are ks ts rest → ks ≡ kinds_of ts
unfolding kinds_of
are-kinds _ _ rest e (l.nil _) = subst (λ z. [] ≡ kinds_of z) (sym e) refl
are-kinds _ _ rest e (l.cons kind t ks ts _ is inner) = ap (λ z. z ∷ ks) (sym is) ∙ ap (λ z. t.kind ∷ z) (are-kinds ks ts rest e inner)

-- they stand in these contexts, and leave them outside they are
pub record Round (cs : List Context) (open_ones : List Around) (ts rest : List Token) : Type 0 where
  pub kinds : Kinds
  pub are : Are kinds ts rest
  pub goes : Goes cs open_ones kinds cs open_ones

-- a token, and others behind it
on : (c : Context) (cs ds es : List Context) (open_ones left last : List Around) (kind : TokenKind) (ks : Kinds) → IsCodePlace c → fits c (first open_ones) kind ≡ true
    → changed (code_change c (first open_ones) (Some kind)) (c ∷ cs) ≡ ds → around_behind kind open_ones ≡ left → Goes ds left ks es last → Goes (c ∷ cs) open_ones (kind ∷ ks) es last
on c cs ds es open_ones left last kind ks place fit e f goes =
    token c cs es open_ones last kind ks place fit (subst (λ z. Goes (changed (code_change c (first open_ones) (Some kind)) (c ∷ cs)) z ks es last) (sym f) (subst (λ z. Goes z left ks es last) (sym e) goes))

nothing : (c : Context) (cs : List Context) (open_ones : List Around) (rest : List Token) → IsCodePlace c → Round (c ∷ cs) open_ones rest rest
nothing c cs open_ones rest place = record { kinds = []; are = l.nil rest; goes = stop c cs open_ones place }

-- a token that changes nothing
still : (c : Context) (cs : List Context) (open_ones : List Around) (kind : TokenKind) (t : Token) (ts rest : List Token) → t.kind ≡ kind → IsCodePlace c → fits c (first open_ones) kind ≡ true
    → changed (code_change c (first open_ones) (Some kind)) (c ∷ cs) ≡ c ∷ cs → around_behind kind open_ones ≡ open_ones → Round (c ∷ cs) open_ones ts rest → Round (c ∷ cs) open_ones (t ∷ ts) rest
still c cs open_ones kind t ts rest is place fit e f more = record {
  kinds = kind ∷ more.kinds;
  are = l.cons kind t more.kinds ts rest is more.are;
  goes = on c cs (c ∷ cs) (c ∷ cs) open_ones open_ones open_ones kind more.kinds place fit e f more.goes;
}

-- a pair of tokens round others
pair : (c d : Context) (cs ds : List Context) (open_ones left : List Around) (kind end : TokenKind) (o e : Token) (ts us rest : List Token) → o.kind ≡ kind → e.kind ≡ end
    → IsCodePlace c → IsCodePlace d → fits c (first open_ones) kind ≡ true → fits d (first left) end ≡ true
    → changed (code_change c (first open_ones) (Some kind)) (c ∷ cs) ≡ d ∷ ds → around_behind kind open_ones ≡ left
    → changed (code_change d (first left) (Some end)) (d ∷ ds) ≡ c ∷ cs → around_behind end left ≡ open_ones
    → Round (d ∷ ds) left ts (e ∷ us) → Round (c ∷ cs) open_ones us rest → Round (c ∷ cs) open_ones (o ∷ ts) rest
pair c d cs ds open_ones left kind end o e ts us rest is closes here there fit fit_end begins opened ends closed inner outer = record {
  kinds = kind ∷ (inner.kinds ++ end ∷ outer.kinds);
  are = l.cons kind o (inner.kinds ++ end ∷ outer.kinds) ts rest is (are-join inner.kinds (end ∷ outer.kinds) ts (e ∷ us) rest inner.are (l.cons end e outer.kinds us rest closes outer.are));
  goes = on c cs (d ∷ ds) (c ∷ cs) open_ones left open_ones kind (inner.kinds ++ end ∷ outer.kinds) here fit begins opened
      (goes-join (d ∷ ds) (d ∷ ds) (c ∷ cs) left left open_ones inner.kinds (end ∷ outer.kinds) inner.goes (on d ds (c ∷ cs) (c ∷ cs) left open_ones open_ones end outer.kinds there fit_end ends closed outer.goes));
}

-- such a token bounds no part of an interpolated text
pub flat-around : (kind : TokenKind) (open_ones : List Around) → is_flat kind ≡ true → around_behind kind open_ones ≡ open_ones
flat-around (k.Sign s.InterpolationStart) open_ones e = absurd (false≢true e)
flat-around (k.Sign s.InterpolationEnd) open_ones e = absurd (false≢true e)
flat-around (k.Sign s.HoleOpen) open_ones e = absurd (false≢true e)
flat-around (k.Sign s.HoleClose) open_ones e = absurd (false≢true e)
flat-around (k.Sign s.OpenBrace) open_ones e = absurd (false≢true e)
flat-around (k.Sign s.CloseBrace) open_ones e = absurd (false≢true e)
flat-around (k.Sign sign) open_ones e = refl
flat-around kind open_ones e = refl

-- Inside an interpolated text no token changes such a context.
pub record Quiet (c : Context) : Type 0 where
  pub place : IsCodePlace c
  pub stays : (a : Around) (kind : TokenKind) → code_change c (Some a) (Some kind) ≡ stays
  pub fit : (a : Around) (kind : TokenKind) → fits c (Some a) kind ≡ true

pub quiet-bracket : Quiet (x.Bracket None false)
quiet-bracket = record { place = bracket; stays = λ a kind. refl; fit = λ a kind. refl }

never : (b c : Bool) → not (b && c && false) ≡ true
never true true = refl
never true false = refl
never false c = refl

pub quiet-block : (with_else : Bool) → Quiet (x.Block point.Within with_else)
quiet-block with_else = record { place = block point.Within with_else; stays = λ a kind. refl; fit = λ a kind. never with_else _ }

module _ (c : Context) (cs : List Context) (quiet : Quiet c) where
  unchanged : (a : Around) (kind : TokenKind) → changed (code_change c (Some a) (Some kind)) (c ∷ cs) ≡ c ∷ cs
  unchanged a kind = ap (λ z. changed z (c ∷ cs)) (quiet.stays a kind)

  quiet-token : (a : Around) (outside : List Around) (kind : TokenKind) (t : Token) (ts rest : List Token) → t.kind ≡ kind → around_behind kind (a ∷ outside) ≡ a ∷ outside
      → Round (c ∷ cs) (a ∷ outside) ts rest → Round (c ∷ cs) (a ∷ outside) (t ∷ ts) rest
  quiet-token a outside kind t ts rest is same more = still c cs (a ∷ outside) kind t ts rest is quiet.place (quiet.fit a kind) (unchanged a kind) same more

  quiet-pair : (a b : Around) (outside bs : List Around) (kind end : TokenKind) (o e : Token) (ts us rest : List Token) → o.kind ≡ kind → e.kind ≡ end
      → around_behind kind (a ∷ outside) ≡ b ∷ bs → around_behind end (b ∷ bs) ≡ a ∷ outside
      → Round (c ∷ cs) (b ∷ bs) ts (e ∷ us) → Round (c ∷ cs) (a ∷ outside) us rest → Round (c ∷ cs) (a ∷ outside) (o ∷ ts) rest
  quiet-pair a b outside bs kind end o e ts us rest is closes opened closed inner outer =
      pair c c cs cs (a ∷ outside) (b ∷ bs) kind end o e ts us rest is closes quiet.place quiet.place (quiet.fit a kind) (quiet.fit b end) (unchanged a kind) opened (unchanged b end) closed inner outer

  mutual
    pub deep : (b : Bool) (ts rest : List Token) → Nests b ts rest → (a : Around) (outside : List Around) → Round (c ∷ cs) (a ∷ outside) ts rest
    deep _ _ _ (n.none b rest) a outside = nothing c cs (a ∷ outside) rest quiet.place
    deep _ _ _ (n.flat b t ts rest is inner) a outside = quiet-token a outside t.kind t ts rest refl (flat-around t.kind (a ∷ outside) is) (deep b ts rest inner a outside)
    deep _ _ _ (n.colon b t u ts rest is free inner) a outside = quiet-token a outside (k.Sign s.Colon) t (u ∷ ts) rest is refl (deep b (u ∷ ts) rest inner a outside)
    deep _ _ _ (n.parted t _ ts rest is n.by_colon inner) a outside = quiet-token a outside (k.Sign s.Colon) t ts rest is refl (deep false ts rest inner a outside)
    deep _ _ _ (n.parted t _ ts rest is n.by_semicolon inner) a outside = quiet-token a outside (k.Sign s.Semicolon) t ts rest is refl (deep false ts rest inner a outside)
    deep _ _ _ (n.round b i o e ts us rest opens inner closes outer) a outside = quiet-pair a a outside outside (k.Sign s.OpenRound) (k.Sign s.CloseRound) o e ts us rest opens closes refl refl (deep i ts (e ∷ us) inner a outside) (deep b us rest outer a outside)
    deep _ _ _ (n.square b i o e ts us rest opens inner closes outer) a outside = quiet-pair a a outside outside (k.Sign s.OpenSquare) (k.Sign s.CloseSquare) o e ts us rest opens closes refl refl (deep i ts (e ∷ us) inner a outside) (deep b us rest outer a outside)
    deep _ _ _ (n.with_parts b i m o e ts us rest is opens inner closes outer) a outside =
        quiet-token a outside (k.Name _) m (o ∷ ts) rest is refl (quiet-pair a around.Braces outside (a ∷ outside) (k.Sign s.OpenBrace) (k.Sign s.CloseBrace) o e ts us rest opens closes refl refl (deep i ts (e ∷ us) inner around.Braces (a ∷ outside)) (deep b us rest outer a outside))
    deep _ _ _ (n.braces i o e ts us rest opens inner closes outer) a outside =
        quiet-pair a around.Braces outside (a ∷ outside) (k.Sign s.OpenBrace) (k.Sign s.CloseBrace) o e ts us rest opens closes refl refl (deep i ts (e ∷ us) inner around.Braces (a ∷ outside)) (deep false us rest outer a outside)
    deep _ _ _ (n.interpolated b o e ts us rest opens inner closes outer) a outside =
        quiet-pair a around.Interpolation outside (a ∷ outside) (k.Sign s.InterpolationStart) (k.Sign s.InterpolationEnd) o e ts us rest opens closes refl refl (deep-texts ts (e ∷ us) inner (a ∷ outside)) (deep b us rest outer a outside)

    pub deep-texts : (ts rest : List Token) → NestsTexts ts rest → (outside : List Around) → Round (c ∷ cs) (around.Interpolation ∷ outside) ts rest
    deep-texts _ _ (n.no_text rest) outside = nothing c cs (around.Interpolation ∷ outside) rest quiet.place
    deep-texts _ _ (n.literal x t ts rest is inner) outside = quiet-token around.Interpolation outside (k.Part x) t ts rest is refl (deep-texts ts rest inner outside)
    deep-texts _ _ (n.hole b o e ts us rest opens inner closes outer) outside =
        quiet-pair around.Interpolation around.Hole outside (around.Interpolation ∷ outside) (k.Sign s.HoleOpen) (k.Sign s.HoleClose) o e ts us rest opens closes refl refl (deep b ts (e ∷ us) inner around.Hole (around.Interpolation ∷ outside)) (deep-texts us rest outer outside)

-- in brackets

flat-stays : (kind : TokenKind) → is_flat kind ≡ true → code_change (x.Bracket None false) None (Some kind) ≡ stays
unfolding opens closes
flat-stays (k.Sign s.OpenRound) e = absurd (false≢true e)
flat-stays (k.Sign s.CloseRound) e = absurd (false≢true e)
flat-stays (k.Sign s.OpenSquare) e = absurd (false≢true e)
flat-stays (k.Sign s.CloseSquare) e = absurd (false≢true e)
flat-stays (k.Sign s.OpenBrace) e = absurd (false≢true e)
flat-stays (k.Sign s.CloseBrace) e = absurd (false≢true e)
flat-stays (k.Sign sign) e = refl
flat-stays kind e = refl

module _ (cs : List Context) where
  bracket-token : (kind : TokenKind) (t : Token) (ts rest : List Token) → t.kind ≡ kind → code_change (x.Bracket None false) None (Some kind) ≡ stays → around_behind kind [] ≡ []
      → Round (x.Bracket None false ∷ cs) [] ts rest → Round (x.Bracket None false ∷ cs) [] (t ∷ ts) rest
  bracket-token kind t ts rest is same none more =
      still (x.Bracket None false) cs [] kind t ts rest is bracket refl (ap (λ z. changed z (x.Bracket None false ∷ cs)) same) none more

bracket-pair : (cs : List Context) (kind end : TokenKind) (o e : Token) (ts us rest : List Token) → o.kind ≡ kind → e.kind ≡ end
    → changed (code_change (x.Bracket None false) None (Some kind)) (x.Bracket None false ∷ cs) ≡ x.Bracket None false ∷ x.Bracket None false ∷ cs → around_behind kind [] ≡ []
    → changed (code_change (x.Bracket None false) None (Some end)) (x.Bracket None false ∷ x.Bracket None false ∷ cs) ≡ x.Bracket None false ∷ cs → around_behind end [] ≡ []
    → Round (x.Bracket None false ∷ x.Bracket None false ∷ cs) [] ts (e ∷ us) → Round (x.Bracket None false ∷ cs) [] us rest → Round (x.Bracket None false ∷ cs) [] (o ∷ ts) rest
bracket-pair cs kind end o e ts us rest is closes begins opened ends closed inner outer =
    pair (x.Bracket None false) (x.Bracket None false) cs (x.Bracket None false ∷ cs) [] [] kind end o e ts us rest is closes bracket bracket refl refl begins opened ends closed inner outer

pub in_bracket : (b : Bool) (ts rest : List Token) → Nests b ts rest → (cs : List Context) → Round (x.Bracket None false ∷ cs) [] ts rest
unfolding opens closes
in_bracket _ _ _ (n.none b rest) cs = nothing (x.Bracket None false) cs [] rest bracket
in_bracket _ _ _ (n.flat b t ts rest is inner) cs =
    bracket-token cs t.kind t ts rest refl (flat-stays t.kind is) (flat-around t.kind [] is) (in_bracket b ts rest inner cs)
in_bracket _ _ _ (n.colon b t u ts rest is free inner) cs = bracket-token cs (k.Sign s.Colon) t (u ∷ ts) rest is refl refl (in_bracket b (u ∷ ts) rest inner cs)
in_bracket _ _ _ (n.parted t _ ts rest is n.by_colon inner) cs = bracket-token cs (k.Sign s.Colon) t ts rest is refl refl (in_bracket false ts rest inner cs)
in_bracket _ _ _ (n.parted t _ ts rest is n.by_semicolon inner) cs = bracket-token cs (k.Sign s.Semicolon) t ts rest is refl refl (in_bracket false ts rest inner cs)
in_bracket _ _ _ (n.round b i o e ts us rest opens inner closes outer) cs =
    bracket-pair cs (k.Sign s.OpenRound) (k.Sign s.CloseRound) o e ts us rest opens closes refl refl refl refl (in_bracket i ts (e ∷ us) inner (x.Bracket None false ∷ cs)) (in_bracket b us rest outer cs)
in_bracket _ _ _ (n.square b i o e ts us rest opens inner closes outer) cs =
    bracket-pair cs (k.Sign s.OpenSquare) (k.Sign s.CloseSquare) o e ts us rest opens closes refl refl refl refl (in_bracket i ts (e ∷ us) inner (x.Bracket None false ∷ cs)) (in_bracket b us rest outer cs)
in_bracket _ _ _ (n.with_parts b i m o e ts us rest is opens inner closes outer) cs =
    bracket-token cs (k.Name _) m (o ∷ ts) rest is refl refl
    (bracket-pair cs (k.Sign s.OpenBrace) (k.Sign s.CloseBrace) o e ts us rest opens closes refl refl refl refl (in_bracket i ts (e ∷ us) inner (x.Bracket None false ∷ cs)) (in_bracket b us rest outer cs))
in_bracket _ _ _ (n.braces i o e ts us rest opens inner closes outer) cs =
    bracket-pair cs (k.Sign s.OpenBrace) (k.Sign s.CloseBrace) o e ts us rest opens closes refl refl refl refl (in_bracket i ts (e ∷ us) inner (x.Bracket None false ∷ cs)) (in_bracket false us rest outer cs)
in_bracket _ _ _ (n.interpolated b o e ts us rest opens inner closes outer) cs =
    pair (x.Bracket None false) (x.Bracket None false) cs cs [] (around.Interpolation ∷ []) (k.Sign s.InterpolationStart) (k.Sign s.InterpolationEnd) o e ts us rest opens closes bracket bracket refl refl refl refl refl refl
    (deep-texts (x.Bracket None false) cs quiet-bracket ts (e ∷ us) inner []) (in_bracket b us rest outer cs)
