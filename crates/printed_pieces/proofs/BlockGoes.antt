-- The tokens of statements stand in blocks, and those before a block in heads.
use Rattle.std.proofs.Common.{◌≡◌, ℕ, Bool, true, false, List, [], ◌∷◌, ◌++◌, Some, None, refl, sym, ap, subst}
use Rattle.std.specs.Prelude.{◌&&◌, not, codes, if◌then◌else◌}
use Rattle.std.specs.Str.{bytes_eq}
use Rattle.std.proofs.lemmas.Bool.{false≢true}
use Rattle.cs_token.specs.declared.around.Around.TheVariants as around
use Rattle.cs_token.specs.declared.token.Token.{Token}
use Rattle.cs_token.specs.declared.token.TokenKind.{TokenKind}
use Rattle.cs_token.specs.declared.token.TokenKind.TheVariants as k
use Rattle.cs_token.specs.declared.token.Sign.TheVariants as s
use Rattle.cs_print.specs.Printed.{Kinds}
use Rattle.cs_print.proofs.LayLemmas.{Are}
use Rattle.cs_print.proofs.LayLemmas as l
use Rattle.razor_token.specs.declared.context.Context.{Context}
use Rattle.razor_token.specs.declared.context.Context.TheVariants as x
use Rattle.razor_token.specs.declared.context.Point.{Point}
use Rattle.razor_token.specs.declared.context.Point.TheVariants as point
use Rattle.razor_token.specs.BlockFronts.{is_beginning, behind_name}
use Rattle.razor_token.specs.CodeFronts.{opens, closes}
use Rattle.razor_token.specs.Contexts.{changed}
use Rattle.printed_pieces.proofs.FrontLaws.{bracket, block, is_markup, is_close, code_change, fits}
use Rattle.printed_pieces.proofs.GoesLaws.{Goes, stop, token, goes-join, around_behind}
use Rattle.printed_pieces.proofs.Nests.{Nests, is_flat}
use Rattle.printed_pieces.proofs.Nests as n
use Rattle.printed_pieces.proofs.NestGoes.{are-join, quiet-block, deep-texts, in_bracket, flat-around}

-- the point behind a token that is no bracket
abbrev pub point_behind : TokenKind → Point
point_behind (k.Name name) = behind_name name
point_behind (k.Sign s.Colon) = point.Begins
point_behind (k.Sign s.Semicolon) = point.Begins
point_behind _ = point.Within

-- one token in a block
pub block-token : (at : Point) (with_else : Bool) (cs ds : List Context) (kind : TokenKind) (ks : Kinds) → fits (x.Block at with_else) None kind ≡ true
    → changed (code_change (x.Block at with_else) None (Some kind)) (x.Block at with_else ∷ cs) ≡ x.Block (point_behind kind) with_else ∷ cs → around_behind kind [] ≡ []
    → Goes (x.Block (point_behind kind) with_else ∷ cs) [] ks ds [] → Goes (x.Block at with_else ∷ cs) [] (kind ∷ ks) ds []
block-token at with_else cs ds kind ks fit e f goes =
    token (x.Block at with_else) cs ds [] [] kind ks (block at with_else) fit
    (subst (λ z. Goes (changed (code_change (x.Block at with_else) None (Some kind)) (x.Block at with_else ∷ cs)) z ks ds []) (sym f) (subst (λ z. Goes z [] ks ds []) (sym e) goes))

flat-change : (at : Point) (with_else : Bool) (cs : List Context) (kind : TokenKind) → is_flat kind ≡ true
    → changed (code_change (x.Block at with_else) None (Some kind)) (x.Block at with_else ∷ cs) ≡ x.Block (point_behind kind) with_else ∷ cs
flat-change at with_else cs (k.Sign s.OpenRound) e = absurd (false≢true e)
flat-change at with_else cs (k.Sign s.CloseRound) e = absurd (false≢true e)
flat-change at with_else cs (k.Sign s.OpenSquare) e = absurd (false≢true e)
flat-change at with_else cs (k.Sign s.CloseSquare) e = absurd (false≢true e)
flat-change at with_else cs (k.Sign s.OpenBrace) e = absurd (false≢true e)
flat-change at with_else cs (k.Sign s.CloseBrace) e = absurd (false≢true e)
flat-change at with_else cs (k.Sign sign) e = refl
flat-change at with_else cs kind e = refl

no-close : (w : Bool) → not (w && false && true) ≡ true
no-close true = refl
no-close false = refl

flat-close : (with_else : Bool) (kind : TokenKind) (b : Bool) → is_flat kind ≡ true → b ≡ true → (b && not (with_else && is_close kind && true)) ≡ true
flat-close with_else (k.Sign s.CloseBrace) b e f = absurd (false≢true e)
flat-close with_else (k.Sign sign) b e f = rw (f, no-close with_else) refl
flat-close with_else kind b e f = rw (f, no-close with_else) refl

-- the first token begins no markup, unless no statement begins there
pub data IsPlain : Point → TokenKind → Type 0 where
  later : (at : Point) (kind : TokenKind) → is_beginning at ≡ false → IsPlain at kind
  plain : (at : Point) (kind : TokenKind) → is_markup kind ≡ false → IsPlain at kind

free-here : (at : Point) (kind : TokenKind) → IsPlain at kind → not (is_beginning at && is_markup kind) ≡ true
free-here _ _ (later at kind e) = rw e refl
free-here _ _ (plain at kind e) = both (is_beginning at) (is_markup kind) e
  where
    both : (a b : Bool) → b ≡ false → not (a && b) ≡ true
    both true b f = ap not f
    both false b f = refl

flat-fits : (at : Point) (with_else : Bool) (kind : TokenKind) → is_flat kind ≡ true → IsPlain at kind → fits (x.Block at with_else) None kind ≡ true
flat-fits at with_else kind e h = flat-close with_else kind (not (is_beginning at && is_markup kind)) e (free-here at kind h)

not-begins : (name : List ℕ) → is_beginning (behind_name name) ≡ false
not-begins name = go (bytes_eq name (codes "with"))
  where
    go : (b : Bool) → is_beginning (if b then point.BehindWith else point.Within) ≡ false
    go true = refl
    go false = refl

behind-flat : (kind : TokenKind) → is_flat kind ≡ true → is_beginning (point_behind kind) ≡ false
behind-flat (k.Name name) e = not-begins name
behind-flat (k.Sign s.Colon) e = absurd (false≢true e)
behind-flat (k.Sign s.Semicolon) e = absurd (false≢true e)
behind-flat (k.Sign sign) e = refl
behind-flat kind e = refl

-- tokens stand in a block, and leave another point behind them
pub record Runs (with_else : Bool) (cs : List Context) (at : Point) (ts rest : List Token) : Type 0 where
  pub kinds : Kinds
  pub last : Point
  pub are : Are kinds ts rest
  pub goes : Goes (x.Block at with_else ∷ cs) [] kinds (x.Block last with_else ∷ cs) []

-- the first of the tokens, if there is one, may stand there
pub data MayBegin : Point → List Token → Type 0 where
  no_token : (at : Point) → MayBegin at []
  some_token : (at : Point) (t : Token) (ts : List Token) → IsPlain at t.kind → MayBegin at (t ∷ ts)

pub may-later : (at : Point) (ts : List Token) → is_beginning at ≡ false → MayBegin at ts
may-later at [] e = no_token at
may-later at (t ∷ ts) e = some_token at t ts (later at t.kind e)

first-plain : (at : Point) (t : Token) (ts : List Token) → MayBegin at (t ∷ ts) → IsPlain at t.kind
first-plain _ _ _ (some_token at t ts h) = h

-- brackets
round-runs : (with_else : Bool) (cs : List Context) (at : Point) (kind end : TokenKind) (o c : Token) (ts us rest : List Token) (i : Bool) → o.kind ≡ kind → c.kind ≡ end → Nests i ts (c ∷ us)
    → fits (x.Block at with_else) None kind ≡ true → around_behind kind [] ≡ [] → around_behind end [] ≡ []
    → changed (code_change (x.Block at with_else) None (Some kind)) (x.Block at with_else ∷ cs) ≡ x.Bracket None false ∷ x.Block point.Within with_else ∷ cs
    → changed (code_change (x.Bracket None false) None (Some end)) (x.Bracket None false ∷ x.Block point.Within with_else ∷ cs) ≡ x.Block point.Within with_else ∷ cs
    → Runs with_else cs point.Within us rest → Runs with_else cs at (o ∷ ts) rest
round-runs with_else cs at kind end o c ts us rest i is closes_so inner fit f g begins ends outer =
    let within = x.Block point.Within with_else ∷ cs in
    let x_inner = in_bracket i ts (c ∷ us) inner within in
    record {
      kinds = kind ∷ (x_inner.kinds ++ end ∷ outer.kinds);
      last = outer.last;
      are = l.cons kind o (x_inner.kinds ++ end ∷ outer.kinds) ts rest is (are-join x_inner.kinds (end ∷ outer.kinds) ts (c ∷ us) rest x_inner.are (l.cons end c outer.kinds us rest closes_so outer.are));
      goes = token (x.Block at with_else) cs (x.Block outer.last with_else ∷ cs) [] [] kind (x_inner.kinds ++ end ∷ outer.kinds) (block at with_else) fit
          (subst (λ z. Goes (changed (code_change (x.Block at with_else) None (Some kind)) (x.Block at with_else ∷ cs)) z (x_inner.kinds ++ end ∷ outer.kinds) (x.Block outer.last with_else ∷ cs) []) (sym f)
          (subst (λ z. Goes z [] (x_inner.kinds ++ end ∷ outer.kinds) (x.Block outer.last with_else ∷ cs) []) (sym begins)
          (goes-join (x.Bracket None false ∷ within) (x.Bracket None false ∷ within) (x.Block outer.last with_else ∷ cs) [] [] [] x_inner.kinds (end ∷ outer.kinds) x_inner.goes
          (token (x.Bracket None false) within (x.Block outer.last with_else ∷ cs) [] [] end outer.kinds bracket refl
          (subst (λ z. Goes (changed (code_change (x.Bracket None false) None (Some end)) (x.Bracket None false ∷ within)) z outer.kinds (x.Block outer.last with_else ∷ cs) []) (sym g)
          (subst (λ z. Goes z [] outer.kinds (x.Block outer.last with_else ∷ cs) []) (sym ends) outer.goes))))));
    }

pub bracket-fits : (at : Point) (with_else : Bool) (kind : TokenKind) → is_markup kind ≡ false → is_close kind ≡ false → fits (x.Block at with_else) None kind ≡ true
bracket-fits at with_else kind e f = rw (free-here at kind (plain at kind e), f, no-close with_else) refl

pub runs : (with_else : Bool) (cs : List Context) (b : Bool) (ts rest : List Token) → b ≡ true → Nests b ts rest → (at : Point) → MayBegin at ts → Runs with_else cs at ts rest
unfolding opens closes
runs with_else cs _ _ _ strict (n.none b rest) at may = record { kinds = []; last = at; are = l.nil rest; goes = stop (x.Block at with_else) cs [] (block at with_else) }
runs with_else cs _ _ _ strict (n.flat b t ts rest is inner) at may =
    let later_on = may-later (point_behind t.kind) ts (behind-flat t.kind is) in
    let more = runs with_else cs b ts rest strict inner (point_behind t.kind) later_on in
    record {
      kinds = t.kind ∷ more.kinds;
      last = more.last;
      are = l.cons t.kind t more.kinds ts rest refl more.are;
      goes = block-token at with_else cs (x.Block more.last with_else ∷ cs) t.kind more.kinds (flat-fits at with_else t.kind is (first-plain at t ts may)) (flat-change at with_else cs t.kind is) (flat-around t.kind [] is) more.goes;
    }
runs with_else cs _ _ _ strict (n.colon b t u ts rest is free inner) at may =
    let more = runs with_else cs b (u ∷ ts) rest strict inner point.Begins (some_token point.Begins u ts (plain point.Begins u.kind free)) in
    record {
      kinds = k.Sign s.Colon ∷ more.kinds;
      last = more.last;
      are = l.cons (k.Sign s.Colon) t more.kinds (u ∷ ts) rest is more.are;
      goes = block-token at with_else cs (x.Block more.last with_else ∷ cs) (k.Sign s.Colon) more.kinds (bracket-fits at with_else (k.Sign s.Colon) refl refl) refl refl more.goes;
    }
runs with_else cs _ _ _ strict (n.parted t sign ts rest is parting inner) at may = absurd (false≢true strict)
runs with_else cs _ _ _ strict (n.round b i o c ts us rest opens_so inner closes_so outer) at may =
    round-runs with_else cs at (k.Sign s.OpenRound) (k.Sign s.CloseRound) o c ts us rest i opens_so closes_so inner (bracket-fits at with_else (k.Sign s.OpenRound) refl refl) refl refl refl refl
    (runs with_else cs b us rest strict outer point.Within (may-later point.Within us refl))
runs with_else cs _ _ _ strict (n.square b i o c ts us rest opens_so inner closes_so outer) at may =
    round-runs with_else cs at (k.Sign s.OpenSquare) (k.Sign s.CloseSquare) o c ts us rest i opens_so closes_so inner (bracket-fits at with_else (k.Sign s.OpenSquare) refl refl) refl refl refl refl
    (runs with_else cs b us rest strict outer point.Within (may-later point.Within us refl))
runs with_else cs _ _ _ strict (n.with_parts b i m o c ts us rest is opens_so inner closes_so outer) at may =
    let more = round-runs with_else cs point.BehindWith (k.Sign s.OpenBrace) (k.Sign s.CloseBrace) o c ts us rest i opens_so closes_so inner (bracket-fits point.BehindWith with_else (k.Sign s.OpenBrace) refl refl) refl refl refl refl
    (runs with_else cs b us rest strict outer point.Within (may-later point.Within us refl)) in
    record {
      kinds = k.Name (codes "with") ∷ more.kinds;
      last = more.last;
      are = l.cons (k.Name (codes "with")) m more.kinds (o ∷ ts) rest is more.are;
      goes = block-token at with_else cs (x.Block more.last with_else ∷ cs) (k.Name (codes "with")) more.kinds (bracket-fits at with_else (k.Name (codes "with")) refl refl) refl refl more.goes;
    }
runs with_else cs _ _ _ strict (n.braces i o c ts us rest opens_so inner closes_so outer) at may = absurd (false≢true strict)
runs with_else cs _ _ _ strict (n.interpolated b o c ts us rest opens_so inner closes_so outer) at may =
    let within = x.Block point.Within with_else in
    let parts = deep-texts within cs (quiet-block with_else) ts (c ∷ us) inner [] in
    let more = runs with_else cs b us rest strict outer point.Within (may-later point.Within us refl) in
    record {
      kinds = k.Sign s.InterpolationStart ∷ (parts.kinds ++ k.Sign s.InterpolationEnd ∷ more.kinds);
      last = more.last;
      are = l.cons (k.Sign s.InterpolationStart) o (parts.kinds ++ k.Sign s.InterpolationEnd ∷ more.kinds) ts rest opens_so (are-join parts.kinds (k.Sign s.InterpolationEnd ∷ more.kinds) ts (c ∷ us) rest parts.are (l.cons (k.Sign s.InterpolationEnd) c more.kinds us rest closes_so more.are));
      goes = token (x.Block at with_else) cs (x.Block more.last with_else ∷ cs) [] [] (k.Sign s.InterpolationStart) (parts.kinds ++ k.Sign s.InterpolationEnd ∷ more.kinds) (block at with_else) (bracket-fits at with_else (k.Sign s.InterpolationStart) refl refl)
          (goes-join (within ∷ cs) (within ∷ cs) (x.Block more.last with_else ∷ cs) (around.Interpolation ∷ []) (around.Interpolation ∷ []) [] parts.kinds (k.Sign s.InterpolationEnd ∷ more.kinds) parts.goes
          (token within cs (x.Block more.last with_else ∷ cs) (around.Interpolation ∷ []) [] (k.Sign s.InterpolationEnd) more.kinds (block point.Within with_else) ((quiet-block with_else).fit around.Interpolation (k.Sign s.InterpolationEnd)) more.goes));
    }
