-- Types read one inside the other are those read by a stack of what waits.
use Rattle.std.proofs.Common.{◌≡◌, ℕ, ◌+◌, ◌-◌, ◌<◌, ◌≤◌, List, [], ◌∷◌, ◌++◌, length, refl, sym, ap, ◌∙◌, subst, arith}
use Rattle.std.specs.Prelude.{Bool, true, false, if◌then◌else◌, Option, Some, None}
use Rattle.text_core.specs.declared.place.Place.{Place}
use Rattle.cs_ast.specs.declared.cs_type.TypeExpr.{TypeExpr}
use Rattle.cs_ast.specs.declared.cs_type.TypeKind.{TypeKind}
use Rattle.cs_ast.specs.declared.cs_type.TypeKind.TheVariants as ty
use Rattle.cs_token.specs.declared.token.Token.{Token}
use Rattle.cs_token.specs.declared.token.TokenKind.{TokenKind}
use Rattle.cs_token.specs.declared.token.TokenKind.TheVariants as k
use Rattle.cs_token.specs.declared.token.Sign.{Sign}
use Rattle.cs_token.specs.declared.token.Sign.TheVariants as s
use Rattle.cs_token.specs.declared.token.Word.{Word}
use Rattle.cs_grammar.specs.Tables.{plain_type}
use Rattle.cs_grammar.specs.Types.{type_at}
use Rattle.cs_parse.specs.declared.types.Begun.{Begun}
use Rattle.cs_parse.specs.declared.types.Begun.TheVariants as b
use Rattle.cs_parse.specs.declared.types.Former.{Former}
use Rattle.cs_parse.specs.declared.types.Former.TheVariants as f
use Rattle.cs_parse.specs.declared.types.Opened.{Opened}
use Rattle.cs_parse.specs.declared.unread.Unread.{Unread}
use Rattle.cs_parse.specs.declared.unread.Unread.TheVariants as u
use Rattle.cs_parse.specs.Reading.{Read, ◌>>=◌, after, is_sign, Fails}
use Rattle.cs_parse.specs.TypeReading.{Core, former, type_in, type_first, unmarked, there}
use Rattle.cs_parse.specs.TypeReading as r
use Rattle.cs_parse.specs.OpenTypes.{begun, closed, all_closed}
use Rattle.cs_parse.specs.OpenTypes as o
use Rattle.cs_parse.proofs.TokenLemmas.{after_ok}
use Rattle.cs_parse.proofs.TypeLaws.{type_law}

-- with the `?` behind it
abbrev marked : Core → Read TypeExpr
marked core = core >>= λ x. Some (x.0.0, unmarked x.0.1 x.1)

-- a type at a place of a kind made of what was read
abbrev made : {A : Type 0} → Place → Bool → (A → TypeKind) → A × List Token → Core
made p n make x = Some ((type_at p (make x.0), n), x.1)

abbrev with_end : TypeExpr → List Token → Read TypeExpr
with_end a ts = Some (a, ts)

abbrev absent : List Token → Read (Option TypeExpr)
absent ts = Some (None, ts)

abbrev plainly : Place → Bool → TypeKind → List Token → Core
plainly p n kind ts = Some ((type_at p kind, n), ts)

abbrev rounds : Former → Place → List Token → Read Begun
rounds fo p ts = Some (b.Round (record { former = fo; place = p }), ts)

-- a type read and marked
abbrev made_marked : Place → Bool → TypeKind → List Token → Read TypeExpr
made_marked p n kind ts = Some (type_at p kind, unmarked n ts)

module _ (self : List Token → Read TypeExpr) where
  -- what a type that begins so comes to
  abbrev pub goes_on : Begun → List Token → Read TypeExpr
  goes_on (b.Whole a) ts = Some (a, ts)
  goes_on (b.Round x) ts = self ts >>= λ y. closed x y.0 y.1

  abbrev goes : Read Begun → Read TypeExpr
  goes read = read >>= λ x. goes_on x.0 x.1

  -- a type and `>`
  abbrev ended : Read TypeExpr → Read TypeExpr
  ended read = read >>= λ x. (after s.Greater x.1 >>= λ q. with_end x.0 q)

  some_turn : (p : Place) (n : Bool) (make : TypeExpr → TypeKind) (read : Read TypeExpr) →
      marked (ended read >>= made p n make) ≡ (read >>= λ x. (after s.Greater x.1 >>= λ q. made_marked p n (make x.0) q))
  some_turn p n make None = refl
  some_turn p n make (Some x) = go (after s.Greater x.1)
    where
      go : (d : Option (List Token)) →
          marked ((d >>= λ q. with_end x.0 q) >>= made p n make) ≡ (d >>= λ q. made_marked p n (make x.0) q)
      go None = refl
      go (Some q) = refl

  maybe_turn : (p : Place) (n : Bool) (make : Option TypeExpr → TypeKind) (read : Read TypeExpr) →
      marked ((ended read >>= there) >>= made p n make) ≡ (read >>= λ x. (after s.Greater x.1 >>= λ q. made_marked p n (make (Some x.0)) q))
  maybe_turn p n make None = refl
  maybe_turn p n make (Some x) = go (after s.Greater x.1)
    where
      go : (d : Option (List Token)) →
          marked (((d >>= λ q. with_end x.0 q) >>= there) >>= made p n make) ≡ (d >>= λ q. made_marked p n (make (Some x.0)) q)
      go None = refl
      go (Some q) = refl

  list_turn : (p : Place) (ts : List Token) → marked (r.formed self f.List p ts) ≡ goes (o.of_former f.List p ts)
  list_turn p ts = go (after s.Less ts)
    where
      go : (d : Option (List Token)) → marked ((d >>= λ v. ended (self v)) >>= made p true ty.List)
          ≡ goes (elim d [ Some v ↦ rounds f.List p v | None ↦ None ])
      go None = refl
      go (Some v) = some_turn p true ty.List (self v)

  callback_turn : (p : Place) (ts : List Token) → marked (r.formed self f.Callback p ts) ≡ goes (o.of_former f.Callback p ts)
  callback_turn p [] = refl
  callback_turn p (t ∷ ts) = go (is_sign s.Less t.kind)
    where
      go : (d : Bool) → marked ((if d then (((if d then Some ts else None) >>= λ v. ended (self v)) >>= there) else absent (t ∷ ts)) >>= made p false ty.Callback)
          ≡ goes (elim (if d then Some ts else None) [ Some v ↦ rounds f.Callback p v | None ↦ o.whole p false (ty.Callback None) (t ∷ ts) ])
      go false = refl
      go true = maybe_turn p false ty.Callback (self ts)

  fragment_turn : (p : Place) (ts : List Token) → marked (r.formed self f.Fragment p ts) ≡ goes (o.of_former f.Fragment p ts)
  fragment_turn p [] = refl
  fragment_turn p (t ∷ ts) = go (is_sign s.Less t.kind)
    where
      go : (d : Bool) → marked ((if d then (((if d then Some ts else None) >>= λ v. ended (self v)) >>= there) else absent (t ∷ ts)) >>= made p true ty.Fragment)
          ≡ goes (elim (if d then Some ts else None) [ Some v ↦ rounds f.Fragment p v | None ↦ o.whole p true (ty.Fragment None) (t ∷ ts) ])
      go false = refl
      go true = maybe_turn p true ty.Fragment (self ts)

  former_turn : (fo : Former) (p : Place) (ts : List Token) → marked (r.formed self fo p ts) ≡ goes (o.of_former fo p ts)
  former_turn f.List p ts = list_turn p ts
  former_turn f.Callback p ts = callback_turn p ts
  former_turn f.Fragment p ts = fragment_turn p ts

  word_turn : (word : Word) (p : Place) (ts : List Token) → marked (r.of_word self word p ts) ≡ goes (o.of_word word p ts)
  word_turn word p ts = go (plain_type word) (former word)
    where
      go : (x : Option (TypeKind × Bool)) (y : Option Former) →
          marked (elim x [ Some v ↦ plainly p v.1 v.0 ts | None ↦ y >>= λ fo. r.formed self fo p ts ])
          ≡ goes (elim x [ Some v ↦ o.whole p v.1 v.0 ts | None ↦ y >>= λ fo. o.of_former fo p ts ])
      go (Some x) y = refl
      go None None = refl
      go None (Some fo) = former_turn fo p ts

  kind_turn : (kind : TokenKind) (p : Place) (ts : List Token) → marked (r.of_kind self kind p ts) ≡ goes (o.of_kind kind p ts)
  kind_turn (k.Word word) p ts = word_turn word p ts
  kind_turn _ p ts = refl

  turn : (ts : List Token) → marked (r.core self ts) ≡ goes (begun ts)
  turn [] = refl
  turn (t ∷ ts) = kind_turn t.kind t.place ts

type_turn : (n : ℕ) (ts : List Token) → 0 < n → type_in n ts ≡ (begun ts >>= λ x. goes_on (type_in (n - 1)) x.0 x.1)
type_turn n ts h = type_law n ts h ∙ turn (type_in (n - 1)) ts

closed_push : (os : List Opened) (x : Opened) (read : Read TypeExpr) → all_closed (os ++ x ∷ []) read ≡ all_closed os (read >>= λ y. closed x y.0 y.1)
closed_push [] x read = refl
closed_push (z ∷ os) x read = ap (λ d. d >>= λ y. closed z y.0 y.1) (closed_push os x read)

pub closed_none : (os : List Opened) → all_closed os None ≡ None
closed_none [] = refl
closed_none (z ∷ os) = ap (λ d. d >>= λ y. closed z y.0 y.1) (closed_none os)

-- what was begun and what is left make what there is to be read
abbrev pub meant : List Token → List Opened → List Token → Read TypeExpr
meant ts open_ones left = all_closed open_ones (type_in (length ts + 1 - length open_ones) left)

same_number : (n m : ℕ) (open_ones : List Opened) (left : List Token) → n ≡ m → all_closed open_ones (type_in n left) ≡ all_closed open_ones (type_in m left)
same_number n m open_ones left e = ap (λ k. all_closed open_ones (type_in k left)) e

pub first_meant : (ts : List Token) → meant ts [] ts ≡ type_first ts
unfolding type_first
first_meant ts = same_number (length ts + 1 - 0) (length ts + 1) [] ts (omega arith)

pub one_more : (os : List Opened) (x : Opened) → length (os ++ x ∷ []) ≡ length os + 1
one_more [] x = refl
one_more (z ∷ os) x = let e = one_more os x in omega arith

pub round_turn : (ts : List Token) (os : List Opened) (left rest : List Token) (x : Opened) → length left + length os ≤ length ts → begun left ≡ Some (b.Round x, rest) →
    meant ts os left ≡ meant ts (os ++ x ∷ []) rest
round_turn ts os left rest x h e =
    let n = one_more os x in
    ap (all_closed os) (type_turn (length ts + 1 - length os) left (omega arith) ∙ ap (λ d. d >>= λ y. goes_on (type_in (length ts + 1 - length os - 1)) y.0 y.1) e)
    ∙ sym (closed_push os x (type_in (length ts + 1 - length os - 1) rest))
    ∙ same_number (length ts + 1 - length os - 1) (length ts + 1 - length (os ++ x ∷ [])) (os ++ x ∷ []) rest (omega arith)

pub whole_turn : (ts : List Token) (os : List Opened) (left rest : List Token) (a : TypeExpr) → length left + length os ≤ length ts → begun left ≡ Some (b.Whole a, rest) →
    meant ts os left ≡ all_closed os (Some (a, rest))
whole_turn ts os left rest a h e =
    ap (all_closed os) (type_turn (length ts + 1 - length os) left (omega arith) ∙ ap (λ d. d >>= λ y. goes_on (type_in (length ts + 1 - length os - 1)) y.0 y.1) e)

pub none_turn : (ts : List Token) (os : List Opened) (left : List Token) → length left + length os ≤ length ts → begun left ≡ None → meant ts os left ≡ None
none_turn ts os left h e =
    ap (all_closed os) (type_turn (length ts + 1 - length os) left (omega arith) ∙ ap (λ d. d >>= λ y. goes_on (type_in (length ts + 1 - length os - 1)) y.0 y.1) e)
    ∙ closed_none os

-- what waits last is closed first
pub closed_turn : (os before : List Opened) (x : Opened) (a c : TypeExpr) (ts rest : List Token) → os ≡ before ++ x ∷ [] → closed x a ts ≡ Some (c, rest) →
    all_closed os (Some (a, ts)) ≡ all_closed before (Some (c, rest))
closed_turn os before x a c ts rest e1 e2 = ap (λ l. all_closed l (Some (a, ts))) e1 ∙ closed_push before x (Some (a, ts)) ∙ ap (all_closed before) e2

pub closed_fails : (e : Unread) (os before : List Opened) (x : Opened) (a : TypeExpr) (ts : List Token) (whole : Read TypeExpr) → os ≡ before ++ x ∷ [] →
    all_closed os (Some (a, ts)) ≡ whole → Fails e (closed x a ts) → Fails e whole
closed_fails u.Oom os before x a ts whole e1 same y = tt
closed_fails (u.Syntax n) os before x a ts whole e1 same y =
    sym same ∙ ap (λ l. all_closed l (Some (a, ts))) e1 ∙ closed_push before x (Some (a, ts)) ∙ ap (all_closed before) y ∙ closed_none before

pub after_fewer : (sign : Sign) (ts rest : List Token) → after sign ts ≡ Some rest → length rest < length ts
after_fewer sign ts rest e = let x = after_ok sign ts rest e in omega (arith, ap length x.1)

pub begun_fails : (e : Unread) (ts : List Token) (os : List Opened) (left : List Token) (whole : Read TypeExpr) → length left + length os ≤ length ts → meant ts os left ≡ whole →
    Fails e (begun left) → Fails e whole
begun_fails u.Oom ts os left whole h same x = tt
begun_fails (u.Syntax n) ts os left whole h same x = sym same ∙ none_turn ts os left h x
