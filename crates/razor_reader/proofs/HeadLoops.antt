-- Turns of the loop that looks for a semicolon, and the last of some tokens.
use Rattle.std.proofs.Common.{◌≡◌, ℕ, suc, ◌+◌, ◌-◌, ◌<◌, ◌≤◌, List, [], ◌∷◌, ◌++◌, length, take, drop, get_or, refl, sym, ap, ◌∙◌, append_assoc, arith}
use Rattle.std.specs.Prelude.{true, false, if◌then◌else◌, Option, Some, None}
use Rattle.std.specs.List.{slice_get}
use Rattle.std.proofs.lemmas.List.{take_more, at_drop_more, at_drop_all}
use Rattle.cs_ast.specs.declared.expression.Expr.{Expr}
use Rattle.cs_ast.specs.declared.expression.Stmt.{Stmt}
use Rattle.cs_token.specs.declared.token.Token.{Token}
use Rattle.razor_reader.specs.declared.mark.Mark.TheVariants as m
use Rattle.razor_reader.specs.Marks.{is_token}
use Rattle.razor_reader.specs.declared.unread.Unread.{Unread}
use Rattle.razor_reader.specs.declared.unread.Unread.TheVariants as un
use Rattle.razor_reader.specs.Reading.{◌>>=◌, Fails}
use Rattle.razor_reader.specs.HeadReading.{to_semicolon, without_last, last_of, start, condition, step, three_parts}

abbrev pub Halves : Type 0
Halves = Option (List Token × List Token)

-- these tokens go before the first half
abbrev pub with_head : List Token → Halves → Halves
with_head ts None = None
with_head ts (Some x) = Some (ts ++ x.0, x.1)

head_more : (ts : List Token) (u : Token) (o : Halves) → with_head ts (o >>= λ x. Some (u ∷ x.0, x.1)) ≡ with_head (ts ++ u ∷ []) o
head_more ts u None = refl
head_more ts u (Some x) = ap (λ l. Some (l, x.1)) (sym (append_assoc ts (u ∷ []) x.0))

pub nothing_head : (o : Halves) → o ≡ with_head [] o
nothing_head None = refl
nothing_head (Some x) = refl

one_more : (ts : List Token) (i : ℕ) (u : Token) → i < length ts → u ≡ get_or ts i u → take i ts ++ u ∷ [] ≡ take (i + 1) ts
one_more ts i u h e = ap (λ v. take i ts ++ v ∷ []) e ∙ sym (take_more ts i u h)

at_token : (ts : List Token) (i : ℕ) (u : Token) → i < length ts → u ≡ get_or ts i u → with_head (take i ts) (to_semicolon (drop i ts)) ≡ with_head (take i ts) (to_semicolon (u ∷ drop (i + 1) ts))
at_token ts i u h e =
    ap (with_head (take i ts)) (at_drop_more to_semicolon ts i u h)
    ∙ ap (λ v. with_head (take i ts) (to_semicolon (v ∷ drop (i + 1) ts))) (sym e)

pub semicolon_more : (ts : List Token) (i : ℕ) (u : Token) → i < length ts → u ≡ get_or ts i u → is_token m.Semicolon u.kind ≡ false →
    with_head (take i ts) (to_semicolon (drop i ts)) ≡ with_head (take (i + 1) ts) (to_semicolon (drop (i + 1) ts))
semicolon_more ts i u h e f =
    at_token ts i u h e
    ∙ ap (λ b. with_head (take i ts) (if b then Some (u ∷ [], drop (i + 1) ts) else (to_semicolon (drop (i + 1) ts) >>= λ x. Some (u ∷ x.0, x.1)))) f
    ∙ head_more (take i ts) u (to_semicolon (drop (i + 1) ts))
    ∙ ap (λ l. with_head l (to_semicolon (drop (i + 1) ts))) (one_more ts i u h e)

pub semicolon_here : (ts : List Token) (i : ℕ) (u : Token) → i < length ts → u ≡ get_or ts i u → is_token m.Semicolon u.kind ≡ true →
    with_head (take i ts) (to_semicolon (drop i ts)) ≡ Some (take (i + 1) ts, drop (i + 1) ts)
semicolon_here ts i u h e f =
    at_token ts i u h e
    ∙ ap (λ b. with_head (take i ts) (if b then Some (u ∷ [], drop (i + 1) ts) else (to_semicolon (drop (i + 1) ts) >>= λ x. Some (u ∷ x.0, x.1)))) f
    ∙ ap (λ l. Some (l, drop (i + 1) ts)) (one_more ts i u h e)

pub semicolon_none : (ts : List Token) (i : ℕ) → length ts ≤ i → with_head (take i ts) (to_semicolon (drop i ts)) ≡ None
semicolon_none ts i h = ap (with_head (take i ts)) (at_drop_all to_semicolon ts i h)

-- the tokens before a last one
without_whole : (inner : List Token) (last : Token) → without_last (inner ++ last ∷ []) ≡ inner
without_whole [] last = refl
without_whole (t ∷ []) last = refl
without_whole (t ∷ u ∷ inner) last = ap (λ l. t ∷ l) (without_whole (u ∷ inner) last)

pub without_is : (ts inner : List Token) (last : Token) → ts ≡ inner ++ last ∷ [] → inner ≡ without_last ts
without_is ts inner last e = sym (ap without_last e ∙ without_whole inner last)

-- the last token
last_more : (a b : Token) (ts : List Token) → slice_get (a ∷ b ∷ ts) (length (a ∷ b ∷ ts) - 1) ≡ slice_get (b ∷ ts) (length (b ∷ ts) - 1)
last_more a b ts =
    let first : length (a ∷ b ∷ ts) - 1 ≡ suc (length ts) = omega arith in
    let second : length ts ≡ length (b ∷ ts) - 1 = omega arith in
    ap (slice_get (a ∷ b ∷ ts)) first ∙ ap (slice_get (b ∷ ts)) second

pub last_is : (ts : List Token) (u : Token) → slice_get ts (length ts - 1) ≡ Some u → last_of ts ≡ Some u
last_is [] u e = absurd (cc)
last_is (a ∷ []) u e = e
last_is (a ∷ b ∷ ts) u e = last_is (b ∷ ts) u (sym (last_more a b ts) ∙ e)

pub last_none : (ts : List Token) → slice_get ts (length ts - 1) ≡ None → last_of ts ≡ None
last_none [] e = refl
last_none (a ∷ []) e = absurd (cc)
last_none (a ∷ b ∷ ts) e = last_none (b ∷ ts) (sym (last_more a b ts) ∙ e)

-- the parts of a `for`, up to the third
pub third_left : (first second third : List Token) (semicolon : Token) (a : Option Stmt) (b : Option Expr) → last_of second ≡ Some semicolon → start first ≡ Some a → condition second ≡ Some b →
    three_parts first second third ≡ (step third semicolon >>= λ next. Some (a, b, next))
third_left first second third semicolon a b g h i =
    ap (λ (o : Option Token). o >>= λ u. (start first >>= λ begin. (condition second >>= λ holds. (step third u >>= λ next. Some (begin, holds, next))))) g
    ∙ ap (λ (o : Option (Option Stmt)). o >>= λ begin. (condition second >>= λ holds. (step third semicolon >>= λ next. Some (begin, holds, next)))) h
    ∙ ap (λ (o : Option (Option Expr)). o >>= λ holds. (step third semicolon >>= λ next. Some (a, holds, next))) i

-- the third part as it is, and as it fails
pub third_is : (first second third : List Token) (semicolon : Token) (a : Option Stmt) (b c : Option Expr) → last_of second ≡ Some semicolon → start first ≡ Some a → condition second ≡ Some b →
    step third semicolon ≡ Some c → three_parts first second third ≡ Some (a, b, c)
third_is first second third semicolon a b c g h i e =
    third_left first second third semicolon a b g h i ∙ ap (λ (o : Option (Option Expr)). o >>= λ next. Some (a, b, next)) e

pub third_fails : (first second third : List Token) (semicolon : Token) (a : Option Stmt) (b : Option Expr) (e : Unread) → last_of second ≡ Some semicolon → start first ≡ Some a → condition second ≡ Some b →
    Fails e (step third semicolon) → Fails e (three_parts first second third)
third_fails first second third semicolon a b un.Oom g h i f = tt
third_fails first second third semicolon a b (un.Syntax left) g h i f =
    third_left first second third semicolon a b g h i ∙ ap (λ (o : Option (Option Expr)). o >>= λ next. Some (a, b, next)) f
