-- Turns of the loops that read arguments and members.
use Rattle.std.proofs.Common.{◌≡◌, ℕ, ◌+◌, ◌-◌, ◌<◌, ◌≤◌, List, [], ◌∷◌, ◌++◌, length, refl, sym, ap, ◌∙◌, append_assoc, arith}
use Rattle.std.proofs.lemmas.Bool.{eqb-true, eq-eqb}
use Rattle.std.specs.Prelude.{Bool, true, false, ◌==◌, Option, Some, None}
use Rattle.cs_ast.specs.declared.member.Argument.{Argument}
use Rattle.cs_ast.specs.declared.member.Member.{Member}
use Rattle.cs_token.specs.declared.token.Token.{Token}
use Rattle.cs_token.specs.declared.token.Sign.TheVariants as s
use Rattle.cs_parse.specs.declared.unread.Unread.{Unread}
use Rattle.cs_parse.specs.declared.unread.Unread.TheVariants as u
use Rattle.cs_parse.specs.Reading.{Read, ◌>>=◌, after, Fails}
use Rattle.cs_parse.specs.MemberReading.{arguments_in, arguments_first, members_in, whole_members}
use Rattle.cs_parse.specs.MemberReading as r
use Rattle.cs_parse.proofs.MemberSound.{argument_sound}
use Rattle.cs_parse.proofs.MemberHeads.{type_opens, opens_shorter}
use Rattle.cs_parse.proofs.MemberComplete.{arguments_law, members_law, members_none}

pub one_longer : {A : Type 0} (found : List A) (a : A) → length (found ++ a ∷ []) ≡ length found + 1
one_longer [] a = refl
one_longer (x ∷ found) a = let e = one_longer found a in omega arith

-- what was found before goes in front
abbrev pub front : {A : Type 0} → List A → Read (List A) → Read (List A)
front found read = read >>= λ x. Some (found ++ x.0, x.1)

front_front : {A : Type 0} (found : List A) (a : A) (read : Read (List A)) → front found (read >>= λ x. Some (a ∷ x.0, x.1)) ≡ front (found ++ a ∷ []) read
front_front found a None = refl
front_front found a (Some x) = ap (λ l. Some (l, x.1)) (sym (append_assoc found (a ∷ []) x.0))

front_none : {A : Type 0} (read : Read (List A)) → front [] read ≡ read
front_none None = refl
front_none (Some x) = refl

-- the arguments found and those in the tokens that are left
abbrev pub arguments_meant : List Token → List Argument → List Token → Read (List Argument)
arguments_meant ts found left = front found (arguments_in (length ts + 1 - length found) left)

pub arguments_begin : (ts : List Token) → arguments_meant ts [] ts ≡ arguments_first ts
unfolding arguments_first
arguments_begin ts = front_none (arguments_in (length ts + 1 - 0) ts) ∙ same_number (length ts + 1 - 0) (length ts + 1) (omega arith)
  where
    same_number : (n m : ℕ) → n ≡ m → arguments_in n ts ≡ arguments_in m ts
    same_number n m e = ap (λ k. arguments_in k ts) e

pub argument_fewer : (ts rest : List Token) (a : Argument) → r.argument ts ≡ Some (a, rest) → length rest < length ts
argument_fewer ts rest a e = let x = argument_sound ts rest a e in omega (arith, opens_shorter ts (x.t ∷ rest) (type_opens ts (x.t ∷ rest) a.cs_type x.writes))

pub arguments_turn : (ts : List Token) (found : List Argument) (left us vs : List Token) (a : Argument) → length left + length found ≤ length ts → r.argument left ≡ Some (a, us) → after s.Comma us ≡ Some vs →
    arguments_meant ts found left ≡ arguments_meant ts (found ++ a ∷ []) vs
arguments_turn ts found left us vs a h e c =
    let l = one_longer found a in
    ap (front found) (arguments_law (length ts + 1 - length found) left (omega arith)
    ∙ ap (λ o. o >>= λ x. r.more_arguments (arguments_in (length ts + 1 - length found - 1)) x.0 x.1) e
    ∙ ap (λ o. elim o [ Some q ↦ arguments_in (length ts + 1 - length found - 1) q >>= (λ x. Some (a ∷ x.0, x.1)) | None ↦ Some (a ∷ [], us) ]) c)
    ∙ front_front found a (arguments_in (length ts + 1 - length found - 1) vs)
    ∙ same_number (length ts + 1 - length found - 1) (length ts + 1 - length (found ++ a ∷ [])) (omega arith)
  where
    same_number : (n m : ℕ) → n ≡ m → front (found ++ a ∷ []) (arguments_in n vs) ≡ front (found ++ a ∷ []) (arguments_in m vs)
    same_number n m e = ap (λ k. front (found ++ a ∷ []) (arguments_in k vs)) e

pub arguments_end : (ts : List Token) (found : List Argument) (left us : List Token) (a : Argument) → length left + length found ≤ length ts → r.argument left ≡ Some (a, us) → after s.Comma us ≡ None →
    arguments_meant ts found left ≡ Some (found ++ a ∷ [], us)
arguments_end ts found left us a h e c =
    ap (front found) (arguments_law (length ts + 1 - length found) left (omega arith)
    ∙ ap (λ o. o >>= λ x. r.more_arguments (arguments_in (length ts + 1 - length found - 1)) x.0 x.1) e
    ∙ ap (λ o. elim o [ Some q ↦ arguments_in (length ts + 1 - length found - 1) q >>= (λ x. Some (a ∷ x.0, x.1)) | None ↦ Some (a ∷ [], us) ]) c)

pub arguments_fail : (e : Unread) (ts : List Token) (found : List Argument) (left : List Token) (whole : Read (List Argument)) → length left + length found ≤ length ts →
    arguments_meant ts found left ≡ whole → Fails e (r.argument left) → Fails e whole
arguments_fail u.Oom ts found left whole h same x = tt
arguments_fail (u.Syntax n) ts found left whole h same x =
    sym same ∙ ap (front found) (arguments_law (length ts + 1 - length found) left (omega arith)
    ∙ ap (λ o. o >>= λ y. r.more_arguments (arguments_in (length ts + 1 - length found - 1)) y.0 y.1) x)

-- the members found and those in the tokens that are left
abbrev pub before : List Member → Option (List Member) → Option (List Member)
before found read = read >>= λ x. Some (found ++ x)

before_before : (found : List Member) (a : Member) (read : Option (List Member)) → before found (read >>= λ x. Some (a ∷ x)) ≡ before (found ++ a ∷ []) read
before_before found a None = refl
before_before found a (Some x) = ap Some (sym (append_assoc found (a ∷ []) x))

before_none : (read : Option (List Member)) → before [] read ≡ read
before_none None = refl
before_none (Some x) = refl

abbrev pub members_meant : List Token → List Member → List Token → Option (List Member)
members_meant ts found left = before found (members_in (length ts + 1 - length found) left)

pub members_begin : (ts : List Token) → members_meant ts [] ts ≡ whole_members ts
unfolding whole_members
members_begin ts = before_none (members_in (length ts + 1 - 0) ts) ∙ same_number (length ts + 1 - 0) (length ts + 1) (omega arith)
  where
    same_number : (n m : ℕ) → n ≡ m → members_in n ts ≡ members_in m ts
    same_number n m e = ap (λ k. members_in k ts) e

members_first : (n : ℕ) (left : List Token) (y : Option (Member × List Token)) → 0 < n → (left ≡ [] → ⊥) → r.member left ≡ y →
    members_in n left ≡ (y >>= λ x. (members_in (n - 1) x.1 >>= λ others. Some (x.0 ∷ others)))
members_first n [] y h d e = absurd (d refl)
members_first n (t ∷ ts) y h d e = members_law n t ts h ∙ ap (λ o. o >>= λ x. (members_in (n - 1) x.1 >>= λ others. Some (x.0 ∷ others))) e

pub members_turn : (ts : List Token) (found : List Member) (left us : List Token) (a : Member) → length left + length found ≤ length ts → r.member left ≡ Some (a, us) →
    members_meant ts found left ≡ members_meant ts (found ++ a ∷ []) us
members_turn ts found left us a h e =
    let l = one_longer found a in
    let d : (left ≡ [] → ⊥) = (λ i. let z : ◌≡◌ {A = Read Member} None (Some (a, us)) = sym (ap r.member i) ∙ e in absurd (cc)) in
    ap (before found) (members_first (length ts + 1 - length found) left (Some (a, us)) (omega arith) d e)
    ∙ before_before found a (members_in (length ts + 1 - length found - 1) us)
    ∙ same_number (length ts + 1 - length found - 1) (length ts + 1 - length (found ++ a ∷ [])) (omega arith)
  where
    same_number : (n m : ℕ) → n ≡ m → before (found ++ a ∷ []) (members_in n us) ≡ before (found ++ a ∷ []) (members_in m us)
    same_number n m e = ap (λ k. before (found ++ a ∷ []) (members_in k us)) e

append_none : (l : List Member) → l ++ [] ≡ l
append_none [] = refl
append_none (x ∷ l) = ap (λ k. x ∷ k) (append_none l)

nothing_more : (found : List Member) → before found (Some []) ≡ Some found
nothing_more found = ap Some (append_none found)

pub members_end : (ts : List Token) (found : List Member) → length found ≤ length ts → members_meant ts found [] ≡ Some found
members_end ts found h = ap (before found) (members_none (length ts + 1 - length found) (omega arith)) ∙ nothing_more found

pub members_fail : (e : Unread) (ts : List Token) (found : List Member) (left : List Token) (whole : Option (List Member)) → length left + length found ≤ length ts → (left ≡ [] → ⊥) →
    members_meant ts found left ≡ whole → Fails e (r.member left) → Fails e whole
members_fail u.Oom ts found left whole h d same x = tt
members_fail (u.Syntax n) ts found left whole h d same x = sym same ∙ ap (before found) (members_first (length ts + 1 - length found) left None (omega arith) d x)

-- no token is left, or one is
pub none_left : (b : Bool) (ts : List Token) → b ≡ (length ts == 0) → b ≡ true → ts ≡ []
none_left b [] e i = refl
none_left b (t ∷ ts) e i = let n : length (t ∷ ts) ≡ 0 = eqb-true (length (t ∷ ts)) 0 (sym e ∙ i) in absurd (omega arith)

pub some_left : (b : Bool) (ts : List Token) → b ≡ (length ts == 0) → b ≡ false → ts ≡ [] → ⊥
some_left b ts e i n = let z : true ≡ false = sym (eq-eqb (length ts) 0 (ap length n)) ∙ sym e ∙ i in absurd (cc)
