-- Members: what was cut off stands there, and what stands there is cut off.
use Rattle.std.proofs.Common.{◌≡◌, ℕ, ◌<◌, ◌≤◌, Bool, true, false, List, [], ◌∷◌, ◌++◌, length, Some, None, refl, ap, sym, ◌∙◌, subst, arith, inl, inr, length-append, append_assoc}
use Rattle.std.specs.Prelude.{codes, ◌&&◌, ◌||◌}
use Rattle.std.specs.declared.option.Option.{Option}
use Rattle.std.specs.List.{list_any}
use Rattle.std.specs.Str.{bytes_eq}
use Rattle.std.specs.Cmp.Lexicographic.{bytes_decides}
use Rattle.std.proofs.lemmas.Bool.{and_parts, cases_Bool}
use Rattle.first_click.specs.declared.component.Field.{Field}
use Rattle.first_click.specs.Members.{Member, field, method, MemberStands, declares, defines, is_brace, field_of, fields_of}
use Rattle.first_click.specs.Options.{◌>>=◌}
use Rattle.first_click.specs.Reading.Members.{until_brace, with_front, with_fields, is_declaration, is_head, field_at, method_at, or_else, member_at}
use Rattle.first_click.specs.Walks.{Walk}
use Rattle.first_click.proofs.OptionLemmas.{bind_some, some_is, kept}
use Rattle.first_click.proofs.Reading.WalkLemmas.{same_walk, walk-length}

Tokens : Type 0
Tokens = List (List ℕ)

text_is : (a b : List ℕ) → bytes_eq a b ≡ true → b ≡ a
text_is a b e = sym ((bytes_decides a b).0 e)

same_text : (a : List ℕ) → bytes_eq a a ≡ true
same_text a = (bytes_decides a a).1 refl

-- up to a brace

or_parts : (a b : Bool) → (a || b) ≡ false → (a ≡ false) × (b ≡ false)
or_parts true b e = absurd (cc)
or_parts false b e = (refl, e)

pub until_brace-again : (body rest : List (List ℕ)) → list_any is_brace body ≡ false → until_brace (body ++ codes "}" ∷ rest) ≡ Some (body, rest)
until_brace-again [] rest none = refl
until_brace-again (token ∷ body) rest none =
    let parts = or_parts (is_brace token) (list_any is_brace body) none in
    rw (parts.0, until_brace-again body rest parts.1) refl

record BraceCut (tokens body rest : List (List ℕ)) : Type 0 where
  laid : tokens ≡ body ++ codes "}" ∷ rest
  none : list_any is_brace body ≡ false

brace-cut : (tokens : List (List ℕ)) (a b : List (List ℕ) × List (List ℕ)) → a ≡ b → BraceCut tokens a.0 a.1 → BraceCut tokens b.0 b.1
brace-cut tokens a b e cut = subst (λ (x : List (List ℕ) × List (List ℕ)). BraceCut tokens x.0 x.1) e cut

until_brace-some : (tokens body rest : List (List ℕ)) → until_brace tokens ≡ Some (body, rest) → BraceCut tokens body rest
until_brace-some [] body rest e = absurd (cc)
until_brace-some (token ∷ tokens) body rest e =
    let want : List (List ℕ) × List (List ℕ) = (body, rest) in
    elim (cases_Bool (is_brace token)) [
      | inl is ↦
          let made : List (List ℕ) × List (List ℕ) = ([], tokens) in
          brace-cut (token ∷ tokens) made want (some_is made want (rw is at e))
          (record { laid = ap (λ (t : List ℕ). t ∷ tokens) (sym (text_is token (codes "}") is)); none = refl })
      | inr fails ↦
          let more = bind_some (until_brace tokens) (λ cut. Some (token ∷ cut.0, cut.1)) want (rw fails at e) in
          let made : List (List ℕ) × List (List ℕ) = (token ∷ more.0.0, more.0.1) in
          let inner = until_brace-some tokens more.0.0 more.0.1 more.1 in
          brace-cut (token ∷ tokens) made want (some_is made want more.2)
          (record { laid = ap (λ (x : List (List ℕ)). token ∷ x) inner.laid; none = rw fails inner.none })
    ]

-- one more token in front
pub front-one : (front : List (List ℕ)) (token : List ℕ) (cut : Option (List (List ℕ) × List (List ℕ)))
    → with_front front (cut >>= λ c. Some (token ∷ c.0, c.1)) ≡ with_front (front ++ token ∷ []) cut
front-one front token None = refl
front-one front token (Some c) = ap (λ (x : List (List ℕ)). Some (x, c.1)) (sym (append_assoc front (token ∷ []) c.0))

-- a member

field-some : (tokens : List (List ℕ)) (m : Member) (rest : List (List ℕ)) → field_at tokens ≡ Some (m, rest) → MemberStands tokens m rest
unfolding field_at
field-some (int ∷ name ∷ equals ∷ digits ∷ semicolon ∷ more) m rest e =
    let made : Member × List (List ℕ) = (field name digits, more) in
    let want : Member × List (List ℕ) = (m, rest) in
    let is = kept (is_declaration int equals semicolon) (Some made) want e in
    let first = and_parts (bytes_eq int (codes "int") && bytes_eq equals (codes "=")) (bytes_eq semicolon (codes ";")) is.0 in
    let second = and_parts (bytes_eq int (codes "int")) (bytes_eq equals (codes "=")) first.0 in
    subst (λ (x : Member × List (List ℕ)). MemberStands (int ∷ name ∷ equals ∷ digits ∷ semicolon ∷ more) x.0 x.1) (some_is made want is.1)
    (subst (λ (x : List ℕ). MemberStands (x ∷ name ∷ equals ∷ digits ∷ semicolon ∷ more) (field name digits) more) (text_is int (codes "int") second.0)
    (subst (λ (x : List ℕ). MemberStands (codes "int" ∷ name ∷ x ∷ digits ∷ semicolon ∷ more) (field name digits) more) (text_is equals (codes "=") second.1)
    (subst (λ (x : List ℕ). MemberStands (codes "int" ∷ name ∷ codes "=" ∷ digits ∷ x ∷ more) (field name digits) more) (text_is semicolon (codes ";") first.1)
    (declares name digits more))))
field-some [] m rest e = absurd (cc)
field-some (a ∷ []) m rest e = absurd (cc)
field-some (a ∷ b ∷ []) m rest e = absurd (cc)
field-some (a ∷ b ∷ x ∷ []) m rest e = absurd (cc)
field-some (a ∷ b ∷ x ∷ y ∷ []) m rest e = absurd (cc)

method-some : (tokens : List (List ℕ)) (m : Member) (rest : List (List ℕ)) → method_at tokens ≡ Some (m, rest) → MemberStands tokens m rest
unfolding method_at
method-some (void ∷ name ∷ left ∷ right ∷ brace ∷ more) m rest e =
    let want : Member × List (List ℕ) = (m, rest) in
    let is = kept (is_head void left right brace) (until_brace more >>= λ cut. Some (method name cut.0, cut.1)) want e in
    let cut = bind_some (until_brace more) (λ cut. Some (method name cut.0, cut.1)) want is.1 in
    let body = until_brace-some more cut.0.0 cut.0.1 cut.1 in
    let made : Member × List (List ℕ) = (method name cut.0.0, cut.0.1) in
    let a = and_parts (bytes_eq void (codes "void") && bytes_eq left (codes "(") && bytes_eq right (codes ")")) (bytes_eq brace (codes "{")) is.0 in
    let b = and_parts (bytes_eq void (codes "void") && bytes_eq left (codes "(")) (bytes_eq right (codes ")")) a.0 in
    let c = and_parts (bytes_eq void (codes "void")) (bytes_eq left (codes "(")) b.0 in
    let head : codes "void" ∷ name ∷ codes "(" ∷ codes ")" ∷ codes "{" ∷ (cut.0.0 ++ codes "}" ∷ cut.0.1) ≡ void ∷ name ∷ left ∷ right ∷ brace ∷ more =
    ap (λ (x : List ℕ). x ∷ name ∷ codes "(" ∷ codes ")" ∷ codes "{" ∷ (cut.0.0 ++ codes "}" ∷ cut.0.1)) (text_is void (codes "void") c.0)
    ∙ ap (λ (x : List ℕ). void ∷ name ∷ x ∷ codes ")" ∷ codes "{" ∷ (cut.0.0 ++ codes "}" ∷ cut.0.1)) (text_is left (codes "(") c.1)
    ∙ ap (λ (x : List ℕ). void ∷ name ∷ left ∷ x ∷ codes "{" ∷ (cut.0.0 ++ codes "}" ∷ cut.0.1)) (text_is right (codes ")") b.1)
    ∙ ap (λ (x : List ℕ). void ∷ name ∷ left ∷ right ∷ x ∷ (cut.0.0 ++ codes "}" ∷ cut.0.1)) (text_is brace (codes "{") a.1)
    ∙ ap (λ (x : List (List ℕ)). void ∷ name ∷ left ∷ right ∷ brace ∷ x) (sym body.laid) in
    subst (λ (x : Member × List (List ℕ)). MemberStands (void ∷ name ∷ left ∷ right ∷ brace ∷ more) x.0 x.1) (some_is made want cut.2)
    (subst (λ (x : List (List ℕ)). MemberStands x (method name cut.0.0) cut.0.1) head (defines name cut.0.0 cut.0.1 body.none))
method-some [] m rest e = absurd (cc)
method-some (a ∷ []) m rest e = absurd (cc)
method-some (a ∷ b ∷ []) m rest e = absurd (cc)
method-some (a ∷ b ∷ x ∷ []) m rest e = absurd (cc)
method-some (a ∷ b ∷ x ∷ y ∷ []) m rest e = absurd (cc)

either : {A : Type 0} (P : Type 0) (o other : Option A) (y : A) → or_else o other ≡ Some y → (o ≡ Some y → P) → (other ≡ Some y → P) → P
either P (Some x) other y e one two = one e
either P None other y e one two = two e

pub member_at-some : (tokens : List (List ℕ)) (m : Member) (rest : List (List ℕ)) → member_at tokens ≡ Some (m, rest) → MemberStands tokens m rest
unfolding member_at
member_at-some tokens m rest e =
    either (MemberStands tokens m rest) (field_at tokens) (method_at tokens) (m, rest) e (field-some tokens m rest) (method-some tokens m rest)

pub member_at-again : (tokens : List (List ℕ)) (m : Member) (rest : List (List ℕ)) → MemberStands tokens m rest → member_at tokens ≡ Some (m, rest)
unfolding member_at field_at method_at
member_at-again _ _ _ (declares name digits rest) = refl
member_at-again _ _ _ (defines name body rest none) =
    let cut = until_brace-again body rest none in
    ap (λ (o : Option (List (List ℕ) × List (List ℕ))). o >>= λ cut. Some (method name cut.0, cut.1)) cut

pub member-shorter : (tokens : List (List ℕ)) (m : Member) (rest : List (List ℕ)) → MemberStands tokens m rest → length rest < length tokens
member-shorter _ _ _ (declares name digits rest) = omega arith
member-shorter _ _ _ (defines name body rest none) = omega (arith, length-append body (codes "}" ∷ rest))

pub no_member : member_at [] ≡ None
unfolding member_at field_at method_at
no_member = refl

-- tokens are one list of members at most
pub one_list : (tokens : List (List ℕ)) (a b : List Member) → Walk MemberStands tokens a [] → Walk MemberStands tokens b [] → a ≡ b
one_list tokens a b x y = (same_walk MemberStands member_at member_at-again tokens [] [] a b x y no_member no_member).things

-- none, where other tokens are left
pub not_members : (tokens rest : List (List ℕ)) (a : List Member) → Walk MemberStands tokens a rest → member_at rest ≡ None → (rest ≡ [] → ⊥) → (b : List Member) → Walk MemberStands tokens b [] → ⊥
not_members tokens rest a x stop some b y = some (same_walk MemberStands member_at member_at-again tokens rest [] a b x y stop no_member).ends

pub members-few : (tokens : List (List ℕ)) (members : List Member) → Walk MemberStands tokens members [] → length members ≤ length tokens
members-few tokens members x = walk-length MemberStands length member-shorter tokens [] members x

-- fields

pub fields-one : (front : List Field) (name digits : List ℕ) (first : Field) (members : List Member) → field_of name digits ≡ Some first
    → with_fields (front ++ first ∷ []) (fields_of members) ≡ with_fields front (fields_of (field name digits ∷ members))
fields-one front name digits first members e =
    go (fields_of members) ∙ ap (λ (o : Option Field). with_fields front (o >>= λ x. (fields_of members >>= λ more. Some (x ∷ more)))) (sym e)
  where
    go : (more : Option (List Field)) → with_fields (front ++ first ∷ []) more ≡ with_fields front (more >>= λ x. Some (first ∷ x))
    go None = refl
    go (Some x) = ap Some (append_assoc front (first ∷ []) x)

pub fields-few : (members : List Member) (fields : List Field) → fields_of members ≡ Some fields → length fields ≤ length members
fields-few [] fields e = let none = some_is [] fields e in omega (arith, ap length none)
fields-few (field name digits ∷ members) fields e =
    let first = bind_some (field_of name digits) (λ x. fields_of members >>= λ more. Some (x ∷ more)) fields e in
    let more = bind_some (fields_of members) (λ more. Some (first.0 ∷ more)) fields first.2 in
    omega (arith, fields-few members more.0 more.1, ap length (some_is (first.0 ∷ more.0) fields more.2))
fields-few (method name body ∷ members) fields e = omega (arith, fields-few members fields e)
