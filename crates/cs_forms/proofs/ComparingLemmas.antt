-- Tables of comparable records.
use Rattle.std.proofs.Common.{◌≡◌, ℕ, zero, suc, ◌+◌, ◌-◌, ◌≤◌, List, [], ◌∷◌, length, map, refl, sym, ap, ◌∙◌, arith}
use Rattle.std.specs.Prelude.{Bool, true, false, if◌then◌else◌, Option, Some, None, bytes_eq}
use Rattle.std.specs.List.{list_all}
use mathlib.Core.Path.{fun_ext}
use Rattle.cs_ast.specs.declared.cs_type.CsType.{CsType}
use Rattle.cs_ast.specs.declared.cs_type.CsType.TheVariants as ty
use Rattle.cs_ast.specs.declared.member.Argument.{Argument}
use Rattle.cs_ast.specs.declared.member.Member.{Member}
use Rattle.cs_ast.specs.declared.member.MemberKind.{MemberKind}
use Rattle.cs_ast.specs.declared.member.MemberKind.TheVariants.{RecordDef}
use Rattle.cs_rules.specs.Written.{type_of, compares, all_parts, parts_of, found_or, record_from, record_named, Declared, is_comparable}
use Rattle.cs_forms.specs.Comparing.{flag_of, compares_by, parts_pass, has_no_parts, table}

-- one further on
abbrev later : Option Declared → Option Declared
later (Some found) = Some (record { number = suc found.number; parts = found.parts })
later None = None

or_later : (k : ℕ) (parts : Option (List Argument)) (r : Option Declared) → found_or (suc k) parts (later r) ≡ later (found_or k parts r)
or_later k (Some parts) r = refl
or_later k None r = refl

counted : (k : ℕ) (name : List ℕ) (xs : List Member) → record_from (suc k) name xs ≡ later (record_from k name xs)
counted k name [] = refl
counted k name (one ∷ others) =
    let e : suc k + 1 ≡ suc (k + 1) = omega arith in
    ap (λ n. found_or (suc k) (parts_of name one.kind) (record_from n name others)) e
    ∙ ap (found_or (suc k) (parts_of name one.kind)) (counted (k + 1) name others)
    ∙ or_later k (parts_of name one.kind) (record_from (k + 1) name others)

behind : (flag : Bool) (flags : List Bool) (r : Option Declared) → flag_of (flag ∷ flags) (later r) ≡ flag_of flags r
behind flag flags (Some found) = refl
behind flag flags None = refl

all_later : (passes : CsType → Bool) (r : Option Declared) → all_parts passes (later r) ≡ all_parts passes r
all_later passes (Some found) = refl
all_later passes None = refl

chosen : (is : Bool) (passes : CsType → Bool) (parts : List Argument) (flags : List Bool) (r : Option Declared)
    → flag_of flags r ≡ all_parts passes r
    → flag_of (list_all (λ part. passes (type_of part.cs_type)) parts ∷ flags) (found_or 0 (if is then Some parts else None) (later r))
    ≡ all_parts passes (found_or 0 (if is then Some parts else None) (later r))
chosen true passes parts flags r e = refl
chosen false passes parts flags r e = behind (list_all (λ part. passes (type_of part.cs_type)) parts) flags r ∙ e ∙ sym (all_later passes r)

at_front : (passes : CsType → Bool) (name : List ℕ) (kind : MemberKind) (flags : List Bool) (r : Option Declared)
    → flag_of flags r ≡ all_parts passes r
    → flag_of (parts_pass passes kind ∷ flags) (found_or 0 (parts_of name kind) (later r)) ≡ all_parts passes (found_or 0 (parts_of name kind) (later r))
at_front passes name (RecordDef other parts) flags r e = chosen (bytes_eq other.name name) passes parts flags r e
at_front passes name _ flags r e = behind false flags r ∙ e ∙ sym (all_later passes r)

-- what the table says of the record that is found
told : (passes : CsType → Bool) (name : List ℕ) (xs : List Member)
    → flag_of (map (λ one. parts_pass passes one.kind) xs) (record_from 0 name xs) ≡ all_parts passes (record_from 0 name xs)
told passes name [] = refl
told passes name (one ∷ others) =
    let e : 0 + 1 ≡ suc 0 = omega arith in
    let same : record_from 0 name (one ∷ others) ≡ found_or 0 (parts_of name one.kind) (later (record_from 0 name others)) =
    ap (λ n. found_or 0 (parts_of name one.kind) (record_from n name others)) e ∙ ap (found_or 0 (parts_of name one.kind)) (counted 0 name others) in
    ap (flag_of (map (λ it. parts_pass passes it.kind) (one ∷ others))) same
    ∙ at_front passes name one.kind (map (λ it. parts_pass passes it.kind) others) (record_from 0 name others) (told passes name others)
    ∙ ap (all_parts passes) (sym same)

by_table : (depth : ℕ) (records : List Member) (cs_type : CsType) → compares_by (table depth records) records cs_type ≡ compares (suc depth) records cs_type
unfolding table record_named
by_table depth records ty.Int = refl
by_table depth records ty.Bool = refl
by_table depth records ty.Text = refl
by_table depth records (ty.Rec name) = told (compares depth records) name records
by_table depth records _ = refl

-- a table by the one before it
pub next_table : (depth : ℕ) (records : List Member) → map (λ one. parts_pass (compares_by (table depth records) records) one.kind) records ≡ table (depth + 1) records
unfolding table
next_table depth records =
    let e : suc depth ≡ depth + 1 = omega arith in
    ap (λ (passes : CsType → Bool). map (λ one. parts_pass passes one.kind) records) (fun_ext (by_table depth records))
    ∙ ap (λ n. map (λ one. parts_pass (compares n records) one.kind) records) e

no_parts : (records : List Member) (kind : MemberKind) → has_no_parts kind ≡ parts_pass (compares 0 records) kind
no_parts records (RecordDef name []) = refl
no_parts records (RecordDef name (part ∷ parts)) = refl
no_parts records _ = refl

pub first_table : (records : List Member) → map (λ one. has_no_parts one.kind) records ≡ table 0 records
unfolding table
first_table records = ap (λ (pass : Member → Bool). map pass records) (fun_ext (λ one. no_parts records one.kind))

-- a table that stays the same once stays so
settled_by : (more depth : ℕ) (records : List Member) → table (depth + 1) records ≡ table depth records → table (depth + more) records ≡ table depth records
settled_by zero depth records same = let e : depth + 0 ≡ depth = omega arith in ap (λ n. table n records) e
settled_by (suc more) depth records same =
    let e : depth + suc more ≡ (depth + more) + 1 = omega arith in
    ap (λ n. table n records) e
    ∙ sym (next_table (depth + more) records)
    ∙ ap (λ (flags : List Bool). map (λ one. parts_pass (compares_by flags records) one.kind) records) (settled_by more depth records same)
    ∙ next_table depth records
    ∙ same

pub settled : (depth n : ℕ) (records : List Member) → depth ≤ n → table (depth + 1) records ≡ table depth records → table depth records ≡ table n records
settled depth n records within same =
    let e : depth + (n - depth) ≡ n = omega (arith, within) in
    sym (settled_by (n - depth) depth records same) ∙ ap (λ m. table m records) e

-- one table more
pub step : (depth : ℕ) (records : List Member) (flags seen next : List Bool)
    → flags ≡ table depth records → seen ≡ flags → next ≡ map (λ one. parts_pass (compares_by seen records) one.kind) records
    → next ≡ table (depth + 1) records
step depth records flags seen next is same made =
    made ∙ ap (λ (f : List Bool). map (λ one. parts_pass (compares_by f records) one.kind) records) (same ∙ is) ∙ next_table depth records

-- it is as the one before
pub stop : (depth n : ℕ) (records : List Member) (flags seen next : List Bool) → depth ≤ n
    → flags ≡ table depth records → seen ≡ flags → next ≡ map (λ one. parts_pass (compares_by seen records) one.kind) records → next ≡ flags
    → flags ≡ table n records
stop depth n records flags seen next within is same made unchanged =
    is ∙ settled depth n records within (sym (step depth records flags seen next is same made) ∙ unchanged ∙ is)

-- lists, callbacks and fragments are not compared
pub list_fails : (flags : List Bool) (records : List Member) (t item : CsType) → t ≡ ty.List item → false ≡ compares_by flags records t
list_fails flags records t item is = sym (ap (compares_by flags records) is)

pub callback_fails : (flags : List Bool) (records : List Member) (t : CsType) (argument : Option CsType) → t ≡ ty.Callback argument → false ≡ compares_by flags records t
callback_fails flags records t argument is = sym (ap (compares_by flags records) is)

pub fragment_fails : (flags : List Bool) (records : List Member) (t : CsType) (argument : Option CsType) → t ≡ ty.Fragment argument → false ≡ compares_by flags records t
fragment_fails flags records t argument is = sym (ap (compares_by flags records) is)

-- the last table decides
pub by_last : (records : List Member) (cs_type : CsType) → compares_by (table (length records) records) records cs_type ≡ is_comparable records cs_type
unfolding is_comparable
by_last records cs_type =
    let e : suc (length records) ≡ length records + 1 = omega arith in
    by_table (length records) records cs_type ∙ ap (λ n. compares n records cs_type) e
