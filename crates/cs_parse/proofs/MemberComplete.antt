-- What is spelled as members is read.
use Rattle.std.proofs.Common.{◌≡◌, ℕ, zero, suc, ◌+◌, ◌-◌, ◌<◌, ◌≤◌, List, [], ◌∷◌, length, refl, sym, ap, ◌∙◌, subst, arith}
use Rattle.std.specs.Prelude.{Bool, true, false, ◌||◌, ◌&&◌, codes, if◌then◌else◌, Option, Some, None}
use Rattle.std.specs.Str.{bytes_eq}
use Rattle.text_core.specs.declared.place.Place.{Place}
use Rattle.cs_ast.specs.declared.cs_type.TypeExpr.{TypeExpr}
use Rattle.cs_ast.specs.declared.cs_type.TypeKind.TheVariants as ty
use Rattle.cs_ast.specs.declared.expression.Body.{Body}
use Rattle.cs_ast.specs.declared.expression.Body.TheVariants as body
use Rattle.cs_ast.specs.declared.expression.Expr.{Expr}
use Rattle.cs_ast.specs.declared.expression.Stmt.{Stmt}
use Rattle.cs_ast.specs.declared.identifier.Ident.{Ident}
use Rattle.cs_ast.specs.declared.member.Argument.{Argument}
use Rattle.cs_ast.specs.declared.member.Member.{Member}
use Rattle.cs_ast.specs.declared.member.MemberKind.{MemberKind}
use Rattle.cs_ast.specs.declared.member.MemberKind.TheVariants as mk
use Rattle.cs_token.specs.declared.token.Token.{Token}
use Rattle.cs_token.specs.declared.token.TokenKind.{TokenKind}
use Rattle.cs_token.specs.declared.token.TokenKind.TheVariants as k
use Rattle.cs_token.specs.declared.token.Sign.{Sign}
use Rattle.cs_token.specs.declared.token.Sign.TheVariants as s
use Rattle.cs_token.specs.declared.token.Word.{Word}
use Rattle.cs_token.specs.declared.token.Word.TheVariants as w
use Rattle.cs_grammar.specs.Tokens.{IsSign, IsWord, IsName, ident}
use Rattle.cs_grammar.specs.Types.{WritesType, type_at}
use Rattle.cs_grammar.specs.Types as gt
use Rattle.cs_grammar.specs.Expressions.{Spells}
use Rattle.cs_grammar.specs.Statements.{Statements, Initial, no_jumps}
use Rattle.cs_grammar.specs.Statements as gs
use Rattle.cs_grammar.specs.Members.{Modifiers, SomeArguments, ArgumentList, Result, MethodBody, Accessors, PropertyEnd, Attribute, Declared, Supplied, IsMember, SpelledMembers}
use Rattle.cs_grammar.specs.Members as g
use Rattle.cs_parse.specs.Numbers.{sign_number, word_number}
use Rattle.cs_parse.specs.declared.statement.frame.Beginning.TheVariants as b
use Rattle.cs_parse.specs.declared.tables.Going.TheVariants as go
use Rattle.cs_parse.specs.Reading.{Read, ◌>>=◌, after, has_sign, is_word, is_sign, name_first}
use Rattle.cs_parse.specs.TypeReading.{type_first}
use Rattle.cs_parse.specs.ExpressionReading.{expr_first, going, going_sign, strength, next}
use Rattle.cs_parse.specs.SimpleReading.{after_word, is_name, initial, some}
use Rattle.cs_parse.specs.StatementReading.{statements_first, begins, beginning, by_sign, is_something, nowhere}
use Rattle.cs_parse.specs.MemberReading.{is_named, after_name, unmodified, arguments_in, arguments_first, is_record, members_in, whole_members}
use Rattle.cs_parse.specs.MemberReading as r
use Rattle.cs_parse.proofs.TokenLemmas.{moved, after_yes, after_not, name_yes, is_that_sign, is_that_word, sign_is}
use Rattle.cs_parse.proofs.FrontLemmas.{after_name_yes, after_word_yes, is_that_name, name_is, then_}
use Rattle.cs_parse.proofs.TypeComplete.{Ends, name_ends, type_complete}
use Rattle.cs_parse.proofs.HeadLemmas.{type_heads}
use Rattle.cs_parse.proofs.ExpressionComplete.{first_complete}
use Rattle.cs_parse.proofs.MemberSound.{record_known}
use Rattle.cs_parse.proofs.MemberHeads.{no_sign, Opens, opens_shorter, type_opens, nothing_none, modifiers_end, modifiers_begin, declared_opens, supplied_opens, member_shorter, members_no_assign}

-- one sign is no other
semicolon_stops : going_sign s.Semicolon ≡ go.Nothing
unfolding going_sign
semicolon_stops = refl

semicolon_next : (c : Token) (rest : List Token) → IsSign s.Semicolon c → next (c ∷ rest) ≤ 0
semicolon_next c rest e = let z = ap (λ kind. strength (going kind)) e ∙ ap strength semicolon_stops in omega (arith, z)

record Other (taken : Sign) (sign : Sign) : Type 0 where
  differ : is_sign sign (k.Sign taken) ≡ false

not_first : (taken sign : Sign) (t : Token) (rest : List Token) → IsSign taken t → Other taken sign → after sign (t ∷ rest) ≡ None
not_first taken sign t rest e d = after_not sign t rest (ap (is_sign sign) e ∙ d.differ)

not_there : (taken sign : Sign) (t : Token) (rest : List Token) → IsSign taken t → Other taken sign → has_sign sign (t ∷ rest) ≡ false
not_there taken sign t rest e d = ap (is_sign sign) e ∙ d.differ

comma_close : Other s.CloseRound s.Comma
unfolding sign_number
comma_close = record { differ = refl }

semicolon_assign : Other s.Semicolon s.Assign
unfolding sign_number
semicolon_assign = record { differ = refl }

semicolon_brace : Other s.Semicolon s.OpenBrace
unfolding sign_number
semicolon_brace = record { differ = refl }

semicolon_arrow : Other s.Semicolon s.Arrow
unfolding sign_number
semicolon_arrow = record { differ = refl }

semicolon_round : Other s.Semicolon s.OpenRound
unfolding sign_number
semicolon_round = record { differ = refl }

assign_brace : Other s.Assign s.OpenBrace
unfolding sign_number
assign_brace = record { differ = refl }

assign_arrow : Other s.Assign s.Arrow
unfolding sign_number
assign_arrow = record { differ = refl }

assign_round : Other s.Assign s.OpenRound
unfolding sign_number
assign_round = record { differ = refl }

arrow_brace : Other s.Arrow s.OpenBrace
unfolding sign_number
arrow_brace = record { differ = refl }

arrow_round : Other s.Arrow s.OpenRound
unfolding sign_number
arrow_round = record { differ = refl }

brace_arrow : Other s.OpenBrace s.Arrow
unfolding sign_number
brace_arrow = record { differ = refl }

brace_round : Other s.OpenBrace s.OpenRound
unfolding sign_number
brace_round = record { differ = refl }

-- a type and a name
typed_read : (x : List ℕ) (n : Token) (ts rest : List Token) (a : TypeExpr) → WritesType ts (n ∷ rest) a → IsName x n → type_first ts ≡ Some (a, n ∷ rest)
typed_read x n ts rest a h e = type_complete ts (n ∷ rest) a (name_ends x n rest e) h

argument_read : (x : List ℕ) (n : Token) (ts rest : List Token) (a : TypeExpr) → WritesType ts (n ∷ rest) a → IsName x n → r.argument ts ≡ Some (r.argument_of a (ident n x), rest)
argument_read x n ts rest a h e =
    ap (λ d. d >>= λ y. (name_first y.1 >>= λ m. Some (r.argument_of y.0 m.0, m.1))) (typed_read x n ts rest a h e)
    ∙ ap (λ d. d >>= λ m. Some (r.argument_of a m.0, m.1)) (name_yes x n rest e)

less : (n : ℕ) → n ≡ suc n - 1
less n = omega arith

pub arguments_law : (n : ℕ) (ts : List Token) → 0 < n → arguments_in n ts ≡ (r.argument ts >>= λ x. r.more_arguments (arguments_in (n - 1)) x.0 x.1)
unfolding arguments_in
arguments_law zero ts h = absurd (omega arith)
arguments_law (suc n) ts h = ap (λ m. r.argument ts >>= λ x. r.more_arguments (arguments_in m) x.0 x.1) (less n)

arguments_done : (n : ℕ) (ts rest : List Token) (found : List Argument) → length ts < n → after s.Comma rest ≡ None → SomeArguments ts rest found → arguments_in n ts ≡ Some (found, rest)
arguments_done n ts rest found h q (g.one x t _ _ a wr e) =
    arguments_law n ts (omega arith)
    ∙ ap (λ d. d >>= λ y. r.more_arguments (arguments_in (n - 1)) y.0 y.1) (argument_read x t ts rest a wr e)
    ∙ ap (λ d. elim d [ Some v ↦ arguments_in (n - 1) v >>= (λ y. Some (r.argument_of a (ident t x) ∷ y.0, y.1)) | None ↦ Some (r.argument_of a (ident t x) ∷ [], rest) ]) q
arguments_done n ts rest found h q (g.more x t c _ us _ a others wr e1 e2 tail) =
    arguments_law n ts (omega arith)
    ∙ ap (λ d. d >>= λ y. r.more_arguments (arguments_in (n - 1)) y.0 y.1) (argument_read x t ts (c ∷ us) a wr e1)
    ∙ ap (λ d. elim d [ Some v ↦ arguments_in (n - 1) v >>= (λ y. Some (r.argument_of a (ident t x) ∷ y.0, y.1)) | None ↦ Some (r.argument_of a (ident t x) ∷ [], c ∷ us) ]) (after_yes s.Comma c us e2)
    ∙ ap (λ d. d >>= (λ y. Some (r.argument_of a (ident t x) ∷ y.0, y.1)))
    (arguments_done (n - 1) us rest others (omega (arith, opens_shorter ts (t ∷ c ∷ us) (type_opens ts (t ∷ c ∷ us) a wr))) q tail)

arguments_read : (ts rest : List Token) (found : List Argument) → after s.Comma rest ≡ None → SomeArguments ts rest found → arguments_first ts ≡ Some (found, rest)
unfolding arguments_first
arguments_read ts rest found q h = arguments_done (length ts + 1) ts rest found (omega arith) q h

close_round_nothing : by_sign s.CloseRound ≡ b.Nothing
unfolding by_sign
close_round_nothing = refl

no_close : (ts rest : List Token) (a : TypeExpr) → WritesType ts rest a → after s.CloseRound ts ≡ None
no_close ts rest a h =
    let x = type_heads ts rest a h in
    ap (after s.CloseRound) x.whole ∙ after_not s.CloseRound x.t x.us (no_sign s.CloseRound x.t.kind x.simple close_round_nothing)

arguments_open : (ts rest : List Token) (found : List Argument) → SomeArguments ts rest found → after s.CloseRound ts ≡ None
arguments_open ts rest found (g.one x t _ _ a wr e) = no_close ts (t ∷ rest) a wr
arguments_open ts rest found (g.more x t c _ us _ a others wr e1 e2 tail) = no_close ts (t ∷ c ∷ us) a wr

list_read : (ts rest : List Token) (found : List Argument) → ArgumentList ts rest found → r.argument_list ts ≡ Some (found, rest)
list_read ts rest found (g.none c _ e) = ap (λ d. elim d [ Some q ↦ Some ([], q) | None ↦ r.some_arguments (c ∷ rest) ]) (after_yes s.CloseRound c rest e)
list_read ts rest found (g.some c _ _ _ h e) =
    ap (λ d. elim d [ Some q ↦ Some ([], q) | None ↦ r.some_arguments ts ]) (arguments_open ts (c ∷ rest) found h)
    ∙ ap (λ d. d >>= λ x. (after s.CloseRound x.1 >>= λ v. Some (x.0, v))) (arguments_read ts (c ∷ rest) found (not_first s.CloseRound s.Comma c rest e comma_close) h)
    ∙ ap (λ d. d >>= λ v. Some (found, v)) (after_yes s.CloseRound c rest e)

value_read : (p : Place) (c : Token) (ts rest : List Token) (a : Expr) → Spells 0 p ts (c ∷ rest) a → IsSign s.Semicolon c → r.value_first ts ≡ Some (a, rest)
value_read p c ts rest a h e =
    ap (λ d. d >>= λ x. (after s.Semicolon x.1 >>= λ v. Some (x.0, v))) (first_complete 0 p ts (c ∷ rest) a (semicolon_next c rest e) h)
    ∙ ap (λ d. d >>= λ v. Some (a, v)) (after_yes s.Semicolon c rest e)

initial_read : (ts rest : List Token) (c : Token) (value : Option Expr) → Initial ts (c ∷ rest) value → IsSign s.Semicolon c → initial ts ≡ Some (value, c ∷ rest)
initial_read ts rest c value (gs.none _) e = ap (λ d. elim d [ Some q ↦ expr_first 0 q >>= some | None ↦ Some (None, c ∷ rest) ]) (not_first s.Semicolon s.Assign c rest e semicolon_assign)
initial_read ts rest c value (gs.some p t us _ a i h) e =
    ap (λ d. elim d [ Some q ↦ expr_first 0 q >>= some | None ↦ Some (None, t ∷ us) ]) (after_yes s.Assign t us i)
    ∙ ap (λ d. d >>= some) (first_complete 0 p us (c ∷ rest) a (semicolon_next c rest e) h)

accessor_read : (x : List ℕ) (n c : Token) (rest : List Token) → IsName x n → IsSign s.Semicolon c → r.accessor x (n ∷ c ∷ rest) ≡ Some rest
accessor_read x n c rest e1 e2 = ap (λ d. d >>= after s.Semicolon) (after_name_yes x n (c ∷ rest) e1) ∙ after_yes s.Semicolon c rest e2

accessors_read : (ts rest : List Token) → Accessors ts rest → r.accessors ts ≡ Some rest
accessors_read ts rest (g.accessors o u m t n c _ e1 e2 e3 e4 e5 e6) =
    ap (λ d. d >>= λ v. (r.accessor (codes "get") v >>= λ x. (r.accessor (codes "set") x >>= after s.CloseBrace))) (after_yes s.OpenBrace o (u ∷ m ∷ t ∷ n ∷ c ∷ rest) e1)
    ∙ ap (λ d. d >>= λ x. (r.accessor (codes "set") x >>= after s.CloseBrace)) (accessor_read (codes "get") u m (t ∷ n ∷ c ∷ rest) e2 e3)
    ∙ ap (λ d. d >>= after s.CloseBrace) (accessor_read (codes "set") t n (c ∷ rest) e4 e5)
    ∙ after_yes s.CloseBrace c rest e6

end_read : (ts rest : List Token) (value : Option Expr) → after s.Assign rest ≡ None → PropertyEnd ts rest value → r.property_end ts ≡ Some (value, rest)
end_read ts rest value q (g.none _) = ap (λ d. elim d [ Some v ↦ r.value_first v >>= some | None ↦ Some (None, rest) ]) q
end_read ts rest value q (g.some p t c us _ a e1 h e2) =
    ap (λ d. elim d [ Some v ↦ r.value_first v >>= some | None ↦ Some (None, t ∷ us) ]) (after_yes s.Assign t us e1)
    ∙ ap (λ d. d >>= some) (value_read p c us rest a h e2)

property_read : (ts us rest : List Token) (value : Option Expr) → after s.Assign rest ≡ None → Accessors ts us → PropertyEnd us rest value → r.property ts ≡ Some (value, rest)
property_read ts us rest value q h end = ap (λ d. d >>= r.property_end) (accessors_read ts us h) ∙ end_read us rest value q end

-- what a value has behind its name
record Tail (us : List Token) : Type 0 where
  no_round : after s.OpenRound us ≡ None
  round_not : has_sign s.OpenRound us ≡ false

tail_by : (taken : Sign) (t : Token) (us : List Token) → IsSign taken t → Other taken s.OpenRound → Tail (t ∷ us)
tail_by taken t us e d = record { no_round = not_first taken s.OpenRound t us e d; round_not = not_there taken s.OpenRound t us e d }

initial_tail : (us rest : List Token) (c : Token) (value : Option Expr) → Initial us (c ∷ rest) value → IsSign s.Semicolon c → Tail us
initial_tail us rest c value (gs.none _) e = tail_by s.Semicolon c rest e semicolon_round
initial_tail us rest c value (gs.some p t vs _ a i h) e = tail_by s.Assign t vs i assign_round

accessors_tail : (us rest : List Token) → Accessors us rest → Tail us
accessors_tail us rest (g.accessors o u m t n c _ e1 e2 e3 e4 e5 e6) = tail_by s.OpenBrace o (u ∷ m ∷ t ∷ n ∷ c ∷ rest) e1 brace_round

-- what begins as a record does has a name and a bracket behind a type that is a name
named_sure : (kind : TokenKind) → is_name kind ≡ true → (x : List ℕ) × (kind ≡ k.Name x)
named_sure (k.Name x) e = (x, refl)
named_sure _ e = absurd (cc)

one_front : (ts us vs : List Token) (a c : TypeExpr) → type_first ts ≡ Some (a, us) → type_first ts ≡ Some (c, vs) → us ≡ vs
one_front ts us vs a c e1 e2 = let z : ◌≡◌ {A = Read TypeExpr} (Some (a, us)) (Some (c, vs)) = sym e1 ∙ e2 in moved {A = TypeExpr × List Token} (λ y. us ≡ y.1) z refl

-- the type is the name alone
record_front : (t m o : Token) (vs : List Token) (n : Token) (us : List Token) (a : TypeExpr) (x : List ℕ) → WritesType (t ∷ m ∷ o ∷ vs) (n ∷ us) a → IsName x n →
    is_named (codes "record") t.kind ≡ true → is_name m.kind ≡ true → n ∷ us ≡ m ∷ o ∷ vs
record_front t m o vs n us a x h e i j =
    let y = named_sure m.kind j in
    one_front (t ∷ m ∷ o ∷ vs) (n ∷ us) (m ∷ o ∷ vs) a (type_at t.place (ty.Named (codes "record"))) (typed_read x n (t ∷ m ∷ o ∷ vs) us a h e)
    (typed_read y.0 m (t ∷ m ∷ o ∷ vs) (o ∷ vs) (type_at t.place (ty.Named (codes "record")))
    (gt.bare true (t ∷ m ∷ o ∷ vs) (m ∷ o ∷ vs) (type_at t.place (ty.Named (codes "record"))) (gt.name (codes "record") t (m ∷ o ∷ vs) (name_is (codes "record") t.kind i))) y.1)

-- it is no record where what begins as one does not go on so
no_record : (ts : List Token) →
    ((t m o : Token) (vs : List Token) → ts ≡ t ∷ m ∷ o ∷ vs → is_named (codes "record") t.kind ≡ true → is_name m.kind ≡ true → is_sign s.OpenRound o.kind ≡ true → ⊥) → is_record ts ≡ false
no_record [] h = refl
no_record (t ∷ []) h = refl
no_record (t ∷ m ∷ []) h = refl
no_record (t ∷ m ∷ o ∷ vs) h = split (is_named (codes "record") t.kind) (is_name m.kind) (is_sign s.OpenRound o.kind) refl refl refl
  where
    split : (x y z : Bool) → is_named (codes "record") t.kind ≡ x → is_name m.kind ≡ y → is_sign s.OpenRound o.kind ≡ z → (x && (y && z)) ≡ false
    split false y z i j l = refl
    split true false z i j l = refl
    split true true false i j l = refl
    split true true true i j l = absurd (h t m o vs refl i j l)

value_no_record : (x : List ℕ) (n : Token) (ts us : List Token) (a : TypeExpr) → WritesType ts (n ∷ us) a → IsName x n → Tail us → is_record ts ≡ false
value_no_record x n ts us a h e tail = no_record ts (λ t m o vs same i j l.
    let front = record_front t m o vs n us a x (subst (λ q. WritesType q (n ∷ us) a) same h) e i j in
    let rest : us ≡ o ∷ vs = cc in
    let z : true ≡ false = sym l ∙ sym (ap (has_sign s.OpenRound) rest) ∙ tail.round_not in absurd (cc))

nothing_void : (t : Token) (rest : List Token) → IsWord w.Void t → r.after_nothing (t ∷ rest) ≡ Some rest
nothing_void t rest e = ap (λ d. if d || is_word w.Task t.kind then Some rest else if is_word w.Async t.kind then after_word w.Task rest else None) (is_that_word w.Void t e)

no_void_task : is_word w.Void (k.Word w.Task) ≡ false
unfolding word_number
no_void_task = refl

no_void_async : is_word w.Void (k.Word w.Async) ≡ false
unfolding word_number
no_void_async = refl

no_task_async : is_word w.Task (k.Word w.Async) ≡ false
unfolding word_number
no_task_async = refl

nothing_task : (t : Token) (rest : List Token) → IsWord w.Task t → r.after_nothing (t ∷ rest) ≡ Some rest
nothing_task t rest e =
    ap (λ d. if d || is_word w.Task t.kind then Some rest else if is_word w.Async t.kind then after_word w.Task rest else None) (ap (is_word w.Void) e ∙ no_void_task)
    ∙ ap (λ d. if d then Some rest else if is_word w.Async t.kind then after_word w.Task rest else None) (is_that_word w.Task t e)

nothing_async : (t u : Token) (rest : List Token) → IsWord w.Async t → IsWord w.Task u → r.after_nothing (t ∷ u ∷ rest) ≡ Some rest
nothing_async t u rest e1 e2 =
    ap (λ d. if d || is_word w.Task t.kind then Some (u ∷ rest) else if is_word w.Async t.kind then after_word w.Task (u ∷ rest) else None) (ap (is_word w.Void) e1 ∙ no_void_async)
    ∙ ap (λ d. if d then Some (u ∷ rest) else if is_word w.Async t.kind then after_word w.Task (u ∷ rest) else None) (ap (is_word w.Task) e1 ∙ no_task_async)
    ∙ ap (λ d. if d then after_word w.Task (u ∷ rest) else None) (is_that_word w.Async t e1)
    ∙ after_word_yes w.Task u rest e2

result_read : (ts us : List Token) (n : Token) (x : List ℕ) (a : Option TypeExpr) → Result ts (n ∷ us) a → IsName x n → r.result_first ts ≡ Some (a, n ∷ us)
result_read ts us n x a (g.value _ _ c h) e =
    ap (λ d. elim d [ Some q ↦ Some (None, q) | None ↦ type_first ts >>= some ]) (nothing_none ts (n ∷ us) c h)
    ∙ ap (λ d. d >>= some) (typed_read x n ts us c h e)
result_read ts us n x a (g.void t _ i) e = ap (λ d. elim d [ Some q ↦ Some (None, q) | None ↦ type_first (t ∷ n ∷ us) >>= some ]) (nothing_void t (n ∷ us) i)
result_read ts us n x a (g.task t _ i) e = ap (λ d. elim d [ Some q ↦ Some (None, q) | None ↦ type_first (t ∷ n ∷ us) >>= some ]) (nothing_task t (n ∷ us) i)
result_read ts us n x a (g.async_task t u _ i j) e = ap (λ d. elim d [ Some q ↦ Some (None, q) | None ↦ type_first (t ∷ u ∷ n ∷ us) >>= some ]) (nothing_async t u (n ∷ us) i j)

result_no_record : (ts us : List Token) (n o : Token) (x : List ℕ) (a : Option TypeExpr) → Result ts (n ∷ o ∷ us) a → IsName x n → ((t : Token) → ts ≡ t ∷ n ∷ o ∷ us → IsName (codes "record") t → ⊥) → is_record ts ≡ false
result_no_record ts us n o x a (g.value _ _ c h) e differs = no_record ts (λ t m q vs same i j l.
    let front = record_front t m q vs n (o ∷ us) c x (subst (λ z. WritesType z (n ∷ o ∷ us) c) same h) e i j in
    differs t (same ∙ ap (λ z. t ∷ z) (sym front)) (name_is (codes "record") t.kind i))
result_no_record ts us n o x a (g.void t _ i) e differs = ap (λ kind. is_named (codes "record") kind && (is_name n.kind && is_sign s.OpenRound o.kind)) i
result_no_record ts us n o x a (g.task t _ i) e differs = ap (λ kind. is_named (codes "record") kind && (is_name n.kind && is_sign s.OpenRound o.kind)) i
result_no_record ts us n o x a (g.async_task t u _ i j) e differs = ap (λ kind. is_named (codes "record") kind && (is_name u.kind && is_sign s.OpenRound n.kind)) i

field_read : (a : TypeExpr) (n : Ident) (us rest : List Token) (c : Token) (value : Option Expr) → Initial us (c ∷ rest) value → IsSign s.Semicolon c → r.field a n us ≡ Some (mk.Field a n value, rest)
field_read a n us rest c value h e =
    ap (λ d. d >>= λ v. (after s.Semicolon v.1 >>= λ q. Some (mk.Field a n v.0, q))) (initial_read us rest c value h e)
    ∙ ap (λ d. d >>= λ q. Some (mk.Field a n value, q)) (after_yes s.Semicolon c rest e)

-- a field has no brace and no arrow behind its name
record Bare (us : List Token) : Type 0 where
  no_brace : has_sign s.OpenBrace us ≡ false
  no_arrow : after s.Arrow us ≡ None

field_bare : (us rest : List Token) (c : Token) (value : Option Expr) → Initial us (c ∷ rest) value → IsSign s.Semicolon c → Bare us
field_bare us rest c value (gs.none _) e = record { no_brace = not_there s.Semicolon s.OpenBrace c rest e semicolon_brace; no_arrow = not_first s.Semicolon s.Arrow c rest e semicolon_arrow }
field_bare us rest c value (gs.some p t vs _ a i h) e = record { no_brace = not_there s.Assign s.OpenBrace t vs i assign_brace; no_arrow = not_first s.Assign s.Arrow t vs i assign_arrow }

field_valued : (a : TypeExpr) (n : Ident) (us rest : List Token) (c : Token) (value : Option Expr) → Initial us (c ∷ rest) value → IsSign s.Semicolon c → r.valued (Some a) n us ≡ Some (mk.Field a n value, rest)
field_valued a n us rest c value h e =
    let x = field_bare us rest c value h e in
    ap (λ d. if d then r.property_of a n us else r.getter_or_field a n us) x.no_brace
    ∙ ap (λ d. elim d [ Some q ↦ r.getter a n q | None ↦ r.field a n us ]) x.no_arrow
    ∙ field_read a n us rest c value h e

getter_valued : (a : TypeExpr) (n : Ident) (p : Place) (t c : Token) (us rest : List Token) (value : Expr) → IsSign s.Arrow t → Spells 0 p us (c ∷ rest) value → IsSign s.Semicolon c →
    r.valued (Some a) n (t ∷ us) ≡ Some (mk.Getter a n value, rest)
getter_valued a n p t c us rest value e1 h e2 =
    ap (λ d. if d then r.property_of a n (t ∷ us) else r.getter_or_field a n (t ∷ us)) (not_there s.Arrow s.OpenBrace t us e1 arrow_brace)
    ∙ ap (λ d. elim d [ Some q ↦ r.getter a n q | None ↦ r.field a n (t ∷ us) ]) (after_yes s.Arrow t us e1)
    ∙ ap (λ d. d >>= λ x. Some (mk.Getter a n x.0, x.1)) (value_read p c us rest value h e2)

accessors_brace : (us rest : List Token) → Accessors us rest → has_sign s.OpenBrace us ≡ true
accessors_brace us rest (g.accessors o u m t n c _ e1 e2 e3 e4 e5 e6) = is_that_sign s.OpenBrace o e1

property_valued : (a : TypeExpr) (n : Ident) (us vs rest : List Token) (value : Option Expr) → after s.Assign rest ≡ None → Accessors us vs → PropertyEnd vs rest value →
    r.valued (Some a) n us ≡ Some (mk.Field a n value, rest)
property_valued a n us vs rest value q h end =
    ap (λ d. if d then r.property_of a n us else r.getter_or_field a n us) (accessors_brace us vs h)
    ∙ ap (λ d. d >>= λ v. Some (mk.Field a n v.0, v.1)) (property_read us vs rest value q h end)

-- a member that is no record and has a result and a name
plain_read : (ts us rest : List Token) (n : Token) (x : List ℕ) (a : Option TypeExpr) (kind : MemberKind) → is_record ts ≡ false → Result ts (n ∷ us) a → IsName x n →
    r.named a (ident n x) us ≡ Some (kind, rest) → r.declared ts ≡ Some (kind, rest)
plain_read ts us rest n x a kind differs h e named =
    ap (λ d. if d then r.record_of ts else r.plain ts) differs
    ∙ ap (λ d. d >>= λ y. (name_first y.1 >>= λ m. r.named y.0 m.0 m.1)) (result_read ts us n x a h e)
    ∙ ap (λ d. d >>= λ m. r.named a m.0 m.1) (name_yes x n us e)
    ∙ named

valued_read : (ts us rest : List Token) (n : Token) (x : List ℕ) (a : TypeExpr) (kind : MemberKind) → WritesType ts (n ∷ us) a → IsName x n → Tail us →
    r.valued (Some a) (ident n x) us ≡ Some (kind, rest) → r.declared ts ≡ Some (kind, rest)
valued_read ts us rest n x a kind h e tail valued =
    plain_read ts us rest n x (Some a) kind (value_no_record x n ts us a h e tail) (g.value ts (n ∷ us) a h) e
    (ap (λ d. elim d [ Some q ↦ r.method (Some a) (ident n x) q | None ↦ r.valued (Some a) (ident n x) us ]) tail.no_round ∙ valued)

record_read : (x : List ℕ) (t n o c : Token) (ts rest : List Token) (parts : List Argument) → IsName (codes "record") t → IsName x n → IsSign s.OpenRound o → ArgumentList ts (c ∷ rest) parts → IsSign s.Semicolon c →
    r.declared (t ∷ n ∷ o ∷ ts) ≡ Some (mk.RecordDef (ident n x) parts, rest)
record_read x t n o c ts rest parts e1 e2 e3 h e4 =
    ap (λ d. if d then r.record_of (t ∷ n ∷ o ∷ ts) else r.plain (t ∷ n ∷ o ∷ ts)) (record_known t n o ts x e1 e2 e3)
    ∙ ap (λ d. d >>= λ v. (name_first v >>= λ m. (after s.OpenRound m.1 >>= λ q. r.record_parts m.0 q))) (after_name_yes (codes "record") t (n ∷ o ∷ ts) e1)
    ∙ ap (λ d. d >>= λ m. (after s.OpenRound m.1 >>= λ q. r.record_parts m.0 q)) (name_yes x n (o ∷ ts) e2)
    ∙ ap (λ d. d >>= λ q. r.record_parts (ident n x) q) (after_yes s.OpenRound o ts e3)
    ∙ ap (λ d. d >>= λ y. (after s.Semicolon y.1 >>= λ q. Some (mk.RecordDef (ident n x) y.0, q))) (list_read ts (c ∷ rest) parts h)
    ∙ ap (λ d. d >>= λ q. Some (mk.RecordDef (ident n x) parts, q)) (after_yes s.Semicolon c rest e4)

-- one name is no other
no_plain_parameter : bytes_eq (codes "CascadingParameter") (codes "Parameter") ≡ false
no_plain_parameter = refl

not_plain : (n : Token) (rest : List Token) → IsName (codes "CascadingParameter") n → after_name (codes "Parameter") (n ∷ rest) ≡ None
not_plain n rest e = ap (λ d. if d then Some rest else None) (ap (is_named (codes "Parameter")) e ∙ no_plain_parameter)

close_square_round : Other s.CloseSquare s.OpenRound
unfolding sign_number
close_square_round = record { differ = refl }

text_yes : (x : List ℕ) (t : Token) (rest : List Token) → t.kind ≡ k.Text x → r.text_first (t ∷ rest) ≡ Some (x, rest)
text_yes x t rest e = ap (λ kind. r.text_of kind rest) e

round_name : (x : List ℕ) (m t v w : Token) (rest : List Token) → IsName (codes "Name") m → IsSign s.Assign t → v.kind ≡ k.Text x → IsSign s.CloseRound w → r.source_first (m ∷ t ∷ v ∷ w ∷ rest) ≡ Some (x, rest)
round_name x m t v w rest e1 e2 e3 e4 =
    ap (λ d. d >>= λ a. (after s.Assign a >>= λ q. (r.text_first q >>= λ y. (after s.CloseRound y.1 >>= λ c. Some (y.0, c))))) (after_name_yes (codes "Name") m (t ∷ v ∷ w ∷ rest) e1)
    ∙ ap (λ d. d >>= λ q. (r.text_first q >>= λ y. (after s.CloseRound y.1 >>= λ c. Some (y.0, c)))) (after_yes s.Assign t (v ∷ w ∷ rest) e2)
    ∙ ap (λ d. d >>= λ y. (after s.CloseRound y.1 >>= λ c. Some (y.0, c))) (text_yes x v (w ∷ rest) e3)
    ∙ ap (λ d. d >>= λ c. Some (x, c)) (after_yes s.CloseRound w rest e4)

source_read : (x : List ℕ) (u m t v w : Token) (rest : List Token) → IsSign s.OpenRound u → IsName (codes "Name") m → IsSign s.Assign t → v.kind ≡ k.Text x → IsSign s.CloseRound w →
    r.source (u ∷ m ∷ t ∷ v ∷ w ∷ rest) ≡ Some (Some x, rest)
source_read x u m t v w rest e0 e1 e2 e3 e4 =
    ap (λ d. elim d [ Some q ↦ r.source_first q >>= some | None ↦ Some (None, u ∷ m ∷ t ∷ v ∷ w ∷ rest) ]) (after_yes s.OpenRound u (m ∷ t ∷ v ∷ w ∷ rest) e0)
    ∙ ap (λ d. d >>= some) (round_name x m t v w rest e1 e2 e3 e4)

no_source : (c : Token) (rest : List Token) → IsSign s.CloseSquare c → r.source (c ∷ rest) ≡ Some (None, c ∷ rest)
no_source c rest e = ap (λ d. elim d [ Some q ↦ r.source_first q >>= some | None ↦ Some (None, c ∷ rest) ]) (not_first s.CloseSquare s.OpenRound c rest e close_square_round)

cascading_read : (n : Token) (ts rest : List Token) (source : Option (List ℕ)) → IsName (codes "CascadingParameter") n → r.cascading ts ≡ Some (r.attribute_of true source, rest) →
    r.attribute_first (n ∷ ts) ≡ Some (r.attribute_of true source, rest)
cascading_read n ts rest source e h =
    ap (λ d. elim d [ Some q ↦ r.given q | None ↦ after_name (codes "CascadingParameter") (n ∷ ts) >>= r.cascading ]) (not_plain n ts e)
    ∙ ap (λ d. d >>= r.cascading) (after_name_yes (codes "CascadingParameter") n ts e)
    ∙ h

-- the attribute behind its bracket
record Attributed (ts rest : List Token) (cascading : Bool) (source : Option (List ℕ)) : Type 0 where
  us : List Token
  open_ : after s.OpenSquare ts ≡ Some us
  read : r.attribute_first us ≡ Some (r.attribute_of cascading source, rest)

attribute_read : (ts rest : List Token) (cascading : Bool) (source : Option (List ℕ)) → Attribute ts rest cascading source → Attributed ts rest cascading source
attribute_read ts rest cascading source (g.parameter o n c _ e1 e2 e3) = record {
  us = n ∷ c ∷ rest;
  open_ = after_yes s.OpenSquare o (n ∷ c ∷ rest) e1;
  read =
      ap (λ d. elim d [ Some q ↦ r.given q | None ↦ after_name (codes "CascadingParameter") (n ∷ c ∷ rest) >>= r.cascading ]) (after_name_yes (codes "Parameter") n (c ∷ rest) e2)
      ∙ ap (λ d. d >>= λ q. Some (r.attribute_of false None, q)) (after_yes s.CloseSquare c rest e3);
}
attribute_read ts rest cascading source (g.cascading o n c _ e1 e2 e3) = record {
  us = n ∷ c ∷ rest;
  open_ = after_yes s.OpenSquare o (n ∷ c ∷ rest) e1;
  read = cascading_read n (c ∷ rest) rest None e2
      (ap (λ d. d >>= λ x. (after s.CloseSquare x.1 >>= λ q. Some (r.attribute_of true x.0, q))) (no_source c rest e3)
      ∙ ap (λ d. d >>= λ q. Some (r.attribute_of true None, q)) (after_yes s.CloseSquare c rest e3));
}
attribute_read ts rest cascading source (g.cascading_of x o n u m t v w c _ e1 e2 e3 e4 e5 e6 e7 e8) = record {
  us = n ∷ u ∷ m ∷ t ∷ v ∷ w ∷ c ∷ rest;
  open_ = after_yes s.OpenSquare o (n ∷ u ∷ m ∷ t ∷ v ∷ w ∷ c ∷ rest) e1;
  read = cascading_read n (u ∷ m ∷ t ∷ v ∷ w ∷ c ∷ rest) rest (Some x) e2
      (ap (λ d. d >>= λ y. (after s.CloseSquare y.1 >>= λ q. Some (r.attribute_of true y.0, q))) (source_read x u m t v w (c ∷ rest) e3 e4 e5 e6 e7)
      ∙ ap (λ d. d >>= λ q. Some (r.attribute_of true (Some x), q)) (after_yes s.CloseSquare c rest e8));
}

supplied_read : (ts rest : List Token) (cascading : Bool) (source : Option (List ℕ)) (kind : MemberKind) → after s.Assign rest ≡ None → Supplied cascading source ts rest kind →
    r.supplied (r.attribute_of cascading source) ts ≡ Some (kind, rest)
supplied_read ts rest cascading source kind q (g.supplied _ _ x n _ us vs _ a value h e acc end) =
    ap (λ d. d >>= λ y. (name_first y.1 >>= λ m. (r.property m.1 >>= λ v. Some (mk.Parameter cascading source y.0 m.0 v.0, v.1)))) (typed_read x n ts us a h e)
    ∙ ap (λ d. d >>= λ m. (r.property m.1 >>= λ v. Some (mk.Parameter cascading source a m.0 v.0, v.1))) (name_yes x n us e)
    ∙ ap (λ d. d >>= λ v. Some (mk.Parameter cascading source a (ident n x) v.0, v.1)) (property_read us vs rest value q acc end)

pub members_law : (n : ℕ) (t : Token) (ts : List Token) → 0 < n → members_in n (t ∷ ts) ≡ (r.member (t ∷ ts) >>= λ x. (members_in (n - 1) x.1 >>= λ others. Some (x.0 ∷ others)))
unfolding members_in
members_law zero t ts h = absurd (omega arith)
members_law (suc n) t ts h = ap (λ m. r.member (t ∷ ts) >>= λ x. (members_in m x.1 >>= λ others. Some (x.0 ∷ others))) (less n)

pub members_none : (n : ℕ) → 0 < n → members_in n [] ≡ Some []
unfolding members_in
members_none zero h = absurd (omega arith)
members_none (suc n) h = refl

-- the same of what has statements in it, where the statements of a block are read as they are spelled
module _ (statements_complete : (c : Token) (ts rest : List Token) (body : List Stmt) → IsSign s.CloseBrace c → Statements no_jumps ts (c ∷ rest) body → statements_first nowhere ts ≡ Some (body, c ∷ rest))
    (statements_shorter : (c : Token) (ts rest : List Token) (body : List Stmt) → IsSign s.CloseBrace c → Statements no_jumps ts (c ∷ rest) body → length rest < length ts) where
  body_read : (ts rest : List Token) (a : Body) → MethodBody ts rest a → r.method_body ts ≡ Some (a, rest)
  body_read ts rest a (g.value p t c us _ d e1 h e2) =
      ap (λ o. elim o [ Some q ↦ r.value_body q | None ↦ after s.OpenBrace (t ∷ us) >>= r.block_body ]) (after_yes s.Arrow t us e1)
      ∙ ap (λ o. o >>= λ x. Some (body.Value x.0, x.1)) (value_read p c us rest d h e2)
  body_read ts rest a (g.block o c us _ statements e1 h e2) =
      ap (λ d. elim d [ Some q ↦ r.value_body q | None ↦ after s.OpenBrace (o ∷ us) >>= r.block_body ]) (not_first s.OpenBrace s.Arrow o us e1 brace_arrow)
      ∙ ap (λ d. d >>= r.block_body) (after_yes s.OpenBrace o us e1)
      ∙ ap (λ d. d >>= λ x. (after s.CloseBrace x.1 >>= λ q. Some (body.Block x.0, q))) (statements_complete c us rest statements e2 h)
      ∙ ap (λ d. d >>= λ q. Some (body.Block statements, q)) (after_yes s.CloseBrace c rest e2)

  declared_read : (ts rest : List Token) (kind : MemberKind) → after s.Assign rest ≡ None → Declared ts rest kind → r.declared ts ≡ Some (kind, rest)
  declared_read ts rest kind q (g.field x n c _ us _ a value h e1 init e2) =
      valued_read ts us rest n x a kind h e1 (initial_tail us rest c value init e2) (field_valued a (ident n x) us rest c value init e2)
  declared_read ts rest kind q (g.property x n _ us vs _ a value h e acc end) =
      valued_read ts us rest n x a kind h e (accessors_tail us vs acc) (property_valued a (ident n x) us vs rest value q acc end)
  declared_read ts rest kind q (g.getter x p n t c _ us _ a value h e1 e2 sp e3) =
      valued_read ts (t ∷ us) rest n x a kind h e1 (tail_by s.Arrow t us e2 arrow_round) (getter_valued a (ident n x) p t c us rest value e2 sp e3)
  declared_read ts rest kind q (g.method x n o _ us vs _ a arguments body h differs e1 e2 list by) =
      plain_read ts (o ∷ us) rest n x a kind (result_no_record ts us n o x a h e1 differs) h e1
      (ap (λ d. elim d [ Some z ↦ r.method a (ident n x) z | None ↦ r.valued a (ident n x) (o ∷ us) ]) (after_yes s.OpenRound o us e2)
      ∙ ap (λ d. d >>= λ y. (r.method_body y.1 >>= λ z. Some (mk.Method a (ident n x) y.0 z.0, z.1))) (list_read us vs arguments list)
      ∙ ap (λ d. d >>= λ z. Some (mk.Method a (ident n x) arguments z.0, z.1)) (body_read vs rest body by))
  declared_read ts rest kind q (g.record_of x t n o c us _ parts e1 e2 e3 list e4) = record_read x t n o c us rest parts e1 e2 e3 list e4

  member_read : (ts rest : List Token) (a : Member) → after s.Assign rest ≡ None → IsMember ts rest a → r.member ts ≡ Some (a, rest)
  member_read ts rest a q (g.plain t us vs _ kind m d) =
      let o = declared_opens statements_shorter vs rest kind d in
      ap (λ z. z >>= λ x. Some (r.member_at t.place x.0, x.1))
      (ap (λ z. elim z [ Some v ↦ r.parameter v | None ↦ r.declared (unmodified (t ∷ us)) ]) (modifiers_begin (t ∷ us) vs rest m o).no_square
      ∙ ap r.declared (modifiers_end (t ∷ us) vs rest m o)
      ∙ declared_read vs rest kind q d)
  member_read ts rest a q (g.parameter cascading source t us vs ws _ kind at m d) =
      let y = attribute_read (t ∷ us) vs cascading source at in
      ap (λ z. z >>= λ x. Some (r.member_at t.place x.0, x.1))
      (ap (λ z. elim z [ Some v ↦ r.parameter v | None ↦ r.declared (unmodified (t ∷ us)) ]) y.open_
      ∙ ap (λ z. z >>= λ x. r.supplied x.0 (unmodified x.1)) y.read
      ∙ ap (r.supplied (r.attribute_of cascading source)) (modifiers_end vs ws rest m (supplied_opens ws rest cascading source kind d))
      ∙ supplied_read ws rest cascading source kind q d)

  members_done : (n : ℕ) (ts : List Token) (members : List Member) → length ts < n → SpelledMembers ts members → members_in n ts ≡ Some members
  members_done n ts members h g.none = members_none n (omega arith)
  members_done n [] members h (g.more _ us first others m tail) = absurd (omega (arith, member_shorter statements_shorter [] us first m))
  members_done n (t ∷ ts) members h (g.more _ us first others m tail) =
      members_law n t ts (omega arith)
      ∙ ap (λ d. d >>= λ x. (members_in (n - 1) x.1 >>= λ z. Some (x.0 ∷ z))) (member_read (t ∷ ts) us first (members_no_assign statements_shorter us others tail) m)
      ∙ ap (λ d. d >>= λ z. Some (first ∷ z)) (members_done (n - 1) us others (omega (arith, member_shorter statements_shorter (t ∷ ts) us first m)) tail)

  -- what is spelled is read
  pub members_complete : (ts : List Token) (members : List Member) → SpelledMembers ts members → whole_members ts ≡ Some members
  unfolding whole_members
  members_complete ts members h = members_done (length ts + 1) ts members (omega arith) h
