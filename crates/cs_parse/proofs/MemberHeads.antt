-- What members begin with, and that they take tokens.
use Rattle.std.proofs.Common.{◌≡◌, ℕ, ◌+◌, ◌<◌, ◌≤◌, List, [], ◌∷◌, length, refl, sym, ap, ◌∙◌, subst, arith}
use Rattle.std.specs.Prelude.{Bool, true, false, ◌||◌, codes, if◌then◌else◌, Option, Some, None}
use Rattle.cs_ast.specs.declared.cs_type.TypeExpr.{TypeExpr}
use Rattle.cs_ast.specs.declared.expression.Body.{Body}
use Rattle.cs_ast.specs.declared.expression.Expr.{Expr}
use Rattle.cs_ast.specs.declared.expression.Stmt.{Stmt}
use Rattle.cs_ast.specs.declared.member.Argument.{Argument}
use Rattle.cs_ast.specs.declared.member.Member.{Member}
use Rattle.cs_ast.specs.declared.member.MemberKind.{MemberKind}
use Rattle.cs_token.specs.declared.token.Token.{Token}
use Rattle.cs_token.specs.declared.token.TokenKind.{TokenKind}
use Rattle.cs_token.specs.declared.token.TokenKind.TheVariants as k
use Rattle.cs_token.specs.declared.token.Sign.{Sign}
use Rattle.cs_token.specs.declared.token.Sign.TheVariants as s
use Rattle.cs_token.specs.declared.token.Word.{Word}
use Rattle.cs_token.specs.declared.token.Word.TheVariants as w
use Rattle.cs_grammar.specs.Tokens.{IsSign, IsWord, IsName}
use Rattle.cs_grammar.specs.Tables.{is_modifier}
use Rattle.cs_grammar.specs.Types.{WritesType}
use Rattle.cs_grammar.specs.Expressions.{Spells}
use Rattle.cs_grammar.specs.Statements.{Statements, Initial, no_jumps}
use Rattle.cs_grammar.specs.Statements as gs
use Rattle.cs_grammar.specs.Members.{Modifiers, SomeArguments, ArgumentList, Result, MethodBody, Accessors, PropertyEnd, Attribute, Declared, Supplied, IsMember, SpelledMembers}
use Rattle.cs_grammar.specs.Members as g
use Rattle.cs_parse.specs.Numbers.{sign_number, word_number}
use Rattle.cs_parse.specs.declared.statement.frame.Beginning.TheVariants as b
use Rattle.cs_parse.specs.Reading.{after, is_sign, is_word}
use Rattle.cs_parse.specs.StatementReading.{beginning, by_sign, by_word}
use Rattle.cs_parse.specs.MemberReading.{modifies, unmodified, after_nothing}
use Rattle.cs_parse.specs.SimpleReading.{after_word}
use Rattle.cs_parse.proofs.TokenLemmas.{sign_is, word_is}
use Rattle.cs_parse.proofs.HeadLemmas.{Heads, type_heads, expression_heads, heads_shorter}

-- a token with which a member behind its modifiers may begin
pub record Opening (t : Token) : Type 0 where
  pub no_modifier : modifies t.kind ≡ false
  pub no_square : is_sign s.OpenSquare t.kind ≡ false
  pub no_assign : is_sign s.Assign t.kind ≡ false

by_modifier : (word : Word) → is_modifier word ≡ true → by_word word ≡ b.Nothing
unfolding is_modifier by_word
by_modifier w.Private e = refl
by_modifier w.Public e = refl
by_modifier w.Protected e = refl
by_modifier w.Internal e = refl
by_modifier w.Override e = refl
by_modifier _ e = absurd (cc)

square_nothing : by_sign s.OpenSquare ≡ b.Nothing
unfolding by_sign
square_nothing = refl

assign_nothing : by_sign s.Assign ≡ b.Nothing
unfolding by_sign
assign_nothing = refl

void_nothing : by_word w.Void ≡ b.Nothing
unfolding by_word
void_nothing = refl

task_nothing : by_word w.Task ≡ b.Nothing
unfolding by_word
task_nothing = refl

async_nothing : by_word w.Async ≡ b.Nothing
unfolding by_word
async_nothing = refl

-- what a token is not with which a local, a change or a call may begin
apart : (kind : TokenKind) (d : Bool) → beginning kind ≡ b.Simple → (d ≡ true → beginning kind ≡ b.Nothing) → d ≡ false
apart kind false e h = refl
apart kind true e h = let z : b.Nothing ≡ b.Simple = sym (h refl) ∙ e in absurd (cc)

pub no_sign : (sign : Sign) (kind : TokenKind) → beginning kind ≡ b.Simple → by_sign sign ≡ b.Nothing → is_sign sign kind ≡ false
no_sign sign kind e n = apart kind (is_sign sign kind) e (λ i. ap beginning (sign_is sign kind i) ∙ n)

no_word : (word : Word) (kind : TokenKind) → beginning kind ≡ b.Simple → by_word word ≡ b.Nothing → is_word word kind ≡ false
no_word word kind e n = apart kind (is_word word kind) e (λ i. ap beginning (word_is word kind i) ∙ n)

none_modifies : (kind : TokenKind) → beginning kind ≡ b.Simple → modifies kind ≡ false
none_modifies (k.Word word) e = apart (k.Word word) (is_modifier word) e (by_modifier word)
none_modifies _ e = refl

simple_opens : (t : Token) → beginning t.kind ≡ b.Simple → Opening t
simple_opens t e = record { no_modifier = none_modifies t.kind e; no_square = no_sign s.OpenSquare t.kind e square_nothing; no_assign = no_sign s.Assign t.kind e assign_nothing }

void_no_modifier : is_modifier w.Void ≡ false
unfolding is_modifier
void_no_modifier = refl

task_no_modifier : is_modifier w.Task ≡ false
unfolding is_modifier
task_no_modifier = refl

async_no_modifier : is_modifier w.Async ≡ false
unfolding is_modifier
async_no_modifier = refl

word_opens : (word : Word) (t : Token) → IsWord word t → is_modifier word ≡ false → Opening t
word_opens word t e m = record { no_modifier = ap modifies e ∙ m; no_square = ap (is_sign s.OpenSquare) e; no_assign = ap (is_sign s.Assign) e }

name_opens : (x : List ℕ) (t : Token) → IsName x t → Opening t
name_opens x t e = record { no_modifier = ap modifies e; no_square = ap (is_sign s.OpenSquare) e; no_assign = ap (is_sign s.Assign) e }

-- the tokens begin so, and those behind are fewer
pub record Opens (ts rest : List Token) : Type 0 where
  pub t : Token
  pub us : List Token
  pub whole : ts ≡ t ∷ us
  pub opening : Opening t
  pub shorter : length rest ≤ length us

opened : (t : Token) (us rest : List Token) → Opening t → length rest ≤ length us → Opens (t ∷ us) rest
opened t us rest o h = record { t = t; us = us; whole = refl; opening = o; shorter = h }

fewer : (ts us rest : List Token) → Opens ts us → length rest ≤ length us → Opens ts rest
fewer ts us rest x h = record { t = x.t; us = x.us; whole = x.whole; opening = x.opening; shorter = omega (arith, x.shorter) }

pub opens_shorter : (ts rest : List Token) → Opens ts rest → length rest < length ts
opens_shorter ts rest x = omega (arith, x.shorter, ap length x.whole)

pub type_opens : (ts rest : List Token) (a : TypeExpr) → WritesType ts rest a → Opens ts rest
type_opens ts rest a h = let x = type_heads ts rest a h in record { t = x.t; us = x.us; whole = x.whole; opening = simple_opens x.t x.simple; shorter = x.shorter }

result_opens : (ts rest : List Token) (a : Option TypeExpr) → Result ts rest a → Opens ts rest
result_opens ts rest a (g.value _ _ c h) = type_opens ts rest c h
result_opens ts rest a (g.void t _ e) = opened t rest rest (word_opens w.Void t e void_no_modifier) (omega arith)
result_opens ts rest a (g.task t _ e) = opened t rest rest (word_opens w.Task t e task_no_modifier) (omega arith)
result_opens ts rest a (g.async_task t u _ e1 e2) = opened t (u ∷ rest) rest (word_opens w.Async t e1 async_no_modifier) (omega arith)

initial_shorter : (ts rest : List Token) (value : Option Expr) → Initial ts rest value → length rest ≤ length ts
initial_shorter ts rest value (gs.none _) = omega arith
initial_shorter ts rest value (gs.some p t us _ a e h) = omega (arith, heads_shorter p us rest (expression_heads 0 p us rest a h))

end_shorter : (ts rest : List Token) (value : Option Expr) → PropertyEnd ts rest value → length rest ≤ length ts
end_shorter ts rest value (g.none _) = omega arith
end_shorter ts rest value (g.some p t c us _ a e1 h e2) = omega (arith, heads_shorter p us (c ∷ rest) (expression_heads 0 p us (c ∷ rest) a h))

accessors_shorter : (ts rest : List Token) → Accessors ts rest → length rest ≤ length ts
accessors_shorter ts rest (g.accessors o get m set n c _ e1 e2 e3 e4 e5 e6) = omega arith

pub some_shorter : (ts rest : List Token) (found : List Argument) → SomeArguments ts rest found → length rest < length ts
some_shorter ts rest found (g.one x n _ _ a h e) = omega (arith, opens_shorter ts (n ∷ rest) (type_opens ts (n ∷ rest) a h))
some_shorter ts rest found (g.more x n t _ us _ a others h e1 e2 tail) =
    omega (arith, opens_shorter ts (n ∷ t ∷ us) (type_opens ts (n ∷ t ∷ us) a h), some_shorter us rest others tail)

list_shorter : (ts rest : List Token) (found : List Argument) → ArgumentList ts rest found → length rest < length ts
list_shorter ts rest found (g.none c _ e) = omega arith
list_shorter ts rest found (g.some c _ _ _ h e) = omega (arith, some_shorter ts (c ∷ rest) found h)

-- modifiers end where a member behind them may begin
pub modifiers_end : (ts us rest : List Token) → Modifiers ts us → Opens us rest → unmodified ts ≡ us
modifiers_end ts us rest (g.none _) o = ap unmodified o.whole ∙ ap (λ d. if d then unmodified o.us else o.t ∷ o.us) o.opening.no_modifier ∙ sym o.whole
modifiers_end ts us rest (g.more word t vs _ e m h) o = ap (λ d. if d then unmodified vs else t ∷ vs) (ap modifies e ∙ m) ∙ modifiers_end vs us rest h o

modifiers_shorter : (ts us : List Token) → Modifiers ts us → length us ≤ length ts
modifiers_shorter ts us (g.none _) = omega arith
modifiers_shorter ts us (g.more word t vs _ e m h) = omega (arith, modifiers_shorter vs us h)

-- neither sign stands first
pub record Begins (ts : List Token) : Type 0 where
  pub no_square : after s.OpenSquare ts ≡ None
  pub no_assign : after s.Assign ts ≡ None

begins_by : (t : Token) (ts : List Token) → is_sign s.OpenSquare t.kind ≡ false → is_sign s.Assign t.kind ≡ false → Begins (t ∷ ts)
begins_by t ts e1 e2 = record { no_square = ap (λ d. if d then Some ts else None) e1; no_assign = ap (λ d. if d then Some ts else None) e2 }

opens_begins : (ts rest : List Token) → Opens ts rest → Begins ts
opens_begins ts rest x = subst Begins (sym x.whole) (begins_by x.t x.us x.opening.no_square x.opening.no_assign)

pub modifiers_begin : (ts us rest : List Token) → Modifiers ts us → Opens us rest → Begins ts
modifiers_begin ts us rest (g.none _) o = opens_begins ts rest o
modifiers_begin ts us rest (g.more word t vs _ e m h) o = begins_by t vs (ap (is_sign s.OpenSquare) e) (ap (is_sign s.Assign) e)

square_no_assign : is_sign s.Assign (k.Sign s.OpenSquare) ≡ false
unfolding sign_number
square_no_assign = refl

attribute_no_assign : (ts rest : List Token) (cascading : Bool) (source : Option (List ℕ)) → Attribute ts rest cascading source → after s.Assign ts ≡ None
attribute_no_assign ts rest cascading source (g.parameter o n c _ e1 e2 e3) = ap (λ d. if d then Some (n ∷ c ∷ rest) else None) (ap (is_sign s.Assign) e1 ∙ square_no_assign)
attribute_no_assign ts rest cascading source (g.cascading o n c _ e1 e2 e3) = ap (λ d. if d then Some (n ∷ c ∷ rest) else None) (ap (is_sign s.Assign) e1 ∙ square_no_assign)
attribute_no_assign ts rest cascading source (g.cascading_of x o n q m t v d c _ e1 e2 e3 e4 e5 e6 e7 e8) =
    ap (λ z. if z then Some (n ∷ q ∷ m ∷ t ∷ v ∷ d ∷ c ∷ rest) else None) (ap (is_sign s.Assign) e1 ∙ square_no_assign)

attribute_shorter : (ts rest : List Token) (cascading : Bool) (source : Option (List ℕ)) → Attribute ts rest cascading source → length rest < length ts
attribute_shorter ts rest cascading source (g.parameter o n c _ e1 e2 e3) = omega arith
attribute_shorter ts rest cascading source (g.cascading o n c _ e1 e2 e3) = omega arith
attribute_shorter ts rest cascading source (g.cascading_of x o n q m t v d c _ e1 e2 e3 e4 e5 e6 e7 e8) = omega arith

pub supplied_opens : (ts rest : List Token) (cascading : Bool) (source : Option (List ℕ)) (kind : MemberKind) → Supplied cascading source ts rest kind → Opens ts rest
supplied_opens ts rest cascading source kind (g.supplied _ _ x n _ us vs _ a value h e acc end) =
    fewer ts (n ∷ us) rest (type_opens ts (n ∷ us) a h) (omega (arith, accessors_shorter us vs acc, end_shorter vs rest value end))

-- the words of a method without a result begin no type
pub nothing_none : (ts rest : List Token) (a : TypeExpr) → WritesType ts rest a → after_nothing ts ≡ None
nothing_none ts rest a h = let x = type_heads ts rest a h in ap after_nothing x.whole ∙ go x.t x.us x.simple
  where
    go : (t : Token) (us : List Token) → beginning t.kind ≡ b.Simple → after_nothing (t ∷ us) ≡ None
    go t us e =
        ap (λ d. if d || is_word w.Task t.kind then Some us else if is_word w.Async t.kind then after_word w.Task us else None) (no_word w.Void t.kind e void_nothing)
        ∙ ap (λ d. if d then Some us else if is_word w.Async t.kind then after_word w.Task us else None) (no_word w.Task t.kind e task_nothing)
        ∙ ap (λ d. if d then after_word w.Task us else None) (no_word w.Async t.kind e async_nothing)

-- the same of what has statements in it, where there are no fewer tokens before the statements of a block than behind them
module _ (statements_shorter : (c : Token) (ts rest : List Token) (body : List Stmt) → IsSign s.CloseBrace c → Statements no_jumps ts (c ∷ rest) body → length rest < length ts) where
  body_shorter : (ts rest : List Token) (a : Body) → MethodBody ts rest a → length rest < length ts
  body_shorter ts rest a (g.value p t c us _ d e1 h e2) = omega (arith, heads_shorter p us (c ∷ rest) (expression_heads 0 p us (c ∷ rest) d h))
  body_shorter ts rest a (g.block o c us _ body e1 h e2) = omega (arith, statements_shorter c us rest body e2 h)

  pub declared_opens : (ts rest : List Token) (kind : MemberKind) → Declared ts rest kind → Opens ts rest
  declared_opens ts rest kind (g.field x n c _ us _ a value h e1 init e2) = fewer ts (n ∷ us) rest (type_opens ts (n ∷ us) a h) (omega (arith, initial_shorter us (c ∷ rest) value init))
  declared_opens ts rest kind (g.property x n _ us vs _ a value h e acc end) =
      fewer ts (n ∷ us) rest (type_opens ts (n ∷ us) a h) (omega (arith, accessors_shorter us vs acc, end_shorter vs rest value end))
  declared_opens ts rest kind (g.getter x p n t c _ us _ a value h e1 e2 sp e3) =
      fewer ts (n ∷ t ∷ us) rest (type_opens ts (n ∷ t ∷ us) a h) (omega (arith, heads_shorter p us (c ∷ rest) (expression_heads 0 p us (c ∷ rest) value sp)))
  declared_opens ts rest kind (g.method x n o _ us vs _ a arguments body h differs e1 e2 list by) =
      fewer ts (n ∷ o ∷ us) rest (result_opens ts (n ∷ o ∷ us) a h) (omega (arith, list_shorter us vs arguments list, body_shorter vs rest body by))
  declared_opens ts rest kind (g.record_of x t n o c us _ parts e1 e2 e3 list e4) = opened t (n ∷ o ∷ us) rest (name_opens (codes "record") t e1) (omega (arith, list_shorter us (c ∷ rest) parts list))

  pub member_no_assign : (ts rest : List Token) (a : Member) → IsMember ts rest a → after s.Assign ts ≡ None
  member_no_assign ts rest a (g.plain t us vs _ kind m d) = (modifiers_begin (t ∷ us) vs rest m (declared_opens vs rest kind d)).no_assign
  member_no_assign ts rest a (g.parameter cascading source t us vs ws _ kind at m d) = attribute_no_assign (t ∷ us) vs cascading source at

  pub member_shorter : (ts rest : List Token) (a : Member) → IsMember ts rest a → length rest < length ts
  member_shorter ts rest a (g.plain t us vs _ kind m d) = omega (arith, modifiers_shorter (t ∷ us) vs m, opens_shorter vs rest (declared_opens vs rest kind d))
  member_shorter ts rest a (g.parameter cascading source t us vs ws _ kind at m d) =
      omega (arith, attribute_shorter (t ∷ us) vs cascading source at, modifiers_shorter vs ws m, opens_shorter ws rest (supplied_opens ws rest cascading source kind d))

  pub members_no_assign : (ts : List Token) (members : List Member) → SpelledMembers ts members → after s.Assign ts ≡ None
  members_no_assign ts members g.none = refl
  members_no_assign ts members (g.more _ us first others m tail) = member_no_assign ts us first m
