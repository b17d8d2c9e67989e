-- Code that tokens of a text spell is printed as code whose brackets are whole.
use Rattle.std.proofs.Common.{◌≡◌, ℕ, false, List, [], ◌∷◌, ◌++◌, None, refl, sym, ◌∙◌, subst, option_map}
use Rattle.std.specs.declared.option.Option.{Option}
use Rattle.cs_ast.specs.declared.expression.Expr.{Expr}
use Rattle.cs_ast.specs.declared.expression.Stmt.{Stmt}
use Rattle.cs_ast.specs.declared.member.Member.{Member}
use Rattle.cs_token.specs.declared.token.Token.{Token}
use Rattle.cs_token.specs.declared.token.TokenKind.{TokenKind}
use Rattle.cs_token.specs.declared.token.TokenKind.TheVariants as k
use Rattle.cs_token.specs.declared.token.Sign.TheVariants as s
use Rattle.cs_token.specs.declared.token.Word.{Word}
use Rattle.cs_token.specs.declared.token.Word.TheVariants as w
use Rattle.cs_grammar.specs.Expressions.{SpelledExpression}
use Rattle.cs_grammar.specs.Lambdas.{Spelled, SpelledValue}
use Rattle.cs_grammar.specs.Lambdas as la
use Rattle.cs_grammar.specs.Members.{SpelledMembers}
use Rattle.cs_grammar.specs.Statements.{Start, Condition, Step}
use Rattle.cs_print.specs.Printed.{Kinds, optional, started, whole, printed, statement_kinds}
use Rattle.cs_print.specs.PrintedMembers.{members_kinds}
use Rattle.cs_print.proofs.CodeKinds.{IsCode}
use Rattle.cs_print.proofs.CodeKinds as c
use Rattle.cs_print.proofs.LambdasAgain.{value_whole, spelled_whole}
use Rattle.cs_print.proofs.MemberForms.{members_whole}
use Rattle.cs_print.proofs.ReadLemmas as rd
use Rattle.cs_print.proofs.SimpleAgain.{starting, condition, stepping}
use Rattle.razor_token.specs.declared.context.Context.TheVariants as x
use Rattle.razor_token.specs.CodeFronts.{opens, closes}
use Rattle.razor_print.specs.Nodes.{for_head, foreach_head}
use Rattle.printed_pieces.specs.Written.{IsLexeme, is_part, AreProper, IsWritten, Named}
use Rattle.printed_pieces.specs.Written as wr
use Rattle.printed_pieces.proofs.FrontLaws.{bracket}
use Rattle.printed_pieces.proofs.GoesLaws.{stop, token, goes-join}
use Rattle.printed_pieces.proofs.Nests.{Nests, join, is_flat}
use Rattle.printed_pieces.proofs.Nests as n
use Rattle.printed_pieces.proofs.NestedMembers.{value_nests, spelled_nests, members_nest}
use Rattle.printed_pieces.proofs.NestedStatements.{start_nests, condition_nests, step_nests, ended as nested-end}
use Rattle.printed_pieces.proofs.ShownLaws.{IsClosed, closed}

pub lexeme : (kind : TokenKind) → IsLexeme kind → c.IsLexeme kind
lexeme (k.Name x) h = h
lexeme (k.Number i) h = h
lexeme (k.Part x) h = h
lexeme _ h = tt

part-same : (kind : TokenKind) → c.is_part kind ≡ is_part kind
part-same (k.Part x) = refl
part-same _ = refl

first-same : (ts : List Token) → rd.first_part ts ≡ wr.begins_part ts
first-same [] = refl
first-same (t ∷ ts) = part-same t.kind

pub proper : (ts : List Token) → AreProper ts → rd.AreProper ts
proper _ wr.no_token = rd.no_token
proper _ (wr.one_token t ts is apart more) = rd.one_token t ts (lexeme t.kind is) (λ e. first-same ts ∙ apart (sym (part-same t.kind) ∙ e)) (proper ts more)

pub closed-value : (a : Expr) → IsWritten SpelledValue a → IsClosed (whole (printed a))
closed-value a h =
    let found = value_whole h.tokens a h.tree (proper h.tokens h.proper) in
    closed (whole (printed a)) found.code (λ ts are. value_nests ts (found.reads ts are).other (found.reads ts are).tree)

pub closed-spelled : (a : Expr) → IsWritten Spelled a → IsClosed (whole (printed a))
closed-spelled a h =
    let found = spelled_whole h.tokens a h.tree (proper h.tokens h.proper) in
    closed (whole (printed a)) found.code (λ ts are. spelled_nests ts (found.reads ts are).other (found.reads ts are).tree)

pub closed-expression : (a : Expr) → IsWritten SpelledExpression a → IsClosed (whole (printed a))
closed-expression a h = closed-value a (record { tokens = h.tokens; proper = h.proper; tree = la.expression h.tree.0 h.tokens a h.tree.1 })

pub closed-members : (all : List Member) → IsWritten SpelledMembers all → IsClosed (members_kinds all)
closed-members all h =
    let found = members_whole h.tokens all h.tree (proper h.tokens h.proper) in
    closed (members_kinds all) found.code (λ ts are. members_nest ts (found.reads ts are).other (found.reads ts are).tree)

pub closed-start : (a : Option Stmt) → IsWritten (λ ts z. Start ts [] z) a → IsClosed (started (option_map statement_kinds a))
closed-start a h =
    let found = starting h.tokens [] a h.tree (proper h.tokens h.proper) in
    closed (started (option_map statement_kinds a)) found.again.code
    (λ ts are. let z = found.again.reads ts [] are in join false ts (z.m ∷ []) [] (start_nests false ts (z.m ∷ []) z.other z.spelled) (nested-end z.m [] [] z.ends (n.none false [])))

pub closed-condition : (a : Option Expr) → IsWritten (λ ts z. Condition ts [] z) a → IsClosed (optional (option_map printed a))
closed-condition a h =
    let found = condition h.tokens [] a h.tree (proper h.tokens h.proper) in
    closed (optional (option_map printed a)) found.again.code (λ ts are. let z = found.again.reads ts [] are in condition_nests false ts [] z.other z.spelled)

pub closed-step : (a : Option Expr) → IsWritten (λ ts z. Step ts [] z) a → IsClosed (optional (option_map printed a))
closed-step a h =
    let found = stepping h.tokens [] a h.tree (proper h.tokens h.proper) in
    closed (optional (option_map printed a)) found.again.code (λ ts are. let z = found.again.reads ts [] are in step_nests false ts [] z.other z.spelled)

-- code behind code
pub closed-join : (ks ms : Kinds) → IsClosed ks → IsClosed ms → IsClosed (ks ++ ms)
closed-join ks ms h i = record {
  code = c.join ks ms h.code i.code;
  goes = λ cs. goes-join (x.Bracket None false ∷ cs) (x.Bracket None false ∷ cs) (x.Bracket None false ∷ cs) [] [] [] ks ms (h.goes cs) (i.goes cs);
}

pub closed-none : IsClosed []
closed-none = record { code = c.none; goes = λ cs. stop (x.Bracket None false) cs [] bracket }

-- a word, a name or the like before code
pub closed-word : (word : Word) (ks : Kinds) → IsClosed ks → IsClosed (k.Word word ∷ ks)
closed-word word ks h = record {
  code = rd.worded word ks h.code;
  goes = λ cs. token (x.Bracket None false) cs (x.Bracket None false ∷ cs) [] [] (k.Word word) ks bracket refl (h.goes cs);
}

pub closed-name : (name : List ℕ) (ks : Kinds) → IsLexeme (k.Name name) → IsClosed ks → IsClosed (k.Name name ∷ ks)
closed-name name ks is h = record {
  code = rd.named name ks is h.code;
  goes = λ cs. token (x.Bracket None false) cs (x.Bracket None false ∷ cs) [] [] (k.Name name) ks bracket refl (h.goes cs);
}

pub closed-semicolon : (ks : Kinds) → IsClosed ks → IsClosed (k.Sign s.Semicolon ∷ ks)
unfolding opens closes
closed-semicolon ks h = record {
  code = rd.signed s.Semicolon ks refl h.code;
  goes = λ cs. token (x.Bracket None false) cs (x.Bracket None false ∷ cs) [] [] (k.Sign s.Semicolon) ks bracket refl (h.goes cs);
}

pub name-lexeme : (name : List ℕ) → IsWritten Named name → IsLexeme (k.Name name)
name-lexeme name h = go h.tokens h.proper h.tree
  where
    first : (t : Token) (ts : List Token) → AreProper (t ∷ ts) → IsLexeme t.kind
    first _ _ (wr.one_token t ts is apart more) = is

    go : (ts : List Token) → AreProper ts → Named ts name → IsLexeme (k.Name name)
    go ts known tree = subst (λ z. IsLexeme z) tree.2 (first tree.0 [] (subst (λ z. AreProper z) tree.1 known))

-- what stands in the brackets of a `for`, and of a `foreach`

pub closed-for : (start : Option Stmt) (test next : Option Expr) → IsWritten (λ ts z. Start ts [] z) start → IsWritten (λ ts z. Condition ts [] z) test → IsWritten (λ ts z. Step ts [] z) next
    → IsClosed (for_head start test next)
closed-for start test next one two three =
    closed-join (started (option_map statement_kinds start)) _ (closed-start start one)
    (closed-join (optional (option_map printed test) ++ k.Sign s.Semicolon ∷ []) (optional (option_map printed next))
    (closed-join (optional (option_map printed test)) (k.Sign s.Semicolon ∷ []) (closed-condition test two) (closed-semicolon [] closed-none)) (closed-step next three))

pub closed-foreach : (name : List ℕ) (a : Expr) → IsWritten Named name → IsWritten SpelledExpression a → IsClosed (foreach_head name a)
closed-foreach name a is h = closed-word w.Var _ (closed-name name _ (name-lexeme name is) (closed-word w.In (whole (printed a)) (closed-expression a h)))
