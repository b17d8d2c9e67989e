-- What is printed of a tree that some text spells, spells it again.
use Rattle.std.proofs.Common.{◌≡◌, ℕ, List, [], sym, subst}
use Rattle.cs_ast.specs.declared.expression.Expr.{Expr}
use Rattle.cs_ast.specs.declared.expression.Stmt.{Stmt}
use Rattle.cs_ast.specs.declared.member.Member.{Member}
use Rattle.cs_token.specs.declared.token.Token.{Token}
use Rattle.cs_grammar.specs.Lambdas.{Spelled}
use Rattle.cs_grammar.specs.Members.{SpelledMembers}
use Rattle.cs_grammar.specs.Statements.{SpelledStatements, no_jumps}
use Rattle.cs_print.specs.Again.{IsSpelled, SpellsAgain}
use Rattle.cs_print.specs.Alike.{Alike, AlikeAllStatements, AlikeMembers, Each}
use Rattle.cs_print.specs.Layout.{code_text}
use Rattle.cs_print.specs.Printed.{Kinds, whole, printed, statements_kinds}
use Rattle.cs_print.specs.PrintedMembers.{members_kinds}
use Rattle.cs_print.proofs.LayLemmas.{code-spelled}
use Rattle.cs_print.proofs.ProperLemmas.{proper-tokens}
use Rattle.cs_print.proofs.LambdasAgain.{Whole, spelled_whole}
use Rattle.cs_print.proofs.MemberForms.{members_whole}
use Rattle.cs_print.proofs.ReadLemmas.{AreProper}
use Rattle.cs_print.proofs.StatementsAgain.{statements}

again : {A : Type 0} (Tree : List Token → A → Type 0) (AreAlike : A → A → Type 0) (ks : Kinds) (a : A) (text : List ℕ) → text ≡ code_text ks → Whole Tree AreAlike ks a → SpellsAgain Tree AreAlike text a
again Tree AreAlike ks a text is h =
    let x = code-spelled ks h.code in
    let y = h.reads x.tokens x.are in
    subst (λ z. SpellsAgain Tree AreAlike z a) (sym is) (record { tokens = x.tokens; other = y.other; laid = x.spelled; tree = y.tree; alike = y.alike })

pub expression_again : (a : Expr) (text : List ℕ) → IsSpelled Spelled a → text ≡ code_text (whole (printed a)) → SpellsAgain Spelled Alike text a
expression_again a text h is = again Spelled Alike (whole (printed a)) a text is (spelled_whole h.tokens a h.tree (proper-tokens h.text h.tokens h.laid))

statements_whole : (ts : List Token) (body : List Stmt) → SpelledStatements ts body → AreProper ts → Whole SpelledStatements AlikeAllStatements (statements_kinds body) body
statements_whole ts body h known =
    let x = (statements no_jumps ts [] body h known).again in
    record { code = x.code; reads = λ us are. let y = x.reads us [] are in record { other = y.trees; tree = y.spelled; alike = y.alike } }

pub statements_again : (body : List Stmt) (text : List ℕ) → IsSpelled SpelledStatements body → text ≡ code_text (statements_kinds body) → SpellsAgain SpelledStatements AlikeAllStatements text body
statements_again body text h is = again SpelledStatements AlikeAllStatements (statements_kinds body) body text is (statements_whole h.tokens body h.tree (proper-tokens h.text h.tokens h.laid))

pub members_again : (all : List Member) (text : List ℕ) → IsSpelled SpelledMembers all → text ≡ code_text (members_kinds all) → SpellsAgain SpelledMembers (Each AlikeMembers) text all
members_again all text h is = again SpelledMembers (Each AlikeMembers) (members_kinds all) all text is (members_whole h.tokens all h.tree (proper-tokens h.text h.tokens h.laid))
