-- What is read as a statement without statements in it is spelled so.
use Rattle.std.proofs.Common.{◌≡◌, ℕ, List, [], ◌∷◌, ◌++◌, refl, sym, ap, ◌∙◌, subst}
use Rattle.std.specs.Prelude.{Bool, true, false, not, ◌&&◌, if◌then◌else◌, Option, Some, None}
use Rattle.std.specs.List.{list_all}
use Rattle.text_core.specs.declared.place.Place.{Place}
use Rattle.cs_ast.specs.declared.expression.Stmt.{Stmt}
use Rattle.cs_ast.specs.declared.expression.StmtKind.{StmtKind, StmtKind-F, out-StmtKind, roll-StmtKind, roll-out-StmtKind}
use Rattle.cs_ast.specs.declared.expression.StmtKind.TheVariants as st
use Rattle.cs_token.specs.declared.token.Token.{Token}
use Rattle.cs_token.specs.declared.token.TokenKind.{TokenKind}
use Rattle.cs_token.specs.declared.token.TokenKind.TheVariants as t
use Rattle.cs_token.specs.declared.token.Sign.{Sign}
use Rattle.cs_token.specs.declared.token.Sign.TheVariants as s
use Rattle.cs_token.specs.declared.token.Word.{Word}
use Rattle.cs_token.specs.declared.token.Word.TheVariants as w
use Rattle.cs_grammar.specs.Statements.{Statement, Statements, SpelledStatements, no_jumps, stmt}
use Rattle.cs_grammar.specs.Statements as cs
use Rattle.razor_token.specs.declared.piece.Piece.{Piece}
use Rattle.razor_ast.specs.Pieces.{codes_of}
use Rattle.razor_ast.specs.Statements.{IsSimple, Simple, is_semicolon}
use Rattle.razor_ast.specs.Statements as g
use Rattle.razor_reader.specs.declared.mark.Mark.TheVariants as m
use Rattle.razor_reader.specs.Marks.{sign_mark, word_mark, token_mark, mark_number, is_token}
use Rattle.razor_reader.specs.Reading.{◌>>=◌}
use Rattle.razor_reader.specs.TokenReading.{code_to}
use Rattle.razor_reader.specs.CodeReading.{is_simple, only}
use Rattle.razor_reader.specs.CodeReading as r
use Rattle.razor_reader.proofs.ReadLemmas.{bind_ok, moved, where_true}
use Rattle.razor_reader.proofs.MarkKinds.{token_semicolon}
use Rattle.razor_reader.proofs.MarkLemmas.{token_sure}
use Rattle.razor_reader.proofs.TokenSound.{To, code_to_whole}
use Rattle.razor_reader.proofs.CodeSound.{are_statements}

-- the only statement of a list
only_one : (body : List Stmt) (a : Stmt) → only body ≡ Some a → body ≡ a ∷ []
only_one [] a e = absurd (cc)
only_one (b ∷ []) a e = cc
only_one (b ∷ d ∷ others) a e = absurd (cc)

-- one statement of all tokens
one_statement : (ts : List Token) (a : Stmt) → Statements no_jumps ts [] (a ∷ []) → Statement no_jumps false ts [] a
one_statement ts a (cs.more_statements _ _ us _ _ _ h (cs.no_statement _ _)) = h

pub simple_kind : (a : Stmt) → is_simple a ≡ true → IsSimple a.kind
simple_kind a e =
    elim (out-StmtKind a.kind) as (λ x. out-StmtKind a.kind ≡ x → (elim x [
      | StmtKind-F.Local cs_type name value ↦ true
      | StmtKind-F.Empty ↦ true
      | StmtKind-F.Expr b ↦ true
      | StmtKind-F.Await b ↦ true
      | StmtKind-F.Return value ↦ true
      | _ ↦ false
    ]) ≡ true → IsSimple a.kind) [
      | StmtKind-F.Local cs_type name value ↦ λ i f. subst IsSimple (sym (sym (roll-out-StmtKind a.kind) ∙ ap roll-StmtKind i ∙ st.rolls-Local cs_type name value)) (g.local cs_type name value)
      | StmtKind-F.Empty ↦ λ i f. subst IsSimple (sym (sym (roll-out-StmtKind a.kind) ∙ ap roll-StmtKind i ∙ st.rolls-Empty)) g.empty
      | StmtKind-F.Expr b ↦ λ i f. subst IsSimple (sym (sym (roll-out-StmtKind a.kind) ∙ ap roll-StmtKind i ∙ st.rolls-Expr b)) (g.act b)
      | StmtKind-F.Await b ↦ λ i f. subst IsSimple (sym (sym (roll-out-StmtKind a.kind) ∙ ap roll-StmtKind i ∙ st.rolls-Await b)) (g.await_ b)
      | StmtKind-F.Return value ↦ λ i f. subst IsSimple (sym (sym (roll-out-StmtKind a.kind) ∙ ap roll-StmtKind i ∙ st.rolls-Return value)) (g.return_ value)
      | _ ↦ λ i f. absurd (cc)
    ] refl e

clash : {A : Type 0} (b : Bool) → b ≡ true → b ≡ false → A
clash b e f = let z : true ≡ false = sym e ∙ f in absurd (cc)

-- `else` may follow a simple statement
pub any_else : (f : Bool) (ts : List Token) (a : Stmt) → Statement no_jumps false ts [] a → is_simple a ≡ true → Statement no_jumps f ts [] a
any_else f ts a (cs.simple _ _ p c us _ kind h i) e = cs.simple no_jumps f p c us [] kind h i
any_else f ts a (cs.empty _ _ c _ i) e = cs.empty no_jumps f c [] i
any_else f ts a (cs.block _ _ o c us _ body i h k) e = clash _ e (ap (λ x. elim x [
  | StmtKind-F.Local cs_type name value ↦ true
  | StmtKind-F.Empty ↦ true
  | StmtKind-F.Expr b ↦ true
  | StmtKind-F.Await b ↦ true
  | StmtKind-F.Return value ↦ true
  | _ ↦ false
]) (st.outs-Block body))
any_else f ts a (cs.if_alone _ p t o c us vs _ b first i1 i2 h i3 k) e = clash _ e (ap (λ x. elim x [
  | StmtKind-F.Local cs_type name value ↦ true
  | StmtKind-F.Empty ↦ true
  | StmtKind-F.Expr b ↦ true
  | StmtKind-F.Await b ↦ true
  | StmtKind-F.Return value ↦ true
  | _ ↦ false
]) (st.outs-If b first None))
any_else f ts a (cs.if_else _ _ p t o c d us vs xs _ b first other i1 i2 h i3 k i4 l) e = clash _ e (ap (λ x. elim x [
  | StmtKind-F.Local cs_type name value ↦ true
  | StmtKind-F.Empty ↦ true
  | StmtKind-F.Expr b ↦ true
  | StmtKind-F.Await b ↦ true
  | StmtKind-F.Return value ↦ true
  | _ ↦ false
]) (st.outs-If b first (Some other)))
any_else f ts a (cs.while_ _ _ p t o c us vs _ b body i1 i2 h i3 k) e = clash _ e (ap (λ x. elim x [
  | StmtKind-F.Local cs_type name value ↦ true
  | StmtKind-F.Empty ↦ true
  | StmtKind-F.Expr b ↦ true
  | StmtKind-F.Await b ↦ true
  | StmtKind-F.Return value ↦ true
  | _ ↦ false
]) (st.outs-While b body))
any_else f ts a (cs.for_ _ _ t o m n c us vs xs ys _ start condition step body i1 i2 h1 i3 h2 i4 h3 i5 k) e = clash _ e (ap (λ x. elim x [
  | StmtKind-F.Local cs_type name value ↦ true
  | StmtKind-F.Empty ↦ true
  | StmtKind-F.Expr b ↦ true
  | StmtKind-F.Await b ↦ true
  | StmtKind-F.Return value ↦ true
  | _ ↦ false
]) (st.outs-For start condition step body))
any_else f ts a (cs.foreach_ _ _ x p t o v n i c us vs _ b body i1 i2 i3 i4 i5 h i6 k) e = clash _ e (ap (λ x. elim x [
  | StmtKind-F.Local cs_type name value ↦ true
  | StmtKind-F.Empty ↦ true
  | StmtKind-F.Expr b ↦ true
  | StmtKind-F.Await b ↦ true
  | StmtKind-F.Return value ↦ true
  | _ ↦ false
]) (st.outs-ForEach _ b body))
any_else f ts a (cs.switch_ _ _ p t o c b d us vs _ x sections i1 i2 h i3 i4 k i5) e = clash _ e (ap (λ x. elim x [
  | StmtKind-F.Local cs_type name value ↦ true
  | StmtKind-F.Empty ↦ true
  | StmtKind-F.Expr b ↦ true
  | StmtKind-F.Await b ↦ true
  | StmtKind-F.Return value ↦ true
  | _ ↦ false
]) (st.outs-Switch x sections))
any_else f ts a (cs.await_ _ _ p q r t n c us _ b bs i1 h i2) e = cs.await_ no_jumps f p q r t n c us [] b bs i1 h i2
any_else f ts a (cs.break_ _ _ t c _ j i1 i2) e = clash _ e (ap (λ x. elim x [
  | StmtKind-F.Local cs_type name value ↦ true
  | StmtKind-F.Empty ↦ true
  | StmtKind-F.Expr b ↦ true
  | StmtKind-F.Await b ↦ true
  | StmtKind-F.Return value ↦ true
  | _ ↦ false
]) st.outs-Break)
any_else f ts a (cs.continue_ _ _ t c _ j i1 i2) e = clash _ e (ap (λ x. elim x [
  | StmtKind-F.Local cs_type name value ↦ true
  | StmtKind-F.Empty ↦ true
  | StmtKind-F.Expr b ↦ true
  | StmtKind-F.Await b ↦ true
  | StmtKind-F.Return value ↦ true
  | _ ↦ false
]) st.outs-Continue)
any_else f ts a (cs.return_ _ _ t c us _ value i1 h i2) e = cs.return_ no_jumps f t c us [] value i1 h i2

-- one such statement
pub record SimpleOf (ts : List Token) (a : Stmt) : Type 0 where
  pub spelled : Statement no_jumps true ts [] a
  pub kind : IsSimple a.kind

pub simple_of : (ts : List Token) (a : Stmt) → r.simple ts ≡ Some a → SimpleOf ts a
simple_of ts a e =
    let x = bind_ok (r.all_statements ts) _ _ e in
    let y = bind_ok (only x.0) _ _ x.2 in
    let d = where_true (is_simple y.0) (Some y.0) a y.2 in
    let body = subst (Statements no_jumps ts []) (only_one x.0 y.0 y.1) (are_statements ts x.0 x.1) in
    moved {A = Stmt} (SimpleOf ts) d.1 (record { spelled = any_else true ts y.0 (one_statement ts y.0 body) d.0; kind = simple_kind y.0 d.0 })

-- the semicolon by its mark
sign_semicolon : (sign : Sign) → is_semicolon (t.Sign sign) ≡ is_token m.Semicolon (t.Sign sign)
unfolding sign_mark mark_number
sign_semicolon s.Semicolon = refl
sign_semicolon _ = refl

word_semicolon : (word : Word) → false ≡ is_token m.Semicolon (t.Word word)
unfolding word_mark mark_number
word_semicolon w.Break = refl
word_semicolon _ = refl

same_semicolon : (kind : TokenKind) → is_semicolon kind ≡ is_token m.Semicolon kind
unfolding mark_number
same_semicolon (t.Sign sign) = sign_semicolon sign
same_semicolon (t.Word word) = word_semicolon word
same_semicolon _ = refl

no_semicolon : (ts : List Token) → list_all (λ u. not (is_semicolon u.kind)) ts ≡ list_all (λ u. not (is_token m.Semicolon u.kind)) ts
no_semicolon [] = refl
no_semicolon (u ∷ ts) =
    ap (λ d. not d && list_all (λ v. not (is_semicolon v.kind)) ts) (same_semicolon u.kind)
    ∙ ap (λ d. not (is_token m.Semicolon u.kind) && d) (no_semicolon ts)

pub simple_sound : (ps : List Piece) (ts : List Token) (rest : List Piece) (a : Stmt) → code_to m.Semicolon ps ≡ Some (ts, rest) → r.simple ts ≡ Some a → Simple ps rest a
simple_sound ps ts rest a e f =
    let x = code_to_whole m.Semicolon ps ts rest e in
    let y = simple_of ts a f in
    subst (λ (l : List Piece). Simple l rest a) (sym (x.whole ∙ ap (λ l. codes_of l ++ rest) x.tokens))
    (g.simple x.us x.c rest a (no_semicolon x.us ∙ x.none) (token_sure m.Semicolon (t.Sign s.Semicolon) x.c.kind token_semicolon x.is)
    (subst (λ (l : List Token). Statement no_jumps true l [] a) x.tokens y.spelled) y.kind)
