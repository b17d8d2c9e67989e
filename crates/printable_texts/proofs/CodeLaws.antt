-- Code that stands in a text is written: some proper tokens spell it.
use Rattle.std.proofs.Common.{◌≡◌, ℕ, Bool, true, false, List, [], ◌∷◌, ◌++◌, Some, None, refl, sym, ◌∙◌, subst, append-nil}
use Rattle.std.specs.declared.option.Option.{Option}
use Rattle.std.specs.Prelude.{codes}
use Rattle.cs_ast.specs.declared.expression.Expr.{Expr}
use Rattle.cs_ast.specs.declared.expression.ExprKind.TheVariants as ek
use Rattle.cs_ast.specs.declared.expression.Stmt.{Stmt}
use Rattle.cs_ast.specs.declared.expression.StmtKind.{StmtKind, StmtKind-F, out-StmtKind}
use Rattle.cs_ast.specs.declared.expression.StmtKind.TheVariants as st
use Rattle.cs_token.specs.declared.token.Token.{Token}
use Rattle.cs_token.specs.declared.token.TokenKind.TheVariants as t
use Rattle.cs_grammar.specs.Expressions.{Spells, SpelledExpression, node}
use Rattle.cs_grammar.specs.Lambdas.{SpelledValue}
use Rattle.cs_grammar.specs.Lambdas as lambdas
use Rattle.cs_grammar.specs.Statements.{Start, Condition, Step, Statement, Jumps}
use Rattle.cs_grammar.specs.Statements as g
use Rattle.cs_grammar.specs.Tokens.{ident}
use Rattle.razor_token.specs.declared.piece.Piece.{Piece}
use Rattle.razor_token.specs.declared.piece.PieceKind.TheVariants as k
use Rattle.razor_ast.specs.Pieces.{codes_of}
use Rattle.razor_ast.specs.Shown.{Shown, ShownTokens}
use Rattle.razor_ast.specs.Shown as shown
use Rattle.razor_ast.specs.Statements.{IsSimple, Simple, ForHead, ForEachHead}
use Rattle.razor_ast.specs.Statements as statements
use Rattle.razor_reader.proofs.CutLemmas.{Cut, cut_spells, cut_simple}
use Rattle.printed_pieces.specs.Written.{IsLexeme, is_part, begins_part, AreProper, no_token, one_token, IsWritten, Named, OneStatement}
use Rattle.printed_pieces.specs.Written as written
use Rattle.printable_texts.specs.Stands.{Where, Stands}
use Rattle.printable_texts.proofs.TokenLaws.{codes_stand, step, proper_front, proper_behind}

-- tokens that stand before others spell by themselves
pub written_front : {A : Type 0} (Tree : List Token → List Token → A → Type 0) (ts us : List Token) (a : A) → AreProper ts → Cut (λ x y. Tree x y a) ts us → IsWritten (λ x b. Tree x [] b) a
written_front Tree ts us a proper cut = record {
  tokens = cut.pre;
  proper = proper_front cut.pre us (subst AreProper cut.whole proper);
  tree = subst (λ l. Tree l [] a) (append-nil cut.pre) (cut.any []);
}

pub rest_proper : (P : List Token → List Token → Type 0) (ts us : List Token) → AreProper ts → Cut P ts us → AreProper us
rest_proper P ts us proper cut = proper_behind cut.pre us (subst AreProper cut.whole proper)

proper_rest : (u : Token) (ts : List Token) → AreProper (u ∷ ts) → AreProper ts
proper_rest u ts h = proper_behind (u ∷ []) ts h

cut_start : (ts rest : List Token) (start : Option Stmt) → Start ts rest start → Cut (λ x y. Start x y start) ts rest
cut_start ts rest start (g.none _) = record { pre = []; whole = refl; any = λ more. g.none more; kept = refl }
cut_start ts rest start (g.some p _ _ kind h) =
    let c = cut_simple p ts rest kind h in record { pre = c.pre; whole = c.whole; any = λ more. g.some p (c.pre ++ more) more kind (c.any more); kept = c.kept }

cut_condition : (ts rest : List Token) (a : Option Expr) → Condition ts rest a → Cut (λ x y. Condition x y a) ts rest
cut_condition ts rest a (g.none _) = record { pre = []; whole = refl; any = λ more. g.none more; kept = refl }
cut_condition ts rest a (g.some p _ _ b h) =
    let c = cut_spells 0 p ts rest b h in record { pre = c.pre; whole = c.whole; any = λ more. g.some p (c.pre ++ more) more b (c.any more); kept = c.kept }

-- the head of a `for`
pub record HeadWritten (start : Option Stmt) (condition turn : Option Expr) : Type 0 where
  pub first : IsWritten (λ ts x. Start ts [] x) start
  pub second : IsWritten (λ ts x. Condition ts [] x) condition
  pub third : IsWritten (λ ts x. Step ts [] x) turn

pub for_written : (ts : List Token) (start : Option Stmt) (condition turn : Option Expr) → ForHead ts start condition turn → AreProper ts → HeadWritten start condition turn
for_written ts start condition turn (statements.head m n _ us vs _ _ _ first _ second _ third) proper =
    let one = cut_start ts (m ∷ us) start first in
    let behind_one = proper_rest m us (rest_proper (λ x y. Start x y start) ts (m ∷ us) proper one) in
    let two = cut_condition us (n ∷ vs) condition second in
    record {
      first = written_front Start ts (m ∷ us) start proper one;
      second = written_front Condition us (n ∷ vs) condition behind_one two;
      third = record { tokens = vs; proper = proper_rest n vs (rest_proper (λ x y. Condition x y condition) us (n ∷ vs) behind_one two); tree = third };
    }

-- a name
pub lexeme_named : (n : Token) (x : List ℕ) → n.kind ≡ t.Name x → IsLexeme (t.Name x) → IsWritten Named x
lexeme_named n x is sound =
    record { tokens = n ∷ []; proper = one_token n [] (subst IsLexeme (sym is) sound) (λ e. refl) no_token; tree = (n, refl, is) }

pub first_lexeme : (u : Token) (ts : List Token) → AreProper (u ∷ ts) → IsLexeme u.kind
first_lexeme u ts (one_token _ _ is _ _) = is

pub foreach_written : (ts : List Token) (name : Token) (x : List ℕ) (a : Expr) → ForEachHead ts name x a → AreProper ts → IsWritten Named x × IsWritten SpelledExpression a
foreach_written _ name x a (statements.head _ p v _ i ts _ _ named _ h) proper =
    let behind_var = proper_rest v (name ∷ i ∷ ts) proper in
    let behind_name = proper_rest name (i ∷ ts) behind_var in (
      lexeme_named name x named (subst IsLexeme named (first_lexeme name (i ∷ ts) behind_var)),
      record { tokens = ts; proper = proper_rest i ts behind_name; tree = (p, h) },
    )

-- content expressions
shown_tokens : (ts : List Token) (a : Expr) → ShownTokens ts a → AreProper ts → IsWritten SpelledValue a
shown_tokens _ a (shown.in_round o c ts _ _ h _) proper = record { tokens = ts; proper = proper_front ts (c ∷ []) (proper_rest o (ts ++ c ∷ []) proper); tree = h }
shown_tokens _ a (shown.named x p n ts _ _ h) proper = record { tokens = n ∷ ts; proper = proper; tree = lambdas.expression p (n ∷ ts) a h }

pub shown_written : (place : Where) (ps rest : List Piece) (a : Expr) → Shown ps rest a → Stands place ps → IsWritten SpelledValue a × Stands place rest
shown_written place _ rest a (shown.shown at end ts _ _ marks tokens ends) h =
    let codes = codes_stand place ts (end ∷ rest) (step place k.At at (codes_of ts ++ end ∷ rest) marks h).2 in
    (shown_tokens ts a tokens codes.0, (step place k.ExpressionEnd end rest ends codes.1).2)

-- statements without statements in them
is_short : StmtKind → Bool
is_short kind = elim (out-StmtKind kind) [
  | StmtKind-F.Local a name value ↦ true
  | StmtKind-F.Empty ↦ true
  | StmtKind-F.Expr a ↦ true
  | StmtKind-F.Await a ↦ true
  | StmtKind-F.Return value ↦ true
  | _ ↦ false
]

short : (kind : StmtKind) → IsSimple kind → is_short kind ≡ true
unfolding is_short
short _ (statements.local a name value) = rw (st.outs-Local a name value, is_short) refl
short _ statements.empty = rw (st.outs-Empty, is_short) refl
short _ (statements.act a) = rw (st.outs-Expr a, is_short) refl
short _ (statements.await_ a) = rw (st.outs-Await a, is_short) refl
short _ (statements.return_ value) = rw (st.outs-Return value, is_short) refl

no_short : (kind : StmtKind) → is_short kind ≡ false → IsSimple kind → ⊥
no_short kind e h = let f : false ≡ true = sym e ∙ short kind h in absurd (cc)

one_statement : (j : Jumps) (f : Bool) (ts rest : List Token) (a : Stmt) → Statement j f ts rest a → rest ≡ [] → IsSimple a.kind → OneStatement ts a
unfolding is_short
one_statement j f ts rest a (g.simple _ _ p c _ _ kind h ends) e is = written.simple p c ts kind (subst (λ (z : List Token). g.Simple p ts (c ∷ z) kind) e h) ends
one_statement j f ts rest a (g.empty _ _ c _ ends) e is = subst (λ (z : List Token). OneStatement (c ∷ z) a) (sym e) (written.empty c ends)
one_statement j f ts rest a (g.block _ _ o c us _ body _ _ _) e is = absurd (no_short _ (rw (st.outs-Block body, is_short) refl) is)
one_statement j f ts rest a (g.if_alone _ p u o c us vs _ b holds _ _ _ _ _) e is = absurd (no_short _ (rw (st.outs-If b holds None, is_short) refl) is)
one_statement j f ts rest a (g.if_else _ _ p u o c d us vs ws _ b holds fails _ _ _ _ _ _ _) e is = absurd (no_short _ (rw (st.outs-If b holds (Some fails), is_short) refl) is)
one_statement j f ts rest a (g.while_ _ _ p u o c us vs _ b body _ _ _ _ _) e is = absurd (no_short _ (rw (st.outs-While b body, is_short) refl) is)
one_statement j f ts rest a (g.for_ _ _ u o m n c us vs ws xs _ start condition turn body _ _ _ _ _ _ _ _ _) e is = absurd (no_short _ (rw (st.outs-For start condition turn body, is_short) refl) is)
one_statement j f ts rest a (g.foreach_ _ _ x p u o v n i c us vs _ b body _ _ _ _ _ _ _ _) e is = absurd (no_short _ (rw (st.outs-ForEach (ident n x) b body, is_short) refl) is)
one_statement j f ts rest a (g.switch_ _ _ p u o c b d us vs _ k sections _ _ _ _ _ _ _) e is = absurd (no_short _ (rw (st.outs-Switch k sections, is_short) refl) is)
one_statement j f ts rest a (g.await_ _ _ p q r u n c us _ b bs on h ends) e is =
    written.await_ p q r u n c us b bs on (subst (λ (z : List Token). Spells 0 p us (c ∷ z) (node q (ek.Call (node r (ek.Member b (ident n (codes "InvokeAsync")))) bs))) e h) ends
one_statement j f ts rest a (g.break_ _ _ u c _ _ on ends) e is = subst (λ (z : List Token). OneStatement (u ∷ c ∷ z) a) (sym e) (written.break_ u c on ends)
one_statement j f ts rest a (g.continue_ _ _ u c _ _ on ends) e is = subst (λ (z : List Token). OneStatement (u ∷ c ∷ z) a) (sym e) (written.continue_ u c on ends)
one_statement j f ts rest a (g.return_ _ _ u c us _ value on h ends) e is = written.return_ u c us value on (subst (λ (z : List Token). Condition us (c ∷ z) value) e h) ends

pub simple_written : (place : Where) (ps rest : List Piece) (a : Stmt) → Simple ps rest a → Stands place ps → IsWritten OneStatement a × Stands place rest
simple_written place _ rest a (statements.simple ts c _ _ _ _ h is) stands =
    let codes = codes_stand place (ts ++ c ∷ []) rest stands in
    (record { tokens = ts ++ c ∷ []; proper = codes.0; tree = one_statement g.no_jumps true (ts ++ c ∷ []) [] a h refl is }, codes.1)
