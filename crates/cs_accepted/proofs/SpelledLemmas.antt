-- No jump leaves the statements of a body that tokens spell: by recursion on how they are spelled.
use Rattle.std.proofs.Common.{◌≡◌, ℕ, ◌-◌, List, ◌∷◌, map, refl, sym, ap, subst, ◌∙◌, inl, inr}
use Rattle.std.specs.Prelude.{Bool, true, false, ◌||◌, option_map, Option, Some, None}
use Rattle.text_core.specs.declared.place.Place.{Place}
use Rattle.cs_ast.specs.declared.expression.Body.TheOpen.{StmtKind-F}
use Rattle.cs_ast.specs.declared.expression.Expr.{Expr}
use Rattle.cs_ast.specs.declared.expression.Section.{Section}
use Rattle.cs_ast.specs.declared.expression.Body.TheViews.{out-roll-Section}
use Rattle.cs_ast.specs.declared.expression.Stmt.{Stmt}
use Rattle.cs_ast.specs.declared.expression.StmtKind.{StmtKind}
use Rattle.cs_ast.specs.declared.expression.StmtKind.TheVariants as sk
use Rattle.cs_token.specs.declared.token.Token.{Token}
use Rattle.cs_grammar.specs.Statements.{Jumps, no_jumps, in_loop, in_switch, Simple, Start, Statement, Statements, Sections}
use Rattle.cs_grammar.specs.Statements as g
use Rattle.cs_rules.specs.Statements.{has_default, condition}
use Rattle.cs_accepted.specs.Leaves.{Leaves, SectionLeaves, plain, either, branches, looped, always, any_section, switched, section_of, is_true, leaves, leaves_of_kind, section_leaves}
use Rattle.cs_accepted.specs.Leaves as leave
use Rattle.cs_accepted.specs.Bodies.{body_leaves}
use Rattle.cs_accepted.proofs.TypeLemmas.{either_passes}
use Rattle.cs_accepted.proofs.StatementTrees.{leaves_law, leaves_at, section_leaves_law}
use Rattle.cs_rules.specs.Types.{drops_argument, fits, fits_type, fitting, may_be_null}

-- jumps that leave may stand there
record Stand (j : Jumps) (out on : Bool) : Type 0 where
  out_may : out ≡ true → j.breaks ≡ true
  on_may : on ≡ true → j.continues ≡ true

none_stand : (j : Jumps) → Stand j false false
none_stand j = record { out_may = λ e. absurd (cc); on_may = λ e. absurd (cc) }

both_stand : (j : Jumps) (a b a' b' : Bool) → Stand j a a' → Stand j b b' → Stand j (a || b) (a' || b')
both_stand j a b a' b' h k =
    record {
      out_may = λ e. elim (either_passes a b e) [ inl i ↦ h.out_may i | inr i ↦ k.out_may i ];
      on_may = λ e. elim (either_passes a' b' e) [ inl i ↦ h.on_may i | inr i ↦ k.on_may i ];
    }

-- what leaves a form of statement
form_leaves : (p : Place) (kind : StmtKind) (l : Leaves) (j : Jumps) → leaves_of_kind kind ≡ l → Stand j l.breaks l.continues → Stand j (leaves (g.stmt p kind)).breaks (leaves (g.stmt p kind)).continues
form_leaves p kind l j e h = subst (λ (z : Leaves). Stand j z.breaks z.continues) (sym (leaves_law (g.stmt p kind) ∙ e)) h

simple_leaves : (p : Place) (ts rest : List Token) (kind : StmtKind) → Simple p ts rest kind → leaves_of_kind kind ≡ plain
simple_leaves p ts rest kind (g.local x _ n _ us _ a None _ _ _) = leaves_at (sk.Local a _ None) (StmtKind-F.Local a _ None) (sk.rolls-Local a _ None)
simple_leaves p ts rest kind (g.local x _ n _ us _ a (Some value) _ _ _) = leaves_at (sk.Local a _ (Some value)) (StmtKind-F.Local a _ (Some value)) (sk.rolls-Local a _ (Some value))
simple_leaves p ts rest kind (g.act _ _ _ a _) = leaves_at (sk.Expr a) (StmtKind-F.Expr a) (sk.rolls-Expr a)

start_stands : (j : Jumps) (ts rest : List Token) (start : Option Stmt) (l : Leaves) → Start ts rest start → Stand j false false → l.breaks ≡ false → l.continues ≡ false → Stand j (leave.started (option_map leaves start) l).breaks (leave.started (option_map leaves start) l).continues
start_stands j ts rest start l (g.none _) h b c = subst (λ z. Stand j z l.continues) (sym b) (subst (λ z. Stand j false z) (sym c) h)
start_stands j ts rest start l (g.some p _ _ kind s) h b c = form_leaves p kind plain j (simple_leaves p ts rest kind s) h

for_leaves : (start : Option Stmt) (condition step : Option Expr) (body : Stmt) → leaves_of_kind (sk.For start condition step body) ≡ leave.started (option_map leaves start) (looped (always (option_map is_true condition)) (leaves body))
unfolding condition drops_argument fits fits_type fitting may_be_null
for_leaves None None None body = leaves_at (sk.For None None None body) (StmtKind-F.For None None None body) (sk.rolls-For None None None body)
for_leaves None None (Some e) body = leaves_at (sk.For None None (Some e) body) (StmtKind-F.For None None (Some e) body) (sk.rolls-For None None (Some e) body)
for_leaves None (Some d) None body = leaves_at (sk.For None (Some d) None body) (StmtKind-F.For None (Some d) None body) (sk.rolls-For None (Some d) None body)
for_leaves None (Some d) (Some e) body = leaves_at (sk.For None (Some d) (Some e) body) (StmtKind-F.For None (Some d) (Some e) body) (sk.rolls-For None (Some d) (Some e) body)
for_leaves (Some s) None None body = leaves_at (sk.For (Some s) None None body) (StmtKind-F.For (Some s) None None body) (sk.rolls-For (Some s) None None body)
for_leaves (Some s) None (Some e) body = leaves_at (sk.For (Some s) None (Some e) body) (StmtKind-F.For (Some s) None (Some e) body) (sk.rolls-For (Some s) None (Some e) body)
for_leaves (Some s) (Some d) None body = leaves_at (sk.For (Some s) (Some d) None body) (StmtKind-F.For (Some s) (Some d) None body) (sk.rolls-For (Some s) (Some d) None body)
for_leaves (Some s) (Some d) (Some e) body = leaves_at (sk.For (Some s) (Some d) (Some e) body) (StmtKind-F.For (Some s) (Some d) (Some e) body) (sk.rolls-For (Some s) (Some d) (Some e) body)

mutual
  unfolding condition drops_argument fits fits_type fitting may_be_null

  statement_stands : (j : Jumps) (f : Bool) (ts rest : List Token) (a : Stmt) → Statement j f ts rest a → Stand j (leaves a).breaks (leaves a).continues
  statement_stands j f ts rest a (g.simple _ _ p c _ _ kind s _) = form_leaves p kind plain j (simple_leaves p ts (c ∷ rest) kind s) (none_stand j)
  statement_stands j f ts rest a (g.empty _ _ c _ _) = form_leaves c.place sk.Empty plain j (leaves_at sk.Empty StmtKind-F.Empty sk.rolls-Empty) (none_stand j)
  statement_stands j f ts rest a (g.block _ _ o c us _ body _ hs _) =
      form_leaves o.place (sk.Block body) (leave.in_order (map leaves body)) j (leaves_at (sk.Block body) (StmtKind-F.StmtKind::Block body) (sk.rolls-Block body)) (statements_stand j us (c ∷ rest) body hs)
  statement_stands j f ts rest a (g.if_alone _ p t o c _ us _ e holds _ _ _ _ h) =
      form_leaves t.place (sk.If e holds None) (either (leaves holds) plain) j (leaves_at (sk.If e holds None) (StmtKind-F.If e holds None) (sk.rolls-If e holds None)) (both_stand j (leaves holds).breaks false (leaves holds).continues false (statement_stands j false us rest holds h) (none_stand j))
  statement_stands j f ts rest a (g.if_else _ _ p t o c d _ us vs _ e holds fails _ _ _ _ h _ k) =
      form_leaves t.place (sk.If e holds (Some fails)) (either (leaves holds) (leaves fails)) j (leaves_at (sk.If e holds (Some fails)) (StmtKind-F.If e holds (Some fails)) (sk.rolls-If e holds (Some fails)))
      (both_stand j (leaves holds).breaks (leaves fails).breaks (leaves holds).continues (leaves fails).continues (statement_stands j true us (d ∷ vs) holds h) (statement_stands j f vs rest fails k))
  statement_stands j f ts rest a (g.while_ _ _ p t o c _ us _ e body _ _ _ _ h) =
      form_leaves t.place (sk.While e body) (looped (is_true e) (leaves body)) j (leaves_at (sk.While e body) (StmtKind-F.While e body) (sk.rolls-While e body)) (none_stand j)
  statement_stands j f ts rest a (g.for_ _ _ t o m n c us vs ws xs _ start condition step body _ _ s _ _ _ _ _ h) =
      form_leaves t.place (sk.For start condition step body) (leave.started (option_map leaves start) (looped (always (option_map is_true condition)) (leaves body))) j (for_leaves start condition step body)
      (start_stands j us (m ∷ vs) start (looped (always (option_map is_true condition)) (leaves body)) s (none_stand j) refl refl)
  statement_stands j f ts rest a (g.foreach_ _ _ x p t o v n i c _ us _ e body _ _ _ _ _ _ _ h) =
      form_leaves t.place (sk.ForEach _ e body) (looped false (leaves body)) j (leaves_at (sk.ForEach _ e body) (StmtKind-F.ForEach _ e body) (sk.rolls-ForEach _ e body)) (none_stand j)
  statement_stands j f ts rest a (g.switch_ _ _ p t o c b d _ us _ e sections _ _ _ _ _ hs _) =
      let k = sections_stand (in_switch j) 1 us (d ∷ rest) sections hs in
      form_leaves t.place (sk.Switch e sections) (switched (any_section (map section_leaves sections))) j (leaves_at (sk.Switch e sections) (StmtKind-F.Switch e sections) (sk.rolls-Switch e sections)) (record { out_may = λ m. absurd (cc); on_may = k.on_may })
  statement_stands j f ts rest a (g.await_ _ _ p q r t n c _ _ e bs _ _ _) =
      form_leaves t.place (sk.Await _) plain j (leaves_at (sk.Await _) (StmtKind-F.Await _) (sk.rolls-Await _)) (none_stand j)
  statement_stands j f ts rest a (g.break_ _ _ t c _ e _ _) =
      form_leaves t.place sk.Break (record { breaks = true; continues = false; ends = false }) j (leaves_at sk.Break StmtKind-F.Break sk.rolls-Break) (record { out_may = λ m. e; on_may = λ m. absurd (cc) })
  statement_stands j f ts rest a (g.continue_ _ _ t c _ e _ _) =
      form_leaves t.place sk.Continue (record { breaks = false; continues = true; ends = false }) j (leaves_at sk.Continue StmtKind-F.Continue sk.rolls-Continue) (record { out_may = λ m. absurd (cc); on_may = λ m. e })
  statement_stands j f ts rest a (g.return_ _ _ t c _ _ None _ _ _) =
      form_leaves t.place (sk.Return None) (record { breaks = false; continues = false; ends = false }) j (leaves_at (sk.Return None) (StmtKind-F.Return None) (sk.rolls-Return None)) (none_stand j)
  statement_stands j f ts rest a (g.return_ _ _ t c _ _ (Some value) _ _ _) =
      form_leaves t.place (sk.Return (Some value)) (record { breaks = false; continues = false; ends = false }) j (leaves_at (sk.Return (Some value)) (StmtKind-F.Return (Some value)) (sk.rolls-Return (Some value))) (none_stand j)

  statements_stand : (j : Jumps) (ts rest : List Token) (body : List Stmt) → Statements j ts rest body → Stand j (body_leaves body).breaks (body_leaves body).continues
  statements_stand j ts rest body (g.no_statement _ _) = none_stand j
  statements_stand j ts rest body (g.more_statements _ _ us _ first others h hs) =
      both_stand j (leaves first).breaks (body_leaves others).breaks (leaves first).continues (body_leaves others).continues (statement_stands j false ts us first h) (statements_stand j us rest others hs)

  sections_stand : (j : Jumps) (room : ℕ) (ts rest : List Token) (sections : List Section) → Sections j room ts rest sections → Stand j (any_section (map section_leaves sections)).breaks (any_section (map section_leaves sections)).continues
  sections_stand j room ts rest sections (g.no_section _ _ _) = none_stand j
  sections_stand j room ts rest sections (g.more_sections _ _ _ us vs _ labels body others _ _ hs _ more) =
      both_stand j (section_leaves (g.section labels body)).breaks (any_section (map section_leaves others)).breaks (section_leaves (g.section labels body)).continues (any_section (map section_leaves others)).continues
      (subst (λ (z : SectionLeaves). Stand j z.breaks z.continues) (sym (section_leaves_law (g.section labels body) ∙ ap (λ o. section_of (has_default o.labels) (leave.in_order (map leaves o.body))) (out-roll-Section (record { labels = labels; body = body }))))
      (statements_stand j us vs body hs))
      (sections_stand j (room - g.defaults labels) vs rest others more)

-- outside all loops no jump is left
no_truth : (b : Bool) → (b ≡ true → false ≡ true) → b ≡ false
no_truth true h = sym (h refl)
no_truth false h = refl

pub spelled_stay : (ts rest : List Token) (body : List Stmt) → Statements no_jumps ts rest body → ((body_leaves body).breaks ≡ false) × ((body_leaves body).continues ≡ false)
spelled_stay ts rest body hs =
    let k = statements_stand no_jumps ts rest body hs in
    (no_truth (body_leaves body).breaks k.out_may, no_truth (body_leaves body).continues k.on_may)
