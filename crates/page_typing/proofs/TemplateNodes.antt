-- Nodes of templates that break no rule come to parts with types: by recursion on how they are formed.
use Rattle.std.proofs.Common.{◌≡◌, ℕ, ◌+◌, List, [], ◌∷◌, ◌++◌, map, refl, sym, ap, subst, ◌∙◌}
use Rattle.std.specs.Prelude.{Bool, true, false, IsTrue, if◌then◌else◌, Some, None}
use Rattle.std.specs.List.{flat_map}
use Rattle.text_core.specs.declared.place.Place.{Place}
use Rattle.cs_ast.specs.declared.code.Code.TheVariants as c
use Rattle.cs_ast.specs.declared.cs_type.CsType.{CsType}
use Rattle.cs_ast.specs.declared.cs_type.CsType.TheVariants as t
use Rattle.cs_ast.specs.declared.expression.Expr.{Expr}
use Rattle.cs_ast.specs.declared.expression.Stmt.{Stmt}
use Rattle.cs_ast.specs.declared.expression.StmtKind.TheVariants as sk
use Rattle.cs_ast.specs.declared.scope.Scope.{Scope}
use Rattle.cs_effects.specs.declared.deed.Deed.{Deed}
use Rattle.cs_grammar.specs.Statements.{stmt}
use Rattle.cs_rules.specs.declared.checked.Checked.{Checked}
use Rattle.cs_rules.specs.declared.checked.ExprType.{ExprType}
use Rattle.cs_rules.specs.declared.rule.Rule.TheVariants.{LoopJump, TypeMismatch}
use Rattle.cs_rules.specs.Judged.{Judged, fine, breaks, mismatch, ◌>>=◌}
use Rattle.cs_rules.specs.Names.{is_new, with_local}
use Rattle.cs_rules.specs.Expressions.{items_of}
use Rattle.cs_rules.specs.Statements.{decides, constants, done}
use Rattle.cs_rules.specs.Trees.{statement, value_in}
use Rattle.cs_rules.proofs.Laws as law
use Rattle.cs_forbidden.specs.Trees as forbidding
use Rattle.cs_forbidden.proofs.FormLaws as forms
use Rattle.cs_forbidden.proofs.StatementLaws as statements
use Rattle.cs_typing.specs.Types.{Types}
use Rattle.cs_typing.specs.Expressions.{Surroundings, CodeHas}
use Rattle.cs_typing.specs.Statements.{Condition, Stepping}
use Rattle.cs_accepted.specs.Accepted.{IfFine}
use Rattle.cs_accepted.proofs.NameLemmas.{items_fine}
use Rattle.drawing_meaning.specs.Acts.{Act}
use Rattle.drawing_meaning.specs.Nodes as act
use Rattle.drawing_meaning.specs.Turns as turns
use Rattle.razor_ast.specs.Statements.{section, break_at, continue_at}
use Rattle.razor_ast.specs.declared.node.TNode.{TNode, TNode-F}
use Rattle.razor_ast.specs.declared.node.TNode.TheVariants as nd
use Rattle.razor_ast.specs.declared.node.TSection.{TSection}
use Rattle.razor_rules.specs.declared.finding.Broken.{Broken}
use Rattle.razor_rules.specs.Findings.{broken, found}
use Rattle.razor_rules.specs.Elements.{element_rules}
use Rattle.razor_rules.specs.Scopes.{Home}
use Rattle.razor_rules.specs.declared.ground.Ground.{Ground}
use Rattle.razor_rules.specs.Grounds.{in_loop}
use Rattle.razor_rules.specs.Parts as rule_part
use Rattle.razor_rules.specs.Parts.{if_fine, next}
use Rattle.razor_rules.specs.Templates as rule
use Rattle.razor_rules.specs.Templates.{option_list, declared_level, declared_by, test_rules, step_rules, started, item_ground, decided}
use Rattle.razor_rules.specs.Values as rule_value
use Rattle.razor_rules.specs.Values.{value, is_content}
use Rattle.razor_rules.proofs.TemplateLaws as rule_law
use Rattle.page_meaning.specs.Attributes.{dressed}
use Rattle.page_meaning.specs.Nodes as page_node
use Rattle.page_meaning.specs.Nodes.{appears, or_nothing, section_acts, section_of}
use Rattle.page_meaning.specs.Parts as page
use Rattle.page_meaning.specs.Resolved.{Resolves, alone, judged, each, if_there, value_code}
use Rattle.page_meaning.specs.Resolved.{◌>>=◌ as ◌>>>=◌}
use Rattle.page_typing.specs.Acts.{DressesHave, ActHas, ActsHave, SectionsHave}
use Rattle.page_typing.specs.Acts as acts
use Rattle.page_typing.specs.Formed.{IsStart, NoStatement, AttributesFormed, Formed, AllFormed, ContentFormed, SectionsFormed}
use Rattle.page_typing.specs.Formed as formed
use Rattle.page_typing.specs.Homes.{surroundings, HomeFits}
use Rattle.page_typing.specs.Resolving.{Resolved}
use Rattle.page_typing.specs.TemplateScopes.{TemplateScope}
use Rattle.page_typing.specs.TemplateScopes as scope
use Rattle.page_typing.proofs.Capturing.{template_fits}
use Rattle.page_typing.proofs.NarrowExpressions.{like}
use Rattle.page_typing.proofs.NarrowLambdas.{both_fine}
use Rattle.page_typing.proofs.ResolvedParts.{alone_resolved, judged_resolved, after_judged, then_resolved, one_resolved, two_resolved, same_resolved, weaker_resolved}
use Rattle.page_typing.proofs.TemplateAttributes.{dressed_resolved}
use Rattle.page_typing.proofs.TemplateParts.{section_part, part_at, section_at, rule_section_at, found_then_nothing, next_is, acts_append, three_resolved, valued, test_resolved, tests_resolved, steps_resolved, decided_resolved, begun}
use Rattle.page_typing.proofs.TemplateStatements.{Stated, stated}
use Rattle.page_typing.proofs.TemplateValues.{found_nothing, no_first, no_second, test_passed, one_act, content_has}

module _ (home : Home) (types : Types) (components : Bool) (fits : HomeFits types home) where
  abbrev at : Surroundings
  at = surroundings types home

  abbrev Parts : Bool → List CsType → List CsType → List Act → Type 0
  Parts b locals inner all = ActsHave at components b locals inner all

  -- a node, by what it comes to under the rules and as a part of a page
  pub record NodeFits (node : TNode) (r : rule_part.Part) (p : page.Part) (b : Bool) (g : Ground) (locals : List CsType) : Type 0 where
    pub inner : List CsType
    pub after : Scope
    pub makes : Resolved types components (λ all. Parts b locals inner all) (p.makes home g.scope)
    pub behind : p.behind g.scope ≡ fine after
    pub rule_behind : r.behind g ≡ fine after
    pub template : TemplateScope home after inner
    pub same : r.declares ≡ None → after ≡ g.scope
    pub stays : NoStatement node → (inner ≡ locals) × (after ≡ g.scope)

  -- one that declares nothing
  plain : (node : TNode) (place : Place) (does : Deed → Bool) (rules : Ground → List Broken) (p : page.Part) (b : Bool) (g : Ground) (locals : List CsType) → p.behind g.scope ≡ fine g.scope → TemplateScope home g.scope locals → Resolved types components (λ all. Parts b locals locals all) (p.makes home g.scope)
      → NodeFits node (rule_part.plain place does rules) p b g locals
  plain node place does rules p b g locals e template h = record { inner = locals; after = g.scope; makes = h; behind = e; rule_behind = refl; template = template; same = λ none. refl; stays = λ none. (refl, refl) }

  abbrev Claim : TNode → Bool → Ground → List CsType → Type 0
  Claim node b g locals = (rule.part_of home node).rules g ≡ [] → NodeFits node (rule.part_of home node) (page.part_of node) b g locals

  -- by the parts of a node
  by_parts : (node : TNode) (r : rule_part.Part) (p : page.Part) (b : Bool) (g : Ground) (locals : List CsType) → rule.part_of home node ≡ r → page.part_of node ≡ p → (r.rules g ≡ [] → NodeFits node r p b g locals) → Claim node b g locals
  by_parts node r p b g locals is also h =
      subst (λ (z : rule_part.Part). z.rules g ≡ [] → NodeFits node z (page.part_of node) b g locals) (sym is) (subst (λ (z : page.Part). r.rules g ≡ [] → NodeFits node r z b g locals) (sym also) h)

  -- parts one after another
  pub record ManyFit (b : Bool) (locals : List CsType) (j : Resolves (List Act)) : Type 0 where
    pub inner : List CsType
    pub all : Resolved types components (λ acts. Parts b locals inner acts) j

  -- a `break` may stand there
  abbrev May : Bool → Bool → Ground → Type 0
  May j b g = g.in_switch ≡ true → j ≡ true → IsTrue b

  abbrev rule_parts : List TNode → List rule_part.Part
  rule_parts nodes = map (rule.part_of home) nodes

  abbrev page_parts : List TNode → List page.Part
  page_parts nodes = map page.part_of nodes

  -- one part and those behind it
  both_fit : (b : Bool) (locals between inner : List CsType) (s after : Scope) (one : page.Part) (others : List page.Part) → Resolved types components (λ all. Parts b locals between all) (one.makes home s) → one.behind s ≡ fine after → Resolved types components (λ all. Parts b between inner all) (page.in_order others home after)
      → Resolved types components (λ all. Parts b locals inner all) (page.in_order (one ∷ others) home s)
  both_fit b locals between inner s after one others r e k =
      then_resolved types components (λ all. Parts b locals between all) (λ all. (more : List Act) × (all ≡ r.it.made ++ more) × Parts b between inner more) (λ all. Parts b locals inner all) (one.makes home s) (λ all. (judged (one.behind s) >>>= λ z. (page.in_order others home z >>>= λ more. alone (all ++ more)))) r
      (after_judged types components (λ all. (more : List Act) × (all ≡ r.it.made ++ more) × Parts b between inner more) (one.behind s) after (λ z. (page.in_order others home z >>>= λ more. alone (r.it.made ++ more))) e
      (one_resolved types components (λ all. Parts b between inner all) (λ all. (more : List Act) × (all ≡ r.it.made ++ more) × Parts b between inner more) (page.in_order others home after) (λ more. r.it.made ++ more) k (λ more h. (more, refl, h))))
      (λ all p m. subst (λ z. Parts b locals inner z) (sym m.1) (acts_append at components b locals between inner r.it.made m.0 p m.2))

  -- what is behind a part
  next_rules : (r : rule_part.Part) (others : List rule_part.Part) (g : Ground) (after : Scope) → r.behind g ≡ fine after → r.rules g ++ if_fine (r.behind g) (λ s. rule_part.in_order others (next r.declares others g s)) ≡ [] → rule_part.in_order others (next r.declares others g after) ≡ []
  next_rules r others g after e h = sym (ap (λ j. if_fine j (λ s. rule_part.in_order others (next r.declares others g s))) e) ∙ no_second (r.rules g) _ h

  -- an act that comes from one judgement
  abbrev One : Bool → List CsType → List Act → Type 0
  One b locals all = Parts b locals locals all

  content_resolved : (b : Bool) (g : Ground) (locals : List CsType) (number : ℕ) (a : Expr) → TemplateScope home g.scope locals → found (rule_value.content g a) ≡ [] → Resolved types components (One b locals) (page_node.content number a home g.scope)
  unfolding rule_value.content page_node.content
  content_resolved b g locals number a template e =
      let none = found_nothing (rule_value.content g a) e in
      let one = both_fine (value g a) (λ x. if is_content x.expr_type then fine (tt {0}) else mismatch x.place) none.0 none.1 in
      let v = valued home types components fits g locals a one.0 template one.1 in
      let shown = content_has at locals one.0.expr_type v.code (test_passed (is_content one.0.expr_type) TypeMismatch one.0.place none.0 one.2) v.has in
      one_resolved types components (λ x. x ≡ like one.0 v.code) (One b locals) (judged (value_in g.scope a)) (λ x. act.content number (appears x.expr_type) x.code ∷ []) (judged_resolved types components (λ x. x ≡ like one.0 v.code) (value_in g.scope a) (like one.0 v.code) v.is refl)
      (λ x is. subst (λ (z : Checked). One b locals (act.content number (appears z.expr_type) z.code ∷ [])) (sym is) (one_act at components b locals locals (act.content number (appears one.0.expr_type) v.code) (acts.content b locals number shown.type (appears one.0.expr_type) v.code shown.appears_so shown.has)))

  -- a statement
  statement_fits : (b : Bool) (g : Ground) (locals : List CsType) (one : Stmt) → Stated home types fits g locals one → NodeFits (nd.Statement one) (rule.statement_part one) (record (page.plain (λ deed. false) (page_node.plain_statement one)) { behind = page.behind_statement one }) b g locals
  unfolding page_node.plain_statement
  statement_fits b g locals one s =
      record {
        inner = s.inner;
        after = s.after;
        makes =
            same_resolved types components (λ all. Parts b locals s.inner all) (page_node.plain_statement one home g.scope) (judged (statement one g.scope) >>>= λ it. alone (act.statement it.code ∷ [])) s.level
            (after_judged types components (λ all. Parts b locals s.inner all) (statement one g.scope) (done s.after s.code) (λ it. alone (act.statement it.code ∷ [])) s.means
            (alone_resolved types components (λ all. Parts b locals s.inner all) (act.statement s.code ∷ []) (one_act at components b locals s.inner (act.statement s.code) (acts.statement b locals s.inner s.code s.has))));
        behind = ap page.scope_behind s.means;
        rule_behind = s.forbids;
        template = s.template;
        same = s.same;
        stays = λ none. absurd (none one refl);
      }

  -- a `break`
  break_fits : (b : Bool) (g : Ground) (locals : List CsType) (place : Place) (p : page.Part) → (p.makes home g.scope ≡ page_node.plain_statement (stmt place sk.Break) home g.scope) → (p.behind g.scope ≡ page.behind_statement (stmt place sk.Break) g.scope) → TemplateScope home g.scope locals → IsTrue b → NodeFits (break_at place) (rule.statement_part (stmt place sk.Break)) p b g locals
  unfolding page_node.plain_statement
  break_fits b g locals place p is also template may =
      let one : Stmt = stmt place sk.Break in
      let forbids : forbidding.statement g.forbidden one g.scope ≡ fine (done g.scope c.Break) = ap (λ f. f g.scope) (forms.statement_law g.forbidden one) ∙ statements.break_statement g.forbidden place g.scope in
      let rules : statement one g.scope ≡ fine (done g.scope c.Break) = ap (λ f. f g.scope) (law.statement_law one) ∙ law.break_statement place g.scope in
      record {
        inner = locals;
        after = g.scope;
        makes =
            same_resolved types components (One b locals) (p.makes home g.scope) (alone (act.break_out ∷ [])) (is ∙ ap (λ l. page_node.statement_level l one g.scope) sk.outs-Break)
            (alone_resolved types components (One b locals) (act.break_out ∷ []) (one_act at components b locals locals act.break_out (acts.break_out b locals may)));
        behind = also ∙ ap page.scope_behind rules;
        rule_behind = ap (λ j. j >>= λ it. fine it.scope) forbids;
        template = template;
        same = λ none. refl;
        stays = λ none. absurd (none one refl);
      }

  in_switch_only : (g : Ground) (place : Place) → (if g.in_switch then [] else broken LoopJump place ∷ []) ≡ [] → g.in_switch ≡ true
  in_switch_only g place e = by g.in_switch e
    where
      by : (c : Bool) → (if c then [] else broken LoopJump place ∷ []) ≡ [] → c ≡ true
      by true e1 = refl
      by false e1 = absurd (cc)

  no_jump : (x : Broken) → x ∷ [] ≡ [] → ⊥
  no_jump x e = absurd (cc)

  abbrev scope_of : Ground → Judged Ground → Scope
  scope_of g (fine it) = it.scope
  scope_of g (breaks rule1 place) = g.scope

  -- no `break` leads out of content
  mutual
    wider_act : (b : Bool) (locals inner : List CsType) (one : Act) → ActHas at components false locals inner one → ActHas at components b locals inner one
    wider_act b locals inner one (acts.element _ _ number name attributes children hd hc) = acts.element b locals number name attributes children hd hc
    wider_act b locals inner one (acts.text _ _ number said) = acts.text b locals number said
    wider_act b locals inner one (acts.raw _ _ number said) = acts.raw b locals number said
    wider_act b locals inner one (acts.content _ _ number type appears_so a ha h) = acts.content b locals number type appears_so a ha h
    wider_act b locals inner one (acts.statement _ _ _ a h) = acts.statement b locals inner a h
    wider_act b locals inner one (acts.break_out _ _ h) = absurd (cc)
    wider_act b locals inner one (acts.block _ _ within all h) = acts.block b locals within all (wider_acts b locals within all h)
    wider_act b locals inner one (acts.branch _ _ within other_within test first other ht h1 h2) = acts.branch b locals within other_within test first other ht (wider_acts b locals within first h1) (wider_acts b locals other_within other h2)
    wider_act b locals inner one (acts.switch _ _ type a sections ha hs) = acts.switch b locals type a sections ha hs
    wider_act b locals inner one (acts.while_loop _ _ within number test keyed body ht h) = acts.while_loop b locals within number test keyed body ht h
    wider_act b locals inner one (acts.for_loop _ _ begun_types within number start test step keyed body hs ht hp h) = acts.for_loop b locals begun_types within number start test step keyed body hs ht hp h
    wider_act b locals inner one (acts.for_each _ _ within type number list keyed body hl h) = acts.for_each b locals within type number list keyed body hl h
    wider_act b locals inner one (acts.component _ _ number made parts may h) = acts.component b locals number made parts may h

    wider_acts : (b : Bool) (locals inner : List CsType) (all : List Act) → ActsHave at components false locals inner all → ActsHave at components b locals inner all
    wider_acts b locals inner all (acts.none _ _) = acts.none b locals
    wider_acts b locals inner all (acts.more _ _ between _ one others h hs) = acts.more b locals between inner one others (wider_act b locals between one h) (wider_acts b between inner others hs)

  wider : (b : Bool) (locals : List CsType) (j : Resolves (List Act)) → Resolved types components (One false locals) j → Resolved types components (One b locals) j
  wider b locals j r = weaker_resolved types components (One false locals) (One b locals) j (λ all h. wider_acts b locals locals all h) r

  mutual
    unfolding page_node.element page_node.text page_node.raw page_node.block page_node.branch page_node.switch page_node.while_loop page_node.for_loop page_node.for_each page_node.plain_statement

    walk : (j b : Bool) (n m : ℕ) (node : TNode) (g : Ground) (locals : List CsType) → Formed j n m node → TemplateScope home g.scope locals → May j b g → Claim node b g locals
    walk j b n m node g locals (formed.element _ _ i _ place name attributes children ha hc) template may =
        by_parts (nd.Element n place name attributes children) _ _ b g locals (rule_law.part_at home (nd.Element n place name attributes children) (TNode-F.Element n place name attributes children) (nd.rolls-Element n place name attributes children)) (part_at (nd.Element n place name attributes children) (TNode-F.Element n place name attributes children) (nd.rolls-Element n place name attributes children))
        (λ e. plain (nd.Element n place name attributes children) place _ _ _ b g locals refl template
        (two_resolved types components (λ all. DressesHave at locals all) (One false locals) (One b locals) (dressed home g.scope name.name attributes) (page.in_order (page_parts children) home g.scope) (λ worn inside. act.element n name.name worn inside ∷ [])
        (dressed_resolved home types components fits g locals template name.name attributes (n + 1) i ha (no_first (element_rules home name.name attributes g) _ e))
        (walk_content i m children g locals hc template (no_second (element_rules home name.name attributes g) _ e))
        (λ worn inside p q. one_act at components b locals locals (act.element n name.name worn inside) (acts.element b locals n name.name worn inside p q))))
    walk j b n m node g locals (formed.text _ _ place said) template may =
        by_parts (nd.Text n place said) _ _ b g locals (rule_law.part_at home (nd.Text n place said) (TNode-F.Text n place said) (nd.rolls-Text n place said)) (part_at (nd.Text n place said) (TNode-F.Text n place said) (nd.rolls-Text n place said))
        (λ e. record { inner = locals; after = g.scope; makes = alone_resolved types components (One b locals) (act.text n said ∷ []) (one_act at components b locals locals (act.text n said) (acts.text b locals n said)); behind = refl; rule_behind = refl; template = template; same = λ none. refl; stays = λ none. (refl, refl) })
    walk j b n m node g locals (formed.raw _ _ place said) template may =
        by_parts (nd.Raw n place said) _ _ b g locals (rule_law.part_at home (nd.Raw n place said) (TNode-F.Raw n place said) (nd.rolls-Raw n place said)) (part_at (nd.Raw n place said) (TNode-F.Raw n place said) (nd.rolls-Raw n place said))
        (λ e. record { inner = locals; after = g.scope; makes = alone_resolved types components (One b locals) (act.raw n said ∷ []) (one_act at components b locals locals (act.raw n said) (acts.raw b locals n said)); behind = refl; rule_behind = refl; template = template; same = λ none. refl; stays = λ none. (refl, refl) })
    walk j b n m node g locals (formed.shown _ _ place a) template may =
        by_parts (nd.Content n place a) _ _ b g locals (rule_law.part_at home (nd.Content n place a) (TNode-F.Content n place a) (nd.rolls-Content n place a)) (part_at (nd.Content n place a) (TNode-F.Content n place a) (nd.rolls-Content n place a))
        (λ e. plain (nd.Content n place a) place _ _ _ b g locals refl template (content_resolved b g locals n a template e))
    walk j b n m node g locals (formed.group _ _ _ place items hc) template may =
        by_parts (nd.Group place items) _ _ b g locals (rule_law.part_at home (nd.Group place items) (TNode-F.Group place items) (nd.rolls-Group place items)) (part_at (nd.Group place items) (TNode-F.Group place items) (nd.rolls-Group place items))
        (λ e. plain (nd.Group place items) place _ _ _ b g locals refl template (wider b locals (page.in_order (page_parts items) home g.scope) (walk_content n m items g locals hc template e)))
    walk j b n m node g locals (formed.simple _ _ one h) template may =
        by_parts (nd.Statement one) _ _ b g locals (rule_law.part_at home (nd.Statement one) (TNode-F.Statement one) (nd.rolls-Statement one)) (part_at (nd.Statement one) (TNode-F.Statement one) (nd.rolls-Statement one))
        (λ e. let k = statement_fits b g locals one (stated home types fits g locals one h template e) in
        record { inner = k.inner; after = k.after; makes = k.makes; behind = k.behind; rule_behind = k.rule_behind; template = k.template; same = k.same; stays = k.stays })
    walk j b n m node g locals (formed.break_out _ _ place h) template may =
        by_parts (break_at place) _ _ b g locals (rule_law.part_at home (break_at place) (TNode-F.Statement (stmt place sk.Break)) (nd.rolls-Statement (stmt place sk.Break))) (part_at (break_at place) (TNode-F.Statement (stmt place sk.Break)) (nd.rolls-Statement (stmt place sk.Break)))
        (λ e. break_fits b g locals place _ refl refl template (may (in_switch_only g place (sym (ap (λ l. rule.statement_level l (stmt place sk.Break) g) sk.outs-Break) ∙ e)) h))
    walk j b n m node g locals (formed.go_on _ _ place) template may =
        by_parts (continue_at place) _ _ b g locals (rule_law.part_at home (continue_at place) (TNode-F.Statement (stmt place sk.Continue)) (nd.rolls-Statement (stmt place sk.Continue))) (part_at (continue_at place) (TNode-F.Statement (stmt place sk.Continue)) (nd.rolls-Statement (stmt place sk.Continue)))
        (λ e. let k = sym (ap (λ l. rule.statement_level l (stmt place sk.Continue) g) sk.outs-Continue) ∙ e in absurd (no_jump (broken LoopJump place) k))
    walk j b n m node g locals (formed.block _ _ _ place items h) template may =
        by_parts (nd.Block place items) _ _ b g locals (rule_law.part_at home (nd.Block place items) (TNode-F.Block place items) (nd.rolls-Block place items)) (part_at (nd.Block place items) (TNode-F.Block place items) (nd.rolls-Block place items))
        (λ e. let k = walk_all j b n m items g locals h template may e in
        record { inner = locals; after = g.scope; makes = one_resolved types components (λ all. Parts b locals k.inner all) (One b locals) (page.in_order (page_parts items) home g.scope) (λ all. act.block all ∷ []) k.all (λ all p. one_act at components b locals locals (act.block all) (acts.block b locals k.inner all p)); behind = refl; rule_behind = refl; template = template; same = λ none. refl; stays = λ none. (refl, refl) })
    walk j b n m node g locals (formed.if_only _ _ _ place a holds h) template may =
        by_parts (nd.If place a holds None) _ _ b g locals (rule_law.part_at home (nd.If place a holds None) (TNode-F.If place a holds None) (nd.rolls-If place a holds None)) (part_at (nd.If place a holds None) (TNode-F.If place a holds None) (nd.rolls-If place a holds None))
        (λ e. let k = walk j b n m holds g locals h template may (no_second (test_rules a g) ((rule.part_of home holds).rules g) (no_first (test_rules a g ++ (rule.part_of home holds).rules g) [] e)) in
        plain (nd.If place a holds None) place _ _ _ b g locals refl template
        (three_resolved types components (λ code. CodeHas at locals t.Bool code) (λ all. Parts b locals k.inner all) (λ all. Parts b locals locals all) (One b locals) (value_code g.scope a) ((page.part_of holds).makes home g.scope) (or_nothing None home g.scope) (λ code one other. act.branch code one other ∷ [])
        (test_resolved home types components fits g locals a template (no_first (test_rules a g) ((rule.part_of home holds).rules g) (no_first (test_rules a g ++ (rule.part_of home holds).rules g) [] e))) k.makes (alone_resolved types components (λ all. Parts b locals locals all) [] (acts.none b locals))
        (λ code one other p q r. one_act at components b locals locals (act.branch code one other) (acts.branch b locals k.inner locals code one other p q r))))
    walk j b n m node g locals (formed.if_else _ _ i _ place a holds fails h1 h2) template may =
        by_parts (nd.If place a holds (Some fails)) _ _ b g locals (rule_law.part_at home (nd.If place a holds (Some fails)) (TNode-F.If place a holds (Some fails)) (nd.rolls-If place a holds (Some fails))) (part_at (nd.If place a holds (Some fails)) (TNode-F.If place a holds (Some fails)) (nd.rolls-If place a holds (Some fails)))
        (λ e. let k = walk j b n i holds g locals h1 template may (no_second (test_rules a g) ((rule.part_of home holds).rules g) (no_first (test_rules a g ++ (rule.part_of home holds).rules g) ((rule.part_of home fails).rules g ++ []) e)) in
        let l = walk j b i m fails g locals h2 template may (no_first ((rule.part_of home fails).rules g) [] (no_second (test_rules a g ++ (rule.part_of home holds).rules g) ((rule.part_of home fails).rules g ++ []) e)) in
        plain (nd.If place a holds (Some fails)) place _ _ _ b g locals refl template
        (three_resolved types components (λ code. CodeHas at locals t.Bool code) (λ all. Parts b locals k.inner all) (λ all. Parts b locals l.inner all) (One b locals) (value_code g.scope a) ((page.part_of holds).makes home g.scope) ((page.part_of fails).makes home g.scope) (λ code one other. act.branch code one other ∷ [])
        (test_resolved home types components fits g locals a template (no_first (test_rules a g) ((rule.part_of home holds).rules g) (no_first (test_rules a g ++ (rule.part_of home holds).rules g) ((rule.part_of home fails).rules g ++ []) e))) k.makes l.makes
        (λ code one other p q r. one_act at components b locals locals (act.branch code one other) (acts.branch b locals k.inner l.inner code one other p q r))))
    walk j b n m node g locals (formed.switch _ _ _ place a sections h) template may =
        by_parts (nd.Switch place a sections) _ _ b g locals (rule_law.part_at home (nd.Switch place a sections) (TNode-F.Switch place a sections) (nd.rolls-Switch place a sections)) (part_at (nd.Switch place a sections) (TNode-F.Switch place a sections) (nd.rolls-Switch place a sections))
        (λ e. let type = found_then_nothing (decided a g) _ e in
        let one = both_fine (value g a) (λ x. if decides x.expr_type then fine x.expr_type else mismatch x.place) type.0 type.1 in
        plain (nd.Switch place a sections) place _ _ _ b g locals refl template
        (two_resolved types components (λ code. (type : CsType) × CodeHas at locals type code) (λ all. SectionsHave at components locals all) (One b locals) (value_code g.scope a) (each (section_acts home g.scope) (map (λ (one : page.Part_of_switch). one.section) (map section_part sections))) (λ code all. act.switch code all ∷ [])
        (decided_resolved home types components fits g locals a one.0 template one.1) (walk_sections n m sections g locals type.0 h template type.2)
        (λ code all p q. one_act at components b locals locals (act.switch code all) (acts.switch b locals p.0 code all p.1 q))))
    walk j b n m node g locals (formed.while_loop _ _ _ place a turn h) template may =
        by_parts (nd.While n place a turn) _ _ b g locals (rule_law.part_at home (nd.While n place a turn) (TNode-F.While n place a turn) (nd.rolls-While n place a turn)) (part_at (nd.While n place a turn) (TNode-F.While n place a turn) (nd.rolls-While n place a turn))
        (λ e. let k = walk true false (n + 1) m turn (in_loop g) locals h template (λ off on. absurd (cc)) (no_second (test_rules a g) _ e) in
        plain (nd.While n place a turn) place _ _ _ b g locals refl template
        (two_resolved types components (λ code. CodeHas at locals t.Bool code) (λ all. Parts false locals k.inner all) (One b locals) (value_code g.scope a) ((page.part_of turn).makes home g.scope) (λ code all. turns.while_loop n code (page.part_of turn).turn_key all ∷ [])
        (test_resolved home types components fits g locals a template (no_first (test_rules a g) _ e)) k.makes
        (λ code all p q. one_act at components b locals locals (turns.while_loop n code (page.part_of turn).turn_key all) (acts.while_loop b locals k.inner n code (page.part_of turn).turn_key all p q))))
    walk j b n m node g locals (formed.for_loop _ _ _ place start test step turn kinds h) template may =
        by_parts (nd.For n place start test step turn) _ _ b g locals (rule_law.part_at home (nd.For n place start test step turn) (TNode-F.For n place start test step turn) (nd.rolls-For n place start test step turn)) (part_at (nd.For n place start test step turn) (TNode-F.For n place start test step turn) (nd.rolls-For n place start test step turn))
        (λ e. let inner = found_then_nothing (started start g) _ e in
        let s = begun home types components fits g locals start inner.0 kinds template inner.1 in
        let heads = no_first (flat_map (λ one. test_rules one inner.0) (option_list test) ++ flat_map (λ one. step_rules one inner.0) (option_list step)) _ inner.2 in
        let k = walk true false (n + 1) m turn (in_loop inner.0) s.within h s.template (λ off on. absurd (cc)) (no_second (flat_map (λ one. test_rules one inner.0) (option_list test) ++ flat_map (λ one. step_rules one inner.0) (option_list step)) _ inner.2) in
        plain (nd.For n place start test step turn) place _ _ _ b g locals refl template
        (after_judged types components (One b locals) _ (s.code, inner.0.scope) _ s.is
        (three_resolved types components (λ o. Condition at s.within o) (λ o. Stepping at s.within o) (λ all. Parts false s.within k.inner all) (One b locals) (if_there (value_code inner.0.scope) test) (if_there (value_code inner.0.scope) step) ((page.part_of turn).makes home inner.0.scope) (λ code next all. turns.for_loop n s.code code next (page.part_of turn).turn_key all ∷ [])
        (tests_resolved home types components fits inner.0 s.within test s.template (no_first (flat_map (λ one. test_rules one inner.0) (option_list test)) (flat_map (λ one. step_rules one inner.0) (option_list step)) heads)) (steps_resolved home types components fits inner.0 s.within step s.template (no_second (flat_map (λ one. test_rules one inner.0) (option_list test)) (flat_map (λ one. step_rules one inner.0) (option_list step)) heads)) k.makes
        (λ code next all p q r. one_act at components b locals locals (turns.for_loop n s.code code next (page.part_of turn).turn_key all) (acts.for_loop b locals s.within k.inner n s.code code next (page.part_of turn).turn_key all s.has p q r)))))
    walk j b n m node g locals (formed.for_each _ _ _ place name list turn h) template may =
        by_parts (nd.ForEach n place name list turn) _ _ b g locals (rule_law.part_at home (nd.ForEach n place name list turn) (TNode-F.ForEach n place name list turn) (nd.rolls-ForEach n place name list turn)) (part_at (nd.ForEach n place name list turn) (TNode-F.ForEach n place name list turn) (nd.rolls-ForEach n place name list turn))
        (λ e. let inner = found_then_nothing (item_ground name list (rule.part_of home turn) g) _ e in
        let new = both_fine (is_new g.scope name) _ inner.0 inner.1 in
        let x = both_fine (value g list) _ inner.0 new.2 in
        let item = both_fine (items_of x.0.place x.0.expr_type) _ inner.0 x.2 in
        let v = valued home types components fits g locals list x.0 template x.1 in
        let scope_is : with_local g.scope name.name item.0 ≡ inner.0.scope = ap (λ (j1 : Judged Ground). scope_of g j1) item.2 in
        let listed : CodeHas at locals (t.List item.0) v.code = subst (λ j1. IfFine (λ type. CodeHas at locals (t.List type) v.code) j1) item.1 (items_fine at locals g.scope (template_fits home (λ deed. false) at g.scope locals fits.members template) x.0.place x.0.expr_type v.code v.has) in
        let inside : TemplateScope home inner.0.scope (locals ++ item.0 ∷ []) = subst (λ z. TemplateScope home z (locals ++ item.0 ∷ [])) scope_is (scope.declared g.scope locals name.name item.0 template) in
        let k = walk true false (n + 1) m turn (in_loop inner.0) (locals ++ item.0 ∷ []) h inside (λ off on. absurd (cc)) inner.2 in
        plain (nd.ForEach n place name list turn) place _ _ _ b g locals refl template
        (after_judged types components (One b locals) (value_in g.scope list) (like x.0 v.code) _ v.is
        (after_judged types components (One b locals) (items_of x.0.place x.0.expr_type) item.0 _ item.1
        (one_resolved types components (λ all. Parts false (locals ++ item.0 ∷ []) k.inner all) (One b locals) ((page.part_of turn).makes home (with_local g.scope name.name item.0)) (λ all. turns.for_each n v.code (page.part_of turn).turn_key all ∷ [])
        (subst (λ z. Resolved types components (λ all. Parts false (locals ++ item.0 ∷ []) k.inner all) ((page.part_of turn).makes home z)) (sym scope_is) k.makes)
        (λ all p. one_act at components b locals locals (turns.for_each n v.code (page.part_of turn).turn_key all) (acts.for_each b locals k.inner item.0 n v.code (page.part_of turn).turn_key all listed p))))))

    -- parts of code with markup
    walk_all : (j b : Bool) (n m : ℕ) (nodes : List TNode) (g : Ground) (locals : List CsType) → AllFormed j n m nodes → TemplateScope home g.scope locals → May j b g → rule_part.in_order (rule_parts nodes) g ≡ [] → ManyFit b locals (page.in_order (page_parts nodes) home g.scope)
    walk_all j b n m nodes g locals (formed.none _ _) template may e = record { inner = locals; all = alone_resolved types components (One b locals) [] (acts.none b locals) }
    walk_all j b n m nodes g locals (formed.more _ _ i _ one others h hs) template may e =
        let k = walk j b n i one g locals h template may (no_first ((rule.part_of home one).rules g) _ e) in
        let further : Ground = next (rule.part_of home one).declares (rule_parts others) g k.after in
        let is = next_is (rule.part_of home one).declares (rule_parts others) g k.after k.same in
        let more = walk_all j b i m others further k.inner hs (subst (λ z. TemplateScope home z k.inner) (sym is.0) k.template) (λ on. may (sym is.1 ∙ on)) (next_rules (rule.part_of home one) (rule_parts others) g k.after k.rule_behind e) in
        record { inner = more.inner; all = both_fit b locals k.inner more.inner g.scope k.after (page.part_of one) (page_parts others) k.makes k.behind (subst (λ z. Resolved types components (λ all. Parts b k.inner more.inner all) (page.in_order (page_parts others) home z)) is.0 more.all) }

    -- content
    walk_content : (n m : ℕ) (nodes : List TNode) (g : Ground) (locals : List CsType) → ContentFormed n m nodes → TemplateScope home g.scope locals → rule_part.in_order (rule_parts nodes) g ≡ [] → Resolved types components (One false locals) (page.in_order (page_parts nodes) home g.scope)
    walk_content n m nodes g locals (formed.no_content _) template e = alone_resolved types components (One false locals) [] (acts.none false locals)
    walk_content n m nodes g locals (formed.some_content _ i _ one others none h hs) template e =
        let k = walk false false n i one g locals h template (λ off on. absurd (cc)) (no_first ((rule.part_of home one).rules g) _ e) in
        let stay = k.stays none in
        let further : Ground = next (rule.part_of home one).declares (rule_parts others) g k.after in
        let is = next_is (rule.part_of home one).declares (rule_parts others) g k.after k.same in
        let more = walk_content i m others further locals hs (subst (λ z. TemplateScope home z locals) (sym (is.0 ∙ stay.1)) template) (next_rules (rule.part_of home one) (rule_parts others) g k.after k.rule_behind e) in
        both_fit false locals locals locals g.scope g.scope (page.part_of one) (page_parts others) (subst (λ z. Resolved types components (λ all. Parts false locals z all) ((page.part_of one).makes home g.scope)) stay.0 k.makes) (k.behind ∙ ap fine stay.1)
        (subst (λ z. Resolved types components (One false locals) (page.in_order (page_parts others) home z)) (is.0 ∙ stay.1) more)

    -- sections of a `switch`
    walk_sections : (n m : ℕ) (sections : List TSection) (g : Ground) (locals : List CsType) (type : ExprType) → SectionsFormed n m sections → TemplateScope home g.scope locals → flat_map (λ (one : rule_part.Part_of_switch). one.rules type g) (map (rule.part_of_section home) sections) ≡ []
        → Resolved types components (λ all. SectionsHave at components locals all) (each (section_acts home g.scope) (map (λ (one : page.Part_of_switch). one.section) (map section_part sections)))
    walk_sections n m sections g locals type (formed.no_section _) template e = alone_resolved types components (λ all. SectionsHave at components locals all) [] (acts.no_section locals)
    walk_sections n m sections g locals type (formed.a_section _ i _ labels items others h hs) template e =
        let first : rule.section_rules labels (rule_parts items) type g ≡ [] = sym (ap (λ (z : rule_part.Part_of_switch). z.rules type g) (rule_section_at home labels items)) ∙ no_first ((rule.part_of_section home (section labels items)).rules type g) _ e in
        let k = walk_all true true n i items (record g { in_switch = true }) locals h template (λ on also. refl) (no_second (found (constants type labels)) _ first) in
        subst (λ (z : page.Part_of_switch). Resolved types components (λ all. SectionsHave at components locals all) (each (section_acts home g.scope) (z.section ∷ map (λ (one : page.Part_of_switch). one.section) (map section_part others)))) (sym (section_at labels items))
        (two_resolved types components (λ one. Parts true locals k.inner one.statements) (λ all. SectionsHave at components locals all) (λ all. SectionsHave at components locals all) (section_acts home g.scope (section_of labels (page.in_order (page_parts items)))) (each (section_acts home g.scope) (map (λ (one : page.Part_of_switch). one.section) (map section_part others))) (λ y ys. y ∷ ys)
        (one_resolved types components (λ all. Parts true locals k.inner all) (λ one. Parts true locals k.inner one.statements) (page.in_order (page_parts items) home g.scope) _ k.all (λ all p. p))
        (walk_sections i m others g locals type hs template (no_second ((rule.part_of_section home (section labels items)).rules type g) _ e))
        (λ y ys p q. acts.section locals k.inner y ys p q))

  pub nodes_fit : (n m : ℕ) (nodes : List TNode) (g : Ground) → ContentFormed n m nodes → TemplateScope home g.scope [] → rule_part.in_order (rule_parts nodes) g ≡ [] → Resolved types components (One false []) (page.in_order (page_parts nodes) home g.scope)
  nodes_fit n m nodes g h template e = walk_content n m nodes g [] h template e
