-- Each statement that tokens of a text spell is printed so that it is spelled again.
use Rattle.std.proofs.Common.{ℕ, ◌≤◌, ◌-◌, List, ◌∷◌, ◌++◌, true, false, sym, ap, subst}
use Rattle.std.specs.Prelude.{Bool}
use Rattle.cs_ast.specs.declared.expression.Label.{Label}
use Rattle.cs_ast.specs.declared.expression.Section.{Section}
use Rattle.cs_ast.specs.declared.expression.Stmt.{Stmt}
use Rattle.cs_token.specs.declared.token.Token.{Token}
use Rattle.cs_grammar.specs.Statements.{stmt, section, Jumps, in_loop, in_switch, Statement, Statements, Sections, Leaves, defaults}
use Rattle.cs_grammar.specs.Statements as g
use Rattle.cs_print.specs.Alike as al
use Rattle.cs_print.proofs.PrintedLaws as law
use Rattle.cs_print.proofs.CodeKinds.{IsLexeme}
use Rattle.cs_print.proofs.CodeKinds as c
use Rattle.cs_print.proofs.ReadLemmas.{Prints, prints_as, parted, AreProper, later, lexeme}
use Rattle.cs_print.proofs.ExpressionsAgain.{expression}
use Rattle.cs_print.proofs.SimpleAgain.{simple, starting, condition, stepping}
use Rattle.cs_print.proofs.LabelsAgain.{ReadsLabels, labels_kinds, labels, defaults_alike}
use Rattle.cs_print.proofs.StatementForms.{StatementAgain, StatementsAgain, SectionsAgain, ReadsSections, body_kinds, sections_kinds, no_statements, more_statements, simple_again, empty_again, block_again, if_alone_again, if_else_again, while_again, for_again, foreach_again, switch_again, await_again, break_again, continue_again, return_again, no_sections}
use Rattle.cs_print.proofs.LookLemmas.{leaves_alike}

pub record FoundStatement (j : Jumps) (f : Bool) (a : Stmt) (rest : List Token) : Type 0 where
  pub again : StatementAgain j f a
  pub proper : AreProper rest

pub record FoundStatements (j : Jumps) (body : List Stmt) (rest : List Token) : Type 0 where
  pub again : StatementsAgain j body
  pub proper : AreProper rest

record FoundSections (j : Jumps) (room : ℕ) (sections : List Section) (rest : List Token) : Type 0 where
  again : SectionsAgain j room sections
  proper : AreProper rest

-- one section more
more_sections : (j : Jumps) (room : ℕ) (ls : List Label) (body : List Stmt) (others : List Section) → Prints (ReadsLabels ls) (labels_kinds ls) → defaults ls ≤ room
    → StatementsAgain j body → Leaves body → SectionsAgain j (room - defaults ls) others → SectionsAgain j room (section ls body ∷ others)
more_sections j room ls body others h fits i leaves more =
    prints_as (ReadsSections j room (section ls body ∷ others)) ((labels_kinds ls ++ body_kinds body) ++ sections_kinds others) _
    (ap (λ x. x ++ sections_kinds others) (sym (law.section_of ls body))) (record {
      code = c.join _ _ (c.join (labels_kinds ls) _ h.code i.code) more.code;
      reads = λ ts rest are.
          let one = parted (labels_kinds ls ++ body_kinds body) (sections_kinds others) ts rest are in
          let two = parted (labels_kinds ls) (body_kinds body) ts one.us one.front in
          let x = h.reads ts two.us two.front in
          let y = i.reads two.us one.us two.behind in
          let z = more.reads one.us rest one.behind in
          let same = defaults_alike ls x.others x.alike in
          record {
            trees = section x.others y.trees ∷ z.trees;
            spelled = g.more_sections j room ts two.us one.us rest x.others y.trees z.trees x.spelled (subst (λ n. n ≤ room) same fits) y.spelled (leaves_alike body y.trees leaves y.alike)
                (subst (λ n. Sections j (room - n) one.us rest z.trees) same z.spelled);
            alike = al.one_section (section ls body) (section x.others y.trees) others z.trees (al.alike_sections ls x.others body y.trees x.alike y.alike) z.alike;
          };
    })

mutual
  pub statement : (j : Jumps) (f : Bool) (ts rest : List Token) (a : Stmt) → Statement j f ts rest a → AreProper ts → FoundStatement j f a rest
  statement _ _ _ _ _ (g.simple j f p d ts rest kind is ends) known =
      let x = simple p ts (d ∷ rest) kind is known in
      record { again = simple_again j f p kind x.ks x.is x.again; proper = later d rest x.proper }
  statement _ _ _ _ _ (g.empty j f d rest is) known = record { again = empty_again j f d.place; proper = later d rest known }
  statement _ _ _ _ _ (g.block j f o d ts rest body opens inner closes) known =
      let x = statements j ts (d ∷ rest) body inner (later o ts known) in
      record { again = block_again j f o.place body x.again; proper = later d rest x.proper }
  statement _ _ _ _ _ (g.if_alone j p t o d ts us rest a holds is opens test closes body) known =
      let x = expression 0 p ts (d ∷ us) a test (later o ts (later t (o ∷ ts) known)) in
      let y = statement j false us rest holds body (later d us x.proper) in
      record { again = if_alone_again j t.place a holds x.again y.again; proper = y.proper }
  statement _ _ _ _ _ (g.if_else j f p t o d e ts us vs rest a holds fails is opens test closes body otherwise last) known =
      let x = expression 0 p ts (d ∷ us) a test (later o ts (later t (o ∷ ts) known)) in
      let y = statement j true us (e ∷ vs) holds body (later d us x.proper) in
      let z = statement j f vs rest fails last (later e vs y.proper) in
      record { again = if_else_again j f t.place a holds fails x.again y.again z.again; proper = z.proper }
  statement _ _ _ _ _ (g.while_ j f p t o d ts us rest a body is opens test closes inner) known =
      let x = expression 0 p ts (d ∷ us) a test (later o ts (later t (o ∷ ts) known)) in
      let y = statement in_loop f us rest body inner (later d us x.proper) in
      record { again = while_again j f t.place a body x.again y.again; proper = y.proper }
  statement _ _ _ _ _ (g.for_ j f t o m n d ts us vs xs rest start test next body is opens begins one tests two steps closes inner) known =
      let x = starting ts (m ∷ us) start begins (later o ts (later t (o ∷ ts) known)) in
      let y = condition us (n ∷ vs) test tests (later m us x.proper) in
      let z = stepping vs (d ∷ xs) next steps (later n vs y.proper) in
      let b = statement in_loop f xs rest body inner (later d xs z.proper) in
      record { again = for_again j f t.place start test next body x.again y.again z.again b.again; proper = b.proper }
  statement _ _ _ _ _ (g.foreach_ j f x p t o v n i d ts us rest a body is opens var named_so stands list closes inner) known =
      let behind = later v (n ∷ i ∷ ts) (later o (v ∷ n ∷ i ∷ ts) (later t (o ∷ v ∷ n ∷ i ∷ ts) known)) in
      let y = expression 0 p ts (d ∷ us) a list (later i ts (later n (i ∷ ts) behind)) in
      let z = statement in_loop f us rest body inner (later d us y.proper) in
      record { again = foreach_again j f t.place n.place x a body (lexeme n (i ∷ ts) _ behind named_so) y.again z.again; proper = z.proper }
  statement _ _ _ _ _ (g.switch_ j f p t o d b e ts us rest a all is opens value closes begins inner ends) known =
      let x = expression 0 p ts (d ∷ b ∷ us) a value (later o ts (later t (o ∷ ts) known)) in
      let y = sections (in_switch j) 1 us (e ∷ rest) all inner (later b us (later d (b ∷ us) x.proper)) in
      record { again = switch_again j f t.place a all x.again y.again; proper = later e rest y.proper }
  statement _ _ _ _ _ (g.await_ j f p q r t n d ts rest a bs is value ends) known =
      let x = expression 0 p ts (d ∷ rest) _ value (later t ts known) in
      record { again = await_again j f t.place q r a n bs x.again; proper = later d rest x.proper }
  statement _ _ _ _ _ (g.break_ j f t d rest may is ends) known = record { again = break_again j f t.place may; proper = later d rest (later t (d ∷ rest) known) }
  statement _ _ _ _ _ (g.continue_ j f t d rest may is ends) known = record { again = continue_again j f t.place may; proper = later d rest (later t (d ∷ rest) known) }
  statement _ _ _ _ _ (g.return_ j f t d ts rest value is inner ends) known =
      let x = condition ts (d ∷ rest) value inner (later t ts known) in
      record { again = return_again j f t.place value x.again; proper = later d rest x.proper }

  pub statements : (j : Jumps) (ts rest : List Token) (body : List Stmt) → Statements j ts rest body → AreProper ts → FoundStatements j body rest
  statements _ _ _ _ (g.no_statement j rest) known = record { again = no_statements j; proper = known }
  statements _ _ _ _ (g.more_statements j ts us rest a others one more) known =
      let x = statement j false ts us a one known in
      let y = statements j us rest others more x.proper in
      record { again = more_statements j a others x.again y.again; proper = y.proper }

  sections : (j : Jumps) (room : ℕ) (ts rest : List Token) (all : List Section) → Sections j room ts rest all → AreProper ts → FoundSections j room all rest
  sections _ _ _ _ _ (g.no_section j room rest) known = record { again = no_sections j room; proper = known }
  sections _ _ _ _ _ (g.more_sections j room ts us vs rest ls body others one fits inner leaves more) known =
      let x = labels ts us ls one known in
      let y = statements j us vs body inner x.proper in
      let z = sections j (room - defaults ls) vs rest others more y.proper in
      record { again = more_sections j room ls body others x.again fits y.again leaves z.again; proper = z.proper }
