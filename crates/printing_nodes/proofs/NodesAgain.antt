-- Printed nodes are spelled again.
use Rattle.std.proofs.Common.{◌≡◌, ℕ, ◌+◌, ◌-◌, ◌≤◌, Bool, true, false, List, [], ◌∷◌, ◌++◌, map, length, Some, None, refl, sym, ap, ◌∙◌, subst, append_assoc, append-nil, arith}
use Rattle.std.specs.List.{flat_map}
use Rattle.text_core.specs.declared.place.Place.{Place}
use Rattle.cs_grammar.specs.Statements.{Jumps, Labels, in_loop, in_switch, no_jumps, defaults}
use Rattle.cs_grammar.specs.Tokens.{ident}
use Rattle.cs_print.proofs.LabelsAgain.{labels_kinds}
use Rattle.razor_token.specs.declared.piece.Piece.{Piece}
use Rattle.razor_token.specs.declared.piece.PieceKind.TheVariants as k
use Rattle.razor_token.specs.Tags.{is_component}
use Rattle.razor_ast.specs.declared.node.TNode.{TNode}
use Rattle.razor_ast.specs.declared.node.TNode.TheVariants as nd
use Rattle.razor_ast.specs.declared.node.TNode.TheViews.{out-roll-TSection}
use Rattle.razor_ast.specs.declared.node.TSection.{TSection}
use Rattle.razor_ast.specs.Literals.{literal_of, literal_run, place_of, is_edge, text_nodes}
use Rattle.razor_ast.specs.Nodes.{tag_node, Inside, Tag, Item, Content, Code, Within, Otherwise, Line, Lines, Sections}
use Rattle.razor_ast.specs.Nodes as gn
use Rattle.razor_ast.specs.Shown.{Shown}
use Rattle.razor_ast.specs.Statements.{section}
use Rattle.razor_print.specs.declared.before.Before.{Before}
use Rattle.razor_print.specs.declared.before.Before.TheVariants as bf
use Rattle.razor_print.specs.Attributes.{attributes_parts}
use Rattle.razor_print.specs.Nodes.{Printed, content_from, lines, inside, node, section_parts}
use Rattle.razor_print.specs.Parts.{Parts, tokens}
use Rattle.razor_print.proofs.NodeLaws as law
use Rattle.printed_pieces.specs.Meant.{Mean}
use Rattle.printed_pieces.specs.PrintableNodes.{LinesPrint}
use Rattle.printed_pieces.specs.Written.{IsWritten}
use Rattle.printed_pieces.proofs.NodeParts.{section-law}
use Rattle.printing_again.proofs.AttributesAgain.{attributes_again}
use Rattle.printing_again.proofs.MeantLaws.{first-piece}
use Rattle.printing_again.proofs.PartsAgain.{stops}
use Rattle.printing_again.proofs.ShownAgain.{shown_again}
use Rattle.printing_nodes.specs.AlikeNodes as al
use Rattle.printing_nodes.specs.Answers.{Stops, ContentAgain, LinesAgain}
use Rattle.printing_nodes.proofs.KnownNodes.{Known, Knows, AllKnown, AllSections, content-known, lines-known, sections-known, body-knows, otherwise-knows, behind-known}
use Rattle.printing_nodes.proofs.CodeForms.{simple-form, break-form, continue-form, block-form, if-form, else-form, while-form, for-form, foreach-form, switch-form}
use Rattle.printing_nodes.proofs.CodeLaws.{shown-first, shown-edge, simple-is, code-content, within-block, within-other, otherwise-within, otherwise-if, line-of}
use Rattle.printing_nodes.proofs.LabelsAgain.{marks_again}
use Rattle.printing_nodes.proofs.LeavesLaws.{leaves_again}
use Rattle.printing_nodes.proofs.Results.{InsideAgain, TagAgain, ItemAgain, CodeAgain, WithinAgain, OtherwiseAgain, LineAgain, SectionsAgain, first_kind, first_edge}
use Rattle.printing_nodes.proofs.TagLaws.{bound_alike, node-tag, knows-tag, alike-tag, tag-is, tag-content, tag-edge, content-none, inside-of, group-of}
use Rattle.printing_nodes.proofs.TextsAgain.{texts-again, first-node, alike-join}

module _ (source around : Piece → List ℕ) where
  -- no content
  nothing-read : (n : ℕ) (us : List Piece) → literal_run us ≡ ([], us) → Content around true n us us n []
  nothing-read n us e = let same : n + 0 ≡ n = omega arith in subst (λ z. Content around true n us us z []) same (gn.last_text true n [] us us [] e refl)

  mutual
    inside-again : (name : List ℕ) (n : ℕ) (ps rest : List Piece) (m : ℕ) (children : List TNode) → Inside source name n ps rest m children → AllKnown children → (later : Parts) (us : List Piece)
        → Mean (inside name (map node children) ++ later) us → InsideAgain around name n m children later us
    inside-again _ _ _ _ _ _ (gn.without_content name n end rest is) known later us mean =
        inside-of around name n n [] later us (λ e. refl) (λ more vs ends inner. record { rest = vs; others = []; spelled = nothing-read n vs (ends vs inner); alike = al.no_node; mean = inner }) mean
    inside-again _ _ _ _ _ _ (gn.with_content name n m begin close end ps us rest children is inner closes space ends) known later vs mean =
        inside-of around name n m children later vs (content-none source true n ps (close ∷ us) m children inner)
        (λ more xs stop here. content_again true n ps (close ∷ us) m children inner known bf.Other more xs stop here) mean

    tag-again : (n : ℕ) (ps rest : List Piece) (m : ℕ) (a : TNode) → Tag source n ps rest m a → Knows a → (later : Parts) (us : List Piece) → Mean ((node a).code ++ later) us → TagAgain around n m a later us
    tag-again _ _ _ _ _ (gn.tag name n i m p ps us vs rest all children is plain attributes space inner) knows later xs mean =
        let b = is_component name in
        let known = knows-tag b n p name all children knows in
        let here = subst (λ z. Mean (z ++ later) xs) (ap (λ (z : Printed). z.code) (node-tag b n p name all children) ∙ tag-is name all (map node children)) mean in
        let first = first-piece (k.TagStart name) (60 ∷ name) ((attributes_parts all ++ inside name (map node children)) ++ later) xs here in
        let found = attributes_again source around b (n + 1) i ps us all attributes.spelled known.0 (inside name (map node children) ++ later) first.rest
        (subst (λ z. Mean z first.rest) (append_assoc (attributes_parts all) (inside name (map node children)) later) first.mean) in
        let x = inside-again name i vs rest m children inner (content-known false children known.1) later found.rest found.mean in
        record {
          p = first.p;
          behind = first.rest;
          split = first.split;
          plain = ap literal_of first.is;
          inner = ap is_edge first.is;
          rest = x.rest;
          other = tag_node b n first.p name found.others x.others;
          spelled = gn.tag name n i m first.p first.rest found.rest found.rest x.rest found.others x.others first.is plain
              (record { spelled = found.spelled; bound = sym (bound_alike all found.others found.alike) ∙ attributes.bound }) (gn.close found.rest) x.spelled;
          alike = alike-tag b n p first.p name all found.others children x.others found.alike x.alike;
          mean = x.mean;
        }

    pub item-again : (n : ℕ) (ps rest : List Piece) (m : ℕ) (a : TNode) → Item source n ps rest m a → Knows a → (later : Parts) (us : List Piece) → Mean ((node a).content ++ later) us → ItemAgain around (first_edge ps) n m a later us
    item-again _ _ _ _ _ (gn.of_tag n m ps rest a spells) knows later us mean =
        let x = tag-again n ps rest m a spells knows later us (subst (λ z. Mean (z ++ later) us) (tag-content source n ps rest m a spells) mean) in
        record { p = x.p; behind = x.behind; split = x.split; plain = x.plain; edged = x.inner ∙ sym (tag-edge source n ps rest m a spells); rest = x.rest; other = x.other; spelled = gn.of_tag n m (x.p ∷ x.behind) x.rest x.other x.spelled; alike = x.alike; mean = x.mean }
    item-again _ _ _ _ _ (gn.of_shown n p ps rest a h) knows later us mean =
        let x = shown_again a later us (subst (λ z. Known z) (nd.outs-Content n p.place a) knows) (subst (λ (z : Printed). Mean (z.content ++ later) us) (law.node_content n p.place a) mean) in
        let y = shown-first us x.rest x.other x.spelled in
        record {
          p = y.p;
          behind = y.behind;
          split = y.split;
          plain = ap literal_of y.is;
          edged = ap is_edge y.is ∙ sym (shown-edge (p ∷ ps) rest a h);
          rest = x.rest;
          other = nd.Content n y.p.place x.other;
          spelled = gn.of_shown n y.p y.behind x.rest x.other (subst (λ z. Shown z x.rest x.other) (sym y.split) x.spelled);
          alike = al.shown n p.place y.p.place a x.other x.alike;
          mean = x.mean;
        }
    item-again _ _ _ _ _ (gn.of_code n m at ps rest a is code) knows later us mean =
        let here = subst (λ z. Mean (z ++ later) us) (code-content source false at.place no_jumps false n ps rest m a code refl) mean in
        let first = first-piece k.CodeAt (64 ∷ []) ((node a).code ++ later) us here in
        let x = code-again false at.place no_jumps false n ps rest m a code knows later first.rest first.mean in
        record {
          p = first.p;
          behind = first.rest;
          split = first.split;
          plain = ap literal_of first.is;
          edged = ap is_edge first.is ∙ sym (ap is_edge is);
          rest = x.rest;
          other = x.other first.p.place;
          spelled = gn.of_code n m first.p first.rest x.rest (x.other first.p.place) first.is (subst (λ z. Code around false first.p.place no_jumps false n z x.rest m (x.other first.p.place)) x.split (x.spelled first.p.place));
          alike = x.alike first.p.place;
          mean = x.mean;
        }

    pub content_again : (edge : Bool) (n : ℕ) (ps rest : List Piece) (m : ℕ) (nodes : List TNode) → Content source edge n ps rest m nodes → AllKnown nodes → (before : Before) (later : Parts) (us : List Piece) → Stops later
        → Mean (content_from before (map node nodes) ++ later) us → ContentAgain around edge n m nodes later us
    content_again _ _ _ _ _ _ (gn.last_text edge n text ps rest texts run is) known before later us stop mean =
        let x = texts-again edge true n (place_of ps) text texts is before [] later us (subst (λ z. Mean (content_from before (map node z) ++ later) us) (sym (append-nil texts)) mean) in
        record {
          rest = x.rest;
          others = x.others;
          spelled = subst (λ z. Content around edge n us x.rest z x.others) (ap (λ z. n + z) x.same) (gn.last_text edge n x.text us x.rest x.others (x.run (stop x.rest x.mean)) x.is);
          alike = x.alike;
          mean = x.mean;
        }
    content_again _ _ _ _ _ _ (gn.more_content edge n i m text p ps us vs rest texts a nodes run is item more) known before later xs stop mean =
        let all = behind-known texts (a ∷ nodes) known in
        let x = texts-again edge (is_edge p.kind) n (place_of ps) text texts is before (a ∷ nodes) later xs mean in
        let y = item-again (n + length texts) (p ∷ us) vs i a item all.0 (content_from (node a).leaves (map node nodes) ++ later) x.rest (first-node x.left (node a) (map node nodes) later x.rest x.mean) in
        let z = content_again (is_edge p.kind) i vs rest m nodes more all.1 (node a).leaves later y.rest stop y.mean in
        record {
          rest = z.rest;
          others = x.others ++ y.other ∷ z.others;
          spelled = gn.more_content edge n i m x.text y.p xs y.behind y.rest z.rest x.others y.other z.others
              (x.run (subst (λ q. literal_run q ≡ ([], q)) y.split (stops y.p.kind y.p y.behind refl y.plain)) ∙ ap (λ q. (x.text, q)) (sym y.split))
              (x.is ∙ ap (λ e. text_nodes edge e n (place_of xs) x.text) (sym y.edged))
              (subst (λ q. Item around (n + q) (y.p ∷ y.behind) y.rest i y.other) (sym x.same) y.spelled)
              (subst (λ e. Content around e i y.rest z.rest m z.others) (sym y.edged) z.spelled);
          alike = alike-join texts x.others (a ∷ nodes) (y.other ∷ z.others) x.alike (al.one_node a y.other nodes z.others y.alike z.alike);
          mean = z.mean;
        }

    code-again : (b : Bool) (q : Place) (j : Jumps) (f : Bool) (n : ℕ) (ps rest : List Piece) (m : ℕ) (a : TNode) → Code source b q j f n ps rest m a → Knows a → (later : Parts) (us : List Piece) → Mean ((node a).code ++ later) us
        → CodeAgain around b j f n m (first_kind ps) a later us
    code-again _ _ _ _ _ _ _ _ _ (gn.simple q j f n ps rest a h) knows later us mean =
        simple-form around j f n (first_kind ps) a (subst (λ z. Known z) (nd.outs-Statement a) knows) (simple-is ps rest a h) later us mean
    code-again _ _ _ _ _ _ _ _ _ (gn.break_ q j f n i c rest may is ends) knows later us mean = break-form around j f n (Some i.kind) i may later us mean
    code-again _ _ _ _ _ _ _ _ _ (gn.continue_ q j f n i c rest may is ends) knows later us mean = continue-form around j f n (Some i.kind) i may later us mean
    code-again _ _ _ _ _ _ _ _ _ (gn.Code.block b q j f n m o c ps rest items is inner ends) knows later us mean =
        block-form around b q j f n m o items is
        (λ more vs here. lines_again j n ps (c ∷ rest) m items inner (lines-known items (subst (λ z. Known z) (nd.outs-Block q items) knows)) more vs here) later us mean
    code-again _ _ _ _ _ _ _ _ _ (gn.if_alone b q j n m i ps us rest ts a holds is brackets test inner) knows later vs mean =
        let known = subst (λ z. Known z) (nd.outs-If q a holds None) knows in
        if-form around b q j n m i a holds is known.0 (λ more xs here. within-again b j false n us rest m holds inner (body-knows known.1.0 holds known.1.1) more xs here) later vs mean
    code-again _ _ _ _ _ _ _ _ _ (gn.if_else b q j f n i m w_if d ps us vs rest ts a holds fails is brackets test one otherwise two) knows later xs mean =
        let known = subst (λ z. Known z) (nd.outs-If q a holds (Some fails)) knows in
        else-form around b q j f n i m w_if a holds fails is known.0 (λ more ys here. within-again b j true n us (d ∷ vs) i holds one (body-knows known.1.0 holds known.1.1) more ys here)
        (λ more ys here. otherwise-again b j f i vs rest m fails two (otherwise-knows known.2.0 fails known.2.1) more ys here) later xs mean
    code-again _ _ _ _ _ _ _ _ _ (gn.while_ b q j f n m i ps us rest ts a body is brackets test inner) knows later vs mean =
        let known = subst (λ z. Known z) (nd.outs-While n q a body) knows in
        while-form around b q j f n m i a body is known.0 (λ more xs here. within-again b in_loop f (n + 1) us rest m body inner (body-knows known.1.0 body known.1.1) more xs here) later vs mean
    code-again _ _ _ _ _ _ _ _ _ (gn.for_ b q j f n m i ps us rest ts start test next body is brackets heading inner) knows later vs mean =
        let known = subst (λ z. Known z) (nd.outs-For n q start test next body) knows in
        for-form around b q j f n m i start test next body is known.0 known.1 known.2 (λ more xs here. within-again b in_loop f (n + 1) us rest m body inner (body-knows known.3.0 body known.3.1) more xs here) later vs mean
    code-again _ _ _ _ _ _ _ _ _ (gn.foreach_ b q j f n m name i token ps us rest ts a body is brackets heading inner) knows later vs mean =
        let known = subst (λ z. Known z) (nd.outs-ForEach n q (ident token name) a body) knows in
        foreach-form around b q j f n m name i token.place a body is known.1 (λ more xs here. within-again b in_loop f (n + 1) us rest m body inner (body-knows known.2.0 body known.2.1) more xs here) later vs mean
    code-again _ _ _ _ _ _ _ _ _ (gn.switch_ b q j f n m i o c ps us rest ts a sections is brackets test begins inner ends) knows later vs mean =
        let known = subst (λ z. Known z) (nd.outs-Switch q a sections) knows in
        switch-form around b q j f n m i a sections is known.0 (λ more xs here. sections-again (in_switch j) 1 n us (c ∷ rest) m sections inner (sections-known sections known.1) more xs here) later vs mean

    within-again : (b : Bool) (j : Jumps) (f : Bool) (n : ℕ) (ps rest : List Piece) (m : ℕ) (a : TNode) → Within source b j f n ps rest m a → Knows a → (later : Parts) (us : List Piece) → Mean ((node a).code ++ later) us
        → WithinAgain around b j f n m a later us
    within-again _ _ _ _ _ _ _ _ (gn.Within.in_block b j f n m o ps rest a is code) knows later us mean =
        within-block around b j f n m o.kind a later us is (code-again b o.place j f n (o ∷ ps) rest m a code knows later us mean)
    within-again _ _ _ _ _ _ _ _ (gn.Within.other j f n m p ps rest a code) knows later us mean =
        within-other around j f n m p.kind a later us (code-again true p.place j f n (p ∷ ps) rest m a code knows later us mean)

    otherwise-again : (b : Bool) (j : Jumps) (f : Bool) (n : ℕ) (ps rest : List Piece) (m : ℕ) (a : TNode) → Otherwise source b j f n ps rest m a → Knows a → (later : Parts) (us : List Piece) → Mean ((node a).code ++ later) us
        → OtherwiseAgain around b j f n m a later us
    otherwise-again _ _ _ _ _ _ _ _ (gn.otherwise_body b j f n m ps rest a inner) knows later us mean =
        otherwise-within around b j f n m a later us (within-again b j f n ps rest m a inner knows later us mean)
    otherwise-again _ _ _ _ _ _ _ _ (gn.otherwise_if b j f n m i ps rest a is code) knows later us mean =
        otherwise-if around b j f n m i.kind a later us is (code-again b i.place j f n (i ∷ ps) rest m a code knows later us mean)

    line-again : (j : Jumps) (n : ℕ) (ps rest : List Piece) (m : ℕ) (a : TNode) → Line source j n ps rest m a → Knows a → (later : Parts) (us : List Piece) → Mean ((node a).code ++ later) us → LineAgain around j n m a later us
    line-again _ _ _ _ _ _ (gn.a_statement j n m p ps rest a code) knows later us mean =
        line-of around j n m (Some p.kind) a later us (code-again true p.place j false n (p ∷ ps) rest m a code knows later us mean)
    line-again _ _ _ _ _ _ (gn.a_marked j n m at ps rest a is code) knows later us mean =
        line-of around j n m (first_kind ps) a later us (code-again true at.place j false n ps rest m a code knows later us mean)
    line-again _ _ _ _ _ _ (gn.a_tag j n m ps rest a spells) knows later us mean =
        let x = tag-again n ps rest m a spells knows later us mean in
        record { rest = x.rest; other = x.other; spelled = gn.a_tag j n m us x.rest x.other (subst (λ z. Tag around n z x.rest m x.other) x.split x.spelled); alike = x.alike; mean = x.mean }
    line-again _ _ _ _ _ _ (gn.a_shown j n p ps rest a h) knows later us mean =
        let x = shown_again a later us (subst (λ z. Known z) (nd.outs-Content n p.place a) knows) (subst (λ (z : Printed). Mean (z.code ++ later) us) (law.node_content n p.place a) mean) in
        let y = shown-first us x.rest x.other x.spelled in
        record {
          rest = x.rest;
          other = nd.Content n y.p.place x.other;
          spelled = subst (λ z. Line around j n z x.rest (n + 1) (nd.Content n y.p.place x.other)) y.split (gn.a_shown j n y.p y.behind x.rest x.other (subst (λ z. Shown z x.rest x.other) (sym y.split) x.spelled));
          alike = al.shown n p.place y.p.place a x.other x.alike;
          mean = x.mean;
        }
    line-again _ _ _ _ _ _ (gn.a_group j n m p begin close end ps us vs rest items is space begins inner closes gap ends) knows later xs mean =
        group-of around j n m p.place items later xs
        (λ more ys stop here. content_again true n us (close ∷ vs) m items inner (content-known false items (subst (λ z. Known z) (nd.outs-Group p.place items) knows)) bf.Other more ys stop here) mean
    line-again _ _ _ _ _ _ (gn.a_line j n m p end ps rest items is inner ends) knows later xs mean =
        group-of around j n m p.place items later xs
        (λ more ys stop here. content_again true n ps (end ∷ rest) m items inner (content-known false items (subst (λ z. Known z) (nd.outs-Group p.place items) knows)) bf.Other more ys stop here) mean

    pub lines_again : (j : Jumps) (n : ℕ) (ps rest : List Piece) (m : ℕ) (items : List TNode) → Lines source j n ps rest m items → AllKnown items → (later : Parts) (us : List Piece) → Mean (lines (map node items) ++ later) us
        → LinesAgain around j n m items later us
    lines_again _ _ _ _ _ _ (gn.no_line j n rest) known later us mean = record { rest = us; others = []; spelled = gn.no_line j n us; alike = al.no_node; mean = mean }
    lines_again _ _ _ _ _ _ (gn.more_lines j n i m ps us rest a others one more) known later vs mean =
        let x = line-again j n ps us i a one known.0 (lines (map node others) ++ later) vs (subst (λ z. Mean z vs) (append_assoc (node a).code (lines (map node others)) later) mean) in
        let y = lines_again j i us rest m others more known.1 later x.rest x.mean in
        record {
          rest = y.rest;
          others = x.other ∷ y.others;
          spelled = gn.more_lines j n i m vs x.rest y.rest x.other y.others x.spelled y.spelled;
          alike = al.one_node a x.other others y.others x.alike y.alike;
          mean = y.mean;
        }

    sections-again : (j : Jumps) (room n : ℕ) (ps rest : List Piece) (m : ℕ) (all : List TSection) → Sections source j room n ps rest m all → AllSections all → (later : Parts) (us : List Piece)
        → Mean (flat_map (λ z. z) (map section_parts all) ++ later) us → SectionsAgain around j room n m all later us
    sections-again _ _ _ _ _ _ _ (gn.no_section j room n rest) known later us mean = record { rest = us; others = []; spelled = gn.no_section j room n us; alike = al.no_case; mean = mean }
    sections-again _ _ _ _ _ _ _ (gn.more_sections j room n i m ps us vs rest labels items others marks fits inner leaves more) known later xs mean =
        let here = subst (λ z. IsWritten (λ ts x. Labels ts [] x) z.labels × LinesPrint z.items) (out-roll-TSection (record { labels = labels; items = items })) known.0 in
        let behind = flat_map (λ z. z) (map section_parts others) ++ later in
        let e = append_assoc (section_parts (section labels items)) (flat_map (λ z. z) (map section_parts others)) later ∙ ap (λ z. z ++ behind) (section-law labels items)
        ∙ append_assoc (tokens (labels_kinds labels)) (lines (map node items)) behind in
        let x = marks_again labels (lines (map node items) ++ behind) xs here.0 (subst (λ z. Mean z xs) e mean) in
        let y = lines_again j n us vs i items inner (lines-known items here.1) behind x.rest x.mean in
        let z = sections-again j (room - defaults labels) i vs rest m others more known.1 later y.rest y.mean in
        record {
          rest = z.rest;
          others = section x.others y.others ∷ z.others;
          spelled = gn.more_sections j room n i m xs x.rest y.rest z.rest x.others y.others z.others x.spelled (subst (λ c. c ≤ room) x.same fits) y.spelled (leaves_again items y.others leaves y.alike)
              (subst (λ c. Sections around j (room - c) i y.rest z.rest m z.others) x.same z.spelled);
          alike = al.one_case labels x.others items y.others others z.others x.alike y.alike z.alike;
          mean = z.mean;
        }
