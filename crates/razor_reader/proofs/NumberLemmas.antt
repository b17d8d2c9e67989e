-- The numbers of a file's parts rise no faster than its pieces are read.
use Rattle.std.proofs.Common.{◌≡◌, ℕ, ◌+◌, ◌*◌, ◌<◌, ◌≤◌, List, [], ◌∷◌, ◌++◌, length, refl, sym, ap, ◌∙◌, subst, arith}
use Rattle.std.specs.Prelude.{Bool, true, false, if◌then◌else◌, Option, Some, None}
use Rattle.text_core.specs.declared.place.Place.{Place}
use Rattle.cs_ast.specs.declared.member.Member.{Member}
use Rattle.cs_token.specs.declared.token.Token.{Token}
use Rattle.cs_grammar.specs.Statements as cs
use Rattle.razor_token.specs.declared.piece.Piece.{Piece}
use Rattle.razor_ast.specs.declared.attribute.Attribute.{Attribute}
use Rattle.razor_ast.specs.declared.node.TNode.{TNode}
use Rattle.razor_ast.specs.declared.node.TSection.{TSection}
use Rattle.razor_ast.specs.Attributes.{OfTag, SomeAttributes}
use Rattle.razor_ast.specs.Attributes as ga
use Rattle.razor_ast.specs.Literals.{literal_of, with_literal, literal_run, place_of, is_edge, is_kept, text_node, text_nodes}
use Rattle.razor_ast.specs.Nodes.{Inside, Tag, Item, Content, Code, Within, Otherwise, Line, Lines, Sections}
use Rattle.razor_ast.specs.Nodes as g
use Rattle.razor_ast.specs.Pieces.{codes_of}
use Rattle.razor_reader.proofs.AttributeComplete.{behind_attribute}
use Rattle.razor_reader.proofs.SuffixLemmas.{not_longer, run_end, round_end, shown_less, simple_less, labels_less, spaced_end}

-- from this number before these pieces to that one behind them
abbrev pub Slow : ℕ → List Piece → ℕ → List Piece → Type 0
Slow n ps i us = i + length us ≤ n + length ps

-- literal texts

one_node : (before behind : Bool) (n : ℕ) (p : Place) (text : List ℕ) → length (text_nodes before behind n p text) ≤ 1
one_node before behind n p text = go (is_kept before behind text)
  where
    go : (d : Bool) → length (if d then text_node n p text ∷ [] else []) ≤ 1
    go true = omega arith
    go false = omega arith

no_node : (before behind : Bool) (n : ℕ) (p : Place) (text : List ℕ) → [] ≡ text → length (text_nodes before behind n p text) ≡ 0
no_node before behind n p text e = ap (λ (x : List ℕ). length (text_nodes before behind n p x)) (sym e)

pub texts_slow : (before behind : Bool) (n : ℕ) (p : Place) (text : List ℕ) (ps us : List Piece) → literal_run ps ≡ (text, us) → length (text_nodes before behind n p text) + length us ≤ length ps
texts_slow before behind n p text [] us e =
    let none = no_node before behind n p text (ap (λ (run : List ℕ × List Piece). run.0) e) in
    let less = not_longer [] us (run_end [] us text e) in
    omega arith
texts_slow before behind n p text (q ∷ qs) us e = go (literal_of q.kind) refl e
  where
    go : (o : Option (List ℕ)) → literal_of q.kind ≡ o → with_literal o q qs (literal_run qs) ≡ (text, us) → length (text_nodes before behind n p text) + length us ≤ length (q ∷ qs)
    go (Some x) i f =
        let one = one_node before behind n p text in
        let same : (literal_run qs).1 ≡ us = ap (λ (run : List ℕ × List Piece). run.1) f in
        let less = not_longer qs us (run_end qs us (literal_run qs).0 (ap (λ (l : List Piece). ((literal_run qs).0, l)) same)) in
        omega arith
    go None i f =
        let none = no_node before behind n p text (ap (λ (run : List ℕ × List Piece). run.0) f) in
        let same : length (q ∷ qs) ≡ length us = ap (λ (run : List ℕ × List Piece). length run.1) f in
        omega arith

module _ (around : Piece → List ℕ) where
  attribute_slow : (component : Bool) (n : ℕ) (ps rest : List Piece) (i : ℕ) (a : Attribute) → OfTag around component n ps rest i a → Slow n ps i rest
  attribute_slow _ _ _ _ _ _ (ga.of_element _ _ _ _ _ (ga.no_value n x p rest i d)) = omega arith
  attribute_slow _ _ _ _ _ _ (ga.of_element _ _ _ _ _ (ga.mixed n x p v ps rest parts i d y h)) =
      let less = (behind_attribute around false n (p ∷ v ∷ ps) rest (n + 1) _ (ga.of_element n (n + 1) (p ∷ v ∷ ps) rest _ (ga.mixed n x p v ps rest parts i d y h))).less in omega arith
  attribute_slow _ _ _ _ _ _ (ga.of_element _ _ _ _ _ (ga.event n x p v ps rest a i e y h)) =
      let less = (behind_attribute around false n (p ∷ v ∷ ps) rest (n + 1) _ (ga.of_element n (n + 1) (p ∷ v ∷ ps) rest _ (ga.event n x p v ps rest a i e y h))).less in omega arith
  attribute_slow _ _ _ _ _ _ (ga.of_element _ _ _ _ _ (ga.bind n x p v end u rest i y j h)) = omega arith
  attribute_slow _ _ _ _ _ _ (ga.of_element _ _ _ _ _ (ga.bind_event n p v ps rest i y h)) =
      let less = (behind_attribute around false n (p ∷ v ∷ ps) rest n _ (ga.of_element n n (p ∷ v ∷ ps) rest _ (ga.bind_event n p v ps rest i y h))).less in omega arith
  attribute_slow _ _ _ _ _ _ (ga.of_component _ _ _ _ _ (ga.no_value n x p rest i d other)) = omega arith
  attribute_slow _ _ _ _ _ _ (ga.of_component _ _ _ _ _ (ga.text n x said p v ps rest a i d other y h e)) =
      let less = (behind_attribute around true n (p ∷ v ∷ ps) rest (n + 1) _ (ga.of_component n (n + 1) (p ∷ v ∷ ps) rest _ (ga.text n x said p v ps rest a i d other y h e))).less in omega arith
  attribute_slow _ _ _ _ _ _ (ga.of_component _ _ _ _ _ (ga.value n x p v ps rest a i d other y h)) =
      let less = (behind_attribute around true n (p ∷ v ∷ ps) rest (n + 1) _ (ga.of_component n (n + 1) (p ∷ v ∷ ps) rest _ (ga.value n x p v ps rest a i d other y h))).less in omega arith
  attribute_slow _ _ _ _ _ _ (ga.of_component _ _ _ _ _ (ga.context n x p v ps rest i y h e)) =
      let less = (behind_attribute around true n (p ∷ v ∷ ps) rest (n + 1) _ (ga.of_component n (n + 1) (p ∷ v ∷ ps) rest _ (ga.context n x p v ps rest i y h e))).less in omega arith
  attribute_slow _ _ _ _ _ _ (ga.key component n ps rest a h) =
      let less = (behind_attribute around component n ps rest n a (ga.key component n ps rest a h)).less in omega arith

  attributes_slow : (component : Bool) (n : ℕ) (ps rest : List Piece) (i : ℕ) (found : List Attribute) → SomeAttributes around component n ps rest i found → Slow n ps i rest
  attributes_slow component _ _ _ _ _ (ga.none n rest) = omega arith
  attributes_slow component _ _ _ _ _ (ga.more n i l space ps us rest a others y h next) =
      let one = attribute_slow component n ps us i a h in
      let rest_slow = attributes_slow component i us rest l others next in
      omega arith

  mutual
    inside_slow : (name : List ℕ) (n : ℕ) (ps rest : List Piece) (i : ℕ) (children : List TNode) → Inside around name n ps rest i children → Slow n ps i rest
    inside_slow _ _ _ _ _ _ (g.without_content name n end rest x) = omega arith
    inside_slow _ _ _ _ _ _ (g.with_content name n i begin close end ps us rest children x h y white z) =
        let one = content_slow true n ps (close ∷ us) i children h in
        let less = not_longer us (end ∷ rest) (spaced_end us (end ∷ rest) white) in
        omega arith

    tag_slow : (n : ℕ) (ps rest : List Piece) (i : ℕ) (a : TNode) → Tag around n ps rest i a → Slow n ps i rest
    tag_slow _ _ _ _ _ (g.tag name n l i p ps us vs rest attributes children is element spelled spaced h) =
        let one = attributes_slow _ (n + 1) ps us l attributes spelled.spelled in
        let two = inside_slow name l vs rest i children h in
        let less = not_longer us vs (spaced_end us vs spaced) in
        omega arith

    pub item_slow : (n : ℕ) (ps rest : List Piece) (i : ℕ) (a : TNode) → Item around n ps rest i a → Slow n ps i rest
    item_slow _ _ _ _ _ (g.of_tag n i ps rest node h) = tag_slow n ps rest i node h
    item_slow _ _ _ _ _ (g.of_shown n p ps rest a h) = let less = shown_less (p ∷ ps) rest a h in omega arith
    item_slow _ _ _ _ _ (g.of_code n i at ps rest node x h) = let one = code_slow false at.place cs.no_jumps false n ps rest i node h in omega arith

    content_slow : (edge : Bool) (n : ℕ) (ps rest : List Piece) (i : ℕ) (nodes : List TNode) → Content around edge n ps rest i nodes → Slow n ps i rest
    content_slow _ _ _ _ _ _ (g.last_text edge n text ps rest texts e f) =
        let one = texts_slow edge true n (place_of ps) text ps rest e in
        let same = ap (λ (l : List TNode). length l) f in
        omega arith
    content_slow _ _ _ _ _ _ (g.more_content edge n l i text p ps us vs rest texts node nodes e f h more) =
        let one = texts_slow edge (is_edge p.kind) n (place_of ps) text ps (p ∷ us) e in
        let same = ap (λ (q : List TNode). length q) f in
        let two = item_slow (n + length texts) (p ∷ us) vs l node h in
        let others = content_slow (is_edge p.kind) l vs rest i nodes more in
        omega arith

    code_slow : (c : Bool) (p : Place) (j : cs.Jumps) (f : Bool) (n : ℕ) (ps rest : List Piece) (i : ℕ) (a : TNode) → Code around c p j f n ps rest i a → Slow n ps i rest
    code_slow _ _ _ _ _ _ _ _ _ (g.simple p j f n ps rest a h) = let less = simple_less ps rest a h in omega arith
    code_slow _ _ _ _ _ _ _ _ _ (g.break_ p j f n u c rest may is e) = omega arith
    code_slow _ _ _ _ _ _ _ _ _ (g.continue_ p j f n u c rest may is e) = omega arith
    code_slow _ _ _ _ _ _ _ _ _ (g.block c p j f n i o d ps rest items x h y) = let one = lines_slow j n ps (d ∷ rest) i items h in omega arith
    code_slow _ _ _ _ _ _ _ _ _ (g.if_alone c p j n i u ps us rest ts a body x h e y) =
        let less = not_longer ps us (round_end ps us ts h) in
        let one = within_slow c j false n us rest i body y in
        omega arith
    code_slow _ _ _ _ _ _ _ _ _ (g.if_else c p j f n l i u d ps us vs rest ts a body other x h e y z q) =
        let less = not_longer ps us (round_end ps us ts h) in
        let one = within_slow c j true n us (d ∷ vs) l body y in
        let two = otherwise_slow c j f l vs rest i other q in
        omega arith
    code_slow _ _ _ _ _ _ _ _ _ (g.while_ c p j f n i u ps us rest ts a body x h e y) =
        let less = not_longer ps us (round_end ps us ts h) in
        let one = within_slow c cs.in_loop f (n + 1) us rest i body y in
        omega arith
    code_slow _ _ _ _ _ _ _ _ _ (g.for_ c p j f n i u ps us rest ts start condition step body x h e y) =
        let less = not_longer ps us (round_end ps us ts h) in
        let one = within_slow c cs.in_loop f (n + 1) us rest i body y in
        omega arith
    code_slow _ _ _ _ _ _ _ _ _ (g.foreach_ c p j f n i x u name ps us rest ts a body is h e y) =
        let less = not_longer ps us (round_end ps us ts h) in
        let one = within_slow c cs.in_loop f (n + 1) us rest i body y in
        omega arith
    code_slow _ _ _ _ _ _ _ _ _ (g.switch_ c p j f n i u o d ps us rest ts a sections x h e y z q) =
        let less = not_longer ps (o ∷ us) (round_end ps (o ∷ us) ts h) in
        let one = sections_slow (cs.in_switch j) 1 n us (d ∷ rest) i sections z in
        omega arith

    within_slow : (c : Bool) (j : cs.Jumps) (f : Bool) (n : ℕ) (ps rest : List Piece) (i : ℕ) (a : TNode) → Within around c j f n ps rest i a → Slow n ps i rest
    within_slow _ _ _ _ _ _ _ _ (g.in_block c j f n i o ps rest body is h) = code_slow c o.place j f n (o ∷ ps) rest i body h
    within_slow _ _ _ _ _ _ _ _ (g.other j f n i p ps rest body h) = code_slow true p.place j f n (p ∷ ps) rest i body h

    otherwise_slow : (c : Bool) (j : cs.Jumps) (f : Bool) (n : ℕ) (ps rest : List Piece) (i : ℕ) (a : TNode) → Otherwise around c j f n ps rest i a → Slow n ps i rest
    otherwise_slow _ _ _ _ _ _ _ _ (g.otherwise_body c j f n i ps rest node h) = within_slow c j f n ps rest i node h
    otherwise_slow _ _ _ _ _ _ _ _ (g.otherwise_if c j f n i u ps rest node is h) = code_slow c u.place j f n (u ∷ ps) rest i node h

    line_slow : (j : cs.Jumps) (n : ℕ) (ps rest : List Piece) (i : ℕ) (a : TNode) → Line around j n ps rest i a → Slow n ps i rest
    line_slow _ _ _ _ _ _ (g.a_statement j n i p ps rest node h) = code_slow true p.place j false n (p ∷ ps) rest i node h
    line_slow _ _ _ _ _ _ (g.a_marked j n i at ps rest node x h) = let one = code_slow true at.place j false n ps rest i node h in omega arith
    line_slow _ _ _ _ _ _ (g.a_tag j n i ps rest node h) = tag_slow n ps rest i node h
    line_slow _ _ _ _ _ _ (g.a_shown j n p ps rest a h) = let less = shown_less (p ∷ ps) rest a h in omega arith
    line_slow _ _ _ _ _ _ (g.a_group j n i p begin close end ps us vs rest items is spaced x h y white z) =
        let one = content_slow true n us (close ∷ vs) i items h in
        let before = not_longer ps (begin ∷ us) (spaced_end ps (begin ∷ us) spaced) in
        let less = not_longer vs (end ∷ rest) (spaced_end vs (end ∷ rest) white) in
        omega arith
    line_slow _ _ _ _ _ _ (g.a_line j n i p end ps rest items is h y) = let one = content_slow true n ps (end ∷ rest) i items h in omega arith

    lines_slow : (j : cs.Jumps) (n : ℕ) (ps rest : List Piece) (i : ℕ) (items : List TNode) → Lines around j n ps rest i items → Slow n ps i rest
    lines_slow _ _ _ _ _ _ (g.no_line j n rest) = omega arith
    lines_slow _ _ _ _ _ _ (g.more_lines j n l i ps us rest first others h more) =
        let one = line_slow j n ps us l first h in
        let two = lines_slow j l us rest i others more in
        omega arith

    sections_slow : (j : cs.Jumps) (room n : ℕ) (ps rest : List Piece) (i : ℕ) (sections : List TSection) → Sections around j room n ps rest i sections → Slow n ps i rest
    sections_slow _ _ _ _ _ _ _ (g.no_section j room n rest) = omega arith
    sections_slow _ _ _ _ _ _ _ (g.more_sections j room n l i ps us vs rest labels items others h small x leaving z) =
        let less = labels_less ps us labels h in
        let one = lines_slow j n us vs l items x in
        let two = sections_slow j _ l vs rest i others z in
        omega arith
