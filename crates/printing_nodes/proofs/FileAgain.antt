-- Printed files are spelled again.
use Rattle.std.proofs.Common.{◌≡◌, ℕ, ◌+◌, Bool, true, false, ◌&&◌, List, [], ◌∷◌, ◌++◌, map, length, refl, sym, ap, ◌∙◌, subst, append_assoc, append-nil, arith}
use Rattle.std.specs.Prelude.{if◌then◌else◌}
use Rattle.std.proofs.lemmas.Bool.{false≢true}
use Rattle.text_core.specs.declared.place.Place.{Place}
use Rattle.cs_ast.specs.declared.member.Member.{Member}
use Rattle.cs_grammar.specs.Members.{SpelledMembers}
use Rattle.cs_print.specs.Alike.{AlikeMembers, Each}
use Rattle.razor_token.specs.declared.piece.Piece.{Piece}
use Rattle.razor_ast.specs.declared.node.TNode.{TNode}
use Rattle.razor_ast.specs.Components.{Whole}
use Rattle.razor_ast.specs.Components as g
use Rattle.razor_ast.specs.Literals.{literal_run, place_of, is_edge, is_kept, text_node, text_nodes}
use Rattle.razor_ast.specs.Nodes.{Item}
use Rattle.razor_print.specs.declared.before.Before.{Before}
use Rattle.razor_print.specs.Components.{code_section, members_section, parting, file_from, behind_all}
use Rattle.razor_print.specs.Nodes.{Printed, is_text, is_parted, item, behind_text, node}
use Rattle.razor_print.specs.Parts.{Parts}
use Rattle.printed_pieces.specs.Meant.{Mean}
use Rattle.printed_pieces.specs.Written.{IsWritten}
use Rattle.printed_pieces.proofs.NodeParts.{text-leaves}
use Rattle.printing_again.proofs.PartsAgain.{first-said, run-says, stops}
use Rattle.printing_nodes.specs.AlikeNodes.{AlikeContent}
use Rattle.printing_nodes.specs.AlikeNodes as al
use Rattle.printing_nodes.proofs.FileParts.{tail_again, behind-code, at-stops}
use Rattle.printing_nodes.proofs.FileTexts.{Placed, TextPart, direct, behind, text-part, with-text, kept-still, kept-plain, kept-nodes}
use Rattle.printing_nodes.proofs.ItemLeaves.{item-leaves}
use Rattle.printing_nodes.proofs.KnownNodes.{AllKnown, behind-known}
use Rattle.printing_nodes.proofs.NodesAgain.{item-again}
use Rattle.printing_nodes.proofs.TextsAgain.{node-text, alike-text, unparted}

-- what nodes of a file and the members behind them are printed as, behind such a node
abbrev pub file_parts : Before → List TNode → List Member → Parts
file_parts before nodes members = file_from before (map node nodes) ++ members_section (behind_all before (map node nodes)) members

module _ (around : Piece → List ℕ) where
  -- Where the first argument is true, literal text stands right before, so none stands first.
  pub record FileAgain (said e : Bool) (n : ℕ) (members : List Member) (nodes : List TNode) (us : List Piece) : Type 0 where
    pub member_others : List Member
    pub others : List TNode
    pub spelled : Whole around e n us false member_others others
    pub stop : said ≡ true → literal_run us ≡ ([], us)
    pub member_alike : Each AlikeMembers members member_others
    pub alike : AlikeContent nodes others

  -- what begins with literal text, parted from what stands before it
  placed-again : (edge said e : Bool) (n : ℕ) (members : List Member) (nodes : List TNode) (us rest : List Piece) (member_others : List Member) (others : List TNode) → (e ≡ true → edge ≡ true) → (said ≡ true → edge ≡ true) → Placed us said rest
      → ((z : Bool) → (z ≡ true → edge ≡ true) → Whole around z n rest false member_others others) → Each AlikeMembers members member_others → AlikeContent nodes others → FileAgain said e n members nodes us
  placed-again edge _ e n members nodes us _ member_others others less behind_text direct h member_alike alike =
      record { member_others = member_others; others = others; spelled = h e less; stop = λ i. absurd (false≢true i); member_alike = member_alike; alike = alike }
  placed-again edge _ e n members nodes us _ member_others others less behind_text (behind y none) h member_alike alike =
      record { member_others = member_others; others = others; spelled = behind-code around e n us member_others others y none (h true (λ i. behind_text refl)); stop = λ i. at-stops y.at _ us y.begins y.split; member_alike = member_alike; alike = alike }

  -- the text of a node, and the parts behind it
  text-here : (n : ℕ) (p : Place) (text : List ℕ) (nodes : List TNode) (members : List Member) (before : Before) (us : List Piece) → Mean (file_parts before (text_node n p text ∷ nodes) members) us → TextPart text (is_text before) (file_parts (behind_text text) nodes members) us
  text-here n p text nodes members before us mean =
      text-part before text (file_from (behind_text text) (map node nodes)) (members_section (behind_all (behind_text text) (map node nodes)) members) us
      (subst (λ (z : Printed). Mean (((parting before z.leaves ++ item before z) ++ file_from z.leaves (map node nodes)) ++ members_section (behind_all z.leaves (map node nodes)) members) us) (node-text n p text) mean)

  -- what stands behind text that an edge follows, which isn't printed
  abbrev Follows : ℕ → List Member → List TNode → Type 0
  Follows n members nodes = (before : Before) (e : Bool) (us : List Piece) → Mean (file_parts before nodes members) us → FileAgain (is_text before) e n members nodes us

  skip-text : (edge : Bool) (n : ℕ) (p : Place) (text : List ℕ) (nodes : List TNode) (members : List Member) (before : Before) (e : Bool) (us : List Piece) → is_kept edge true text ≡ true → (e ≡ true → edge ≡ true) → (is_text before ≡ true → edge ≡ true)
      → Mean (file_parts before (text_node n p text ∷ nodes) members) us → Follows (n + 1) members nodes → FileAgain (is_text before) e n members (text_node n p text ∷ nodes) us
  skip-text edge n p text nodes members before e us kept less text_edge mean follows =
      let x = text-here n p text nodes members before us mean in
      let said = first-said text (file_parts (behind_text text) nodes members) x.rest x.mean in
      let y = follows (behind_text text) true said.rest said.mean in
      let stop = y.stop (text-leaves _) in
      let run = ap literal_run (sym said.split) ∙ run-says text said.us said.rest said.says stop in
      placed-again edge (is_text before) e n members (text_node n p text ∷ nodes) us x.rest y.member_others (text_node n (place_of x.rest) text ∷ y.others) less text_edge x.placed
      (λ z edged. with-text around true (n + 1) said.rest false y.member_others y.others y.spelled z n text x.rest refl stop (kept-plain edge text kept) run)
      y.member_alike (al.one_node _ _ nodes y.others (alike-text n p (place_of x.rest) text) y.alike)

  skip-again : (edge : Bool) (n : ℕ) (p : Place) (text : List ℕ) (texts nodes : List TNode) (members : List Member) (before : Before) (e : Bool) (us : List Piece) → texts ≡ text_nodes edge true n p text → (e ≡ true → edge ≡ true) → (is_text before ≡ true → edge ≡ true)
      → Mean (file_parts before (texts ++ nodes) members) us → Follows (n + length texts) members nodes → FileAgain (is_text before) e n members (texts ++ nodes) us
  skip-again edge n p text texts nodes members before e us is less text_edge mean follows = go (is_kept edge true text) refl
    where
      go : (b : Bool) → is_kept edge true text ≡ b → FileAgain (is_text before) e n members (texts ++ nodes) us
      go true kept =
          let one : texts ≡ text_node n p text ∷ [] = is ∙ ap (λ (b : Bool). if b then text_node n p text ∷ [] else []) kept in
          subst (λ z. FileAgain (is_text before) e n members (z ++ nodes) us) (sym one)
          (skip-text edge n p text nodes members before e us kept less text_edge (subst (λ z. Mean (file_parts before (z ++ nodes) members) us) one mean)
          (let same : n + length texts ≡ n + 1 = ap (λ z. n + length z) one ∙ omega arith in subst (λ z. Follows z members nodes) same follows))
      go false dropped =
          let none : texts ≡ [] = is ∙ ap (λ (b : Bool). if b then text_node n p text ∷ [] else []) dropped in
          let same : n + length texts ≡ n = ap (λ z. n + length z) none ∙ omega arith in
          subst (λ z. FileAgain (is_text before) e n members (z ++ nodes) us) (sym none)
          (subst (λ z. FileAgain (is_text before) e z members nodes us) same (follows before e us (subst (λ z. Mean (file_parts before (z ++ nodes) members) us) none mean)))

  -- a part that isn't literal text, and the parts behind it
  not-parted : (before after : Before) → is_text after ≡ false → parting before after ≡ []
  not-parted before after plain = ap (λ (b : Bool). if is_text before && b then code_section before [] else []) plain ∙ go (is_text before)
    where
      go : (b : Bool) → (if b && false then code_section before [] else []) ≡ []
      go true = refl
      go false = refl

  item-here : (a : TNode) (nodes : List TNode) (members : List Member) (before : Before) (us : List Piece) → is_text (node a).leaves ≡ false → Mean (file_parts before (a ∷ nodes) members) us → Mean ((node a).content ++ file_parts (node a).leaves nodes members) us
  item-here a nodes members before us plain mean =
      unparted (is_parted before (node a).marked (is_text (node a).leaves)) (node a).content (file_parts (node a).leaves nodes members) us
      (subst (λ z. Mean z us)
      (append_assoc (parting before (node a).leaves ++ item before (node a)) (file_from (node a).leaves (map node nodes)) (members_section (behind_all (node a).leaves (map node nodes)) members)
      ∙ ap (λ z. (z ++ item before (node a)) ++ file_parts (node a).leaves nodes members) (not-parted before (node a).leaves plain)) mean)

  -- an item, and what is behind it
  record ItemBehind (edge : Bool) (n : ℕ) (members : List Member) (a : TNode) (nodes : List TNode) (us : List Piece) : Type 0 where
    i : ℕ
    p : Piece
    inner : List Piece
    rest : List Piece
    other : TNode
    member_others : List Member
    others : List TNode
    split : p ∷ inner ≡ us
    stop : literal_run us ≡ ([], us)
    edged : is_edge p.kind ≡ edge
    item : Item around n (p ∷ inner) rest i other
    behind : Whole around edge i rest false member_others others
    alike : AlikeContent (a ∷ nodes) (other ∷ others)
    member_alike : Each AlikeMembers members member_others

  -- behind text of these edges
  place-item : (edge : Bool) (n : ℕ) (members : List Member) (a : TNode) (nodes : List TNode) (vs : List Piece) (e : Bool) (k : ℕ) (text : List ℕ) (texts : List TNode) (us : List Piece) (x : ItemBehind edge n members a nodes vs) → n ≡ k + length texts → literal_run us ≡ (text, vs)
      → texts ≡ text_nodes e edge k (place_of us) text → Whole around e k us false x.member_others (texts ++ x.other ∷ x.others)
  place-item edge n members a nodes vs e k text texts us x number run is =
      g.item e false k x.i text x.p us x.inner x.rest texts x.others x.other x.member_others (run ∙ ap (λ z. (text, z)) (sym x.split)) (is ∙ ap (λ z. text_nodes e z k (place_of us) text) (sym x.edged))
      (subst (λ z. Item around z (x.p ∷ x.inner) x.rest x.i x.other) number x.item) (subst (λ z. Whole around z x.i x.rest false x.member_others x.others) (sym x.edged) x.behind)

  abbrev ReadsItem : Bool → ℕ → List Member → TNode → List TNode → Type 0
  ReadsItem edge n members a nodes = (before : Before) (us : List Piece) → Mean (file_parts before (a ∷ nodes) members) us → ItemBehind edge n members a nodes us

  item-text : (edge after : Bool) (n : ℕ) (p : Place) (text : List ℕ) (a : TNode) (nodes : List TNode) (members : List Member) (before : Before) (e : Bool) (us : List Piece) → is_kept edge after text ≡ true → (e ≡ true → edge ≡ true) → (is_text before ≡ true → edge ≡ true)
      → Mean (file_parts before (text_node n p text ∷ a ∷ nodes) members) us → ReadsItem after (n + 1) members a nodes → FileAgain (is_text before) e n members (text_node n p text ∷ a ∷ nodes) us
  item-text edge after n p text a nodes members before e us kept less text_edge mean reads =
      let x = text-here n p text (a ∷ nodes) members before us mean in
      let said = first-said text (file_parts (behind_text text) (a ∷ nodes) members) x.rest x.mean in
      let y = reads (behind_text text) said.rest said.mean in
      let run = ap literal_run (sym said.split) ∙ run-says text said.us said.rest said.says y.stop in
      placed-again edge (is_text before) e n members (text_node n p text ∷ a ∷ nodes) us x.rest y.member_others (text_node n (place_of x.rest) text ∷ y.other ∷ y.others) less text_edge x.placed
      (λ z edged. place-item after (n + 1) members a nodes said.rest z n text (text_node n (place_of x.rest) text ∷ []) x.rest y refl run (kept-nodes z after n (place_of x.rest) text (kept-still z edge after text edged kept)))
      y.member_alike (al.one_node _ _ (a ∷ nodes) (y.other ∷ y.others) (alike-text n p (place_of x.rest) text) y.alike)

  item-alone : (after : Bool) (n : ℕ) (a : TNode) (nodes : List TNode) (members : List Member) (before : Before) (e : Bool) (us : List Piece) → Mean (file_parts before (a ∷ nodes) members) us → ReadsItem after n members a nodes → FileAgain (is_text before) e n members (a ∷ nodes) us
  item-alone after n a nodes members before e us mean reads =
      let y = reads before us mean in
      record {
        member_others = y.member_others;
        others = y.other ∷ y.others;
        spelled = place-item after n members a nodes us e n [] [] us y (omega arith) y.stop refl;
        stop = λ i. y.stop;
        member_alike = y.member_alike;
        alike = y.alike;
      }

  item-file : (edge after : Bool) (n : ℕ) (p : Place) (text : List ℕ) (texts : List TNode) (a : TNode) (nodes : List TNode) (members : List Member) (before : Before) (e : Bool) (us : List Piece) → texts ≡ text_nodes edge after n p text → (e ≡ true → edge ≡ true)
      → (is_text before ≡ true → edge ≡ true) → Mean (file_parts before (texts ++ a ∷ nodes) members) us → ReadsItem after (n + length texts) members a nodes → FileAgain (is_text before) e n members (texts ++ a ∷ nodes) us
  item-file edge after n p text texts a nodes members before e us is less text_edge mean reads = go (is_kept edge after text) refl
    where
      go : (b : Bool) → is_kept edge after text ≡ b → FileAgain (is_text before) e n members (texts ++ a ∷ nodes) us
      go true kept =
          let one : texts ≡ text_node n p text ∷ [] = is ∙ ap (λ (b : Bool). if b then text_node n p text ∷ [] else []) kept in
          subst (λ z. FileAgain (is_text before) e n members (z ++ a ∷ nodes) us) (sym one)
          (item-text edge after n p text a nodes members before e us kept less text_edge (subst (λ z. Mean (file_parts before (z ++ a ∷ nodes) members) us) one mean)
          (let same : n + length texts ≡ n + 1 = ap (λ z. n + length z) one ∙ omega arith in subst (λ z. ReadsItem after z members a nodes) same reads))
      go false dropped =
          let none : texts ≡ [] = is ∙ ap (λ (b : Bool). if b then text_node n p text ∷ [] else []) dropped in
          subst (λ z. FileAgain (is_text before) e n members (z ++ a ∷ nodes) us) (sym none)
          (item-alone after n a nodes members before e us (subst (λ z. Mean (file_parts before (z ++ a ∷ nodes) members) us) none mean)
          (let same : n + length texts ≡ n = ap (λ z. n + length z) none ∙ omega arith in subst (λ z. ReadsItem after z members a nodes) same reads))

module _ (source around : Piece → List ℕ) (members : List Member) (written : IsWritten SpelledMembers members) where
  pub file_again : (edge : Bool) (n : ℕ) (ps : List Piece) (disposes : Bool) (found : List Member) (nodes : List TNode) → Whole source edge n ps disposes found nodes → AllKnown nodes → (before : Before) (e : Bool) (us : List Piece)
      → (e ≡ true → edge ≡ true) → (is_text before ≡ true → edge ≡ true) → Mean (file_parts before nodes members) us → FileAgain around (is_text before) e n members nodes us
  file_again _ _ _ _ _ _ (g.last edge n text ps run) known before e us less text_edge mean =
      let texts = text_nodes edge true n (place_of ps) text in
      subst (λ z. FileAgain around (is_text before) e n members z us) (append-nil texts)
      (skip-again around edge n (place_of ps) text texts [] members before e us refl less text_edge (subst (λ z. Mean (file_parts before z members) us) (sym (append-nil texts)) mean)
      (λ b z vs here. let x = tail_again around z (n + length texts) b members vs written here in record { member_others = x.others; others = []; spelled = x.spelled; stop = λ i. x.stop; member_alike = x.alike; alike = al.no_node }))
  file_again _ _ _ _ _ _ (g.item edge disposes n m text p ps us vs texts nodes a found run is one more) known before e ws less text_edge mean =
      let all = behind-known texts (a ∷ nodes) known in
      let plain = item-leaves source (n + length texts) (p ∷ us) vs m a one in
      item-file around edge (is_edge p.kind) n (place_of ps) text texts a nodes members before e ws is less text_edge mean
      (λ b xs here.
      let y = item-again source around (n + length texts) (p ∷ us) vs m a one all.0 (file_parts (node a).leaves nodes members) xs (item-here around a nodes members b xs plain here) in
      let z = file_again (is_edge p.kind) m vs disposes found nodes more all.1 (node a).leaves (is_edge p.kind) y.rest (λ i. i) (λ i. absurd (false≢true (sym plain ∙ i))) y.mean in
      record {
        i = m;
        p = y.p;
        inner = y.behind;
        rest = y.rest;
        other = y.other;
        member_others = z.member_others;
        others = z.others;
        split = y.split;
        stop = subst (λ q. literal_run q ≡ ([], q)) y.split (stops y.p.kind y.p y.behind refl y.plain);
        edged = y.edged;
        item = y.spelled;
        behind = z.spelled;
        alike = al.one_node a y.other nodes z.others y.alike z.alike;
        member_alike = z.member_alike;
      })
  file_again _ _ _ _ _ _ (g.code edge disposes n text at end ps vs ts texts nodes first others run is begins braces ends more) known before e us less text_edge mean =
      skip-again around edge n (place_of ps) text texts nodes members before e us is less text_edge mean
      (λ b z xs here. file_again true (n + length texts) vs disposes others nodes more (behind-known texts nodes known) b z xs (λ i. refl) (λ i. refl) here)
  file_again _ _ _ _ _ _ (g.directive edge disposes n text at end ps vs ts texts nodes others run is begins ends more) known before e us less text_edge mean =
      skip-again around edge n (place_of ps) text texts nodes members before e us is less text_edge mean
      (λ b z xs here. file_again true (n + length texts) vs disposes others nodes more (behind-known texts nodes known) b z xs (λ i. refl) (λ i. refl) here)
  file_again _ _ _ _ _ _ (g.implements edge disposes n text at ps vs texts nodes others run is begins more) known before e us less text_edge mean =
      skip-again around edge n (place_of ps) text texts nodes members before e us is less text_edge mean
      (λ b z xs here. file_again true (n + length texts) vs disposes others nodes more (behind-known texts nodes known) b z xs (λ i. refl) (λ i. refl) here)
