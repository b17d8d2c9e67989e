-- Literal text of printed files.
use Rattle.std.proofs.Common.{◌≡◌, ℕ, ◌+◌, Bool, true, false, not, ◌&&◌, ◌||◌, List, [], ◌∷◌, ◌++◌, length, refl, sym, ap, ◌∙◌, subst, append_assoc, arith}
use Rattle.std.specs.Prelude.{if◌then◌else◌}
use Rattle.std.proofs.lemmas.Bool.{false≢true}
use Rattle.text_core.specs.declared.place.Place.{Place}
use Rattle.cs_ast.specs.declared.member.Member.{Member}
use Rattle.cs_print.specs.Alike.{AlikeMembers, Each}
use Rattle.cs_print.specs.Alike as each
use Rattle.razor_token.specs.declared.piece.Piece.{Piece}
use Rattle.razor_ast.specs.declared.node.TNode.{TNode}
use Rattle.razor_ast.specs.Components.{Whole}
use Rattle.razor_ast.specs.Components as g
use Rattle.razor_ast.specs.Literals.{literal_run, place_of, is_edge, is_kept, is_white, text_node, text_nodes}
use Rattle.razor_ast.specs.Nodes.{Item}
use Rattle.razor_print.specs.declared.before.Before.{Before}
use Rattle.razor_print.specs.Components.{code_section, parting}
use Rattle.razor_print.specs.Nodes.{is_text, is_parted, parted, item, behind_text, literal}
use Rattle.razor_print.specs.Parts.{Parts}
use Rattle.razor_print.specs.Parts as parts
use Rattle.printed_pieces.specs.Meant.{Mean}
use Rattle.printed_pieces.proofs.NodeParts.{text-leaves}
use Rattle.printing_nodes.proofs.FileParts.{Section, members_again, no-members}
use Rattle.printing_nodes.proofs.TextsAgain.{unparted}

-- where no edge is more, what is kept stays
pub kept-still : (e edge behind : Bool) (text : List ℕ) → (e ≡ true → edge ≡ true) → is_kept edge behind text ≡ true → is_kept e behind text ≡ true
kept-still e edge behind [] less kept = kept
kept-still e edge behind (c ∷ text) less kept = go e (is_white (c ∷ text)) less kept
  where
    go : (e white : Bool) → (e ≡ true → edge ≡ true) → not (white && (edge || behind)) ≡ true → not (white && (e || behind)) ≡ true
    go e false less kept = refl
    go true true less kept = subst (λ z. not (z || behind) ≡ true) (less refl) kept
    go false true less kept = go2 edge kept
      where
        go2 : (z : Bool) → not (z || behind) ≡ true → not behind ≡ true
        go2 true kept = absurd (false≢true kept)
        go2 false kept = kept

-- what is kept before an edge isn't white space alone
pub kept-plain : (edge : Bool) (text : List ℕ) → is_kept edge true text ≡ true → is_white text ≡ false
kept-plain edge [] kept = absurd (false≢true kept)
kept-plain edge (c ∷ text) kept = go edge (is_white (c ∷ text)) kept
  where
    go : (edge white : Bool) → not (white && (edge || true)) ≡ true → white ≡ false
    go edge false kept = refl
    go true true kept = absurd (false≢true kept)
    go false true kept = absurd (false≢true kept)

-- and is kept everywhere
pub plain-kept : (edge behind : Bool) (text : List ℕ) → is_white text ≡ false → is_kept edge behind text ≡ true
plain-kept edge behind [] plain = absurd (false≢true (sym plain))
plain-kept edge behind (c ∷ text) plain = ap (λ w. not (w && (edge || behind))) plain

pub kept-nodes : (edge behind : Bool) (n : ℕ) (p : Place) (text : List ℕ) → is_kept edge behind text ≡ true → text_node n p text ∷ [] ≡ text_nodes edge behind n p text
kept-nodes edge behind n p text kept = sym (ap (λ (b : Bool). if b then text_node n p text ∷ [] else []) kept)

pub no-nodes : (edge behind : Bool) (n : ℕ) (p : Place) (text : List ℕ) → [] ≡ text → text_nodes edge behind n p text ≡ []
no-nodes edge behind n p text e = subst (λ z. text_nodes edge behind n p z ≡ []) e refl

-- nothing literal stands first
run-text : (text : List ℕ) (ps others : List Piece) → literal_run ps ≡ ([], ps) → literal_run ps ≡ (text, others) → [] ≡ text
run-text text ps others stop run = ap (λ (z : List ℕ × List Piece). z.0) (sym stop ∙ run)

run-rest : (text : List ℕ) (ps others : List Piece) → literal_run ps ≡ ([], ps) → literal_run ps ≡ (text, others) → ps ≡ others
run-rest text ps others stop run = ap (λ (z : List ℕ × List Piece). z.1) (sym stop ∙ run)

module _ (around : Piece → List ℕ) where
  -- literal text that isn't white space alone, before what no literal text begins
  pub with-text : (edge : Bool) (i : ℕ) (ps : List Piece) (disposes : Bool) (members : List Member) (nodes : List TNode) → Whole around edge i ps disposes members nodes → (e : Bool) (n : ℕ) (text : List ℕ) (us : List Piece)
      → i ≡ n + 1 → literal_run ps ≡ ([], ps) → is_white text ≡ false → literal_run us ≡ (text, ps) → Whole around e n us disposes members (text_node n (place_of us) text ∷ nodes)
  with-text _ _ _ _ _ _ (g.last edge i said ps run) e n text us number stop plain here =
      let none = no-nodes edge true i (place_of ps) said (run-text said ps [] stop run) in
      subst (λ z. Whole around e n us false [] z) (sym (kept-nodes e true n (place_of us) text (plain-kept e true text plain)) ∙ ap (λ z. text_node n (place_of us) text ∷ z) (sym none))
      (g.last e n text us (here ∙ ap (λ z. (text, z)) (run-rest said ps [] stop run)))
  with-text _ _ _ _ _ _ (g.item edge disposes i m said p ps xs vs texts nodes a members run is one more) e n text us number stop plain here =
      let none = is ∙ no-nodes edge (is_edge p.kind) i (place_of ps) said (run-text said ps (p ∷ xs) stop run) in
      let same : i + length texts ≡ n + 1 = ap (λ z. i + length z) none ∙ ap (λ z. z + 0) number ∙ omega arith in
      subst (λ z. Whole around e n us disposes members (text_node n (place_of us) text ∷ (z ++ a ∷ nodes))) (sym none)
      (g.item e disposes n m text p us xs vs (text_node n (place_of us) text ∷ []) nodes a members (here ∙ ap (λ z. (text, z)) (run-rest said ps (p ∷ xs) stop run))
      (kept-nodes e (is_edge p.kind) n (place_of us) text (plain-kept e (is_edge p.kind) text plain)) (subst (λ z. Item around z (p ∷ xs) vs m a) same one) more)
  with-text _ _ _ _ _ _ (g.code edge disposes i said at end ps vs ts texts nodes first members run is begins braces ends more) e n text us number stop plain here =
      let none = is ∙ no-nodes edge true i (place_of ps) said (run-text said ps _ stop run) in
      let same : i + length texts ≡ n + 1 = ap (λ z. i + length z) none ∙ ap (λ z. z + 0) number ∙ omega arith in
      subst (λ z. Whole around e n us disposes (first ++ members) (text_node n (place_of us) text ∷ (z ++ nodes))) (sym none)
      (g.code e disposes n text at end us vs ts (text_node n (place_of us) text ∷ []) nodes first members (here ∙ ap (λ z. (text, z)) (run-rest said ps _ stop run))
      (kept-nodes e true n (place_of us) text (plain-kept e true text plain)) begins braces ends (subst (λ z. Whole around true z vs disposes members nodes) same more))
  with-text _ _ _ _ _ _ (g.directive edge disposes i said at end ps vs ts texts nodes members run is begins ends more) e n text us number stop plain here =
      let none = is ∙ no-nodes edge true i (place_of ps) said (run-text said ps _ stop run) in
      let same : i + length texts ≡ n + 1 = ap (λ z. i + length z) none ∙ ap (λ z. z + 0) number ∙ omega arith in
      subst (λ z. Whole around e n us disposes members (text_node n (place_of us) text ∷ (z ++ nodes))) (sym none)
      (g.directive e disposes n text at end us vs ts (text_node n (place_of us) text ∷ []) nodes members (here ∙ ap (λ z. (text, z)) (run-rest said ps _ stop run))
      (kept-nodes e true n (place_of us) text (plain-kept e true text plain)) begins ends (subst (λ z. Whole around true z vs disposes members nodes) same more))
  with-text _ _ _ _ _ _ (g.implements edge disposes i said at ps vs texts nodes members run is begins more) e n text us number stop plain here =
      let none = is ∙ no-nodes edge true i (place_of ps) said (run-text said ps _ stop run) in
      let same : i + length texts ≡ n + 1 = ap (λ z. i + length z) none ∙ ap (λ z. z + 0) number ∙ omega arith in
      subst (λ z. Whole around e n us true members (text_node n (place_of us) text ∷ (z ++ nodes))) (sym none)
      (g.implements e disposes n text at us vs (text_node n (place_of us) text ∷ []) nodes members (here ∙ ap (λ z. (text, z)) (run-rest said ps _ stop run))
      (kept-nodes e true n (place_of us) text (plain-kept e true text plain)) begins (subst (λ z. Whole around true z vs disposes members nodes) same more))

-- Literal text, before which an empty `@code` stands where text stands before it.
pub data Placed (us : List Piece) : Bool → List Piece → Type 0 where
  direct : Placed us false us
  behind : (y : Section [] us) → y.others ≡ [] → Placed us true y.rest

pub record TextPart (text : List ℕ) (said : Bool) (more : Parts) (us : List Piece) : Type 0 where
  pub rest : List Piece
  pub placed : Placed us said rest
  pub mean : Mean (parts.said text ∷ more) rest

no-others : (ys : List Member) → Each AlikeMembers [] ys → ys ≡ []
no-others _ each.none = refl

unsaid : (b : Bool) (text : List ℕ) (more : Parts) (us : List Piece) → Mean (parted b (parts.said text ∷ []) ++ more) us → Mean (parts.said text ∷ more) us
unsaid b text more us mean = unparted b (parts.said text ∷ []) more us mean

pub text-part : (before : Before) (text : List ℕ) (x more : Parts) (us : List Piece) → Mean (((parting before (behind_text text) ++ item before (literal text)) ++ x) ++ more) us → TextPart text (is_text before) (x ++ more) us
text-part before text x more us mean =
    go (is_text before) (is_text (behind_text text)) (text-leaves _)
    (subst (λ z. Mean z us) (append_assoc (parting before (behind_text text) ++ item before (literal text)) x more ∙ append_assoc (parting before (behind_text text)) (item before (literal text)) (x ++ more)) mean)
  where
    go : (said next : Bool) → next ≡ true → Mean ((if said && next then code_section before [] else []) ++ (parted (is_parted before false next) (parts.said text ∷ []) ++ (x ++ more))) us → TextPart text said (x ++ more) us
    go false next e here = record { rest = us; placed = direct; mean = unsaid (is_parted before false next) text (x ++ more) us here }
    go true true e here =
        let y = members_again before [] (parted (is_parted before false true) (parts.said text ∷ []) ++ (x ++ more)) us no-members here in
        record { rest = y.part.rest; placed = behind y.part (no-others y.part.others y.part.alike); mean = unsaid (is_parted before false true) text (x ++ more) y.part.rest y.mean }
    go true false e here = absurd (false≢true e)
