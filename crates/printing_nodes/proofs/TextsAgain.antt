-- Literal text before a node, or behind the last one, is spelled again.
use Rattle.std.proofs.Common.{◌≡◌, ℕ, Bool, true, false, List, [], ◌∷◌, ◌++◌, map, length, None, refl, sym, ap, ◌∙◌, subst, append_assoc}
use Rattle.std.specs.Prelude.{if◌then◌else◌}
use Rattle.text_core.specs.declared.place.Place.{Place}
use Rattle.razor_token.specs.declared.piece.Piece.{Piece}
use Rattle.razor_token.specs.declared.piece.PieceKind.{PieceKind}
use Rattle.razor_ast.specs.declared.node.TNode.{TNode}
use Rattle.razor_ast.specs.declared.node.TNode.TheVariants as nd
use Rattle.razor_ast.specs.Literals.{literal_of, literal_run, place_of, is_kept, is_raw, text_node, text_nodes}
use Rattle.razor_print.specs.declared.before.Before.{Before}
use Rattle.razor_print.specs.Nodes.{Printed, is_text, is_parted, parted, item, content_from, behind_text, literal, node}
use Rattle.razor_print.specs.Parts.{Parts}
use Rattle.razor_print.specs.Parts as parts
use Rattle.razor_print.proofs.NodeLaws as law
use Rattle.printed_pieces.specs.Meant.{Mean}
use Rattle.printed_pieces.specs.Meant as m
use Rattle.printing_again.proofs.MeantLaws.{first-piece}
use Rattle.printing_again.proofs.PartsAgain.{first-said, run-says, stops}
use Rattle.printing_nodes.specs.AlikeNodes.{AlikeNodes, AlikeContent}
use Rattle.printing_nodes.specs.AlikeNodes as al
use Rattle.printing_nodes.specs.Answers.{Stops}

pub node-text : (n : ℕ) (p : Place) (text : List ℕ) → node (text_node n p text) ≡ literal text
node-text n p text = go (is_raw text)
  where
    go : (b : Bool) → node (if b then nd.Raw n p text else nd.Text n p text) ≡ literal text
    go true = law.node_raw n p text
    go false = law.node_text n p text

pub alike-text : (n : ℕ) (p q : Place) (text : List ℕ) → AlikeNodes (text_node n p text) (text_node n q text)
alike-text n p q text = go (is_raw text)
  where
    go : (b : Bool) → AlikeNodes (if b then nd.Raw n p text else nd.Text n p text) (if b then nd.Raw n q text else nd.Text n q text)
    go true = al.raw n p q text
    go false = al.text n p q text

pub alike-join : (xs ys cs ds : List TNode) → AlikeContent xs ys → AlikeContent cs ds → AlikeContent (xs ++ cs) (ys ++ ds)
alike-join _ _ cs ds al.no_node more = more
alike-join _ _ cs ds (al.one_node a b xs ys one others) more = al.one_node a b (xs ++ cs) (ys ++ ds) one (alike-join xs ys cs ds others more)

-- what is parted by a comment or not
pub unparted : (b : Bool) (x later : Parts) (us : List Piece) → Mean (parted b x ++ later) us → Mean (x ++ later) us
unparted true x later us mean = go (x ++ later) us mean
  where
    go : (more : Parts) (vs : List Piece) → Mean (parts.apart ∷ more) vs → Mean more vs
    go _ _ (m.apart more vs inner) = inner
unparted false x later us mean = mean

-- a node and those behind it
pub first-node : (before : Before) (z : Printed) (others : List Printed) (later : Parts) (us : List Piece) → Mean (content_from before (z ∷ others) ++ later) us → Mean (z.content ++ (content_from z.leaves others ++ later)) us
first-node before z others later us mean =
    unparted (is_parted before z.marked (is_text z.leaves)) z.content _ us (subst (λ y. Mean y us) (append_assoc (item before z) (content_from z.leaves others) later) mean)

-- no literal piece is such a piece
pub stops-piece : (kind : PieceKind) (x : List ℕ) (later : Parts) → literal_of kind ≡ None → Stops (parts.piece kind x ∷ later)
stops-piece kind x later plain us mean =
    let first = first-piece kind x later us mean in
    subst (λ z. literal_run z ≡ ([], z)) first.split (stops kind first.p first.rest first.is plain)

-- The pieces begin with the text, if there is any, and what is behind it is printed of the other nodes.
pub record TextsAgain (edge behind : Bool) (n : ℕ) (texts xs : List TNode) (later : Parts) (us : List Piece) : Type 0 where
  pub text : List ℕ
  pub rest : List Piece
  pub left : Before
  pub others : List TNode
  pub run : literal_run rest ≡ ([], rest) → literal_run us ≡ (text, rest)
  pub is : others ≡ text_nodes edge behind n (place_of us) text
  pub same : length others ≡ length texts
  pub alike : AlikeContent texts others
  pub mean : Mean (content_from left (map node xs) ++ later) rest

text-there : (edge behind : Bool) (n : ℕ) (p : Place) (text : List ℕ) (before : Before) (xs : List TNode) (later : Parts) (us : List Piece) → is_kept edge behind text ≡ true
    → Mean (content_from before (map node (text_node n p text ∷ xs)) ++ later) us → TextsAgain edge behind n (text_node n p text ∷ []) xs later us
text-there edge behind n p text before xs later us kept mean =
    let here = first-node before (literal text) (map node xs) later us (subst (λ (z : Printed). Mean (content_from before (z ∷ map node xs) ++ later) us) (node-text n p text) mean) in
    let x = first-said text (content_from (behind_text text) (map node xs) ++ later) us here in
    record {
      text = text;
      rest = x.rest;
      left = behind_text text;
      others = text_node n (place_of us) text ∷ [];
      run = λ ends. ap literal_run (sym x.split) ∙ run-says text x.us x.rest x.says ends;
      is = sym (ap (λ (b : Bool). if b then text_node n (place_of us) text ∷ [] else []) kept);
      same = refl;
      alike = al.one_node _ _ [] [] (alike-text n p (place_of us) text) al.no_node;
      mean = x.mean;
    }

pub texts-again : (edge behind : Bool) (n : ℕ) (p : Place) (text : List ℕ) (texts : List TNode) → texts ≡ text_nodes edge behind n p text → (before : Before) (xs : List TNode) (later : Parts) (us : List Piece)
    → Mean (content_from before (map node (texts ++ xs)) ++ later) us → TextsAgain edge behind n texts xs later us
texts-again edge behind n p text texts e before xs later us mean = go (is_kept edge behind text) refl
  where
    go : (b : Bool) → is_kept edge behind text ≡ b → TextsAgain edge behind n texts xs later us
    go true kept =
        let one : texts ≡ text_node n p text ∷ [] = e ∙ ap (λ (b : Bool). if b then text_node n p text ∷ [] else []) kept in
        subst (λ z. TextsAgain edge behind n z xs later us) (sym one)
        (text-there edge behind n p text before xs later us kept (subst (λ z. Mean (content_from before (map node (z ++ xs)) ++ later) us) one mean))
    go false dropped =
        let none : texts ≡ [] = e ∙ ap (λ (b : Bool). if b then text_node n p text ∷ [] else []) dropped in
        subst (λ z. TextsAgain edge behind n z xs later us) (sym none)
        (record {
          text = [];
          rest = us;
          left = before;
          others = [];
          run = λ ends. ends;
          is = refl;
          same = refl;
          alike = al.no_node;
          mean = subst (λ z. Mean (content_from before (map node (z ++ xs)) ++ later) us) none mean;
        })
