-- Whole components that stand in a text are printable.
use Rattle.std.proofs.Common.{◌≡◌, ℕ, ◌+◌, Bool, true, false, List, [], ◌∷◌, ◌++◌, length, refl, sym, ap, subst, append-nil}
use Rattle.std.specs.Prelude.{if◌then◌else◌}
use Rattle.std.specs.List.{list_all}
use Rattle.text_core.specs.declared.place.Place.{Place}
use Rattle.cs_ast.specs.declared.member.Member.{Member}
use Rattle.cs_token.specs.declared.token.Token.{Token}
use Rattle.cs_token.specs.declared.token.TokenKind.TheVariants as t
use Rattle.cs_token.specs.declared.token.Sign.TheVariants as s
use Rattle.cs_grammar.specs.Members.{SpelledMembers}
use Rattle.cs_grammar.specs.Members as members
use Rattle.razor_token.specs.declared.piece.Piece.{Piece}
use Rattle.razor_token.specs.declared.piece.PieceKind.TheVariants as k
use Rattle.razor_token.specs.declared.runs.RunKind.TheVariants as r
use Rattle.razor_ast.specs.declared.node.TNode.{TNode}
use Rattle.razor_ast.specs.declared.node.TNode.TheVariants as nd
use Rattle.razor_ast.specs.Components.{SpelledBlock, Whole}
use Rattle.razor_ast.specs.Components as spelled
use Rattle.razor_ast.specs.Literals.{place_of, is_edge, is_raw, is_kept, text_node, text_nodes}
use Rattle.razor_ast.specs.Pieces.{codes_of}
use Rattle.printed_pieces.specs.Places.{is_said}
use Rattle.printed_pieces.specs.PrintableNodes.{content_text, FilePrints}
use Rattle.printed_pieces.specs.PrintableNodes as prints
use Rattle.printed_pieces.specs.Written.{begins_part, no_token, IsWritten}
use Rattle.printable_texts.specs.Stands.{content, Stands, one_more, is_no_lead}
use Rattle.printable_texts.proofs.TokenLaws.{codes_stand, begins_codes, step, proper_front, proper_behind, proper_both}
use Rattle.printable_texts.proofs.NodeLaws.{run_of_text, item_prints}
use Rattle.printable_texts.proofs.MembersBefore.{members_both}

texts_print : (before behind : Bool) (n : ℕ) (p : Place) (text : List ℕ) (others : List TNode) → list_all (is_said r.Content) text ≡ true → FilePrints others → FilePrints (text_nodes before behind n p text ++ others)
texts_print before behind n p [] others all h = h
texts_print before behind n p (c ∷ text) others all h = kept (is_kept before behind (c ∷ text))
  where
    one : (b : Bool) → FilePrints ((if b then nd.Raw n p (c ∷ text) else nd.Text n p (c ∷ text)) ∷ others)
    one true = prints.file_raw n p (c ∷ text) others (content_text c text all) h
    one false = prints.file_text n p (c ∷ text) others (content_text c text all) h

    kept : (b : Bool) → FilePrints ((if b then text_node n p (c ∷ text) ∷ [] else []) ++ others)
    kept true = one (is_raw (c ∷ text))
    kept false = h

texts_are : (before behind : Bool) (n : ℕ) (p : Place) (text : List ℕ) (texts others : List TNode) → texts ≡ text_nodes before behind n p text → list_all (is_said r.Content) text ≡ true → FilePrints others → FilePrints (texts ++ others)
texts_are before behind n p text texts others is all h = subst (λ z. FilePrints (z ++ others)) (sym is) (texts_print before behind n p text others all h)

-- members, whose tokens literal text doesn't begin
pub record MembersWritten (all : List Member) : Type 0 where
  pub written : IsWritten SpelledMembers all
  pub begins : begins_part written.tokens ≡ false

no_members : MembersWritten []
no_members = record { written = record { tokens = []; proper = no_token; tree = members.none }; begins = refl }

no_part_both : (ts us : List Token) → begins_part ts ≡ false → begins_part us ≡ false → begins_part (ts ++ us) ≡ false
no_part_both [] us d e = e
no_part_both (u ∷ ts) us d e = d

no_part_front : (ts us : List Token) → begins_part (ts ++ us) ≡ false → begins_part ts ≡ false
no_part_front [] us e = refl
no_part_front (u ∷ ts) us e = e

members_more : (first others : List Member) → MembersWritten first → MembersWritten others → MembersWritten (first ++ others)
members_more first others one more =
    record {
      written = record {
        tokens = one.written.tokens ++ more.written.tokens;
        proper = proper_both one.written.tokens more.written.tokens one.written.proper more.written.proper more.begins;
        tree = members_both one.written.tokens more.written.tokens first others one.written.tree more.written.tree;
      };
      begins = no_part_both one.written.tokens more.written.tokens one.begins more.begins;
    }

behind_brace : (o : Token) (ts : List Token) (us : List Piece) → o.kind ≡ t.Sign s.OpenBrace → Stands content (codes_of (o ∷ ts) ++ us) → begins_part ts ≡ false
behind_brace o ts us is (one_more _ _ _ _ _ _ apart _) = begins_codes ts us (apart (ap (λ z. is_no_lead (k.Code z)) is))

block_written : (ts : List Token) (us : List Piece) (all : List Member) → SpelledBlock ts all → Stands content (codes_of ts ++ us) → MembersWritten all × Stands content us
block_written _ us all (spelled.block o c ts _ is h _) here =
    let codes = codes_stand content (o ∷ (ts ++ c ∷ [])) us here in (
      record {
        written = record { tokens = ts; proper = proper_front ts (c ∷ []) (proper_behind (o ∷ []) (ts ++ c ∷ []) codes.0); tree = h };
        begins = no_part_front ts (c ∷ []) (behind_brace o (ts ++ c ∷ []) us is here);
      },
      codes.1,
    )

pub record WholePrints (all : List Member) (nodes : List TNode) : Type 0 where
  pub content : FilePrints nodes
  pub members_so : MembersWritten all

module _ (around : Piece → List ℕ) where
  pub whole_prints : (edge : Bool) (n : ℕ) (ps : List Piece) (disposes : Bool) (all : List Member) (nodes : List TNode) → Whole around edge n ps disposes all nodes → Stands content ps → WholePrints all nodes
  whole_prints edge n ps disposes _ _ (spelled.last _ _ text _ run) here =
      let said = run_of_text ps [] text run here in
      record { content = subst FilePrints (append-nil _) (texts_print edge true n (place_of ps) text [] said.0 prints.no_node); members_so = no_members }
  whole_prints edge n ps disposes all _ (spelled.item _ _ _ i text p _ us vs texts others node _ run is h hs) here =
      let said = run_of_text ps (p ∷ us) text run here in
      let one = item_prints around (n + length texts) i (p ∷ us) vs node h said.1 in
      let more = whole_prints (is_edge p.kind) i vs disposes all others hs one.1 in
      record { content = texts_are edge (is_edge p.kind) n (place_of ps) text texts (node ∷ others) is said.0 (prints.file_item node others one.0 more.content); members_so = more.members_so }
  whole_prints edge n ps disposes _ _ (spelled.code _ _ _ text at end _ vs ts texts others first later run is marks h ends hs) here =
      let said = run_of_text ps (at ∷ (codes_of ts ++ end ∷ vs)) text run here in
      let block = block_written ts (end ∷ vs) first h (step content k.MembersAt at (codes_of ts ++ end ∷ vs) marks said.1).2 in
      let more = whole_prints true (n + length texts) vs disposes later others hs (step content k.ExpressionEnd end vs ends block.1).2 in
      record { content = texts_are edge true n (place_of ps) text texts others is said.0 more.content; members_so = members_more first later block.0 more.members_so }
  whole_prints edge n ps disposes all _ (spelled.directive _ _ _ text at end _ vs ts texts others _ run is marks ends hs) here =
      let said = run_of_text ps (at ∷ (codes_of ts ++ end ∷ vs)) text run here in
      let codes = codes_stand content ts (end ∷ vs) (step content k.Directive at (codes_of ts ++ end ∷ vs) marks said.1).2 in
      let more = whole_prints true (n + length texts) vs disposes all others hs (step content k.DirectiveEnd end vs ends codes.1).2 in
      record { content = texts_are edge true n (place_of ps) text texts others is said.0 more.content; members_so = more.members_so }
  whole_prints edge n ps _ all _ (spelled.implements _ other _ text at _ vs texts others _ run is marks hs) here =
      let said = run_of_text ps (at ∷ vs) text run here in
      let more = whole_prints true (n + length texts) vs other all others hs (step content k.Implements at vs marks said.1).2 in
      record { content = texts_are edge true n (place_of ps) text texts others is said.0 more.content; members_so = more.members_so }
