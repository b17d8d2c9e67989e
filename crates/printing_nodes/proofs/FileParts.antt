-- The parts of printed files: members, and literal text.
use Rattle.std.proofs.Common.{◌≡◌, ℕ, ◌+◌, Bool, true, false, List, [], ◌∷◌, ◌++◌, length, refl, sym, ap, ◌∙◌, subst, append_assoc, append-nil, arith}
use Rattle.cs_ast.specs.declared.member.Member.{Member}
use Rattle.cs_token.specs.declared.token.Token.{Token}
use Rattle.cs_token.specs.declared.token.Sign.TheVariants as s
use Rattle.cs_token.specs.declared.token.TokenKind.TheVariants as t
use Rattle.cs_grammar.specs.Members.{SpelledMembers}
use Rattle.cs_grammar.specs.Members as gm
use Rattle.cs_print.specs.Alike.{AlikeMembers, Each}
use Rattle.cs_print.specs.Alike as each
use Rattle.cs_print.specs.PrintedMembers.{members_kinds}
use Rattle.cs_print.proofs.MemberForms.{members_whole}
use Rattle.razor_token.specs.declared.piece.Piece.{Piece}
use Rattle.razor_token.specs.declared.piece.PieceKind.TheVariants as k
use Rattle.razor_ast.specs.declared.node.TNode.{TNode}
use Rattle.razor_ast.specs.Brackets.{token_of}
use Rattle.razor_ast.specs.Components.{SpelledBlock, Whole}
use Rattle.razor_ast.specs.Components as g
use Rattle.razor_ast.specs.Literals.{literal_run}
use Rattle.razor_ast.specs.Pieces.{IsKind, codes_of}
use Rattle.razor_print.specs.declared.before.Before.{Before}
use Rattle.razor_print.specs.Components.{code_section, members_section}
use Rattle.razor_print.specs.Nodes.{is_parted}
use Rattle.razor_print.specs.Parts.{Parts, tokens, in_block, expression_end, close_brace}
use Rattle.razor_print.specs.Parts as parts
use Rattle.printed_pieces.specs.Meant.{Mean}
use Rattle.printed_pieces.specs.Meant as m
use Rattle.printed_pieces.specs.Written.{IsWritten}
use Rattle.printed_pieces.specs.Written as wr
use Rattle.printed_pieces.proofs.WrittenCode.{proper}
use Rattle.printing_again.proofs.MeantLaws.{first-piece, first-token, first-tokens, piece-is}
use Rattle.printing_again.proofs.PartsAgain.{stops}
use Rattle.printing_nodes.proofs.LineLaws.{codes-join}
use Rattle.printing_nodes.proofs.TextsAgain.{unparted}

-- `@code` with members like these
pub record Section (all : List Member) (us : List Piece) : Type 0 where
  pub at : Piece
  pub end : Piece
  pub ts : List Token
  pub rest : List Piece
  pub others : List Member
  pub split : at ∷ (codes_of ts ++ end ∷ rest) ≡ us
  pub begins : IsKind k.MembersAt at
  pub spelled : SpelledBlock ts others
  pub ends : IsKind k.ExpressionEnd end
  pub alike : Each AlikeMembers all others

-- the same, and what is behind it
pub record MembersAgain (all : List Member) (later : Parts) (us : List Piece) : Type 0 where
  pub part : Section all us
  pub mean : Mean later part.rest

pub members_again : (before : Before) (all : List Member) (later : Parts) (us : List Piece) → IsWritten SpelledMembers all → Mean (code_section before all ++ later) us → MembersAgain all later us
members_again before all later us h mean =
    let ks = members_kinds all in
    let here = unparted (is_parted before true false) (parts.piece k.MembersAt _ ∷ (in_block (tokens ks) ++ expression_end ∷ [])) later us mean in
    let at = first-piece k.MembersAt _ ((in_block (tokens ks) ++ expression_end ∷ []) ++ later) us here in
    let o = first-token (t.Sign s.OpenBrace) (((tokens ks ++ close_brace ∷ []) ++ expression_end ∷ []) ++ later) at.rest at.mean in
    let inner = first-tokens ks (close_brace ∷ expression_end ∷ later) o.rest
    (subst (λ z. Mean z o.rest) (append_assoc (tokens ks ++ close_brace ∷ []) (expression_end ∷ []) later ∙ append_assoc (tokens ks) (close_brace ∷ []) (expression_end ∷ later)) o.mean) in
    let c = first-piece (k.Code (t.Sign s.CloseBrace)) (125 ∷ []) (expression_end ∷ later) inner.rest inner.mean in
    let end = first-piece k.ExpressionEnd [] later c.rest c.mean in
    let open_token = token_of o.p (t.Sign s.OpenBrace) in
    let close_token = token_of c.p (t.Sign s.CloseBrace) in
    let found = (members_whole h.tokens all h.tree (proper h.tokens h.proper)).reads inner.ts inner.are in
    let closing : codes_of (inner.ts ++ close_token ∷ []) ++ end.p ∷ end.rest ≡ o.rest =
    ap (λ y. y ++ end.p ∷ end.rest) (codes-join inner.ts (close_token ∷ []))
    ∙ append_assoc (codes_of inner.ts) (codes_of (close_token ∷ [])) (end.p ∷ end.rest)
    ∙ ap (λ y. codes_of inner.ts ++ y ∷ (end.p ∷ end.rest)) (piece-is c.p (t.Sign s.CloseBrace) c.is)
    ∙ ap (λ y. codes_of inner.ts ++ c.p ∷ y) end.split
    ∙ ap (λ y. codes_of inner.ts ++ y) c.split ∙ inner.split in
    let opening : codes_of (open_token ∷ (inner.ts ++ close_token ∷ [])) ++ end.p ∷ end.rest ≡ at.rest =
    ap (λ y. y ∷ (codes_of (inner.ts ++ close_token ∷ []) ++ end.p ∷ end.rest)) (piece-is o.p (t.Sign s.OpenBrace) o.is) ∙ ap (λ y. o.p ∷ y) closing ∙ o.split in
    record {
      part = record {
        at = at.p;
        end = end.p;
        ts = open_token ∷ (inner.ts ++ close_token ∷ []);
        rest = end.rest;
        others = found.other;
        split = ap (λ y. at.p ∷ y) opening ∙ at.split;
        begins = at.is;
        spelled = g.block open_token close_token inner.ts found.other refl found.tree refl;
        ends = end.is;
        alike = found.alike;
      };
      mean = end.mean;
    }

-- no literal piece stands first
pub at-stops : (at : Piece) (others us : List Piece) → IsKind k.MembersAt at → at ∷ others ≡ us → literal_run us ≡ ([], us)
at-stops at others us is e = subst (λ z. literal_run z ≡ ([], z)) e (stops k.MembersAt at others is refl)

pub nothing-left : (us : List Piece) → Mean [] us → us ≡ []
nothing-left _ m.no_part = refl

pub no-members : IsWritten SpelledMembers []
no-members = record { tokens = []; proper = wr.no_token; tree = gm.SpelledMembers.none }

module _ (around : Piece → List ℕ) where
  -- the members at the end of a file
  pub record TailAgain (e : Bool) (n : ℕ) (all : List Member) (us : List Piece) : Type 0 where
    pub others : List Member
    pub spelled : Whole around e n us false others []
    pub stop : literal_run us ≡ ([], us)
    pub alike : Each AlikeMembers all others

  pub tail_again : (e : Bool) (n : ℕ) (before : Before) (all : List Member) (us : List Piece) → IsWritten SpelledMembers all → Mean (members_section before all) us → TailAgain e n all us
  tail_again e n before [] us h mean =
      subst (λ z. TailAgain e n [] z) (sym (nothing-left us mean)) (record { others = []; spelled = g.last e n [] [] refl; stop = refl; alike = each.none })
  tail_again e n before (x ∷ xs) us h mean =
      let found = members_again before (x ∷ xs) [] us h (subst (λ z. Mean z us) (sym (append-nil (code_section before (x ∷ xs)))) mean) in
      let y = found.part in
      let none = nothing-left y.rest found.mean in
      let stop = at-stops y.at _ us y.begins y.split in
      record {
        others = y.others;
        spelled = subst (λ z. Whole around e n us false z []) (append-nil y.others)
            (g.code e false n [] y.at y.end us y.rest y.ts [] [] y.others [] (stop ∙ ap (λ z. ([], z)) (sym y.split)) refl y.begins y.spelled y.ends
            (subst (λ z. Whole around true (n + length {A = TNode} []) z false [] []) (sym none) (g.last true (n + length {A = TNode} []) [] [] refl)));
        stop = stop;
        alike = y.alike;
      }

  -- an empty `@code` before what is spelled behind it
  pub behind-code : (e : Bool) (n : ℕ) (us : List Piece) (members : List Member) (nodes : List TNode) (y : Section [] us) → y.others ≡ [] → Whole around true n y.rest false members nodes → Whole around e n us false members nodes
  behind-code e n us members nodes y none h =
      let same : n ≡ n + length {A = TNode} [] = omega arith in
      let stop = at-stops y.at _ us y.begins y.split in
      subst (λ z. Whole around e n us false (z ++ members) nodes) none
      (g.code e false n [] y.at y.end us y.rest y.ts [] nodes y.others members (stop ∙ ap (λ z. ([], z)) (sym y.split)) refl y.begins y.spelled y.ends
      (subst (λ z. Whole around true z y.rest false members nodes) same h))
