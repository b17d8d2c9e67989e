-- Printable components are printed in the forms that are cut as meant.
use Rattle.std.proofs.Common.{◌≡◌, ℕ, Bool, true, false, List, [], ◌∷◌, ◌++◌, map, refl, sym, ap, ◌∙◌, subst, append-nil}
use Rattle.std.specs.Prelude.{◌&&◌, if◌then◌else◌}
use Rattle.cs_ast.specs.declared.member.Member.{Member}
use Rattle.cs_grammar.specs.Members.{SpelledMembers}
use Rattle.cs_print.specs.PrintedMembers.{members_kinds}
use Rattle.razor_ast.specs.declared.node.TNode.{TNode}
use Rattle.razor_print.specs.declared.before.Before.{Before}
use Rattle.razor_print.specs.declared.before.Before.TheVariants as bf
use Rattle.razor_print.specs.Components.{code_section, members_section, parting, file_from, behind_all}
use Rattle.razor_print.specs.Nodes.{Printed, is_text, is_parted, parted, item, behind_text, literal, node}
use Rattle.razor_print.specs.Parts.{Parts}
use Rattle.razor_print.specs.Parts as parts
use Rattle.razor_print.proofs.NodeLaws as law
use Rattle.printed_pieces.specs.PrintableNodes.{IsContentText, FilePrints, ItemPrints}
use Rattle.printed_pieces.specs.PrintableNodes as pn
use Rattle.printed_pieces.specs.Written.{IsWritten}
use Rattle.printed_pieces.proofs.Forms.{IsItem}
use Rattle.printed_pieces.proofs.Forms as f
use Rattle.printed_pieces.proofs.FileLaws.{IsFile, section_of, section_text, file-join}
use Rattle.printed_pieces.proofs.FileLaws as l
use Rattle.printed_pieces.proofs.NodeForms.{item-form}
use Rattle.printed_pieces.proofs.NodeParts.{ItemText, said-item, text-leaves, other-word, unparted}
use Rattle.printed_pieces.proofs.ShownLaws.{IsClosed}
use Rattle.printed_pieces.proofs.WrittenCode.{closed-none, closed-members}

-- parts of a file, with some text
pub record FileText (b last : Before) (ps : Parts) : Type 0 where
  pub text : List ℕ
  pub is : IsFile b last ps text

pub join-files : (b middle last : Before) (ps qs : Parts) → FileText b middle ps → FileText middle last qs → FileText b last (ps ++ qs)
join-files b middle last ps qs one two = record { text = one.text ++ two.text; is = file-join b middle last ps qs one.text two.text one.is two.is }

one-part : (b left : Before) (ps : Parts) (text : List ℕ) → IsItem b left ps text → FileText b left ps
one-part b left ps text is = subst (λ z. FileText b left z) (append-nil ps) (record { text = text ++ []; is = l.part b left left ps [] text [] is (l.nothing left) })

-- `@code` behind such a node
section-file : (b : Before) (members : List Member) → IsClosed (members_kinds members) → FileText b bf.Other (code_section b members)
section-file b members is = go (is_parted b true false) refl
  where
    alone : (b : Before) → (b ≡ bf.Word → ⊥) → FileText b bf.Other (section_of (members_kinds members))
    alone b apart = subst (λ z. FileText b bf.Other z) (append-nil (section_of (members_kinds members))) (record { text = _; is = l.section b bf.Other (members_kinds members) [] [] apart is (l.nothing bf.Other) })

    go : (p : Bool) → is_parted b true false ≡ p → FileText b bf.Other (parted p (section_of (members_kinds members)))
    go true e = join-files b bf.Other bf.Other (parts.apart ∷ []) (section_of (members_kinds members)) (one-part b bf.Other (parts.apart ∷ []) _ (f.apart b)) (alone bf.Other other-word)
    go false e = alone b (λ word. unparted b true false e refl word)

-- a part that isn't literal text
place-part : (b : Before) (z : Printed) → ItemText z → FileText b z.leaves (item b z)
place-part b z h = go (is_parted b z.marked (is_text z.leaves)) refl
  where
    go : (p : Bool) → is_parted b z.marked (is_text z.leaves) ≡ p → FileText b z.leaves (parted p z.content)
    go true e = join-files b bf.Other z.leaves (parts.apart ∷ []) z.content (one-part b bf.Other (parts.apart ∷ []) _ (f.apart b)) (one-part bf.Other z.leaves z.content h.text (h.is bf.Other (λ m word. other-word word)))
    go false e = one-part b z.leaves z.content h.text (h.is b (λ m word. unparted b z.marked (is_text z.leaves) e m word))

no-parting : (b : Bool) → (b && false) ≡ false
no-parting true = refl
no-parting false = refl

item-file : (b : Before) (z : Printed) → ItemText z → FileText b z.leaves (parting b z.leaves ++ item b z)
item-file b z h =
    subst (λ (y : Bool). FileText b z.leaves ((if y then code_section b [] else []) ++ item b z)) (sym (ap (λ (y : Bool). is_text b && y) h.no_text ∙ no-parting (is_text b))) (place-part b z h)

-- literal text behind another is parted from it
text-here : (b : Before) (text : List ℕ) (said : Bool) → is_text b ≡ said → IsContentText text → FileText b (behind_text text) ((if said && true then code_section b [] else []) ++ parted (is_parted b false true) (parts.said text ∷ []))
text-here bf.Other text _ e is = subst (λ (y : Bool). FileText bf.Other (behind_text text) ((if y && true then code_section bf.Other [] else []) ++ (parts.said text ∷ []))) e (one-part bf.Other (behind_text text) (parts.said text ∷ []) _ (said-item bf.Other text refl is))
text-here bf.If text _ e is =
    subst (λ (y : Bool). FileText bf.If (behind_text text) ((if y && true then code_section bf.If [] else []) ++ (parts.apart ∷ parts.said text ∷ []))) e
    (join-files bf.If bf.Other (behind_text text) (parts.apart ∷ []) (parts.said text ∷ []) (one-part bf.If bf.Other (parts.apart ∷ []) _ (f.apart bf.If)) (one-part bf.Other (behind_text text) (parts.said text ∷ []) _ (said-item bf.Other text refl is)))
text-here bf.Text text _ e is =
    subst (λ (y : Bool). FileText bf.Text (behind_text text) ((if y && true then code_section bf.Text [] else []) ++ (parts.said text ∷ []))) e
    (join-files bf.Text bf.Other (behind_text text) (code_section bf.Text []) (parts.said text ∷ []) (section-file bf.Text [] closed-none) (one-part bf.Other (behind_text text) (parts.said text ∷ []) _ (said-item bf.Other text refl is)))
text-here bf.Word text _ e is =
    subst (λ (y : Bool). FileText bf.Word (behind_text text) ((if y && true then code_section bf.Word [] else []) ++ (parts.said text ∷ []))) e
    (join-files bf.Word bf.Other (behind_text text) (code_section bf.Word []) (parts.said text ∷ []) (section-file bf.Word [] closed-none) (one-part bf.Other (behind_text text) (parts.said text ∷ []) _ (said-item bf.Other text refl is)))

text-file : (b : Before) (text : List ℕ) → IsContentText text → FileText b (behind_text text) (parting b (behind_text text) ++ item b (literal text))
text-file b text is =
    subst (λ (y : Bool). FileText b (behind_text text) ((if is_text b && y then code_section b [] else []) ++ parted (is_parted b false y) (parts.said text ∷ []))) (sym (text-leaves _)) (text-here b text (is_text b) refl is)

-- the nodes of a file
pub file-form : (nodes : List TNode) → FilePrints nodes → (b : Before) → FileText b (behind_all b (map node nodes)) (file_from b (map node nodes))
file-form _ pn.no_node b = record { text = []; is = l.nothing b }
file-form _ (pn.file_text n p said others is later) b =
    subst (λ (z : Printed). FileText b (behind_all z.leaves (map node others)) ((parting b z.leaves ++ item b z) ++ file_from z.leaves (map node others))) (sym (law.node_text n p said))
    (join-files b (behind_text said) _ (parting b (behind_text said) ++ item b (literal said)) (file_from (behind_text said) (map node others)) (text-file b said is) (file-form others later (behind_text said)))
file-form _ (pn.file_raw n p said others is later) b =
    subst (λ (z : Printed). FileText b (behind_all z.leaves (map node others)) ((parting b z.leaves ++ item b z) ++ file_from z.leaves (map node others))) (sym (law.node_raw n p said))
    (join-files b (behind_text said) _ (parting b (behind_text said) ++ item b (literal said)) (file_from (behind_text said) (map node others)) (text-file b said is) (file-form others later (behind_text said)))
file-form _ (pn.file_item x others is later) b =
    join-files b (node x).leaves _ (parting b (node x).leaves ++ item b (node x)) (file_from (node x).leaves (map node others)) (item-file b (node x) (item-form x is)) (file-form others later (node x).leaves)

-- what may be left behind them
pub record Last (b : Before) (ps : Parts) : Type 0 where
  pub last : Before
  pub text : List ℕ
  pub is : IsFile b last ps text

pub members-form : (b : Before) (members : List Member) → IsWritten SpelledMembers members → Last b (members_section b members)
members-form b [] is = record { last = b; text = []; is = l.nothing b }
members-form b (member ∷ members) is = let found = section-file b (member ∷ members) (closed-members (member ∷ members) is) in record { last = bf.Other; text = found.text; is = found.is }
