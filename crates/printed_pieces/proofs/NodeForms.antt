-- Printable content, and printable code with markup, is printed in the forms that are cut as meant.
use Rattle.std.proofs.Common.{◌≡◌, Bool, true, false, List, [], ◌∷◌, ◌++◌, map, Some, None, refl, sym, subst}
use Rattle.std.specs.List.{flat_map}
use Rattle.std.proofs.lemmas.Bool.{false≢true}
use Rattle.cs_token.specs.declared.token.TokenKind.TheVariants as t
use Rattle.cs_token.specs.declared.token.Word.TheVariants as w
use Rattle.cs_print.specs.Printed.{whole, printed, statement_kinds}
use Rattle.cs_print.proofs.LabelsAgain.{labels_kinds}
use Rattle.razor_token.specs.declared.context.Point.{Point}
use Rattle.razor_token.specs.declared.context.Point.TheVariants as point
use Rattle.razor_ast.specs.declared.node.TNode.{TNode}
use Rattle.razor_ast.specs.declared.node.TNode.TheVariants as nd
use Rattle.razor_ast.specs.declared.node.TSection.{TSection}
use Rattle.razor_ast.specs.Statements.{section}
use Rattle.razor_print.specs.declared.before.Before.{Before}
use Rattle.razor_print.specs.declared.before.Before.TheVariants as bf
use Rattle.razor_print.specs.Nodes.{Printed, item, content_from, lines, behind_text, for_head, foreach_head, node, section_parts}
use Rattle.razor_print.specs.Parts.{Parts, tokens, shown, in_block, doubled}
use Rattle.razor_print.specs.Parts as parts
use Rattle.razor_print.proofs.NodeLaws as law
use Rattle.printed_pieces.specs.PrintableNodes.{IsContentText, content_text, ContentPrints, ItemPrints, TagPrints, CodePrints, BodyPrints, OtherwisePrints, StatementPrints, LinePrints, LinesPrint, SectionsPrint}
use Rattle.printed_pieces.specs.PrintableNodes as pn
use Rattle.printed_pieces.proofs.BraceLaws.{is_with}
use Rattle.printed_pieces.proofs.Forms.{takes_text, IsItem, IsContent, IsTag, InHead, InBlock}
use Rattle.printed_pieces.proofs.Forms as f
use Rattle.printed_pieces.proofs.Segments.{Segment, segment-headed, segment-word, segment-none, statement-segment, labels-segment, is_if, BeginsBlock, head-goes, headed-code}
use Rattle.printed_pieces.proofs.Segments as sg
use Rattle.printed_pieces.proofs.WrittenCode.{closed-value, closed-expression, closed-for, closed-foreach}
use Rattle.printed_pieces.proofs.NodeParts.{BlockText, block-join, block-nil, block-more, block-none, block-run, block-braces, block-headed, ContentText, block-markup, ItemText, place-item, place-text, Agrees, agrees-none, either-item, tag-parts, group-parts, section-law, if-parts, while-parts, for-parts, foreach-parts, switch-parts, as-code, HeadText, head-more, PlainHead, plain-head, headed-head, head-as, head-parts, block-parts, headed-item, item-as, coded-as, text_before, none_before}

mutual
  pub content-form : (b : Bool) (nodes : List TNode) → ContentPrints b nodes → (before : Before) → Agrees b before → ContentText before (content_from before (map node nodes))
  content-form _ _ (pn.nothing b) before agrees = record { last = before; text = []; is = f.nothing before }
  content-form _ _ (pn.text n p said others is later) before agrees =
      subst (λ (z : Printed). ContentText before (item before z ++ content_from z.leaves (map node others))) (sym (law.node_text n p said))
      (place-text before said (content_from (behind_text said) (map node others)) (agrees-none before agrees) is (content-form true others later (behind_text said) (text_before (behind_text said))))
  content-form _ _ (pn.raw n p said others is later) before agrees =
      subst (λ (z : Printed). ContentText before (item before z ++ content_from z.leaves (map node others))) (sym (law.node_raw n p said))
      (place-text before said (content_from (behind_text said) (map node others)) (agrees-none before agrees) is (content-form true others later (behind_text said) (text_before (behind_text said))))
  content-form _ _ (pn.item b x others is later) before agrees =
      let h = item-form x is in
      place-item before (node x) (content_from (node x).leaves (map node others)) h (content-form false others later (node x).leaves (none_before (node x).leaves h.no_text))

  pub item-form : (x : TNode) → ItemPrints x → ItemText (node x)
  item-form _ (pn.of_tag x is) = tag-item x is
  item-form _ (pn.of_shown n p e is) = item-as (nd.Content n p e) _ (law.node_content n p e) (either-item (shown (whole (printed e))) _ (λ b. f.shows b (whole (printed e)) (closed-value e is)))
  item-form _ (pn.of_code x is) = code-item false x refl is

  tag-item : (x : TNode) → TagPrints x → ItemText (node x)
  tag-item _ (pn.element n p name all children is attributes void h) =
      let found = tag-parts name.name all children is attributes void (content-form false children h bf.Other (none_before bf.Other refl)) in
      item-as (nd.Element n p name all children) _ (law.node_element n p name all children) (either-item _ found.text (λ b. f.tag b _ found.text found.is))
  tag-item _ (pn.child n p name all children is attributes void h) =
      let found = tag-parts name.name all children is attributes void (content-form false children h bf.Other (none_before bf.Other refl)) in
      item-as (nd.Child n p name all children) _ (law.node_child n p name all children) (either-item _ found.text (λ b. f.tag b _ found.text found.is))

  tag-block : (with_else : Bool) (x : TNode) → TagPrints x → BlockText with_else point.Begins (node x).code point.Begins
  tag-block with_else _ (pn.element n p name all children is attributes void h) =
      let found = tag-parts name.name all children is attributes void (content-form false children h bf.Other (none_before bf.Other refl)) in
      as-code with_else point.Begins (nd.Element n p name all children) _ (law.node_element n p name all children) (block-markup with_else _ found)
  tag-block with_else _ (pn.child n p name all children is attributes void h) =
      let found = tag-parts name.name all children is attributes void (content-form false children h bf.Other (none_before bf.Other refl)) in
      as-code with_else point.Begins (nd.Child n p name all children) _ (law.node_child n p name all children) (block-markup with_else _ found)

  -- in content
  code-item : (b : Bool) (x : TNode) → b ≡ false → CodePrints b x → ItemText (node x)
  code-item _ _ e (pn.block b p items is) =
      let found = lines-form false items is in
      item-as (nd.Block p items) _ (law.node_block p items) (record { text = _; no_text = refl; is = λ before free. f.block before point.Begins (lines (map node items)) found.text found.is })
  code-item _ _ e (pn.if_alone b p x holds is body) =
      item-as (nd.If p x holds None) _ (law.node_if p x holds None) (coded-as true bf.If _ _ (if-parts x (node holds) None)
      (headed-item w.If (whole (printed x)) _ bf.If f.if_word sg.by_if (closed-expression x is) (head-more true (node holds).code (body-head true b holds e body)) (λ goes. refl) refl))
  code-item _ _ e (pn.if_else b p x holds fails is body other) =
      item-as (nd.If p x holds (Some fails)) _ (law.node_if p x holds (Some fails)) (coded-as true bf.If _ _ (if-parts x (node holds) (Some (node fails)))
      (headed-item w.If (whole (printed x)) _ bf.If f.if_word sg.by_if (closed-expression x is) (else-head b holds fails e body (otherwise-head b fails e other)) (λ goes. refl) refl))
  code-item _ _ e (pn.while_ b n p x body is inner) =
      item-as (nd.While n p x body) _ (law.node_while n p x body) (coded-as true bf.Other _ _ (while-parts x (node body))
      (headed-item w.While (whole (printed x)) _ bf.Other f.while_word sg.by_while (closed-expression x is) (plain-head (node body).code (body-plain b body e inner)) (λ goes. absurd (false≢true goes)) refl))
  code-item _ _ e (pn.for_ b n p start test next body one two three inner) =
      item-as (nd.For n p start test next body) _ (law.node_for n p start test next body) (coded-as true bf.Other _ _ (for-parts start test next (node body))
      (headed-item w.For (for_head start test next) _ bf.Other f.for_word sg.by_for (closed-for start test next one two three) (plain-head (node body).code (body-plain b body e inner)) (λ goes. absurd (false≢true goes)) refl))
  code-item _ _ e (pn.foreach_ b n p name x body named is inner) =
      item-as (nd.ForEach n p name x body) _ (law.node_foreach n p name x body) (coded-as true bf.Other _ _ (foreach-parts name.name x (node body))
      (headed-item w.Foreach (foreach_head name.name x) _ bf.Other f.foreach_word sg.by_foreach (closed-foreach name.name x named is) (plain-head (node body).code (body-plain b body e inner)) (λ goes. absurd (false≢true goes)) refl))
  code-item _ _ e (pn.switch_ b p x sections is inner) =
      let found = sections-form false sections inner in
      item-as (nd.Switch p x sections) _ (law.node_switch p x sections) (coded-as true bf.Other _ _ (switch-parts x (map section_parts sections))
      (headed-item w.Switch (whole (printed x)) _ bf.Other f.switch_word sg.by_switch (closed-expression x is) (plain-head _ (record { text = _; is = f.body false point.Begins _ found.text found.is })) (λ goes. absurd (false≢true goes)) refl))

  -- the body of code in content, which is a block
  body-head : (with_else b : Bool) (x : TNode) → b ≡ false → BodyPrints b x → HeadText with_else (node x).code
  body-head with_else _ _ e (pn.in_block b p items is) =
      let found = lines-form with_else items is in
      subst (λ (z : Printed). HeadText with_else z.code) (sym (law.node_block p items)) (record { goes_on = with_else; text = _; is = f.body with_else point.Begins (lines (map node items)) found.text found.is })
  body-head with_else _ _ e (pn.other x is) = absurd (false≢true (sym e))

  body-plain : (b : Bool) (x : TNode) → b ≡ false → BodyPrints b x → PlainHead (node x).code
  body-plain _ _ e (pn.in_block b p items is) =
      let found = lines-form false items is in
      subst (λ (z : Printed). PlainHead z.code) (sym (law.node_block p items)) (record { text = _; is = f.body false point.Begins (lines (map node items)) found.text found.is })
  body-plain _ _ e (pn.other x is) = absurd (false≢true (sym e))

  -- both branches of an `if`
  else-head : (b : Bool) (holds fails : TNode) → b ≡ false → BodyPrints b holds → HeadText false (node fails).code → HeadText true ((node holds).code ++ (parts.token (t.Word w.Else) ∷ (node fails).code))
  else-head _ _ fails e (pn.in_block b p items is) rest =
      let found = lines-form true items is in
      subst (λ (z : Printed). HeadText true (z.code ++ (parts.token (t.Word w.Else) ∷ (node fails).code))) (sym (law.node_block p items))
      (record { goes_on = rest.goes_on; text = _; is = f.otherwise rest.goes_on point.Begins (lines (map node items)) (node fails).code found.text rest.text found.is rest.is })
  else-head _ _ fails e (pn.other x is) rest = absurd (false≢true (sym e))

  otherwise-head : (b : Bool) (x : TNode) → b ≡ false → OtherwisePrints b x → HeadText false (node x).code
  otherwise-head _ _ e (pn.otherwise_body b x is) = body-head false b x e is
  otherwise-head _ _ e (pn.otherwise_if p x holds fails is) = code-head false (nd.If p x holds fails) refl is

  -- the same behind `else`
  code-head : (b : Bool) (x : TNode) → b ≡ false → CodePrints b x → HeadText false (node x).code
  code-head _ _ e (pn.block b p items is) =
      let found = lines-form false items is in
      head-as (nd.Block p items) _ (law.node_block p items) (record { goes_on = false; text = _; is = f.body false point.Begins (lines (map node items)) found.text found.is })
  code-head _ _ e (pn.if_alone b p x holds is body) =
      head-as (nd.If p x holds None) _ (law.node_if p x holds None) (head-parts _ _ (if-parts x (node holds) None)
      (headed-head w.If (whole (printed x)) _ sg.by_if (closed-expression x is) (head-more true (node holds).code (body-head true b holds e body))))
  code-head _ _ e (pn.if_else b p x holds fails is body other) =
      head-as (nd.If p x holds (Some fails)) _ (law.node_if p x holds (Some fails)) (head-parts _ _ (if-parts x (node holds) (Some (node fails)))
      (headed-head w.If (whole (printed x)) _ sg.by_if (closed-expression x is) (else-head b holds fails e body (otherwise-head b fails e other))))
  code-head _ _ e (pn.while_ b n p x body is inner) =
      head-as (nd.While n p x body) _ (law.node_while n p x body) (head-parts _ _ (while-parts x (node body))
      (headed-head w.While (whole (printed x)) _ sg.by_while (closed-expression x is) (body-head false b body e inner)))
  code-head _ _ e (pn.for_ b n p start test next body one two three inner) =
      head-as (nd.For n p start test next body) _ (law.node_for n p start test next body) (head-parts _ _ (for-parts start test next (node body))
      (headed-head w.For (for_head start test next) _ sg.by_for (closed-for start test next one two three) (body-head false b body e inner)))
  code-head _ _ e (pn.foreach_ b n p name x body named is inner) =
      head-as (nd.ForEach n p name x body) _ (law.node_foreach n p name x body) (head-parts _ _ (foreach-parts name.name x (node body))
      (headed-head w.Foreach (foreach_head name.name x) _ sg.by_foreach (closed-foreach name.name x named is) (body-head false b body e inner)))
  code-head _ _ e (pn.switch_ b p x sections is inner) =
      let found = sections-form false sections inner in
      head-as (nd.Switch p x sections) _ (law.node_switch p x sections) (head-parts _ _ (switch-parts x (map section_parts sections))
      (headed-head w.Switch (whole (printed x)) _ sg.by_switch (closed-expression x is) (record { goes_on = false; text = _; is = f.body false point.Begins _ found.text found.is })))

  -- in a block
  code-block : (b : Bool) (x : TNode) → CodePrints b x → (with_else : Bool) (at : Point) → is_with at ≡ false → BlockText with_else at (node x).code point.Begins
  code-block _ _ (pn.block b p items is) with_else at plain =
      as-code with_else at (nd.Block p items) _ (law.node_block p items) (block-braces with_else at point.Begins (lines (map node items)) plain (lines-form false items is))
  code-block _ _ (pn.if_alone b p x holds is body) with_else at plain =
      as-code with_else at (nd.If p x holds None) _ (law.node_if p x holds None) (block-parts with_else at _ _ (if-parts x (node holds) None)
      (block-headed with_else at w.If (whole (printed x)) _ (closed-expression x is) (block-more with_else point.Within point.Begins (node holds).code (body-block b holds body with_else))))
  code-block _ _ (pn.if_else b p x holds fails is body other) with_else at plain =
      as-code with_else at (nd.If p x holds (Some fails)) _ (law.node_if p x holds (Some fails)) (block-parts with_else at _ _ (if-parts x (node holds) (Some (node fails)))
      (block-headed with_else at w.If (whole (printed x)) _ (closed-expression x is)
      (block-join with_else point.Within point.Begins point.Begins (node holds).code (parts.token (t.Word w.Else) ∷ (node fails).code) (body-block b holds body with_else)
      (block-run with_else point.Begins point.Within point.Begins (t.Word w.Else ∷ []) (node fails).code (segment-word point.Begins point.Within w.Else [] (segment-none point.Within)) (otherwise-block b fails other with_else)))))
  code-block _ _ (pn.while_ b n p x body is inner) with_else at plain =
      as-code with_else at (nd.While n p x body) _ (law.node_while n p x body) (block-parts with_else at _ _ (while-parts x (node body))
      (block-headed with_else at w.While (whole (printed x)) _ (closed-expression x is) (body-block b body inner with_else)))
  code-block _ _ (pn.for_ b n p start test next body one two three inner) with_else at plain =
      as-code with_else at (nd.For n p start test next body) _ (law.node_for n p start test next body) (block-parts with_else at _ _ (for-parts start test next (node body))
      (block-headed with_else at w.For (for_head start test next) _ (closed-for start test next one two three) (body-block b body inner with_else)))
  code-block _ _ (pn.foreach_ b n p name x body named is inner) with_else at plain =
      as-code with_else at (nd.ForEach n p name x body) _ (law.node_foreach n p name x body) (block-parts with_else at _ _ (foreach-parts name.name x (node body))
      (block-headed with_else at w.Foreach (foreach_head name.name x) _ (closed-foreach name.name x named is) (body-block b body inner with_else)))
  code-block _ _ (pn.switch_ b p x sections is inner) with_else at plain =
      as-code with_else at (nd.Switch p x sections) _ (law.node_switch p x sections) (block-parts with_else at _ _ (switch-parts x (map section_parts sections))
      (block-headed with_else at w.Switch (whole (printed x)) _ (closed-expression x is) (block-braces with_else point.Within point.Begins (flat_map (λ y. y) (map section_parts sections)) refl (sections-form false sections inner))))

  body-block : (b : Bool) (x : TNode) → BodyPrints b x → (with_else : Bool) → BlockText with_else point.Within (node x).code point.Begins
  body-block _ _ (pn.in_block b p items is) with_else =
      as-code with_else point.Within (nd.Block p items) _ (law.node_block p items) (block-braces with_else point.Within point.Begins (lines (map node items)) refl (lines-form false items is))
  body-block _ _ (pn.other x is) with_else = statement-block x is with_else point.Within refl

  otherwise-block : (b : Bool) (x : TNode) → OtherwisePrints b x → (with_else : Bool) → BlockText with_else point.Within (node x).code point.Begins
  otherwise-block _ _ (pn.otherwise_body b x is) with_else = body-block b x is with_else
  otherwise-block _ _ (pn.otherwise_if p x holds fails is) with_else = code-block false (nd.If p x holds fails) is with_else point.Within refl

  statement-block : (x : TNode) → StatementPrints x → (with_else : Bool) (at : Point) → is_with at ≡ false → BlockText with_else at (node x).code point.Begins
  statement-block _ (pn.simple x is) with_else at plain =
      as-code with_else at (nd.Statement x) _ (law.node_statement x)
      (block-nil with_else at point.Begins (tokens (statement_kinds x)) (block-run with_else at point.Begins point.Begins (statement_kinds x) [] (statement-segment at is.tokens x is.tree is.proper) (block-none with_else point.Begins)))
  statement-block _ (pn.statement_of_code x is) with_else at plain = code-block true x is with_else at plain

  line-form : (with_else : Bool) (x : TNode) → LinePrints x → BlockText with_else point.Begins (node x).code point.Begins
  line-form with_else _ (pn.a_statement x is) = statement-block x is with_else point.Begins refl
  line-form with_else _ (pn.a_tag x is) = tag-block with_else x is
  line-form with_else _ (pn.a_shown n p e is) =
      as-code with_else point.Begins (nd.Content n p e) _ (law.node_content n p e)
      (block-nil with_else point.Begins point.Begins (shown (whole (printed e))) (record { text = _; is = f.value with_else point.Begins (whole (printed e)) [] [] (closed-value e is) (f.done with_else point.Begins) }))
  line-form with_else _ (pn.a_group p items is) =
      as-code with_else point.Begins (nd.Group p items) _ (law.node_group p items) (block-markup with_else _ (group-parts items (content-form false items is bf.Other (none_before bf.Other refl))))

  pub lines-form : (with_else : Bool) (items : List TNode) → LinesPrint items → BlockText with_else point.Begins (lines (map node items)) point.Begins
  lines-form with_else _ pn.no_line = block-none with_else point.Begins
  lines-form with_else _ (pn.more_lines x others is later) =
      block-join with_else point.Begins point.Begins point.Begins (node x).code (lines (map node others)) (line-form with_else x is) (lines-form with_else others later)

  sections-form : (with_else : Bool) (sections : List TSection) → SectionsPrint sections → BlockText with_else point.Begins (flat_map (λ y. y) (map section_parts sections)) point.Begins
  sections-form with_else _ pn.no_section = block-none with_else point.Begins
  sections-form with_else _ (pn.more_sections labels items others is inner later) =
      block-join with_else point.Begins point.Begins point.Begins (section_parts (section labels items)) (flat_map (λ y. y) (map section_parts others))
      (subst (λ z. BlockText with_else point.Begins z point.Begins) (sym (section-law labels items))
      (block-run with_else point.Begins point.Begins point.Begins (labels_kinds labels) (lines (map node items)) (labels-segment point.Begins labels is) (lines-form with_else items inner)))
      (sections-form with_else others later)
