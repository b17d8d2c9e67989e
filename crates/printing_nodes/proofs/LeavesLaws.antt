-- Nodes that are like those of which the last leaves.
use Rattle.std.proofs.Common.{◌≡◌, Bool, true, false, List, [], ◌∷◌, Some, None, refl, sym, ap, ◌∙◌, subst}
use Rattle.cs_ast.specs.declared.expression.Stmt.{Stmt}
use Rattle.cs_ast.specs.declared.expression.StmtKind.TheVariants as st
use Rattle.cs_grammar.specs.Statements.{stmt}
use Rattle.cs_grammar.specs.Statements as g
use Rattle.cs_print.specs.Alike.{AlikeStatements, named}
use Rattle.cs_print.specs.Alike as alike
use Rattle.cs_print.proofs.LookLemmas.{leaves_alike}
use Rattle.razor_ast.specs.declared.node.TNode.{TNode, TNode-F, out-TNode}
use Rattle.razor_ast.specs.declared.node.TNode.TheVariants as nd
use Rattle.razor_ast.specs.declared.node.TSection.{TSection}
use Rattle.razor_ast.specs.Statements.{Leaves}
use Rattle.razor_ast.specs.Statements as gs
use Rattle.printing_nodes.specs.AlikeNodes.{AlikeNodes, AlikeContent}
use Rattle.printing_nodes.specs.AlikeNodes as al

abbrev is_statement : TNode-F TNode TSection → Bool
is_statement (TNode-F.Statement a) = true
is_statement _ = false

-- the statement of a node, or this one
abbrev statement_of : Stmt → TNode-F TNode TSection → Stmt
statement_of other (TNode-F.Statement a) = a
statement_of other _ = other

no-statement : (node : TNode) (x : TNode-F TNode TSection) (a : Stmt) → out-TNode node ≡ x → is_statement x ≡ false → node ≡ nd.Statement a → false ≡ true
no-statement node x a is plain e = sym plain ∙ ap is_statement (sym is ∙ ap out-TNode e ∙ nd.outs-Statement a)

same-statement : (a b : Stmt) → nd.Statement a ≡ nd.Statement b → a ≡ b
same-statement a b e = sym (ap (statement_of b) (nd.outs-Statement a)) ∙ ap (λ z. statement_of b (out-TNode z)) e ∙ ap (statement_of b) (nd.outs-Statement b)

-- a single statement that leaves
nothing-leaves : (xs : List Stmt) → g.Leaves xs → xs ≡ [] → false ≡ true
nothing-leaves _ (g.Leaves.by_break p) e = absurd (cc)
nothing-leaves _ (g.Leaves.by_return p value) e = absurd (cc)
nothing-leaves _ (g.Leaves.later first others more) e = absurd (cc)

head-same : (a b : Stmt) (xs : List Stmt) → a ∷ xs ≡ b ∷ [] → a ≡ b
head-same a b xs e = cc

tail-none : (a b : Stmt) (xs : List Stmt) → a ∷ xs ≡ b ∷ [] → xs ≡ []
tail-none a b xs e = cc

of-statement : (xs : List Stmt) (a : Stmt) → g.Leaves xs → xs ≡ a ∷ [] → Leaves (nd.Statement a ∷ [])
of-statement _ a (g.Leaves.by_break p) e = subst (λ z. Leaves (nd.Statement z ∷ [])) (head-same _ a [] e) (gs.Leaves.by_break p)
of-statement _ a (g.Leaves.by_return p value) e = subst (λ z. Leaves (nd.Statement z ∷ [])) (head-same _ a [] e) (gs.Leaves.by_return p value)
of-statement _ a (g.Leaves.later first others more) e = let none = nothing-leaves others more (tail-none first a others e) in absurd (cc)

one-leaves : (b : Stmt) (trees : List Stmt) → trees ≡ b ∷ [] → g.Leaves trees → Leaves (nd.Statement b ∷ [])
one-leaves b trees e h = of-statement trees b h e

-- a node that is like a statement that leaves
node-leaves : (node other : TNode) (a : Stmt) → node ≡ nd.Statement a → g.Leaves (a ∷ []) → AlikeNodes node other → Leaves (other ∷ [])
node-leaves _ _ a e h (al.element n p q i j name xs ys cs ds all inner) = let no = no-statement _ _ a (nd.outs-Element n p (named i name) xs cs) refl e in absurd (cc)
node-leaves _ _ a e h (al.child n p q i j name xs ys cs ds all inner) = let no = no-statement _ _ a (nd.outs-Child n p (named i name) xs cs) refl e in absurd (cc)
node-leaves _ _ a e h (al.text n p q said) = let no = no-statement _ _ a (nd.outs-Text n p said) refl e in absurd (cc)
node-leaves _ _ a e h (al.raw n p q said) = let no = no-statement _ _ a (nd.outs-Raw n p said) refl e in absurd (cc)
node-leaves _ _ a e h (al.shown n p q b c value) = let no = no-statement _ _ a (nd.outs-Content n p b) refl e in absurd (cc)
node-leaves _ _ a e h (al.group p q xs ys inner) = let no = no-statement _ _ a (nd.outs-Group p xs) refl e in absurd (cc)
node-leaves _ _ a e h (al.a_statement b c same) =
    let is = same-statement b a e in
    one-leaves c (c ∷ []) refl (leaves_alike (b ∷ []) (c ∷ []) (subst (λ z. g.Leaves (z ∷ [])) (sym is) h) (alike.one_statement b c [] [] same alike.no_statement))
node-leaves _ _ a e h (al.block p q xs ys inner) = let no = no-statement _ _ a (nd.outs-Block p xs) refl e in absurd (cc)
node-leaves _ _ a e h (al.if_alone p q b c d f value one) = let no = no-statement _ _ a (nd.outs-If p b d None) refl e in absurd (cc)
node-leaves _ _ a e h (al.if_else p q b c d f i j value one two) = let no = no-statement _ _ a (nd.outs-If p b d (Some i)) refl e in absurd (cc)
node-leaves _ _ a e h (al.switch_ p q b c xs ys value inner) = let no = no-statement _ _ a (nd.outs-Switch p b xs) refl e in absurd (cc)
node-leaves _ _ a e h (al.for_ n p q s t b c d f i j start test next one) = let no = no-statement _ _ a (nd.outs-For n p s b d i) refl e in absurd (cc)
node-leaves _ _ a e h (al.foreach_ n p q i j name b c d f value one) = let no = no-statement _ _ a (nd.outs-ForEach n p (named i name) b d) refl e in absurd (cc)
node-leaves _ _ a e h (al.while_ n p q b c d f value one) = let no = no-statement _ _ a (nd.outs-While n p b d) refl e in absurd (cc)

single : (a : Stmt) (ys : List TNode) → g.Leaves (a ∷ []) → AlikeContent (nd.Statement a ∷ []) ys → Leaves ys
single a _ h (al.one_node _ other _ _ one al.no_node) = node-leaves (nd.Statement a) other a refl h one

-- the last of nodes that are alike leaves, where that of these does
pub leaves_again : (xs ys : List TNode) → Leaves xs → AlikeContent xs ys → Leaves ys
leaves_again _ ys (gs.Leaves.by_break p) each = single (stmt p st.Break) ys (g.Leaves.by_break p) each
leaves_again _ ys (gs.Leaves.by_return p value) each = single (stmt p (st.Return value)) ys (g.Leaves.by_return p value) each
leaves_again _ _ (gs.Leaves.later _ _ more) (al.one_node a b xs ys one each) = gs.Leaves.later b ys (leaves_again xs ys more each)
