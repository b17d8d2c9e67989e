-- Turns of the loops that read statements and their labels.
use Rattle.std.proofs.Common.{◌≡◌, ℕ, zero, suc, ◌+◌, ◌-◌, ◌*◌, ◌<◌, ◌≤◌, List, [], ◌∷◌, ◌++◌, length, reverse, refl, sym, ap, ◌∙◌, arith, append_assoc}
use Rattle.std.proofs.lemmas.List.{reverse-append}
use Rattle.std.specs.Prelude.{Bool, true, false, if◌then◌else◌, Option, Some, None}
use Rattle.cs_ast.specs.declared.expression.Label.{Label}
use Rattle.cs_ast.specs.declared.expression.Stmt.{Stmt}
use Rattle.cs_token.specs.declared.token.Token.{Token}
use Rattle.cs_parse.specs.declared.statement.frame.Frame.{Frame}
use Rattle.cs_parse.specs.declared.statement.frame.Jumps.{Jumps}
use Rattle.cs_parse.specs.declared.statement.frame.Next.{Next}
use Rattle.cs_parse.specs.declared.statement.frame.Next.TheVariants as nx
use Rattle.cs_parse.specs.declared.statement.frame.OpenBlock.{OpenBlock}
use Rattle.cs_parse.specs.declared.statement.frame.OpenSection.{OpenSection}
use Rattle.cs_parse.specs.declared.statement.frame.OpenSwitch.{OpenSwitch}
use Rattle.cs_parse.specs.Reading.{Read, ◌>>=◌}
use Rattle.cs_parse.specs.StatementReading as r
use Rattle.cs_parse.specs.StatementReading.{Onward, begin, begins, resume, has_label, labelled, labels_in, statement_first, rest_first, statements_in, unwind, meaning}
use Rattle.cs_parse.proofs.ShrinkLemmas.{weight, weight_small, begin_less, resume_less, block_less, switch_less, section_less}
use Rattle.cs_parse.proofs.StatementLaws.{bind_same, statement_law, done_law, inside_law, block_law, switch_law, section_law}
use Rattle.cs_parse.proofs.Turns.{with_front}

less : (n : ℕ) → n ≡ suc n - 1
less n = omega arith

front_front : {A : Type 0} (found : List A) (a : A) (read : Read (List A)) → with_front found (read >>= λ x. Some (a ∷ x.0, x.1)) ≡ with_front (found ++ a ∷ []) read
front_front found a None = refl
front_front found a (Some x) = ap (λ l. Some (l, x.1)) (sym (append_assoc found (a ∷ []) x.0))

nothing_front : {A : Type 0} (read : Read (List A)) → read ≡ with_front [] read
nothing_front None = refl
nothing_front (Some x) = refl

pub labels_start : (n : ℕ) (ts : List Token) → labels_in n ts ≡ with_front [] (labels_in n ts)
labels_start n ts = nothing_front (labels_in n ts)

pub statements_start : (n : ℕ) (j : Jumps) (ts : List Token) → statements_in n j ts ≡ with_front [] (statements_in n j ts)
statements_start n j ts = nothing_front (statements_in n j ts)

-- labels
labels_law : (n : ℕ) (ts : List Token) → 0 < n → labels_in n ts ≡ (labelled ts >>= λ x. if has_label x.1 then (labels_in (n - 1) x.1 >>= λ y. Some (x.0 ∷ y.0, y.1)) else Some (x.0 ∷ [], x.1))
unfolding labels_in
labels_law zero ts h = absurd (omega arith)
labels_law (suc n) ts h = ap (λ m. labelled ts >>= λ x. if has_label x.1 then (labels_in m x.1 >>= λ y. Some (x.0 ∷ y.0, y.1)) else Some (x.0 ∷ [], x.1)) (less n)

pub labels_none : (n : ℕ) (ts : List Token) (found : List Label) → n ≡ 0 → with_front found (labels_in n ts) ≡ None
unfolding labels_in
labels_none zero ts found h = refl
labels_none (suc n) ts found h = absurd (omega arith)

pub labels_fail : (n : ℕ) (ts : List Token) (found : List Label) → labelled ts ≡ None → with_front found (labels_in n ts) ≡ None
unfolding labels_in
labels_fail zero ts found e = refl
labels_fail (suc n) ts found e = ap (λ o. with_front found (o >>= λ x. if has_label x.1 then (labels_in n x.1 >>= λ y. Some (x.0 ∷ y.0, y.1)) else Some (x.0 ∷ [], x.1))) e

pub labels_turn : (n : ℕ) (ts us : List Token) (found : List Label) (l : Label) → 0 < n → labelled ts ≡ Some (l, us) → has_label us ≡ true →
    with_front found (labels_in n ts) ≡ with_front (found ++ l ∷ []) (labels_in (n - 1) us)
labels_turn n ts us found l h e i =
    ap (with_front found) (labels_law n ts h ∙ ap (λ o. o >>= λ x. if has_label x.1 then (labels_in (n - 1) x.1 >>= λ y. Some (x.0 ∷ y.0, y.1)) else Some (x.0 ∷ [], x.1)) e
    ∙ ap (λ d. if d then (labels_in (n - 1) us >>= λ y. Some (l ∷ y.0, y.1)) else Some (l ∷ [], us)) i)
    ∙ front_front found l (labels_in (n - 1) us)

pub labels_end : (n : ℕ) (ts us : List Token) (found : List Label) (l : Label) → 0 < n → labelled ts ≡ Some (l, us) → has_label us ≡ false → with_front found (labels_in n ts) ≡ Some (found ++ l ∷ [], us)
labels_end n ts us found l h e i =
    ap (with_front found) (labels_law n ts h ∙ ap (λ o. o >>= λ x. if has_label x.1 then (labels_in (n - 1) x.1 >>= λ y. Some (x.0 ∷ y.0, y.1)) else Some (x.0 ∷ [], x.1)) e
    ∙ ap (λ d. if d then (labels_in (n - 1) us >>= λ y. Some (l ∷ y.0, y.1)) else Some (l ∷ [], us)) i)

-- statements one behind another
pub statements_none : (n : ℕ) (j : Jumps) (ts : List Token) (found : List Stmt) → n ≡ 0 → with_front found (statements_in n j ts) ≡ None
unfolding statements_in
statements_none zero j ts found h = refl
statements_none (suc n) j ts found h = absurd (omega arith)

statements_law : (n : ℕ) (j : Jumps) (ts : List Token) → 0 < n →
    statements_in n j ts ≡ (if begins ts then (statement_first j ts >>= λ x. (statements_in (n - 1) j x.1 >>= λ y. Some (x.0 ∷ y.0, y.1))) else Some ([], ts))
unfolding statements_in
statements_law zero j ts h = absurd (omega arith)
statements_law (suc n) j ts h = ap (λ m. if begins ts then (statement_first j ts >>= λ x. (statements_in m j x.1 >>= λ y. Some (x.0 ∷ y.0, y.1))) else Some ([], ts)) (less n)

no_more : {A : Type 0} (xs : List A) → xs ++ [] ≡ xs
no_more [] = refl
no_more (x ∷ xs) = ap (λ l. x ∷ l) (no_more xs)

pub statements_end : (n : ℕ) (j : Jumps) (ts : List Token) (found : List Stmt) → 0 < n → begins ts ≡ false → with_front found (statements_in n j ts) ≡ Some (found, ts)
statements_end n j ts found h e =
    ap (with_front found) (statements_law n j ts h ∙ ap (λ d. if d then (statement_first j ts >>= λ x. (statements_in (n - 1) j x.1 >>= λ y. Some (x.0 ∷ y.0, y.1))) else Some ([], ts)) e)
    ∙ ap (λ l. Some (l, ts)) (no_more found)

statements_go : (n : ℕ) (j : Jumps) (ts : List Token) → 0 < n → begins ts ≡ true → statements_in n j ts ≡ (statement_first j ts >>= λ x. (statements_in (n - 1) j x.1 >>= λ y. Some (x.0 ∷ y.0, y.1)))
statements_go n j ts h e = statements_law n j ts h ∙ ap (λ d. if d then (statement_first j ts >>= λ x. (statements_in (n - 1) j x.1 >>= λ y. Some (x.0 ∷ y.0, y.1))) else Some ([], ts)) e

pub statements_fail : (n : ℕ) (j : Jumps) (ts : List Token) (found : List Stmt) → 0 < n → begins ts ≡ true → statement_first j ts ≡ None → with_front found (statements_in n j ts) ≡ None
statements_fail n j ts found h e i = ap (with_front found) (statements_go n j ts h e ∙ ap (λ o. o >>= λ x. (statements_in (n - 1) j x.1 >>= λ y. Some (x.0 ∷ y.0, y.1))) i)

pub statements_turn : (n : ℕ) (j : Jumps) (ts us : List Token) (found : List Stmt) (a : Stmt) → 0 < n → begins ts ≡ true → statement_first j ts ≡ Some (a, us) →
    with_front found (statements_in n j ts) ≡ with_front (found ++ a ∷ []) (statements_in (n - 1) j us)
statements_turn n j ts us found a h e i =
    ap (with_front found) (statements_go n j ts h e ∙ ap (λ o. o >>= λ x. (statements_in (n - 1) j x.1 >>= λ y. Some (x.0 ∷ y.0, y.1))) i)
    ∙ front_front found a (statements_in (n - 1) j us)

-- the stack of frames, of which the last is innermost
abbrev pub stacked : List Frame → Next → List Token → Read Stmt
stacked frames next ts = meaning (reverse frames) next ts

onto : List Frame → Onward → Read Stmt
onto fs o = o >>= λ x. meaning fs x.0 x.1

bind_bind : {A B C : Type 0} (o : Option A) (f : A → Option B) (g : B → Option C) → ((o >>= f) >>= g) ≡ (o >>= λ x. f x >>= g)
bind_bind None f g = refl
bind_bind (Some x) f g = refl

-- what follows, and the frames round it
through : (fs : List Frame) (o : Onward) → ((o >>= λ x. rest_first x.0 x.1) >>= λ y. unwind fs y.0 y.1) ≡ onto fs o
unfolding onto
through fs o = bind_bind o (λ x. rest_first x.0 x.1) (λ y. unwind fs y.0 y.1)

pushed : (frames : List Frame) (f : Frame) → reverse (frames ++ f ∷ []) ≡ f ∷ reverse frames
pushed frames f = reverse-append frames (f ∷ [])

-- a statement inside a frame
inside : (fs : List Frame) (f : Frame) (j : Jumps) (ts : List Token) → meaning fs (nx.Inside f j) ts ≡ onto (f ∷ fs) (begin j ts)
unfolding onto
inside fs f j ts =
    let after_it : Stmt × List Token → Read Stmt = λ x. resume f x.0 x.1 >>= λ y. rest_first y.0 y.1 in
    let out : Stmt × List Token → Read Stmt = λ z. unwind fs z.0 z.1 in
    let frame : Stmt × List Token → Read Stmt = λ x. unwind (f ∷ fs) x.0 x.1 in
    ap (λ o. o >>= out) (inside_law f j ts)
    ∙ bind_bind (statement_first j ts) after_it out
    ∙ bind_same (statement_first j ts) (λ x. after_it x >>= out) frame (λ x e. bind_bind (resume f x.0 x.1) (λ y. rest_first y.0 y.1) out)
    ∙ ap (λ o. o >>= frame) (statement_law j ts)
    ∙ bind_bind (begin j ts) (λ y. rest_first y.0 y.1) frame

-- a whole statement, and the frame that it completes
resumed : (fs : List Frame) (f : Frame) (a : Stmt) (ts : List Token) → meaning (f ∷ fs) (nx.Done a) ts ≡ onto fs (resume f a ts)
unfolding onto
resumed fs f a ts = ap (λ o. o >>= λ x. unwind (f ∷ fs) x.0 x.1) (done_law a ts)

pub start_turn : (j : Jumps) (ts us : List Token) (next : Next) → begin j ts ≡ Some (next, us) → statement_first j ts ≡ stacked [] next us
start_turn j ts us next e = statement_law j ts ∙ ap (λ o. o >>= λ x. rest_first x.0 x.1) e ∙ sym (last (rest_first next us))
  where
    last : (o : Read Stmt) → (o >>= λ x. unwind [] x.0 x.1) ≡ o
    last None = refl
    last (Some x) = refl

pub start_fail : (j : Jumps) (ts : List Token) → begin j ts ≡ None → statement_first j ts ≡ None
start_fail j ts e = statement_law j ts ∙ ap (λ o. o >>= λ x. rest_first x.0 x.1) e

pub inside_turn : (frames : List Frame) (f : Frame) (j : Jumps) (ts us : List Token) (next : Next) → begin j ts ≡ Some (next, us) → stacked frames (nx.Inside f j) ts ≡ stacked (frames ++ f ∷ []) next us
unfolding onto
inside_turn frames f j ts us next e = inside (reverse frames) f j ts ∙ ap (onto (f ∷ reverse frames)) e ∙ ap (λ l. meaning l next us) (sym (pushed frames f))

pub inside_fail : (frames : List Frame) (f : Frame) (j : Jumps) (ts : List Token) → begin j ts ≡ None → stacked frames (nx.Inside f j) ts ≡ None
unfolding onto
inside_fail frames f j ts e = inside (reverse frames) f j ts ∙ ap (onto (f ∷ reverse frames)) e

pub resume_turn : (all frames : List Frame) (f : Frame) (a : Stmt) (ts us : List Token) (next : Next) → all ≡ frames ++ f ∷ [] → resume f a ts ≡ Some (next, us) → stacked all (nx.Done a) ts ≡ stacked frames next us
unfolding onto
resume_turn all frames f a ts us next m e = ap (λ l. meaning l (nx.Done a) ts) (ap reverse m ∙ pushed frames f) ∙ resumed (reverse frames) f a ts ∙ ap (onto (reverse frames)) e

pub resume_fail : (all frames : List Frame) (f : Frame) (a : Stmt) (ts : List Token) → all ≡ frames ++ f ∷ [] → resume f a ts ≡ None → stacked all (nx.Done a) ts ≡ None
unfolding onto
resume_fail all frames f a ts m e = ap (λ l. meaning l (nx.Done a) ts) (ap reverse m ∙ pushed frames f) ∙ resumed (reverse frames) f a ts ∙ ap (onto (reverse frames)) e

pub done_end : (all : List Frame) (a : Stmt) (ts : List Token) → all ≡ [] → stacked all (nx.Done a) ts ≡ Some (a, ts)
done_end all a ts m = ap (λ l. meaning (reverse l) (nx.Done a) ts) m ∙ ap (λ o. o >>= λ x. unwind [] x.0 x.1) (done_law a ts)

pub block_turn : (frames : List Frame) (o : OpenBlock) (ts us : List Token) (next : Next) → r.block o ts ≡ Some (next, us) → stacked frames (nx.Block o) ts ≡ stacked frames next us
unfolding onto
block_turn frames o ts us next e = ap (λ y. y >>= λ x. unwind (reverse frames) x.0 x.1) (block_law o ts) ∙ through (reverse frames) (r.block o ts) ∙ ap (onto (reverse frames)) e

pub block_fail : (frames : List Frame) (o : OpenBlock) (ts : List Token) → r.block o ts ≡ None → stacked frames (nx.Block o) ts ≡ None
unfolding onto
block_fail frames o ts e = ap (λ y. y >>= λ x. unwind (reverse frames) x.0 x.1) (block_law o ts) ∙ through (reverse frames) (r.block o ts) ∙ ap (onto (reverse frames)) e

pub switch_turn : (frames : List Frame) (o : OpenSwitch) (ts us : List Token) (next : Next) → r.switch o ts ≡ Some (next, us) → stacked frames (nx.Switch o) ts ≡ stacked frames next us
unfolding onto
switch_turn frames o ts us next e = ap (λ y. y >>= λ x. unwind (reverse frames) x.0 x.1) (switch_law o ts) ∙ through (reverse frames) (r.switch o ts) ∙ ap (onto (reverse frames)) e

pub switch_fail : (frames : List Frame) (o : OpenSwitch) (ts : List Token) → r.switch o ts ≡ None → stacked frames (nx.Switch o) ts ≡ None
unfolding onto
switch_fail frames o ts e = ap (λ y. y >>= λ x. unwind (reverse frames) x.0 x.1) (switch_law o ts) ∙ through (reverse frames) (r.switch o ts) ∙ ap (onto (reverse frames)) e

pub section_turn : (frames : List Frame) (o : OpenSection) (ts us : List Token) (next : Next) → r.section_on o ts ≡ Some (next, us) → stacked frames (nx.Section o) ts ≡ stacked frames next us
unfolding onto
section_turn frames o ts us next e = ap (λ y. y >>= λ x. unwind (reverse frames) x.0 x.1) (section_law o ts) ∙ through (reverse frames) (r.section_on o ts) ∙ ap (onto (reverse frames)) e

pub section_fail : (frames : List Frame) (o : OpenSection) (ts : List Token) → r.section_on o ts ≡ None → stacked frames (nx.Section o) ts ≡ None
unfolding onto
section_fail frames o ts e = ap (λ y. y >>= λ x. unwind (reverse frames) x.0 x.1) (section_law o ts) ∙ through (reverse frames) (r.section_on o ts) ∙ ap (onto (reverse frames)) e

-- how far reading is from its end
abbrev pub distance : List Frame → Next → List Token → ℕ
distance frames next ts = 8 * length ts + 4 * length frames + weight next
