-- What frames make of what is read, turn by turn.
use Rattle.std.proofs.Common.{◌≡◌, ℕ, ◌<◌, ◌≤◌, List, [], ◌∷◌, ◌++◌, length, refl, sym, ap, ◌∙◌, arith, subst}
use Rattle.std.proofs.lemmas.Bool.{lt-ltb, le-ltb}
use Rattle.std.specs.Borrow.{Bor}
use Rattle.std.specs.Prelude.{if◌then◌else◌, Some, None, Result, Ok, Err}
use Rattle.text_core.specs.declared.place.Place.{Place}
use Rattle.cs_ast.specs.declared.expression.Expr.{Expr}
use Rattle.cs_token.specs.declared.token.Token.{Token}
use Rattle.cs_parse.specs.declared.unread.Unread.{Unread}
use Rattle.cs_parse.specs.declared.unread.Unread.TheVariants as u
use Rattle.cs_parse.specs.declared.expressions.frame.Form.{Form}
use Rattle.cs_parse.specs.declared.expressions.frame.Frame.{Frame}
use Rattle.cs_parse.specs.declared.expressions.frame.Frame.TheVariants as f
use Rattle.cs_parse.specs.declared.expressions.frame.Turn.{Turn}
use Rattle.cs_parse.specs.declared.expressions.frame.Turn.TheVariants as t
use Rattle.cs_parse.specs.Reading.{Read, ◌>>=◌, Fails}
use Rattle.cs_parse.specs.ExpressionReading.{reads, expr_first, going, strength}
use Rattle.cs_parse.specs.declared.tables.Going.{Going}
use Rattle.cs_parse.specs.ExpressionReading as r
use Rattle.cs_parse.specs.Frames.{resume, go_on, unwind, meaning, Leads, Moves}
use Rattle.cs_parse.proofs.Depths.{reads_law}

-- the expression that stands first
first_law : (l : ℕ) (ts : List Token) → expr_first l ts ≡ (reads ts).expr l
unfolding expr_first reads
first_law l ts = refl

unwind_push : (fs : List Frame) (frame : Frame) (read : Read Expr) → unwind (fs ++ frame ∷ []) read ≡ unwind fs (read >>= λ x. go_on frame x.0 x.1)
unwind_push [] frame read = refl
unwind_push (g ∷ fs) frame read = ap (λ o. o >>= λ x. go_on g x.0 x.1) (unwind_push fs frame read)

unwind_none : (fs : List Frame) → unwind fs None ≡ None
unwind_none [] = refl
unwind_none (g ∷ fs) = ap (λ o. o >>= λ x. go_on g x.0 x.1) (unwind_none fs)

-- a reading that fails makes the one that it is a part of fail
fails_too : (e : Unread) (read : Read Expr) (whole : Read Expr) → (read ≡ None → whole ≡ None) → Fails e read → Fails e whole
fails_too u.Oom read whole h e = tt
fails_too (u.Syntax n) read whole h e = h e

-- with one more frame
pushed : (fs : List Frame) (frame : Frame) (read whole : Read Expr) (result : Result (Turn × Bor (List Token)) Unread) → whole ≡ (read >>= λ x. go_on frame x.0 x.1) →
    Leads read result → Moves fs whole (fs ++ frame ∷ []) result
pushed fs frame read whole (Ok x) i e = ap (unwind fs) (i ∙ ap (λ o. o >>= λ z. go_on frame z.0 z.1) e) ∙ sym (unwind_push fs frame (meaning x.0 x.1.now))
pushed fs frame read whole (Err e) i h = fails_too e read whole (λ z. i ∙ ap (λ o. o >>= λ y. go_on frame y.0 y.1) z) h

pub stays : (fs : List Frame) (read : Read Expr) (result : Result (Turn × Bor (List Token)) Unread) → Leads read result → Moves fs read fs result
stays fs read (Ok x) e = ap (unwind fs) e
stays fs read (Err e) h = h

-- an expression begins with its first token
begins : (fs : List Frame) (l : ℕ) (t : Token) (ts : List Token) (result : Result (Turn × Bor (List Token)) Unread) →
    Leads (r.prefix reads t.kind t.place ts) result → Moves fs ((reads (t ∷ ts)).expr l) (fs ++ f.Operations l t.place ∷ []) result
begins fs l t ts result = pushed fs (f.Operations l t.place) (r.prefix reads t.kind t.place ts) ((reads (t ∷ ts)).expr l) result ((reads_law (t ∷ ts)).expr l).same

begins_not : (l : ℕ) → (reads []).expr l ≡ None
begins_not l = ((reads_law []).expr l).same

-- it goes on, or ends
loop_law : (l : ℕ) (p : Place) (a : Expr) (t : Token) (ts : List Token) →
    (reads (t ∷ ts)).loop l p a ≡ r.loop reads l p a (t ∷ ts)
loop_law l p a t ts = ((reads_law (t ∷ ts)).loop l p a).same

goes : (fs : List Frame) (l : ℕ) (p : Place) (a : Expr) (t : Token) (ts : List Token) (result : Result (Turn × Bor (List Token)) Unread) → l < strength (going t.kind) →
    Leads (r.further reads p a (going t.kind) ts) result → Moves fs ((reads (t ∷ ts)).loop l p a) (fs ++ f.Operations l p ∷ []) result
goes fs l p a t ts result i =
    pushed fs (f.Operations l p) (r.further reads p a (going t.kind) ts) ((reads (t ∷ ts)).loop l p a) result
    (loop_law l p a t ts ∙ ap (λ b. if b then r.longer reads l p a (going t.kind) ts else Some (a, t ∷ ts)) (lt-ltb _ _ i))

stops : (l : ℕ) (p : Place) (a : Expr) (t : Token) (ts : List Token) → strength (going t.kind) ≤ l → (reads (t ∷ ts)).loop l p a ≡ Some (a, t ∷ ts)
stops l p a t ts i = loop_law l p a t ts ∙ ap (λ b. if b then r.longer reads l p a (going t.kind) ts else Some (a, t ∷ ts)) (le-ltb _ _ i)

ends : (l : ℕ) (p : Place) (a : Expr) → (reads []).loop l p a ≡ Some (a, [])
ends l p a = ((reads_law []).loop l p a).same

-- the same at lists that are equal to these
pub begins_at : (fs new : List Frame) (l : ℕ) (t : Token) (ts us : List Token) (result : Result (Turn × Bor (List Token)) Unread) → ts ≡ t ∷ us → new ≡ fs ++ f.Operations l t.place ∷ [] →
    Leads (r.prefix reads t.kind t.place us) result → Moves fs ((reads ts).expr l) new result
begins_at fs new l t ts us result e1 e2 h =
    subst (λ z. Moves fs ((reads z).expr l) new result) (sym e1) (subst (λ z. Moves fs ((reads (t ∷ us)).expr l) z result) (sym e2) (begins fs l t us result h))

pub begins_with_nothing : (l : ℕ) (ts : List Token) → length ts ≡ 0 → (reads ts).expr l ≡ None
begins_with_nothing l [] e = begins_not l
begins_with_nothing l (t ∷ ts) e = absurd (omega arith)

pub goes_at : (fs new : List Frame) (l n : ℕ) (p : Place) (a : Expr) (t : Token) (ts us : List Token) (kind : Going) (result : Result (Turn × Bor (List Token)) Unread) →
    ts ≡ t ∷ us → kind ≡ going t.kind → n ≡ strength kind → l < n → new ≡ fs ++ f.Operations l p ∷ [] → Leads (r.further reads p a kind us) result → Moves fs ((reads ts).loop l p a) new result
goes_at fs new l n p a t ts us kind result e1 e2 e3 i e4 h =
    subst (λ z. Moves fs ((reads z).loop l p a) new result) (sym e1) (subst (λ z. Moves fs ((reads (t ∷ us)).loop l p a) z result) (sym e4)
    (goes fs l p a t us result (subst (λ z. l < strength z) e2 (subst (λ z. l < z) e3 i)) (subst (λ z. Leads (r.further reads p a z us) result) e2 h)))

pub stops_at : (fs : List Frame) (l n : ℕ) (p : Place) (a : Expr) (t : Token) (ts us : List Token) (kind : Going) →
    ts ≡ t ∷ us → kind ≡ going t.kind → n ≡ strength kind → n ≤ l → unwind fs ((reads ts).loop l p a) ≡ unwind fs (Some (a, ts))
stops_at fs l n p a t ts us kind e1 e2 e3 i =
    ap (unwind fs) (subst (λ z. (reads z).loop l p a ≡ Some (a, z)) (sym e1) (stops l p a t us (subst (λ z. strength z ≤ l) e2 (subst (λ z. z ≤ l) e3 i))))

pub ends_at : (fs : List Frame) (l : ℕ) (p : Place) (a : Expr) (ts : List Token) → length ts ≡ 0 → unwind fs ((reads ts).loop l p a) ≡ unwind fs (Some (a, ts))
ends_at fs l p a [] e = ap (unwind fs) (ends l p a)
ends_at fs l p a (t ∷ ts) e = absurd (omega arith)

-- turns
pub first_turn : (none new : List Frame) (l : ℕ) (ts us : List Token) (turn : Turn) → none ≡ [] → unwind none ((reads ts).expr l) ≡ unwind new (meaning turn us) →
    unwind new (meaning turn us) ≡ expr_first l ts
first_turn none new l ts us turn i e = sym e ∙ ap (λ fs. unwind fs ((reads ts).expr l)) i ∙ sym (first_law l ts)

pub first_fails : (l : ℕ) (ts : List Token) (e : Unread) → Fails e ((reads ts).expr l) → Fails e (expr_first l ts)
first_fails l ts e h = fails_too e ((reads ts).expr l) (expr_first l ts) (λ z. first_law l ts ∙ z) h

pub wanted_turn : (fs more new : List Frame) (now next : Turn) (form : Form) (l : ℕ) (ts us : List Token) (whole : Read Expr) → unwind fs (meaning now ts) ≡ whole →
    now ≡ t.Wanted form l → more ≡ fs ++ f.Form form ∷ [] → unwind more ((reads ts).expr l) ≡ unwind new (meaning next us) → unwind new (meaning next us) ≡ whole
wanted_turn fs more new now next form l ts us whole i j e h =
    sym h ∙ ap (λ z. unwind z ((reads ts).expr l)) e ∙ unwind_push fs (f.Form form) ((reads ts).expr l) ∙ ap (λ z. unwind fs (meaning z ts)) (sym j) ∙ i

pub wanted_fails : (fs : List Frame) (now : Turn) (form : Form) (l : ℕ) (ts : List Token) (whole : Read Expr) (e : Unread) → unwind fs (meaning now ts) ≡ whole →
    now ≡ t.Wanted form l → Fails e ((reads ts).expr l) → Fails e whole
wanted_fails fs now form l ts whole e i j h =
    fails_too e ((reads ts).expr l) whole
    (λ z. sym i ∙ ap (λ n. unwind fs (meaning n ts)) j ∙ ap (λ o. unwind fs (o >>= λ x. resume form x.0 x.1)) z ∙ unwind_none fs) h

pub found_turn : (fs fewer new : List Frame) (frame : Frame) (now next : Turn) (a : Expr) (ts us : List Token) (whole : Read Expr) → unwind fs (meaning now ts) ≡ whole →
    now ≡ t.Found a → fs ≡ fewer ++ frame ∷ [] → unwind fewer (go_on frame a ts) ≡ unwind new (meaning next us) → unwind new (meaning next us) ≡ whole
found_turn fs fewer new frame now next a ts us whole i j e h =
    sym h ∙ sym (unwind_push fewer frame (Some (a, ts))) ∙ ap (λ z. unwind z (Some (a, ts))) (sym e) ∙ ap (λ z. unwind fs (meaning z ts)) (sym j) ∙ i

pub found_fails : (fs fewer : List Frame) (frame : Frame) (now : Turn) (a : Expr) (ts : List Token) (whole : Read Expr) (e : Unread) → unwind fs (meaning now ts) ≡ whole →
    now ≡ t.Found a → fs ≡ fewer ++ frame ∷ [] → Fails e (go_on frame a ts) → Fails e whole
found_fails fs fewer frame now a ts whole e i j q h =
    fails_too e (go_on frame a ts) whole
    (λ z. sym i ∙ ap (λ n. unwind fs (meaning n ts)) j ∙ ap (λ y. unwind y (Some (a, ts))) q ∙ unwind_push fewer frame (Some (a, ts)) ∙ ap (unwind fewer) z ∙ unwind_none fewer) h

-- the same turn under other names
pub named_turn : (new fs : List Frame) (x y : Turn × Bor (List Token)) (whole : Read Expr) → fs ≡ new → y ≡ x → unwind new (meaning x.0 x.1.now) ≡ whole → unwind fs (meaning y.0 y.1.now) ≡ whole
named_turn new fs x y whole e1 e2 h = ap (λ z. unwind z (meaning y.0 y.1.now)) e1 ∙ ap (λ z. unwind new (meaning z.0 z.1.now)) e2 ∙ h
