-- Turns of the loop that reads a statement: what is read stays the same, and each turn comes nearer to the end.
use Rattle.std.proofs.Common.{◌≡◌, ◌<◌, ◌≤◌, ℕ, ◌+◌, ◌*◌, List, [], ◌∷◌, ◌++◌, length, ap, sym, ◌∙◌, arith, length-append}
use Rattle.std.specs.Borrow.{Bor}
use Rattle.std.specs.Prelude.{Option, Some, None}
use Rattle.cs_ast.specs.declared.expression.Stmt.{Stmt}
use Rattle.cs_token.specs.declared.token.Token.{Token}
use Rattle.cs_parse.specs.declared.statement.frame.Frame.{Frame}
use Rattle.cs_parse.specs.declared.statement.frame.Jumps.{Jumps}
use Rattle.cs_parse.specs.declared.statement.frame.Next.{Next}
use Rattle.cs_parse.specs.declared.statement.frame.Next.TheVariants as nx
use Rattle.cs_parse.specs.declared.statement.frame.OpenBlock.{OpenBlock}
use Rattle.cs_parse.specs.declared.statement.frame.OpenSection.{OpenSection}
use Rattle.cs_parse.specs.declared.statement.frame.OpenSwitch.{OpenSwitch}
use Rattle.cs_parse.specs.declared.unread.Unread.{Unread}
use Rattle.cs_parse.specs.declared.unread.Unread.TheVariants as u
use Rattle.cs_parse.specs.Reading.{Read, Fails}
use Rattle.cs_parse.specs.StatementReading.{begin, resume}
use Rattle.cs_parse.specs.StatementReading as r
use Rattle.cs_parse.proofs.ShrinkLemmas.{weight, weight_small, begin_less, resume_less, block_less, section_less, switch_less}
use Rattle.cs_parse.proofs.StatementTurns.{stacked, distance, resume_turn, inside_turn, block_turn, switch_turn, section_turn}

-- where one thing is not read, the other is not
pub fails_on : {A B : Type 0} (e : Unread) (a : Option A) (b : Option B) → (a ≡ None → b ≡ None) → Fails e a → Fails e b
fails_on u.Oom a b h f = tt
fails_on (u.Syntax left) a b h f = h f

-- the names of a turn's outcome
pub same_named : (all new : List Frame) (x y : Next × Bor (List Token)) (whole : Read Stmt) → all ≡ new → y ≡ x → whole ≡ stacked new x.0 x.1.now → whole ≡ stacked all y.0 y.1.now
same_named all new x y whole e1 e2 h = h ∙ sym (ap (λ l. stacked l y.0 y.1.now) e1 ∙ ap (λ z. stacked new z.0 z.1.now) e2)

pub nearer_named : (all new : List Frame) (x y : Next × Bor (List Token)) (limit : ℕ) → all ≡ new → y ≡ x → distance new x.0 x.1.now < limit → distance all y.0 y.1.now < limit
nearer_named all new x y limit e1 e2 h =
    let same : distance all y.0 y.1.now ≡ distance new x.0 x.1.now = ap (λ l. distance l y.0 y.1.now) e1 ∙ ap (λ z. distance new z.0 z.1.now) e2 in
    omega (arith, same, h)

pub done_same : (whole : Read Stmt) (all frames : List Frame) (f : Frame) (a : Stmt) (ts us : List Token) (now next : Next) → whole ≡ stacked all now ts → now ≡ nx.Done a
    → all ≡ frames ++ f ∷ [] → resume f a ts ≡ Some (next, us) → whole ≡ stacked frames next us
done_same whole all frames f a ts us now next h e m i = h ∙ ap (λ n. stacked all n ts) e ∙ resume_turn all frames f a ts us next m i

pub done_nearer : (all frames : List Frame) (f : Frame) (a : Stmt) (ts us : List Token) (now next : Next) → now ≡ nx.Done a → all ≡ frames ++ f ∷ []
    → resume f a ts ≡ Some (next, us) → distance frames next us < distance all now ts
done_nearer all frames f a ts us now next e m i =
    let long : length all ≡ length frames + 1 = ap length m ∙ length-append frames (f ∷ []) in
    let none : weight now ≡ 0 = ap weight e in
    let less : length us ≤ length ts = resume_less f a ts (next, us) i in
    let small : weight next ≤ 3 = weight_small next in
    omega (arith, long, none, less, small)

pub inside_same : (whole : Read Stmt) (frames new : List Frame) (f : Frame) (j : Jumps) (ts us : List Token) (now next : Next) → whole ≡ stacked frames now ts → now ≡ nx.Inside f j
    → new ≡ frames ++ f ∷ [] → begin j ts ≡ Some (next, us) → whole ≡ stacked new next us
inside_same whole frames new f j ts us now next h e m i =
    h ∙ ap (λ n. stacked frames n ts) e ∙ inside_turn frames f j ts us next i ∙ ap (λ l. stacked l next us) (sym m)

pub inside_nearer : (frames new : List Frame) (f : Frame) (j : Jumps) (ts us : List Token) (now next : Next) → now ≡ nx.Inside f j → new ≡ frames ++ f ∷ []
    → begin j ts ≡ Some (next, us) → distance new next us < distance frames now ts
inside_nearer frames new f j ts us now next e m i =
    let long : length new ≡ length frames + 1 = ap length m ∙ length-append frames (f ∷ []) in
    let one : weight now ≡ 1 = ap weight e in
    let less : length us < length ts = begin_less j ts (next, us) i in
    let small : weight next ≤ 3 = weight_small next in
    omega (arith, long, one, less, small)

pub block_same : (whole : Read Stmt) (frames : List Frame) (o : OpenBlock) (ts us : List Token) (now next : Next) → whole ≡ stacked frames now ts → now ≡ nx.Block o
    → r.block o ts ≡ Some (next, us) → whole ≡ stacked frames next us
block_same whole frames o ts us now next h e i = h ∙ ap (λ n. stacked frames n ts) e ∙ block_turn frames o ts us next i

pub block_nearer : (frames : List Frame) (o : OpenBlock) (ts us : List Token) (now next : Next) → now ≡ nx.Block o → r.block o ts ≡ Some (next, us) → distance frames next us < distance frames now ts
block_nearer frames o ts us now next e i =
    let two : weight now ≡ 2 = ap weight e in
    let near = block_less o ts (next, us) i in
    let less : length us ≤ length ts = near.shorter in
    let to : 4 * length us + weight next < 4 * length ts + 2 = near.nearer in
    omega (arith, two, less, to)

pub switch_same : (whole : Read Stmt) (frames : List Frame) (o : OpenSwitch) (ts us : List Token) (now next : Next) → whole ≡ stacked frames now ts → now ≡ nx.Switch o
    → r.switch o ts ≡ Some (next, us) → whole ≡ stacked frames next us
switch_same whole frames o ts us now next h e i = h ∙ ap (λ n. stacked frames n ts) e ∙ switch_turn frames o ts us next i

pub switch_nearer : (frames : List Frame) (o : OpenSwitch) (ts us : List Token) (now next : Next) → now ≡ nx.Switch o → r.switch o ts ≡ Some (next, us) → distance frames next us < distance frames now ts
switch_nearer frames o ts us now next e i =
    let two : weight now ≡ 2 = ap weight e in
    let near = switch_less o ts (next, us) i in
    let less : length us ≤ length ts = near.shorter in
    let to : 4 * length us + weight next < 4 * length ts + 2 = near.nearer in
    omega (arith, two, less, to)

pub section_same : (whole : Read Stmt) (frames : List Frame) (o : OpenSection) (ts us : List Token) (now next : Next) → whole ≡ stacked frames now ts → now ≡ nx.Section o
    → r.section_on o ts ≡ Some (next, us) → whole ≡ stacked frames next us
section_same whole frames o ts us now next h e i = h ∙ ap (λ n. stacked frames n ts) e ∙ section_turn frames o ts us next i

pub section_nearer : (frames : List Frame) (o : OpenSection) (ts us : List Token) (now next : Next) → now ≡ nx.Section o → r.section_on o ts ≡ Some (next, us) → distance frames next us < distance frames now ts
section_nearer frames o ts us now next e i =
    let three : weight now ≡ 3 = ap weight e in
    let near = section_less o ts (next, us) i in
    let less : length us ≤ length ts = near.shorter in
    let to : 4 * length us + weight next < 4 * length ts + 3 = near.nearer in
    omega (arith, three, less, to)
