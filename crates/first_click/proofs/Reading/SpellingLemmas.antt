-- A file spells at most one component, and none where reading refuses it.
use Rattle.std.proofs.Common.{◌≡◌, ℕ, ◌≤◌, Bool, true, false, List, [], ◌∷◌, ◌++◌, Some, None, refl, ap, sym, ◌∙◌, subst, arith, inl, inr}
use Rattle.std.specs.Prelude.{codes, count_by}
use Rattle.std.specs.List.{list_all}
use Rattle.std.proofs.lemmas.Bool.{and_parts}
use Rattle.std.proofs.lemmas.Bool.Decides.{nat_tests}
use Rattle.first_click.specs.declared.characters.Class.TheVariants as class
use Rattle.first_click.specs.declared.component.Component.{Component}
use Rattle.first_click.specs.declared.component.Field.{Field}
use Rattle.first_click.specs.declared.component.Item.{Item}
use Rattle.first_click.specs.declared.component.Method.{Method}
use Rattle.first_click.specs.Characters.{is_in, AreAll, IsRun, begins_with}
use Rattle.first_click.specs.Code.{IsBlock, Declares, Section, Closes}
use Rattle.first_click.specs.Handlers.{parts_behind, handlers_of}
use Rattle.first_click.specs.Component.{counts, Spells}
use Rattle.first_click.specs.Content.{Spelled, trimmed}
use Rattle.first_click.specs.Reading.Cutting.{piece_at, shown_at, literal_at, CutsUp}
use Rattle.first_click.specs.Pieces.{Piece, Moment, Stands}
use Rattle.first_click.specs.Reading.Runs.{run_at, strip}
use Rattle.first_click.specs.Tokens.{TokenStands, word, double, sign, IsCode}
use Rattle.first_click.specs.Walks.{Walk, stay, go}
use Rattle.first_click.proofs.OptionLemmas.{some_is, some_none}
use Rattle.first_click.proofs.Reading.RunLemmas.{run-again, strip-again}
use Rattle.first_click.proofs.Reading.WalkLemmas.{same_walk, SameWalk}
use Rattle.first_click.proofs.Reading.PieceLemmas.{piece_at-again, no_tag}
use Rattle.first_click.proofs.Reading.TokenLemmas.{one_code}
use Rattle.first_click.proofs.Reading.ClosingLemmas.{one_block, SamePair, one_declaration}
use Rattle.first_click.proofs.Reading.ContentLemmas.{one_tree}

-- no piece of content stands at the end of a file, nor at its code

ended_file : (joined : Bool) → piece_at (joined, []) ≡ None
unfolding piece_at literal_at run_at strip
ended_file joined = refl

white_not_letter : (c : ℕ) → is_in class.White c ≡ true → is_in class.Letter c ≡ false
white_not_letter c h = grind (arith, nat_tests)

no_letter : (gap rest : List ℕ) → AreAll class.White gap → begins_with class.Letter rest ≡ false → begins_with class.Letter (gap ++ rest) ≡ false
no_letter [] rest white stops = stops
no_letter (c ∷ gap) rest white stops = white_not_letter c (and_parts (is_in class.White c) (list_all (is_in class.White) gap) white).0

brace_first : (code token rest : List ℕ) → TokenStands code token rest → token ≡ codes "{" → begins_with class.Letter code ≡ false
brace_first _ _ _ (word gap text rest white is stops) e =
    let run : IsRun class.Word (codes "{") = subst (IsRun class.Word) e is in
    let all = run.all in
    absurd (cc)
brace_first _ _ _ (double gap c rest white is) e = absurd (cc)
brace_first _ _ _ (sign gap c rest white is one) e =
    let c_is : c ≡ 123 = cc in
    no_letter gap (c ∷ rest) white (rw c_is refl)

first_token : (code : List ℕ) (tokens : List (List ℕ)) (white : List ℕ) → Walk TokenStands code tokens white → (token : List ℕ) (more : List (List ℕ)) → tokens ≡ token ∷ more
    → (rest : List ℕ) × TokenStands code token rest
first_token _ _ _ (stay code) token more e = absurd (cc)
first_token _ _ _ (go code rest white first tokens step walk) token more e =
    let same : first ≡ token = cc in
    (rest, subst (λ (x : List ℕ). TokenStands code x rest) same step)

code_apart : (m : Moment) (fields : List Field) (methods : List Method) → (s : Section m fields methods) → begins_with class.Letter s.code ≡ false
code_apart m fields methods s =
    let first = first_token s.code s.tokens s.spelled.white s.spelled.walk (codes "{") (s.body ++ codes "}" ∷ []) s.block in
    brace_first s.code (codes "{") first.0 first.1 refl

not_shown : (code : List ℕ) → begins_with class.Letter code ≡ false → shown_at (codes "code" ++ code) ≡ None
unfolding shown_at
not_shown code stops = rw (run-again class.Letter (codes "code") code (record { some = omega arith; all = refl }) stops) refl

at_code : (code : List ℕ) → begins_with class.Letter code ≡ false → piece_at (false, codes "@code" ++ code) ≡ None
unfolding piece_at
at_code code stops =
    let tagless = no_tag (codes "code" ++ code) in
    rw (tagless.0, tagless.1, strip-again (codes "@") (codes "code" ++ code)) (not_shown code stops)

closes-stops : (m : Moment) (fields : List Field) (methods : List Method) → Closes m fields methods → piece_at m ≡ None
closes-stops m fields methods (inl end) = ap (λ (t : List ℕ). piece_at (m.0, t)) end.0 ∙ ended_file m.0
closes-stops m fields methods (inr section) =
    ap (λ (t : List ℕ). piece_at (m.0, t)) section.laid
    ∙ ap (λ (b : Bool). piece_at (b, codes "@code" ++ section.code)) section.apart
    ∙ at_code section.code (code_apart m fields methods section)

-- the fields and methods are those that are declared

one_section : (m : Moment) (a b : List Field) (p q : List Method) → Section m a p → Section m b q → SamePair a b p q
one_section m a b p q x y =
    let front : (s : List ℕ) → m.1 ≡ codes "@code" ++ s → strip (codes "@code") m.1 ≡ Some s = λ s e. ap (strip (codes "@code")) e ∙ strip-again (codes "@code") s in
    let code : y.code ≡ x.code = some_is y.code x.code (sym (front y.code y.laid) ∙ front x.code x.laid) in
    let tokens : y.tokens ≡ x.tokens = one_code x.code y.tokens x.tokens (subst (λ (s : List ℕ). IsCode s y.tokens) code y.spelled) x.spelled in
    let body : y.body ≡ x.body = one_block x.tokens y.body x.body (subst (λ (s : List (List ℕ)). IsBlock s y.body) tokens y.block) x.block in
    one_declaration x.body a b p q x.declares (subst (λ (s : List (List ℕ)). Declares s b q) body y.declares)

nothing_there : (m : Moment) (fields : List Field) (methods : List Method) → m.1 ≡ [] → Section m fields methods → ⊥
nothing_there m fields methods e section = let laid = section.laid in cc

pub one_closing : (m : Moment) (a b : List Field) (p q : List Method) → Closes m a p → Closes m b q → SamePair a b p q
one_closing m a b p q (inl x) (inl y) = record { fields = x.1 ∙ sym y.1; methods = x.2 ∙ sym y.2 }
one_closing m a b p q (inl x) (inr y) = absurd (nothing_there m b q x.0 y)
one_closing m a b p q (inr x) (inl y) = absurd (nothing_there m a p y.0 x)
one_closing m a b p q (inr x) (inr y) = one_section m a b p q x y

-- what reading refuses

cut_alike : (path text : List ℕ) (component : Component) (pieces : List Piece) (end : Moment) → (s : Spells path text component) → CutsUp text pieces end → SameWalk s.pieces pieces s.end end
cut_alike path text component pieces end s cuts =
    same_walk Stands piece_at piece_at-again (false, text) s.end end s.pieces pieces s.laid cuts.walk (closes-stops s.end component.fields component.methods s.closes) cuts.stops

module _ (path text : List ℕ) (pieces : List Piece) (end : Moment) (cuts : CutsUp text pieces end) where
  pub too_many : (count_by counts pieces ≤ 1000 → ⊥) → (component : Component) → Spells path text component → ⊥
  too_many many component s =
      let same = cut_alike path text component pieces end s cuts in
      many (subst (λ (x : List Piece). count_by counts x ≤ 1000) same.things s.few)

  pub other_end : ((fields : List Field) (methods : List Method) → Closes end fields methods → ⊥) → (component : Component) → Spells path text component → ⊥
  other_end none component s =
      let same = cut_alike path text component pieces end s cuts in
      none component.fields component.methods (subst (λ (x : Moment). Closes x component.fields component.methods) same.ends s.closes)

  module _ (fields : List Field) (methods : List Method) (closes : Closes end fields methods) where
    declared_alike : (component : Component) → Spells path text component → SamePair component.fields fields component.methods methods
    declared_alike component s =
        let same = cut_alike path text component pieces end s cuts in
        one_closing end component.fields fields component.methods methods (subst (λ (x : Moment). Closes x component.fields component.methods) same.ends s.closes) closes

    pub no_method : handlers_of methods pieces ≡ None → (component : Component) → Spells path text component → ⊥
    no_method none component s =
        let same = cut_alike path text component pieces end s cuts in
        let pair = declared_alike component s in
        some_none component.handlers (sym s.handled ∙ ap (handlers_of component.methods) same.things ∙ ap (λ (x : List Method). handlers_of x pieces) pair.methods ∙ none)

    pub no_tree : ((items : List Item) → Spelled fields 100 (parts_behind 0 pieces) items → ⊥) → (component : Component) → Spells path text component → ⊥
    no_tree none component s =
        let same = cut_alike path text component pieces end s cuts in
        let pair = declared_alike component s in
        none s.tree.items
        (subst (λ (x : List Field). Spelled x 100 (parts_behind 0 pieces) s.tree.items) pair.fields
        (subst (λ (x : List Piece). Spelled component.fields 100 (parts_behind 0 x) s.tree.items) same.things s.tree.spelled))

-- at most one component

pub one_component : (path text : List ℕ) (a b : Component) → Spells path text a → Spells path text b → a ≡ b
one_component path text a b x y =
    let cuts : CutsUp text y.pieces y.end = record { walk = y.laid; stops = closes-stops y.end b.fields b.methods y.closes } in
    let same = cut_alike path text a y.pieces y.end x cuts in
    let pair = declared_alike path text y.pieces y.end cuts b.fields b.methods y.closes a x in
    let fields : a.fields ≡ b.fields = pair.fields in
    let methods : a.methods ≡ b.methods = pair.methods in
    let handlers : a.handlers ≡ b.handlers =
    some_is a.handlers b.handlers (sym x.handled ∙ ap (handlers_of a.methods) same.things ∙ ap (λ (m : List Method). handlers_of m y.pieces) methods ∙ y.handled) in
    let moved : Spelled b.fields 100 (parts_behind 0 y.pieces) x.tree.items =
    subst (λ (f : List Field). Spelled f 100 (parts_behind 0 y.pieces) x.tree.items) fields
    (subst (λ (p : List Piece). Spelled a.fields 100 (parts_behind 0 p) x.tree.items) same.things x.tree.spelled) in
    let items : a.items ≡ b.items = x.tree.ends ∙ ap trimmed (one_tree b.fields (parts_behind 0 y.pieces) x.tree.items y.tree.items moved y.tree.spelled) ∙ sym y.tree.ends in
    let component : List Field → List Method → List ℕ → List Item → Component = λ f m h i. record { fields = f; methods = m; handlers = h; items = i } in
    ap (λ (f : List Field). component f a.methods a.handlers a.items) fields
    ∙ ap (λ (m : List Method). component b.fields m a.handlers a.items) methods
    ∙ ap (λ (h : List ℕ). component b.fields b.methods h a.items) handlers
    ∙ ap (λ (i : List Item). component b.fields b.methods b.handlers i) items
