-- Characters that a text says: what was read is written there, and what is written there is read.
use Rattle.std.proofs.Common.{◌≡◌, ◌⊎◌, ◌+◌, ℕ, zero, suc, ◌<◌, ◌≤◌, true, false, List, [], ◌∷◌, ◌++◌, length, Some, None, refl, ap, sym, ◌∙◌, subst, arith, eqb, inl, inr, length-append, append_assoc}
use Rattle.std.proofs.lemmas.List.{append-nil}
use Rattle.std.specs.Prelude.{◌&&◌}
use Rattle.std.specs.declared.option.Option.{Option}
use Rattle.std.proofs.lemmas.Bool.{and_parts, cases_Bool, eqb-true}
use Rattle.std.proofs.lemmas.Bool.Decides.{nat_tests}
use Rattle.cs_token.specs.declared.written.Form.{Form}
use Rattle.cs_token.specs.declared.written.Form.TheVariants.{Quoted, Part}
use Rattle.cs_token.specs.Written.{is_plain, is_brace, escaped, numbered, IsUnit, itself, escape, number, doubled, IsWritten, nothing, more, NoUnit}
use Rattle.cs_token.specs.Reading.Written.{and_rest, number_at, escape_at, doubled_at, unit_at, and_more, said_in, said_at}
use Rattle.cs_token.proofs.OptionLemmas.{some_is, some_none, kept, mapped}

-- one character

pub record UnitCut (form : Form) (text : List ℕ) (c : ℕ) (rest : List ℕ) : Type 0 where
  pub unit : List ℕ
  pub laid : text ≡ unit ++ rest
  pub is : IsUnit form unit c

escape-cut : (form : Form) (d : ℕ) (text : List ℕ) (c : ℕ) (rest : List ℕ) → and_rest (escaped d) text ≡ Some (c, rest) → UnitCut form (92 ∷ d ∷ text) c rest
escape-cut form d text c rest e =
    let found = mapped (λ (x : ℕ). (x, text)) (escaped d) (c, rest) e in
    let c_is : found.0 ≡ c = ap (λ (x : ℕ × List ℕ). x.0) found.2 in
    let rest_is : text ≡ rest = ap (λ (x : ℕ × List ℕ). x.1) found.2 in
    record { unit = 92 ∷ d ∷ []; laid = ap (λ (x : List ℕ). 92 ∷ d ∷ x) rest_is; is = escape form d c (found.1 ∙ ap (λ (x : ℕ). Some x) c_is) }

number-cut : (form : Form) (text : List ℕ) (n : ℕ) (rest : List ℕ) → number_at text ≡ Some (n, rest) → UnitCut form (92 ∷ 117 ∷ text) n rest
unfolding number_at
number-cut form (a ∷ b ∷ c ∷ d ∷ text) n rest e =
    let found = mapped (λ (x : ℕ). (x, text)) (numbered a b c d) (n, rest) e in
    let n_is : found.0 ≡ n = ap (λ (x : ℕ × List ℕ). x.0) found.2 in
    let rest_is : text ≡ rest = ap (λ (x : ℕ × List ℕ). x.1) found.2 in
    record {
      unit = 92 ∷ 117 ∷ a ∷ b ∷ c ∷ d ∷ [];
      laid = ap (λ (x : List ℕ). 92 ∷ 117 ∷ a ∷ b ∷ c ∷ d ∷ x) rest_is;
      is = number form a b c d n (found.1 ∙ ap (λ (x : ℕ). Some x) n_is);
    }
number-cut form [] n rest e = cc
number-cut form (a ∷ []) n rest e = cc
number-cut form (a ∷ b ∷ []) n rest e = cc
number-cut form (a ∷ b ∷ c ∷ []) n rest e = cc

behind-cut : (form : Form) (text : List ℕ) (c : ℕ) (rest : List ℕ) → escape_at text ≡ Some (c, rest) → UnitCut form (92 ∷ text) c rest
unfolding escape_at
behind-cut form [] c rest e = cc
behind-cut form (d ∷ text) c rest e = elim (cases_Bool (eqb d 117)) [
  | inl is ↦
      let d_is : d ≡ 117 = eqb-true _ _ is in
      subst (λ (x : ℕ). UnitCut form (92 ∷ x ∷ text) c rest) (sym d_is) (number-cut form text c rest (rw is at e))
  | inr fails ↦ escape-cut form d text c rest (rw fails at e)
]

brace-cut : (k c d : ℕ) (text : List ℕ) (x : ℕ) (rest : List ℕ) → is_brace k ≡ true → ((eqb c k) && (eqb d k)) ≡ true → (made : ℕ × List ℕ) → made ≡ (k, text) → Some made ≡ Some (x, rest) → UnitCut Part (c ∷ d ∷ text) x rest
brace-cut k c d text x rest brace twice made made_is e =
    let parts = and_parts (eqb c k) (eqb d k) twice in
    let c_is : c ≡ k = eqb-true _ _ parts.0 in
    let d_is : d ≡ k = eqb-true _ _ parts.1 in
    let want : ℕ × List ℕ = (x, rest) in
    let same : made ≡ want = some_is made want e in
    let x_is : k ≡ x = ap (λ (p : ℕ × List ℕ). p.0) (sym made_is ∙ same) in
    let rest_is : text ≡ rest = ap (λ (p : ℕ × List ℕ). p.1) (sym made_is ∙ same) in
    record {
      unit = k ∷ k ∷ [];
      laid = rw (c_is, d_is, rest_is) refl;
      is = subst (λ (p : ℕ). IsUnit Part (k ∷ k ∷ []) p) x_is (doubled k brace);
    }

doubled-cut : (form : Form) (text : List ℕ) (c : ℕ) (rest : List ℕ) → doubled_at form text ≡ Some (c, rest) → UnitCut form text c rest
unfolding doubled_at
doubled-cut Quoted text c rest e = cc
doubled-cut Part [] c rest e = cc
doubled-cut Part (a ∷ []) c rest e = cc
doubled-cut Part (a ∷ b ∷ text) c rest e = elim (cases_Bool ((eqb a 123) && (eqb b 123))) [
  | inl is ↦ brace-cut 123 a b text c rest refl is (123, text) refl (rw is at e)
  | inr fails ↦
      let later = kept ((eqb a 125) && (eqb b 125)) (Some (125, text)) (c, rest) (rw fails at e) in
      brace-cut 125 a b text c rest refl later.0 (125, text) refl later.1
]

pub unit_at-some : (form : Form) (text : List ℕ) (c : ℕ) (rest : List ℕ) → unit_at form text ≡ Some (c, rest) → UnitCut form text c rest
unfolding unit_at
unit_at-some form [] c rest e = cc
unit_at-some form (d ∷ text) c rest e = elim (cases_Bool (eqb d 92)) [
  | inl is ↦
      let d_is : d ≡ 92 = eqb-true _ _ is in
      subst (λ (x : ℕ). UnitCut form (x ∷ text) c rest) (sym d_is) (behind-cut form text c rest (rw is at e))
  | inr other ↦ elim (cases_Bool (is_plain form d)) [
    | inl plain ↦
        let made : ℕ × List ℕ = (d, text) in
        let want : ℕ × List ℕ = (c, rest) in
        let same : made ≡ want = some_is made want (rw (other, plain) at e) in
        let c_is : d ≡ c = ap (λ (p : ℕ × List ℕ). p.0) same in
        let rest_is : text ≡ rest = ap (λ (p : ℕ × List ℕ). p.1) same in
        record {
          unit = d ∷ [];
          laid = ap (λ (x : List ℕ). d ∷ x) rest_is;
          is = subst (λ (p : ℕ). IsUnit form (d ∷ []) p) c_is (itself form d plain);
        }
    | inr marked ↦ doubled-cut form (d ∷ text) c rest (rw (other, marked) at e)
  ]
]

plain-other : (form : Form) (c : ℕ) → is_plain form c ≡ true → eqb c 92 ≡ false
plain-other Quoted c h = grind (arith, nat_tests)
plain-other Part c h = grind (arith, nat_tests)

brace-other : (c : ℕ) → is_brace c ≡ true → (c ≡ 123) ⊎ (c ≡ 125)
brace-other c h = elim (cases_Bool (eqb c 123)) [
  | inl is ↦ inl (eqb-true _ _ is)
  | inr fails ↦ inr (eqb-true _ _ (rw fails at h))
]

escape-other : (d c : ℕ) → escaped d ≡ Some c → eqb d 117 ≡ false
escape-other d c e = elim (cases_Bool (eqb d 117)) [
  | inl is ↦
      let d_is : d ≡ 117 = eqb-true _ _ is in
      let none : escaped d ≡ None = rw d_is refl in
      absurd (some_none c (sym e ∙ none))
  | inr fails ↦ fails
]

pub unit_at-again : (form : Form) (unit rest : List ℕ) (c : ℕ) → IsUnit form unit c → unit_at form (unit ++ rest) ≡ Some (c, rest)
unfolding unit_at escape_at number_at doubled_at
unit_at-again _ _ rest _ (itself form c plain) = rw (plain-other form c plain, plain) refl
unit_at-again _ _ rest _ (escape form d c e) = rw (escape-other d c e, e) refl
unit_at-again _ _ rest _ (number form a b c d n e) = rw e refl
unit_at-again _ _ rest _ (doubled c brace) = elim (brace-other c brace) [
  | inl is ↦ rw is refl
  | inr is ↦ rw is refl
]

pub unit-some : (form : Form) (unit : List ℕ) (c : ℕ) → IsUnit form unit c → 0 < length unit
unit-some _ _ _ (itself form c plain) = omega arith
unit-some _ _ _ (escape form d c e) = omega arith
unit-some _ _ _ (number form a b c d n e) = omega arith
unit-some _ _ _ (doubled c brace) = omega arith

pub unit_at-none : (form : Form) (text : List ℕ) → unit_at form text ≡ None → NoUnit form text
unit_at-none form text none unit rest c is laid =
    some_none (c, rest) (sym (unit_at-again form unit rest c is) ∙ ap (unit_at form) (sym laid) ∙ none)

no_unit : (form : Form) (text : List ℕ) (o : Option (ℕ × List ℕ)) → unit_at form text ≡ o → NoUnit form text → o ≡ None
no_unit form text None e none = refl
no_unit form text (Some x) e none = let cut = unit_at-some form text x.0 x.1 e in absurd (none cut.unit x.1 x.0 cut.is cut.laid)

pub none-unit_at : (form : Form) (text : List ℕ) → NoUnit form text → unit_at form text ≡ None
none-unit_at form text none = no_unit form text (unit_at form text) refl none

-- as many as there are

pub record SaidCut (form : Form) (text said rest : List ℕ) : Type 0 where
  pub body : List ℕ
  pub laid : text ≡ body ++ rest
  pub is : IsWritten form body said
  pub stops : unit_at form rest ≡ None

empty : (text : List ℕ) → length text ≤ 0 → text ≡ []
empty [] short = refl
empty (c ∷ text) short = absurd (omega arith)

ends : (form : Form) → unit_at form [] ≡ None
unfolding unit_at
ends form = refl

said_more : (n : ℕ) (form : Form) → ((rest : List ℕ) → length rest ≤ n → SaidCut form rest (said_in n form rest).0 (said_in n form rest).1)
    → (text : List ℕ) (o : Option (ℕ × List ℕ)) → unit_at form text ≡ o → length text ≤ suc n → SaidCut form text (and_more text (said_in n form) o).0 (and_more text (said_in n form) o).1
said_more n form less text None e short = record { body = []; laid = refl; is = nothing; stops = e }
said_more n form less text (Some x) e short =
    let cut = unit_at-some form text x.0 x.1 e in
    let some = unit-some form cut.unit x.0 cut.is in
    let whole = ap length cut.laid ∙ length-append cut.unit x.1 in
    let after = less x.1 (omega arith) in
    record {
      body = cut.unit ++ after.body;
      laid = cut.laid ∙ ap (λ (y : List ℕ). cut.unit ++ y) after.laid ∙ sym (append_assoc cut.unit after.body _);
      is = more cut.unit after.body _ x.0 cut.is after.is;
      stops = after.stops;
    }

said_in-cut : (n : ℕ) (form : Form) (text : List ℕ) → length text ≤ n → SaidCut form text (said_in n form text).0 (said_in n form text).1
unfolding said_in
said_in-cut zero form text short =
    record { body = []; laid = refl; is = nothing; stops = ap (unit_at form) (empty text short) ∙ ends form }
said_in-cut (suc n) form text short = said_more n form (λ rest less. said_in-cut n form rest less) text (unit_at form text) refl short

pub said_at-cut : (form : Form) (text : List ℕ) → SaidCut form text (said_at form text).0 (said_at form text).1
unfolding said_at
said_at-cut form text = said_in-cut (length text) form text (omega arith)

stopped : (n : ℕ) (form : Form) (rest : List ℕ) → unit_at form rest ≡ None → said_in n form rest ≡ ([], rest)
unfolding said_in
stopped zero form rest stops = refl
stopped (suc n) form rest stops = rw stops refl

said_in-again : (form : Form) (n : ℕ) (body said rest : List ℕ) → IsWritten form body said → unit_at form rest ≡ None → length (body ++ rest) ≤ n → said_in n form (body ++ rest) ≡ (said, rest)
unfolding said_in
said_in-again form n _ _ rest nothing stops short = stopped n form rest stops
said_in-again form zero _ _ rest (more unit text said c is written) stops short =
    let some = unit-some form unit c is in
    absurd (omega (arith, simp length-append at short))
said_in-again form (suc n) _ _ rest (more unit text said c is written) stops short =
    let some = unit-some form unit c is in
    let long : length (unit ++ text ++ rest) ≡ length unit + length (text ++ rest) = simp length-append (omega arith) in
    rw (append_assoc unit text rest, unit_at-again form unit (text ++ rest) c is, said_in-again form n text said rest written stops (omega arith)) refl

pub said_at-again : (form : Form) (body said rest : List ℕ) → IsWritten form body said → unit_at form rest ≡ None → said_at form (body ++ rest) ≡ (said, rest)
unfolding said_at
said_at-again form body said rest written stops = said_in-again form (length (body ++ rest)) body said rest written stops (omega arith)

-- one more

pub said_at-more : (form : Form) (text : List ℕ) (c : ℕ) (rest : List ℕ) → unit_at form text ≡ Some (c, rest) → said_at form text ≡ (c ∷ (said_at form rest).0, (said_at form rest).1)
said_at-more form text c rest e =
    let cut = unit_at-some form text c rest e in
    let after = said_at-cut form rest in
    let laid : text ≡ cut.unit ++ after.body ++ (said_at form rest).1 = cut.laid ∙ ap (λ (y : List ℕ). cut.unit ++ y) after.laid ∙ sym (append_assoc cut.unit after.body _) in
    ap (said_at form) laid ∙ said_at-again form (cut.unit ++ after.body) (c ∷ (said_at form rest).0) (said_at form rest).1 (more cut.unit after.body _ c cut.is after.is) after.stops

pub said_at-none : (form : Form) (text : List ℕ) → unit_at form text ≡ None → said_at form text ≡ ([], text)
said_at-none form text none = said_at-again form [] [] text nothing none

pub unit-shorter : (form : Form) (text : List ℕ) (c : ℕ) (rest : List ℕ) → unit_at form text ≡ Some (c, rest) → length rest < length text
unit-shorter form text c rest e =
    let cut = unit_at-some form text c rest e in
    let some = unit-some form cut.unit c cut.is in
    let whole = ap length cut.laid ∙ length-append cut.unit rest in
    omega arith

-- what was said so far, and one more

pub one_said : (form : Form) (text found rest : List ℕ) (c : ℕ) (next : List ℕ) → said_at form text ≡ (found ++ (said_at form rest).0, (said_at form rest).1) → unit_at form rest ≡ Some (c, next)
    → said_at form text ≡ (found ++ c ∷ [] ++ (said_at form next).0, (said_at form next).1)
one_said form text found rest c next so_far e = so_far ∙ rw (said_at-more form rest c next e, append_assoc found (c ∷ []) (said_at form next).0) refl

pub all_said : (form : Form) (text found rest : List ℕ) → said_at form text ≡ (found ++ (said_at form rest).0, (said_at form rest).1) → unit_at form rest ≡ None → (found, rest) ≡ said_at form text
all_said form text found rest so_far none = sym (so_far ∙ rw (said_at-none form rest none, append-nil found) refl)
