-- Tokens: what was cut off stands there, and what stands there is cut off.
use Rattle.std.proofs.Common.{◌≡◌, ℕ, ◌<◌, ◌≤◌, Bool, true, false, cond, List, [], ◌∷◌, ◌++◌, length, Some, None, refl, eqb, ap, sym, ◌∙◌, subst, arith, inl, inr, length-append}
use Rattle.std.specs.Prelude.{not}
use Rattle.std.specs.List.{list_all}
use Rattle.std.proofs.lemmas.Bool.{and_parts, and_from, cases_Bool, eqb-true, eq-eqb, ne_eqb}
use Rattle.std.proofs.lemmas.Bool.Decides.{nat_tests}
use Rattle.first_click.specs.declared.characters.Class.TheVariants as class
use Rattle.first_click.specs.Characters.{is_in, AreAll, IsRun, begins_with}
use Rattle.first_click.specs.Reading.Runs.{front, past, run_at}
use Rattle.first_click.specs.Tokens.{is_doubled, begins_double, TokenStands, word, double, sign, IsCode}
use Rattle.first_click.specs.Reading.Tokens.{sign_at, token_at}
use Rattle.first_click.proofs.OptionLemmas.{some_is}
use Rattle.first_click.proofs.Reading.RunLemmas.{run-some, run-again, past-again, skipped}
use Rattle.first_click.proofs.Reading.WalkLemmas.{same_walk}

-- a token

sign_from : (c : ℕ) → is_in class.White c ≡ false → is_in class.Word c ≡ false → is_in class.Sign c ≡ true
sign_from c spaceless wordless = rw (spaceless, wordless) refl

record SignCut (text token rest : List ℕ) : Type 0 where
  c : ℕ
  is : is_in class.Sign c ≡ true
  laid : text ≡ c ∷ rest
  token_is : c ∷ [] ≡ token

sign-some : (text token rest : List ℕ) → begins_with class.White text ≡ false → begins_with class.Word text ≡ false → begins_double text ≡ false → sign_at text ≡ Some (token, rest)
    → SignCut text token rest
sign-some [] token rest spaceless wordless one e = absurd (cc)
sign-some (c ∷ text) token rest spaceless wordless one e =
    let made : List ℕ × List ℕ = (c ∷ [], text) in
    let want : List ℕ × List ℕ = (token, rest) in
    let there : sign_at (c ∷ text) ≡ Some made = rw (one, ne_eqb (length (c ∷ text)) 0 (λ z. omega arith)) refl in
    let same : made ≡ want = some_is made want (sym there ∙ e) in
    record {
      c = c;
      is = sign_from c spaceless wordless;
      laid = ap (λ (x : List ℕ). c ∷ x) (ap (λ (x : List ℕ × List ℕ). x.1) same);
      token_is = ap (λ (x : List ℕ × List ℕ). x.0) same;
    }

record DoubleCut (text token rest : List ℕ) : Type 0 where
  c : ℕ
  is : is_doubled c ≡ true
  laid : text ≡ c ∷ c ∷ rest
  token_is : c ∷ c ∷ [] ≡ token

double-some : (text token rest : List ℕ) → begins_double text ≡ true → sign_at text ≡ Some (token, rest) → DoubleCut text token rest
double-some [] token rest two e = absurd (cc)
double-some (c ∷ []) token rest two e = absurd (cc)
double-some (c ∷ d ∷ text) token rest two e =
    let parts = and_parts (is_doubled c) (eqb d c) two in
    let again : d ≡ c = eqb-true d c parts.1 in
    let made : List ℕ × List ℕ = (c ∷ d ∷ [], text) in
    let want : List ℕ × List ℕ = (token, rest) in
    let there : sign_at (c ∷ d ∷ text) ≡ Some made = rw two refl in
    let same : made ≡ want = some_is made want (sym there ∙ e) in
    record {
      c = c;
      is = parts.0;
      laid = ap (λ (x : ℕ). c ∷ x ∷ text) again ∙ ap (λ (x : List ℕ). c ∷ c ∷ x) (ap (λ (x : List ℕ × List ℕ). x.1) same);
      token_is = ap (λ (x : ℕ). c ∷ x ∷ []) (sym again) ∙ ap (λ (x : List ℕ × List ℕ). x.0) same;
    }

pub double-long : (text : List ℕ) → begins_double text ≡ true → 2 ≤ length text
double-long [] two = absurd (cc)
double-long (c ∷ []) two = absurd (cc)
double-long (c ∷ d ∷ text) two = omega arith

pub token_at-some : (text token rest : List ℕ) → token_at text ≡ Some (token, rest) → TokenStands text token rest
unfolding token_at
token_at-some text token rest e =
    let gap = skipped class.White text in
    elim (cases_Bool (begins_with class.Word (past class.White text))) [
      | inl is ↦
          let run = run-some class.Word (past class.White text) token rest (rw is at e) in
          let laid : text ≡ front class.White text ++ (token ++ rest) = gap.laid ∙ ap (λ (x : List ℕ). front class.White text ++ x) run.1 in
          subst (λ (x : List ℕ). TokenStands x token rest) (sym laid) (word (front class.White text) token rest gap.all run.0 run.2)
      | inr fails ↦ elim (cases_Bool (begins_double (past class.White text))) [
        | inl two ↦
            let cut = double-some (past class.White text) token rest two (rw fails at e) in
            let laid : text ≡ front class.White text ++ (cut.c ∷ cut.c ∷ rest) = gap.laid ∙ ap (λ (x : List ℕ). front class.White text ++ x) cut.laid in
            subst (λ (x : List ℕ). TokenStands x token rest) (sym laid)
            (subst (λ (x : List ℕ). TokenStands (front class.White text ++ (cut.c ∷ cut.c ∷ rest)) x rest) cut.token_is
            (double (front class.White text) cut.c rest gap.all cut.is))
        | inr one ↦
            let cut = sign-some (past class.White text) token rest gap.stops fails one (rw fails at e) in
            let laid : text ≡ front class.White text ++ (cut.c ∷ rest) = gap.laid ∙ ap (λ (x : List ℕ). front class.White text ++ x) cut.laid in
            subst (λ (x : List ℕ). TokenStands x token rest) (sym laid)
            (subst (λ (x : List ℕ). TokenStands (front class.White text ++ (cut.c ∷ rest)) x rest) cut.token_is
            (sign (front class.White text) cut.c rest gap.all cut.is (subst (λ (x : List ℕ). begins_double x ≡ false) cut.laid one)))
      ]
    ]

word_not_white : (c : ℕ) → is_in class.Word c ≡ true → is_in class.White c ≡ false
word_not_white c h = grind (arith, nat_tests)

run_not_white : (text rest : List ℕ) → IsRun class.Word text → begins_with class.White (text ++ rest) ≡ false
run_not_white [] rest is = let some = is.some in absurd (omega arith)
run_not_white (c ∷ text) rest is = word_not_white c (and_parts (is_in class.Word c) (list_all (is_in class.Word) text) is.all).0

run_begins : (text rest : List ℕ) → IsRun class.Word text → begins_with class.Word (text ++ rest) ≡ true
run_begins [] rest is = let some = is.some in absurd (omega arith)
run_begins (c ∷ text) rest is = (and_parts (is_in class.Word c) (list_all (is_in class.Word) text) is.all).0

not_parts : (a b : Bool) → not a ≡ true → not b ≡ true → (a ≡ false) × (b ≡ false)
not_parts true b p q = absurd (cc)
not_parts false true p q = absurd (cc)
not_parts false false p q = (refl, refl)

sign_parts : (c : ℕ) → is_in class.Sign c ≡ true → (is_in class.White c ≡ false) × (is_in class.Word c ≡ false)
sign_parts c h = let p = and_parts (not (is_in class.White c)) (not (is_in class.Word c)) h in not_parts _ _ p.0 p.1

doubled_not_white : (c : ℕ) → is_doubled c ≡ true → is_in class.White c ≡ false
doubled_not_white c h = grind (arith, nat_tests)

doubled_not_word : (c : ℕ) → is_doubled c ≡ true → is_in class.Word c ≡ false
doubled_not_word c h = grind (arith, nat_tests)

pub token_at-again : (text token rest : List ℕ) → TokenStands text token rest → token_at text ≡ Some (token, rest)
unfolding token_at
token_at-again _ _ _ (word gap text rest white is stops) =
    rw (past-again class.White gap (text ++ rest) white (run_not_white text rest is), run_begins text rest is) (run-again class.Word text rest is stops)
token_at-again _ _ _ (double gap c rest white is) =
    let same : eqb c c ≡ true = eq-eqb c c refl in
    let two : begins_double (c ∷ c ∷ rest) ≡ true = and_from (is_doubled c) (eqb c c) is same in
    rw (past-again class.White gap (c ∷ c ∷ rest) white (doubled_not_white c is), doubled_not_word c is, two) refl
token_at-again _ _ _ (sign gap c rest white is one) =
    let parts = sign_parts c is in
    rw (past-again class.White gap (c ∷ rest) white parts.0, parts.1, one, ne_eqb (length (c ∷ rest)) 0 (λ z. omega arith)) refl

pub token-shorter : (text token rest : List ℕ) → TokenStands text token rest → length rest < length text
token-shorter _ _ _ (word gap text rest white is stops) = let some = is.some in simp length-append (omega arith)
token-shorter _ _ _ (double gap c rest white is) = simp length-append (omega arith)
token-shorter _ _ _ (sign gap c rest white is one) = simp length-append (omega arith)

-- where no token stands, white space does

past_nothing : (text : List ℕ) → past class.White text ≡ [] → AreAll class.White text
past_nothing [] e = refl
past_nothing (c ∷ text) e = elim (cases_Bool (is_in class.White c)) [
  | inl is ↦ and_from _ _ is (past_nothing text (rw is at e))
  | inr fails ↦ absurd (let none : c ∷ text ≡ [] = rw fails at e in cc)
]

nothing_past : (text : List ℕ) → AreAll class.White text → past class.White text ≡ []
nothing_past [] e = refl
nothing_past (c ∷ text) e =
    let parts = and_parts (is_in class.White c) (list_all (is_in class.White) text) e in
    rw parts.0 (nothing_past text parts.1)

no_token : (text : List ℕ) → cond (begins_with class.Word text) (run_at class.Word text) (sign_at text) ≡ None → text ≡ []
unfolding run_at
no_token [] e = refl
no_token (c ∷ text) e = elim (cases_Bool (is_in class.Word c)) [
  | inl is ↦ absurd (let there = rw (is, ne_eqb (length (c ∷ front class.Word text)) 0 (λ z. omega arith)) at e in cc)
  | inr fails ↦ elim (cases_Bool (begins_double (c ∷ text))) [
    | inl two ↦ absurd (let there = rw (fails, two) at e in cc)
    | inr one ↦ absurd (let there = rw (fails, one, ne_eqb (length (c ∷ text)) 0 (λ z. omega arith)) at e in cc)
  ]
]

pub token_at-none : (text : List ℕ) → token_at text ≡ None → AreAll class.White text
unfolding token_at
token_at-none text e = past_nothing text (no_token (past class.White text) e)

pub none-token_at : (text : List ℕ) → AreAll class.White text → token_at text ≡ None
unfolding token_at run_at
none-token_at text e = rw (nothing_past text e) refl

-- code has one list of tokens

pub one_code : (text : List ℕ) (a b : List (List ℕ)) → IsCode text a → IsCode text b → a ≡ b
one_code text a b x y =
    (same_walk TokenStands token_at token_at-again text x.white y.white a b x.walk y.walk (none-token_at x.white x.all) (none-token_at y.white y.all)).things
