-- What stands behind the content: the end of the file, or its code.
use Rattle.std.proofs.Common.{◌≡◌, ℕ, ◌-◌, ◌≤◌, suc, true, false, List, [], ◌∷◌, ◌++◌, length, take, drop, get_or, Some, None, Result, Ok, Err, ap, sym, ◌∙◌, subst, arith, eqb, inl, inr, length-append}
use Rattle.std.specs.Prelude.{codes, IfOk, MatchOption}
use Rattle.std.specs.declared.option.Option.{Option}
use Rattle.std.specs.Str.{bytes_eq}
use Rattle.std.specs.Cmp.Lexicographic.{bytes_decides}
use Rattle.std.proofs.lemmas.Bool.{and_parts, false≢true}
use Rattle.std.proofs.lemmas.List.{take_at}
use Rattle.std.proofs.Math.Seq.{take-length, take-suc}
use Rattle.first_click.specs.declared.code.CodeBlock.{CodeBlock}
use Rattle.first_click.specs.declared.component.Field.{Field}
use Rattle.first_click.specs.declared.component.Method.{Method}
use Rattle.first_click.specs.Code.{IsBlock, Declares, Section, Closes}
use Rattle.first_click.specs.Members.{Member, MemberStands, are_named_well, fields_of}
use Rattle.first_click.specs.Nesting.{is_shallow}
use Rattle.first_click.specs.Pieces.{Moment}
use Rattle.first_click.specs.Reading.Code.{are_braces}
use Rattle.first_click.specs.Reading.Runs.{strip}
use Rattle.first_click.specs.Statements.{Defines}
use Rattle.first_click.specs.Tokens.{TokenStands, IsCode}
use Rattle.first_click.specs.Walks.{Walk}
use Rattle.first_click.proofs.ListLemmas.{not_empty}
use Rattle.first_click.proofs.OptionLemmas.{some_is, some_none}
use Rattle.first_click.proofs.Reading.MemberLemmas.{one_list}
use Rattle.first_click.proofs.Reading.RunLemmas.{strip-again, strip-some}
use Rattle.first_click.proofs.Reading.StatementLemmas.{one_definition}
use Rattle.first_click.proofs.Reading.TokenLemmas.{one_code, token-shorter}
use Rattle.first_click.proofs.Reading.WalkLemmas.{walk-length}

-- a block, in the code's terms
pub in_braces : (first last : List ℕ) (ts : List (List ℕ)) → 2 ≤ length ts → first ≡ get_or ts 0 first → last ≡ get_or ts (length ts - 1) last → are_braces first last ≡ true
    → IsBlock ts (take (length ts - 1 - 1) (drop 1 ts))
in_braces first last [] long begins ends is = absurd (omega arith)
in_braces first last (a ∷ rest) long begins ends is =
    let last_at : length (a ∷ rest) - 1 ≡ suc (length rest - 1) = omega arith in
    let inner : length (a ∷ rest) - 1 - 1 ≡ length rest - 1 = omega arith in
    let count : length rest ≡ suc (length rest - 1) = omega arith in
    let parts = and_parts (bytes_eq first (codes "{")) (bytes_eq last (codes "}")) is in
    let first_is : a ≡ codes "{" = sym begins ∙ (bytes_decides first (codes "{")).0 parts.0 in
    let at_end : last ≡ get_or rest (length rest - 1) last = ends ∙ ap (λ n. get_or (a ∷ rest) n last) last_at in
    let last_is : get_or rest (length rest - 1) last ≡ codes "}" = sym at_end ∙ (bytes_decides last (codes "}")).0 parts.1 in
    let whole : rest ≡ take (length rest - 1) rest ++ get_or rest (length rest - 1) last ∷ [] =
    sym (take-length rest) ∙ ap (λ n. take n rest) count ∙ take-suc rest (length rest - 1) last (omega arith) in
    rw inner
    (ap (λ (x : List ℕ). x ∷ rest) first_is
    ∙ ap (λ (y : List (List ℕ)). codes "{" ∷ y) (whole ∙ ap (λ (z : List ℕ). take (length rest - 1) rest ++ z ∷ []) last_is))

-- what doesn't close

-- nothing closes from here
abbrev pub NoEnd : Moment → Type 0
NoEnd m = (fields : List Field) (methods : List Method) → Closes m fields methods → ⊥

abbrev pub NoSection : Moment → Type 0
NoSection m = (fields : List Field) (methods : List Method) → Section m fields methods → ⊥

pub only_section : (m : Moment) → eqb (length m.1) 0 ≡ false → NoSection m → NoEnd m
only_section m more none fields methods (inl end) = not_empty m.1 more end.0
only_section m more none fields methods (inr section) = none fields methods section

pub joined_word : (m : Moment) → m.0 ≡ true → NoSection m
joined_word m e fields methods section = let apart = section.apart in cc

pub no_code : (m : Moment) → strip (codes "@code") m.1 ≡ None → NoSection m
no_code m e fields methods section =
    let there : strip (codes "@code") m.1 ≡ Some section.code = ap (strip (codes "@code")) section.laid ∙ strip-again (codes "@code") section.code in
    cc

-- what is declared between the braces

abbrev inner : List (List ℕ) → List (List ℕ)
inner tokens = take (length tokens - 2) (drop 1 tokens)

inner-block : (body : List (List ℕ)) → inner (codes "{" ∷ (body ++ codes "}" ∷ [])) ≡ body
inner-block body = take_at body (codes "}" ∷ []) (length (codes "{" ∷ (body ++ codes "}" ∷ [])) - 2) (omega (arith, length-append body (codes "}" ∷ [])))

pub one_block : (tokens a b : List (List ℕ)) → IsBlock tokens a → IsBlock tokens b → a ≡ b
one_block tokens a b x y = sym (inner-block a) ∙ ap inner (sym x ∙ y) ∙ inner-block b

pub block-shorter : (tokens body : List (List ℕ)) → IsBlock tokens body → length body ≤ length tokens
block-shorter tokens body is = omega (arith, ap length is, length-append body (codes "}" ∷ []))

-- the fields and methods that are declared are one pair
pub record SamePair (a b : List Field) (x y : List Method) : Type 0 where
  pub fields : a ≡ b
  pub methods : x ≡ y

pub one_declaration : (body : List (List ℕ)) (a b : List Field) (x y : List Method) → Declares body a x → Declares body b y → SamePair a b x y
one_declaration body a b x y p q =
    let members : p.members ≡ q.members = one_list body p.members q.members p.listed q.listed in
    let fields : a ≡ b = some_is a b (sym p.valued ∙ ap fields_of members ∙ q.valued) in
    let moved : Defines b q.members x = subst (λ (f : List Field). Defines f q.members x) fields (subst (λ (m : List Member). Defines a m x) members p.defined) in
    record { fields = fields; methods = one_definition b q.members x y moved q.defined }

-- nothing is declared, where the names aren't right, a value is no number, or a body is no statements
module _ (body : List (List ℕ)) (members : List Member) (listed : Walk MemberStands body members []) where
  abbrev pub NoDeclaration : Type 0
  NoDeclaration = (fields : List Field) (methods : List Method) → Declares body fields methods → ⊥

  pub ill_named : are_named_well members ≡ false → NoDeclaration
  ill_named ill fields methods d =
      let same : d.members ≡ members = one_list body d.members members d.listed listed in
      false≢true (sym ill ∙ sym (ap are_named_well same) ∙ d.named)

  pub no_values : fields_of members ≡ None → NoDeclaration
  no_values none fields methods d =
      let same : d.members ≡ members = one_list body d.members members d.listed listed in
      some_none fields (sym d.valued ∙ ap fields_of same ∙ none)

  pub no_bodies : (declared : List Field) → fields_of members ≡ Some declared → ((methods : List Method) → Defines declared members methods → ⊥) → NoDeclaration
  no_bodies declared valued none fields methods d =
      let same : d.members ≡ members = one_list body d.members members d.listed listed in
      let fields_are : fields ≡ declared = some_is fields declared (sym d.valued ∙ ap fields_of same ∙ valued) in
      none methods (subst (λ (f : List Field). Defines f members methods) fields_are (subst (λ (m : List Member). Defines fields m methods) same d.defined))

module _ (m : Moment) (code : List ℕ) (tokens : List (List ℕ)) (front : strip (codes "@code") m.1 ≡ Some code) (spelled : IsCode code tokens) where
  same_code : (fields : List Field) (methods : List Method) → (section : Section m fields methods) → section.tokens ≡ tokens
  same_code fields methods section =
      let there : strip (codes "@code") m.1 ≡ Some section.code = ap (strip (codes "@code")) section.laid ∙ strip-again (codes "@code") section.code in
      let same : section.code ≡ code = some_is section.code code (sym there ∙ front) in
      one_code code section.tokens tokens (subst (λ (x : List ℕ). IsCode x section.tokens) same section.spelled) spelled

  -- no section, where the tokens nest too deep, are no block, or declare nothing

  pub too_deep : is_shallow tokens ≡ false → NoSection m
  too_deep deep fields methods section =
      false≢true (sym deep ∙ sym (ap is_shallow (same_code fields methods section)) ∙ section.shallow)

  pub no_block : ((body : List (List ℕ)) → IsBlock tokens body → ⊥) → NoSection m
  no_block none fields methods section =
      none section.body (subst (λ (x : List (List ℕ)). IsBlock x section.body) (same_code fields methods section) section.block)

  pub no_members : (body : List (List ℕ)) → IsBlock tokens body → ((fields : List Field) (methods : List Method) → Declares body fields methods → ⊥) → NoSection m
  no_members body block none fields methods section =
      let same : section.tokens ≡ tokens = same_code fields methods section in
      let inside : section.body ≡ body = one_block tokens section.body body (subst (λ (x : List (List ℕ)). IsBlock x section.body) same section.block) block in
      none fields methods (subst (λ (x : List (List ℕ)). Declares x fields methods) inside section.declares)

  pub a_section : (body : List (List ℕ)) (fields : List Field) (methods : List Method) → m.0 ≡ false → is_shallow tokens ≡ true → IsBlock tokens body → Declares body fields methods
      → Section m fields methods
  a_section body fields methods apart shallow block declares = record {
    apart = apart;
    code = code;
    laid = strip-some (codes "@code") m.1 code front;
    tokens = tokens;
    spelled = spelled;
    shallow = shallow;
    body = body;
    block = block;
    declares = declares;
  }

  -- there are no more tokens than characters
  pub tokens-few : length tokens ≤ length m.1
  tokens-few =
      let laid = strip-some (codes "@code") m.1 code front in
      omega (arith, walk-length TokenStands length token-shorter code spelled.white tokens spelled.walk, ap length laid, length-append (codes "@code") code)

  -- what the code made of the body, the end of the file has

  pub closing : {E : Type 0} (r : Result (Option CodeBlock) E) (body : List (List ℕ)) → eqb (length m.1) 0 ≡ false → m.0 ≡ false → is_shallow tokens ≡ true → IsBlock tokens body
      → IfOk r (λ found. MatchOption found ((fields : List Field) (methods : List Method) → Declares body fields methods → ⊥) (λ made. Declares body made.fields made.methods))
      → IfOk r (λ found. MatchOption found (NoEnd m) (λ made. Closes m made.fields made.methods))
  closing (Err e) body more apart shallow block made = tt
  closing (Ok (Some found)) body more apart shallow block made = inr (a_section body found.fields found.methods apart shallow block made)
  closing (Ok None) body more apart shallow block none = only_section m more (no_members body block none)
