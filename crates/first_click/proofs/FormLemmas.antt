-- What holds of every component that a file spells: its fields are numbers, each handler is one of its methods, and its methods are blocks
-- of assignments and steps over numbers, fields and three operators.
use Rattle.std.proofs.Common.{◌≡◌, ℕ, ℤ, ◌+◌, ◌<◌, Bool, true, false, cond, List, [], ◌∷◌, ◌++◌, length, Some, None, ap, sym, ◌∙◌, subst, arith, inl, inr, refl, eqb}
use Rattle.std.specs.Prelude.{All}
use Rattle.std.specs.declared.option.Option.{Option}
use Rattle.std.specs.List.{list_all}
use Rattle.std.specs.Str.{bytes_eq}
use Rattle.std.proofs.lemmas.List.Elements.{All-nil, All-cons}
use Rattle.text_core.specs.Decimal.{i32_of}
use Rattle.cs_ast.specs.declared.code.Code.{Code}
use Rattle.cs_ast.specs.declared.code.Code.TheVariants as code
use Rattle.cs_ast.specs.declared.operators.BinaryOp.{BinaryOp}
use Rattle.cs_ast.specs.declared.operators.BinaryOp.TheVariants.{Add, Subtract, Multiply}
use Rattle.cs_ast.specs.declared.operators.StepOp.{StepOp}
use Rattle.cs_ast.specs.declared.value.Value.TheVariants.{Int}
use Rattle.first_click.specs.declared.characters.Class.TheVariants as class
use Rattle.first_click.specs.declared.component.Component.{Component}
use Rattle.first_click.specs.declared.component.Field.{Field}
use Rattle.first_click.specs.declared.component.Method.{Method}
use Rattle.first_click.specs.Characters.{is_in}
use Rattle.first_click.specs.Code.{Section, Closes}
use Rattle.first_click.specs.Component.{Spells}
use Rattle.first_click.specs.Expressions.{field_number, leaf, operator, tightness, Expresses, single, brackets, binary}
use Rattle.first_click.specs.Fields as f
use Rattle.first_click.specs.Handlers.{method_number, handlers_of}
use Rattle.first_click.specs.Members.{Member, field, method, field_of, fields_of}
use Rattle.first_click.specs.Options.{◌>>=◌}
use Rattle.first_click.specs.Pieces.{Piece, Moment}
use Rattle.first_click.specs.Positions.{position_from}
use Rattle.first_click.specs.Statements.{assignment, step, StatementStands, assigns, steps, method_of, Defines, no_more, past_field, one_more}
use Rattle.first_click.specs.Walks.{Walk}
use Rattle.first_click.specs.Walks as w
use Rattle.first_click.proofs.OptionLemmas.{bind_some, some_is}

-- a position is one of the list
position-within : {A : Type 0} (name_of : A → List ℕ) (at : ℕ) (xs : List A) (name : List ℕ) (k : ℕ) → position_from name_of at xs name ≡ Some k → k < at + length xs
position-within name_of at [] name k e = absurd (cc)
position-within name_of at (x ∷ xs) name k e = go (bytes_eq (name_of x) name) e (λ more. position-within name_of (at + 1) xs name k more)
  where
    go : (d : Bool) → cond d (Some at) (position_from name_of (at + 1) xs name) ≡ Some k → (position_from name_of (at + 1) xs name ≡ Some k → k < at + 1 + length xs) → k < at + length (x ∷ xs)
    go true found later = omega (arith, some_is at k found)
    go false more later = omega (arith, later more)

operator-is : (P : BinaryOp → Type 0) → P Add → P Subtract → P Multiply → (token : List ℕ) (o : BinaryOp) → operator token ≡ Some o → P o
unfolding operator
operator-is P add subtract multiply token o e = go (bytes_eq token (43 ∷ [])) (bytes_eq token (45 ∷ [])) (bytes_eq token (42 ∷ [])) e
  where
    go : (x y z : Bool) → cond x (Some Add) (cond y (Some Subtract) (cond z (Some Multiply) None)) ≡ Some o → P o
    go true y z is = subst P (some_is Add o is) add
    go false true z is = subst P (some_is Subtract o is) subtract
    go false false true is = subst P (some_is Multiply o is) multiply
    go false false false is = absurd (cc)

-- the fields are numbers
abbrev pub IsNumeric : Field → Type 0
IsNumeric x = (number : ℤ) × (x.value ≡ Int number)

numeric-fields : (members : List Member) (fields : List Field) → fields_of members ≡ Some fields → All IsNumeric fields
numeric-fields [] fields e = subst (All IsNumeric) (some_is [] fields e) (All-nil IsNumeric)
numeric-fields (field name digits ∷ members) fields e =
    let first = bind_some (field_of name digits) (λ x. fields_of members >>= λ more. Some (x ∷ more)) fields e in
    let number = bind_some (i32_of digits) (λ n. Some (f.field name n)) first.0 first.1 in
    let more = bind_some (fields_of members) (λ more. Some (first.0 ∷ more)) fields first.2 in
    let is : IsNumeric first.0 = subst IsNumeric (some_is (f.field name number.0) first.0 number.2) (number.0, refl) in
    subst (All IsNumeric) (some_is (first.0 ∷ more.0) fields more.2) (All-cons IsNumeric first.0 more.0 is (numeric-fields members more.0 more.1))
numeric-fields (method name body ∷ members) fields e = numeric-fields members fields e

-- each handler is one of the methods
handled-methods : (methods : List Method) (pieces : List Piece) (handlers : List ℕ) → handlers_of methods pieces ≡ Some handlers → All (λ k. k < length methods) handlers
handled-methods methods [] handlers e = subst (All (λ k. k < length methods)) (some_is [] handlers e) (All-nil (λ k. k < length methods))
handled-methods methods (piece ∷ pieces) handlers e = go (eqb (length piece.2) 0) e (λ others same. handled-methods methods pieces others same)
  where
    go : (d : Bool) → cond d (handlers_of methods pieces) (method_number methods piece.2 >>= λ number. (handlers_of methods pieces >>= λ numbers. Some (number ∷ numbers))) ≡ Some handlers
        → ((others : List ℕ) → handlers_of methods pieces ≡ Some others → All (λ k. k < length methods) others) → All (λ k. k < length methods) handlers
    go true same later = later handlers same
    go false more later =
        let number = bind_some (method_number methods piece.2) (λ number. handlers_of methods pieces >>= λ numbers. Some (number ∷ numbers)) handlers more in
        let numbers = bind_some (handlers_of methods pieces) (λ numbers. Some (number.0 ∷ numbers)) handlers number.2 in
        let is : number.0 < length methods = omega (arith, position-within (λ (m : Method). m.name) 0 methods piece.2 number.0 number.1) in
        subst (All (λ k. k < length methods)) (some_is (number.0 ∷ numbers.0) handlers numbers.2)
        (All-cons (λ k. k < length methods) number.0 numbers.0 is (later numbers.0 numbers.1))

-- what holds of numbers, fields and sums, differences and products of these; and of assignments of these, and of steps
pub record Holds (count : ℕ) (IsNumber IsStatement : Code → Type 0) : Type 0 where
  pub number : (n : ℤ) → IsNumber (code.Int n)
  pub name : (k : ℕ) → k < count → IsNumber (code.Field k)
  pub sum : (a b : Code) → IsNumber a → IsNumber b → IsNumber (code.Binary Add a b)
  pub difference : (a b : Code) → IsNumber a → IsNumber b → IsNumber (code.Binary Subtract a b)
  pub product : (a b : Code) → IsNumber a → IsNumber b → IsNumber (code.Binary Multiply a b)
  pub assigned : (k : ℕ) (e : Code) → k < count → IsNumber e → IsStatement (assignment k e)
  pub stepped : (k : ℕ) (o : StepOp) → k < count → IsStatement (step k o)

-- the method is a block of such statements
abbrev pub IsBlockOf : (Code → Type 0) → Method → Type 0
IsBlockOf IsStatement m = (statements : List Code) × (m.body ≡ code.Block statements) × All IsStatement statements

module _ (fields : List Field) (IsNumber IsStatement : Code → Type 0) (holds : Holds (length fields) IsNumber IsStatement) where
  leaf-holds : (token : List ℕ) (e : Code) → leaf fields token ≡ Some e → IsNumber e
  unfolding leaf
  leaf-holds token e is = go (list_all (is_in class.Letter) token) is
    where
      go : (d : Bool) → cond d (field_number fields token >>= λ k. Some (code.Field k)) (i32_of token >>= λ n. Some (code.Int n)) ≡ Some e → IsNumber e
      go true found =
          let k = bind_some (field_number fields token) (λ k. Some (code.Field k)) e found in
          subst IsNumber (some_is (code.Field k.0) e k.2) (holds.name k.0 (omega (arith, position-within (λ (x : Field). x.name) 0 fields token k.0 k.1)))
      go false found =
          let n = bind_some (i32_of token) (λ n. Some (code.Int n)) e found in
          subst IsNumber (some_is (code.Int n.0) e n.2) (holds.number n.0)

  expression-holds : (level : ℕ) (tokens : List (List ℕ)) (e : Code) → Expresses fields level tokens e → IsNumber e
  expression-holds _ _ _ (single level token e is) = leaf-holds token e is
  expression-holds _ _ _ (brackets level inside e spelled) = expression-holds 0 inside e spelled
  expression-holds _ _ _ (binary level o token left right a b low is x y) =
      let p = expression-holds (tightness o) left a x in
      let q = expression-holds (tightness o + 1) right b y in
      operator-is (λ o. IsNumber (code.Binary o a b)) (holds.sum a b p q) (holds.difference a b p q) (holds.product a b p q) token o is

  statement-holds : (tokens : List (List ℕ)) (s : Code) (rest : List (List ℕ)) → StatementStands fields tokens s rest → IsStatement s
  statement-holds _ _ _ (assigns name k inside rest e is spelled) =
      holds.assigned k e (omega (arith, position-within (λ (x : Field). x.name) 0 fields name k is)) (expression-holds 0 inside e spelled)
  statement-holds _ _ _ (steps name k token o rest is does) = holds.stepped k o (omega (arith, position-within (λ (x : Field). x.name) 0 fields name k is))

  statements-hold : (tokens rest : List (List ℕ)) (statements : List Code) → Walk (StatementStands fields) tokens statements rest → All IsStatement statements
  statements-hold _ _ _ (w.stay tokens) = All-nil IsStatement
  statements-hold _ _ _ (w.go tokens next rest s statements step walk) =
      All-cons IsStatement s statements (statement-holds tokens s next step) (statements-hold next rest statements walk)

  methods-hold : (members : List Member) (methods : List Method) → Defines fields members methods → All (IsBlockOf IsStatement) methods
  methods-hold _ _ no_more = All-nil (IsBlockOf IsStatement)
  methods-hold _ _ (past_field name digits members methods more) = methods-hold members methods more
  methods-hold _ _ (one_more name body statements members methods walk more) =
      All-cons (IsBlockOf IsStatement) (method_of name statements) methods (statements, refl, statements-hold body [] statements walk) (methods-hold members methods more)

-- of a whole component

numbers-closed : (end : Moment) (fields : List Field) (methods : List Method) → Closes end fields methods → All IsNumeric fields
numbers-closed end fields methods (inl closed) = subst (All IsNumeric) (sym closed.1) (All-nil IsNumeric)
numbers-closed end fields methods (inr section) = numeric-fields section.declares.members fields section.declares.valued

methods-closed : (end : Moment) (fields : List Field) (methods : List Method) → Closes end fields methods → (IsNumber IsStatement : Code → Type 0) → Holds (length fields) IsNumber IsStatement
    → All (IsBlockOf IsStatement) methods
methods-closed end fields methods (inl closed) IsNumber IsStatement holds = subst (All (IsBlockOf IsStatement)) (sym closed.2) (All-nil (IsBlockOf IsStatement))
methods-closed end fields methods (inr section) IsNumber IsStatement holds =
    methods-hold fields IsNumber IsStatement holds section.declares.members methods section.declares.defined

pub spelled-numbers : (path text : List ℕ) (component : Component) → Spells path text component → All IsNumeric component.fields
spelled-numbers path text component s = numbers-closed s.end component.fields component.methods s.closes

pub spelled-handlers : (path text : List ℕ) (component : Component) → Spells path text component → All (λ k. k < length component.methods) component.handlers
spelled-handlers path text component s = handled-methods component.methods s.pieces component.handlers s.handled

pub spelled-methods : (path text : List ℕ) (component : Component) → Spells path text component → (IsNumber IsStatement : Code → Type 0) → Holds (length component.fields) IsNumber IsStatement
    → All (IsBlockOf IsStatement) component.methods
spelled-methods path text component s IsNumber IsStatement holds = methods-closed s.end component.fields component.methods s.closes IsNumber IsStatement holds
