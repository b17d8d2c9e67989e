-- Each form of expression, where its parts have types.
use Rattle.std.proofs.Common.{◌≡◌, ℕ, List, [], ◌∷◌, map, length, refl, sym, subst, inl, inr, arith}
use Rattle.std.proofs.lemmas.Bool.{eqb-true}
use Rattle.std.specs.Prelude.{true, ◌==◌, Some}
use Rattle.text_core.specs.declared.place.Place.{Place}
use Rattle.cs_ast.specs.declared.cs_type.CsType.{CsType}
use Rattle.cs_ast.specs.declared.cs_type.CsType.TheVariants as t
use Rattle.cs_ast.specs.declared.cs_type.TypeExpr.{TypeExpr}
use Rattle.cs_ast.specs.declared.code.Code.{Code}
use Rattle.cs_ast.specs.declared.code.Code.TheVariants as c
use Rattle.cs_ast.specs.declared.code.LibraryMember.TheVariants as library
use Rattle.cs_ast.specs.declared.identifier.Ident.{Ident}
use Rattle.cs_ast.specs.declared.member.Argument.{Argument}
use Rattle.cs_ast.specs.declared.operators.BinaryOp.{BinaryOp}
use Rattle.cs_ast.specs.declared.operators.CastOp.{CastOp}
use Rattle.cs_ast.specs.declared.operators.CastOp.TheVariants as cast_op
use Rattle.cs_ast.specs.declared.operators.StaticType.{StaticType}
use Rattle.cs_ast.specs.declared.operators.UnaryOp.{UnaryOp}
use Rattle.cs_ast.specs.declared.operators.UnaryOp.TheVariants as unary_op
use Rattle.cs_ast.specs.declared.scope.Scope.{Scope}
use Rattle.cs_rules.specs.declared.callee.Callee.{Callee}
use Rattle.cs_rules.specs.declared.checked.Checked.{Checked}
use Rattle.cs_rules.specs.declared.checked.ExprType.{ExprType}
use Rattle.cs_rules.specs.declared.checked.ExprType.TheVariants.{Of, Null, Markup}
use Rattle.cs_rules.specs.declared.rule.Rule.TheVariants.{UnknownName, UnknownType, TypeMismatch}
use Rattle.cs_rules.specs.Judged.{Judged, fine, breaks, mismatch, known, each, ◌>>=◌}
use Rattle.cs_rules.specs.Types.{fits, common_type, wants, fitting, checked, drops_argument, fits_type, has_values, may_be_null, own_type}
use Rattle.cs_rules.specs.Names.{meant, value_of_name, meant_by}
use Rattle.cs_rules.specs.Written.{type_of, written, record_named, is_comparable}
use Rattle.cs_rules.specs.Library.{value_of_member, null_member, callee_of_member, code_of_call, behind, callee_of_value}
use Rattle.cs_rules.specs.Operators.{unary_type, cast_type, is_shown, shown, is_value, binary_type, are_compared, comparison_type, either_type, given_type, is_nullable, is_text, may_compare, plain_type, sum_type, taken_type}
use Rattle.cs_rules.specs.Expressions.{Value, unary, cast, binary, chosen_type, conditional, hole, interpolated, items_of, index, dotted, member, member_or_null, all_fit, passed, call, new, empty_list, static_member, callee_by_kind, name_called, member_called, name_read}
use Rattle.cs_typing.specs.Operators.{UnaryTakes, Combines, AssignTakes}
use Rattle.cs_typing.specs.Operators as op
use Rattle.cs_typing.specs.Expressions.{Surroundings, CodeHas, CodesHave, PartsShow, ReplacementsHave, VariableHas}
use Rattle.cs_typing.specs.Expressions as code
use Rattle.cs_accepted.specs.Scopes.{record_type, ScopeFits}
use Rattle.cs_accepted.specs.Accepted.{IfFine, HasType, ValueFits, CalleeFits}
use Rattle.cs_accepted.specs.Sound.{ValueSound, CalleeSound, PieceFits, PieceSound}
use Rattle.cs_accepted.proofs.Judging.{then_fine, weaker_fine, known_fine, tested_fine, either_fine}
use Rattle.cs_accepted.proofs.TypeLemmas.{wants_fine, fitting_fine, fits_has, common_has}
use Rattle.cs_accepted.proofs.OperatorLemmas.{shown_has, binary_has}
use Rattle.cs_accepted.proofs.NameLemmas.{named_value, named_variable, named_callee, DottedFits, part_in, dotted_fine, member_value, member_callee, static_fine, items_fine}
use Rattle.cs_accepted.proofs.NameLemmas as names
use Rattle.cs_rules.specs.Statements.{condition}

-- an operand behind its operator
takes_unary : (o : UnaryOp) → UnaryTakes o (unary_type o) (unary_type o)
unfolding unary_type
takes_unary unary_op.Minus = op.minus
takes_unary unary_op.Plus = op.plus
takes_unary unary_op.Not = op.not

pub unary_sound : (o : UnaryOp) (a : Value) (place : Place) → ValueSound a → ValueSound (unary o a place)
unfolding unary drops_argument fits fits_type fitting may_be_null unary_type
unary_sound o a place h at locals s fit =
    then_fine (λ x. ValueFits at locals x) (λ x. ValueFits at locals x) (a s) (λ x. fitting (unary_type o) x >>= λ z. fine (checked place (c.Unary o z) (unary_type o))) (h at locals s fit)
    (λ x hx. then_fine (λ z. CodeHas at locals (unary_type o) z) (λ y. ValueFits at locals y) (fitting (unary_type o) x) (λ z. fine (checked place (c.Unary o z) (unary_type o))) (fitting_fine at locals (unary_type o) x hx)
    (λ z g. code.unary o (unary_type o) (unary_type o) z (takes_unary o) g))

cast_has : (at : Surroundings) (locals : List CsType) (o : CastOp) (z : Code) → CodeHas at locals t.Text z → HasType at locals (cast_type o) (c.Cast o z)
unfolding cast_type
cast_has at locals cast_op.Text z h = code.cast cast_op.Text z h
cast_has at locals cast_op.Markup z h = code.cast cast_op.Markup z h

pub cast_sound : (o : CastOp) (a : Value) (place : Place) → ValueSound a → ValueSound (cast o a place)
unfolding cast cast_type drops_argument fits fits_type fitting may_be_null
cast_sound o a place h at locals s fit =
    then_fine (λ x. ValueFits at locals x) (λ x. ValueFits at locals x) (a s) (λ x. fitting t.Text x >>= λ z. fine (record { place = place; code = c.Cast o z; expr_type = cast_type o })) (h at locals s fit)
    (λ x hx. then_fine (λ z. CodeHas at locals t.Text z) (λ y. ValueFits at locals y) (fitting t.Text x) (λ z. fine (record { place = place; code = c.Cast o z; expr_type = cast_type o })) (fitting_fine at locals t.Text x hx)
    (λ z g. cast_has at locals o z g))

pub binary_sound : (o : BinaryOp) (a b : Value) (place : Place) → ValueSound a → ValueSound b → ValueSound (binary o a b place)
unfolding binary are_compared binary_type common_type comparison_type drops_argument either_type fits_type given_type is_comparable is_nullable is_shown is_text may_be_null may_compare plain_type shown sum_type taken_type
binary_sound o a b place h g at locals s fit =
    then_fine (λ x. ValueFits at locals x) (λ x. ValueFits at locals x) (a s) (λ x. b s >>= λ y. (binary_type s.records o x.place x.expr_type y.place y.expr_type >>= λ given. fine (record { place = place; code = c.Binary o x.code y.code; expr_type = given }))) (h at locals s fit)
    (λ x hx. then_fine (λ y. ValueFits at locals y) (λ z. ValueFits at locals z) (b s) (λ y. (binary_type s.records o x.place x.expr_type y.place y.expr_type >>= λ given. fine (record { place = place; code = c.Binary o x.code y.code; expr_type = given }))) (g at locals s fit)
    (λ y hy. then_fine (λ given. HasType at locals given (c.Binary o x.code y.code)) (λ z. ValueFits at locals z) (binary_type s.records o x.place x.expr_type y.place y.expr_type) (λ given. fine (record { place = place; code = c.Binary o x.code y.code; expr_type = given })) (binary_has at locals s.records o x y hx hy)
    (λ given k. k)))

chosen_has : (at : Surroundings) (locals : List CsType) (test : Code) (x y : Checked) (given : ExprType) → CodeHas at locals t.Bool test → HasType at locals given x.code → HasType at locals given y.code → HasType at locals given (c.Conditional test x.code y.code)
chosen_has at locals test x y (Of type) h g k = code.conditional type test x.code y.code h g k
chosen_has at locals test x y Null h g k = λ type n. code.conditional type test x.code y.code h (g type n) (k type n)
chosen_has at locals test x y Markup h g k = code.conditional t.Text test x.code y.code h g k

chosen_fine : (at : Surroundings) (locals : List CsType) (test : Code) (x y : Checked) → CodeHas at locals t.Bool test → ValueFits at locals x → ValueFits at locals y → IfFine (λ given. HasType at locals given (c.Conditional test x.code y.code)) (chosen_type x y)
unfolding chosen_type common_type drops_argument fits_type has_values is_value may_be_null
chosen_fine at locals test x y h g k =
    either_fine (λ given. HasType at locals given (c.Conditional test x.code y.code)) (is_value x.expr_type) (known TypeMismatch y.place (common_type x.expr_type y.expr_type)) (mismatch x.place)
    (λ e. weaker_fine (λ given. common_type x.expr_type y.expr_type ≡ Some given) (λ given. HasType at locals given (c.Conditional test x.code y.code)) (known TypeMismatch y.place (common_type x.expr_type y.expr_type)) (known_fine TypeMismatch y.place (common_type x.expr_type y.expr_type))
    (λ given i. let both = common_has at locals x.expr_type y.expr_type given i in chosen_has at locals test x y given h (both.0 x.code g) (both.1 y.code k)))
    (λ e. tt)

pub conditional_sound : (condition a b : Value) (place : Place) → ValueSound condition → ValueSound a → ValueSound b → ValueSound (conditional condition a b place)
unfolding conditional chosen_type common_type condition drops_argument fits fits_type fitting has_values is_value may_be_null
conditional_sound condition a b place h g k at locals s fit =
    then_fine (λ x. ValueFits at locals x) (λ x. ValueFits at locals x) (condition s) (λ test. a s >>= λ x. (b s >>= λ y. (fitting t.Bool test >>= λ z. (chosen_type x y >>= λ given. fine (record { place = place; code = c.Conditional z x.code y.code; expr_type = given }))))) (h at locals s fit)
    (λ test ht. then_fine (λ x. ValueFits at locals x) (λ x. ValueFits at locals x) (a s) (λ x. (b s >>= λ y. (fitting t.Bool test >>= λ z. (chosen_type x y >>= λ given. fine (record { place = place; code = c.Conditional z x.code y.code; expr_type = given }))))) (g at locals s fit)
    (λ x hx. then_fine (λ y. ValueFits at locals y) (λ y. ValueFits at locals y) (b s) (λ y. (fitting t.Bool test >>= λ z. (chosen_type x y >>= λ given. fine (record { place = place; code = c.Conditional z x.code y.code; expr_type = given })))) (k at locals s fit)
    (λ y hy. then_fine (λ z. CodeHas at locals t.Bool z) (λ r. ValueFits at locals r) (fitting t.Bool test) (λ z. (chosen_type x y >>= λ given. fine (record { place = place; code = c.Conditional z x.code y.code; expr_type = given }))) (fitting_fine at locals t.Bool test ht)
    (λ z hz. then_fine (λ given. HasType at locals given (c.Conditional z x.code y.code)) (λ r. ValueFits at locals r) (chosen_type x y) (λ given. fine (record { place = place; code = c.Conditional z x.code y.code; expr_type = given })) (chosen_fine at locals z x y hz hx hy)
    (λ given r. r)))))

-- interpolated texts
pub hole_sound : (a : Value) → ValueSound a → PieceSound (hole a)
unfolding hole is_shown shown
hole_sound a h at locals s fit =
    then_fine (λ x. ValueFits at locals x) (λ z. PieceFits at locals z) (a s) (λ x. shown x.place x.expr_type >>= λ u. fine x.code) (h at locals s fit)
    (λ x hx. then_fine (λ u. is_shown x.expr_type ≡ true) (λ z. PieceFits at locals z) (shown x.place x.expr_type) (λ u. fine x.code) (tested_fine (λ u. is_shown x.expr_type ≡ true) (is_shown x.expr_type) tt TypeMismatch x.place (λ e. e))
    (λ u e. let k = shown_has (λ type. CodeHas at locals type x.code) x.expr_type e hx in inr (k.as_type, k.shows, k.has_it)))

-- lists of parts that have types
pub data AllPieces : List (Scope → Judged Code) → Type 0 where
  no_piece : AllPieces []
  one_piece : (a : Scope → Judged Code) (others : List (Scope → Judged Code)) → PieceSound a → AllPieces others → AllPieces (a ∷ others)

pub data AllValues : List Value → Type 0 where
  no_value : AllValues []
  one_value : (a : Value) (others : List Value) → ValueSound a → AllValues others → AllValues (a ∷ others)

pub data AllFit (at : Surroundings) (locals : List CsType) : List Checked → Type 0 where
  none_fit : AllFit at locals []
  one_fits : (x : Checked) (others : List Checked) → ValueFits at locals x → AllFit at locals others → AllFit at locals (x ∷ others)

shows_piece : (at : Surroundings) (locals : List CsType) (a : Code) (rest : List Code) → PieceFits at locals a → PartsShow at locals rest → PartsShow at locals (a ∷ rest)
shows_piece at locals a rest (inl p) hs = subst (λ z. PartsShow at locals (z ∷ rest)) (sym p.1) (code.piece p.0 rest hs)
shows_piece at locals a rest (inr p) hs = code.hole p.0 a rest p.1 p.2 hs

each_piece : (parts : List (Scope → Judged Code)) (at : Surroundings) (locals : List CsType) (s : Scope) → AllPieces parts → ScopeFits at locals s → IfFine (λ codes. PartsShow at locals codes) (each (λ part. part s) parts)
each_piece parts at locals s no_piece fit = code.no_part
each_piece parts at locals s (one_piece a others h hs) fit =
    then_fine (λ z. PieceFits at locals z) (λ codes. PartsShow at locals codes) (a s) (λ y. each (λ part. part s) others >>= λ ys. fine (y ∷ ys)) (h at locals s fit)
    (λ y hy. then_fine (λ ys. PartsShow at locals ys) (λ codes. PartsShow at locals codes) (each (λ part. part s) others) (λ ys. fine (y ∷ ys)) (each_piece others at locals s hs fit)
    (λ ys hys. shows_piece at locals y ys hy hys))

pub interpolated_sound : (parts : List (Scope → Judged Code)) (place : Place) → AllPieces parts → ValueSound (interpolated parts place)
unfolding interpolated
interpolated_sound parts place hs at locals s fit =
    then_fine (λ codes. PartsShow at locals codes) (λ x. ValueFits at locals x) (each (λ part. part s) parts) (λ codes. fine (checked place (c.Interpolated codes) t.Text)) (each_piece parts at locals s hs fit) (λ codes k. code.interpolated codes k)

-- values one after another
each_value : (values : List Value) (at : Surroundings) (locals : List CsType) (s : Scope) → AllValues values → ScopeFits at locals s → IfFine (λ xs. AllFit at locals xs) (each (λ a. a s) values)
each_value values at locals s no_value fit = none_fit
each_value values at locals s (one_value a others h hs) fit =
    then_fine (λ x. ValueFits at locals x) (λ xs. AllFit at locals xs) (a s) (λ y. each (λ b. b s) others >>= λ ys. fine (y ∷ ys)) (h at locals s fit)
    (λ y hy. then_fine (λ ys. AllFit at locals ys) (λ xs. AllFit at locals xs) (each (λ b. b s) others) (λ ys. fine (y ∷ ys)) (each_value others at locals s hs fit) (λ ys hys. one_fits y ys hy hys))

all_fit_fine : (at : Surroundings) (locals : List CsType) (takes : List CsType) (xs : List Checked) → length takes ≡ length xs → AllFit at locals xs → IfFine (λ u. CodesHave at locals takes (map (λ (x : Checked). x.code) xs)) (all_fit takes xs)
unfolding drops_argument fits fits_type may_be_null wants
all_fit_fine at locals [] [] e hs = code.none
all_fit_fine at locals [] (x ∷ xs) e hs = absurd (omega (arith, e))
all_fit_fine at locals (wanted ∷ others) [] e hs = absurd (omega (arith, e))
all_fit_fine at locals (wanted ∷ others) (x ∷ xs) e (one_fits _ _ h hs) =
    then_fine (λ u. fits x.expr_type wanted ≡ true) (λ u. CodesHave at locals (wanted ∷ others) (map (λ (x : Checked). x.code) (x ∷ xs))) (wants wanted x.place x.expr_type) (λ u. all_fit others xs) (wants_fine wanted x.place x.expr_type)
    (λ u f. weaker_fine (λ v. CodesHave at locals others (map (λ (x : Checked). x.code) xs)) (λ v. CodesHave at locals (wanted ∷ others) (map (λ (x : Checked). x.code) (x ∷ xs))) (all_fit others xs) (all_fit_fine at locals others xs (omega (arith, e)) hs)
    (λ v k. code.more wanted others x.code (map (λ (x : Checked). x.code) xs) (fits_has at locals x.expr_type wanted x.code f h) k))

passed_fine : (at : Surroundings) (locals : List CsType) (place : Place) (takes : List CsType) (xs : List Checked) → AllFit at locals xs → IfFine (λ codes. CodesHave at locals takes codes) (passed place takes xs)
unfolding passed
passed_fine at locals place takes xs hs =
    either_fine (λ codes. CodesHave at locals takes codes) (length takes == length xs) (all_fit takes xs >>= λ u. fine (map (λ (x : Checked). x.code) xs)) (mismatch place)
    (λ e. then_fine (λ u. CodesHave at locals takes (map (λ (x : Checked). x.code) xs)) (λ codes. CodesHave at locals takes codes) (all_fit takes xs) (λ u. fine (map (λ (x : Checked). x.code) xs)) (all_fit_fine at locals takes xs (eqb-true (length takes) (length xs) e) hs) (λ u k. k))
    (λ e. tt)

pub call_sound : (target : Scope → Judged Callee) (arguments : List Value) (place : Place) → CalleeSound target → AllValues arguments → ValueSound (call target arguments place)
unfolding call code_of_call passed
call_sound target arguments place h hs at locals s fit =
    then_fine (λ it. CalleeFits at locals it) (λ x. ValueFits at locals x) (target s) (λ callee. each (λ argument. argument s) arguments >>= λ xs. (passed place callee.takes xs >>= λ codes. fine (checked place (code_of_call callee.called codes) callee.gives))) (h at locals s fit)
    (λ callee g. then_fine (λ xs. AllFit at locals xs) (λ x. ValueFits at locals x) (each (λ argument. argument s) arguments) (λ xs. (passed place callee.takes xs >>= λ codes. fine (checked place (code_of_call callee.called codes) callee.gives))) (each_value arguments at locals s hs fit)
    (λ xs k. then_fine (λ codes. CodesHave at locals callee.takes codes) (λ x. ValueFits at locals x) (passed place callee.takes xs) (λ codes. fine (checked place (code_of_call callee.called codes) callee.gives)) (passed_fine at locals place callee.takes xs k)
    (λ codes l. g codes l)))

pub new_sound : (name : Ident) (arguments : List Value) (place : Place) → AllValues arguments → ValueSound (new name arguments place)
unfolding new passed record_named
new_sound name arguments place hs at locals s fit =
    then_fine (λ found. record_named s.records name.name ≡ Some found) (λ x. ValueFits at locals x) (known UnknownType name.place (record_named s.records name.name))
    (λ found. each (λ argument. argument s) arguments >>= λ xs. (passed place (map (λ (part : Argument). type_of part.cs_type) found.parts) xs >>= λ codes. fine (checked place (c.New found.number codes) (t.Rec name.name)))) (known_fine UnknownType name.place (record_named s.records name.name))
    (λ found e. then_fine (λ xs. AllFit at locals xs) (λ x. ValueFits at locals x) (each (λ argument. argument s) arguments) (λ xs. (passed place (map (λ (part : Argument). type_of part.cs_type) found.parts) xs >>= λ codes. fine (checked place (c.New found.number codes) (t.Rec name.name)))) (each_value arguments at locals s hs fit)
    (λ xs k. then_fine (λ codes. CodesHave at locals (record_type found).parts codes) (λ x. ValueFits at locals x) (passed place (record_type found).parts xs) (λ codes. fine (checked place (c.New found.number codes) (t.Rec name.name))) (passed_fine at locals place (record_type found).parts xs k)
    (λ codes l. code.new name.name (record_type found) codes (fit.records name.name found e) l)))

pub index_sound : (a i : Value) (place : Place) → ValueSound a → ValueSound i → ValueSound (index a i place)
unfolding index drops_argument fits fits_type fitting items_of may_be_null
index_sound a i place h g at locals s fit =
    then_fine (λ x. ValueFits at locals x) (λ x. ValueFits at locals x) (a s) (λ x. i s >>= λ y. (items_of x.place x.expr_type >>= λ item. (fitting t.Int y >>= λ z. fine (checked place (c.Index x.code z) item)))) (h at locals s fit)
    (λ x hx. then_fine (λ y. ValueFits at locals y) (λ r. ValueFits at locals r) (i s) (λ y. (items_of x.place x.expr_type >>= λ item. (fitting t.Int y >>= λ z. fine (checked place (c.Index x.code z) item)))) (g at locals s fit)
    (λ y hy. then_fine (λ item. CodeHas at locals (t.List item) x.code) (λ r. ValueFits at locals r) (items_of x.place x.expr_type) (λ item. (fitting t.Int y >>= λ z. fine (checked place (c.Index x.code z) item))) (items_fine at locals s fit x.place x.expr_type x.code hx)
    (λ item hi. then_fine (λ z. CodeHas at locals t.Int z) (λ r. ValueFits at locals r) (fitting t.Int y) (λ z. fine (checked place (c.Index x.code z) item)) (fitting_fine at locals t.Int y hy)
    (λ z hz. code.index item x.code z hi hz))))

-- names behind a dot
pub member_sound : (a : Value) (name : Ident) (place : Place) → ValueSound a → ValueSound (member a name place)
unfolding member behind dotted has_values own_type value_of_member
member_sound a name place h at locals s fit =
    then_fine (λ x. ValueFits at locals x) (λ x. ValueFits at locals x) (a s) (λ x. dotted s x name >>= λ found. value_of_member place x.code found) (h at locals s fit)
    (λ x hx. then_fine (λ found. (type : CsType) × CodeHas at locals type x.code × DottedFits at type found) (λ r. ValueFits at locals r) (dotted s x name) (λ found. value_of_member place x.code found) (dotted_fine at locals s fit x name hx)
    (λ found k. member_value at locals s fit place x.code k.0 found k.1 k.2))

pub member_or_null_sound : (a : Value) (name : Ident) (place : Place) → ValueSound a → ValueSound (member_or_null a name place)
unfolding member_or_null behind dotted has_values may_be_null null_member own_type
member_or_null_sound a name place h at locals s fit =
    then_fine (λ x. ValueFits at locals x) (λ x. ValueFits at locals x) (a s) (λ x. dotted s x name >>= λ found. null_member place x found) (h at locals s fit)
    (λ x hx. then_fine (λ found. (type : CsType) × CodeHas at locals type x.code × DottedFits at type found) (λ r. ValueFits at locals r) (dotted s x name) (λ found. null_member place x found) (dotted_fine at locals s fit x name hx)
    (λ found k. names.member_or_null at locals s fit place x k.0 found k.1 k.2))

pub member_called_sound : (a : Value) (name : Ident) (place : Place) → ValueSound a → CalleeSound (member_called a name place)
unfolding member_called behind callee_of_member callee_of_value dotted has_values own_type value_of_member
member_called_sound a name place h at locals s fit =
    then_fine (λ x. ValueFits at locals x) (λ it. CalleeFits at locals it) (a s) (λ x. dotted s x name >>= λ found. callee_of_member place x.code found) (h at locals s fit)
    (λ x hx. then_fine (λ found. (type : CsType) × CodeHas at locals type x.code × DottedFits at type found) (λ it. CalleeFits at locals it) (dotted s x name) (λ found. callee_of_member place x.code found) (dotted_fine at locals s fit x name hx)
    (λ found k. member_callee at locals s fit place x.code k.0 found k.1 k.2))

-- names
pub name_sound : (name : List ℕ) (place : Place) → ValueSound (name_read name place)
unfolding name_read meant value_of_name meant_by
name_sound name place at locals s fit =
    then_fine (λ one. meant s.names name ≡ Some one) (λ x. ValueFits at locals x) (known UnknownName place (meant s.names name)) (λ one. value_of_name place one) (known_fine UnknownName place (meant s.names name))
    (λ one e. named_value at locals place one.kind one.place one.cs_type (fit.names name one e))

pub name_called_sound : (name : List ℕ) (place : Place) → CalleeSound (name_called name place)
unfolding name_called callee_by_kind callee_of_value meant value_of_name meant_by
name_called_sound name place at locals s fit =
    then_fine (λ one. meant s.names name ≡ Some one) (λ it. CalleeFits at locals it) (known UnknownName place (meant s.names name)) (λ one. callee_by_kind place one one.kind) (known_fine UnknownName place (meant s.names name))
    (λ one e. named_callee at locals place one one.kind refl (fit.names name one e))

pub static_sound : (of : StaticType) (name : Ident) (place : Place) → ValueSound (static_member of name place)
unfolding static_member
static_sound of name place at locals s fit = static_fine at locals s fit place of name

pub empty_sound : (type : TypeExpr) (place : Place) → ValueSound (empty_list type place)
unfolding empty_list written
empty_sound type place at locals s fit =
    then_fine (λ item. Unit {0}) (λ x. ValueFits at locals x) (written s.records type) (λ item. fine (checked place (c.Library library.EmptyList []) (t.List item))) (anything (written s.records type))
    (λ item u. code.library library.EmptyList [] (t.List item) [] (op.empty_list item) code.none)
  where
    anything : (j : Judged CsType) → IfFine (λ item. Unit {0}) j
    anything (fine x) = tt
    anything (breaks rule place) = tt
