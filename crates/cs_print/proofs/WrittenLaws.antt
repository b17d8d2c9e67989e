-- What was written of a list or of a type is its text.
use Rattle.std.proofs.Common.{◌≡◌, ℕ, ◌-◌, ◌<◌, ◌≤◌, List, [], ◌∷◌, ◌++◌, map, length, take, drop, get_or, sym, ap, ◌∙◌, subst, arith}
use Rattle.std.specs.Prelude.{codes}
use Rattle.std.specs.List.{flat_map}
use Rattle.std.proofs.lemmas.List.{take_all}
use Rattle.cs_ast.specs.declared.expression.Expr.{Expr}
use Rattle.cs_ast.specs.declared.expression.Label.{Label}
use Rattle.cs_ast.specs.declared.expression.Section.{Section}
use Rattle.cs_ast.specs.declared.expression.Stmt.{Stmt}
use Rattle.cs_ast.specs.declared.expression.TextPart.{TextPart}
use Rattle.cs_ast.specs.declared.expression.WithPart.{WithPart}
use Rattle.cs_ast.specs.declared.member.Argument.{Argument}
use Rattle.cs_ast.specs.declared.member.Member.{Member}
use Rattle.cs_token.specs.declared.token.TokenKind.TheVariants as k
use Rattle.cs_token.specs.declared.token.Sign.TheVariants as s
use Rattle.cs_print.specs.Printed.{joined, listed, behind_commas, whole, printed, label_kinds, text_kinds, statement_kinds, section_kinds, part_kinds}
use Rattle.cs_print.specs.PrintedMembers.{source_kinds, argument_kinds, arguments_kinds, member_kinds, members_kinds}
use Rattle.cs_print.specs.Layout.{laid, code_text}
use Rattle.cs_print.proofs.TextLaws.{text_alone, text_behind, text_then, text_nothing, labels_text, texts_text, statements_text, sections_text, values_text, parts_text, arguments_text, members_text}

as_text : (old new x y : List ℕ) → new ≡ old ++ x → y ≡ x → new ≡ old ++ y
as_text old new x y e is = e ∙ ap (λ z. old ++ z) (sym is)

-- lists, item by item, to the end

at_end : {X : Type 0} (f : X → List ℕ) (old new : List ℕ) (xs : List X) (n : ℕ) → length xs ≤ n → new ≡ old ++ flat_map f (take n xs) → new ≡ old ++ flat_map f xs
at_end f old new xs n all e = e ∙ ap (λ ys. old ++ flat_map f ys) (take_all n xs all)

pub labels_written : (old new : List ℕ) (xs : List Label) (n : ℕ) → length xs ≤ n → new ≡ old ++ flat_map (λ label. code_text (label_kinds label.kind)) (take n xs) → new ≡ old ++ code_text (joined (map (λ label. label_kinds label.kind) xs))
labels_written old new xs n all e = as_text old new _ _ (at_end _ old new xs n all e) (labels_text xs)

pub texts_written : (old new : List ℕ) (xs : List TextPart) (n : ℕ) → length xs ≤ n → new ≡ old ++ flat_map (λ x. code_text (text_kinds x)) (take n xs) → new ≡ old ++ code_text (joined (map text_kinds xs))
texts_written old new xs n all e = as_text old new _ _ (at_end _ old new xs n all e) (texts_text xs)

pub statements_written : (old new : List ℕ) (xs : List Stmt) (n : ℕ) → length xs ≤ n → new ≡ old ++ flat_map (λ x. code_text (statement_kinds x)) (take n xs) → new ≡ old ++ code_text (joined (map statement_kinds xs))
statements_written old new xs n all e = as_text old new _ _ (at_end _ old new xs n all e) (statements_text xs)

pub sections_written : (old new : List ℕ) (xs : List Section) (n : ℕ) → length xs ≤ n → new ≡ old ++ flat_map (λ x. code_text (section_kinds x)) (take n xs) → new ≡ old ++ code_text (joined (map section_kinds xs))
sections_written old new xs n all e = as_text old new _ _ (at_end _ old new xs n all e) (sections_text xs)

pub values_written : (old new : List ℕ) (xs : List Expr) (n : ℕ) → length xs ≤ n → new ≡ old ++ flat_map (λ x. code_text (k.Sign s.Comma ∷ whole (printed x))) (take n xs) → new ≡ old ++ code_text (behind_commas (map whole (map printed xs)))
values_written old new xs n all e = as_text old new _ _ (at_end _ old new xs n all e) (values_text xs)

pub parts_written : (old new : List ℕ) (xs : List WithPart) (n : ℕ) → length xs ≤ n → new ≡ old ++ flat_map (λ x. code_text (k.Sign s.Comma ∷ part_kinds x)) (take n xs) → new ≡ old ++ code_text (behind_commas (map part_kinds xs))
parts_written old new xs n all e = as_text old new _ _ (at_end _ old new xs n all e) (parts_text xs)

pub arguments_written : (old new : List ℕ) (xs : List Argument) (n : ℕ) → length xs ≤ n → new ≡ old ++ flat_map (λ x. code_text (k.Sign s.Comma ∷ argument_kinds x)) (take n xs) → new ≡ old ++ code_text (behind_commas (map argument_kinds xs))
arguments_written old new xs n all e = as_text old new _ _ (at_end _ old new xs n all e) (arguments_text xs)

pub members_written : (old new : List ℕ) (xs : List Member) (n : ℕ) → length xs ≤ n → new ≡ old ++ flat_map (λ member. code_text (member_kinds member.kind)) (take n xs) → new ≡ old ++ code_text (members_kinds xs)
members_written old new xs n all e = as_text old new _ _ (at_end _ old new xs n all e) (members_text xs)

-- lists with commas, from the first item on

-- the items behind the first
all_others : {X : Type 0} (y : X) (xs : List X) → take (length (y ∷ xs) - 1) (drop 1 (y ∷ xs)) ≡ xs
all_others y xs = take_all (length (y ∷ xs) - 1) xs (omega arith)

pub no_values : (old : List ℕ) (xs : List Expr) → length xs < 1 → old ≡ old ++ code_text (listed (map whole (map printed xs)))
no_values old [] short = text_nothing old
no_values old (x ∷ xs) short = absurd (omega (arith, short))

pub some_values : (old middle new : List ℕ) (x : Expr) (xs : List Expr) → 1 ≤ length xs → x ≡ get_or xs 0 x → middle ≡ old ++ code_text (whole (printed x)) → new ≡ middle ++ code_text (behind_commas (map whole (map printed (take (length xs - 1) (drop 1 xs)))))
    → new ≡ old ++ code_text (listed (map whole (map printed xs)))
some_values old middle new x [] long first one more = absurd (omega (arith, long))
some_values old middle new x (y ∷ xs) long first one more =
    text_behind old middle new _ _ (subst (λ z. middle ≡ old ++ code_text (whole (printed z))) first one)
    (subst (λ zs. new ≡ middle ++ code_text (behind_commas (map whole (map printed zs)))) (all_others y xs) more)

pub no_parts : (old : List ℕ) (xs : List WithPart) → length xs < 1 → old ≡ old ++ code_text (listed (map part_kinds xs))
no_parts old [] short = text_nothing old
no_parts old (x ∷ xs) short = absurd (omega (arith, short))

pub some_parts : (old middle new : List ℕ) (x : WithPart) (xs : List WithPart) → 1 ≤ length xs → x ≡ get_or xs 0 x → middle ≡ old ++ code_text (part_kinds x) → new ≡ middle ++ code_text (behind_commas (map part_kinds (take (length xs - 1) (drop 1 xs))))
    → new ≡ old ++ code_text (listed (map part_kinds xs))
some_parts old middle new x [] long first one more = absurd (omega (arith, long))
some_parts old middle new x (y ∷ xs) long first one more =
    text_behind old middle new _ _ (subst (λ z. middle ≡ old ++ code_text (part_kinds z)) first one)
    (subst (λ zs. new ≡ middle ++ code_text (behind_commas (map part_kinds zs))) (all_others y xs) more)

pub no_arguments : (old : List ℕ) (xs : List Argument) → length xs < 1 → old ≡ old ++ code_text (arguments_kinds xs)
no_arguments old [] short = text_nothing old
no_arguments old (x ∷ xs) short = absurd (omega (arith, short))

pub some_arguments : (old middle new : List ℕ) (x : Argument) (xs : List Argument) → 1 ≤ length xs → x ≡ get_or xs 0 x → middle ≡ old ++ code_text (argument_kinds x) → new ≡ middle ++ code_text (behind_commas (map argument_kinds (take (length xs - 1) (drop 1 xs))))
    → new ≡ old ++ code_text (arguments_kinds xs)
some_arguments old middle new x [] long first one more = absurd (omega (arith, long))
some_arguments old middle new x (y ∷ xs) long first one more =
    text_behind old middle new _ _ (subst (λ z. middle ≡ old ++ code_text (argument_kinds z)) first one)
    (subst (λ zs. new ≡ middle ++ code_text (behind_commas (map argument_kinds zs))) (all_others y xs) more)

-- an attribute that names what its parameter takes
pub source_written : (old a b c d e new x : List ℕ) → a ≡ old ++ laid (k.Name (codes "CascadingParameter")) → b ≡ a ++ laid (k.Sign s.OpenRound) → c ≡ b ++ laid (k.Name (codes "Name"))
    → d ≡ c ++ laid (k.Sign s.Assign) → e ≡ d ++ laid (k.Text x) → new ≡ e ++ laid (k.Sign s.CloseRound) → new ≡ old ++ code_text (source_kinds x)
unfolding source_kinds
source_written old a b c d e new x begins opens named sets says closes =
    text_then old a new _ _ begins (text_then a b new _ _ opens (text_then b c new _ _ named (text_then c d new _ _ sets (text_then d e new _ _ says (text_alone e new _ closes)))))
