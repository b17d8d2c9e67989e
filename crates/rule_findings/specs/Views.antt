-- What the crate's names stand for.
use Rattle.std.specs.Prelude.{ℕ, List}
use Rattle.cs_ast.specs.declared.identifier.Ident.{Ident}
use Rattle.rule_findings.specs.declared.names.Name.{Name}

abbrev pub text_of : Name → List ℕ
text_of one = one.text.now

abbrev pub ident_of : Name → Ident
ident_of one = record { place = one.place; name = one.text.now }
