-- Members that are printed are spelled again.
use Rattle.std.proofs.Common.{◌≡◌, ℕ, List, [], ◌∷◌, ◌++◌, true, false, refl, sym, subst}
use Rattle.std.specs.Prelude.{Bool, Option, Some, None, option_map, codes}
use Rattle.text_core.specs.declared.place.Place.{Place}
use Rattle.cs_ast.specs.declared.cs_type.TypeExpr.{TypeExpr}
use Rattle.cs_ast.specs.declared.expression.Body.{Body}
use Rattle.cs_ast.specs.declared.expression.Expr.{Expr}
use Rattle.cs_ast.specs.declared.member.Argument.{Argument}
use Rattle.cs_ast.specs.declared.member.Member.{Member}
use Rattle.cs_ast.specs.declared.member.MemberKind.{MemberKind}
use Rattle.cs_ast.specs.declared.member.MemberKind.TheVariants as mk
use Rattle.cs_token.specs.declared.token.Token.{Token}
use Rattle.cs_token.specs.declared.token.TokenKind.{TokenKind}
use Rattle.cs_token.specs.declared.token.TokenKind.TheVariants as k
use Rattle.cs_token.specs.declared.token.Sign.TheVariants as s
use Rattle.cs_grammar.specs.Members.{Modifiers, Attribute, Declared, IsMember, SpelledMembers}
use Rattle.cs_grammar.specs.Members as g
use Rattle.cs_grammar.specs.Statements as gst
use Rattle.cs_grammar.specs.Tokens.{IsSign, ident}
use Rattle.cs_print.specs.Alike.{AlikeMemberKinds, AlikeMembers, Each}
use Rattle.cs_print.specs.Alike as al
use Rattle.cs_print.specs.Printed.{Kinds, whole, in_round, initial, ended, type_kinds, printed}
use Rattle.cs_print.specs.PrintedMembers.{arguments_kinds, result_kinds, method_body, accessors, property_end, attribute_kinds, member_kinds, members_kinds}
use Rattle.cs_print.specs.PrintedMembers as p
use Rattle.cs_print.proofs.CodeKinds.{IsCode, IsLexeme}
use Rattle.cs_print.proofs.CodeKinds as c
use Rattle.cs_print.proofs.LayLemmas.{Are}
use Rattle.cs_print.proofs.LayLemmas as r
use Rattle.cs_print.proofs.ReadLemmas as rd
use Rattle.cs_print.proofs.ReadLemmas.{Prints, first, single, parted, middle, signed, named, up_to, AreProper, later, lexeme}
use Rattle.cs_print.proofs.TypesAgain.{TypeAgain, type_again}
use Rattle.cs_print.proofs.ExpressionForms.{Reads, all}
use Rattle.cs_print.proofs.ExpressionsAgain.{expression}
use Rattle.cs_print.proofs.SimpleAgain.{ReadsInitial, FoundInitial, initially}
use Rattle.cs_print.proofs.LambdasAgain.{Rewritten, Whole}
use Rattle.cs_print.proofs.ResultsAgain.{NoRecord, ReadsResult, no_record, result}
use Rattle.cs_print.proofs.MembersAgain.{ReadsMethod, ReadsArguments, ReadsEnd, arguments, method, accessors_again, end_again}

pub record ReadsMember (kind : MemberKind) (ts rest : List Token) : Type 0 where
  pub other : Member
  pub spelled : IsMember ts rest other
  pub alike : AlikeMemberKinds kind other.kind

abbrev pub MemberAgain : MemberKind → Type 0
MemberAgain kind = Prints (ReadsMember kind) (member_kinds kind)

pub record FoundMember (kind : MemberKind) (rest : List Token) : Type 0 where
  pub again : MemberAgain kind
  pub proper : AreProper rest

-- there is a first token
record Begun (ts : List Token) : Type 0 where
  t : Token
  us : List Token
  is : ts ≡ t ∷ us

begun : (ks : Kinds) (kind : TokenKind) (ms : Kinds) (ts rest : List Token) → Are (ks ++ kind ∷ ms) ts rest → Begun ts
begun [] kind ms ts rest are = first kind ms ts rest (λ xs. Begun xs) are (λ t us is more. record { t = t; us = us; is = refl })
begun (one ∷ ks) kind ms ts rest are = first one (ks ++ kind ∷ ms) ts rest (λ xs. Begun xs) are (λ t us is more. record { t = t; us = us; is = refl })

as_member : (kind other : MemberKind) (ts rest : List Token) → Begun ts → Declared ts rest other → AlikeMemberKinds kind other → ReadsMember kind ts rest
as_member kind other ts rest b declares alike = record {
  other = record { place = b.t.place; kind = other };
  spelled = subst (λ xs. IsMember xs rest (record { place = b.t.place; kind = other })) (sym b.is)
      (g.plain b.t b.us (b.t ∷ b.us) rest other (g.Modifiers.none (b.t ∷ b.us)) (subst (λ xs. Declared xs rest other) b.is declares));
  alike = alike;
}

field_again : (a : TypeExpr) (i : Place) (n : List ℕ) (value : Option Expr) → TypeAgain a → IsLexeme (k.Name n) → Prints (ReadsInitial value) (initial (option_map printed value)) → MemberAgain (mk.Field a (al.named i n) value)
unfolding member_kinds
field_again a i n value h is init = record {
  code = c.join (type_kinds a) _ h.code (named n _ is (up_to _ s.Semicolon [] refl init.code c.none));
  reads = λ ts rest are.
      let m = middle (type_kinds a) (k.Name n) (ended (initial (option_map printed value))) ts rest are in
      let e = rd.ended (initial (option_map printed value)) (k.Sign s.Semicolon) m.us rest m.behind in
      let x = h.reads ts (m.t ∷ m.us) m.front in
      let y = init.reads m.us (e.t ∷ rest) e.front in
      as_member _ (mk.Field x.other (ident m.t n) y.other) ts rest (begun (type_kinds a) (k.Name n) (ended (initial (option_map printed value))) ts rest are)
      (g.field n m.t e.t ts m.us rest x.other y.other x.written m.is y.spelled e.is) (al.field n i m.t.place a x.other value y.other x.alike y.alike);
}

getter_again : (a : TypeExpr) (i : Place) (n : List ℕ) (value : Expr) → TypeAgain a → IsLexeme (k.Name n) → Prints (Reads 0 value) (whole (printed value)) → MemberAgain (mk.Getter a (al.named i n) value)
unfolding member_kinds
getter_again a i n value h is inner = record {
  code = c.join (type_kinds a) _ h.code (named n _ is (signed s.Arrow _ refl (up_to _ s.Semicolon [] refl inner.code c.none)));
  reads = λ ts rest are.
      let ks = k.Sign s.Arrow ∷ ended (whole (printed value)) in
      let m = middle (type_kinds a) (k.Name n) ks ts rest are in
      first (k.Sign s.Arrow) _ m.us rest (λ xs. Are (type_kinds a) ts (m.t ∷ xs) → ReadsMember (mk.Getter a (al.named i n) value) ts rest) m.behind (λ t us arrow last front.
      let e = rd.ended (whole (printed value)) (k.Sign s.Semicolon) us rest last in
      let x = h.reads ts (m.t ∷ t ∷ us) front in
      let y = inner.reads us (e.t ∷ rest) e.front in
      as_member _ (mk.Getter x.other (ident m.t n) y.tree) ts rest (begun (type_kinds a) (k.Name n) ks ts rest are)
      (g.getter n y.place m.t t e.t ts us rest x.other y.tree x.written m.is arrow y.spelled e.is) (al.getter n i m.t.place a x.other value y.tree x.alike y.alike)) m.front;
}

-- what stands in round brackets, and what behind
round_code : (ks ms : Kinds) → IsCode (ks ++ k.Sign s.CloseRound ∷ []) → IsCode ms → IsCode (in_round ks ++ ms)
round_code ks ms code more = c.join (in_round ks) ms (signed s.OpenRound _ refl code) more

record RoundArguments (xs : List Argument) (ms : Kinds) (ts rest : List Token) : Type 0 where
  o : Token
  us : List Token
  vs : List Token
  is : ts ≡ o ∷ us
  opens : IsSign s.OpenRound o
  inner : ReadsArguments xs us vs
  behind : Are ms vs rest

round_arguments : (xs : List Argument) (ms : Kinds) (ts rest : List Token) → Prints (ReadsArguments xs) (arguments_kinds xs ++ k.Sign s.CloseRound ∷ []) → Are (in_round (arguments_kinds xs) ++ ms) ts rest → RoundArguments xs ms ts rest
round_arguments xs ms ts rest h are = first (k.Sign s.OpenRound) _ ts rest (λ ys. RoundArguments xs ms ys rest) are (λ o us opens more.
    let y = parted (arguments_kinds xs ++ k.Sign s.CloseRound ∷ []) ms us rest more in
    record { o = o; us = us; vs = y.us; is = refl; opens = opens; inner = h.reads us y.us y.front; behind = y.behind })

method_again : (a : Option TypeExpr) (i : Place) (n : List ℕ) (xs : List Argument) (b : Body) → Prints (ReadsResult a) (result_kinds a) → NoRecord (result_kinds a) → IsLexeme (k.Name n)
    → Prints (ReadsArguments xs) (arguments_kinds xs ++ k.Sign s.CloseRound ∷ []) → Prints (ReadsMethod b) (method_body b) → MemberAgain (mk.Method a (al.named i n) xs b)
unfolding member_kinds
method_again a i n xs b h not_record is takes does = record {
  code = c.join (result_kinds a) _ h.code (named n _ is (round_code (arguments_kinds xs) _ takes.code does.code));
  reads = λ ts rest are.
      let ks = in_round (arguments_kinds xs) ++ method_body b in
      let m = middle (result_kinds a) (k.Name n) ks ts rest are in
      let y = round_arguments xs (method_body b) m.us rest takes m.behind in
      let front : Are (result_kinds a) ts (m.t ∷ y.o ∷ y.us) = subst (λ us. Are (result_kinds a) ts (m.t ∷ us)) y.is m.front in
      let x = h.reads ts (m.t ∷ y.o ∷ y.us) front in
      let z = does.reads y.vs rest y.behind in
      as_member _ (mk.Method x.other (ident m.t n) y.inner.others z.other) ts rest (begun (result_kinds a) (k.Name n) ks ts rest are)
      (g.method n m.t y.o ts y.us y.vs rest x.other y.inner.others z.other x.spelled (no_record (result_kinds a) ts (y.o ∷ y.us) m.t n not_record front m.is) m.is y.opens y.inner.spelled z.spelled)
      (al.method n i m.t.place a x.other xs y.inner.others b z.other x.alike y.inner.alike z.alike);
}

record_again : (i : Place) (n : List ℕ) (xs : List Argument) → IsLexeme (k.Name (codes "record")) → IsLexeme (k.Name n) → Prints (ReadsArguments xs) (arguments_kinds xs ++ k.Sign s.CloseRound ∷ []) → MemberAgain (mk.RecordDef (al.named i n) xs)
unfolding member_kinds
record_again i n xs word is takes = record {
  code = named (codes "record") _ word (named n _ is (round_code (arguments_kinds xs) _ takes.code (signed s.Semicolon [] refl c.none)));
  reads = λ ts rest are. first (k.Name (codes "record")) _ ts rest (λ ys. ReadsMember (mk.RecordDef (al.named i n) xs) ys rest) are (λ t us begins more.
      first (k.Name n) _ us rest (λ ys. ReadsMember (mk.RecordDef (al.named i n) xs) (t ∷ ys) rest) more (λ m vs has last.
      let y = round_arguments xs (k.Sign s.Semicolon ∷ []) vs rest takes last in
      single (k.Sign s.Semicolon) y.vs rest (λ ys. g.ArgumentList y.us ys y.inner.others → ReadsMember (mk.RecordDef (al.named i n) xs) (t ∷ m ∷ vs) rest) y.behind (λ d ends spelled.
      as_member _ (mk.RecordDef (ident m n) y.inner.others) (t ∷ m ∷ vs) rest (record { t = t; us = m ∷ vs; is = refl })
      (subst (λ ys. Declared (t ∷ m ∷ ys) rest (mk.RecordDef (ident m n) y.inner.others)) (sym y.is) (g.record_of n t m y.o d y.us rest y.inner.others begins has y.opens spelled ends))
      (al.record_of n i m.place xs y.inner.others y.inner.alike)) y.inner.spelled));
}

-- parameters

record ReadsAttribute (cascading : Bool) (source : Option (List ℕ)) (ts rest : List Token) : Type 0 where
  o : Token
  us : List Token
  is : ts ≡ o ∷ us
  spelled : Attribute (o ∷ us) rest cascading source

record FoundAttribute (cascading : Bool) (source : Option (List ℕ)) (rest : List Token) : Type 0 where
  again : Prints (ReadsAttribute cascading source) (attribute_kinds cascading source)
  proper : AreProper rest

attribute_again : (ts rest : List Token) (cascading : Bool) (source : Option (List ℕ)) → Attribute ts rest cascading source → AreProper ts → FoundAttribute cascading source rest
unfolding p.source_kinds
attribute_again _ _ _ _ (g.parameter o n d rest opens has closes) known =
    let behind = later o (n ∷ d ∷ rest) known in
    record {
      again = record {
        code = signed s.OpenSquare _ refl (named _ _ (lexeme n (d ∷ rest) _ behind has) (signed s.CloseSquare [] refl c.none));
        reads = λ ts more are. first (k.Sign s.OpenSquare) _ ts more (λ xs. ReadsAttribute false None xs more) are (λ a us is1 l1.
            first (k.Name (codes "Parameter")) _ us more (λ xs. ReadsAttribute false None (a ∷ xs) more) l1 (λ b vs is2 l2.
            single (k.Sign s.CloseSquare) vs more (λ xs. ReadsAttribute false None (a ∷ b ∷ xs) more) l2 (λ e is3.
            record { o = a; us = b ∷ e ∷ more; is = refl; spelled = g.parameter a b e more is1 is2 is3 })));
      };
      proper = later d rest (later n (d ∷ rest) behind);
    }
attribute_again _ _ _ _ (g.cascading o n d rest opens has closes) known =
    let behind = later o (n ∷ d ∷ rest) known in
    record {
      again = record {
        code = signed s.OpenSquare _ refl (named _ _ (lexeme n (d ∷ rest) _ behind has) (signed s.CloseSquare [] refl c.none));
        reads = λ ts more are. first (k.Sign s.OpenSquare) _ ts more (λ xs. ReadsAttribute true None xs more) are (λ a us is1 l1.
            first (k.Name (codes "CascadingParameter")) _ us more (λ xs. ReadsAttribute true None (a ∷ xs) more) l1 (λ b vs is2 l2.
            single (k.Sign s.CloseSquare) vs more (λ xs. ReadsAttribute true None (a ∷ b ∷ xs) more) l2 (λ e is3.
            record { o = a; us = b ∷ e ∷ more; is = refl; spelled = g.cascading a b e more is1 is2 is3 })));
      };
      proper = later d rest (later n (d ∷ rest) behind);
    }
attribute_again _ _ _ _ (g.cascading_of x o n b m t v d e rest opens has begins names sets says ends closes) known =
    let behind = later o (n ∷ b ∷ m ∷ t ∷ v ∷ d ∷ e ∷ rest) known in
    let inside = later b (m ∷ t ∷ v ∷ d ∷ e ∷ rest) (later n (b ∷ m ∷ t ∷ v ∷ d ∷ e ∷ rest) behind) in
    record {
      again = record {
        code = signed s.OpenSquare _ refl (named _ _ (lexeme n (b ∷ m ∷ t ∷ v ∷ d ∷ e ∷ rest) _ behind has) (signed s.OpenRound _ refl (named _ _ (lexeme m (t ∷ v ∷ d ∷ e ∷ rest) _ inside names)
            (signed s.Assign _ refl (c.simple _ _ (c.text x) (signed s.CloseRound _ refl (signed s.CloseSquare [] refl c.none)))))));
        reads = λ ts more are. first (k.Sign s.OpenSquare) _ ts more (λ xs. ReadsAttribute true (Some x) xs more) are (λ a as1 is1 l1.
            first (k.Name (codes "CascadingParameter")) _ as1 more (λ xs. ReadsAttribute true (Some x) (a ∷ xs) more) l1 (λ f as2 is2 l2.
            first (k.Sign s.OpenRound) _ as2 more (λ xs. ReadsAttribute true (Some x) (a ∷ f ∷ xs) more) l2 (λ h as3 is3 l3.
            first (k.Name (codes "Name")) _ as3 more (λ xs. ReadsAttribute true (Some x) (a ∷ f ∷ h ∷ xs) more) l3 (λ i as4 is4 l4.
            first (k.Sign s.Assign) _ as4 more (λ xs. ReadsAttribute true (Some x) (a ∷ f ∷ h ∷ i ∷ xs) more) l4 (λ j as5 is5 l5.
            first (k.Text x) _ as5 more (λ xs. ReadsAttribute true (Some x) (a ∷ f ∷ h ∷ i ∷ j ∷ xs) more) l5 (λ l as6 is6 l6.
            first (k.Sign s.CloseRound) _ as6 more (λ xs. ReadsAttribute true (Some x) (a ∷ f ∷ h ∷ i ∷ j ∷ l ∷ xs) more) l6 (λ u as7 is7 l7.
            single (k.Sign s.CloseSquare) as7 more (λ xs. ReadsAttribute true (Some x) (a ∷ f ∷ h ∷ i ∷ j ∷ l ∷ u ∷ xs) more) l7 (λ y is8.
            record { o = a; us = f ∷ h ∷ i ∷ j ∷ l ∷ u ∷ y ∷ more; is = refl; spelled = g.cascading_of x a f h i j l u y more is1 is2 is3 is4 is5 is6 is7 is8 }))))))));
      };
      proper = later e rest (later d (e ∷ rest) (later v (d ∷ e ∷ rest) (later t (v ∷ d ∷ e ∷ rest) (later m (t ∷ v ∷ d ∷ e ∷ rest) inside))));
    }

modified : (ts rest : List Token) → Modifiers ts rest → AreProper ts → AreProper rest
modified _ _ (g.Modifiers.none rest) known = known
modified _ _ (g.Modifiers.more word t ts rest is yes_it_is others) known = modified ts rest others (later t ts known)

parameter_again : (cascading : Bool) (source : Option (List ℕ)) (a : TypeExpr) (i : Place) (n : List ℕ) (value : Option Expr) → Prints (ReadsAttribute cascading source) (attribute_kinds cascading source) → TypeAgain a → IsLexeme (k.Name n)
    → Prints (λ ts rest. g.Accessors ts rest) accessors → Prints (ReadsEnd value) (property_end (option_map printed value)) → MemberAgain (mk.Parameter cascading source a (al.named i n) value)
unfolding member_kinds
parameter_again cascading source a i n value attribute h is access ends = record {
  code = c.join (attribute_kinds cascading source) _ attribute.code (c.join (type_kinds a) _ h.code (named n _ is (c.join accessors _ access.code ends.code)));
  reads = λ ts rest are.
      let one = parted (attribute_kinds cascading source) (type_kinds a ++ k.Name n ∷ (accessors ++ property_end (option_map printed value))) ts rest are in
      let m = middle (type_kinds a) (k.Name n) (accessors ++ property_end (option_map printed value)) one.us rest one.behind in
      let two = parted accessors (property_end (option_map printed value)) m.us rest m.behind in
      let u = attribute.reads ts one.us one.front in
      let x = h.reads one.us (m.t ∷ m.us) m.front in
      let y = access.reads m.us two.us two.front in
      let z = ends.reads two.us rest two.behind in
      record {
        other = record { place = u.o.place; kind = mk.Parameter cascading source x.other (ident m.t n) z.other };
        spelled = subst (λ xs. IsMember xs rest (record { place = u.o.place; kind = mk.Parameter cascading source x.other (ident m.t n) z.other })) (sym u.is)
            (g.IsMember.parameter cascading source u.o u.us one.us one.us rest (mk.Parameter cascading source x.other (ident m.t n) z.other) u.spelled (g.Modifiers.none one.us)
            (g.supplied cascading source n m.t one.us m.us two.us rest x.other z.other x.written m.is y z.spelled));
        alike = al.parameter cascading source n i m.t.place a x.other value z.other x.alike z.alike;
      };
}

-- the end of a property is that of a field
field_end : (ts rest : List Token) (a : Option Expr) → g.PropertyEnd ts rest a → AreProper ts → FoundInitial a rest
field_end _ _ _ (g.PropertyEnd.none rest) known = initially rest rest None (gst.Initial.none rest) known
field_end _ _ _ (g.PropertyEnd.some q t d ts rest a sets value ends) known =
    let x = initially (t ∷ ts) (d ∷ rest) (Some a) (gst.Initial.some q t ts (d ∷ rest) a sets value) known in
    record { again = x.again; proper = later d rest x.proper }

declared_again : (ts rest : List Token) (kind : MemberKind) → Declared ts rest kind → AreProper ts → FoundMember kind rest
declared_again _ _ _ (g.field x n d ts us rest a value writes has init ends) known =
    let y = type_again ts (n ∷ us) a writes known in
    let z = initially us (d ∷ rest) value init (later n us y.proper) in
    record { again = field_again a n.place x value y.again (lexeme n us _ y.proper has) z.again; proper = later d rest z.proper }
declared_again _ _ _ (g.property x n ts us vs rest a value writes has access ends) known =
    let y = type_again ts (n ∷ us) a writes known in
    let z = accessors_again us vs access (later n us y.proper) in
    let i = field_end vs rest value ends z.proper in
    record { again = field_again a n.place x value y.again (lexeme n us _ y.proper has) i.again; proper = i.proper }
declared_again _ _ _ (g.getter x q n t d ts us rest a value writes has arrow spells ends) known =
    let y = type_again ts (n ∷ t ∷ us) a writes known in
    let z = expression 0 q us (d ∷ rest) value spells (later t us (later n (t ∷ us) y.proper)) in
    record { again = getter_again a n.place x value y.again (lexeme n (t ∷ us) _ y.proper has) (all value z.again); proper = later d rest z.proper }
declared_again _ _ _ (g.method x n o ts us vs rest a xs b gives not_record has opens takes does) known =
    let y = result ts (n ∷ o ∷ us) a gives known in
    let z = arguments us vs xs takes (later o us (later n (o ∷ us) y.proper)) in
    let i = method vs rest b does z.proper in
    record { again = method_again a n.place x xs b y.again y.first_is (lexeme n (o ∷ us) _ y.proper has) z.again i.again; proper = i.proper }
declared_again _ _ _ (g.record_of x t n o d ts rest xs begins has opens takes ends) known =
    let behind = later t (n ∷ o ∷ ts) known in
    let z = arguments ts (d ∷ rest) xs takes (later o ts (later n (o ∷ ts) behind)) in
    record { again = record_again n.place x xs (lexeme t (n ∷ o ∷ ts) _ known begins) (lexeme n (o ∷ ts) _ behind has) z.again; proper = later d rest z.proper }

member_again : (ts rest : List Token) (a : Member) → IsMember ts rest a → AreProper ts → FoundMember a.kind rest
member_again _ _ _ (g.plain t ts us rest kind modifiers declares) known = declared_again us rest kind declares (modified (t ∷ ts) us modifiers known)
member_again _ _ _ (g.IsMember.parameter _ _ t ts us vs rest _ attribute modifiers (g.supplied cascading source x n _ ws zs _ a value writes has access ends)) known =
    let u = attribute_again (t ∷ ts) us cascading source attribute known in
    let y = type_again vs (n ∷ ws) a writes (modified us vs modifiers u.proper) in
    let z = accessors_again ws zs access (later n ws y.proper) in
    let i = end_again zs rest value ends z.proper in
    record { again = parameter_again cascading source a n.place x value u.again y.again (lexeme n ws _ y.proper has) z.again i.again; proper = i.proper }

-- members one behind another

nothing_whole : (ts : List Token) → Are [] ts [] → Rewritten SpelledMembers (Each AlikeMembers) [] ts
nothing_whole _ (r.nil _) = record { other = []; tree = g.SpelledMembers.none; alike = al.none }

pub members_whole : (ts : List Token) (all : List Member) → SpelledMembers ts all → AreProper ts → Whole SpelledMembers (Each AlikeMembers) (members_kinds all) all
members_whole _ _ g.SpelledMembers.none known = record { code = c.none; reads = nothing_whole }
members_whole _ _ (g.SpelledMembers.more ts us a others one more) known =
    let x = member_again ts us a one known in
    let y = members_whole us others more x.proper in
    record {
      code = c.join (member_kinds a.kind) _ x.again.code y.code;
      reads = λ vs are.
          let z = parted (member_kinds a.kind) (members_kinds others) vs [] are in
          let i = x.again.reads vs z.us z.front in
          let j = y.reads z.us z.behind in
          record {
            other = i.other ∷ j.other;
            tree = g.SpelledMembers.more vs z.us i.other j.other i.spelled j.tree;
            alike = al.more a i.other others j.other (al.alike_members a.place i.other.place a.kind i.other.kind i.alike) j.alike;
          };
    }
