-- What whole lists of tokens are read as, where they spell members.
use Rattle.std.proofs.Common.{◌≡◌, ◌<◌, List, length, sym, ◌∙◌}
use Rattle.std.specs.Prelude.{Option, Some, None}
use Rattle.cs_ast.specs.declared.member.Member.{Member}
use Rattle.cs_token.specs.declared.token.Token.{Token}
use Rattle.cs_grammar.specs.Members.{SpelledMembers}
use Rattle.cs_parse.specs.MemberReading.{member, whole_members}
use Rattle.cs_parse.proofs.MemberHeads.{member_shorter}
use Rattle.cs_parse.proofs.MemberSound as sound
use Rattle.cs_parse.proofs.MemberComplete as complete
use Rattle.cs_parse.proofs.BodyBlocks.{outer_sound, outer_complete, outer_shorter}

pub member_fewer : (ts rest : List Token) (a : Member) → member ts ≡ Some (a, rest) → length rest < length ts
member_fewer ts rest a e = member_shorter outer_shorter ts rest a (sound.member_sound outer_sound ts rest a e)

pub members_sound : (ts : List Token) (members : List Member) → whole_members ts ≡ Some members → SpelledMembers ts members
members_sound ts members e = sound.members_sound outer_sound ts members e

pub members_complete : (ts : List Token) (members : List Member) → SpelledMembers ts members → whole_members ts ≡ Some members
members_complete ts members h = complete.members_complete outer_complete outer_shorter ts members h

pub one_list : (ts : List Token) (a b : List Member) → SpelledMembers ts a → SpelledMembers ts b → a ≡ b
one_list ts a b x y = let e : Some a ≡ Some b = sym (members_complete ts a x) ∙ members_complete ts b y in cc

pub no_list : (ts : List Token) → whole_members ts ≡ None → (members : List Member) → SpelledMembers ts members → ⊥
no_list ts e members x = let n : None ≡ Some members = sym e ∙ members_complete ts members x in absurd (cc)
