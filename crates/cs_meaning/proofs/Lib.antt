pub mod PartLemmas
pub mod Laws
pub mod FormLaws
pub mod RecursionLaws
pub mod EqualityLemmas
pub mod KindLemmas
pub mod UnitLaws
pub mod FirstFormLemmas
