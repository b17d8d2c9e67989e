pub mod Laws
pub mod TypeLaws
pub mod SameType
pub mod WrittenLaws
