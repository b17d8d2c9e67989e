pub mod TextLaws
pub mod WrittenLaws
pub mod ListLaws
pub mod NodeLaws
pub mod ValueTextLaws
pub mod LastLaws
