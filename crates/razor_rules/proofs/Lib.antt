pub mod TemplateLaws
pub mod FirstLaws
pub mod FactLaws
mod Examples
