mod PartLaws
mod Examples
