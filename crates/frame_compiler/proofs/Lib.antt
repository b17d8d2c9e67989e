pub mod ComponentLaws
pub mod ProgramLaws
