pub mod MeantLaws
pub mod ShownAgain
pub mod PartsAgain
pub mod ElementsAgain
pub mod ComponentsAgain
pub mod AttributesAgain
