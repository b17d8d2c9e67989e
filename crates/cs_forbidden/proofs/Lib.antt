pub mod FormLaws
pub mod ExpressionLaws
pub mod StatementLaws
pub mod RootLaws
pub mod Nothing
