pub mod TextExpressions
