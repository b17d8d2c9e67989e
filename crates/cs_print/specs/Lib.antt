pub mod Alike
pub mod Printed
pub mod PrintedMembers
pub mod Layout
pub mod Again
