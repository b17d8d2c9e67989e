pub mod Slots
pub mod Taken
pub mod Finding
pub mod Given
pub mod Lending
pub mod Calls
