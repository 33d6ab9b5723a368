pub mod History
pub mod Message
pub mod Table
pub mod Looked
pub mod Carry
pub mod Laws
