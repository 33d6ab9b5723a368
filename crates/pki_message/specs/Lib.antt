pub mod Body
pub mod Frame
pub mod Message
pub mod Written
