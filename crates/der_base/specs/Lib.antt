pub mod Element
pub mod Fault
pub mod Reading
pub mod Row
pub mod Values
