pub mod Forms
pub mod Hss
pub mod OneLevel
