pub mod Leading
mod Calls
mod Stops
mod Openings
mod Shared
