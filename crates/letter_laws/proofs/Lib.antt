mod Decided
mod Checked
mod Letters
