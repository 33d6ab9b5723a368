mod Decided
mod Letters
mod Joins
mod Reasons
mod Rulings
mod Replies
