mod Lawful
mod Exclude
