mod Lists
mod Texts
mod Sent
mod Worlds
