mod Lists
mod Leaves
mod Signing
mod Replies
