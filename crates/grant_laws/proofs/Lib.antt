mod Walk
mod Wishes
