mod Founding
mod Logs
mod Records
mod Settling
mod States
mod Steps
