mod Times
mod Frames
mod Messages
