mod CutOff
pub mod InBounds
mod Joined
mod Lines
mod Rounded
mod Span
mod Tested
mod Unwanted
