mod Answered
mod Across
mod Beyond
mod Boxed
mod Dropped
mod SlimSoFar
mod Refuted
