mod Formed
mod LaterLemmas
mod Names
mod RowLemmas
mod Told
