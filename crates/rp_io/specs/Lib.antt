pub mod Faults
pub mod Buffered
pub mod Bytes
pub mod Intake
pub mod Memory
pub mod Standard
pub mod Written
