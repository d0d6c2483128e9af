pub mod Fronts
pub mod HalfTexts
pub mod LineTexts
pub mod Operands
pub mod Readers
pub mod SliceReaders
