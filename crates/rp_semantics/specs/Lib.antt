pub mod Walk
pub mod Form
pub mod Compare
pub mod Pieces
pub mod FormLaws
