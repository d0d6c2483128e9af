pub mod Audited
pub mod Framed
pub mod Items
pub mod Shown
pub mod Limits
