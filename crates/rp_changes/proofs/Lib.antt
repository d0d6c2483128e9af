pub mod Counted
pub mod Divided
pub mod United
pub mod Searched
pub mod Alone
pub mod Defined
