pub mod Sizes
pub mod Later
pub mod Alone
pub mod Named
pub mod Fits
pub mod Ends
pub mod Behind
pub mod Taken
