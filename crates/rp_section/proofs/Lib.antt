mod Bounding
mod Flats
mod Listing
mod Offsets
mod Rounds
mod Sliced
