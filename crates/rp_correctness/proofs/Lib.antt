pub mod Rows
pub mod Runs
pub mod Upgrades
-- walks of a row
pub mod Taken
-- lines
pub mod Echoed
pub mod Followed
-- answers and whole reports
pub mod Answered
pub mod Accepted
-- lines tell answers in one way
pub mod ToldOnce
pub mod OneAnswer
