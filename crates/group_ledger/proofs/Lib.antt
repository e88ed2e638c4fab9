mod Calls
mod Counts
mod Entered
mod Moved
mod Partitions
mod Recorded
mod Settled
pub mod Steps
mod Taken
