pub mod Followed
pub mod Names
mod Oldest
mod Whole
mod Asked
mod Lists
mod Each
mod Mourning
mod Standing
mod Search
mod Results
mod Counted
mod Judged
mod Taken
mod Lent
mod Paging
mod Wanting
mod Beyond
