pub mod Behind
pub mod Calling
pub mod Failing
pub mod Going
pub mod Moving
pub mod Ordering
pub mod Rounds
