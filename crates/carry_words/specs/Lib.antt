pub mod Answers
pub mod Carrying
pub mod Courses
pub mod Done
pub mod Pages
pub mod Standing
pub mod Texts
pub mod Words
