mod Doing
mod Lines
mod Reading
mod Written
