pub mod Aging
