pub mod Clean
