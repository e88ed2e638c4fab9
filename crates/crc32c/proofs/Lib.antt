mod Entries
mod Shifting
