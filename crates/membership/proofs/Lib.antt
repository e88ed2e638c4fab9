mod Within
mod Words
