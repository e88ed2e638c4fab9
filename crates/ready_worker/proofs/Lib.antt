mod Noting
mod Coming
mod Placing
mod Queueing
