mod Going
mod Lines
mod Piecing
mod Stands
