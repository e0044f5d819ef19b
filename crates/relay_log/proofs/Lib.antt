mod Counting
mod Naming
mod Rating
mod Turning
