mod Dropping
mod Summing
