mod AfterLooks
mod Invariant
mod Keeping
mod Players
mod Schedules
mod Sleeps
