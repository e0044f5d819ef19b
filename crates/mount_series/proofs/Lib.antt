mod Naming
mod Rising
