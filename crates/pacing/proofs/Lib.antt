mod Bounding
mod GivingUp
mod Remembering
