mod Causes
mod Subscribing
mod Underway
mod UsualText
