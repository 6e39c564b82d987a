mod Escaping
mod Called
