mod Floats
mod Listed
