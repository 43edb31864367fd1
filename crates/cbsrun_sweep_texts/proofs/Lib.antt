mod Floats
mod Headed
