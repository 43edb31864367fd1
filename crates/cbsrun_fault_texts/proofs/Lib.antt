mod Documents
mod Explained
