pub mod Recovery
mod Examples
