pub mod Spreads
pub mod Late
pub mod Figures
