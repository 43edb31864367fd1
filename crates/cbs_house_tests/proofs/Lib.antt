pub mod HeldHouses
