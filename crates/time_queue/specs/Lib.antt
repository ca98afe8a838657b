pub mod Deadlines
