pub mod Cancellations
