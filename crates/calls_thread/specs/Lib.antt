pub mod Orphans
pub mod Drops
