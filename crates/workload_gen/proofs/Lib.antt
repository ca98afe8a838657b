pub mod Encodings
pub mod SheetLemmas
