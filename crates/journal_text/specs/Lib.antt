pub mod Contents
pub mod Spelling
pub mod Lines
pub mod Refusals
pub mod Valid
pub mod Laws
