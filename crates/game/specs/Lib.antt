pub mod Kinds
pub mod Meaning
pub mod Laws
pub mod Value
pub mod Prefixes
pub mod Refusals
pub mod Kept
pub mod Theorems
