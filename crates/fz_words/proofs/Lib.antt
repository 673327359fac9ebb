pub mod DigitLemmas
pub mod ListLemmas
pub mod PartLemmas
pub mod PatchLemmas
pub mod RangeLemmas
pub mod WordLemmas
