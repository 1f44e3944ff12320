pub mod Appended
pub mod Counted
pub mod Covered
pub mod Doubled
pub mod Marked
pub mod Named
pub mod Sums
