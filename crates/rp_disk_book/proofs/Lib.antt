pub mod DiskLemmas
pub mod EntryLemmas
pub mod FindLemmas
pub mod KeptLemmas
pub mod UniqueLemmas
