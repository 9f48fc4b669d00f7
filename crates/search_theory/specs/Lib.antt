-- The search that the code makes, which leaves steps out. That it finds what hgn's `Search` says is proved.
pub mod Rules
pub mod Pruned
pub mod Needed
