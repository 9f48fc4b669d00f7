-- Where the parts of a sheet stand, by the definitions of `hgn`.
pub mod Index
pub mod Tables
