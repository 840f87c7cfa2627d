-- The proof sheet's cases, held against the definitions that the contracts cite.
pub mod Examples
