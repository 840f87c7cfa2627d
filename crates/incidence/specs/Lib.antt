-- The incidence table's code: stretches filled from the back, and the table at the front of longer slices.
pub mod Front
pub mod Fill
