-- Greedy colouring by independent sets: the list of uncoloured items as the code holds it, the rounds.
pub mod Listing
pub mod Rounds
