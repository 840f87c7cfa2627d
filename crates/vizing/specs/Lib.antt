-- Misra-Gries edge colouring: the definitions, what holds at each step, the claim of demand 3 and the clause of the call's contract; one edge more.
pub mod MisraGries
pub mod Answers
pub mod Simple
pub mod Coloring
pub mod Step
pub mod Demand3
pub mod Clause
pub mod Demand3Examples
pub mod AddEdge
pub mod AddEdgeAnswers
pub mod WrongCalls
