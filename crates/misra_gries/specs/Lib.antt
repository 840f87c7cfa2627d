-- Misra-Gries edge colouring in code: what the step and its parts, the tally and the run hold.
pub mod Step
