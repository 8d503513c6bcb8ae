pub mod DumpLines
pub mod PlanNumbers
pub mod RegisterLines
pub mod Ends
pub mod Tallies
pub mod SlipTallies
