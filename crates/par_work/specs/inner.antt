pub mod Blocks
pub mod Harvest
pub mod Runs
pub mod Worked
