pub mod RefRows
