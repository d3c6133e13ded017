pub mod Best
pub mod Front
pub mod Index
pub mod Numbers
pub mod Tables
pub mod Words
