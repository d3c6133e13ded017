pub mod Representatives
pub mod Standing
pub mod inner
