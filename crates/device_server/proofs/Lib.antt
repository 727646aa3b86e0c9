pub mod Either
pub mod Going
pub mod Listed
