pub mod Decimal
pub mod Duration
pub mod Field
pub mod Held
pub mod Limits
pub mod Text
