pub mod Decimal
pub mod Fraction
