pub mod Approximation
pub mod PointLaws
pub mod SeriesLaws
pub mod ShareLaws
