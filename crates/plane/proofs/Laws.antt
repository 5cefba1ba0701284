pub mod Adjacent
pub mod Faces
pub mod Plane
pub mod Small
