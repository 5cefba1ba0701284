pub mod Depth
pub mod DepthLaws
pub mod FaceLaws
pub mod ImageLaws
pub mod OwnerLaws
pub mod SideLaws
