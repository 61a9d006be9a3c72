pub mod Parts
pub mod FrameParts
pub mod AllowedFrames
pub mod ReadBack
