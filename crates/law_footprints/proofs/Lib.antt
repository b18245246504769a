pub mod Frame
pub mod Accepted
pub mod Fields
pub mod EndpointsChanged
pub mod TransfersChanged
