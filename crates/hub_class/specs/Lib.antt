pub mod HubContent
pub mod Requesting
pub mod EndpointZero
pub mod Translating
pub mod Microframe
pub mod Worked
