pub mod Freed
pub mod Framed
pub mod Listed
pub mod Queued
pub mod Places
