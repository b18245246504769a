pub mod Visited
