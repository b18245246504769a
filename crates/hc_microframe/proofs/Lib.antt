mod Going
mod Words
pub mod Telling
mod Ringing
mod Placing
pub mod Wholes
mod Once
mod HeldUp
mod Emptied
mod InHand
mod OneEvent
mod RingShapes
mod FrameShapes
mod KeptRegisters
mod EventsInRow
mod CallsInRow
