pub mod framed_fronts
