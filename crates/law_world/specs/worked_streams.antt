pub mod small_receiver
