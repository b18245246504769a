pub mod Sent
pub mod SentLaws
pub mod Paid
pub mod Takers
pub mod PaidLaws
pub mod Samples
