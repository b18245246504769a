pub mod HostToken
