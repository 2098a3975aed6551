pub mod Sink
pub mod Through
pub mod Trace
pub mod Written
pub mod Ends
pub mod Headline
pub mod ResultsTell
pub mod code
