-- Free. Rounds over the pieces of a region, and what hands put into its table.
pub mod Hands
pub mod Logs
pub mod NewHands
pub mod Putting
pub mod RoundLaw
pub mod SharedRounds
pub mod TaskResults
pub mod Tasks
