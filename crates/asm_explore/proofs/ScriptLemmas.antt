-- Free. Scripts that are written: their lines and their texts.
pub mod LinesLeftOut
pub mod ScriptToState
pub mod TextFronts
pub mod TrailPicks
pub mod WrittenIsRead
