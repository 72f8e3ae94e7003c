pub mod FeedTexts
pub mod RoomTexts
pub mod Lengths
pub mod RunFaults
pub mod TokenRuns
pub mod Stretching
pub mod Totalling
pub mod KnownMost
