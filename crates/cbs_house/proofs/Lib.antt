pub mod Feeds
pub mod Looks
pub mod Rounds
pub mod StandingMessages
pub mod ServedFeeds
