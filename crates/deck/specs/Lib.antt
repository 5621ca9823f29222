pub mod Decks
pub mod Judgements
