pub mod JournalWalk
