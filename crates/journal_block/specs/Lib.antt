pub mod JournalRecord
