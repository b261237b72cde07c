mod SpelledLaws
mod TableLaws
