mod MakingLaws
mod SpelledLaws
