use Rattle.workload.proofs.Parts.{words_of-first, words_of-last}
use Rattle.workload.proofs.words.split_word.Goals as goal

pub returns-in-Some : goal.returns-in-Some
returns-in-Some c = record { words = words_of-first _ _ _ c.in-Some.ensures.parts }

pub returns-in-None : goal.returns-in-None
returns-in-None c = record { words = words_of-last _ c.in-None.ensures.parts }
