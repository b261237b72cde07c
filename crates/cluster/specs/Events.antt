-- The events of a run, as marks tell them over the answers and the history.
use Rattle.std.specs.Prelude.{◌<◌, List, None, Option, length, map, unwrap_or, slice_index_or}
use Rattle.vol_base.specs.declared.answer.Answer.{Answer}
use Rattle.vol_base.specs.declared.answer.Answer.TheVariants.{Fine}
use Rattle.vol_base.specs.declared.plain.PlainReply.TheVariants as replies
use Rattle.plain_files.specs.declared.history.Placed.{Placed}
use Rattle.host_runs.specs.RunStates as runs
use Rattle.host_runs.specs.laws.Orderly.{HasAnswer}
use Rattle.cluster.specs.Views.{LedgerView}
use Rattle.cluster.specs.declared.mark.Mark.{Mark}
use Rattle.cluster.specs.declared.mark.Mark.TheVariants.{Answered, Entered}

-- it marks an entry that is there, or a position that has an answer
abbrev pub IsMark : List (Option Answer) → List Placed → Mark → Type 0
IsMark answers history (Entered number) = number < length history
IsMark answers history (Answered position) = HasAnswer answers position

-- the event that it marks; of any other mark an event that means nothing
abbrev pub event_of : List (Option Answer) → List Placed → Mark → runs.RunEvent
event_of answers history (Entered number) = runs.Entered (slice_index_or history number (record { line = 0; reply = replies.Done }))
event_of answers history (Answered position) = runs.Answered position (unwrap_or (slice_index_or answers position None) Fine)

abbrev pub events_of : List (Option Answer) → List Placed → List Mark → List runs.RunEvent
events_of answers history marks = map (event_of answers history) marks

-- what came to be known, by the marks
abbrev pub ledger_of : List (Option Answer) → List Placed → List Mark → LedgerView
ledger_of answers history marks = record { answers = answers; history = history; events = events_of answers history marks }
