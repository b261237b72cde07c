-- What an entry and an answer leave of the events that are marked: they come behind them.
use Rattle.std.proofs.Common.{◌≡◌, ◌≢◌, ◌+◌, ◌<◌, ◌++◌, ℕ, List, [], ◌∷◌, Option, Some, None, length, map, slice_get, slice_set, refl, ap, sym, ◌∙◌, arith}
use Rattle.std.specs.Prelude.{All, unwrap_or}
use Rattle.std.proofs.lemmas.List.{get_or-set_other, get_or-set_same, get_or_append_left, get_or_push, length-append, map-append}
use Rattle.std.proofs.lemmas.List.Elements.{All-head, All-push, All-tail, All-weaker}
use Rattle.std.proofs.lemmas.Option.{slice_get_within}
use Rattle.vol_base.specs.declared.answer.Answer.{Answer}
use Rattle.vol_base.specs.declared.answer.Answer.TheVariants.{Fine}
use Rattle.vol_base.specs.declared.plain.PlainReply.TheVariants as replies
use Rattle.plain_files.specs.declared.history.Placed.{Placed}
use Rattle.host_runs.specs.RunStates as runs
use Rattle.host_runs.specs.laws.GetLaws.{get_set-other, get_set-same}
use Rattle.cluster.specs.Events.{IsMark, event_of, events_of, ledger_of}
use Rattle.cluster.specs.Views.{LedgerView}
use Rattle.cluster.specs.declared.mark.Mark.{Mark}
use Rattle.cluster.specs.declared.mark.Mark.TheVariants.{Answered, Entered}

-- the ledger with one more entry, and with one more answer
abbrev pub with_entry : Placed → LedgerView → LedgerView
with_entry entry l = record l { history = l.history ++ entry ∷ []; events = l.events ++ runs.Entered entry ∷ [] }

abbrev pub with_answer : ℕ → Answer → LedgerView → LedgerView
with_answer position answer l =
    record l { answers = slice_set l.answers position (Some answer); events = l.events ++ runs.Answered position answer ∷ [] }

same_events : {A B : Type 0} (P : A → Type 0) (f g : A → B) → ((x : A) → P x → f x ≡ g x) → (xs : List A) → All P xs → map f xs ≡ map g xs
same_events P f g same [] all = refl
same_events P f g same (x ∷ xs) all =
    ap (λ y. y ∷ map f xs) (same x (All-head P x xs all)) ∙ ap (λ ys. g x ∷ ys) (same_events P f g same xs (All-tail P x xs all))

-- a list of marks, with one more, whose first events stay
module _ (old new : Mark → runs.RunEvent) (P : Mark → Type 0) (same : (mark : Mark) → P mark → new mark ≡ old mark) where
  events_push : (marks : List Mark) (mark : Mark) (event : runs.RunEvent) → All P marks → new mark ≡ event
      → map new (marks ++ mark ∷ []) ≡ map old marks ++ event ∷ []
  events_push marks mark event all is =
      map-append new marks (mark ∷ []) ∙ ap (λ es. es ++ new mark ∷ []) (same_events P new old same marks all)
      ∙ ap (λ (e : runs.RunEvent). map old marks ++ e ∷ []) is

module _ (answers : List (Option Answer)) (history : List Placed) (marks : List Mark) (all : All (IsMark answers history) marks) where
  module _ (entry : Placed) where
    abbrev longer : List Placed
    longer = history ++ entry ∷ []

    still_entered : (mark : Mark) → IsMark answers history mark → event_of answers longer mark ≡ event_of answers history mark
    still_entered (Entered number) there =
        ap runs.Entered (get_or_append_left history (entry ∷ []) (record { line = 0; reply = replies.Done }) number there)
    still_entered (Answered position) has = refl

    events_entered : events_of answers longer (marks ++ Entered (length history) ∷ []) ≡ events_of answers history marks ++ runs.Entered entry ∷ []
    events_entered =
        events_push (event_of answers history) (event_of answers longer) (IsMark answers history) still_entered marks (Entered (length history))
        (runs.Entered entry) all (ap runs.Entered (get_or_push history entry (record { line = 0; reply = replies.Done }) (length history) refl))

    pub ledger_entered : (entries : List Placed) (later : List Mark) → entries ≡ longer → later ≡ marks ++ Entered (length history) ∷ []
        → ledger_of answers entries later ≡ with_entry entry (ledger_of answers history marks)
    ledger_entered entries later entries_are marks_are = rw (entries_are, marks_are, events_entered) refl

    longer_is : length longer ≡ length history + 1
    longer_is = length-append history (entry ∷ [])

    mark_entered : (mark : Mark) → IsMark answers history mark → IsMark answers longer mark
    mark_entered (Entered number) there = let long = longer_is in omega (arith, there, long)
    mark_entered (Answered position) has = has

    pub marks_entered : All (IsMark answers longer) (marks ++ Entered (length history) ∷ [])
    marks_entered =
        All-push (IsMark answers longer) marks (Entered (length history))
        (All-weaker (IsMark answers history) (IsMark answers longer) mark_entered marks all)
        (let long = longer_is in omega (arith, long))

  module _ (position : ℕ) (answer : Answer) (without : slice_get answers position ≡ Some None) where
    abbrev given : List (Option Answer)
    given = slice_set answers position (Some answer)

    -- a position that has an answer is not this one
    other : (p : ℕ) (a : Answer) → slice_get answers p ≡ Some (Some a) → p ≢ position
    other p a has same = let both : Some (Some a) ≡ Some None = sym has ∙ ap (slice_get answers) same ∙ without in absurd cc

    within : position < length answers
    within = slice_get_within answers position None without

    still_answered : (mark : Mark) → IsMark answers history mark → event_of given history mark ≡ event_of answers history mark
    still_answered (Entered number) there = refl
    still_answered (Answered p) (a, has) =
        ap (λ o. runs.Answered p (unwrap_or o Fine)) (get_or-set_other answers position p (Some answer) None (other p a has))

    events_answered : events_of given history (marks ++ Answered position ∷ []) ≡ events_of answers history marks ++ runs.Answered position answer ∷ []
    events_answered =
        events_push (event_of answers history) (event_of given history) (IsMark answers history) still_answered marks (Answered position)
        (runs.Answered position answer) all
        (ap (λ o. runs.Answered position (unwrap_or o Fine)) (get_or-set_same answers position (Some answer) None within))

    pub ledger_answered : (later : List Mark) → later ≡ marks ++ Answered position ∷ []
        → ledger_of given history later ≡ with_answer position answer (ledger_of answers history marks)
    ledger_answered later marks_are = rw (marks_are, events_answered) refl

    mark_answered : (mark : Mark) → IsMark answers history mark → IsMark given history mark
    mark_answered (Entered number) there = there
    mark_answered (Answered p) (a, has) = (a, get_set-other answers position p (Some answer) (other p a has) ∙ has)

    pub marks_answered : All (IsMark given history) (marks ++ Answered position ∷ [])
    marks_answered =
        All-push (IsMark given history) marks (Answered position)
        (All-weaker (IsMark answers history) (IsMark given history) mark_answered marks all)
        (answer, get_set-same answers position (Some answer) within)
