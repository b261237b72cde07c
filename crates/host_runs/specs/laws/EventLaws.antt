-- The events of a run: its history and its answers in the order in which they came.
use Rattle.std.proofs.Common.{◌≡◌, ◌≢◌, ◌++◌, ◌∷◌, ◌^◌, ◌≤◌, ℕ, List, [], Option, Some, None, length, replicate, slice_get, slice_set, ◌+◌, refl, ap, sym, ◌∙◌, subst, arith}
use Rattle.std.specs.Prelude.{Contains}
use Rattle.std.proofs.lemmas.Option.{slice_get_within}
use Rattle.vol_base.specs.declared.answer.Answer.{Answer}
use Rattle.vol_base.specs.declared.answer.Answer.TheVariants.{Plain}
use Rattle.vol_base.specs.declared.answer.Turn.TheVariants as turns
use Rattle.vol_base.specs.declared.block.Block.{Block}
use Rattle.vol_base.specs.declared.block.Digest.{Digest}
use Rattle.vol_base.specs.declared.plain.PlainReply.{PlainReply}
use Rattle.plain_files.specs.declared.history.Placed.{Placed}
use Rattle.workload.specs.declared.line.Workload.{Workload}
use Rattle.shared_disk.specs.Seen.{DiskSeen}
use Rattle.histories.specs.Fit.{IsPlaceless}
use Rattle.histories.specs.Lines.{IsAnswered}
use Rattle.histories.specs.Phases.{ArePhased}
use Rattle.host_runs.specs.Awaited.{awaited}
use Rattle.host_runs.specs.laws.Orderly.{IsOrderlyState, entry_of}
use Rattle.host_runs.specs.RunStates.{Answered, Entered, RunEvent, RunState, answered, entry_at, events_at, opening}
use Rattle.host_runs.specs.Runs.{IsCall, NextPhase, Run, RunCall, Supplies, Turns, supplied}
use Rattle.host_runs.specs.Steps.{IsStep}
use Rattle.host_runs.specs.laws.FitLaws.{orderly-begun, orderly-call}
use Rattle.host_runs.specs.laws.GetLaws.{get_set-same}
use Rattle.host_runs.specs.laws.NextLineLaws.{next-at}
use Rattle.host_runs.specs.laws.RunLaws.{run-keeps}

-- the entries among events
abbrev pub entries_of : List RunEvent → List Placed
entries_of [] = []
entries_of (Entered entry ∷ events) = entry ∷ entries_of events
entries_of (Answered position answer ∷ events) = entries_of events

-- the answers after events
abbrev pub answers_after : List RunEvent → List (Option Answer) → List (Option Answer)
answers_after [] answers = answers
answers_after (Entered entry ∷ events) answers = answers_after events answers
answers_after (Answered position answer ∷ events) answers = answers_after events (slice_set answers position (Some answer))

-- the entries and the answers of events in a row
pub entries_of-append : (xs ys : List RunEvent) → entries_of (xs ++ ys) ≡ entries_of xs ++ entries_of ys
entries_of-append [] ys = refl
entries_of-append (Entered entry ∷ xs) ys = ap (λ (es : List Placed). entry ∷ es) (entries_of-append xs ys)
entries_of-append (Answered p answer ∷ xs) ys = entries_of-append xs ys

pub answers_after-append : (xs ys : List RunEvent) (given : List (Option Answer))
    → answers_after (xs ++ ys) given ≡ answers_after ys (answers_after xs given)
answers_after-append [] ys given = refl
answers_after-append (Entered entry ∷ xs) ys given = answers_after-append xs ys given
answers_after-append (Answered p answer ∷ xs) ys given = answers_after-append xs ys (slice_set given p (Some answer))

entries_at : (p : ℕ) (placed : Option PlainReply) (ended : Option Answer) → entries_of (events_at p placed ended) ≡ entry_at p placed
entries_at p None None = refl
entries_at p None (Some answer) = refl
entries_at p (Some reply) None = refl
entries_at p (Some reply) (Some answer) = refl

answers_at : (p : ℕ) (placed : Option PlainReply) (ended : Option Answer) (given : List (Option Answer))
    → answers_after (events_at p placed ended) given ≡ answered p ended given
answers_at p None None given = refl
answers_at p None (Some answer) given = refl
answers_at p (Some reply) None given = refl
answers_at p (Some reply) (Some answer) given = refl

-- an answer comes with its entry before it, if it is a plain reply, and without one, if it is another answer but a cut
pub record IsFronted (s : RunState) : Type 0 where
  pub plain : (before after : List RunEvent) (p : ℕ) (reply : PlainReply) → s.events ≡ before ++ Answered p (Plain reply) ∷ after
      → Contains (entries_of before) (entry_of p reply)
  pub placeless : (before after : List RunEvent) (p : ℕ) (answer : Answer) (entry : Placed) → s.events ≡ before ++ Answered p answer ∷ after
      → IsPlaceless answer
      → Contains (entries_of before) entry → entry.line ≢ p

-- the history and the answers are those of the events
pub record IsListed (w : Workload) (s : RunState) : Type 0 where
  pub entries : entries_of s.events ≡ s.history
  pub given : answers_after s.events (replicate (length w.lines) None) ≡ s.answers
  pub fronted : IsFronted s

-- an event that stands in two lists in a row stands in the first, or in the second
data Split (xs ys : List RunEvent) (before : List RunEvent) (x : RunEvent) : Type 0 where
  early : (rest : List RunEvent) → xs ≡ before ++ x ∷ rest → Split xs ys before x
  late : (more rest : List RunEvent) → before ≡ xs ++ more → ys ≡ more ++ x ∷ rest → Split xs ys before x

split_more : (y : RunEvent) (xs ys before : List RunEvent) (x : RunEvent) → Split xs ys before x → Split (y ∷ xs) ys (y ∷ before) x
split_more y xs ys before x (early rest is) = early rest (ap (λ (es : List RunEvent). y ∷ es) is)
split_more y xs ys before x (late more rest front back) = late more rest (ap (λ (es : List RunEvent). y ∷ es) front) back

split : (xs ys before : List RunEvent) (x : RunEvent) (after : List RunEvent) → xs ++ ys ≡ before ++ x ∷ after → Split xs ys before x
split [] ys before x after is = late before after refl is
split (y ∷ xs) ys [] x after is = let same : y ≡ x = cc in early xs (ap (λ (e : RunEvent). e ∷ xs) same)
split (y ∷ xs) ys (z ∷ before) x after is =
    let same : y ≡ z = cc in
    let rest : xs ++ ys ≡ before ++ x ∷ after = cc in
    subst (λ (e : RunEvent). Split (y ∷ xs) ys (e ∷ before) x) same (split_more y xs ys before x (split xs ys before x after rest))

nothing_in : (more rest : List RunEvent) (x : RunEvent) → [] ≡ more ++ x ∷ rest → ⊥
nothing_in [] rest x is = cc
nothing_in (m ∷ more) rest x is = cc

-- an answer among the events of a turn is its last event, behind its entry
answer_at : (p : ℕ) (placed : Option PlainReply) (ended : Option Answer) (more rest : List RunEvent) (q : ℕ) (answer : Answer)
    → events_at p placed ended ≡ more ++ Answered q answer ∷ rest
    → (entries_of more ≡ entry_at p placed) × (q ≡ p) × (ended ≡ Some answer)
answer_at p None None [] rest q answer is = absurd cc
answer_at p None None (m ∷ more) rest q answer is = absurd cc
answer_at p None (Some given) [] rest q answer is = let same : Answered p given ≡ Answered q answer = cc in (refl, cc, cc)
answer_at p None (Some given) (m ∷ more) rest q answer is = absurd (nothing_in more rest (Answered q answer) cc)
answer_at p (Some reply) None [] rest q answer is = absurd cc
answer_at p (Some reply) None (m ∷ more) rest q answer is = absurd (nothing_in more rest (Answered q answer) cc)
answer_at p (Some reply) (Some given) [] rest q answer is = absurd cc
answer_at p (Some reply) (Some given) (m ∷ []) rest q answer is =
    let first : Entered (entry_of p reply) ≡ m = cc in
    let same : Answered p given ≡ Answered q answer = cc in
    (sym (ap (λ (e : RunEvent). entries_of (e ∷ [])) first), cc, cc)
answer_at p (Some reply) (Some given) (m ∷ n ∷ more) rest q answer is = absurd (nothing_in more rest (Answered q answer) cc)

module _ (w : Workload) (host : ℕ) (s t : RunState) (few : length w.lines ≤ 2 ^ 32) (o : IsOrderlyState w s) (later : IsOrderlyState w t) (listed : IsListed w s) where
  entries_more : (ended : Option Answer) (step : IsStep w host ended s t) → entries_of t.events ≡ t.history
  entries_more ended step =
      ap entries_of step.events_are ∙ entries_of-append s.events (events_at step.position step.placed ended)
      ∙ ap (λ (es : List Placed). es ++ entries_of (events_at step.position step.placed ended)) listed.entries
      ∙ ap (λ (es : List Placed). s.history ++ es) (entries_at step.position step.placed ended) ∙ sym step.history_is

  given_more : (ended : Option Answer) (step : IsStep w host ended s t)
      → answers_after t.events (replicate (length w.lines) None) ≡ t.answers
  given_more ended step =
      let none = replicate (length w.lines) None in
      ap (λ (es : List RunEvent). answers_after es none) step.events_are ∙ answers_after-append s.events (events_at step.position step.placed ended) none
      ∙ ap (answers_after (events_at step.position step.placed ended)) listed.given
      ∙ answers_at step.position step.placed ended s.answers ∙ sym step.answers_are

  -- what stands before an answer that came in this turn is the whole history
  front_whole : (ended : Option Answer) (step : IsStep w host ended s t) (before more rest : List RunEvent) (q : ℕ) (answer : Answer)
      → before ≡ s.events ++ more → events_at step.position step.placed ended ≡ more ++ Answered q answer ∷ rest
      → entries_of before ≡ t.history
  front_whole ended step before more rest q answer front back =
      ap entries_of front ∙ entries_of-append s.events more ∙ ap (λ (es : List Placed). es ++ entries_of more) listed.entries
      ∙ ap (λ (es : List Placed). s.history ++ es) (answer_at step.position step.placed ended more rest q answer back).0 ∙ sym step.history_is

  answer_now : (ended : Option Answer) (step : IsStep w host ended s t) (more rest : List RunEvent) (q : ℕ) (answer : Answer)
      → events_at step.position step.placed ended ≡ more ++ Answered q answer ∷ rest → IsAnswered t.answers q answer
  answer_now ended step more rest q answer back =
      let at = answer_at step.position step.placed ended more rest q answer back in
      let without = (next-at w.lines s.answers s.phase host step.position step.at.next).without in
      let given : t.answers ≡ answered step.position (Some answer) s.answers = step.answers_are ∙ ap (λ (e : Option Answer). answered step.position e s.answers) at.2 in
      ap (λ (xs : List (Option Answer)). slice_get xs q) given ∙ ap (slice_get (slice_set s.answers step.position (Some answer))) at.1
      ∙ get_set-same s.answers step.position (Some answer) (slice_get_within s.answers step.position None without)

  fronted_more : (ended : Option Answer) (step : IsStep w host ended s t) → IsFronted t
  fronted_more ended step = record {
    plain = λ before after q reply is. plain_at before q reply (split s.events (events_at step.position step.placed ended) before (Answered q (Plain reply)) after (sym step.events_are ∙ is));
    placeless = λ before after q answer entry is placeless among.
        placeless_at before q answer entry placeless among (split s.events (events_at step.position step.placed ended) before (Answered q answer) after (sym step.events_are ∙ is));
  }
    where
      plain_at : (before : List RunEvent) (q : ℕ) (reply : PlainReply)
          → Split s.events (events_at step.position step.placed ended) before (Answered q (Plain reply))
          → Contains (entries_of before) (entry_of q reply)
      plain_at before q reply (early rest is) = listed.fronted.plain before rest q reply is
      plain_at before q reply (late more rest front back) =
          let given = answer_now ended step more rest q (Plain reply) back in
          let within = slice_get_within t.answers q (Some (Plain reply)) given in
          let whole = front_whole ended step before more rest q (Plain reply) front back in
          subst (λ (es : List Placed). Contains es (entry_of q reply)) (sym whole) (later.fits.placed q reply (omega (arith, few, within, later.long)) given)

      placeless_at : (before : List RunEvent) (q : ℕ) (answer : Answer) (entry : Placed) → IsPlaceless answer
          → Contains (entries_of before) entry
          → Split s.events (events_at step.position step.placed ended) before (Answered q answer) → entry.line ≢ q
      placeless_at before q answer entry placeless among (early rest is) = listed.fronted.placeless before rest q answer entry is placeless among
      placeless_at before q answer entry placeless among (late more rest front back) =
          let given = answer_now ended step more rest q answer back in
          let whole = front_whole ended step before more rest q answer front back in
          later.fits.placeless q answer entry given placeless (subst (λ (es : List Placed). Contains es entry) whole among)

  listed_step : (ended : Option Answer) (step : IsStep w host ended s t) → IsListed w t
  listed_step ended step = record { entries = entries_more ended step; given = given_more ended step; fronted = fronted_more ended step }

-- nothing that events say hangs on notes or the phase
listed_same : (w : Workload) (s t : RunState) → t.events ≡ s.events → t.history ≡ s.history → t.answers ≡ s.answers → IsListed w s
    → IsListed w t
listed_same w s t events history given listed = record {
  entries = ap entries_of events ∙ listed.entries ∙ sym history;
  given = ap (λ (es : List RunEvent). answers_after es (replicate (length w.lines) None)) events ∙ listed.given ∙ sym given;
  fronted = record {
    plain = λ before after q reply is. listed.fronted.plain before after q reply (sym events ∙ is);
    placeless = λ before after q answer entry is. listed.fronted.placeless before after q answer entry (sym events ∙ is);
  };
}

listed_supplied : (w : Workload) (host : ℕ) (digest : Digest) (block : Option Block) (s : RunState) → IsListed w s
    → IsListed w (supplied host digest block s)
listed_supplied w host digest None s listed = listed
listed_supplied w host digest (Some block) s listed = listed_same w s (supplied host digest (Some block) s) refl refl refl listed

listed_call : (w : Workload) → length w.lines ≤ 2 ^ 32 → (call : RunCall) (s t : RunState) → IsOrderlyState w s → IsOrderlyState w t
    → IsListed w s → IsCall w call s t → IsListed w t
listed_call w few (Turns host turns.Idle) s t o later listed is = subst (IsListed w) (sym is.1) listed
listed_call w few (Turns host (turns.Work block)) s t o later listed is = subst (IsListed w) (sym is.1) listed
listed_call w few (Turns host turns.Moved) s t o later listed is = listed_step w host s t few o later listed None is
listed_call w few (Turns host (turns.Answered answer)) s t o later listed is = listed_step w host s t few o later listed (Some answer) is
listed_call w few (Supplies host digest) s t o later listed is = subst (IsListed w) (sym is) (listed_supplied w host digest (awaited w s host) s listed)
listed_call w few NextPhase s t o later listed is = subst (IsListed w) (sym is.phase) (listed_same w s (record s { phase = s.phase + 1 }) refl refl refl listed)

listed_begun : (w : Workload) (device : DiskSeen) → IsListed w (opening w device)
listed_begun w device = record {
  entries = refl;
  given = refl;
  fronted = record {
    plain = λ before after q reply is. absurd (nothing_in before after (Answered q (Plain reply)) is);
    placeless = λ before after q answer entry is. absurd (nothing_in before after (Answered q answer) is);
  };
}

-- in each run history and answers are those of its events
pub listed-run : (w : Workload) (device : DiskSeen) (calls : List RunCall) (t : RunState) → ArePhased w.lines → length w.lines ≤ 2 ^ 32
    → Run w (opening w device) calls t
    → IsListed w t
listed-run w device calls t phased few run =
    (run-keeps w (λ (u : RunState). IsOrderlyState w u × IsListed w u)
    (λ call s u both is. let later = orderly-call w phased call s u both.0 is in (later, listed_call w few call s u both.0 later both.1 is))
    (opening w device) calls t (orderly-begun w device, listed_begun w device) run).1
