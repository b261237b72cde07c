-- Behind a turn of a host the cluster is sound again, and what the turn notes has its room.
use Rattle.std.proofs.Common.{◌≡◌, ◌≢◌, inl, inr, ◌+◌, ◌*◌, ◌<◌, ◌≤◌, ◌++◌, ℕ, List, Option, Some, None, IsSome, length, slice_get, slice_set, slice_index_or, refl, sym, subst, ◌∙◌, arith, get_or-set_other, get_or-set_same, length-append}
use Rattle.std.proofs.lemmas.Bool.{cases_eq}
use Rattle.std.proofs.lemmas.List.{length-set}
use Rattle.std.proofs.lemmas.Option.{slice_get_within}
use Rattle.vol_base.specs.declared.answer.Answer.{Answer}
use Rattle.vol_base.specs.declared.answer.Turn.TheVariants.{Answered, Moved}
use Rattle.workload.specs.declared.line.Line.{Line}
use Rattle.disk_locks.specs.Consistent.{Consistent}
use Rattle.held_cache.specs.Kept.{Cache}
use Rattle.histories.specs.Joined.{is_joined}
use Rattle.histories.specs.Lines.{IsLine}
use Rattle.host_facts.specs.Views.{WorldView}
use Rattle.host_runs.specs.NextLines.{next_line}
use Rattle.host_runs.specs.Notes.{Notes, noting}
use Rattle.host_runs.specs.RunStates.{answered, entry_at, events_at}
use Rattle.host_runs.specs.Runs.{Turns}
use Rattle.host_runs.specs.Steps.{IsStep}
use Rattle.host_runs.specs.laws.FitLaws.{orderly-call}
use Rattle.host_runs.specs.laws.GetLaws.{get_set-other}
use Rattle.host_runs.specs.laws.NextLineLaws.{next-at}
use Rattle.host_runs.specs.laws.Orderly.{HasAnswer, IsOrderlyState}
use Rattle.host_runs.specs.lemmas.OrderlyPlaced.{some_same}
use Rattle.cluster.specs.Agreements.{IsFirstOpen, IsHead, IsSound, IsStanding, IsSteady, given_in}
use Rattle.cluster.specs.Parts.{HasActed, IsOpenFrom, acted, opened}
use Rattle.cluster.specs.Seats.{joined_of}
use Rattle.cluster.specs.Views.{PartsView, head_at, seat_at, state_of}
use Rattle.cluster.specs.declared.seat.Done.{Done}
use Rattle.cluster.specs.declared.seat.Seat.{Seat}
use Rattle.cluster.specs.laws.AgreeLaws.{line_host_is, stepped}
use Rattle.cluster.specs.laws.OpenLaws.{next_here, next_later, next_never, open_behind, open_other, unanswered}
use Rattle.cluster.specs.laws.RoomLaws.{events_more, few_entries, few_given}
use Rattle.cluster.specs.laws.TurnedLaws.{turn_of}

-- the line that a host is at is its first one without an answer
pub first_at : (v : PartsView) (h position : ℕ) → IsSound v → h < v.workload.geometry.hosts
    → next_line v.workload.lines v.ledger.answers v.phase h ≡ Some position → IsFirstOpen v.workload.lines v.ledger.answers h position
first_at v h position sound below next = cases (head_at v h) (sound.head h below)
  where
    cases : (at : Option ℕ) → IsHead v.workload.lines v.ledger.answers h at → IsFirstOpen v.workload.lines v.ledger.answers h position
    cases None all =
        let none = next_never v.workload.lines v.ledger.answers v.phase h sound.long all in
        let both : Some position ≡ None = sym next ∙ none in absurd cc
    cases (Some p) first =
        elim (cases_eq first.line.phase v.phase) [
          | inl here ↦
              let at = next_here v.workload.lines v.ledger.answers v.phase h sound.long p first here in
              subst (IsFirstOpen v.workload.lines v.ledger.answers h) (some_same p position (sym at ∙ next)) first
          | inr other ↦
              let none = next_later v.workload.lines v.ledger.answers v.phase h sound.long sound.phased sound.past p first other in
              let both : Some position ≡ None = sym next ∙ none in absurd cc
        ]

module _ (v : PartsView) (h position : ℕ) (line : Line) (w : WorldView) (d : Cache) (seat : Seat) (head : Option ℕ) (done : Done)
    (sound : IsSound v) (next : next_line v.workload.lines v.ledger.answers v.phase h ≡ Some position)
    (is : IsLine v.workload.lines position line) (below : h < v.workload.geometry.hosts)
    (act : HasActed v h line.command w d seat done)
    (joined : joined_of v.world h line.command (seat_at v h).plan ≡ is_joined v.workload.lines v.ledger.answers h)
    (consistent : Consistent v.world.locks) (standing : IsStanding v) (steady : IsSteady v) where
  abbrev u : PartsView
  u = acted v h position w d seat head done

  abbrev lines : List Line
  lines = v.workload.lines

  without : slice_get v.ledger.answers position ≡ Some None
  without = (next-at lines v.ledger.answers v.phase h position next).without

  within : position < length v.ledger.answers
  within = slice_get_within v.ledger.answers position None without

  later_notes : ℕ → Notes
  later_notes = noting h (turn_of v h position line w d seat head done sound next is below act joined steady.notes steady.agree).0 steady.notes

  -- the state behind the turn is in order
  orderly_by : (ended : Option Answer) → IsStep v.workload h ended (state_of v steady.notes) (state_of u later_notes)
      → IsOrderlyState v.workload (state_of u later_notes)
  orderly_by None step = orderly-call v.workload sound.phased (Turns h Moved) (state_of v steady.notes) (state_of u later_notes) steady.orderly step
  orderly_by (Some answer) step =
      orderly-call v.workload sound.phased (Turns h (Answered answer)) (state_of v steady.notes) (state_of u later_notes) steady.orderly step

  orderly_behind : IsOrderlyState v.workload (state_of u later_notes)
  unfolding later_notes
  orderly_behind =
      orderly_by done.ended (stepped v h position line w d seat head done sound next is below act joined consistent standing steady).0

  -- so there is room for its entry and its answer
  long_behind : length u.ledger.answers ≡ length v.ledger.answers
  long_behind = cases done.ended
    where
      cases : (ended : Option Answer) → length (answered position ended v.ledger.answers) ≡ length v.ledger.answers
      cases None = refl
      cases (Some answer) = length-set v.ledger.answers position (Some answer)

  pub entries_fit : length (v.ledger.history ++ entry_at position done.placed) ≤ length v.ledger.answers
  entries_fit = let few = few_entries lines u.ledger.answers u.ledger.history orderly_behind.fits in let long = sound.long in omega (arith, few, long)

  events_is : length u.ledger.events ≡ length u.ledger.history + given_in u.ledger.answers
  events_is =
      length-append v.ledger.events (events_at position done.placed done.ended)
      ∙ events_more v.ledger.answers v.ledger.history (length v.ledger.events) (length (events_at position done.placed done.ended)) position done.placed
      done.ended without sound.events refl

  pub events_fit : length (v.ledger.events ++ events_at position done.placed done.ended) ≤ 2 * length v.ledger.answers
  events_fit =
      let all = events_is in let few = entries_fit in let given = few_given u.ledger.answers in let long = long_behind in
      omega (arith, all, few, given, long)

  -- the first positions without an answer
  in_turn : (q : ℕ) (l : Line) → position < q → IsLine lines q l → l.host ≡ h → HasAnswer v.ledger.answers q → ⊥
  in_turn q l after at host has =
      unanswered v.ledger.answers position without
      (steady.orderly.in_turn position q line l after is at
      (line_host_is v h position line w d seat head done sound next is below act joined consistent standing steady ∙ sym host) has)

  head_here : (ended : Option Answer) → (IsSome ended → IsOpenFrom lines (position + 1) h head)
      → IsHead lines (answered position ended v.ledger.answers) h (slice_index_or (opened h ended head v.heads) h None)
  head_here None from = sound.head h below
  head_here (Some answer) from =
      let there : slice_index_or (slice_set v.heads h head) h None ≡ head =
      get_or-set_same v.heads h head None (let n = sound.heads in omega (arith, below, n)) in
      subst (IsHead lines (slice_set v.ledger.answers position (Some answer)) h) (sym there)
      (open_behind lines v.ledger.answers h position answer (first_at v h position sound below next) within in_turn head (from refl))

  head_other : (k : ℕ) → k < v.workload.geometry.hosts → k ≢ h → (ended : Option Answer)
      → IsHead lines (answered position ended v.ledger.answers) k (slice_index_or (opened h ended head v.heads) k None)
  head_other k host other None = sound.head k host
  head_other k host other (Some answer) =
      subst (IsHead lines (slice_set v.ledger.answers position (Some answer)) k) (sym (get_or-set_other v.heads h k head None other))
      (open_other lines v.ledger.answers k position answer line is
      (λ same. other (sym same ∙ line_host_is v h position line w d seat head done sound next is below act joined consistent standing steady))
      without (head_at v k) (sound.head k host))

  still_answered : (ended : Option Answer) (q : ℕ) → HasAnswer v.ledger.answers q → HasAnswer (answered position ended v.ledger.answers) q
  still_answered None q has = has
  still_answered (Some answer) q has =
      let apart : q ≢ position = λ same. unanswered v.ledger.answers position without (subst (HasAnswer v.ledger.answers) same has) in
      (has.0, get_set-other v.ledger.answers position q (Some answer) apart ∙ has.1)

  heads_long : (ended : Option Answer) → length (opened h ended head v.heads) ≡ length v.heads
  heads_long None = refl
  heads_long (Some answer) = length-set v.heads h head

  pub sound_behind : (IsSome done.ended → IsOpenFrom lines (position + 1) h head) → IsSound u
  sound_behind from = record {
    phased = sound.phased;
    allowed = sound.allowed;
    known = sound.known;
    few = sound.few;
    phases = sound.phases;
    phase = sound.phase;
    geometry = act.others.locks.lasts.geometry ∙ sound.geometry;
    volume = sound.volume;
    long = long_behind ∙ sound.long;
    seats = length-set v.seats h seat ∙ sound.seats;
    heads = heads_long done.ended ∙ sound.heads;
    head = λ k host. elim (cases_eq k h) [
      | inl same ↦ rw same (head_here done.ended from)
      | inr other ↦ head_other k host other done.ended
    ];
    past = λ p l at early. still_answered done.ended p (sound.past p l at early);
    events = events_is;
  }
