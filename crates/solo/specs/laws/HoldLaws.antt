-- The steps by which a lone host takes a file, and what it has behind them.
use Rattle.std.proofs.Common.{◌≡◌, ◌≢◌, ◌≤◌, ◌<◌, ◌+◌, ◌∙◌, ℕ, zero, suc, List, [], None, Option, Some, refl, ap, sym, subst, arith, inl, inr}
use Rattle.std.specs.Prelude.{Contains, IfSome}
use Rattle.std.proofs.lemmas.Bool.{cases_eq}
use Rattle.vol_base.specs.declared.block.Key.{Key}
use Rattle.vol_layout.specs.declared.geometry.Geometry.{Geometry}
use Rattle.vol_layout.specs.declared.kind.Kind.TheVariants as kinds
use Rattle.vol_layout.specs.declared.kind.Resource.TheVariants.{File}
use Rattle.vol_layout.specs.Ranges.{HasResource}
use Rattle.shared_disk.specs.Events.{Event}
use Rattle.shared_disk.specs.State.{State, Told}
use Rattle.image_view.specs.Images.{block_at}
use Rattle.lock_store.specs.declared.answers.StepNo.{StepNo}
use Rattle.lock_store.specs.declared.answers.StepNo.TheVariants as steps
use Rattle.lock_store.specs.declared.host.HostState.{HostState}
use Rattle.lock_store.specs.Memories as host
use Rattle.lock_store.specs.Memories.{key_of}
use Rattle.lock_store.specs.Views.{counter_of, host_at, key_at, keys_of, told_of}
use Rattle.disk_locks.specs.Calls.{IsShared}
use Rattle.disk_locks.specs.Consistent.{Consistent}
use Rattle.host_facts.specs.Facts.Fact.{RecordIs}
use Rattle.host_facts.specs.Looks.{Looks}
use Rattle.host_facts.specs.Views.{WorldView}
use Rattle.host_facts.specs.laws.ToldLaws.{all_told, join_told, map_told}
use Rattle.host_notes.specs.Allowed.{IsAllowed}
use Rattle.host_notes.specs.Remembered.{IsRemembered}
use Rattle.host_runs.specs.Memories.{Memory}
use Rattle.host_runs.specs.Moments.{Moment}
use Rattle.host_runs.specs.Notes.{Notes, with_call}
use Rattle.host_runs.specs.Tries.{Tries, tried_by}
use Rattle.plan_parts.specs.Cuts.{IsCauseOf, IsCutBy}
use Rattle.plan_parts.specs.Holds.{CutsEach, HasBusy, HasMore, HasWrite, IsOutside, IsWriteTaking, NotedWrite, WritesFile, write_tries}
use Rattle.plan_parts.specs.QuietCalls.{Noted, QuietCall}
use Rattle.plan_parts.specs.laws.HoldStarts.{first_write, write_starts}
use Rattle.plan_parts.specs.laws.TurnLaws.{own_turn}
use Rattle.plan_parts.specs.declared.outcome.Outcome.TheVariants.{Busy, Open}
use Rattle.plan_parts.specs.declared.take_write.TakeWrite.{TakeWrite}
use Rattle.plan_parts.specs.declared.take_write.TakeWrite.TheVariants as writes
use Rattle.recover_plan.specs.laws.StepLaws.{none_told}
use Rattle.solo.specs.Alone.{AreFree, IsAlone, IsLater}
use Rattle.solo.specs.Starts.{FindsWord, HasStartCause, IsTaking, IsTrying}
use Rattle.solo.specs.Stops.{refusal_of}
use Rattle.solo.specs.laws.AloneLaws.{alone_key, free_looks, none_before, notable_looks, ready_looks, resting_notes}
use Rattle.solo.specs.laws.OwnCalls.{call_moment, event_key, not_fenced, risen}
use Rattle.solo.specs.laws.LaterLaws.{later_same, later_step, later_then, made_counter}
use Rattle.solo.specs.laws.KeylessLaws.{IsAloneIn, StandsIn, told_alone}
use Rattle.solo.specs.laws.KeylessLaws as keyless
use Rattle.solo.specs.laws.TakeLaws.{no_show, still_found, taker}

-- notes with which a step agrees
abbrev pub notes_at : Memory → TakeWrite → Notes
notes_at memory t = record (resting_notes memory) { tries = write_tries t None }

none_shown : (t : TakeWrite) → (write_tries t None).shown ≡ None
none_shown (writes.Try from tries) = refl
none_shown (writes.Check readers at) = refl

found_last : (t : TakeWrite) → (write_tries t None).count ≢ 0 → (word : List ℕ) × ((write_tries t None).found ≡ Some word)
found_last (writes.Try from zero) some = absurd (some refl)
found_last (writes.Try from (suc tries)) some = (_, refl)
found_last (writes.Check readers at) some = (_, refl)

same_found : (t : TakeWrite) (reader : Option ℕ) → (write_tries t reader).found ≡ (write_tries t None).found
same_found (writes.Try from tries) reader = refl
same_found (writes.Check readers at) reader = refl

notes_agree : (v : WorldView) (f : ℕ) (t : TakeWrite) (memory : Memory) → IsRemembered v.locks.geometry memory (host_at v.locks 0)
    → NotedWrite (taker f) 0 v t (notes_at memory t)
notes_agree v f t memory is = (
  None,
  record {
    noted = record {
      remembered = is;
      placed_is = refl;
      shown_is = none_shown t;
      full = λ e i n write. absurd cc;
      asks = refl;
      wants = refl;
    };
    tries_are = refl;
  },
)

-- one call of a step
module _ (u w : WorldView) (f : ℕ) (t : TakeWrite) (here : Consistent u.locks) (taking : IsTaking u f) (found : FindsWord u f t)
    (After : Notes → Type 0) (e : Event) (quiet : QuietCall (taker f) 0 u w e (NotedWrite (taker f) 0 u t) After) where
  abbrev memory : Memory
  memory = taking.notes.0

  abbrev n : Notes
  n = notes_at memory t

  abbrev m : Moment
  m = call_moment (taker f) 0 u w e None n

  some : key_at u.locks 0 ≢ 0
  some = alone_key u 0 here taking.inside.ready.joined

  allowed : IsAllowed m e
  allowed = quiet.allowed m (own_turn (taker f) 0 u w e n taking.notes.1 some None refl) refl (notes_agree u f t memory taking.notes.1)

  own : e.key ≡ key_at u.locks 0
  own = event_key (taker f) 0 u w e None n tt taking.notes.1 some allowed.made quiet.acts

  -- the slots of other hosts stay free
  pub free_on : AreFree w w.locks.geometry.hosts
  free_on = keyless.free_on (taker f) tt u w e n taking.free quiet.acts allowed quiet.geometry

  -- no key is asked for
  pub counter_on : counter_of w.locks ≤ counter_of u.locks + 0
  counter_on =
      let same : counter_of w.locks ≡ counter_of u.locks = made_counter m e u.locks.disk w.locks.disk tt allowed.made quiet.acts in
      omega (arith, same)

  pub after : After (with_call u.locks.geometry 0 (taker f) u.locks.disk.state (Some e) n)
  after = quiet.noted n (notes_agree u f t memory taking.notes.1)

  abbrev shows : Tries
  shows = tried_by u.locks.geometry 0 (taker f) memory.claims (key_at u.locks 0) e.call e.reply (write_tries t None)

  -- where the device tells its image, no key of another host is shown
  abbrev Both : Told → Type 0
  Both x = IsAloneIn u.locks.geometry (counter_of u.locks) (key_at u.locks 0) x.image × StandsIn x.image e.call e.reply

  both : IfSome (told_of u.locks) Both
  both = told_alone (taker f) tt u w e n taking.free quiet.acts here taking.inside.ready.joined taking.inside.registered

  pub told_hidden : IfSome (told_of u.locks) (λ x. shows.shown ≡ None)
  told_hidden = join_told (told_of u.locks) Both _ _ both found
      (λ x known stands. no_show u.locks.geometry (counter_of u.locks) (key_at u.locks 0) x.image known.0 f m refl memory.claims
      (write_tries t None) refl (none_shown t) (found_last t) stands e.key e.call e.reply refl allowed.marks known.1)

  pub told_found : IfSome (told_of u.locks) (λ x. (word : List ℕ) → shows.found ≡ Some word
      → block_at u.locks.geometry x.image (kinds.Lock (File f)) ≡ word)
  told_found = join_told (told_of u.locks) Both _ _ both found
      (λ x known stands word is. still_found u.locks.geometry (counter_of u.locks) (key_at u.locks 0) x.image known.0 f m refl memory.claims
      (write_tries t None) refl (none_shown t) (found_last t) stands e.key e.call e.reply word refl allowed.marks known.1 is)

  pub shows_is : (P : Tries → Type 0) → P (with_call u.locks.geometry 0 (taker f) u.locks.disk.state (Some e) n).tries → P shows
  shows_is P is = subst (λ k. P (tried_by u.locks.geometry 0 (taker f) memory.claims k e.call e.reply (write_tries t None))) own is

-- host 0 is one of the volume
pub taking_below : (v : WorldView) (f : ℕ) → Consistent v.locks → IsTaking v f → 0 < v.locks.geometry.hosts
taking_below v f is taking = ((is.memories 0).named (alone_key v 0 is taking.inside.ready.joined)).0

-- a file is there to be taken
outside : (v : WorldView) (f : ℕ) → f < v.locks.geometry.files → IsTaking v f → IsOutside v 0 f
outside v f below taking = record {
  joined = taking.inside.ready.joined;
  file = below;
  out = taking.out f (omega arith) below;
}

pub trying_first : (v : WorldView) (f : ℕ) (t : TakeWrite) → Consistent v.locks → f < v.locks.geometry.files → IsTaking v f → t ≡ first_write v 0 f
    → IsLater 0 v v → IsTrying v v f t
trying_first v f t is below taking first later = subst (IsTrying v v f) (sym first) (record {
  taking = taking;
  later = later;
  at = write_starts v 0 f is (outside v f below taking);
  found = all_told (told_of v.locks) _ (λ x word none. let bad : None ≡ Some word = none in absurd cc);
})

taking_looks : (u w : WorldView) (f : ℕ) → Looks 0 u w → IsTaking u f → IsTaking w f
taking_looks u w f looks taking = record {
  inside = record {
    ready = ready_looks u w 0 looks taking.inside.ready;
    registered = subst (λ (m : HostState). Contains (keys_of w.locks) (key_of m)) (sym looks.memory)
        (subst (λ (s : State). Contains s.keys (key_at u.locks 0)) (sym looks.state) looks.registered);
  };
  notes = notable_looks u w 0 looks taking.notes;
  free = free_looks u w looks taking.free;
  held = λ e below. ap (λ (m : HostState). host.holds m (File e)) looks.memory ∙ taking.held e below;
  out = λ e from below. ap (λ (m : HostState). host.holds m (File e)) looks.memory
      ∙ taking.out e from (subst (λ (g : Geometry). e < g.files) looks.geometry below);
}

later_looks : (u w : WorldView) → Looks 0 u w → u.locks.disk.faults ≤ w.locks.disk.faults → IsLater 0 u w
later_looks u w looks faults = later_same 0 u w looks.state looks.geometry faults

one_file : (e f : ℕ) → File e ≡ File f → e ≡ f
one_file e f is = cc

module _ (v u w : WorldView) (f : ℕ) (t : TakeWrite) (here : Consistent u.locks) (trying : IsTrying v u f t) where
  -- the next try
  pub trying_on : (next : TakeWrite)
      → HasMore (WritesFile f) 0 u w (λ c. NotedWrite c 0 u t) (λ c. NotedWrite c 0 w next) (IsWriteTaking w 0 f next) → IsTrying v w f next
  trying_on next more =
      let quiet = more.asked.quiet (taker f) (refl, refl) in
      let e = more.asked.event in
      let (reader, noted) = after u w f t here trying.taking trying.found (NotedWrite (taker f) 0 w next) e quiet in
      let tries = shows_is u w f t here trying.taking trying.found (NotedWrite (taker f) 0 w next) e quiet
      (λ (x : Tries). x ≡ write_tries next reader) noted.tries_are in
      record {
        taking = taking_looks u w f more.looks trying.taking;
        later = later_then 0 0 v u w trying.later (later_looks u w more.looks quiet.acts.later);
        at = more.stands;
        found = subst (λ (g : Geometry). IfSome (told_of w.locks) (λ x. (word : List ℕ) → (write_tries next None).found ≡ Some word
            → block_at g x.image (kinds.Lock (File f)) ≡ word)) (sym more.looks.geometry)
            (subst (λ (s : State). IfSome s.told (λ x. (word : List ℕ) → (write_tries next None).found ≡ Some word
            → block_at u.locks.geometry x.image (kinds.Lock (File f)) ≡ word)) (sym more.looks.state)
            (map_told (told_of u.locks) _ _ (told_found u w f t here trying.taking trying.found (NotedWrite (taker f) 0 w next) e quiet)
            (λ x stands word is. stands word (ap (λ (y : Tries). y.found) tries ∙ same_found next reader ∙ is))));
      }

  -- the file is taken
  pub taken_on : HasWrite 0 f u w t → IsTaking w (f + 1)
  taken_on wrote =
      let quiet = wrote.asked.quiet (taker f) (refl, refl) in
      let e = wrote.asked.event in
      let noted = after u w f t here trying.taking trying.found (Noted (taker f) 0 w Open) e quiet in
      let memory = wrote.gains.relocks.memory in
      record {
        inside = record {
          ready = record {
            joined = memory.joined ∙ trying.taking.inside.ready.joined;
            empty = wrote.gains.facts (RecordIs []) trying.taking.inside.ready.empty;
            taking = record {
              each = tt;
              only = λ r has shared held.
                  let was = subst (λ (g : Geometry). HasResource g r) quiet.geometry has in
                  trying.taking.inside.ready.taking.only r was shared
                  (sym (memory.holds_same r was (λ is. subst IsShared is shared)) ∙ held);
            };
          };
          registered = subst (λ k. Contains (keys_of w.locks) k) (sym memory.key)
              (subst (λ (ks : List ℕ). Contains ks (key_at u.locks 0)) (sym wrote.gains.relocks.keys) wrote.gains.relocks.registered);
        };
        notes = (_, noted.remembered);
        free = free_on u w f t here trying.taking trying.found (Noted (taker f) 0 w Open) e quiet;
        held = λ e below. elim (cases_eq e f) [
          | inl same ↦ ap (λ x. host.holds (host_at w.locks 0) (File x)) same ∙ wrote.held
          | inr other ↦
              memory.holds_same (File e) (let file = trying.at.outside.file in omega (arith, below, file)) (λ is. other (one_file e f is))
              ∙ trying.taking.held e (omega (arith, below, other))
        ];
        out = λ e from below.
            let near = subst (λ (g : Geometry). e < g.files) quiet.geometry below in
            memory.holds_same (File e) near (λ is. let same = one_file e f is in omega (arith, from, same))
            ∙ trying.taking.out e (omega (arith, from)) near;
      }

  pub taken_later : HasWrite 0 f u w t → IsLater 0 v w
  taken_later wrote =
      let quiet = wrote.asked.quiet (taker f) (refl, refl) in
      let e = wrote.asked.event in
      later_then 0 0 v u w trying.later (later_step 0 u w e quiet.acts quiet.geometry quiet.files quiet.valid
      (counter_on u w f t here trying.taking trying.found (Noted (taker f) 0 w Open) e quiet))

  -- a key of another host was shown: the device tells nothing
  module _ (key : Key) (busy : HasBusy (WritesFile f) 0 u w (λ c. NotedWrite c 0 u t) key) where
    pub busy_later : IsLater 0 v w
    busy_later =
        let quiet = busy.asked.quiet (taker f) (refl, refl) in
        later_then 0 0 v u w trying.later (later_looks u w busy.looks quiet.acts.later)

    pub busy_untold : told_of v.locks ≡ None
    busy_untold =
        let quiet = busy.asked.quiet (taker f) (refl, refl) in
        let e = busy.asked.event in
        let noted = after u w f t here trying.taking trying.found (Noted (taker f) 0 w (Busy key)) e quiet in
        let shown = shows_is u w f t here trying.taking trying.found (Noted (taker f) 0 w (Busy key)) e quiet
        (λ (x : Tries). x.shown ≡ Some key.0) noted.shown_is in
        none_before (told_of v.locks) (told_of u.locks) trying.later.files
        (none_told (told_of u.locks) (map_told (told_of u.locks) _ _
        (told_hidden u w f t here trying.taking trying.found (Noted (taker f) 0 w (Busy key)) e quiet)
        (λ x hidden. let bad : None ≡ Some key.0 = sym hidden ∙ shown in absurd (let no' : ⊥ = cc in no'))))

  -- a step was refused
  module _ (why : StepNo) (cut : CutsEach (WritesFile f) 0 u w (λ c. NotedWrite c 0 u t) why) where
    cut_call : IsCutBy (taker f) 0 u w why (NotedWrite (taker f) 0 u t)
    cut_call = cut (taker f) (refl, refl)

    joined_key : key_at u.locks 0 ≢ 0
    joined_key = alone_key u 0 here trying.taking.inside.ready.joined

    abbrev notes : Notes
    notes = notes_at trying.taking.notes.0 t

    pub cut_open : why ≢ steps.Fenced
    cut_open fenced =
        let e = cut_call.0 in
        let turn = own_turn (taker f) 0 u w e notes trying.taking.notes.1 joined_key None refl in
        not_fenced (taker f) 0 u w e None notes tt trying.taking.notes.1 joined_key
        (cut_call.1.allowed (call_moment (taker f) 0 u w e None notes) turn refl (notes_agree u f t trying.taking.notes.0 trying.taking.notes.1)).made
        cut_call.1.acts trying.taking.inside.registered (subst (λ (no' : StepNo). IsCauseOf no' e u) fenced cut_call.1.cause)

    pub cut_later : IsLater 0 v w
    cut_later = later_then 0 0 v u w trying.later (later_same 0 u w cut_call.1.state cut_call.1.geometry cut_call.1.acts.later)

    cause_of : (no' : StepNo) → why ≡ no' → IsCauseOf no' cut_call.0 u → HasStartCause v.locks.disk w.locks.disk (refusal_of no')
    cause_of steps.Fenced is cause = absurd (cut_open is)
    cause_of steps.Failed is cause =
        risen v.locks.disk.faults u.locks.disk.faults w.locks.disk.faults trying.later.faults (cut_call.1.acts.failed cause)
    cause_of (steps.Bad place) is cause = none_before (told_of v.locks) (told_of u.locks) trying.later.files cause.0
    cause_of steps.NoMemory is cause = tt

    pub cut_cause : HasStartCause v.locks.disk w.locks.disk (refusal_of why)
    cut_cause = cause_of why refl cut_call.1.cause

-- once every file is taken the host is alone
pub taken_all : (w : WorldView) → IsTaking w w.locks.geometry.files → IsAlone w
taken_all w taking = record {
  ready = taking.inside.ready;
  registered = taking.inside.registered;
  files = λ f below. taking.held f below;
  free = taking.free;
  notes = taking.notes;
}
