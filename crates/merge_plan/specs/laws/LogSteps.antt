-- The steps by which the own log blocks are read.
use Rattle.std.proofs.Common.{◌≡◌, ◌≢◌, ◌⊎◌, ◌+◌, ◌++◌, ◌∷◌, ◌*◌, ◌<◌, ◌≤◌, ◌∙◌, ℕ, suc, Bool, List, [], Some, ap, arith, false, get_or-set_other, get_or-set_same, inl, inr, length, refl, subst, sym, true}
use Rattle.std.specs.Prelude.{All, slice_get, slice_set}
use Rattle.std.proofs.lemmas.Bool.{cases_eq}
use Rattle.std.proofs.lemmas.List.{length-append, length-set}
use Rattle.std.proofs.lemmas.List.Elements.{All-append, All-cons, All-nil, All-tail}
use Rattle.std.proofs.lemmas.List.Sorted.{All-permutation, length_permutation}
use Rattle.std.proofs.lemmas.Option.{get_or_from_slice_get, slice_get-get_or, slice_get_within}
use Rattle.std.specs.List.Sorted.{IsSortedByKey}
use Rattle.vol_base.specs.declared.answer.Answer.TheVariants.{Merged}
use Rattle.vol_base.specs.declared.block.Block.{Block}
use Rattle.vol_layout.specs.declared.geometry.Geometry.{Geometry}
use Rattle.vol_layout.specs.declared.kind.Kind.TheVariants as kinds
use Rattle.vol_layout.specs.Places.{place_of}
use Rattle.shared_disk.specs.Events.{Call, Reads, Reply, Shows, event}
use Rattle.hint_blocks.specs.declared.entry.LogEntry.{LogEntry}
use Rattle.hint_blocks.specs.Entries.{IsLogEntry}
use Rattle.lock_store.specs.Views.{key_at}
use Rattle.disk_locks.specs.Consistent.{Consistent}
use Rattle.hint_plans.specs.laws.HostLaws.{ready_key}
use Rattle.host_facts.specs.Views.{WorldView}
use Rattle.merge_shelves.specs.Parts.{shelves}
use Rattle.merge_shelves.specs.Rooms.{IsOrdered, key_cmp, log_entries, noted_from, sort_key}
use Rattle.merge_shelves.specs.declared.room.Noted.{Noted}
use Rattle.merge_steps.specs.Logs.{LogsRead, are_some, read_more}
use Rattle.merge_steps.specs.Steps.{IsMerging, Went as CallWent}
use Rattle.merge_steps.specs.laws.CallLaws.{merging_on}
use Rattle.merge_steps.specs.laws.EndLaws.{merge_ends, merge_goes_on}
use Rattle.plan_parts.specs.declared.outcome.Outcome.TheVariants.{Open}
use Rattle.share_plans.specs.Closings.{KeepsHolds}
use Rattle.share_plans.specs.laws.ClosingLaws.{keeps_memory}
use Rattle.merge_plan.specs.Followings.{AreNotFilled, IsBehindLog, OpensShelf}
use Rattle.merge_plan.specs.Plans.{IsReading, all_read, logs_of}
use Rattle.merge_plan.specs.Rooms.{HasFilled, IsSorted}
use Rattle.merge_plan.specs.Steps.{Went}
use Rattle.merge_plan.specs.declared.plan.Come.{Come}
use Rattle.merge_plan.specs.declared.plan.Come.TheVariants.{Answered, More}
use Rattle.merge_plan.specs.declared.plan.Doing.{Doing}
use Rattle.merge_plan.specs.declared.plan.Doing.TheVariants as doings
use Rattle.merge_plan.specs.declared.room.MergeRoom.{MergeRoom}
use Rattle.merge_plan.specs.laws.FollowLaws.{came_skipped, opens_follows}
use Rattle.merge_plan.specs.laws.StepLaws.{went_followed}

-- entries with their places
noted_long : (place : ℕ) (entries : List LogEntry) → length (noted_from place entries) ≡ length entries
unfolding noted_from
noted_long place [] = refl
noted_long place (e ∷ es) = ap suc (noted_long (place + 1) es)

noted_all : (g : Geometry) (place : ℕ) (entries : List LogEntry) → All (IsLogEntry g) entries
    → All (λ (noted : Noted). IsLogEntry g noted.entry) (noted_from place entries)
unfolding noted_from
noted_all g place [] all = All-nil (λ (noted : Noted). IsLogEntry g noted.entry)
noted_all g place (e ∷ es) all =
    All-cons (λ (noted : Noted). IsLogEntry g noted.entry) (record { entry = e; place = place }) (noted_from (place + 1) es) (all 0 e (omega arith))
    (noted_all g (place + 1) es (All-tail (IsLogEntry g) e es all))

some_length : (xs : List Noted) → xs ≢ [] → 0 < length xs
some_length [] some = absurd (some refl)
some_length (x ∷ xs) some = omega arith

-- a mark that was set
set_here : (marks : List Bool) (k : ℕ) (mark : Bool) → k < length marks → slice_get (slice_set marks k mark) k ≡ Some mark
set_here marks k mark lt =
    let long = length-set marks k mark in
    slice_get-get_or (slice_set marks k mark) k mark (omega (arith, long, lt)) ∙ ap (λ (b : Bool). Some b) (get_or-set_same marks k mark mark lt)

set_other : (marks : List Bool) (k j : ℕ) (mark there : Bool) → j ≢ k → slice_get marks j ≡ Some there
    → slice_get (slice_set marks k mark) j ≡ Some there
set_other marks k j mark there apart is =
    let long = length-set marks k mark in
    let lt = slice_get_within marks j there is in
    slice_get-get_or (slice_set marks k mark) j there (omega (arith, long, lt))
    ∙ ap (λ (b : Bool). Some b) (get_or-set_other marks k j mark there apart ∙ get_or_from_slice_get marks j there there is)

set_back : (marks : List Bool) (k j : ℕ) (mark there : Bool) → j ≢ k → slice_get (slice_set marks k mark) j ≡ Some there
    → slice_get marks j ≡ Some there
set_back marks k j mark there apart is =
    let long = length-set marks k mark in
    let lt = slice_get_within (slice_set marks k mark) j there is in
    slice_get-get_or marks j there (omega (arith, long, lt))
    ∙ ap (λ (b : Bool). Some b) (sym (get_or-set_other marks k j mark there apart) ∙ get_or_from_slice_get (slice_set marks k mark) j there there is)

some_of : (entries : List LogEntry) → (entries ≡ []) ⊎ ((are_some entries ≡ true) × (0 < length entries))
some_of [] = inl refl
some_of (e ∷ es) = inr (refl, omega arith)

-- own log blocks that had no entry are not written: a call of which the notes say so
pub went_skipped : (h : ℕ) (v w : WorldView) (call : Call) (reply : Reply) (before after : LogsRead) (k : ℕ) → CallWent h v w call reply before after
    → AreNotFilled after.filled after.emptied k → CallWent h v w call reply before (record after { emptied = k })
went_skipped h v w call reply before after k went none = record {
  quiet = λ pending.
      let quiet = went.quiet pending in record {
        acts = quiet.acts;
        answered = quiet.answered;
        geometry = quiet.geometry;
        others = quiet.others;
        valid = quiet.valid;
        files = quiet.files;
        allowed = quiet.allowed;
        noted = λ n is. came_skipped h k w pending after _ (quiet.noted n is) none;
      };
  geometry = went.geometry;
  memory = went.memory;
  facts = went.facts;
}

module _ (v w : WorldView) (h l : ℕ) (c : Consistent v.locks) (later : Consistent w.locks) (old : MergeRoom) (block : Block) (merging : IsMerging v h)
    (is : IsReading v old l) (few : length (log_entries v.locks.geometry block.0) ≤ 126)
    (range : All (IsLogEntry v.locks.geometry) (log_entries v.locks.geometry block.0)) where
  abbrev g : Geometry
  g = v.locks.geometry

  abbrev entries : List LogEntry
  entries = log_entries g block.0

  abbrev call : Call
  call = Reads (place_of g (kinds.Log h l))

  -- the room behind the read
  abbrev mid : MergeRoom
  mid = record old { logs = old.logs ++ noted_from (126 * l) entries; filled = slice_set old.filled l (are_some entries) }

  abbrev before : LogsRead
  before = logs_of g old (doings.ReadsLog l)

  long : length mid.logs ≡ length old.logs + length entries
  long = length-append old.logs (noted_from (126 * l) entries) ∙ ap (λ (n : ℕ). length old.logs + n) (noted_long (126 * l) entries)

  after_is : read_more g block.0 before ≡ record { read = l + 1; hints = length mid.logs; filled = mid.filled; emptied = 0 }
  after_is = ap (λ (n : ℕ). let r : LogsRead = record { read = l + 1; hints = n; filled = mid.filled; emptied = 0 } in r) (sym long)

  all_entries : All (λ (noted : Noted). IsLogEntry g noted.entry) mid.logs
  all_entries = All-append (λ (noted : Noted). IsLogEntry g noted.entry) old.logs (noted_from (126 * l) entries) is.entries (noted_all g (126 * l) entries range)

  -- one of the blocks is marked exactly where there are entries
  marked : 0 < length mid.logs → (k : ℕ) × (k < l + 1) × (slice_get mid.filled k ≡ Some true)
  marked some = elim (some_of entries) [
    | inr here ↦
        let logs = c.geometry.logs.1 in
        let below = is.below in
        let marks = is.marks in (
          l,
          omega arith,
          set_here old.filled l (are_some entries) (omega (arith, logs, below, marks)) ∙ ap (λ (b : Bool). Some b) here.0,
        )
    | inl none ↦
        let nothing : length entries ≡ 0 = ap length none in
        let (k, lt, there) = is.filled (omega (arith, long, nothing, some)) in
        (k, omega (arith, lt), set_other old.filled l k (are_some entries) true (λ same. omega (arith, lt, same)) there)
  ]

  unmarked : length mid.logs ≡ 0 → AreNotFilled mid.filled 0 16
  unmarked none k from below there = elim (some_of entries) [
    | inr some ↦ let more = some.1 in omega (arith, long, none, more)
    | inl nothing ↦ elim (cases_eq k l) [
      | inl same ↦
          let marks = is.marks in
          let here = set_here old.filled l (are_some entries) (omega (arith, marks, below, same)) in
          let both : Some (are_some entries) ≡ Some true = sym here ∙ subst (λ (j : ℕ). slice_get mid.filled j ≡ Some true) same there in
          no_mark entries nothing both
      | inr other ↦
          is.unfilled (omega (arith, long, none)) k from below (set_back old.filled l k (are_some entries) true other there)
    ]
  ]
    where
      no_mark : (es : List LogEntry) → es ≡ [] → Some (are_some es) ≡ Some true → ⊥
      no_mark es nothing both = let at : Some false ≡ Some true = sym (ap (λ (xs : List LogEntry). Some (are_some xs)) nothing) ∙ both in cc

  module _ (made : CallWent h v w call (Shows block.0) before (read_more g block.0 before)) where
    keeps : KeepsHolds h v w
    keeps = keeps_memory h v w made.geometry made.memory

    merging_now : IsMerging w h
    merging_now = merging_on h v w call (Shows block.0) before (read_more g block.0 before) made merging

    went : CallWent h v w call (Shows block.0) before (record { read = l + 1; hints = length mid.logs; filled = mid.filled; emptied = 0 })
    went = subst (CallWent h v w call (Shows block.0) before) after_is made

    -- a further one is read
    log_more : l + 1 < g.logs → Went h v w old mid (doings.ReadsLog l) (More (doings.ReadsLog (l + 1)))
    log_more more = record {
      owes = λ pending.
          merge_goes_on v w h call (Shows block.0) before (record { read = l + 1; hints = length mid.logs; filled = mid.filled; emptied = 0 }) pending c
          merging went;
      does = (block, mid, (made.quiet []).acts, refl, inl (more, refl, refl));
      stands = (
        merging_now.host,
        (
          merging_now,
          record {
            below = subst (λ (x : Geometry). l + 1 < x.logs) (sym made.geometry) more;
            few = let was = is.few in omega (arith, long, was, few);
            entries = subst (λ (x : Geometry). All (λ (noted : Noted). IsLogEntry x noted.entry) mid.logs) (sym made.geometry) all_entries;
            marks = length-set old.filled l (are_some entries) ∙ is.marks;
            filled = marked;
            unfilled = unmarked;
            at = is.at;
            counts = is.counts;
            shelf = is.shelf ∙ sym made.geometry;
          },
        ),
      );
      keeps = keeps;
      fewer = let below = is.below in let logs = c.geometry.logs.1 in omega (arith, below, logs);
      on = omega arith;
    }

    module _ (last : g.logs ≤ l + 1) (ordered : List Noted) (order : IsOrdered (shelves g) mid.logs ordered) where
      abbrev all : MergeRoom
      all = record mid { logs = ordered }

      same_long : length ordered ≡ length mid.logs
      same_long = length_permutation mid.logs ordered order.same

      all_is : record { read = l + 1; hints = length mid.logs; filled = mid.filled; emptied = 0 } ≡ all_read w.locks.geometry all
      all_is =
          let below = is.below in
          let read : l + 1 ≡ w.locks.geometry.logs = let same = ap (λ (x : Geometry). x.logs) made.geometry in omega (arith, same, last, below) in
          ap (λ (k : ℕ). let r : LogsRead = record { read = k; hints = length mid.logs; filled = mid.filled; emptied = 0 } in r) read
          ∙ ap (λ (k : ℕ). let r : LogsRead = record { read = w.locks.geometry.logs; hints = k; filled = mid.filled; emptied = 0 } in r) (sym same_long)

      went_all : CallWent h v w call (Shows block.0) before (all_read w.locks.geometry all)
      went_all = subst (CallWent h v w call (Shows block.0) before) all_is went

      -- there is no entry, and the merge is answered
      log_ends : ordered ≡ [] → Went h v w old all (doings.ReadsLog l) (Answered (Merged old.sweep.counts))
      log_ends none =
          let nothing : length ordered ≡ 0 = ap length none in
          let logs = c.geometry.logs.1 in
          let same = ap (λ (x : Geometry). x.logs) made.geometry in
          let unfilled = unmarked (sym same_long ∙ nothing) in record {
            owes = λ pending.
                merge_ends v w h call (Shows block.0) before (record (all_read w.locks.geometry all) { emptied = 16 }) pending c merging
                (went_skipped h v w call (Shows block.0) before (all_read w.locks.geometry all) 16 went_all unfilled) old.sweep.counts later
                (omega (arith, same)) (omega (arith, logs)) (is.counts ∙ sym nothing);
            does = (block, mid, (made.quiet []).acts, refl, inr (last, ordered, order, inl (none, refl, refl)));
            stands = merging_now.ready;
            keeps = keeps;
            fewer = let below = is.below in omega (arith, logs, below);
            on = omega arith;
          }

      -- the first shelf comes
      log_opens : (new : MergeRoom) (doing : Doing) → ordered ≢ [] → OpensShelf g all new doing → Went h v w old new (doings.ReadsLog l) (More doing)
      log_opens new doing some opens =
          let below = is.below in
          let logs = c.geometry.logs.1 in
          let was = is.few in
          let opened = subst (λ (x : Geometry). OpensShelf x all new doing) (sym made.geometry) opens in
          let (noted, here, follows) = opens_follows w h later merging_now all sorted new doing opened in
          went_followed v w h old new (doings.ReadsLog l) (event (key_at v.locks h) call (Shows block.0)) (ready_key v h c merging.ready) Open refl
          (λ pending n came. came.noted) all doing _ _ went_all.quiet follows
          (block, mid, (made.quiet []).acts, refl, inr (last, ordered, order, inr (some, doing, opens, refl))) keeps
          (omega (arith, below, logs, long, same_long, was, few)) (omega arith)
        where
          has_filled : HasFilled g all
          has_filled =
              let (k, lt, there) = marked (let long = some_length ordered some in omega (arith, long, same_long)) in
              let below = is.below in (k, omega (arith, lt, below), there)

          sorted : IsSorted w h all
          sorted = record {
            of = record {
              host = merging_now.host;
              entries = subst (λ (x : Geometry). All (λ (noted : Noted). IsLogEntry x noted.entry) ordered) (sym made.geometry)
                  (All-permutation (λ (noted : Noted). IsLogEntry g noted.entry) mid.logs ordered order.same all_entries);
              few = let below = is.below in let logs = c.geometry.logs.1 in let was = is.few in omega (arith, below, logs, was, long, same_long, few);
            };
            sorted = subst (λ (x : Geometry). IsSortedByKey (sort_key (shelves x)) key_cmp ordered) (sym made.geometry) order.sorted;
            sweep = record {
              geometry = is.shelf ∙ sym made.geometry;
              done = is.counts ∙ sym is.at;
              within = let at = is.at in omega (arith, at);
            };
            filled = subst (λ (x : Geometry). HasFilled x all) (sym made.geometry) has_filled;
            marks = length-set old.filled l (are_some entries) ∙ is.marks;
          }

    log_end_at : (ordered : List Noted) → g.logs ≤ l + 1 → IsOrdered (shelves g) mid.logs ordered → ordered ≡ []
        → (new : MergeRoom) (come : Come) → new ≡ record mid { logs = ordered } → come ≡ Answered (Merged old.sweep.counts)
        → Went h v w old new (doings.ReadsLog l) come
    log_end_at ordered last order none new come new_is come_is =
        subst (λ (x : Come). Went h v w old new (doings.ReadsLog l) x) (sym come_is)
        (subst (λ (r : MergeRoom). Went h v w old r (doings.ReadsLog l) (Answered (Merged old.sweep.counts))) (sym new_is)
        (log_ends last ordered order none))

    pub log_read : (new : MergeRoom) (come : Come) → IsBehindLog g l mid new come → Went h v w old new (doings.ReadsLog l) come
    log_read new come (inl (more, new_is, come_is)) =
        subst (λ (x : Come). Went h v w old new (doings.ReadsLog l) x) (sym come_is)
        (subst (λ (r : MergeRoom). Went h v w old r (doings.ReadsLog l) (More (doings.ReadsLog (l + 1)))) (sym new_is) (log_more more))
    log_read new come (inr (last, ordered, order, inl (none, new_is, come_is))) = log_end_at ordered last order none new come new_is come_is
    log_read new come (inr (last, ordered, order, inr (some, doing, opens, come_is))) =
        subst (Went h v w old new (doings.ReadsLog l)) (sym come_is) (log_opens last ordered order new doing some opens)
