-- What comes next stands, and the notes agree with it.
use Rattle.std.proofs.Common.{◌≡◌, ◌⊎◌, ◌+◌, ◌-◌, ◌*◌, ◌<◌, ◌≤◌, ◌∙◌, ℕ, zero, suc, Bool, List, None, Option, Some, ap, arith, false, inl, inr, length, refl, subst, sym}
use Rattle.std.specs.Prelude.{◌/◌, ◌%◌, min, slice_get}
use Rattle.std.proofs.Math.Nat.{mod-lt}
use Rattle.vol_base.specs.Bytes.{u32_at}
use Rattle.vol_base.specs.declared.block.Block.{Block}
use Rattle.vol_base.specs.declared.block.Digest.{Digest}
use Rattle.disk_locks.specs.Consistent.{Consistent}
use Rattle.hint_blocks.specs.Entries.{IsLogEntry}
use Rattle.sorted_shard.specs.Shelves.{with_digest}
use Rattle.merge_decide.specs.Decision.{decision}
use Rattle.merge_decide.specs.declared.action.Action.{Action}
use Rattle.merge_decide.specs.declared.action.Action.TheVariants as actions
use Rattle.merge_actions.specs.Acts as acting
use Rattle.merge_actions.specs.Acts.{begun}
use Rattle.merge_actions.specs.declared.acting.ActPlan.{ActPlan}
use Rattle.merge_actions.specs.declared.acting.Acting.{Acting}
use Rattle.merge_actions.specs.laws.ActLaws.{act_begins}
use Rattle.merge_looks.specs.laws.LookLaws.{look_begins}
use Rattle.merge_shelves.specs.declared.handling.Done.{Done}
use Rattle.merge_steps.specs.declared.sweep.Due.{Due}
use Rattle.merge_steps.specs.declared.sweep.Due.TheVariants as dues
use Rattle.std.proofs.lemmas.Bool.{cases_lt}
use Rattle.std.proofs.lemmas.Option.{get_or_from_slice_get, slice_get_within}
use Rattle.vol_layout.specs.declared.geometry.Geometry.{Geometry}
use Rattle.hint_blocks.specs.declared.entry.LogEntry.{LogEntry}
use Rattle.host_facts.specs.Views.{WorldView}
use Rattle.host_runs.specs.Notes.{NotedCall, Notes}
use Rattle.merge_shelves.specs.Parts.{shelf_of, shelves}
use Rattle.merge_shelves.specs.declared.room.Noted.{Noted}
use Rattle.merge_steps.specs.Logs.{AreLogs, LogsRead}
use Rattle.merge_steps.specs.Steps.{IsMerging, MergeCame}
use Rattle.merge_steps.specs.Sweeps.{ArePassed, IsDue, IsFree, IsHeld, IsHere, IsOfHost}
use Rattle.merge_steps.specs.declared.sweep.Sweep.{Sweep}
use Rattle.plan_parts.specs.declared.outcome.Outcome.TheVariants.{Open}
use Rattle.merge_plan.specs.Followings.{AreNotFilled, BeginsAct, GoesOn, IsActionIn, IsAfter, IsByDue, IsDecided, IsFinished, IsNextShelf, OpensShelf, uncalled}
use Rattle.merge_plan.specs.Plans.{Agrees, PlanStands, all_read, entry_left, left, reached, shelf_left}
use Rattle.merge_plan.specs.Rooms.{IsMet, IsNext, IsOpen, IsSorted}
use Rattle.merge_plan.specs.declared.plan.Doing.{Doing}
use Rattle.merge_plan.specs.declared.plan.Doing.TheVariants as doings
use Rattle.merge_plan.specs.declared.room.MergeRoom.{MergeRoom}
use Rattle.merge_plan.specs.laws.OrderLaws.{shelves_rise}

-- entries that were handled one after the other
pub passed_on : (v : WorldView) (h : ℕ) (logs : List Noted) (number k : ℕ) (begin now : Sweep) → ArePassed v h logs number begin k now
    → (now.at ≡ begin.at + k) × (now.shelf.blocks ≡ begin.shelf.blocks)
passed_on v h logs number zero begin now same =
    (let at = ap (λ (s : Sweep). s.at) same in omega (arith, at), ap (λ (s : Sweep). s.shelf.blocks) same)
passed_on v h logs number (suc k) begin now (before, passed, one) =
    let earlier = passed_on v h logs number k begin before passed in
    let at = one.at in
    let at_before = earlier.0 in (omega (arith, at, at_before), one.passed.1.shelf.blocks ∙ earlier.1)

-- own log blocks that had no entry are not written
pub logs_skipped : (g : Geometry) (h l : ℕ) (r : LogsRead) (calls : List NotedCall) → AreLogs g h r calls → AreNotFilled r.filled r.emptied l
    → AreLogs g h (record r { emptied = l }) calls
logs_skipped g h l r calls are none = record {
  read = are.read;
  unread = are.unread;
  filled = are.filled;
  emptied = λ k lt there. elim (cases_lt k r.emptied) [
    | inl before ↦ are.emptied k before there
    | inr here ↦ absurd (none k here lt there)
  ];
  many = are.many;
  room = are.room;
}

pub came_skipped : (h l : ℕ) (v : WorldView) (pending : List LogEntry) (r : LogsRead) (n : Notes) → MergeCame h v Open pending r n
    → AreNotFilled r.filled r.emptied l → MergeCame h v Open pending (record r { emptied = l }) n
came_skipped h l v pending r n came none =
    record { noted = came.noted; pending_is = came.pending_is; logs = logs_skipped v.locks.geometry h l r n.calls came.logs none }

-- what comes next stands, with as many steps left at most, and as far at least; and notes by which all logs were read agree with it
pub record Follows (v : WorldView) (h : ℕ) (old new : MergeRoom) (doing : Doing) (most least : ℕ) : Type 0 where
  pub stands : PlanStands v h new doing
  pub agrees : (pending : List LogEntry) (n : Notes) → MergeCame h v Open pending (all_read v.locks.geometry old) n → Agrees h v pending new doing n
  pub unasked : (pending : List LogEntry) (n : Notes) → Agrees h v pending new doing n → n.asks ≡ None
  pub fewer : left new doing ≤ most
  pub on : least ≤ reached doing

pub follows_less : (v : WorldView) (h : ℕ) (old new : MergeRoom) (doing : Doing) (few most some least : ℕ) → Follows v h old new doing few some
    → few ≤ most → least ≤ some → Follows v h old new doing most least
follows_less v h old new doing few most some least follows le ge = record {
  stands = follows.stands;
  agrees = follows.agrees;
  unasked = follows.unasked;
  fewer = let fewer = follows.fewer in omega (arith, fewer, le);
  on = let on = follows.on in omega (arith, on, ge);
}

some_same : (x y : Noted) → Some x ≡ Some y → x ≡ y
some_same x y same = cc

-- numbers of shelves and of their blocks
few_of : (shards shelf : ℕ) → shards ≤ 64 → shelf < (shards + 3) / 4 → shelf < 16
few_of shards shelf most below = omega (arith, most, below)

some_shelves : (shards : ℕ) → 1 ≤ shards → 0 < (shards + 3) / 4
some_shelves shards some = omega (arith, some)

some_blocks : (shards shelf : ℕ) → shelf < (shards + 3) / 4 → 0 < min (shards - 4 * shelf) 4
some_blocks shards shelf below = omega (arith, below)

pub few_blocks : (shards shelf n : ℕ) → n ≡ min (shards - 4 * shelf) 4 → n ≤ 4
few_blocks shards shelf n is = omega (arith, is)

rest_below : (n m : ℕ) → 0 < m → n % m < m
rest_below n m some = mod-lt n some

swap_block : (k : ℕ) (blocks : List Block) (b : Block) → slice_get blocks k ≡ Some b → length blocks ≤ 4 → k < 4
swap_block k blocks b is few = let within = slice_get_within blocks k b is in omega (arith, within, few)

module _ (v : WorldView) (h : ℕ) (c : Consistent v.locks) (merging : IsMerging v h) where
  abbrev g : Geometry
  g = v.locks.geometry

  pub few_shelves : (shelf : ℕ) → shelf < shelves g → shelf < 16
  few_shelves shelf below = let most = c.geometry.shards.1 in few_of g.shards shelf most below

  -- the shelf of an entry is one of the volume, and has a block
  shelf_below : (noted : Noted) → shelf_of (shelves g) noted.entry.digest.0 < shelves g
  shelf_below noted = rest_below (u32_at noted.entry.digest.0 0) (shelves g) (some_shelves g.shards c.geometry.shards.0)

  module _ (old : MergeRoom) (sorted : IsSorted v h old) where
    -- the notes by which all own log blocks were read
    abbrev Between : List LogEntry → Notes → Type 0
    Between pending n = MergeCame h v Open pending (all_read g old) n

    -- the shelf of the next entry comes
    pub opens_follows : (new : MergeRoom) (doing : Doing) → OpensShelf g old new doing
        → (noted : Noted) × (slice_get old.logs old.sweep.at ≡ Some noted)
        × Follows v h old new doing (shelf_left old (shelf_of (shelves g) noted.entry.digest.0) 10)
        (20 * shelf_of (shelves g) noted.entry.digest.0 + 1)
    opens_follows new doing (noted, here, doing_is, new_is) =
        let number = shelf_of (shelves g) noted.entry.digest.0 in
        let below = shelf_below noted in (
          noted,
          here,
          subst (λ (d : Doing). Follows v h old new d (shelf_left old number 10) (20 * number + 1)) (sym doing_is)
              (subst (λ (r : MergeRoom). Follows v h old r (doings.ReadsShard number 0) (shelf_left old number 10) (20 * number + 1)) (sym new_is)
              (record {
                stands = (
                  merging.host,
                  (
                    merging,
                    record {
                      sorted = record { of = sorted.of; sorted = sorted.sorted; sweep = sorted.sweep; filled = sorted.filled; marks = sorted.marks };
                      below = below;
                      block = some_blocks g.shards number below;
                      read = refl;
                      next = (noted, record { next = here; shelf = refl });
                    },
                  ),
                );
                agrees = λ pending n came. came;
                unasked = λ pending n came. came.noted.asks;
                fewer = omega arith;
                on = omega arith;
              })),
        )

    -- or the logs are emptied
    module _ (shelf : ℕ) (few : shelf < 16) where
      next_shelf_follows : (new : MergeRoom) (doing : Doing) → IsMet v old.logs shelf old.sweep.at
          → ((noted : Noted) → IsHere v old.logs shelf old.sweep.at noted → ⊥) → IsNextShelf g old new doing
          → Follows v h old new doing (shelf_left old shelf 0 - 10) (20 * shelf + 20)
      next_shelf_follows new doing met ends (inl (more, opens)) =
          let (noted, here, follows) = opens_follows new doing opens in
          let less = above noted here in
          let inside = few_shelves (shelf_of (shelves g) noted.entry.digest.0) (shelf_below noted) in
          follows_less v h old new doing (shelf_left old (shelf_of (shelves g) noted.entry.digest.0) 10) (shelf_left old shelf 0 - 10)
          (20 * shelf_of (shelves g) noted.entry.digest.0 + 1) (20 * shelf + 20) follows (omega (arith, less, inside)) (omega (arith, less))
        where
          above : (noted : Noted) → slice_get old.logs old.sweep.at ≡ Some noted → shelf < shelf_of (shelves g) noted.entry.digest.0
          above noted here =
              let rise = shelves_rise (shelves g) old.logs met.place old.sweep.at met.noted noted sorted.sorted met.before met.here.next here in
              let is = met.here.shelf in elim (cases_lt shelf (shelf_of (shelves g) noted.entry.digest.0)) [
                | inl less ↦ less
                | inr ge ↦ absurd (ends noted (record { next = here; shelf = omega (arith, rise, is, ge) }))
              ]
      next_shelf_follows new doing met ends (inr (done, new_is, l, filled, doing_is)) =
          let below = filled.1 in
          let logs = c.geometry.logs.1 in
          subst (λ (d : Doing). Follows v h old new d (shelf_left old shelf 0 - 10) (20 * shelf + 20)) (sym doing_is)
          (subst (λ (r : MergeRoom). Follows v h old r (doings.EmptiesLog l) (shelf_left old shelf 0 - 10) (20 * shelf + 20)) (sym new_is)
          (record {
            stands = (merging.host, (merging, record { sorted = sorted; done = done; below = below; filled = filled.2 }));
            agrees = λ pending n came. came_skipped h l v pending (all_read g old) n came filled.3;
            unasked = λ pending n came. came.noted.asks;
            fewer = omega (arith, few);
            on = omega (arith, few);
          }))

      -- behind the entries of a shelf
      pub after_follows : (new : MergeRoom) (doing : Doing) (from : ℕ) → from ≤ 4 → IsOpen v old shelf
          → ((noted : Noted) → IsHere v old.logs shelf old.sweep.at noted → ⊥) → IsAfter g shelf from old new doing
          → Follows v h old new doing (shelf_left old shelf 4 - from) (20 * shelf + 6 + from)
      after_follows new doing from low opened ends (inl (k, changed, new_is, doing_is)) =
          let inside = swap_block k old.read changed.2 changed.3 (few_blocks g.shards shelf _ opened.read) in
          let after = changed.0 in
          subst (λ (d : Doing). Follows v h old new d (shelf_left old shelf 4 - from) (20 * shelf + 6 + from)) (sym doing_is)
          (subst (λ (r : MergeRoom). Follows v h old r (doings.Swaps shelf k) (shelf_left old shelf 4 - from) (20 * shelf + 6 + from)) (sym new_is)
          (record {
            stands = (merging.host, (merging, record { sorted = sorted; opened = opened; ends = ends; changed = (from, changed) }));
            agrees = λ pending n came. came;
            unasked = λ pending n came. came.noted.asks;
            fewer = omega (arith, inside, after);
            on = omega (arith, after);
          }))
      after_follows new doing from low opened ends (inr (same, next)) =
          let on = next_shelf_follows new doing opened.met ends next in
          let fewer = on.fewer in
          let far = on.on in
          record { stands = on.stands; agrees = on.agrees; unasked = on.unasked; fewer = omega (arith, fewer, low, few); on = omega (arith, far, low) }

-- an action that makes calls has what it asks for, where the host holds the entry's file
asks_for : (v : WorldView) (h : ℕ) (e : LogEntry) (action : Action) → acting.IsHeld v h e.file → IsActionIn v.locks.geometry action
    → acting.AsksFor v h e action
asks_for v h e (actions.Share s) held range = (held, range)
asks_for v h e (actions.Promote f i) held range = (held, range)
asks_for v h e (actions.Post s) held range = range
asks_for v h e actions.Stale held range = tt
asks_for v h e actions.PutUnique held range = tt
asks_for v h e actions.Skip held range = tt

module _ (v : WorldView) (h : ℕ) (c : Consistent v.locks) (merging : IsMerging v h) where
  -- the entry that comes next is in range
  entry_in : (logs : List Noted) (at : ℕ) (noted : Noted) → IsOfHost v h logs → slice_get logs at ≡ Some noted
      → IsLogEntry v.locks.geometry noted.entry
  entry_in logs at noted of here =
      subst (λ (x : Noted). IsLogEntry v.locks.geometry x.entry) (get_or_from_slice_get logs at noted noted here)
      (of.entries at noted (slice_get_within logs at noted here))

  begun_at : (e : LogEntry) (action : Action) (plan : ActPlan) → IsLogEntry v.locks.geometry e → acting.AsksFor v h e action
      → acting.Calls action → BeginsAct h e action plan → acting.At v plan
  begun_at e action plan range asks calls begins =
      let made = act_begins v h e action (record { merging = merging; range = range; asks = asks }) calls in
      let with_acting = subst (λ (a : Acting). acting.At v (record { host = h; entry = e; action = action; acting = a })) (sym begins.begins) made in
      let with_action = subst (λ (a : Action). acting.At v (record { host = h; entry = e; action = a; acting = plan.acting })) (sym begins.action_is)
      with_acting in
      let with_entry = subst (λ (x : LogEntry). acting.At v (record { host = h; entry = x; action = plan.action; acting = plan.acting })) (sym begins.entry)
      with_action in
      subst (λ (x : ℕ). acting.At v (record { host = x; entry = plan.entry; action = plan.action; acting = plan.acting })) (sym begins.host) with_entry

  -- the next entry that needs device calls
  pub goes_on_follows : (old new : MergeRoom) (shelf : ℕ) (doing : Doing) → IsSorted v h old → IsOpen v old shelf
      → GoesOn v h shelf old new doing → Follows v h old new doing (shelf_left old shelf 4) (20 * shelf + 5)
  goes_on_follows old new shelf doing sorted opened on = by_due on.due on.is_due on.by
    where
      passed : (on.sweep.at ≡ old.sweep.at + (on.sweep.at - old.sweep.at)) × (on.sweep.shelf.blocks ≡ old.sweep.shelf.blocks)
      passed = passed_on v h old.logs shelf (on.sweep.at - old.sweep.at) old.sweep on.sweep on.passed

      at_on : old.sweep.at ≤ on.sweep.at
      at_on = let at = passed.0 in omega (arith, at)

      mid : MergeRoom
      mid = record old { sweep = on.sweep }

      mid_sorted : IsSorted v h mid
      mid_sorted = record { of = sorted.of; sorted = sorted.sorted; sweep = on.sweeping; filled = sorted.filled; marks = sorted.marks }

      mid_open : IsOpen v mid shelf
      mid_open = record {
        below = opened.below;
        read = opened.read;
        blocks = passed.1 ∙ opened.blocks;
        met = record {
          place = opened.met.place;
          noted = opened.met.noted;
          before = let before = opened.met.before in omega (arith, before, at_on);
          here = opened.met.here;
        };
      }

      with_new : (next : Doing) → new ≡ mid → doing ≡ next → Follows v h old mid next (shelf_left old shelf 4) (20 * shelf + 5)
          → Follows v h old new doing (shelf_left old shelf 4) (20 * shelf + 5)
      with_new next new_is doing_is follows =
          subst (λ (d : Doing). Follows v h old new d (shelf_left old shelf 4) (20 * shelf + 5)) (sym doing_is)
          (subst (λ (r : MergeRoom). Follows v h old r next (shelf_left old shelf 4) (20 * shelf + 5)) (sym new_is) follows)

      by_due : (due : Due) → IsDue v h old.logs shelf on.sweep due → IsByDue v h shelf mid new doing due
          → Follows v h old new doing (shelf_left old shelf 4) (20 * shelf + 5)
      by_due dues.Looks (seen, here, held) (new_is, noted, there, look, begins, doing_is) =
          let held_there = subst (IsHeld v h) (some_same seen noted (sym here.next ∙ there.next)) held in
          let inside = slice_get_within old.logs on.sweep.at noted there.next in
          let few_looks = begins.few in
          with_new (doings.Looks shelf look) new_is doing_is (record {
            stands = (
              merging.host,
              (
                merging,
                record {
                  sorted = mid_sorted;
                  opened = mid_open;
                  next = (
                    noted,
                    there,
                    (
                      held_there,
                      begins.host,
                      begins.file,
                      begins.index,
                      look_begins v h noted.entry.file look merging (entry_in old.logs on.sweep.at noted sorted.of there.next).0 held_there begins.host
                          begins.file begins.tables begins.stage,
                    ),
                  );
                },
              ),
            );
            agrees = λ pending n came. came;
            unasked = λ pending n came. came.noted.asks;
            fewer = omega (arith, at_on, inside, few_looks);
            on = omega arith;
          })
      by_due (dues.Posts slot) (seen, here, free, decided) (new_is, noted, there, range, plan, begins, doing_is) =
          let same = some_same seen noted (sym here.next ∙ there.next) in
          let free_there = subst (IsFree v h) same free in
          let inside = slice_get_within old.logs on.sweep.at noted there.next in
          let few_acts = begins.few in
          with_new (doings.Acts shelf plan) new_is doing_is (record {
            stands = (
              merging.host,
              record {
                sorted = mid_sorted;
                opened = mid_open;
                next = (
                  noted,
                  there,
                  record {
                    host = begins.host;
                    entry = begins.entry;
                    now = None;
                    decided = begins.action_is
                        ∙ subst (λ (x : Noted). actions.Post slot ≡ decision x.entry false None (with_digest x.entry.digest.0 on.sweep.shelf.entries)) same (sym decided)
                        ∙ ap (λ (b : Bool). decision noted.entry b None (with_digest noted.entry.digest.0 on.sweep.shelf.entries)) (sym free_there);
                    at = begun_at noted.entry (actions.Post slot) plan (entry_in old.logs on.sweep.at noted sorted.of there.next) range tt begins;
                  },
                );
              },
            );
            agrees = λ pending n came.
                subst (λ (a : Acting). MergeCame h v (acting.outcome_at a) pending (all_read v.locks.geometry mid) n) (sym begins.begins) came;
            unasked = λ pending n came. came.noted.asks;
            fewer = omega (arith, at_on, inside, few_acts);
            on = omega arith;
          })
      by_due dues.Ends ends after =
          let follows = after_follows v h c merging mid mid_sorted shelf (few_shelves v h c merging shelf opened.below) new doing 0 (omega arith) mid_open
          (λ noted here. ends noted here) after in
          let fewer = follows.fewer in
          let far = follows.on in
          record {
            stands = follows.stands;
            agrees = follows.agrees;
            unasked = follows.unasked;
            fewer = omega (arith, fewer, at_on);
            on = omega (arith, far);
          }

  -- an entry was handled
  pub finished_follows : (old new : MergeRoom) (shelf : ℕ) (done : Done) (doing : Doing) → IsSorted v h old → IsOpen v old shelf
      → IsFinished v h shelf done old new doing → Follows v h old new doing (entry_left old shelf 0 - 1) (20 * shelf + 5)
  finished_follows old new shelf done doing sorted opened is =
      let follows = goes_on_follows mid new shelf doing mid_sorted mid_open is.on in
      let fewer = follows.fewer in
      let at = is.at in record {
        stands = follows.stands;
        agrees = follows.agrees;
        unasked = follows.unasked;
        fewer = omega (arith, fewer, at);
        on = follows.on;
      }
    where
      mid : MergeRoom
      mid = record old { sweep = is.sweep }

      mid_sorted : IsSorted v h mid
      mid_sorted = record {
        of = sorted.of;
        sorted = sorted.sorted;
        sweep = record {
          geometry = is.gained.geometry ∙ sorted.sweep.geometry;
          done = let more = is.counts.more in let was = sorted.sweep.done in let at = is.at in omega (arith, more, was, at);
          within = let inside = slice_get_within old.logs old.sweep.at is.noted is.here in let at = is.at in omega (arith, inside, at);
        };
        filled = sorted.filled;
        marks = sorted.marks;
      }

      mid_open : IsOpen v mid shelf
      mid_open = record {
        below = opened.below;
        read = opened.read;
        blocks = is.gained.blocks ∙ opened.blocks;
        met = record {
          place = opened.met.place;
          noted = opened.met.noted;
          before = let before = opened.met.before in let at = is.at in omega (arith, before, at);
          here = opened.met.here;
        };
      }

  -- an entry of a held file was decided
  pub decided_follows : (old new : MergeRoom) (shelf : ℕ) (now : Option Digest) (doing : Doing) → IsSorted v h old → IsOpen v old shelf
      → IsNext v h old shelf (IsHeld v h) → IsDecided v h shelf now old new doing
      → Follows v h old new doing (entry_left old shelf 37) (20 * shelf + 5)
  decided_follows old new shelf now doing sorted opened (seen, here, held) is = by is.by
    where
      same : seen ≡ is.noted
      same = some_same seen is.noted (sym here.next ∙ is.here.next)

      held_there : IsHeld v h is.noted
      held_there = subst (IsHeld v h) same held

      by : (acting.Calls is.action × (new ≡ old) × (plan : ActPlan) × BeginsAct h is.noted.entry is.action plan × (doing ≡ doings.Acts shelf plan))
          ⊎ IsFinished v h shelf (uncalled is.action) old new doing
          → Follows v h old new doing (entry_left old shelf 37) (20 * shelf + 5)
      by (inl (calls, new_is, plan, begins, doing_is)) =
          let few_acts = begins.few in
          subst (λ (d : Doing). Follows v h old new d (entry_left old shelf 37) (20 * shelf + 5)) (sym doing_is)
          (subst (λ (r : MergeRoom). Follows v h old r (doings.Acts shelf plan) (entry_left old shelf 37) (20 * shelf + 5)) (sym new_is) (record {
            stands = (
              merging.host,
              record {
                sorted = sorted;
                opened = opened;
                next = (
                  is.noted,
                  is.here,
                  record {
                    host = begins.host;
                    entry = begins.entry;
                    now = now;
                    decided = begins.action_is ∙ is.decided
                        ∙ ap (λ (b : Bool). decision is.noted.entry b now (with_digest is.noted.entry.digest.0 old.sweep.shelf.entries)) (sym held_there);
                    at = begun_at is.noted.entry is.action plan (entry_in old.logs old.sweep.at is.noted sorted.of is.here.next)
                        (asks_for v h is.noted.entry is.action held_there is.range) calls begins;
                  },
                );
              },
            );
            agrees = λ pending n came.
                subst (λ (a : Acting). MergeCame h v (acting.outcome_at a) pending (all_read v.locks.geometry old) n) (sym begins.begins)
                (opens_with is.noted.entry is.action calls pending n came);
            unasked = λ pending n came. came.noted.asks;
            fewer = omega (arith, few_acts);
            on = omega arith;
          }))
        where
          opens_with : (e : LogEntry) (action : Action) → acting.Calls action → (pending : List LogEntry) (n : Notes)
              → MergeCame h v Open pending (all_read v.locks.geometry old) n
              → MergeCame h v (acting.outcome_at (begun h e action)) pending (all_read v.locks.geometry old) n
          opens_with e (actions.Share s) calls pending n came = came
          opens_with e (actions.Promote f i) calls pending n came = came
          opens_with e (actions.Post s) calls pending n came = came
          opens_with e action calls pending n came = absurd calls
      by (inr finished) =
          let follows = finished_follows old new shelf (uncalled is.action) doing sorted opened finished in
          let fewer = follows.fewer in
          record {
            stands = follows.stands;
            agrees = follows.agrees;
            unasked = follows.unasked;
            fewer = omega (arith, fewer);
            on = follows.on;
          }
