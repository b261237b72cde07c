-- The answers `up`, `down`, and that of a `die`, are turns of their host.
use Rattle.std.proofs.Common.{◌≡◌, ◌≢◌, ◌⊎◌, inl, inr, ℕ, suc, zero, Bool, true, false, [], Option, Some, None, is_some, if◌then◌else◌, refl, ap, sym, subst, ◌∙◌, arith}
use Rattle.vol_base.specs.declared.answer.Answer.{Answer}
use Rattle.vol_base.specs.declared.answer.Answer.TheVariants as answers
use Rattle.vol_base.specs.declared.command.Command.{Command}
use Rattle.vol_base.specs.declared.command.Command.TheVariants as commands
use Rattle.vol_layout.specs.declared.geometry.Geometry.{Geometry}
use Rattle.shared_disk.specs.Seen.{DiskSeen}
use Rattle.disk_locks.specs.Consistent.{Consistent}
use Rattle.held_cache.specs.Kept.{Cache}
use Rattle.histories.specs.Joined.{death_after}
use Rattle.host_facts.specs.Views.{WorldView}
use Rattle.host_runs.specs.Awaited.{first_block, wanted}
use Rattle.host_runs.specs.Memories.{AreFileLocks, drops, memory_after, no_memory}
use Rattle.host_runs.specs.Notes.{Notes, at_rest}
use Rattle.host_runs.specs.Rests.{IsAtRest, dying_after}
use Rattle.lock_store.specs.Memories.{dropped}
use Rattle.lock_store.specs.Views.{host_at}
use Rattle.plan_parts.specs.Steps.{IsReady}
use Rattle.plan_parts.specs.laws.QuietCallLaws.{valid_now}
use Rattle.recover_plan.specs.laws.JoinFinds.{dropped_rests, others_dropped}
use Rattle.plan_parts.specs.laws.NoCallLaws.{others_same}
use Rattle.file_plans.specs.Went.{LeavesOthers}
use Rattle.host_facts.specs.Others.{Others}
use Rattle.recover_plan.specs.laws.StepLaws.{ready_rests}
use Rattle.cluster.specs.declared.carried.Carried.{Carried}
use Rattle.watch.specs.Looks.{nothing}
use Rattle.cluster.specs.Dropping.{IsAnsweredAtOnce, IsDroppedIn}
use Rattle.host_runs.specs.lemmas.OrderlyPlaced.{some_same}
use Rattle.cluster.specs.HostTurns.{IsHostTurn, turn_moment}
use Rattle.cluster.specs.Plans.{IsResting, RestsWith}
use Rattle.cluster.specs.Seats.{IsKnown, IsLeft, MakesTurn, PlanNotedOf, at_once, joined_of}
use Rattle.cluster.specs.laws.FreshLaws.{fresh_noted, fresh_rests}
use Rattle.cluster.specs.declared.plan.Plan.{Plan}
use Rattle.cluster.specs.declared.seat.Seat.{Seat}
use Rattle.cluster.specs.laws.AtOnceTurns.{IsAtOnce, at_once_turn, dropped_locks}
use Rattle.cluster.specs.laws.SlotSteps.{nothing_cached}

-- a host between two commands holds locks of files alone, and has not left its slot
resting_locks : (v : WorldView) (h : ℕ) (n : Notes) (carried : Carried) → Consistent v.locks → RestsWith h v carried n
    → AreFileLocks v.locks.geometry n.memory.holds × (n.memory.left ≡ false)
resting_locks v h n carried c rests = cases rests.rests.rests
  where
    cases : IsReady v h ⊎ (host_at v.locks h ≡ dropped) → AreFileLocks v.locks.geometry n.memory.holds × (n.memory.left ≡ false)
    cases (inl ready) = ready_rests v h v.locks.geometry n.memory c refl ready rests.rests.remembered
    cases (inr gone) = dropped_locks v.locks.geometry n.memory (host_at v.locks h) gone rests.rests.remembered

-- a host without a key has no memory
nothing_held : (g : Geometry) → AreFileLocks g no_memory.holds
nothing_held g place has = absurd (omega (arith, has.1))

-- the notes behind the answer of a command that changed nothing but the death
abbrev rested : Command → Answer → Notes → Notes
rested command answer n = at_rest (memory_after answer command n.memory) (dying_after answer command n.dying)
    (if drops answer command then [] else n.pending) (if drops answer command then nothing else n.watch)

module _ (v : WorldView) (c : Cache) (h : ℕ) (carried : Carried) (consistent : Consistent v.locks) where
  abbrev joined : Bool
  joined = is_some (host_at v.locks h).key

  abbrev g : Geometry
  g = v.locks.geometry

  waits : (command : Command) (n : Notes) → first_block g command ≡ None → RestsWith h v carried n
      → wanted g command n.calls n.digests n.asks ≡ None
  waits command n none rests = ap (λ (m : Notes). wanted g command m.calls m.digests m.asks) rests.rests.between ∙ none

  -- the memory behind an answer by which the host is not dropped, and behind one by which it is
  memory_locks : (command : Command) (answer : Answer) (n : Notes) → RestsWith h v carried n
      → AreFileLocks g (memory_after answer command n.memory).holds × ((memory_after answer command n.memory).left ≡ false)
  memory_locks command answer n rests = cases (drops answer command)
    where
      cases : (b : Bool) → AreFileLocks g (if b then no_memory else n.memory).holds × ((if b then no_memory else n.memory).left ≡ false)
      cases true = (nothing_held g, refl)
      cases false = resting_locks v h n carried consistent rests

  -- `up`
  up_is : (n : Notes) → joined ≡ true → RestsWith h v carried n
      → IsAtOnce g h joined commands.Join v.locks.disk n (rested commands.Join answers.Up n) answers.Up
  up_is n here rests = record {
    between = rests.rests.between;
    quiet = λ is. waits commands.Join n refl rests;
    valid = valid_now v consistent;
    own = tt;
    plain = λ reply is. cc;
    cause = (refl, here);
    up = λ is now. refl;
    down = λ other out. absurd (other refl);
    scribbles = λ place k seen is now. let no = is in cc;
    recovers = λ of is now. let no = is in cc;
    logs = λ is now. let no = is in cc;
    some_logs = consistent.geometry.logs.0;
    leaves = λ is fine. cc;
    locks = (memory_locks commands.Join answers.Up n rests).0;
    stays = (memory_locks commands.Join answers.Up n rests).1;
    noted = record { pending = refl; watch = refl; rest = refl };
  }

  -- the `ok` of a `die`
  die_is : (calls : ℕ) (n : Notes) → joined ≡ true → RestsWith h v carried n
      → IsAtOnce g h joined (commands.Die calls) v.locks.disk n (rested (commands.Die calls) answers.Fine n) answers.Fine
  die_is calls n here rests = record {
    between = rests.rests.between;
    quiet = λ is. waits (commands.Die calls) n refl rests;
    valid = valid_now v consistent;
    own = tt;
    plain = λ reply is. cc;
    cause = refl;
    up = λ is now. let no = is in absurd cc;
    down = λ other out. let both : true ≡ false = sym here ∙ out in absurd cc;
    scribbles = λ place k seen is now. let no = is in cc;
    recovers = λ of is now. let no = is in cc;
    logs = λ is now. let no = is in cc;
    some_logs = consistent.geometry.logs.0;
    leaves = λ is fine. let no = is in cc;
    locks = (memory_locks (commands.Die calls) answers.Fine n rests).0;
    stays = (memory_locks (commands.Die calls) answers.Fine n rests).1;
    noted = noted calls;
  }
    where
      noted : (calls : ℕ) → IsAtRest (turn_moment g h joined (commands.Die calls) v.locks.disk v.locks.disk None None n) answers.Fine
          (rested (commands.Die calls) answers.Fine n)
      noted zero = record { pending = refl; watch = refl; rest = refl }
      noted (suc calls) = record { pending = refl; watch = refl; rest = refl }

  -- `down`: of each command that is known, but a `join`
  down_drops : (command : Command) → drops answers.Down command ≡ false
  down_drops command = refl

  out_locks : (command : Command) (n : Notes) → RestsWith h v carried n → AreFileLocks g n.memory.holds × (n.memory.left ≡ false)
  out_locks command n rests = resting_locks v h n carried consistent rests

  down_is : (command : Command) (n : Notes) → IsKnown h command → command ≢ commands.Join → joined ≡ false → RestsWith h v carried n
      → IsAtOnce g h joined command v.locks.disk n (at_rest n.memory n.dying n.pending n.watch) answers.Down
  down_is command n known other out rests = record {
    between = rests.rests.between;
    quiet = λ is. let both : true ≡ false = sym is ∙ out in absurd cc;
    valid = valid_now v consistent;
    own = other;
    plain = λ reply is. cc;
    cause = (refl, out);
    up = λ join now. absurd (other join);
    down = λ apart none. refl;
    scribbles = λ place k seen is now. let both : true ≡ false = sym now ∙ out in cc;
    recovers = λ of is now. let both : true ≡ false = sym now ∙ out in cc;
    logs = λ is now. let both : true ≡ false = sym now ∙ out in cc;
    some_logs = consistent.geometry.logs.0;
    leaves = λ is fine. cc;
    locks = (out_locks command n rests).0;
    stays = (out_locks command n rests).1;
    noted = record { pending = refl; watch = refl; rest = refl };
  }

-- the seat behind such an answer
module _ (command : Command) (h : ℕ) (v : WorldView) (c : Cache) (consistent : Consistent v.locks) (known : IsKnown h command) (old : Seat)
    (empty : old.plan ≡ None) (resting : IsResting v c h old.carried) where
  abbrev key_is : Bool
  key_is = is_some (host_at v.locks h).key

  joined_now : joined_of v h command old.plan ≡ key_is
  joined_now = ap (λ (p : Option Plan). joined_of v h command p) empty

  rests_now : (n : Notes) → PlanNotedOf command v h old.carried old.plan n → RestsWith h v old.carried n
  rests_now n noted = subst (λ (p : Option Plan). PlanNotedOf command v h old.carried p n) empty noted

  turn_as : (death : Option ℕ) (answer : Answer) (n later : Notes) → IsAtOnce v.locks.geometry h key_is command v.locks.disk n later answer
      → IsHostTurn v.locks.geometry h (joined_of v h command old.plan) death command v.locks.disk v.locks.disk None None (Some answer) n later
  turn_as death answer n later is =
      subst (λ (b : Bool). IsHostTurn v.locks.geometry h b death command v.locks.disk v.locks.disk None None (Some answer) n later) (sym joined_now)
      (at_once_turn v.locks.geometry h key_is command v.locks.disk n later answer is death)

  -- nothing changes but the notes, which rest as before
  same_rests : (n : Notes) → RestsWith h v old.carried n → (at_rest n.memory n.dying n.pending n.watch) ≡ n
  same_rests n rests = sym rests.rests.between

  -- an answer that leaves the seat as it is
  unmoved : (w : WorldView) (d : Cache) (new : Seat) (answer : Answer) → w ≡ v → d ≡ c → new ≡ old
      → ((death : Option ℕ) → death_after command answer death ≡ death)
      → ((n : Notes) → RestsWith h v old.carried n
      → IsAtOnce v.locks.geometry h key_is command v.locks.disk n (at_rest n.memory n.dying n.pending n.watch) answer)
      → MakesTurn command h v w d old new (record { placed = None; ended = Some answer })
  unmoved w d new answer world cache seat death_same is =
      rw (world, cache, seat) (record {
        made = None;
        stands = rw empty resting;
        plan = ap is_some empty;
        goes = λ none. absurd cc;
        turn = λ death n noted left.
            let rests = rests_now n noted in (
              at_rest n.memory n.dying n.pending n.watch,
              turn_as death answer n (at_rest n.memory n.dying n.pending n.watch) (is n rests),
              subst (λ (m : Notes). PlanNotedOf command v h old.carried old.plan m) (rests.rests.between) noted,
              subst (λ (o : Option ℕ). IsLeft o n.dying old.left) (sym (death_same death)) left,
            );
      })

  -- a `die` that comes later
  dies_later : (calls : ℕ) (w : WorldView) (d : Cache) (new : Seat) → command ≡ commands.Die (suc calls) → key_is ≡ true → w ≡ v → d ≡ c
      → new ≡ record old { left = Some (suc calls) }
      → MakesTurn command h v w d old new (record { placed = None; ended = Some answers.Fine })
  dies_later calls w d new is here world cache seat =
      rw (world, cache, seat) (record {
        made = None;
        stands = rw empty resting;
        plan = ap is_some empty;
        goes = λ none. absurd cc;
        turn = λ death n noted left.
            let rests = rests_now n noted in
            let later : Notes = rested (commands.Die (suc calls)) answers.Fine n in (
              later,
              turn_as death answers.Fine n later
                  (subst (λ (k : Command). IsAtOnce v.locks.geometry h key_is k v.locks.disk n later answers.Fine) (sym is)
                  (die_is v c h old.carried consistent (suc calls) n here rests)),
              rw empty (record {
                rests = record { remembered = rests.rests.remembered; rests = rests.rests.rests; between = refl };
                watch_is = rests.watch_is;
                pending_is = rests.pending_is;
              }),
              subst (λ (k : Command). IsLeft (death_after k answers.Fine death) 0 (Some (suc calls))) (sym is)
                  (suc calls, refl, omega arith, omega arith),
            );
      })

  -- a `die` at once
  dies_now : (w : WorldView) (d : Cache) (new : Seat) → command ≡ commands.Die zero → key_is ≡ true → IsDroppedIn h v w c d new
      → MakesTurn command h v w d old new (record { placed = None; ended = Some answers.Fine })
  dies_now w d new is here dropped =
      let plan_is = dropped.first.plan in
      record {
        made = None;
        stands = rw plan_is (fresh_rests v.locks.geometry w d h new.carried dropped.first.carried (sym dropped.world.notes.geometry)
            (nothing_cached w c d h (resting.cached.volume ∙ sym dropped.world.notes.geometry) dropped.cache));
        plan = ap is_some plan_is;
        goes = λ none. absurd cc;
        turn = λ death n noted left.
            let rests = rests_now n noted in
            let later : Notes = rested (commands.Die zero) answers.Fine n in (
              later,
              subst (λ (disk : DiskSeen). IsHostTurn v.locks.geometry h (joined_of v h command old.plan) death command v.locks.disk disk None None
                  (Some answers.Fine) n later) (sym dropped.world.notes.disk)
                  (turn_as death answers.Fine n later
                  (subst (λ (k : Command). IsAtOnce v.locks.geometry h key_is k v.locks.disk n later answers.Fine) (sym is)
                  (die_is v c h old.carried consistent zero n here rests))),
              rw plan_is (
                  let there = dropped_rests w h (turn_moment v.locks.geometry h key_is command v.locks.disk v.locks.disk None None n)
                  dropped.world.notes.mine in fresh_noted v.locks.geometry w h new.carried dropped.first.carried later there.rests there.watch_is refl
                  ),
              subst (λ (k : Command). IsLeft (death_after k answers.Fine death) n.dying new.left) (sym is) dropped.first.left,
            );
      }

-- each answer that comes without a plan
module _ (h : ℕ) (v : WorldView) (c : Cache) (consistent : Consistent v.locks) (old : Seat) (empty : old.plan ≡ None)
    (resting : IsResting v c h old.carried) (w : WorldView) (d : Cache) (new : Seat) where
  abbrev Made : Command → Answer → Type 0
  Made command answer = MakesTurn command h v w d old new (record { placed = None; ended = Some answer })

  given_as : (command : Command) (answer given : Answer) → Some given ≡ Some answer
      → (IsAnsweredAtOnce h command given v w c d old new → Made command given)
      → IsAnsweredAtOnce h command answer v w c d old new → Made command answer
  given_as command answer given is makes =
      subst (λ (a : Answer). IsAnsweredAtOnce h command a v w c d old new → Made command a) (some_same given answer is) makes

  down : (command : Command) → IsKnown h command → command ≢ commands.Join
      → is_some (host_at v.locks h).key ≡ false → (w ≡ v) × (d ≡ c) × (new ≡ old) → Made command answers.Down
  down command known other out same =
      unmoved command h v c consistent known old empty resting w d new answers.Down same.0 same.1 same.2 (λ death. refl)
      (λ n rests. down_is v c h old.carried consistent command n known other out rests)

  pub answered : (command : Command) (answer : Answer) (b : Bool) → IsKnown h command
      → is_some (host_at v.locks h).key ≡ b → at_once command b ≡ Some answer → IsAnsweredAtOnce h command answer v w c d old new
      → Made command answer
  answered commands.Join answer true known is given =
      given_as commands.Join answer answers.Up given (λ same.
      unmoved commands.Join h v c consistent known old empty resting w d new answers.Up same.0 same.1 same.2 (λ death. refl)
      (λ n rests. up_is v c h old.carried consistent n is rests))
  answered commands.Join answer false known is given = absurd cc
  answered (commands.Die zero) answer true known is given =
      given_as (commands.Die zero) answer answers.Fine given
      (λ dropped. dies_now (commands.Die zero) h v c consistent known old empty resting w d new refl is dropped)
  answered (commands.Die (suc calls)) answer true known is given =
      given_as (commands.Die (suc calls)) answer answers.Fine given
      (λ same. dies_later (commands.Die (suc calls)) h v c consistent known old empty resting calls w d new refl is same.0 same.1 same.2)
  answered (commands.Die zero) answer false known is given =
      given_as (commands.Die zero) answer answers.Down given (down (commands.Die zero) known (λ join. cc) is)
  answered (commands.Die (suc calls)) answer false known is given =
      given_as (commands.Die (suc calls)) answer answers.Down given (down (commands.Die (suc calls)) known (λ join. cc) is)
  answered command answer true known is given = absurd cc
  answered command answer false known is given =
      given_as command answer answers.Down given (down command known (λ join. cc) is)

-- what such an answer leaves to others
module _ (h : ℕ) (v w : WorldView) (c d : Cache) (old new : Seat) (consistent : Consistent v.locks) where
  same_others : w ≡ v → Others h v w
  same_others same = subst (λ (x : WorldView). Others h v x) (sym same) (others_same v h)

  same_leaves : d ≡ c → LeavesOthers h c d
  same_leaves same = subst (λ (k : Cache). LeavesOthers h c k) (sym same) (record { volume = refl; others = λ x t can other. refl })

  pub answered_others : (command : Command) (answer : Answer) → IsAnsweredAtOnce h command answer v w c d old new → Others h v w
  answered_others (commands.Die zero) answers.Fine dropped = others_dropped v v w h consistent consistent (others_same v h) dropped.world
  answered_others (commands.Die (suc calls)) answers.Fine same = same_others same.0
  answered_others command answer same = same_others same.0

  pub answered_leaves : (command : Command) (answer : Answer) → IsAnsweredAtOnce h command answer v w c d old new → LeavesOthers h c d
  answered_leaves (commands.Die zero) answers.Fine dropped =
      record { volume = dropped.cache.volume; others = λ x t can other. dropped.cache.others x t can other }
  answered_leaves (commands.Die (suc calls)) answers.Fine same = same_leaves same.1
  answered_leaves command answer same = same_leaves same.1
