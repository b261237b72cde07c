-- The end of a `leave`: the own slot is freed, and the own key is taken off.
use Rattle.std.proofs.Common.{◌≡◌, ◌<◌, ◌==◌, ◌∙◌, ℕ, List, None, Option, Some, true, false, refl, ap, sym, subst, inl, inr, arith}
use Rattle.std.specs.Prelude.{Err, IfSome, Ok}
use Rattle.std.specs.List.{list_any}
use Rattle.std.proofs.lemmas.Bool.{cases_Bool}
use Rattle.vol_base.specs.declared.answer.Answer.TheVariants as answers
use Rattle.vol_base.specs.declared.block.Key.{Key}
use Rattle.vol_base.specs.declared.command.Command.TheVariants.{Leave}
use Rattle.vol_layout.specs.declared.geometry.Geometry.{Geometry}
use Rattle.vol_layout.specs.declared.kind.Kind.TheVariants as kinds
use Rattle.vol_layout.specs.declared.kind.Resource.{Resource}
use Rattle.vol_layout.specs.declared.kind.Resource.TheVariants.{File, Group, Part}
use Rattle.vol_layout.specs.Places.{place_of}
use Rattle.vol_layout.specs.Ranges.{HasResource}
use Rattle.shared_disk.specs.Events.{Done, Event, Fences, Refuses, Reply, Shows, event}
use Rattle.shared_disk.specs.Seen.{DiskSeen}
use Rattle.shared_disk.specs.State.{Told}
use Rattle.slot_lock_blocks.specs.declared.slot.Slot.TheVariants as slots
use Rattle.slot_lock_blocks.specs.Slots.{slot_bytes, slot_key}
use Rattle.image_view.specs.HostKeys.{IsHeldBy, slot_state_at}
use Rattle.image_view.specs.Images.{Image, block_at, written}
use Rattle.image_view.specs.laws.FrameLaws.{block_at-written}
use Rattle.lock_store.specs.declared.answers.Claim.TheVariants.{Claimed}
use Rattle.lock_store.specs.declared.answers.StepNo.{StepNo}
use Rattle.lock_store.specs.declared.answers.StepNo.TheVariants.{Bad}
use Rattle.lock_store.specs.declared.host.HostState.{HostState}
use Rattle.lock_store.specs.Calls.{AnyBlock, FencesKey}
use Rattle.lock_store.specs.Events.{Did}
use Rattle.lock_store.specs.Memories.{claim_of, dropped, holds, left}
use Rattle.lock_store.specs.SlotTries.{slot_by}
use Rattle.lock_store.specs.Views.{host_at, key_at, told_of}
use Rattle.disk_locks.specs.Calls.{ClearsSlot, FreesSlot, IsFreed, slot_of}
use Rattle.disk_locks.specs.Consistent.{Consistent}
use Rattle.disk_locks.specs.Freeing.{IsUnneeded, MayFreeSlot}
use Rattle.disk_locks.specs.Others as locks'
use Rattle.call_effects.specs.Changes.{Changes}
use Rattle.disk_locks.specs.Sure.{BothTold, Sure}
use Rattle.watch.specs.declared.watch.Look.{Look}
use Rattle.watch.specs.Looks.{nothing}
use Rattle.host_facts.specs.Facts.Fact.{Given}
use Rattle.host_facts.specs.Finds.{Finds}
use Rattle.host_facts.specs.FreedResults.{HasLeft}
use Rattle.host_facts.specs.Others.{Others}
use Rattle.host_facts.specs.Views.{WorldView}
use Rattle.host_facts.specs.laws.FindsLaws.{found, sure_found}
use Rattle.host_facts.specs.laws.FreedFacts.{left_law}
use Rattle.host_facts.specs.laws.ToldLaws.{both_with, both_written}
use Rattle.host_runs.specs.Notes.{Notes}
use Rattle.host_runs.specs.Tries.{Tries, tried}
use Rattle.host_notes.specs.Asked.{free_call}
use Rattle.host_notes.specs.FileTurns.{IsGiven, going_on}
use Rattle.host_notes.specs.Owes.{Owes, plan_moment}
use Rattle.host_notes.specs.Remembered.{IsRemembered, RemembersCall}
use Rattle.host_runs.specs.Memories.{Memory}
use Rattle.host_notes.specs.laws.SlotMemories.{remembered_free_found, remembered_free_own}
use Rattle.host_notes.specs.laws.SlotRights.{allowed_free_own}
use Rattle.host_notes.specs.laws.TryLaws.{BySwap, tried_slot, tried_slot_claimed, tried_slot_found}
use Rattle.plan_parts.specs.Cuts.{IsCut}
use Rattle.plan_parts.specs.QuietCalls.{Noted, QuietCall}
use Rattle.plan_parts.specs.Steps.{IsReady}
use Rattle.plan_parts.specs.declared.outcome.Outcome.TheVariants.{Open}
use Rattle.plan_parts.specs.laws.CutCallLaws.{cut_of}
use Rattle.plan_parts.specs.laws.QuietCallLaws.{full_more, noting, quiet_call, valid_now}
use Rattle.plan_parts.specs.laws.TakenLaws.{locks_else, none_held, others_locks}
use Rattle.recover_plan.specs.PlanSteps.{AreWatched, OpenNoted}
use Rattle.recover_plan.specs.Plans.{Came, PlanStands}
use Rattle.recover_plan.specs.declared.plan.Come.TheVariants.{More}
use Rattle.recover_plan.specs.declared.plan.Doing.TheVariants.{Fence, Unlock}
use Rattle.recover_plan.specs.laws.FreeLaws.{by_told, behind_told, free_state}
use Rattle.recover_plan.specs.laws.SlotEndings.{no_slot}
use Rattle.recover_plan.specs.laws.SlotOwes.{slot_goes_on}
use Rattle.recover_plan.specs.laws.StepLaws.{agrees_on, quiet_slot_turn, ready_key}
use Rattle.std.proofs.Common.{true≢false, []}
use Rattle.image_view.specs.HostKeys.{lock_key_at}
use Rattle.image_view.specs.Numbers.{journal}
use Rattle.host_facts.specs.laws.FoundLaws.{joined_found}
use Rattle.disk_locks.specs.Calls.{freeing}
use Rattle.host_runs.specs.Moments.{Moment}
use Rattle.host_facts.specs.SlotResults.{HasFenced}
use Rattle.host_facts.specs.laws.SlotFacts.{fenced_law}
use Rattle.host_runs.specs.DeviceCalls.{OnImage}
use Rattle.host_facts.specs.laws.ToldLaws.{map_told}
use Rattle.recover_plan.specs.SlotTurns.{SlotTurn}
use Rattle.recover_plan.specs.laws.StepLaws.{moment, slot_turn, turn_of}
use Rattle.host_notes.specs.laws.OtherRights.{allowed_fence}
use Rattle.recover_plan.specs.laws.SlotOwes.{owes_left}
use Rattle.host_notes.specs.CutTurns.{dropped_at}
use Rattle.host_notes.specs.laws.NotedLaws.{key_noted, no_hold_noted}
use Rattle.recover_plan.specs.laws.JoinFinds.{dropped_rests, others_dropped}
use Rattle.recover_plan.specs.laws.RegisterLaws.{nothing_watched}
use Rattle.recover_plan.specs.declared.plan.Come.TheVariants.{Answered}
use Rattle.recover_plan.specs.Joins.{IsDropped}
use Rattle.recover_plan.specs.PlanSteps.{RestsWith}
use Rattle.recover_plan.specs.Plans.{Agrees}
use Rattle.plan_parts.specs.Cuts.{IsCutBy}
use Rattle.host_runs.specs.CallRights.{MayFence}
use Rattle.vol_base.specs.declared.command.Command.{Command}
use Rattle.shared_disk.specs.Events.{Gives}
use Rattle.host_notes.specs.lemmas.Dropped.{no_hold}
use Rattle.std.specs.Prelude.{IfErr, Result}
use Rattle.recover_plan.specs.declared.plan.Come.{Come}
use Rattle.plan_parts.specs.laws.CutCallLaws.{cut_weaker}

-- a host that left holds nothing
left_holds : (m : HostState) (r : Resource) → holds (left m) r ≡ false
unfolding dropped
left_holds m r = no_hold r

module _ (v : WorldView) (h : ℕ) (c : Consistent v.locks) (ready : IsReady v h)
    (files : (f : ℕ) → f < v.locks.geometry.files → holds (host_at v.locks h) (File f) ≡ false) where
  -- a host that holds no file holds nothing
  pub own_none : (r : Resource) → HasResource v.locks.geometry r → holds (host_at v.locks h) r ≡ false
  own_none (File f) has = files f has
  own_none (Part p) has = none_held v h ready.taking (Part p) has tt
  own_none (Group q) has = none_held v h ready.taking (Group q) has tt

  pub own_unclaimed : claim_of (host_at v.locks h) h ≡ 0
  own_unclaimed = (c.memories h).own ready.joined

  pub own_may : MayFreeSlot v.locks.geometry h h (host_at v.locks h)
  own_may = inr (refl, ready.joined, own_none, own_unclaimed)

  own_unheld : (i : Image) (r : Resource) → Finds v.locks h i → HasResource v.locks.geometry r
      → IsHeldBy v.locks.geometry i r (key_at v.locks h) → ⊥
  unfolding lock_key_at
  own_unheld i r finds has held = true≢false (sym ((finds.agrees.agree h finds.some (kinds.Lock r) has).mine held.by) ∙ own_none r has)

  -- so nothing needs what its slot shows
  pub own_unneeded : Sure v.locks h (λ image. IsUnneeded v.locks.geometry image h)
  own_unneeded =
      sure_found v.locks h (λ (i : Image). journal v.locks.geometry i h ≡ []) (λ i. IsUnneeded v.locks.geometry i h) c
      (λ i finds empty. record {
        empty = empty;
        unheld = λ r has held. own_unheld i r finds has
            (subst (λ (k : ℕ). IsHeldBy v.locks.geometry i r k) (joined_found v.locks h i finds ready.joined) held);
      }) ready.empty.sure

-- the own slot was freed
module _ (v w : WorldView) (h : ℕ) (watch : List (Option Look)) (c : Consistent v.locks) (later : Consistent w.locks)
    (stands : PlanStands v h watch Unlock) (files : (f : ℕ) → f < v.locks.geometry.files → holds (host_at v.locks h) (File f) ≡ false)
    (others : locks'.Others h v.locks w.locks) (standing : w.standing ≡ v.standing) (done : Unit)
    (did : FreesSlot v.locks h h (Ok done) w.locks) (freed : IsFreed v.locks h h (Ok done) w.locks) where
  none : (r : Resource) → HasResource v.locks.geometry r → holds (host_at v.locks h) r ≡ false
  none = own_none v h c stands.at files

  unclaimed : claim_of (host_at v.locks h) h ≡ 0
  unclaimed = own_unclaimed v h c stands.at files

  has_left : HasLeft h v w
  has_left =
      subst (λ (x : WorldView). HasLeft h v x) (sym (locks_else v w standing)) (left_law v h w.locks c others unclaimed did freed)

  none_behind : (r : Resource) → HasResource w.locks.geometry r → holds (host_at w.locks h) r ≡ false
  none_behind r has = elim has_left.memory [
    | inl gone ↦ ap (λ (m : HostState). holds m r) gone ∙ left_holds (host_at v.locks h) r
    | inr same ↦
        ap (λ (m : HostState). holds m r) same.1 ∙ none r (subst (λ (g : Geometry). HasResource g r) has_left.passes.geometry has)
  ]

  is_left : freeing h (host_at v.locks h) ≡ left (host_at v.locks h)
  is_left = rw unclaimed refl

  freed_state : (old new : Image) → Finds v.locks h old → new ≡ written v.locks.geometry old (kinds.Slot h) (slot_bytes slots.Free)
      → slot_state_at w.locks.geometry new h ≡ 0
  freed_state old new finds is =
      let g = v.locks.geometry in
      subst (λ (x : Geometry). slot_state_at x new h ≡ 0) (sym has_left.passes.geometry)
      (free_state g new h (ap (λ (i : Image). block_at g i (kinds.Slot h)) is
      ∙ block_at-written g old (kinds.Slot h) (slot_bytes slots.Free) stands.host finds.agrees.valid.long))

  freed_sure : Sure w.locks h (λ image. ((host_at w.locks h).freed ≡ true) × (slot_state_at w.locks.geometry image h ≡ 0))
  freed_sure here =
      let place = place_of v.locks.geometry (kinds.Slot h) in
      by_told (told_of v.locks) (told_of w.locks) _ (ClearsSlot v.locks h h (Ok Claimed) w.locks) _ has_left.passes.images freed
      (λ cleared. behind_told (told_of v.locks) (told_of w.locks)
      (λ image. ((host_at w.locks h).freed ≡ true) × (slot_state_at w.locks.geometry image h ≡ 0))
      (both_with (told_of v.locks) (told_of w.locks) (λ i. Finds v.locks h i)
      (λ i j. j ≡ written v.locks.geometry i (kinds.Slot h) (slot_bytes slots.Free)) _
      (found v.locks h c cleared.acts.admitted)
      (both_written v.locks.disk.state w.locks.disk.state place (slot_bytes slots.Free) cleared.acts.changes.1)
      (λ i j finds is. (ap (λ (m : HostState). m.freed) (cleared.mine ∙ is_left), freed_state i j finds is))))

  free_watched : AreWatched w h watch
  free_watched y look below there =
      let was = stands.watched y look (subst (λ (g : Geometry). y < g.hosts) has_left.passes.geometry below) there in record {
        spelled = was.spelled;
        some = was.some;
        of_host = was.of_host;
        shown = has_left.facts (Given (slot_key look.slot)) tt was.shown;
        by = has_left.facts (Given (slot_by look.slot)) tt was.by;
      }

  fence_stands : PlanStands w h watch Fence
  fence_stands = record {
    host = subst (λ (g : Geometry). h < g.hosts) (sym has_left.passes.geometry) stands.host;
    at = record { key = λ zero. ready_key v h c stands.at (sym has_left.passes.key ∙ zero); none = none_behind; free = freed_sure };
    watched = free_watched;
  }

  -- a `leave` is shown no key by what it finds
  leave_tries : (reply : Reply) → IsGiven reply → (claims : List ℕ) (tries : Tries)
      → (tried v.locks.geometry h Leave claims (event (key_at v.locks h) (free_call v.locks h h) reply) tries).shown ≡ tries.shown
  leave_tries (Refuses cause) given claims tries = absurd given
  leave_tries Done given claims tries = ap (λ (t : Tries). t.shown)
      (tried_slot v.locks.geometry h Leave claims (key_at v.locks h) tries h
      (BySwap (slot_bytes (slot_of (host_at v.locks h) h)) (slot_bytes slots.Free)) stands.host)
  leave_tries (Shows block) given claims tries = elim (cases_Bool (list_any (λ claimed. claimed == h) claims)) [
    | inl has ↦ ap (λ (t : Tries). t.shown)
        (tried_slot_claimed v.locks.geometry h Leave claims (key_at v.locks h) tries h (slot_bytes (slot_of (host_at v.locks h) h))
        (slot_bytes slots.Free) block stands.host has)
    | inr out ↦ ap (λ (t : Tries). t.shown)
        (tried_slot_found v.locks.geometry h Leave claims (key_at v.locks h) tries h (slot_bytes (slot_of (host_at v.locks h) h))
        (slot_bytes slots.Free) block stands.host out)
  ]
  leave_tries (Gives key) given claims tries = refl

  abbrev freeing_event : Reply → Event
  freeing_event reply = event (key_at v.locks h) (free_call v.locks h h) reply

  free_quiet : (reply : Reply) (m : HostState) → Did v.locks h (free_call v.locks h h) reply m w.locks → IsGiven reply
      → ((memory : Memory) → IsRemembered v.locks.geometry memory (host_at v.locks h)
      → RemembersCall v.locks h memory (free_call v.locks h h) reply w.locks)
      → QuietCall Leave h v w (freeing_event reply) (Noted Leave h v Open) (Noted Leave h w Open)
  free_quiet reply m made given remembers =
      quiet_call Leave v w h (free_call v.locks h h) reply m _ _ made given (others_locks v w h c others standing) (valid_now w later)
      has_left.passes.files (λ t turn of before. allowed_free_own v.locks h t turn c reply stands.host)
      (noting Leave v w h (free_call v.locks h h) reply Open Open made.geometry refl remembers
      (λ claims tries is. leave_tries reply given claims tries ∙ is)
      (full_more v.locks.geometry Leave Open (record { event = freeing_event reply; before = v.locks.disk.state }) (λ f i n is. absurd cc)))

  came : (reply : Reply) → QuietCall Leave h v w (freeing_event reply) (Noted Leave h v Open) (Noted Leave h w Open)
      → Came h v w watch watch Unlock (More Fence)
  came reply quiet = record {
    owes = record {
      made = Some (freeing_event reply);
      called = refl;
      others = others_locks v w h c others standing;
      quiet = λ n noted. noted.noted.wants;
      owes = λ n noted.
          let m = plan_moment v.locks.geometry h Leave v.locks.disk w.locks.disk (Some (freeing_event reply)) None n in (
            going_on m,
            slot_goes_on v.locks.geometry h v.locks.disk w.locks.disk (Some (freeing_event reply)) n Leave
                (quiet_slot_turn Leave v w h (freeing_event reply) n (Noted Leave h v Open) (Noted Leave h w Open) tt noted.noted.remembered
                (ready_key v h c stands.at) noted.noted.placed_is noted.noted quiet)
                quiet.answered refl (no_slot m None (inl refl)) (λ own is fenced. let call = fenced.0 in cc),
            agrees_on (OpenNoted Leave h w watch) v.locks.geometry h Leave v.locks.disk w.locks.disk (freeing_event reply) n noted.noted.asks
                (record { noted = quiet.noted n noted.noted; watch_is = noted.watch_is }),
          );
    };
    stands = (fence_stands, refl);
    tables = λ keeps uncut. absurd keeps;
    volume = λ leaves uncut. has_left.passes.images;
    fewer = omega arith;
  }

  pub own_freed_came : Came h v w watch watch Unlock (More Fence)
  own_freed_came = elim did [
    | inl cleared ↦ came Done (free_quiet Done _ cleared tt
        (λ memory is. remembered_free_own v.locks w.locks h memory is c stands.host stands.at.joined none cleared))
    | inr other ↦ came (Shows (slot_bytes other.0)) (free_quiet (Shows (slot_bytes other.0)) _ other.1.0 tt
        (λ memory is. remembered_free_found v.locks w.locks h memory is h other.0 other.1))
  ]

-- it was refused
pub own_freed_cut : (v w : WorldView) (h : ℕ) (why : StepNo) → Consistent v.locks → h < v.locks.geometry.hosts → Others h v w
    → FreesSlot v.locks h h (Err why) w.locks → ((at : ℕ) → why ≡ Bad at → told_of v.locks ≡ None) → IsCut h v w why
own_freed_cut v w h why c below others refused sound command =
    cut_of command v w h (free_call v.locks h h) (place_of v.locks.geometry (kinds.Slot h)) refl others _
    (λ reply t turn of before. allowed_free_own v.locks h t turn c reply below) _ why refused sound

-- the own key is off, and the host is dropped
module _ (v u w : WorldView) (h : ℕ) (watch : List (Option Look)) (own : Key) (c : Consistent v.locks) (later : Consistent u.locks)
    (stands : PlanStands v h watch Fence) (is : own.0 ≡ key_at v.locks h) (others : Others h v u) (standing : u.standing ≡ v.standing)
    (done : Unit) (did : FencesKey v.locks h own (Ok done) u.locks) (gone : IsDropped h u w) where
  abbrev fenced : Event
  fenced = event (key_at v.locks h) (Fences own.0) Done

  abbrev at_fence : Notes → Moment
  at_fence n = plan_moment v.locks.geometry h Leave v.locks.disk w.locks.disk (Some fenced) None n

  has_fenced : HasFenced h own.0 v u
  has_fenced =
      subst (λ (x : WorldView). HasFenced h own.0 v x) (sym (locks_else v u standing)) (fenced_law v h u.locks c others.locks own did)

  slot_gone : OnImage w.locks.disk.state (λ image. slot_state_at v.locks.geometry image h ≡ 0)
  slot_gone =
      subst (λ (d : DiskSeen). OnImage d.state (λ image. slot_state_at v.locks.geometry image h ≡ 0)) (sym gone.notes.disk)
      (subst (λ (o : Option Told). IfSome o (λ t. slot_state_at v.locks.geometry t.image h ≡ 0)) (sym has_fenced.told)
      (map_told (told_of v.locks) _ _ (stands.at.free did.acts.admitted) (λ t both. both.1)))

  fence_turn : (n : Notes) → OpenNoted Leave h v watch n
      → SlotTurn v.locks.geometry h Leave v.locks.disk w.locks.disk (Some fenced) n
  fence_turn n noted =
      let turn = turn_of Leave v u h (Fences own.0) Done n tt noted.noted.remembered stands.at.key in
      subst (λ (d : DiskSeen). SlotTurn v.locks.geometry h Leave v.locks.disk d (Some fenced) n) (sym gone.notes.disk)
      (slot_turn Leave v u h (Fences own.0) Done n (host_at v.locks h) tt noted.noted.placed_is did (λ e. cc) has_fenced.passes.files
      (valid_now u later) (allowed_fence v.locks h (moment Leave v u h (Fences own.0) Done n) turn own.0 Done is))

  fence_owed : (n : Notes) → OpenNoted Leave h v watch n
      → (rest : Notes) × Owes v.locks.geometry h Leave v.locks.disk w.locks.disk (Some fenced) None (Some answers.Fine) n rest
      × RestsWith h w nothing rest
  fence_owed n noted = (
    dropped_at (at_fence n),
    owes_left v.locks.geometry h v.locks.disk w.locks.disk (Some fenced) n own.0 (fence_turn n noted) tt
        (key_noted v.locks.geometry n.memory (host_at v.locks h) noted.noted.remembered stands.at.key ∙ ap (λ (x : ℕ). Some x) (sym is))
        (refl, refl) noted.noted.shown_is
        (record {
          holds = no_hold_noted v.locks.geometry n.memory (host_at v.locks h) noted.noted.remembered stands.at.none;
          slot = slot_gone;
        }),
    dropped_rests w h (at_fence n) gone.notes.mine,
  )

  pub fence_came : Came h v w watch nothing Fence (Answered answers.Fine)
  fence_came = record {
    owes = record {
      made = Some fenced;
      called = refl;
      others = others_dropped v u w h c later others gone;
      quiet = λ n noted. noted.noted.wants;
      owes = fence_owed;
    };
    stands = nothing_watched w h;
    tables = λ keeps uncut. absurd keeps;
    volume = λ leaves uncut. subst (λ (d : DiskSeen). BothTold (told_of v.locks) d.state.told (Changes v.locks.geometry [] None)) (sym gone.notes.disk)
        has_fenced.passes.images;
    fewer = omega arith;
  }

-- it was refused
pub own_fence_cut : (v w : WorldView) (h : ℕ) (watch : List (Option Look)) (own : Key) (why : StepNo) → own.0 ≡ key_at v.locks h
    → Others h v w → FencesKey v.locks h own (Err why) w.locks
    → IsCutBy Leave h v w why (Agrees h v watch Fence)
own_fence_cut v w h watch own why is others refused =
    cut_of Leave v w h (Fences own.0) 0 tt others _
    (λ reply m turn of before. allowed_fence v.locks h m turn own.0 reply
    (subst (λ (command : Command). MayFence command h (key_at v.locks h) own.0 m.old.watch) (sym of) is))
    AnyBlock why refused (never why refused)
  where
    never : (why : StepNo) → FencesKey v.locks h own (Err why) w.locks → (at : ℕ) → why ≡ Bad at → told_of v.locks ≡ None
    never (Bad there) refused at bad = absurd refused.1.1.acts.changes
    never other refused at bad = absurd cc

-- a `leave` is cut by what cuts any command
pub unlocks_cut : (v w : WorldView) (h : ℕ) (result : Result Come StepNo) (Before : Notes → Type 0) → IfErr result (IsCut h v w)
    → IfErr result (λ why. IsCutBy Leave h v w why Before)
unlocks_cut v w h (Ok come) Before cut = tt
unlocks_cut v w h (Err why) Before cut = cut_weaker Leave v w h why Before (cut Leave)
