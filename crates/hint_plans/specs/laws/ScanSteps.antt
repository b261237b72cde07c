-- The steps of a `scan`.
use Rattle.std.proofs.Common.{◌≡◌, ◌≢◌, ◌++◌, ◌∷◌, ◌<◌, ◌∙◌, ℕ, suc, zero, Bool, List, [], None, Option, Some, true, false, ap, arith, length, refl, subst, sym, inl}
use Rattle.std.specs.Prelude.{Contains, fold, nat_lt, zip, if◌then◌else◌}
use Rattle.std.specs.Option.{option_or}
use Rattle.std.proofs.lemmas.Bool.{ltb-false, ltb-true}
use Rattle.vol_base.specs.declared.answer.Answer.TheVariants as answers
use Rattle.vol_base.specs.declared.answer.Next.TheVariants as nexts
use Rattle.vol_base.specs.declared.block.Block.{Block}
use Rattle.vol_base.specs.declared.block.Digest.{Digest}
use Rattle.vol_base.specs.declared.block.Key.{Key}
use Rattle.vol_base.specs.declared.command.Command.TheVariants as commands
use Rattle.vol_base.specs.declared.plain.PlainReply.{PlainReply}
use Rattle.vol_layout.specs.declared.geometry.Geometry.{Geometry}
use Rattle.vol_layout.specs.declared.kind.Resource.{Resource}
use Rattle.vol_layout.specs.declared.kind.Resource.TheVariants.{File, Group, Part}
use Rattle.vol_layout.specs.Ranges.{HasResource}
use Rattle.shared_disk.specs.Events.{Event}
use Rattle.shared_disk.specs.State.{State}
use Rattle.hint_blocks.specs.declared.entry.LogEntry.{LogEntry}
use Rattle.hint_blocks.specs.HintLists.{HintList}
use Rattle.lock_store.specs.declared.host.HostState.{HostState}
use Rattle.lock_store.specs.Memories.{key_of}
use Rattle.lock_store.specs.Views.{host_at, key_at, keys_of}
use Rattle.disk_locks.specs.Calls.{IsShared}
use Rattle.disk_locks.specs.Consistent.{Consistent}
use Rattle.host_facts.specs.Facts.Fact.{RecordIs, TableIs}
use Rattle.host_facts.specs.Looks.{Looks}
use Rattle.host_facts.specs.Others.{Others}
use Rattle.host_facts.specs.Relocks.{Relocks}
use Rattle.host_facts.specs.Views.{WorldView}
use Rattle.host_facts.specs.laws.ToldLaws.{map_told}
use Rattle.host_notes.specs.FileTurns.{FileTurn, IsResting, asking, at_answer}
use Rattle.host_notes.specs.Owes.{plan_moment}
use Rattle.host_notes.specs.Remembered.{IsRemembered}
use Rattle.host_notes.specs.laws.OwesLaws.{owes_asks, owes_busy, owes_scanned}
use Rattle.host_runs.specs.Awaited.{MayAskFor}
use Rattle.host_runs.specs.DeviceCalls.{OnImage}
use Rattle.host_runs.specs.HintCauses.{mapped_from}
use Rattle.host_runs.specs.Moments.{Moment}
use Rattle.host_runs.specs.Notes.{NotedCall, Notes, with_call, with_place}
use Rattle.host_runs.specs.Rests.{hint_pushed}
use Rattle.plan_parts.specs.Holds.{IsWriteTaking, NotedWrite, TakesWrite, calls_left}
use Rattle.plan_parts.specs.QuietCalls.{Noted, QuietCall}
use Rattle.plan_parts.specs.Steps.{IsReady, OwesStep}
use Rattle.plan_parts.specs.declared.outcome.Outcome.TheVariants as outcomes
use Rattle.plan_parts.specs.declared.take_write.TakeWrite.{TakeWrite}
use Rattle.plan_parts.specs.declared.take_write.TakeWrite.TheVariants as writes
use Rattle.plan_parts.specs.declared.taking.Taking.{Taking}
use Rattle.plan_parts.specs.declared.taking.Taking.TheVariants as taking
use Rattle.plan_parts.specs.laws.StepLaws.{ready_rests}
use Rattle.plan_parts.specs.laws.TurnLaws.{quiet_turn}
use Rattle.hint_plans.specs.Nexts.{behind_hold}
use Rattle.hint_plans.specs.Plans.{Agrees, Came, HasCome, HasSeen, IsHost, OpenNoted, PlanStands, RestsWith, called_step}
use Rattle.hint_plans.specs.Scans.{IsLooked, IsScan, behind_found, behind_scan, indexes}
use Rattle.hint_plans.specs.declared.found.Mapped.{Mapped}
use Rattle.hint_plans.specs.declared.plan.Come.TheVariants.{Answered, More}
use Rattle.hint_plans.specs.declared.plan.Doing.{Doing}
use Rattle.hint_plans.specs.declared.plan.Doing.TheVariants as doings
use Rattle.hint_plans.specs.declared.scan.Scan.{Scan}
use Rattle.hint_plans.specs.laws.HostLaws.{host_on, ready_key}
use Rattle.hint_plans.specs.laws.LookedLaws.{looked_all}

-- notes of which no reply is placed
unplaced : (n : Notes) → with_place None n ≡ n
unplaced n = ap (λ (o : Option PlainReply). let m : Notes = record n { placed = o } in m) (none n.placed)
  where
    none : (o : Option PlainReply) → option_or o None ≡ o
    none None = refl
    none (Some reply) = refl

pub waits_not : (n : Notes) → n.asks ≡ None → record n { asks = None } ≡ n
waits_not n none = ap (λ (o : Option Block). let m : Notes = record n { asks = o } in m) (sym none)

-- a quiet call of a scan
module _ (f i h : ℕ) (v w : WorldView) (e : Event) (some : key_at v.locks h ≢ 0) (Before Between : Notes → Type 0)
    (before : (n : Notes) → Before n → Noted (commands.Scan f i) h v outcomes.Open n)
    (call : QuietCall (commands.Scan f i) h v w e Before Between) where
  abbrev noted_by : Notes → Notes
  noted_by n = with_call v.locks.geometry h (commands.Scan f i) v.locks.disk.state (Some e) n

  abbrev moment : Notes → Moment
  moment n = plan_moment v.locks.geometry h (commands.Scan f i) v.locks.disk w.locks.disk (Some e) None n

  turn : (n : Notes) → Before n → FileTurn v.locks.geometry h (commands.Scan f i) v.locks.disk w.locks.disk (Some e) None n
  turn n is = quiet_turn (commands.Scan f i) h v w e n (before n is).remembered some Before Between is refl call

  -- the scan goes on, and may ask for the digest of the data block that it read
  pub asks_on : (After : Notes → Type 0) (block : Option Block) → MayAskFor v.locks.geometry (commands.Scan f i) (Some e) block
      → ((n : Notes) → Between n → After (record n { asks = block }))
      → OwesStep (commands.Scan f i) h v w (called_step nexts.More) Before After
  asks_on After block may after = record {
    made = Some e;
    called = refl;
    others = call.others;
    quiet = λ n is. (before n is).wants;
    owes = λ n is. (
      asking (moment n) block,
      owes_asks v.locks.geometry h v.locks.disk w.locks.disk (Some e) None n (commands.Scan f i) block (turn n is) refl may,
      subst (λ (m : Notes). After (record m { asks = block })) (sym (unplaced (noted_by n))) (after (noted_by n) (call.noted n is)),
    );
  }

  pub goes_on : (After : Notes → Type 0) → ((n : Notes) → Between n → n.asks ≡ None) → ((n : Notes) → Between n → After n)
      → OwesStep (commands.Scan f i) h v w (called_step nexts.More) Before After
  goes_on After waits after =
      asks_on After None tt (λ n is. subst After (sym (waits_not n (waits n is))) (after n is))

  module _ (c : Consistent w.locks) (ready : IsReady w h) (pending : List LogEntry) where
    resting : (n : Notes) → IsRemembered w.locks.geometry (noted_by n).memory (host_at w.locks h) → IsResting (moment n)
    resting n remembered = ready_rests w h (moment n) remembered (sym call.geometry) c ready

    rests : (n : Notes) (now : List LogEntry) → IsRemembered w.locks.geometry (noted_by n).memory (host_at w.locks h) → now ≡ pending
        → RestsWith h w pending (at_answer (moment n) now)
    rests n now remembered is =
        record { rests = record { remembered = remembered; rests = inl ready; between = refl }; pending_is = is }

    -- another host has the file
    pub busy_ends : (key : Key) → ((n : Notes) → Between n → Noted (commands.Scan f i) h w (outcomes.Busy key) n)
        → ((n : Notes) → Before n → n.pending ≡ pending)
        → OwesStep (commands.Scan f i) h v w (called_step (nexts.Answered (answers.Busy key))) Before (RestsWith h w pending)
    busy_ends key noted kept = record {
      made = Some e;
      called = refl;
      others = call.others;
      quiet = λ n is. (before n is).wants;
      owes = λ n is.
          let now = noted (noted_by n) (call.noted n is) in (
            at_answer (moment n) n.pending,
            owes_busy v.locks.geometry h v.locks.disk w.locks.disk (Some e) None n (commands.Scan f i) key (turn n is)
                (ap (λ (o : Option PlainReply). option_or o None) now.placed_is) now.shown_is (λ a b d same. absurd cc)
                (resting n now.remembered),
            rests n n.pending now.remembered (kept n is),
          );
    }

    -- the file has no block there
    pub none_ends : ((n : Notes) → Between n → OpenNoted (commands.Scan f i) h w pending n × (n.digests ≡ []))
        → OnImage v.locks.disk.state (λ image. mapped_from v.locks.geometry image f i ≡ [])
        → OwesStep (commands.Scan f i) h v w (called_step (nexts.Answered (answers.Scanned 0))) Before (RestsWith h w pending)
    none_ends noted none = record {
      made = Some e;
      called = refl;
      others = call.others;
      quiet = λ n is. (before n is).wants;
      owes = λ n is.
          let now = noted (noted_by n) (call.noted n is) in (
            at_answer (moment n) n.pending,
            owes_scanned v.locks.geometry h v.locks.disk w.locks.disk (Some e) None n f i 0 n.pending (turn n is)
                (record {
                  digests = sym (ap length now.1);
                  earlier = n.calls;
                  last = record { event = e; before = v.locks.disk.state };
                  calls = refl;
                  mapped = map_told v.locks.disk.state.told (λ t. mapped_from v.locks.geometry t.image f i ≡ [])
                      (λ t. 0 ≡ length (mapped_from v.locks.geometry t.image f i)) none (λ t is_none. sym (ap length is_none));
                })
                (record {
                  earlier = n.calls;
                  last = record { event = e; before = v.locks.disk.state };
                  calls = refl;
                  hints = map_told v.locks.disk.state.told (λ t. mapped_from v.locks.geometry t.image f i ≡ [])
                      (λ t. n.pending ≡ fold (hint_pushed f) n.pending (zip n.digests (mapped_from v.locks.geometry t.image f i))) none
                      (λ t is_none.
                      sym (ap (λ (ds : List Digest). fold (hint_pushed f) n.pending (zip ds (mapped_from v.locks.geometry t.image f i))) now.1));
                })
                (ap (λ (o : Option PlainReply). option_or o None) now.0.noted.placed_is) now.0.noted.shown_is
                (resting n now.0.noted.remembered),
            rests n n.pending now.0.noted.remembered now.0.pending_is,
          );
    }

-- the notes of a command whose last call this was
abbrev pub IsLast : WorldView → Event → Notes → Type 0
IsLast v e n = (earlier : List NotedCall) × (n.calls ≡ earlier ++ record { event = e; before = v.locks.disk.state } ∷ [])

-- where the device told its content at that call, the file had these blocks
pub seen_last : (v : WorldView) (e : Event) (f i : ℕ) (found : List ℕ) (n : Notes) → IsLast v e n
    → OnImage v.locks.disk.state (λ image. mapped_from v.locks.geometry image f i ≡ found) → HasSeen v.locks.geometry f i found n.calls
seen_last v e f i found n (earlier, are) mapped =
    record { earlier = earlier; last = record { event = e; before = v.locks.disk.state }; calls_are = are; mapped = mapped }

-- what a host is sure of is so of an image that is told while its key is registered
pub told_scan : (v : WorldView) (h : ℕ) (s : Scan) → Contains (keys_of v.locks) (key_at v.locks h) → IsScan v h s → s.looked ≡ s.many
    → OnImage v.locks.disk.state (λ image. mapped_from v.locks.geometry image s.file s.index ≡ indexes s.found)
told_scan v h s here is all =
    map_told v.locks.disk.state.told (λ t. IsLooked v.locks.geometry s.file s.index is.head s.looked s.found t.image)
    (λ t. mapped_from v.locks.geometry t.image s.file s.index ≡ indexes s.found) (is.sure here)
    (λ t looked. looked_all v.locks.geometry t.image s.file s.index is.head s.looked s.found (all ∙ is.many) looked)

-- a step towards the hold
part_no_file : (r : Resource) → IsShared r → (f : ℕ) → r ≡ File f → ⊥
part_no_file (File e) shared f same = shared
part_no_file (Part q) shared f same = absurd cc
part_no_file (Group q) shared f same = absurd cc

host_relocks : (v w : WorldView) (h f : ℕ) (pending : HintList LogEntry) → Relocks h (File f) v w → IsHost v h pending → IsHost w h pending
host_relocks v w h f pending relocks is = record {
  host = subst (λ (g : Geometry). h < g.hosts) (sym relocks.passes.geometry) is.host;
  ready = record {
    joined = relocks.memory.joined ∙ is.ready.joined;
    empty = relocks.facts (RecordIs []) (λ e. cc) is.ready.empty;
    taking = record {
      each = tt;
      only = λ r has shared held.
          let there = subst (λ (g : Geometry). HasResource g r) relocks.passes.geometry has in
          is.ready.taking.only r there shared (sym (relocks.memory.holds_same r there (λ same. part_no_file r shared f same)) ∙ held);
    };
  };
  volume = is.volume ∙ sym relocks.passes.geometry;
}

calls_some : (v : WorldView) (h f : ℕ) (t : TakeWrite) → IsWriteTaking v h f t → 0 < calls_left v.locks.geometry.hosts t
calls_some v h f (writes.Try from zero) is = omega arith
calls_some v h f (writes.Try from (suc tries)) is = let few = is.at.few in omega (arith, few)
calls_some v h f (writes.Check readers at) is = omega arith

module _ (v w : WorldView) (h f i : ℕ) (t : TakeWrite) (pending : HintList LogEntry) (c : Consistent v.locks) (later : Consistent w.locks)
    (is : PlanStands v h pending (doings.HoldsFile f i t)) (others : Others h v w) where
  abbrev Was : Notes → Type 0
  Was n = Agrees h v pending.entries (doings.HoldsFile f i t) n

  key_there : key_at v.locks h ≢ 0
  key_there = ready_key v h c is.is_host.ready

  with_rest : (e : Event) (After : Notes → Type 0) → QuietCall (commands.Scan f i) h v w e (λ n. NotedWrite (commands.Scan f i) h v t n) After
      → QuietCall (commands.Scan f i) h v w e Was (λ n. After n × (n.pending ≡ pending.entries) × (n.digests ≡ []))
  with_rest e After call = record {
    acts = call.acts;
    answered = call.answered;
    geometry = call.geometry;
    others = call.others;
    valid = call.valid;
    files = call.files;
    allowed = λ m turn of noted. call.allowed m turn of noted.0;
    noted = λ n noted. (call.noted n noted.0, noted.1, noted.2);
  }

  pub hold_came : (taken : Taking TakeWrite) → TakesWrite h f v w t taken
      → Came h v w pending pending (doings.HoldsFile f i t) (behind_hold f i taken)
  hold_came (taking.More u) (less, more) = record {
    owes = goes_on f i h v w more.asked.event key_there Was _ (λ n noted. noted.0.1.noted)
        (with_rest more.asked.event (λ n. NotedWrite (commands.Scan f i) h w u n) (more.asked.quiet (commands.Scan f i) (refl, refl)))
        (Agrees h w pending.entries (doings.HoldsFile f i u)) (λ n noted. noted.0.1.noted.asks) (λ n noted. noted);
    stands = (
      record {
        is_host = host_on v w h pending more.looks.geometry more.looks.memory more.looks.facts is.is_host;
        at = (subst (λ (g : Geometry). f < g.files) (sym more.looks.geometry) is.at.0, more.stands);
      },
      refl,
    );
    tables = λ uncut t p known. more.looks.facts (TableIs t p) known;
    writes = λ uncut. tt;
    fewer = let fell = subst (λ (g : Geometry). calls_left g.hosts u < calls_left v.locks.geometry.hosts t) (sym more.looks.geometry) less in omega (arith, fell);
  }
  hold_came taking.Taken did = record {
    owes = goes_on f i h v w did.asked.event key_there Was _ (λ n noted. noted.0.1.noted)
        (with_rest did.asked.event (λ n. Noted (commands.Scan f i) h w outcomes.Open n) (did.asked.quiet (commands.Scan f i) (refl, refl)))
        (Agrees h w pending.entries (doings.ReadsHead f i)) (λ n noted. noted.0.asks)
        (λ n noted. (record { noted = noted.0; pending_is = noted.1 }, noted.2));
    stands = (
      record {
        is_host = host_relocks v w h f pending did.gains.relocks is.is_host;
        at = (subst (λ (g : Geometry). f < g.files) (sym did.gains.relocks.passes.geometry) is.at.0, did.held);
      },
      refl,
    );
    tables = λ uncut t p known. did.gains.facts (TableIs t p) known;
    writes = λ uncut. tt;
    fewer = let some = calls_some v h f t is.at.1 in omega (arith, some);
  }
  hold_came (taking.Busy key) busy = record {
    owes = busy_ends f i h v w busy.asked.event key_there Was _ (λ n noted. noted.0.1.noted)
        (with_rest busy.asked.event (λ n. Noted (commands.Scan f i) h w (outcomes.Busy key) n) (busy.asked.quiet (commands.Scan f i) (refl, refl)))
        later (host_on v w h pending busy.looks.geometry busy.looks.memory busy.looks.facts is.is_host).ready pending.entries key
        (λ n noted. noted.0) (λ n noted. noted.1);
    stands = is.is_host.volume ∙ sym busy.looks.geometry;
    tables = λ uncut t p known. busy.looks.facts (TableIs t p) known;
    writes = λ uncut. tt;
    fewer = let some = calls_some v h f t is.at.1 in omega (arith, some);
  }

-- a table of the file was read
module _ (v w : WorldView) (h : ℕ) (pending : HintList LogEntry) (doing : Doing) (s : Scan) (e : Event) (c : Consistent v.locks)
    (later : Consistent w.locks) (host : IsHost v h pending) (looks : Looks h v w) (is : IsScan w h s) (begun : s.done ≡ 0)
    (Before : Notes → Type 0) (before : (n : Notes) → Before n → OpenNoted (commands.Scan s.file s.index) h v pending.entries n × (n.digests ≡ []))
    (call : QuietCall (commands.Scan s.file s.index) h v w e (Noted (commands.Scan s.file s.index) h v outcomes.Open)
    (Noted (commands.Scan s.file s.index) h w outcomes.Open)) where
  abbrev Between : Notes → Type 0
  Between n = (OpenNoted (commands.Scan s.file s.index) h w pending.entries n × (n.digests ≡ [])) × IsLast v e n

  table_call : QuietCall (commands.Scan s.file s.index) h v w e Before Between
  table_call = record {
    acts = call.acts;
    answered = call.answered;
    geometry = call.geometry;
    others = call.others;
    valid = call.valid;
    files = call.files;
    allowed = λ m turn of noted. call.allowed m turn of (before m.old noted).0.noted;
    noted = λ n noted. (
      (record { noted = call.noted n (before n noted).0.noted; pending_is = (before n noted).0.pending_is }, (before n noted).1),
      (n.calls, refl),
    );
  }

  -- the blocks that the scan found are those that the device told at the read
  mapped_there : s.looked ≡ s.many → OnImage v.locks.disk.state (λ image. mapped_from v.locks.geometry image s.file s.index ≡ indexes s.found)
  mapped_there all =
      let there = told_scan w h s (subst (λ (st : State). Contains st.keys (key_at w.locks h)) (sym looks.state)
      (subst (λ (m : HostState). Contains (keys_of v.locks) (key_of m)) (sym looks.memory) looks.registered)) is all in
      subst (λ (g : Geometry). OnImage v.locks.disk.state (λ image. mapped_from g image s.file s.index ≡ indexes s.found)) looks.geometry
      (subst (λ (st : State). OnImage st (λ image. mapped_from w.locks.geometry image s.file s.index ≡ indexes s.found)) looks.state there)

  -- what each way of going on has to show, and the two measures
  pub behind_came : (s.looked < s.many
      → OwesStep (commands.Scan s.file s.index) h v w (called_step nexts.More) Before (Agrees h w pending.entries (doings.ReadsTable s))
      → Came h v w pending pending doing (More (doings.ReadsTable s)))
      → (s.looked ≡ s.many
      → OwesStep (commands.Scan s.file s.index) h v w (called_step nexts.More) Before (Agrees h w pending.entries (doings.ReadsBlock s))
      → Came h v w pending pending doing (More (doings.ReadsBlock s)))
      → (OwesStep (commands.Scan s.file s.index) h v w (called_step (nexts.Answered (answers.Scanned 0))) Before (RestsWith h w pending.entries)
      → Came h v w pending pending doing (Answered (answers.Scanned 0)))
      → HasCome h v w pending pending doing (behind_scan s)
  behind_came table block none = by (nat_lt s.looked s.many) refl
    where
      first : s.looked ≡ s.many → (found : List Mapped) → s.found ≡ found → HasCome h v w pending pending doing (behind_found s found)
      first all [] empty =
          none (none_ends s.file s.index h v w e (ready_key v h c host.ready) Before Between (λ n noted. (before n noted).0.noted) table_call later
          (host_on v w h pending looks.geometry looks.memory looks.facts host).ready pending.entries (λ n noted. noted.0)
          (subst (λ (found : List Mapped). OnImage v.locks.disk.state (λ image. mapped_from v.locks.geometry image s.file s.index ≡ indexes found)) empty
          (mapped_there all)))
      first all (m ∷ more) are =
          block all (goes_on s.file s.index h v w e (ready_key v h c host.ready) Before Between (λ n noted. (before n noted).0.noted) table_call
          (Agrees h w pending.entries (doings.ReadsBlock s)) (λ n noted. noted.0.0.noted.asks) (λ n noted. record {
            noted = noted.0.0.noted;
            many = ap length noted.0.1 ∙ sym begun;
            hints = sym (noted.0.0.pending_is)
                ∙ sym (ap (λ (ds : List Digest). fold (hint_pushed s.file) n.pending (zip ds (indexes s.found))) noted.0.1);
            seen = subst (λ (g : Geometry). HasSeen g s.file s.index (indexes s.found) n.calls) (sym looks.geometry)
                (seen_last v e s.file s.index (indexes s.found) n noted.1 (mapped_there all));
          }))

      by : (b : Bool) → nat_lt s.looked s.many ≡ b
          → HasCome h v w pending pending doing (if b then More (doings.ReadsTable s) else behind_found s s.found)
      by true less =
          table (ltb-true s.looked s.many less) (goes_on s.file s.index h v w e (ready_key v h c host.ready) Before Between (λ n noted. (before n noted).0.noted) table_call
          (Agrees h w pending.entries (doings.ReadsTable s)) (λ n noted. noted.0.0.noted.asks) (λ n noted. noted.0))
      by false past =
          let le = ltb-false s.looked s.many past in let most = is.looked in first (omega (arith, le, most)) s.found refl
