-- The steps of a `log`.
use Rattle.std.proofs.Common.{◌≡◌, ◌≢◌, ◌++◌, ◌∷◌, ◌+◌, ◌<◌, ◌≤◌, ◌∙◌, ℕ, suc, zero, Bool, List, [], None, Some, false, true, ap, arith, length, refl, subst, sym, inl, inr}
use Rattle.std.specs.Prelude.{Ok, codes, map, nat_lt}
use Rattle.std.proofs.lemmas.Bool.{ltb-false, ltb-true}
use Rattle.vol_base.specs.declared.answer.Answer.TheVariants.{Logged}
use Rattle.vol_base.specs.declared.command.Command.TheVariants as commands
use Rattle.vol_base.specs.declared.answer.Next.TheVariants as nexts
use Rattle.vol_layout.specs.declared.geometry.Geometry.{Geometry}
use Rattle.vol_layout.specs.declared.kind.Kind.TheVariants as kinds
use Rattle.vol_layout.specs.Places.{place_of}
use Rattle.vol_layout.specs.Ranges.{HasKind}
use Rattle.vol_layout.specs.laws.PlaceLaws.{kind_at-place}
use Rattle.shared_disk.specs.Events.{Done, Event, Shows, Writes, event}
use Rattle.hint_blocks.specs.declared.entry.LogEntry.{LogEntry}
use Rattle.hint_blocks.specs.Entries.{log_bytes}
use Rattle.hint_blocks.specs.HintLists.{HintList, hint_block}
use Rattle.lock_store.specs.Calls.{WritesBlock}
use Rattle.lock_store.specs.Events.{Did, read_of}
use Rattle.lock_store.specs.Views.{host_at, key_at}
use Rattle.disk_locks.specs.Consistent.{Consistent}
use Rattle.host_facts.specs.Hints.{WroteHint}
use Rattle.host_facts.specs.Looks.{Looks}
use Rattle.host_facts.specs.Others.{Others}
use Rattle.host_facts.specs.Facts.Fact.{TableIs}
use Rattle.host_facts.specs.Views.{WorldView}
use Rattle.host_facts.specs.Wrote.{FilesStay, HasValidImage}
use Rattle.host_notes.specs.FileTurns.{at_answer}
use Rattle.host_notes.specs.Owes.{plan_moment}
use Rattle.host_notes.specs.laws.VolumeOwes.{owes_logged}
use Rattle.host_runs.specs.HintCauses.{AreLogsFull, logged_hints}
use Rattle.host_runs.specs.Moments.{Moment}
use Rattle.host_runs.specs.Notes.{NotedCall, Notes}
use Rattle.host_runs.specs.Rests.{HasPending}
use Rattle.plan_parts.specs.QuietCalls.{Noted, QuietCall}
use Rattle.plan_parts.specs.Steps.{OwesStep}
use Rattle.plan_parts.specs.declared.outcome.Outcome.TheVariants.{Open}
use Rattle.plan_parts.specs.laws.NoCallLaws.{others_same}
use Rattle.plan_parts.specs.laws.QuietCallLaws.{quiet_read, quiet_write, valid_now}
use Rattle.plan_parts.specs.laws.StepLaws.{ready_rests}
use Rattle.plan_parts.specs.laws.VolumeSteps.{volume_step_ends, volume_step_goes_on}
use Rattle.hint_plans.specs.Logs.{AreRead, IsSeenEmpty, behind_full, behind_log}
use Rattle.hint_plans.specs.Plans.{Agrees, Came, HasCome, IsHost, OpenNoted, PlanStands, RestsWith, called_step}
use Rattle.hint_plans.specs.declared.plan.Come.TheVariants.{Answered, More, Uncalled}
use Rattle.hint_plans.specs.declared.plan.Doing.{Doing}
use Rattle.hint_plans.specs.declared.plan.Doing.TheVariants.{ReadsLog, WritesLog}
use Rattle.hint_plans.specs.laws.EndLaws.{ended_rests, log_owes, uncalled_turn}
use Rattle.hint_plans.specs.laws.HostLaws.{host_on, ready_key}
use Rattle.hint_plans.specs.laws.SeenLogs.{all_full, empty_more, one_empty, one_unread, read_empty, read_full}

-- what is left of the pending hints, by how many were logged
kept_pending : (m : Moment) (later : List LogEntry) → HasPending (Logged 0) m later → m.command ≡ commands.Log → later ≡ m.old.pending
kept_pending m later is log = is

-- no hint is pending: none is logged
pub unlogged_came : (v : WorldView) (h l : ℕ) (pending : HintList LogEntry) → Consistent v.locks → PlanStands v h pending (ReadsLog l)
    → pending.entries ≡ [] → Came h v v pending pending (ReadsLog l) (Uncalled (Logged 0))
unlogged_came v h l pending c is none = record {
  owes = record {
    made = None;
    called = refl;
    others = others_same v h;
    quiet = λ n noted. noted.0.noted.wants;
    owes = λ n noted.
        let m = plan_moment v.locks.geometry h commands.Log v.locks.disk v.locks.disk None None n in
        let remembered = noted.0.noted.remembered in (
          at_answer m n.pending,
          owes_logged v.locks.geometry h v.locks.disk v.locks.disk None n 0 n.pending
              (uncalled_turn commands.Log h v n c tt noted.0.noted.placed_is) (inl (noted.0.pending_is ∙ none)) refl
              noted.0.noted.shown_is (log_owes m (Some (Logged 0)) refl (λ empty. refl) (λ full no_cut. refl))
              (ready_rests v h m remembered refl c is.is_host.ready),
          record {
            rests = record { remembered = remembered; rests = inl is.is_host.ready; between = refl };
            pending_is = noted.0.pending_is;
          },
        );
  };
  stands = is.is_host.volume;
  tables = λ uncut t p known. known;
  writes = λ uncut. refl;
  fewer = omega arith;
}

-- an own log block is read
module _ (v w : WorldView) (h l : ℕ) (pending : HintList LogEntry) (block : List ℕ) (c : Consistent v.locks) (later : Consistent w.locks)
    (is : PlanStands v h pending (ReadsLog l)) (some : pending.entries ≢ [])
    (did : Did v.locks h (read_of v.locks (kinds.Log h l)) (Shows block) (host_at v.locks h) w.locks) (looks : Looks h v w)
    (others : Others h v w) where
  abbrev g : Geometry
  g = v.locks.geometry

  abbrev e : Event
  e = event (key_at v.locks h) (read_of v.locks (kinds.Log h l)) (Shows block)

  abbrev noted_call : NotedCall
  noted_call = record { event = e; before = v.locks.disk.state }

  has : HasKind g (kinds.Log h l)
  has = (is.is_host.host, is.at)

  host_behind : IsHost w h pending
  host_behind = host_on v w h pending looks.geometry looks.memory looks.facts is.is_host

  -- the notes behind the read, of which it is shown what its calls say
  abbrev Before : Notes → Type 0
  Before n = Agrees h v pending.entries (ReadsLog l) n

  abbrev Between : (List NotedCall → Type 0) → Notes → Type 0
  Between Says n = OpenNoted commands.Log h w pending.entries n × Says n.calls

  quiet : (Says : List NotedCall → Type 0) → ((calls : List NotedCall) → AreRead g h l calls → Says (calls ++ noted_call ∷ []))
      → QuietCall commands.Log h v w e Before (Between Says)
  quiet Says says =
      let call : QuietCall commands.Log h v w e (Noted commands.Log h v Open) (Noted commands.Log h w Open) =
      quiet_read commands.Log v w h (kinds.Log h l) block Open has (λ of same. cc) did others (valid_now v c) (λ f i n r same other. absurd cc) in record {
        acts = call.acts;
        answered = call.answered;
        geometry = call.geometry;
        others = call.others;
        valid = call.valid;
        files = call.files;
        allowed = λ m turn of noted. call.allowed m turn of noted.0.noted;
        noted = λ n noted. (record { noted = call.noted n noted.0.noted; pending_is = noted.0.pending_is }, says n.calls noted.1);
      }

  -- what was read is known to be so behind it
  not_none : (n : Notes) → Before n → n.pending ≢ []
  not_none n noted none = some (sym noted.0.pending_is ∙ none)

  -- one more is read, or it is written
  goes_on : (after : Doing) (Says : List NotedCall → Type 0)
      → ((calls : List NotedCall) → AreRead g h l calls → Says (calls ++ noted_call ∷ []))
      → ((calls : List NotedCall) → Says calls → AreLogsFull g h calls → ⊥)
      → ((n : Notes) → Between Says n → Agrees h w pending.entries after n)
      → OwesStep commands.Log h v w (called_step nexts.More) Before (Agrees h w pending.entries after)
  goes_on after Says says unfull agrees =
      volume_step_goes_on commands.Log h v w e tt (ready_key v h c is.is_host.ready) Open refl Before (Between Says)
      (λ n noted. noted.0.noted) (quiet Says says) (Agrees h w pending.entries after) (λ n noted. noted.0.noted.asks) agrees
      (λ n noted. log_owes _ None refl (λ none. absurd (not_none n noted none))
      (λ full. absurd (unfull (n.calls ++ noted_call ∷ []) (says n.calls noted.1) full)))

  read_on : logged_hints g block ≢ [] → l + 1 < g.logs → Came h v w pending pending (ReadsLog l) (More (ReadsLog (l + 1)))
  read_on full below = record {
    owes = goes_on (ReadsLog (l + 1)) (AreRead g h (l + 1))
        (λ calls are. read_full g h l calls noted_call (key_at v.locks h) block has refl full are)
        (λ calls are all. one_unread g h (l + 1) calls below are all)
        (λ n noted. (noted.0, subst (λ (x : Geometry). AreRead x h (l + 1) n.calls) (sym looks.geometry) noted.1));
    stands = (record { is_host = host_behind; at = subst (λ (x : Geometry). l + 1 < x.logs) (sym looks.geometry) below }, refl);
    tables = λ uncut t p known. looks.facts (TableIs t p) known;
    writes = λ uncut. looks.state;
    fewer = let same = ap (λ (x : Geometry). x.logs) looks.geometry in omega (arith, below, same);
  }

  found : logged_hints g block ≡ [] → Came h v w pending pending (ReadsLog l) (More (WritesLog l))
  found none = record {
    owes = goes_on (WritesLog l) (IsSeenEmpty g h l)
        (λ calls are. read_empty g h l calls noted_call (key_at v.locks h) block has refl none are)
        (λ calls empty all. one_empty g h l calls is.at empty all)
        (λ n noted. (noted.0, subst (λ (x : Geometry). IsSeenEmpty x h l n.calls) (sym looks.geometry) noted.1));
    stands = (
      record { is_host = host_behind; at = (subst (λ (x : Geometry). l < x.logs) (sym looks.geometry) is.at, some) },
      refl,
    );
    tables = λ uncut t p known. looks.facts (TableIs t p) known;
    writes = λ uncut. looks.state;
    fewer = let below = is.at in omega (arith, below);
  }

  -- the last one has a hint too: none is logged
  all_read : logged_hints g block ≢ [] → g.logs ≤ l + 1 → Came h v w pending pending (ReadsLog l) (Answered (Logged 0))
  all_read full last = record {
    owes = ended_rests commands.Log h v w (Logged 0) Before pending.entries
        (λ n m rest noted old log kept.
        kept_pending m rest (subst (λ x. HasPending (Logged 0) m rest) old kept) log ∙ ap (λ (x : Notes). x.pending) old ∙ noted.0.pending_is)
        (volume_step_ends commands.Log h v w e tt (ready_key v h c is.is_host.ready) Open refl Before (Between (AreRead g h (l + 1))) (λ n noted. noted.0.noted)
        (quiet (AreRead g h (l + 1)) more) later host_behind.ready (λ n noted. noted.0.noted.remembered) (Logged 0) (λ n. n.pending)
        (λ n noted turn now rests.
        owes_logged g h v.locks.disk w.locks.disk (Some e) n 0 n.pending turn (inr (all_full g h (l + 1) _ last now.1)) refl
        now.0.noted.shown_is (log_owes _ (Some (Logged 0)) refl (λ none. refl) (λ all no_cut. refl)) rests));
    stands = host_behind.volume;
    tables = λ uncut t p known. looks.facts (TableIs t p) known;
    writes = λ uncut. looks.state;
    fewer = omega arith;
  }
    where
      more : (calls : List NotedCall) → AreRead g h l calls → AreRead g h (l + 1) (calls ++ noted_call ∷ [])
      more calls are = read_full g h l calls noted_call (key_at v.locks h) block has refl full are

  -- by the hints of the block
  pub log_read : HasCome h v w pending pending (ReadsLog l) (behind_log g l (logged_hints g block))
  log_read = by (logged_hints g block) refl
    where
      next : (b : Bool) → nat_lt (l + 1) g.logs ≡ b → logged_hints g block ≢ [] → HasCome h v w pending pending (ReadsLog l) (behind_full l b)
      next true below full = read_on full (ltb-true (l + 1) g.logs below)
      next false last full = all_read full (ltb-false (l + 1) g.logs last)

      by : (hints : List LogEntry) → logged_hints g block ≡ hints → HasCome h v w pending pending (ReadsLog l) (behind_log g l hints)
      by [] none = found none
      by (hint ∷ hints) are = next (nat_lt (l + 1) g.logs) refl (λ none. let both : hint ∷ hints ≡ [] = sym are ∙ none in cc)

-- the pending hints are written
module _ (v w : WorldView) (h l : ℕ) (pending after : HintList LogEntry) (done : Unit) (c : Consistent v.locks) (later : Consistent w.locks)
    (is : PlanStands v h pending (WritesLog l))
    (wrote : WroteHint h (place_of v.locks.geometry (kinds.Log h l)) (hint_block (codes "DEDELOGS") (map log_bytes pending.entries)) v w)
    (did : WritesBlock v.locks h (kinds.Log h l) (hint_block (codes "DEDELOGS") (map log_bytes pending.entries)) (host_at v.locks h) (Ok done) w.locks)
    (others : Others h v w) (valid : HasValidImage w) (files : FilesStay v w) where
  abbrev bytes : List ℕ
  bytes = hint_block (codes "DEDELOGS") (map log_bytes pending.entries)

  abbrev written : Event
  written = event (key_at v.locks h) (Writes (place_of v.locks.geometry (kinds.Log h l)) bytes) Done

  abbrev Was : Notes → Type 0
  Was n = Agrees h v pending.entries (WritesLog l) n

  abbrev Now : Notes → Type 0
  Now n = OpenNoted commands.Log h w pending.entries n × IsSeenEmpty v.locks.geometry h l n.calls

  write_call : QuietCall commands.Log h v w written Was Now
  write_call =
      let call : QuietCall commands.Log h v w written (Noted commands.Log h v Open) (Noted commands.Log h w Open) =
      quiet_write commands.Log v w h (kinds.Log h l) bytes Open done (is.is_host.host, is.at.0) did others valid files in record {
        acts = call.acts;
        answered = call.answered;
        geometry = call.geometry;
        others = call.others;
        valid = call.valid;
        files = call.files;
        allowed = λ m turn of noted. call.allowed m turn of noted.0.noted;
        noted = λ n noted. (
          record { noted = call.noted n noted.0.noted; pending_is = noted.0.pending_is },
          empty_more v.locks.geometry h l n.calls _ (λ block shown. let none = shown.2 in cc) noted.1,
        );
      }

  -- as many as were pending
  pub logged : (k : ℕ) → k ≡ length pending.entries → after ≡ record { geometry = v.locks.geometry; entries = [] }
      → Came h v w pending after (WritesLog l) (Answered (Logged k))
  logged zero is_k none = absurd (is.at.1 (nothing pending.entries is_k))
    where
      nothing : (xs : List LogEntry) → 0 ≡ length xs → xs ≡ []
      nothing [] long = refl
      nothing (x ∷ xs) long = absurd (omega (arith, long))
  logged (suc k) is_k none = record {
    owes = subst (λ (a : HintList LogEntry). OwesStep commands.Log h v w (called_step (nexts.Answered (Logged (suc k)))) Was (RestsWith h w a.entries)) (sym none)
        (ended_rests commands.Log h v w (Logged (suc k)) Was [] (λ n m rest noted old log kept. kept)
        (volume_step_ends commands.Log h v w written tt (ready_key v h c is.is_host.ready) Open refl Was Now (λ n noted. noted.0.noted)
        write_call later behind.ready (λ n noted. noted.0.noted.remembered) (Logged (suc k)) (λ n. [])
        (λ n noted turn now rests.
        owes_logged v.locks.geometry h v.locks.disk w.locks.disk (Some written) n (suc k) [] turn (
          is_k ∙ ap length (sym noted.0.pending_is),
          l,
          (
            place_of v.locks.geometry (kinds.Log h l),
            kind_at-place v.locks.geometry (kinds.Log h l) (is.is_host.host, is.at.0),
            (ap (λ (es : List LogEntry). Writes (place_of v.locks.geometry (kinds.Log h l)) (hint_block (codes "DEDELOGS") (map log_bytes es))) (sym noted.0.pending_is), refl),
          ),
        )
        refl now.0.noted.shown_is
        (log_owes _ (Some (Logged (suc k))) refl (λ empty. absurd (is.at.1 (sym noted.0.pending_is ∙ empty)))
        (λ full. absurd (one_empty v.locks.geometry h l _ is.at.0 now.1 full))) rests)));
    stands = ap (λ (a : HintList LogEntry). a.geometry) none ∙ sym wrote.geometry;
    tables = λ uncut t p known. wrote.facts (TableIs t p) known;
    writes = λ uncut. wrote.images;
    fewer = omega arith;
  }
    where
      behind : IsHost w h pending
      behind = host_on v w h pending wrote.geometry wrote.memory wrote.facts is.is_host
