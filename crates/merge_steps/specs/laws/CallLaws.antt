-- A device call of a merge on a hint block, and one that spares the own log blocks.
use Rattle.std.proofs.Common.{◌≡◌, ◌≢◌, ◌++◌, ◌∷◌, ◌<◌, ◌≤◌, ◌∙◌, ℕ, Bool, List, [], None, Some, ap, arith, false, refl, subst, sym, true}
use Rattle.std.specs.Prelude.{Err, IfErr, IfOk, Ok, OnOk, Result}
use Rattle.vol_base.specs.Packing.{Packing, packed_bytes}
use Rattle.vol_base.specs.declared.block.Block.{Block}
use Rattle.vol_base.specs.declared.command.Command.TheVariants.{Merge}
use Rattle.vol_layout.specs.declared.geometry.Geometry.{Geometry}
use Rattle.vol_layout.specs.declared.kind.Kind.{Kind}
use Rattle.vol_layout.specs.declared.kind.Kind.TheVariants as kinds
use Rattle.vol_layout.specs.declared.kind.Table.{Table}
use Rattle.vol_layout.specs.declared.field.Field.TheVariants.{Count}
use Rattle.vol_layout.specs.Fields.{HasField}
use Rattle.vol_layout.specs.Places.{kind_at, place_of}
use Rattle.vol_layout.specs.Ranges.{HasKind, HasTable}
use Rattle.vol_layout.specs.laws.PlaceLaws.{kind_at-place}
use Rattle.shared_disk.specs.Events.{Call, Done, Event, Reads, Reply, Shows, Tests, Writes, event}
use Rattle.hint_blocks.specs.declared.entry.LogEntry.{LogEntry}
use Rattle.table_blocks.specs.Tables.{IsPackingOf}
use Rattle.lock_store.specs.declared.answers.StepNo.{StepNo}
use Rattle.lock_store.specs.declared.answers.StepNo.TheVariants as steps
use Rattle.lock_store.specs.Calls.{AnyBlock}
use Rattle.lock_store.specs.declared.host.HostState.{HostState}
use Rattle.lock_store.specs.Events.{Did}
use Rattle.lock_store.specs.Views.{host_at, key_at, told_of}
use Rattle.disk_locks.specs.Consistent.{Consistent}
use Rattle.lock_store.specs.Calls.{ReadsBlock}
use Rattle.disk_locks.specs.Calls.{IsSound}
use Rattle.host_facts.specs.Calls.{ReadsPlace, ReadsTable, SwapsPlace, WritesPlace}
use Rattle.host_facts.specs.Hints.{IsHint, WroteHint}
use Rattle.host_facts.specs.Looks.{Looks}
use Rattle.host_facts.specs.Others.{Others}
use Rattle.host_facts.specs.Views.{WorldView}
use Rattle.host_facts.specs.Wrote.{FilesStay, HasValidImage}
use Rattle.host_notes.specs.Asked.{IsPlainPlace}
use Rattle.host_notes.specs.FileTurns.{IsGiven}
use Rattle.host_notes.specs.Remembered.{IsRemembered}
use Rattle.host_notes.specs.laws.OtherRights.{allowed_plain}
use Rattle.host_notes.specs.laws.QuietMemories.{remembered_same}
use Rattle.host_notes.specs.laws.TryLaws.{BySwap, tried_plain}
use Rattle.host_notes.specs.lemmas.PlainKinds.{hint_writable}
use Rattle.host_notes.specs.Asked.{IsQuiet}
use Rattle.host_runs.specs.Awaited.{wanted}
use Rattle.host_runs.specs.FileUses.{is_hint_kind, is_hint_place}
use Rattle.host_runs.specs.HintCauses.{empty_log}
use Rattle.host_runs.specs.lemmas.OrderlyPlaced.{some_same}
use Rattle.host_runs.specs.Notes.{NotedCall, Notes}
use Rattle.host_runs.specs.Tries.{Tries}
use Rattle.plan_parts.specs.Cuts.{IsCut}
use Rattle.plan_parts.specs.QuietCalls.{IsFullNoted, Noted, QuietCall}
use Rattle.plan_parts.specs.declared.outcome.Outcome.{Outcome}
use Rattle.plan_parts.specs.declared.outcome.Outcome.TheVariants.{Open}
use Rattle.plan_parts.specs.laws.BlockLaws.{cut_block, quiet_block}
use Rattle.plan_parts.specs.laws.FetchLaws.{fetch_cut}
use Rattle.plan_parts.specs.laws.CutCallLaws.{cut_of}
use Rattle.plan_parts.specs.laws.QuietCallLaws.{noting, quiet_call, quiet_read, quiet_table, quiet_write, valid_now}
use Rattle.hint_plans.specs.laws.HintCuts.{read_cut, write_cut}
use Rattle.hint_plans.specs.laws.HostLaws.{ready_on}
use Rattle.merge_steps.specs.Logs.{AreLogs, LogsRead, SparesLogs, emptied_more, read_more}
use Rattle.merge_steps.specs.Steps.{IsIndex, IsMerging, IsSwapReply, MergeCame, Went}
use Rattle.merge_steps.specs.laws.LogLaws.{logs_emptied, logs_read, logs_spared}

-- no block of hints but a log is one
pub spares_hints : (g : Geometry) (h place : ℕ) → is_hint_place g place ≡ false → (l : ℕ) → kind_at g place ≢ Some (kinds.Log h l)
spares_hints g h place none l is = let both : true ≡ false = ap is_hint_kind (sym is) ∙ none in cc

index_log : (kind : Kind) → IsIndex kind → (h l : ℕ) → kind ≢ kinds.Log h l
index_log kind is h l same = subst IsIndex same is

index_slot : (kind : Kind) → IsIndex kind → (of : ℕ) → kind ≢ kinds.Slot of
index_slot kind is of same = subst IsIndex same is

index_hint : (kind : Kind) → IsIndex kind → IsHint kind
index_hint (kinds.Shard s) is = tt
index_hint (kinds.Request f) is = tt
index_hint kind is = absurd is

spares_index : (g : Geometry) (h : ℕ) (kind : Kind) → IsIndex kind → HasKind g kind → (l : ℕ) → kind_at g (place_of g kind) ≢ Some (kinds.Log h l)
spares_index g h kind is has l same = index_log kind is h l (some_same kind (kinds.Log h l) (sym (kind_at-place g kind has) ∙ same))

-- a quiet call, by what it did with the log blocks
abbrev Adds : ℕ → WorldView → Event → LogsRead → LogsRead → Type 0
Adds h v e before after =
    (calls : List NotedCall) → AreLogs v.locks.geometry h before calls
    → AreLogs v.locks.geometry h after (calls ++ record { event = e; before = v.locks.disk.state } ∷ [])

with_logs : (h : ℕ) (v w : WorldView) (e : Event) (was now : Outcome) (before after : LogsRead) (pending : List LogEntry)
    → QuietCall Merge h v w e (Noted Merge h v was) (Noted Merge h w now) → Adds h v e before after
    → QuietCall Merge h v w e (MergeCame h v was pending before) (MergeCame h w now pending after)
with_logs h v w e was now before after pending call adds = record {
  acts = call.acts;
  answered = call.answered;
  geometry = call.geometry;
  others = call.others;
  valid = call.valid;
  files = call.files;
  allowed = λ m turn of noted. call.allowed m turn of noted.noted;
  noted = λ n noted. record {
    noted = call.noted n noted.noted;
    pending_is = noted.pending_is;
    logs = subst (λ (g : Geometry). AreLogs g h after (n.calls ++ record { event = e; before = v.locks.disk.state } ∷ [])) (sym call.geometry)
        (adds n.calls noted.logs);
  };
}

-- one that spares them, whatever the merge comes to by it
pub noted_spared : (h : ℕ) (v w : WorldView) (e : Event) (was now : Outcome) (r : LogsRead) (pending : List LogEntry)
    → SparesLogs v.locks.geometry h e.call → QuietCall Merge h v w e (Noted Merge h v was) (Noted Merge h w now)
    → QuietCall Merge h v w e (MergeCame h v was pending r) (MergeCame h w now pending r)
noted_spared h v w e was now r pending spares call =
    with_logs h v w e was now r r pending call (λ calls are. logs_spared v.locks.geometry h r calls _ are spares)

module _ (v w : WorldView) (h : ℕ) (c : Consistent v.locks) (is : IsMerging v h) (others : Others h v w) where
  abbrev g : Geometry
  g = v.locks.geometry

  looked : (call : Call) (reply : Reply) (before after : LogsRead) → Looks h v w
      → QuietCall Merge h v w (event (key_at v.locks h) call reply) (Noted Merge h v Open) (Noted Merge h w Open)
      → Adds h v (event (key_at v.locks h) call reply) before after → Went h v w call reply before after
  looked call reply before after looks quiet adds = record {
    quiet = λ pending. with_logs h v w _ Open Open before after pending quiet adds;
    geometry = looks.geometry;
    memory = looks.memory;
    facts = looks.facts;
  }

  wrote : (call : Call) (reply : Reply) (before after : LogsRead) (place : ℕ) (block : List ℕ) → WroteHint h place block v w
      → QuietCall Merge h v w (event (key_at v.locks h) call reply) (Noted Merge h v Open) (Noted Merge h w Open)
      → Adds h v (event (key_at v.locks h) call reply) before after → Went h v w call reply before after
  wrote call reply before after place block left quiet adds = record {
    quiet = λ pending. with_logs h v w _ Open Open before after pending quiet adds;
    geometry = left.geometry;
    memory = left.memory;
    facts = left.facts;
  }

  -- an own log block is read
  pub log_went : (l : ℕ) (result : Result Block StepNo) → l < g.logs → g.logs ≤ 16
      → ReadsPlace v.locks h (place_of g (kinds.Log h l)) result w.locks → OnOk result (Looks h v w)
      → IfOk result (λ block. (r : LogsRead) → r.read ≡ l → r.emptied ≡ 0
      → Went h v w (Reads (place_of g (kinds.Log h l))) (Shows block.0) r (read_more g block.0 r))
  log_went l (Ok block) below few did looks = λ r at none.
      let here : kinds.Log h l ≡ kinds.Log h r.read = ap (kinds.Log h) (sym at) in
      looked (Reads (place_of g (kinds.Log h l))) (Shows block.0) r (read_more g block.0 r) looks
      (quiet_read Merge v w h (kinds.Log h l) block.0 Open (is.host, below) (λ of same. cc) did others (valid_now v c)
      (λ f i n q same other. absurd cc))
      (λ calls are.
      logs_read g h r calls _ are (key_at v.locks h) block.0 (omega (arith, below, few, at)) (λ some. omega (arith, some, none))
      (subst (HasKind g) here (is.host, below))
      (ap (λ (k : Kind). event (key_at v.locks h) (Reads (place_of g k)) (Shows block.0)) here))
  log_went l (Err why) below few did looks = tt

  -- a shard block, or one of requests
  pub index_went : (kind : Kind) (result : Result Block StepNo) → IsIndex kind → HasKind g kind
      → ReadsPlace v.locks h (place_of g kind) result w.locks → OnOk result (Looks h v w)
      → IfOk result (λ block. (r : LogsRead) → Went h v w (Reads (place_of g kind)) (Shows block.0) r r)
  index_went kind (Ok block) index has did looks = λ r.
      looked (Reads (place_of g kind)) (Shows block.0) r r looks
      (quiet_read Merge v w h kind block.0 Open has (index_slot kind index) did others (valid_now v c) (λ f i n q same other. absurd cc))
      (λ calls are. logs_spared g h r calls _ are (spares_index g h kind index has))
  index_went kind (Err why) index has did looks = tt

  -- a table, or a data block, is no log block
  spares_other : (kind : Kind) → HasKind g kind → ((l : ℕ) → kind ≢ kinds.Log h l) → (l : ℕ) → kind_at g (place_of g kind) ≢ Some (kinds.Log h l)
  spares_other kind has other l same = other l (some_same kind (kinds.Log h l) (sym (kind_at-place g kind has) ∙ same))

  pub table_went : (t : Table) (result : Result Packing StepNo) → HasTable g t → ReadsTable v.locks h t result w.locks → OnOk result (Looks h v w)
      → IfOk result (λ table. (r : LogsRead) → Went h v w (Reads (place_of g (kinds.Table t))) (Shows (packed_bytes 4 table)) r r)
  table_went t (Ok table) has did looks = λ r.
      looked (Reads (place_of g (kinds.Table t))) (Shows (packed_bytes 4 table)) r r looks
      (quiet_table Merge v w h t table Open has did others (valid_now v c) (λ f i n q same. absurd cc))
      (λ calls are. logs_spared g h r calls _ are (spares_other (kinds.Table t) has (λ l same. cc)))
  table_went t (Err why) has did looks = tt

  -- its numbers are in range
  pub table_packed : (t : Table) (result : Result Packing StepNo) → ReadsTable v.locks h t result w.locks → IfOk result (IsPackingOf g t)
  table_packed t (Ok table) did = did.1
  table_packed t (Err why) did = tt

  pub block_went : (d : ℕ) (result : Result Block StepNo) → HasField g (Count d) → ReadsBlock v.locks h (kinds.Number d) result w.locks
      → OnOk result (Looks h v w)
      → IfOk result (λ block. (r : LogsRead) → Went h v w (Reads (place_of g (kinds.Number d))) (Shows block.0) r r)
  block_went d (Ok block) has did looks = λ r.
      looked (Reads (place_of g (kinds.Number d))) (Shows block.0) r r looks (quiet_block v w h d block c has did others Merge Open)
      (λ calls are. logs_spared g h r calls _ are (spares_other (kinds.Number d) has (λ l same. cc)))
  block_went d (Err why) has did looks = tt

  pub table_cut : (t : Table) (result : Result Packing StepNo) → ReadsTable v.locks h t result w.locks → IsSound result v.locks
      → IfErr result (IsCut h v w)
  table_cut t (Ok table) did sound = tt
  table_cut t (Err why) did sound = fetch_cut v w h t why others did (λ at same. sound at (ap (λ (no : StepNo). let r : Result Packing StepNo = Err no in r) same))

  pub block_cut : (d : ℕ) (result : Result Block StepNo) → ReadsBlock v.locks h (kinds.Number d) result w.locks → IfErr result (IsCut h v w)
  block_cut d (Ok block) did = tt
  block_cut d (Err why) did = cut_block v w h d why others did

  -- it is tested and set
  module _ (kind : Kind) (old new : List ℕ) (index : IsIndex kind) (has : HasKind g kind) (valid : HasValidImage w) (files : FilesStay v w) where
    plain : IsPlainPlace g (place_of g kind)
    plain = record { kind = kind; writable = hint_writable g kind (index_hint kind index) has; at = refl }

    quiet_swap : (reply : Reply) → IsGiven reply → IsQuiet g (Tests (place_of g kind) old new) reply
        → Did v.locks h (Tests (place_of g kind) old new) reply (host_at v.locks h) w.locks
        → QuietCall Merge h v w (event (key_at v.locks h) (Tests (place_of g kind) old new) reply) (Noted Merge h v Open) (Noted Merge h w Open)
    quiet_swap reply given quiet did =
        quiet_call Merge v w h (Tests (place_of g kind) old new) reply (host_at v.locks h) _ _ did given others valid files
        (λ t turn of before. allowed_plain v.locks h t turn (Tests (place_of g kind) old new) reply plain)
        (noting Merge v w h (Tests (place_of g kind) old new) reply Open Open did.geometry refl
        (λ memory was. remembered_same v.locks w.locks h memory (Tests (place_of g kind) old new) reply was quiet did.mine)
        (λ claims tries was. ap (λ (u : Tries). u.shown)
        (tried_plain g h Merge claims (key_at v.locks h) tries (place_of g kind) (BySwap old new) reply plain) ∙ was)
        (λ calls before f i n same. absurd cc))

    pub swap_went : (result : Result Bool StepNo) → SwapsPlace v.locks h (place_of g kind) old new result w.locks
        → (result ≡ Ok true → WroteHint h (place_of g kind) new v w) → (result ≡ Ok false → Looks h v w)
        → IfOk result (λ swapped. (reply : Reply) × IsSwapReply swapped reply
        × ((r : LogsRead) → Went h v w (Tests (place_of g kind) old new) reply r r))
    swap_went (Ok true) did written kept = (
      Done,
      λ swapped. refl,
      λ r.
          wrote (Tests (place_of g kind) old new) Done r r (place_of g kind) new (written refl) (quiet_swap Done tt plain did)
          (λ calls are. logs_spared g h r calls _ are (spares_index g h kind index has)),
    )
    swap_went (Ok false) (found, did) written kept = (
      Shows found,
      λ swapped. absurd cc,
      λ r.
          looked (Tests (place_of g kind) old new) (Shows found) r r (kept refl) (quiet_swap (Shows found) tt tt did)
          (λ calls are. logs_spared g h r calls _ are (spares_index g h kind index has)),
    )
    swap_went (Err why) did written kept = tt

  -- an own log block is written empty
  pub empty_went : (l : ℕ) (result : Result Unit StepNo) → l < g.logs → HasValidImage w → FilesStay v w
      → WritesPlace v.locks h (place_of g (kinds.Log h l)) empty_log result w.locks
      → OnOk result (WroteHint h (place_of g (kinds.Log h l)) empty_log v w)
      → IfOk result (λ done. (r : LogsRead) → r.emptied ≡ l
      → Went h v w (Writes (place_of g (kinds.Log h l)) empty_log) Done r (emptied_more r))
  empty_went l (Ok done) below valid files did left = λ r at.
      let here : kinds.Log h l ≡ kinds.Log h r.emptied = ap (kinds.Log h) (sym at) in
      wrote (Writes (place_of g (kinds.Log h l)) empty_log) Done r (emptied_more r) (place_of g (kinds.Log h l)) empty_log left
      (quiet_write Merge v w h (kinds.Log h l) empty_log Open done (is.host, below) did others valid files)
      (λ calls are.
      logs_emptied g h r calls _ are (key_at v.locks h) (subst (HasKind g) here (is.host, below))
      (ap (λ (k : Kind). event (key_at v.locks h) (Writes (place_of g k) empty_log) Done) here))
  empty_went l (Err why) below valid files did left = tt

-- a call that was refused cuts the merge
pub log_cut : (v w : WorldView) (h place : ℕ) (kind : Kind) (result : Result Block StepNo) → place ≡ place_of v.locks.geometry kind → Others h v w
    → ReadsPlace v.locks h place result w.locks → IfErr result (IsCut h v w)
log_cut v w h place kind (Ok block) here others did = tt
log_cut v w h place kind (Err why) here others did = read_cut v w h place kind why here others did

pub empty_cut : (v w : WorldView) (h place : ℕ) (kind : Kind) (block : List ℕ) (result : Result Unit StepNo) → place ≡ place_of v.locks.geometry kind
    → IsHint kind → HasKind v.locks.geometry kind → Others h v w → WritesPlace v.locks h place block result w.locks → IfErr result (IsCut h v w)
empty_cut v w h place kind block (Ok done) here hint has others did = tt
empty_cut v w h place kind block (Err why) here hint has others did = write_cut v w h place kind block why here hint has others did

pub swap_cuts : (v w : WorldView) (h place : ℕ) (kind : Kind) (old new : List ℕ) (result : Result Bool StepNo) → place ≡ place_of v.locks.geometry kind
    → IsIndex kind → HasKind v.locks.geometry kind → Others h v w → SwapsPlace v.locks h place old new result w.locks → IfErr result (IsCut h v w)
swap_cuts v w h place kind old new (Ok swapped) here index has others did = tt
swap_cuts v w h place kind old new (Err why) here index has others did = λ command.
    cut_of command v w h (Tests place old new) place refl others _
    (λ reply t turn of before. allowed_plain v.locks h t turn (Tests place old new) reply
    (record { kind = kind; writable = hint_writable v.locks.geometry kind (index_hint kind index) has; at = here })) AnyBlock why did (never why did)
  where
    never : (why : StepNo) → SwapsPlace v.locks h place old new (Err why) w.locks → (at : ℕ) → why ≡ steps.Bad at → told_of v.locks ≡ None
    never (steps.Bad there) refused at is = absurd (refused.1.2 tt)
    never other refused at is = absurd cc

-- the host is as before behind a step
pub merging_on : (h : ℕ) (v w : WorldView) (call : Call) (reply : Reply) (before after : LogsRead) → Went h v w call reply before after
    → IsMerging v h → IsMerging w h
merging_on h v w call reply before after went is = record {
  host = subst (λ (g : Geometry). h < g.hosts) (sym went.geometry) is.host;
  ready = ready_on v w h went.geometry went.memory went.facts is.ready;
}

-- and over the calls of other hosts, with the notes
pub merging_still : (v w : WorldView) (h x : ℕ) → Others x v w → h ≢ x → IsMerging v h → IsMerging w h
merging_still v w h x others apart is = record {
  host = subst (λ (g : Geometry). h < g.hosts) (sym others.locks.lasts.geometry) is.host;
  ready = ready_on v w h others.locks.lasts.geometry (others.locks.memories h apart) (λ a. others.facts h a apart) is.ready;
}

pub merge_noted_still : (v w : WorldView) (h x : ℕ) (outcome : Outcome) (pending : List LogEntry) (r : LogsRead) (n : Notes) → Others x v w → h ≢ x
    → MergeCame h v outcome pending r n → MergeCame h w outcome pending r n
merge_noted_still v w h x outcome pending r n others apart was =
    let memory = others.locks.memories h apart in
    let geometry = others.locks.lasts.geometry in record {
      noted = record {
        remembered = subst (λ (m : HostState). IsRemembered w.locks.geometry n.memory m) (sym memory)
            (subst (λ (g : Geometry). IsRemembered g n.memory (host_at v.locks h)) (sym geometry) was.noted.remembered);
        placed_is = was.noted.placed_is;
        shown_is = was.noted.shown_is;
        full = subst (λ (g : Geometry). IsFullNoted g Merge outcome n.calls) (sym geometry) was.noted.full;
        asks = was.noted.asks;
        wants = ap (λ (g : Geometry). wanted g Merge n.calls n.digests n.asks) geometry ∙ was.noted.wants;
      };
      pending_is = was.pending_is;
      logs = subst (λ (g : Geometry). AreLogs g h r n.calls) (sym geometry) was.logs;
    }
