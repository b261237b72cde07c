-- The reads of tables and blocks of a `scan`, and its end.
use Rattle.std.proofs.Common.{◌≡◌, ◌≢◌, ◌++◌, ◌∷◌, ◌+◌, ◌-◌, ◌/◌, ◌<◌, ◌≤◌, ◌==◌, ◌∙◌, ℕ, List, [], None, Option, Some, ap, arith, length, refl, subst, sym, inl}
use Rattle.std.specs.Prelude.{Ok, fold, slice_get, zip, if◌then◌else◌}
use Rattle.std.specs.Option.{option_or}
use Rattle.std.proofs.lemmas.List.{length-map}
use Rattle.vol_base.specs.declared.answer.Answer.TheVariants as answers
use Rattle.vol_base.specs.declared.block.Block.{Block}
use Rattle.vol_base.specs.declared.command.Command.TheVariants as commands
use Rattle.vol_base.specs.declared.plain.PlainReply.{PlainReply}
use Rattle.vol_layout.specs.declared.field.Field.TheVariants.{Count, Pointer}
use Rattle.vol_layout.specs.declared.geometry.Geometry.{Geometry}
use Rattle.vol_layout.specs.declared.kind.Kind.TheVariants as kinds
use Rattle.vol_layout.specs.declared.kind.Resource.TheVariants.{File}
use Rattle.vol_layout.specs.declared.kind.Table.{Table}
use Rattle.vol_layout.specs.declared.kind.Table.TheVariants as tables
use Rattle.vol_layout.specs.Fields.{HasField, table_of}
use Rattle.vol_layout.specs.Places.{place_of}
use Rattle.vol_layout.specs.Ranges.{limit, per_table}
use Rattle.vol_layout.specs.laws.PlaceLaws.{kind_at-place}
use Rattle.shared_disk.specs.Events.{Event, Shows, event}
use Rattle.hint_blocks.specs.declared.entry.LogEntry.{LogEntry}
use Rattle.hint_blocks.specs.HintLists.{HintList}
use Rattle.table_blocks.specs.Tables.{IsPackingOf}
use Rattle.lock_store.specs.declared.host.HostState.{HostState}
use Rattle.lock_store.specs.Calls.{ReadsBlock}
use Rattle.lock_store.specs.Events.{read_of}
use Rattle.lock_store.specs.Memories.{holds}
use Rattle.lock_store.specs.Views.{key_at}
use Rattle.disk_locks.specs.Consistent.{Consistent}
use Rattle.host_facts.specs.Facts.Fact.{RecordIs, TableIs}
use Rattle.host_facts.specs.Knows.{Knows}
use Rattle.host_facts.specs.Looks.{Looks}
use Rattle.host_facts.specs.Others.{Others}
use Rattle.host_facts.specs.Views.{WorldView}
use Rattle.host_facts.specs.laws.ToldLaws.{map_told}
use Rattle.host_notes.specs.FileTurns.{at_answer}
use Rattle.host_notes.specs.Owes.{plan_moment}
use Rattle.host_notes.specs.laws.OwesLaws.{owes_scanned}
use Rattle.host_runs.specs.Awaited.{wanted}
use Rattle.host_runs.specs.HintCauses.{mapped_from}
use Rattle.host_runs.specs.Notes.{NotedCall, Notes}
use Rattle.host_runs.specs.Rests.{hint_pushed}
use Rattle.plan_parts.specs.Fetched.{Fetched}
use Rattle.plan_parts.specs.QuietCalls.{QuietCall}
use Rattle.plan_parts.specs.declared.kept.Kept.{Kept}
use Rattle.plan_parts.specs.declared.outcome.Outcome.TheVariants as outcomes
use Rattle.plan_parts.specs.laws.BlockLaws.{quiet_block}
use Rattle.plan_parts.specs.laws.NoCallLaws.{others_same, uncalled_turn}
use Rattle.plan_parts.specs.laws.QuietCallLaws.{wanted_behind}
use Rattle.plan_parts.specs.laws.StepLaws.{ready_rests}
use Rattle.hint_plans.specs.Plans.{Agrees, Came, HasCome, HasSeen, IsHost, PlanStands, ScanNoted}
use Rattle.hint_plans.specs.Scans.{CanLook, IsScan, begun, behind_scan, covered_by, first_scan, indexes, looked_at, many_of}
use Rattle.hint_plans.specs.declared.found.Mapped.{Mapped}
use Rattle.hint_plans.specs.declared.plan.Come.TheVariants.{More, Uncalled, Works}
use Rattle.hint_plans.specs.declared.plan.Doing.TheVariants as doings
use Rattle.hint_plans.specs.declared.scan.Scan.{Scan}
use Rattle.hint_plans.specs.laws.HostLaws.{host_on, ready_key}
use Rattle.hint_plans.specs.laws.LookedLaws.{covered_most, covered_past, many_most, table_number}
use Rattle.hint_plans.specs.laws.ScanLaws.{can_look, many_few, may_name, scan_begun, scan_looked, scan_read}
use Rattle.hint_plans.specs.laws.ScanSteps.{asks_on, behind_came, told_scan, waits_not}

-- pointers of one table
head_table : (f k : ℕ) → k / per_table ≡ 0 → table_of (Pointer f k) ≡ tables.File f
head_table f k is = ap (λ (t : ℕ). if t == 0 then tables.File f else tables.More f t) is

one_table : (f k a t : ℕ) → t ≡ a / per_table → k / per_table ≡ t → table_of (Pointer f k) ≡ table_of (Pointer f a)
one_table f k a t at is = ap (λ (n : ℕ). if n == 0 then tables.File f else tables.More f n) (is ∙ at)

-- the first table block was read
module _ (v w : WorldView) (h f i : ℕ) (pending : HintList LogEntry) (kept : Kept) (c : Consistent v.locks) (later : Consistent w.locks)
    (is : PlanStands v h pending (doings.ReadsHead f i)) (did : Fetched h v w (tables.File f) kept) where
  abbrev many : ℕ
  many = many_of kept.table.word i

  known : Knows w h (TableIs (tables.File f) kept.table)
  known = subst (λ (t : Table). Knows w h (TableIs t kept.table)) did.which did.is_kept.known

  packing : IsPackingOf w.locks.geometry (tables.File f) kept.table
  packing = subst (λ (t : Table). IsPackingOf w.locks.geometry t kept.table) did.which did.is_kept.packing

  empty : Knows w h (RecordIs [])
  empty = did.looks.facts (RecordIs []) is.is_host.ready.empty

  start : IsScan w h (begun f i many)
  start =
      scan_begun w h f i kept.table later (subst (λ (g : Geometry). f < g.files) (sym did.looks.geometry) is.at.0)
      (ap (λ (m : HostState). holds m (File f)) did.looks.memory ∙ is.at.1) known packing empty

  pub head_looks : CanLook kept.table f i (covered_by i many 0)
  head_looks =
      subst (λ (n : ℕ). CanLook kept.table f i n) all
      (subst (λ (a : ℕ). CanLook kept.table f a (covered_by i many 0 - 0)) plain
      (can_look w h 0 (tables.File f) kept.table later (begun f i many) start known packing empty (head_table f) (omega arith) (omega arith)))
    where
      plain : i + 0 ≡ i
      plain = omega arith

      all : covered_by i many 0 - 0 ≡ covered_by i many 0
      all = omega arith

  pub head_came : HasCome h v w pending pending (doings.ReadsHead f i) (behind_scan (first_scan kept.table f i))
  head_came =
      behind_came v w h pending (doings.ReadsHead f i) (first_scan kept.table f i) did.event c later is.is_host did.looks scan refl
      (λ n. Agrees h v pending.entries (doings.ReadsHead f i) n) (λ n noted. noted)
      (did.quiet (commands.Scan f i) outcomes.Open (λ a b d r same. absurd cc))
      (λ below owes. record {
        owes = owes;
        stands = (record { is_host = host; at = (scan, below, refl) }, refl);
        tables = λ uncut t p is_known. did.looks.facts (TableIs t p) is_known;
        writes = λ uncut. did.looks.state;
        fewer = omega arith;
      })
      (λ all owes. record {
        owes = owes;
        stands = (record { is_host = host; at = (scan, all, omega arith) }, refl);
        tables = λ uncut t p is_known. did.looks.facts (TableIs t p) is_known;
        writes = λ uncut. did.looks.state;
        fewer = omega arith;
      })
      (λ owes. record {
        owes = owes;
        stands = host.volume;
        tables = λ uncut t p is_known. did.looks.facts (TableIs t p) is_known;
        writes = λ uncut. did.looks.state;
        fewer = omega arith;
      })
    where
      host : IsHost w h pending
      host = host_on v w h pending did.looks.geometry did.looks.memory did.looks.facts is.is_host

      scan : IsScan w h (first_scan kept.table f i)
      scan =
          scan_looked w h 0 (tables.File f) kept.table later (begun f i many) start known packing empty (head_table f) (omega arith) (omega arith)

-- a further table block was read
module _ (v w : WorldView) (h : ℕ) (s : Scan) (which : Table) (pending : HintList LogEntry) (kept : Kept) (c : Consistent v.locks)
    (later : Consistent w.locks) (is : PlanStands v h pending (doings.ReadsTable s)) (table_is : which ≡ table_of (Pointer s.file (s.index + s.looked)))
    (did : Fetched h v w which kept) where
  abbrev number : ℕ
  number = (s.index + s.looked) / per_table

  there : (k : ℕ) → k / per_table ≡ number → table_of (Pointer s.file k) ≡ kept.which
  there k at = one_table s.file k (s.index + s.looked) number refl at ∙ sym table_is ∙ sym did.which

  before_scan : IsScan w h s
  before_scan = scan_read v w h s did.looks.geometry did.looks.state did.looks.memory is.at.0

  no_record : Knows w h (RecordIs [])
  no_record = did.looks.facts (RecordIs []) is.is_host.ready.empty

  more : s.looked < covered_by s.index s.many number
  more = covered_past s.index s.many number s.looked is.at.1 (table_number (s.index + s.looked) number refl).1

  pub table_looks : CanLook kept.table s.file (s.index + s.looked) (covered_by s.index s.many number - s.looked)
  table_looks =
      can_look w h number kept.which kept.table later s before_scan did.is_kept.known did.is_kept.packing no_record there
      (table_number (s.index + s.looked) number refl).0 (omega (arith, more))

  pub upto_few : (s.looked ≤ covered_by s.index s.many number) × (covered_by s.index s.many number ≤ 126)
  upto_few =
      let most = (covered_most s.index s.many number).0 in
      let few = many_few w h s before_scan in (omega (arith, more), omega (arith, most, few))

  pub table_came : HasCome h v w pending pending (doings.ReadsTable s)
      (behind_scan (looked_at kept.table s (covered_by s.index s.many number)))
  table_came =
      behind_came v w h pending (doings.ReadsTable s) (looked_at kept.table s (covered_by s.index s.many number)) did.event c later
      is.is_host did.looks scan is.at.2 (λ n. Agrees h v pending.entries (doings.ReadsTable s) n) (λ n noted. noted)
      (did.quiet (commands.Scan s.file s.index) outcomes.Open (λ a b d r same. absurd cc))
      (λ below owes. record {
        owes = owes;
        stands = (record { is_host = host; at = (scan, below, is.at.2) }, refl);
        tables = λ uncut t p is_known. did.looks.facts (TableIs t p) is_known;
        writes = λ uncut. did.looks.state;
        fewer = let few = upto_few.1 in omega (arith, more, few);
      })
      (λ all owes. record {
        owes = owes;
        stands = (record { is_host = host; at = (scan, all, none_done) }, refl);
        tables = λ uncut t p is_known. did.looks.facts (TableIs t p) is_known;
        writes = λ uncut. did.looks.state;
        fewer = let few = upto_few.1 in let none = is.at.2 in omega (arith, more, few, none);
      })
      (λ owes. record {
        owes = owes;
        stands = host.volume;
        tables = λ uncut t p is_known. did.looks.facts (TableIs t p) is_known;
        writes = λ uncut. did.looks.state;
        fewer = let few = upto_few.1 in omega (arith, more, few);
      })
    where
      none_done : s.done ≤ length (looked_at kept.table s (covered_by s.index s.many number)).found
      none_done = let none = is.at.2 in omega (arith, none)

      host : IsHost w h pending
      host = host_on v w h pending did.looks.geometry did.looks.memory did.looks.facts is.is_host

      scan : IsScan w h (looked_at kept.table s (covered_by s.index s.many number))
      scan =
          scan_looked w h number kept.which kept.table later s before_scan did.is_kept.known did.is_kept.packing no_record there
          (table_number (s.index + s.looked) number refl).0 (omega (arith, more))

-- the next block was read: its digest is asked for
module _ (v w : WorldView) (h : ℕ) (s : Scan) (m : Mapped) (block : Block) (pending : HintList LogEntry) (c : Consistent v.locks)
    (later : Consistent w.locks) (is : PlanStands v h pending (doings.ReadsBlock s)) (next : slice_get s.found s.done ≡ Some m)
    (rest : s.done ≢ length s.found) (did : ReadsBlock v.locks h (kinds.Number m.number) (Ok block) w.locks) (looks : Looks h v w)
    (others : Others h v w) where
  abbrev e : Event
  e = event (key_at v.locks h) (read_of v.locks (kinds.Number m.number)) (Shows block.0)

  abbrev Before : Notes → Type 0
  Before n = ScanNoted h v pending.entries s n

  abbrev Between : Notes → Type 0
  Between n = ScanNoted h w pending.entries s n

  may : HasField v.locks.geometry (Count m.number)
  may = (may_name v h s is.at.0 s.done m next).0

  block_call : QuietCall (commands.Scan s.file s.index) h v w e Before Between
  block_call =
      let call = quiet_block v w h m.number block c may did others (commands.Scan s.file s.index) outcomes.Open in record {
        acts = call.acts;
        answered = call.answered;
        geometry = call.geometry;
        others = call.others;
        valid = call.valid;
        files = call.files;
        allowed = λ x turn of noted. call.allowed x turn of noted.noted;
        noted = λ n noted. record {
          noted = call.noted n noted.noted;
          many = noted.many;
          hints = noted.hints;
          seen = subst (λ (g : Geometry). HasSeen g s.file s.index (indexes s.found) (n.calls ++ record { event = e; before = v.locks.disk.state } ∷ [])) (sym looks.geometry)
              (record {
                earlier = n.calls;
                last = record { event = e; before = v.locks.disk.state };
                calls_are = refl;
                mapped = told_scan v h s looks.registered is.at.0 is.at.1;
              });
        };
      }

  pub block_came : Came h v w pending pending (doings.ReadsBlock s) (More (doings.AsksBlock s block))
  block_came = record {
    owes = asks_on s.file s.index h v w e (ready_key v h c is.is_host.ready) Before Between (λ n noted. noted.noted) block_call
        (Agrees h w pending.entries (doings.AsksBlock s block)) (Some block)
        (tt, m.number, place_of v.locks.geometry (kinds.Number m.number), kind_at-place v.locks.geometry (kinds.Number m.number) may, refl)
        (λ n noted. (subst (ScanNoted h w pending.entries s) (sym (waits_not n noted.noted.asks)) noted, refl));
    stands = (
      record {
        is_host = host_on v w h pending looks.geometry looks.memory looks.facts is.is_host;
        at = (
          scan_read v w h s looks.geometry looks.state looks.memory is.at.0,
          is.at.1,
          (let most = is.at.2 in omega (arith, most, rest)),
        );
      },
      refl,
    );
    tables = λ uncut t p known. looks.facts (TableIs t p) known;
    writes = λ uncut. looks.state;
    fewer = omega arith;
  }

-- the digest of that block is waited for
pub block_waits : (v : WorldView) (h : ℕ) (s : Scan) (block : Block) (pending : HintList LogEntry)
    → HasCome h v v pending pending (doings.AsksBlock s block) (Works (doings.AsksBlock s block) block)
block_waits v h s block pending = record {
  same = refl;
  kept = refl;
  stays = refl;
  asks = tt;
  wants = λ n noted.
      ap (λ (calls : List NotedCall). wanted v.locks.geometry (commands.Scan s.file s.index) calls n.digests n.asks) noted.0.seen.calls_are
      ∙ wanted_behind v.locks.geometry (commands.Scan s.file s.index) noted.0.seen.earlier noted.0.seen.last n.digests n.asks ∙ noted.1;
}

-- all blocks were scanned
pub scanned_came : (v : WorldView) (h k : ℕ) (s : Scan) (pending : HintList LogEntry) → Consistent v.locks
    → PlanStands v h pending (doings.ReadsBlock s) → s.done ≡ k → k ≡ length s.found
    → Came h v v pending pending (doings.ReadsBlock s) (Uncalled (answers.Scanned k))
scanned_came v h k s pending c is done all = record {
  owes = record {
    made = None;
    called = refl;
    others = others_same v h;
    quiet = λ n noted. noted.noted.wants;
    owes = λ n noted.
        let x = plan_moment v.locks.geometry h (commands.Scan s.file s.index) v.locks.disk v.locks.disk None None n in
        let remembered = noted.noted.remembered in (
          at_answer x pending.entries,
          owes_scanned v.locks.geometry h v.locks.disk v.locks.disk None None n s.file s.index k pending.entries
              (uncalled_turn (commands.Scan s.file s.index) h v n c refl)
              (record {
                digests = sym (noted.many ∙ done);
                earlier = noted.seen.earlier;
                last = noted.seen.last;
                calls = noted.seen.calls_are;
                mapped = map_told noted.seen.last.before.told (λ t. mapped_from v.locks.geometry t.image s.file s.index ≡ indexes s.found)
                    (λ t. k ≡ length (mapped_from v.locks.geometry t.image s.file s.index)) noted.seen.mapped
                    (λ t found. all ∙ sym (length-map s.found (λ (m : Mapped). m.index)) ∙ sym (ap length found));
              })
              (record {
                earlier = noted.seen.earlier;
                last = noted.seen.last;
                calls = noted.seen.calls_are;
                hints = map_told noted.seen.last.before.told (λ t. mapped_from v.locks.geometry t.image s.file s.index ≡ indexes s.found)
                    (λ t. pending.entries ≡ fold (hint_pushed s.file) n.pending (zip n.digests (mapped_from v.locks.geometry t.image s.file s.index)))
                    noted.seen.mapped
                    (λ t found. noted.hints ∙ ap (λ (ks : List ℕ). fold (hint_pushed s.file) n.pending (zip n.digests ks)) (sym found));
              })
              (ap (λ (o : Option PlainReply). option_or o None) noted.noted.placed_is) noted.noted.shown_is
              (ready_rests v h x remembered refl c is.is_host.ready),
          record {
            rests = record { remembered = remembered; rests = inl is.is_host.ready; between = refl };
            pending_is = refl;
          },
        );
  };
  stands = is.is_host.volume;
  tables = λ uncut t p known. known;
  writes = λ uncut. refl;
  fewer = omega arith;
}

-- the next index to look at is below the greatest length
pub next_index : (v : WorldView) (h : ℕ) (s : Scan) → Consistent v.locks → IsScan v h s → s.looked < s.many
    → (s.index + s.looked < limit v.locks.geometry) × (s.index + s.looked < 16128)
unfolding limit per_table
next_index v h s c is less =
    let most = (many_most is.head s.index s.many is.many).1 in
    let short = is.short in
    let tables_few = c.geometry.tables.1 in
    (omega (arith, less, most, short), omega (arith, less, most, short, tables_few))
