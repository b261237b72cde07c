-- What a host is sure of in a scan, over its own reads and over the calls of others; and a digest that was handed in.
use Rattle.std.proofs.Common.{◌≡◌, ◌≢◌, ◌⊎◌, ◌++◌, ◌∷◌, ◌+◌, ◌-◌, ◌*◌, ◌/◌, ◌%◌, ◌^◌, ◌<◌, ◌≤◌, ◌∙◌, ℕ, suc, zero, Bool, List, [], None, Some, true, false, ap, arith, length, refl, subst, sym, inl, inr}
use Rattle.std.specs.Prelude.{All, Contains, IfSome, fold, slice_get, zip, if◌then◌else◌, ◌==◌}
use Rattle.std.specs.Option.{option_map_or}
use Rattle.std.proofs.lemmas.Bool.{eq-eqb, eqb-false}
use Rattle.std.proofs.lemmas.List.{length-append}
use Rattle.std.proofs.lemmas.Option.{slice_get_cases}
use Rattle.host_runs.specs.lemmas.OrderlyPlaced.{some_same}
use Rattle.std.proofs.lemmas.List.Elements.{All-append, All-nil}
use Rattle.std.proofs.lemmas.List.Sums.{fold_push}
use Rattle.vol_base.specs.Packing.{Packing}
use Rattle.vol_base.specs.declared.block.Digest.{Digest}
use Rattle.vol_base.specs.declared.command.Command.TheVariants as commands
use Rattle.vol_layout.specs.declared.field.Field.{Field}
use Rattle.vol_layout.specs.declared.field.Field.TheVariants.{Count, Head, Pointer}
use Rattle.vol_layout.specs.declared.geometry.Geometry.{Geometry}
use Rattle.vol_layout.specs.declared.kind.Resource.TheVariants.{File}
use Rattle.vol_layout.specs.declared.kind.Table.{Table}
use Rattle.vol_layout.specs.declared.kind.Table.TheVariants as tables
use Rattle.vol_layout.specs.Fields.{HasField, IsPointer, resource_of, table_of}
use Rattle.vol_layout.specs.Ranges.{data_blocks, limit, per_table}
use Rattle.shared_disk.specs.State.{State}
use Rattle.hint_blocks.specs.declared.entry.LogEntry.{LogEntry}
use Rattle.hint_blocks.specs.HintLists.{HintList}
use Rattle.image_view.specs.Images.{Image}
use Rattle.image_view.specs.Numbers.{logical}
use Rattle.image_view.specs.Pointers.{named}
use Rattle.image_view.specs.Balances.{share, share_of}
use Rattle.image_view.specs.laws.BalanceLaws.{share_named}
use Rattle.table_blocks.specs.Tables.{IsPackingOf, number_in}
use Rattle.lock_store.specs.declared.host.HostState.{HostState}
use Rattle.lock_store.specs.Memories.{holds, key_of, may_read}
use Rattle.lock_store.specs.Views.{LocksView, host_at, key_at, keys_of, told_of}
use Rattle.disk_locks.specs.Consistent.{Consistent}
use Rattle.disk_locks.specs.Sure.{Sure}
use Rattle.disk_locks.specs.laws.SureLaws.{sure_keeps}
use Rattle.host_facts.specs.Facts.Fact.{RecordIs, TableIs}
use Rattle.host_facts.specs.Knows.{Knows}
use Rattle.host_facts.specs.Others.{Others}
use Rattle.host_facts.specs.OwnBlocks.{MayName}
use Rattle.host_facts.specs.Views.{WorldView}
use Rattle.host_facts.specs.laws.DoneLaws.{number_known}
use Rattle.host_facts.specs.laws.FactLaws.{held_readable}
use Rattle.host_facts.specs.laws.ToldLaws.{map_told, sure_and, sure_each}
use Rattle.host_runs.specs.Notes.{Notes, with_digest}
use Rattle.host_runs.specs.Rests.{hint_pushed}
use Rattle.host_runs.specs.Awaited.{wanted}
use Rattle.hint_plans.specs.Nexts.{hinted}
use Rattle.hint_plans.specs.Plans.{ScanNoted}
use Rattle.hint_plans.specs.Scans.{CanLook, IsLooked, IsScan, begun, blocks_in, covered_by, index_at, indexes, looked_at, many_of}
use Rattle.hint_plans.specs.declared.found.Mapped.{Mapped}
use Rattle.hint_plans.specs.declared.scan.Scan.{Scan}
use Rattle.hint_plans.specs.laws.LookedLaws.{blocks_all, blocks_few, covered_most, in_table, looked_more, looked_same, many_most}

-- at most 126 blocks are scanned
pub many_few : (v : WorldView) (h : ℕ) (s : Scan) → IsScan v h s → s.many ≤ 126
many_few v h s is = (many_most is.head s.index s.many is.many).0

pub found_few : (v : WorldView) (h : ℕ) (s : Scan) → IsScan v h s → length s.found ≤ 126
found_few v h s is = let few = many_few v h s is in let room = is.room in let looked = is.looked in omega (arith, few, room, looked)

-- how many digests were handed in says nothing of the volume
pub scan_done : (v : WorldView) (h : ℕ) (s : Scan) → IsScan v h s → IsScan v h (record s { done = s.done + 1 })
scan_done v h s is = record {
  file = is.file;
  held = is.held;
  head = is.head;
  short = is.short;
  many = is.many;
  looked = is.looked;
  room = is.room;
  fields = is.fields;
  sure = is.sure;
}

-- what a host is sure of, where the device and its memory are as before
pub sure_same : (v w : LocksView) (h : ℕ) (P : Image → Type 0) → w.disk.state ≡ v.disk.state → host_at w h ≡ host_at v h → Sure v h P
    → Sure w h P
sure_same v w h P state memory sure here =
    let was : Contains (keys_of v) (key_at v h) =
    subst (λ (s : State). Contains s.keys (key_at v h)) state (subst (λ (m : HostState). Contains (keys_of w) (key_of m)) memory here) in
    subst (λ (s : State). IfSome s.told (λ t. P t.image)) (sym state) (sure was)

-- a scan stands over a read of its own
pub scan_read : (v w : WorldView) (h : ℕ) (s : Scan) → w.locks.geometry ≡ v.locks.geometry → w.locks.disk.state ≡ v.locks.disk.state
    → host_at w.locks h ≡ host_at v.locks h → IsScan v h s → IsScan w h s
scan_read v w h s geometry state memory is = record {
  file = subst (λ (g : Geometry). s.file < g.files) (sym geometry) is.file;
  held = ap (λ (m : HostState). holds m (File s.file)) memory ∙ is.held;
  head = is.head;
  short = subst (λ (g : Geometry). is.head ≤ limit g + 1) (sym geometry) is.short;
  many = is.many;
  looked = is.looked;
  room = is.room;
  fields = subst (λ (g : Geometry). All (λ m. HasField g (Pointer s.file m.index) × HasField g (Count m.number)) s.found) (sym geometry) is.fields;
  sure = subst (λ (g : Geometry). Sure w.locks h (IsLooked g s.file s.index is.head s.looked s.found)) (sym geometry)
      (sure_same v.locks w.locks h (IsLooked v.locks.geometry s.file s.index is.head s.looked s.found) state memory is.sure);
}

-- and over the calls of other hosts
pub scan_still : (v w : WorldView) (h x : ℕ) → Consistent v.locks → Others x v w → h ≢ x → key_at v.locks h ≢ 0 → (s : Scan) → IsScan v h s
    → IsScan w h s
scan_still v w h x c others apart some s is = record {
  file = subst (λ (g : Geometry). s.file < g.files) (sym geometry) is.file;
  held = ap (λ (m : HostState). holds m (File s.file)) memory ∙ is.held;
  head = is.head;
  short = subst (λ (g : Geometry). is.head ≤ limit g + 1) (sym geometry) is.short;
  many = is.many;
  looked = is.looked;
  room = is.room;
  fields = subst (λ (g : Geometry). All (λ m. HasField g (Pointer s.file m.index) × HasField g (Count m.number)) s.found) (sym geometry) is.fields;
  sure = subst (λ (g : Geometry). Sure w.locks h (IsLooked g s.file s.index is.head s.looked s.found)) (sym geometry)
      (sure_keeps v.locks w.locks h x (IsLooked v.locks.geometry s.file s.index is.head s.looked s.found)
      (IsLooked v.locks.geometry s.file s.index is.head s.looked s.found) c others.locks apart some
      (λ i j agrees keeps looked.
      looked_same v.locks.geometry i j s.file s.index is.head s.looked s.found is.file is.short
      (λ y has of. keeps.numbers y has (readable y of)) is.fields looked)
      is.sure);
}
  where
    memory : host_at w.locks h ≡ host_at v.locks h
    memory = others.locks.memories h apart

    geometry : w.locks.geometry ≡ v.locks.geometry
    geometry = others.locks.lasts.geometry

    readable : (y : Field) → (y ≡ Head s.file) ⊎ ((k : ℕ) × (y ≡ Pointer s.file k)) → may_read (host_at v.locks h) (resource_of y) ≡ true
    readable y (inl head) =
        subst (λ (z : Field). may_read (host_at v.locks h) (resource_of z) ≡ true) (sym head)
        (held_readable (host_at v.locks h) (File s.file) is.held)
    readable y (inr (k, pointer)) =
        subst (λ (z : Field). may_read (host_at v.locks h) (resource_of z) ≡ true) (sym pointer)
        (held_readable (host_at v.locks h) (File s.file) is.held)

-- a field in a table
record FieldIn (g : Geometry) (t : Table) : Type 0 where
  pub field : Field
  pub has : HasField g field
  pub at : table_of field ≡ t

-- a data block that a pointer in range names
in_volume : (g : Geometry) (n d : ℕ) → IsPointer g n → named n ≡ Some d → d < data_blocks g
in_volume g n d is names = by (n % 2 ^ 31 == 0) refl
  where
    by : (b : Bool) → (n % 2 ^ 31 == 0) ≡ b → d < data_blocks g
    by true hole = let none : None ≡ Some d = sym (ap (λ (b : Bool). if b then None else Some (n % 2 ^ 31 - 1)) hole) ∙ names in absurd cc
    by false some =
        let one : Some (n % 2 ^ 31 - 1) ≡ Some d = sym (ap (λ (b : Bool). if b then None else Some (n % 2 ^ 31 - 1)) some) ∙ names in
        let same : n % 2 ^ 31 - 1 ≡ d = cc in
        let positive = eqb-false (n % 2 ^ 31) 0 some in
        let most = is.names in omega (arith, same, positive, most)

-- a table of the file was read, which has the pointers from one index to below another
module _ (w : WorldView) (h t : ℕ) (which : Table) (p : Packing) (c : Consistent w.locks) (s : Scan) (is : IsScan w h s)
    (known : Knows w h (TableIs which p)) (packing : IsPackingOf w.locks.geometry which p) (empty : Knows w h (RecordIs []))
    (there : (k : ℕ) → k / per_table ≡ t → table_of (Pointer s.file k) ≡ which) (from : t * per_table ≤ s.index + s.looked)
    (more : s.looked ≤ covered_by s.index s.many t) where
  abbrev upto : ℕ
  upto = covered_by s.index s.many t

  inside : (k : ℕ) → s.index + s.looked ≤ k → k < s.index + s.looked + (upto - s.looked)
      → (k + 1 < is.head) × (k / per_table ≡ t) × HasField w.locks.geometry (Pointer s.file k)
  inside k after before =
      let most = covered_most s.index s.many t in
      let many = many_most is.head s.index s.many is.many in
      let below : k < s.index + upto = omega (arith, before, more, after) in
      let short = is.short in (
        omega (arith, below, most.0, many.1),
        in_table k t (omega (arith, from, after)) (omega (arith, below, most.1)),
        (is.file, omega (arith, below, most.0, many.1, short)),
      )

  says : Sure w.locks h (λ image. (x : FieldIn w.locks.geometry which) → logical w.locks.geometry image x.field ≡ number_in p x.field)
  says =
      sure_each w.locks h (FieldIn w.locks.geometry which) (λ x image. logical w.locks.geometry image x.field ≡ number_in p x.field)
      (λ x. number_known w h which p x.field c known packing empty x.has x.at)

  pub can_look : CanLook p s.file (s.index + s.looked) (upto - s.looked)
  unfolding limit per_table
  can_look k lt =
      let at = inside (s.index + s.looked + k) (omega arith) (omega (arith, lt)) in
      let tables_few = c.geometry.tables.1 in
      let below = at.2.1 in (
        omega (arith, below, tables_few),
        (packing.range (Pointer s.file (s.index + s.looked + k)) at.2 (there (s.index + s.looked + k) at.1)).hole,
      )

  pub scan_looked : IsScan w h (looked_at p s upto)
  scan_looked =
      let most = covered_most s.index s.many t in
      let whole : s.looked + (upto - s.looked) ≡ upto = omega (arith, more) in record {
        file = is.file;
        held = is.held;
        head = is.head;
        short = is.short;
        many = is.many;
        looked = most.0;
        room = let one = is.room in let two = blocks_few p s.file (s.index + s.looked) (upto - s.looked) in
            let three = length-append s.found (blocks_in p s.file (s.index + s.looked) (upto - s.looked)) in
            omega (arith, one, two, three, more);
        fields = All-append (λ m. HasField w.locks.geometry (Pointer s.file m.index) × HasField w.locks.geometry (Count m.number)) s.found
            (blocks_in p s.file (s.index + s.looked) (upto - s.looked)) is.fields
            (blocks_all p s.file (λ m. HasField w.locks.geometry (Pointer s.file m.index) × HasField w.locks.geometry (Count m.number))
            (s.index + s.looked) (upto - s.looked) (λ k d after before names.
            let at = inside k after before in
            (at.2, in_volume w.locks.geometry (number_in p (Pointer s.file k)) d (packing.range (Pointer s.file k) at.2 (there k at.1)) names)));
        sure = λ here.
            map_told (told_of w.locks) _ (λ u. IsLooked w.locks.geometry s.file s.index is.head upto (s.found ++ blocks_in p s.file (s.index + s.looked) (upto - s.looked)) u.image)
            (sure_and w.locks h (IsLooked w.locks.geometry s.file s.index is.head s.looked s.found)
            (λ image. (x : FieldIn w.locks.geometry which) → logical w.locks.geometry image x.field ≡ number_in p x.field) is.sure says here)
            (λ u both.
            subst (λ (n : ℕ). IsLooked w.locks.geometry s.file s.index is.head n (s.found ++ blocks_in p s.file (s.index + s.looked) (upto - s.looked)) u.image) whole
            (looked_more w.locks.geometry u.image p s.file s.index is.head s.looked (upto - s.looked) s.found
            (λ k after before.
            let at = inside k after before in
            (at.0, both.1 (record { field = Pointer s.file k; has = at.2; at = there k at.1 }))) both.0));
      }

-- before the first table is looked at
pub scan_begun : (w : WorldView) (h f i : ℕ) (p : Packing) → Consistent w.locks → f < w.locks.geometry.files
    → holds (host_at w.locks h) (File f) ≡ true → Knows w h (TableIs (tables.File f) p) → IsPackingOf w.locks.geometry (tables.File f) p
    → Knows w h (RecordIs []) → IsScan w h (begun f i (many_of p.word i))
scan_begun w h f i p c below held known packing empty = record {
  file = below;
  held = held;
  head = p.word;
  short = packing.range (Head f) below refl;
  many = refl;
  looked = omega arith;
  room = omega arith;
  fields = All-nil (λ m. HasField w.locks.geometry (Pointer f m.index) × HasField w.locks.geometry (Count m.number));
  sure = λ here.
      map_told (told_of w.locks) (λ t. logical w.locks.geometry t.image (Head f) ≡ p.word)
      (λ t. IsLooked w.locks.geometry f i p.word 0 [] t.image)
      (number_known w h (tables.File f) p (Head f) c known packing empty below refl here)
      (λ t is. record { head_is = is; mapped = refl; names = All-nil (λ m. named (logical w.locks.geometry t.image (Pointer f m.index)) ≡ Some m.number) });
}

-- a block that was found may be read
pub may_name : (v : WorldView) (h : ℕ) (s : Scan) (is : IsScan v h s) (k : ℕ) (m : Mapped) → slice_get s.found k ≡ Some m
    → HasField v.locks.geometry (Count m.number) × MayName v h (Pointer s.file m.index) m.number
may_name v h s is k m at = (
  (element (λ x. HasField v.locks.geometry (Pointer s.file x.index) × HasField v.locks.geometry (Count x.number)) is.fields).1,
  (
    (element (λ x. HasField v.locks.geometry (Pointer s.file x.index) × HasField v.locks.geometry (Count x.number)) is.fields).0,
    held_readable (host_at v.locks h) (File s.file) is.held,
    λ here. map_told (told_of v.locks) (λ t. IsLooked v.locks.geometry s.file s.index is.head s.looked s.found t.image)
        (λ t. share_of (Pointer s.file m.index) (logical v.locks.geometry t.image (Pointer s.file m.index)) m.number ≡ 1) (is.sure here)
        (λ t looked. once (logical v.locks.geometry t.image (Pointer s.file m.index)) m.number
        (element (λ x. named (logical v.locks.geometry t.image (Pointer s.file x.index)) ≡ Some x.number) looked.names)),
  ),
)
  where
    once : (n d : ℕ) → named n ≡ Some d → share n d ≡ 1
    once n d names = share_named n d d names ∙ rw (eq-eqb d d refl) refl

    element : (P : Mapped → Type 0) → All P s.found → P m
    element P all =
        elim (slice_get_cases s.found k).1 [
          | inl (y, lt, there, get) ↦
              let same : y ≡ m = some_same y m (sym there ∙ at) in subst P (get ∙ same) (all k y lt)
          | inr (past, none) ↦ let both : None ≡ Some m = sym none ∙ at in absurd cc
        ]

-- the pairs of lists with one more digest
zip_more : (ds : List Digest) (d : Digest) (ks : List ℕ) (k : ℕ) → slice_get ks (length ds) ≡ Some k
    → zip (ds ++ d ∷ []) ks ≡ zip ds ks ++ (d, k) ∷ []
zip_more [] d [] k at = absurd cc
zip_more [] d (x ∷ ks) k at = let same : x ≡ k = cc in ap (λ (y : ℕ). (d, y) ∷ []) same
zip_more (e ∷ ds) d [] k at = absurd cc
zip_more (e ∷ ds) d (x ∷ ks) k at = ap (λ (zs : List (Digest × ℕ)). (e, x) ∷ zs) (zip_more ds d ks k at)

-- the notes of a scan with a digest that was handed in
pub scan_handed : (v : WorldView) (h : ℕ) (pending : HintList LogEntry) (s : Scan) (digest : Digest) (n : Notes) → s.done < length s.found
    → ScanNoted h v pending.entries s (record n { asks = None })
    → wanted v.locks.geometry (commands.Scan s.file s.index) n.calls (n.digests ++ digest ∷ []) None ≡ None
    → ScanNoted h v (hinted s digest pending).entries (record s { done = s.done + 1 }) (with_digest digest n)
scan_handed v h pending s digest n below noted waits = record {
  noted = record {
    remembered = noted.noted.remembered;
    placed_is = noted.noted.placed_is;
    shown_is = noted.noted.shown_is;
    full = noted.noted.full;
    asks = refl;
    wants = waits;
  };
  many = length-append n.digests (digest ∷ []) ∙ ap (λ (k : ℕ). k + 1) noted.many;
  hints = ap (λ (es : List LogEntry). hint_pushed s.file es (digest, index_at s)) noted.hints
      ∙ sym (fold_push (hint_pushed s.file) n.pending (zip n.digests (indexes s.found)) (digest, index_at s))
      ∙ ap (λ (zs : List (Digest × ℕ)). fold (hint_pushed s.file) n.pending zs)
      (sym (zip_more n.digests digest (indexes s.found) (index_at s) (ap (slice_get (indexes s.found)) noted.many ∙ next s.found s.done below)));
  seen = noted.seen;
}
  where
    next : (found : List Mapped) (k : ℕ) → k < length found → slice_get (indexes found) k ≡ Some (option_map_or (λ m. m.index) (slice_get found k) 0)
    next [] k lt = absurd (omega (arith, lt))
    next (m ∷ found) zero lt = refl
    next (m ∷ found) (suc k) lt = next found k (omega (arith, lt))
