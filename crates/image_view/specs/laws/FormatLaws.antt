-- A formatted image is valid, and has no file and no mapping.
use Rattle.std.proofs.Common.{◌≡◌, ◌<◌, ◌≤◌, ◌+◌, ◌-◌, ◌*◌, ◌/◌, ℕ, zero, suc, true, false, List, [], ◌∷◌, ◌++◌, length, map, replicate, sum_by, None, refl, sym, ap, ◌∙◌, arith, get_or, length-append}
use Rattle.std.specs.Prelude.{All, codes, nat_lt}
use Rattle.std.specs.List.{flat_map, range_with_len, list_all}
use Rattle.std.proofs.lemmas.List.{length-replicate}
use Rattle.std.proofs.lemmas.List.Elements.{All-append, All-cons, All-nil, All-replicate}
use Rattle.std.proofs.lemmas.Bool.{ltb-true}
use Rattle.std.proofs.lemmas.List.Sums.{AllPass-from_list_all, sum_by-cons}
use Rattle.vol_base.specs.Bytes.{bytes_of, number_at, u32_at, u64_at, zeros}
use Rattle.vol_base.specs.laws.BytesLaws.{length-bytes_of, length-zeros, number_at-behind, number_at-zeros}
use Rattle.vol_layout.specs.declared.geometry.Geometry.{Geometry}
use Rattle.vol_layout.specs.declared.kind.Kind.TheVariants as kinds
use Rattle.vol_layout.specs.declared.kind.Resource.{Resource}
use Rattle.vol_layout.specs.declared.kind.Table.{Table}
use Rattle.vol_layout.specs.declared.kind.Table.TheVariants as tables
use Rattle.vol_layout.specs.declared.field.Field.{Field}
use Rattle.vol_layout.specs.declared.field.Field.TheVariants.{Head, Pointer, Slot, Count}
use Rattle.vol_layout.specs.declared.field.Edit.{Edit}
use Rattle.vol_layout.specs.Blank.{blank_table, table_magic}
use Rattle.vol_layout.specs.Edits.{edited, touches}
use Rattle.vol_layout.specs.Fields.{HasField, IsInRange, byte_of, table_of}
use Rattle.vol_layout.specs.Journal.{edits_of, edit_at, journal_key}
use Rattle.vol_layout.specs.Ranges.{HasResource, per_table}
use Rattle.vol_layout.specs.laws.BlankLaws.{blank_table-is}
use Rattle.slot_lock_blocks.specs.declared.slot.Slot.TheVariants as slots
use Rattle.slot_lock_blocks.specs.declared.lock.LockWord.TheVariants as locks
use Rattle.slot_lock_blocks.specs.ReaderKeys.{nobody}
use Rattle.image_view.specs.Images.{Image, block_at}
use Rattle.image_view.specs.Numbers.{field, journal, logical, standing}
use Rattle.image_view.specs.HostKeys.{lock_state_at, slot_state_at}
use Rattle.image_view.specs.Files.{volume_file}
use Rattle.image_view.specs.Mappings.{reference_fields, uses}
use Rattle.image_view.specs.Balances.{share}
use Rattle.image_view.specs.Spelled.{AreGiven, IsJournal, IsLockOf, IsSlotOf, IsTable, MayHaveWord}
use Rattle.image_view.specs.Valid.{IsValid}
use Rattle.slot_lock_blocks.specs.laws.FreeLaws.{free_slot, free_lock}
use Rattle.vol_layout.specs.laws.JournalLaws.{empty_journal}
use Rattle.image_view.specs.Formatted.{IsFormatted}
use Rattle.image_view.specs.laws.FrameLaws.{HasTable-table_of}
use Rattle.image_view.specs.laws.FileLaws.{volume_file_none}
use Rattle.image_view.specs.laws.BalanceLaws.{share_none}
use Rattle.image_view.specs.laws.UseLaws.{sum_by_references_same, uses-sum_by}

-- a number behind the magic and before the end is 0
behind_magic : (width at : ℕ) (magic : List ℕ) → length magic ≡ 8 → number_at width (magic ++ zeros 4088) (length magic + at) ≡ 0
behind_magic width at magic eight = number_at-behind width at magic (zeros 4088) ∙ number_at-zeros width at 4088

no_edits : (block : List ℕ) → u32_at block 8 ≡ 0 → edits_of block ≡ []
unfolding edits_of
no_edits block none = ap (λ n. map (λ k. edit_at block (64 + 16 * k)) (range_with_len 0 n)) none

blank_slot : (counter h : ℕ) → IsSlotOf counter h (codes "DEDESLOT" ++ zeros 4088)
blank_slot counter h = record {
  slot = slots.Free;
  spelled = (tt, sym free_slot);
  host = λ some. absurd (some refl);
  given = All-nil (λ key. key / 16 ≤ counter);
}

given_none : (counter n : ℕ) → AreGiven counter (replicate n 0)
given_none counter n = All-replicate (λ key. key / 16 ≤ counter) n 0 (omega arith)

blank_lock : (g : Geometry) (counter : ℕ) (r : Resource) → IsLockOf g counter r (codes "DEDELOCK" ++ zeros 4088)
unfolding nobody
blank_lock g counter r = record {
  word = locks.Free;
  spelled = (tt, sym free_lock);
  resource = tt;
  given = All-cons (λ key. key / 16 ≤ counter) 0 (replicate 16 0) (omega arith) (given_none counter 16);
}

blank_journal : (g : Geometry) (counter : ℕ) (block : List ℕ) → block ≡ codes "DEDEJRNL" ++ zeros 4088
    → (edits_of block ≡ []) × IsJournal g counter block
blank_journal g counter block is =
    let count : u32_at block 8 ≡ 0 = ap (λ (xs : List ℕ). u32_at xs 8) is ∙ behind_magic 4 0 (codes "DEDEJRNL") refl in
    let key : journal_key block ≡ 0 = ap (λ (xs : List ℕ). u64_at xs 16) is ∙ behind_magic 8 8 (codes "DEDEJRNL") refl in
    let edits = no_edits block count in (
      edits,
      record {
        spelled = rw (edits, key) (record {
          edits = record { few = omega arith; each = All-nil _; apart = tt };
          width = omega arith;
          keyless = λ e. refl;
          spelled = is ∙ sym empty_journal;
        });
        given = rw key (given_none counter 1);
      },
    )

-- a blank table, and the numbers in it
abbrev small : ℕ → Type 0
small byte = byte < 256

small_bytes : (xs : List ℕ) → list_all (λ x. nat_lt x 256) xs ≡ true → All small xs
small_bytes xs h = λ k d lt. ltb-true (get_or xs k d) 256 (AllPass-from_list_all (λ x. nat_lt x 256) xs h k d lt)

magic_long : (t : Table) → (length (table_magic t) ≡ 8) × All small (table_magic t) × MayHaveWord t 0
magic_long (tables.File f) = (refl, small_bytes (codes "DEDEFILE") refl, tt)
magic_long (tables.More f b) = (refl, small_bytes (codes "DEDEFILE") refl, refl)
magic_long (tables.Group r) = (refl, small_bytes (codes "DEDECNTS") refl, refl)
magic_long (tables.Part p) = (refl, small_bytes (codes "DEDEAREN") refl, refl)

small_count : All small (bytes_of 4 1008)
unfolding bytes_of
small_count = small_bytes (bytes_of 4 1008) refl

small_zeros : (n : ℕ) → All small (zeros n)
unfolding zeros
small_zeros n = All-replicate small n 0 (omega arith)

blank_small : (t : Table) → All small (blank_table t)
blank_small t =
    rw (blank_table-is t) (All-append small (table_magic t ++ bytes_of 4 1008) (zeros 4084) (All-append small (table_magic t) (bytes_of 4 1008) (magic_long t).1 small_count) (small_zeros 4084))

blank_is_table : (t : Table) → IsTable t (blank_table t)
unfolding blank_table per_table
blank_is_table t =
    let m = magic_long t in
    record {
      packing = record { magic = table_magic t; word = 0; entries = replicate 1008 (zeros 4) };
      fits = record {
        magic = m.0;
        word = omega arith;
        room = rw (length-replicate 1008 (zeros 4)) (omega arith);
        wide = All-replicate (λ entry. length entry ≡ 4) 1008 (zeros 4) (length-zeros 4);
      };
      magic = refl;
      word = m.2;
      entries = length-replicate 1008 (zeros 4);
      spelled = refl;
      bytes = blank_small t;
    }

number_in_blank : (t : Table) (at : ℕ) → 12 ≤ at → u32_at (blank_table t) at ≡ 0
number_in_blank t at past =
    let front = table_magic t ++ bytes_of 4 1008 in
    let m = magic_long t in
    let long : length front ≡ 12 = omega (arith, m.0, length-append (table_magic t) (bytes_of 4 1008), length-bytes_of 4 1008) in
    let e : at ≡ length front + (at - 12) = omega arith in
    rw (blank_table-is t) (ap (number_at 4 (front ++ zeros 4084)) e ∙ number_at-behind 4 (at - 12) front (zeros 4084) ∙ number_at-zeros 4 (at - 12) 4084)

-- the numbers and edits of a formatted image
past_header : (x : Field) → 12 ≤ byte_of x
past_header (Head f) = omega arith
past_header (Pointer f i) = omega arith
past_header (Slot s) = omega arith
past_header (Count d) = omega arith

field-formatted : (g : Geometry) (image : Image) (x : Field) → IsFormatted g image → HasField g x → field g image x ≡ 0
unfolding field
field-formatted g image x formatted has =
    ap (λ (block : List ℕ). u32_at block (byte_of x)) (formatted.tables (table_of x) (HasTable-table_of g x has)) ∙ number_in_blank (table_of x) (byte_of x) (past_header x)

journal-formatted : (g : Geometry) (counter : ℕ) (image : Image) (h : ℕ) → IsFormatted g image → h < g.hosts → journal g image h ≡ []
unfolding journal
journal-formatted g counter image h formatted below = (blank_journal g counter (block_at g image (kinds.Journal h)) (formatted.journals h below)).0

pub all_empty : (j : ℕ → List Edit) (a n m : ℕ) → a + n ≤ m → ((k : ℕ) → k < m → j k ≡ []) → flat_map j (range_with_len a n) ≡ []
all_empty j a zero m le none = refl
all_empty j a (suc n) m le none = rw (none a (omega arith), all_empty j (a + 1) n m (omega arith) none) refl

pub logical-formatted : (g : Geometry) (image : Image) (x : Field) → IsFormatted g image → HasField g x → logical g image x ≡ 0
unfolding logical standing
logical-formatted g image x formatted has =
    ap (λ es. edited es x (field g image x)) (all_empty (λ h. journal g image h) 0 g.hosts g.hosts (omega arith) (λ h below. journal-formatted g 0 image h formatted below))
    ∙ field-formatted g image x formatted has

in_range : (g : Geometry) (x : Field) → IsInRange g x 0
in_range g (Head f) = omega arith
in_range g (Pointer f i) = record { width = omega arith; hole = λ e. refl; names = omega arith }
in_range g (Slot s) = omega arith
in_range g (Count d) = omega arith

lock-formatted : (g : Geometry) (image : Image) (r : Resource) → IsFormatted g image → HasResource g r → lock_state_at g image r ≡ 0
unfolding lock_state_at
lock-formatted g image r formatted has = ap (λ (block : List ℕ). u32_at block 8) (formatted.locks r has) ∙ behind_magic 4 0 (codes "DEDELOCK") refl

pub slot-formatted : (g : Geometry) (image : Image) (h : ℕ) → IsFormatted g image → h < g.hosts → slot_state_at g image h ≡ 0
unfolding slot_state_at
slot-formatted g image h formatted below = ap (λ (block : List ℕ). u32_at block 8) (formatted.slots h below) ∙ behind_magic 4 0 (codes "DEDESLOT") refl

sum_by_zeros : {X : Type 0} (xs : List X) → sum_by (λ x. 0) xs ≡ 0
sum_by_zeros [] = refl
sum_by_zeros {X} (x ∷ xs) = rw (sum_by-cons {X = X} (λ x. 0) x xs, sum_by_zeros xs) refl

uses-formatted : (g : Geometry) (image : Image) (d : ℕ) → IsFormatted g image → uses g image d ≡ 0
uses-formatted g image d formatted =
    uses-sum_by g image d
    ∙ sum_by_references_same g (λ x. share (logical g image x) d) (λ x. 0) (λ x has. ap (λ n. share n d) (logical-formatted g image x formatted has) ∙ share_none 0 d refl)
    ∙ sum_by_zeros (reference_fields g)

-- a formatted image is valid, whatever the device's counter
pub formatted_is_valid : (g : Geometry) (counter : ℕ) (image : Image) → IsFormatted g image → IsValid g counter image
formatted_is_valid g counter image formatted = record {
  geometry = (formatted.geometry, formatted.superblock);
  long = formatted.long;
  slots = λ h below. rw (formatted.slots h below) (blank_slot counter h);
  journals = λ h below. (blank_journal g counter (block_at g image (kinds.Journal h)) (formatted.journals h below)).1;
  locks = λ r has. rw (formatted.locks r has) (blank_lock g counter r);
  tables = λ t has. rw (formatted.tables t has) (blank_is_table t);
  numbers = λ x has. rw (field-formatted g image x formatted has) (in_range g x);
  held = record {
    locks = λ r has is. absurd (omega (arith, lock-formatted g image r formatted has, is));
    records = λ h below some. absurd (some (journal-formatted g counter image h formatted below));
    edits = λ h x below some. let none : touches (journal g image h) x ≡ false = rw (journal-formatted g counter image h formatted below) refl in cc;
    slots = λ h below s d some named. let none : touches (journal g image h) (Slot s) ≡ false = rw (journal-formatted g counter image h formatted below) refl in cc;
  };
  counted = record {
    counts = λ d has. logical-formatted g image (Count d) formatted has ∙ sym (uses-formatted g image d formatted);
    unmarked = λ f i has un. absurd (omega (arith, logical-formatted g image (Pointer f i) formatted has, un.0));
  };
}

-- it has no file, and nothing of it is used or mapped
pub formatted_has_no_file : (g : Geometry) (image : Image) (f : ℕ) → IsFormatted g image → f < g.files → volume_file g image f ≡ None
formatted_has_no_file g image f formatted below = volume_file_none g image f (logical-formatted g image (Head f) formatted below)
