-- Images that agree on the blocks that a check reads have the same numbers, the same usage and the same faults.
use Rattle.std.proofs.Common.{◌≡◌, ◌⊎◌, ◌<◌, ◌≤◌, ◌+◌, ◌-◌, ◌%◌, ℕ, zero, suc, cond, List, [], ◌∷◌, length, sum_by, refl, sym, ap, ◌∙◌, subst, inl, inr, arith}
use Rattle.std.specs.Prelude.{Contains, nat_lt, slice_get}
use Rattle.std.specs.List.{flat_map, range_with_len}
use Rattle.std.proofs.lemmas.List.Elements.{All-weaker}
use Rattle.std.proofs.lemmas.List.Sums.{sum_by-cons}
use Rattle.vol_base.specs.Bytes.{u32_at, u64_at}
use Rattle.vol_layout.specs.declared.geometry.Geometry.{Geometry}
use Rattle.vol_layout.specs.declared.kind.Kind.{Kind}
use Rattle.vol_layout.specs.declared.kind.Kind.TheVariants as kinds
use Rattle.vol_layout.specs.declared.kind.Resource.{Resource}
use Rattle.vol_layout.specs.declared.field.Field.{Field}
use Rattle.vol_layout.specs.declared.field.Field.TheVariants.{Pointer, Slot, Count}
use Rattle.vol_layout.specs.declared.field.Edit.{Edit}
use Rattle.vol_layout.specs.Edits.{touches}
use Rattle.vol_layout.specs.Fields.{HasField, byte_of, resource_of, table_of}
use Rattle.vol_layout.specs.Journal.{edits_of}
use Rattle.vol_layout.specs.Ranges.{HasKind, HasResource, data_blocks}
use Rattle.image_view.specs.Balances.{share}
use Rattle.image_view.specs.laws.FrameLaws.{HasResource-resource_of, HasTable-table_of}
use Rattle.image_view.specs.Held.{CountsEdit, HoldsField}
use Rattle.image_view.specs.HostKeys.{journal_key_at, lock_key_at, lock_state_at, slot_key_at}
use Rattle.image_view.specs.Images.{Image, block_at}
use Rattle.image_view.specs.Mappings.{mappings, uses}
use Rattle.image_view.specs.Numbers.{field, journal, logical, standing}
use Rattle.image_view.specs.Usages.{usage_in, used_numbers}
use Rattle.image_view.specs.laws.UseLaws.{length-mappings, names_one, sum_by_references_same, uses-sum_by}
use Rattle.volume_faults.specs.declared.fault.Fault.{Fault}
use Rattle.volume_faults.specs.Sites.{HasSite, IsChecked, IsOfKind, IsRight, Site, fault_at, stage_of}
use Rattle.volume_faults.specs.Sites.Site.{Superblock, Size, Block, LockKey, RecordKey, RecordEdit, CountOf, PointerOf}
use Rattle.volume_faults.specs.Lists.{IsFaultOf, Lists}
use Rattle.volume_faults.specs.Faults.{AreOfFirst, AreTableFaults, IsOfStage, IsPassed}

-- the two images have the same slots, journals, locks and tables
abbrev pub Agrees : Geometry → Image → Image → Type 0
Agrees g a b = (kind : Kind) → HasKind g kind → IsChecked kind → block_at g a kind ≡ block_at g b kind

pub Agrees-sym : (g : Geometry) (a b : Image) → Agrees g a b → Agrees g b a
Agrees-sym g a b agrees kind has checked = sym (agrees kind has checked)

-- the numbers of tables, the records and their keys, and the keys of slots and locks
pub field_same : (g : Geometry) (a b : Image) → Agrees g a b → (x : Field) → HasField g x → field g a x ≡ field g b x
unfolding field
field_same g a b agrees x has = ap (λ (block : List ℕ). u32_at block (byte_of x)) (agrees (kinds.Table (table_of x)) (HasTable-table_of g x has) tt)

pub journal_same : (g : Geometry) (a b : Image) → Agrees g a b → (h : ℕ) → h < g.hosts → journal g a h ≡ journal g b h
unfolding journal
journal_same g a b agrees h below = ap edits_of (agrees (kinds.Journal h) below tt)

pub journal_key_same : (g : Geometry) (a b : Image) → Agrees g a b → (h : ℕ) → h < g.hosts → journal_key_at g a h ≡ journal_key_at g b h
unfolding journal_key_at
journal_key_same g a b agrees h below = ap (λ (block : List ℕ). u64_at block 16) (agrees (kinds.Journal h) below tt)

pub slot_key_same : (g : Geometry) (a b : Image) → Agrees g a b → (h : ℕ) → h < g.hosts → slot_key_at g a h ≡ slot_key_at g b h
unfolding slot_key_at
slot_key_same g a b agrees h below = ap (λ (block : List ℕ). u64_at block 16) (agrees (kinds.Slot h) below tt)

pub lock_state_same : (g : Geometry) (a b : Image) → Agrees g a b → (r : Resource) → HasResource g r
    → lock_state_at g a r ≡ lock_state_at g b r
unfolding lock_state_at
lock_state_same g a b agrees r has = ap (λ (block : List ℕ). u32_at block 8) (agrees (kinds.Lock r) has tt)

pub lock_key_same : (g : Geometry) (a b : Image) → Agrees g a b → (r : Resource) → HasResource g r → lock_key_at g a r ≡ lock_key_at g b r
unfolding lock_key_at
lock_key_same g a b agrees r has = ap (λ (block : List ℕ). u64_at block 16) (agrees (kinds.Lock r) has tt)

-- lists of edits that are equal for each number of a range
joined_same : (f f' : ℕ → List Edit) (a n m : ℕ) → a + n ≤ m → ((h : ℕ) → h < m → f h ≡ f' h)
    → flat_map f (range_with_len a n) ≡ flat_map f' (range_with_len a n)
joined_same f f' a zero m le same = refl
joined_same f f' a (suc n) m le same =
    let first = same a (omega arith) in
    let rest = joined_same f f' (a + 1) n m (omega arith) same in
    cc

pub standing_same : (g : Geometry) (a b : Image) → Agrees g a b → standing g a ≡ standing g b
unfolding standing
standing_same g a b agrees = joined_same (λ h. journal g a h) (λ h. journal g b h) 0 g.hosts g.hosts (omega arith) (λ h below. journal_same g a b agrees h below)

pub logical_same : (g : Geometry) (a b : Image) → Agrees g a b → (x : Field) → HasField g x → logical g a x ≡ logical g b x
unfolding logical
logical_same g a b agrees x has =
    let edits = standing_same g a b agrees in
    let number = field_same g a b agrees x has in
    cc

pub uses_same : (g : Geometry) (a b : Image) → Agrees g a b → (d : ℕ) → uses g a d ≡ uses g b d
uses_same g a b agrees d =
    uses-sum_by g a d
    ∙ sum_by_references_same g (λ x. share (logical g a x) d) (λ x. share (logical g b x) d) (λ x has. ap (λ n. share n d) (logical_same g a b agrees x has))
    ∙ sym (uses-sum_by g b d)

pub mapped_same : (g : Geometry) (a b : Image) → Agrees g a b → length (mappings g a) ≡ length (mappings g b)
mapped_same g a b agrees =
    length-mappings g a
    ∙ sum_by_references_same g (λ x. names_one (logical g a x)) (λ x. names_one (logical g b x)) (λ x has. ap names_one (logical_same g a b agrees x has))
    ∙ sym (length-mappings g b)

-- sums over a range of terms that are equal there
sums_same : (w w' : ℕ → ℕ) (a n m : ℕ) → a + n ≤ m → ((k : ℕ) → k < m → w k ≡ w' k)
    → sum_by w (range_with_len a n) ≡ sum_by w' (range_with_len a n)
sums_same w w' a zero m le same = refl
sums_same w w' a (suc n) m le same =
    rw (sum_by-cons w a (range_with_len (a + 1) n), sum_by-cons w' a (range_with_len (a + 1) n), same a (omega arith), sums_same w w' (a + 1) n m (omega arith) same) refl

pub used_same : (g : Geometry) (a b : Image) → Agrees g a b → used_numbers g a ≡ used_numbers g b
unfolding used_numbers
used_same g a b agrees =
    sums_same (λ d. cond (nat_lt 0 (logical g a (Count d))) 1 0) (λ d. cond (nat_lt 0 (logical g b (Count d))) 1 0) 0 (data_blocks g) (data_blocks g) (omega arith)
    (λ d below. ap (λ n. cond (nat_lt 0 n) 1 0) (logical_same g a b agrees (Count d) below))

-- the same usage
pub usage_same : (g : Geometry) (a b : Image) → Agrees g a b → usage_in g a ≡ usage_in g b
usage_same g a b agrees = rw (used_same g a b agrees, mapped_same g a b agrees) refl

-- the same sites of the stages behind the first
HasSite_kept : (g : Geometry) (a b : Image) → Agrees g a b → (site : Site) → 2 ≤ stage_of site → HasSite g a site → HasSite g b site
HasSite_kept g a b agrees Superblock later has = absurd (omega (arith, later))
HasSite_kept g a b agrees Size later has = absurd (omega (arith, later))
HasSite_kept g a b agrees (Block kind) later has = has
HasSite_kept g a b agrees (LockKey r) later has = (has.0, sym (lock_state_same g a b agrees r has.0) ∙ has.1)
HasSite_kept g a b agrees (RecordKey h) later has = (has.0, λ none. has.1 (journal_same g a b agrees h has.0 ∙ none))
HasSite_kept g a b agrees (RecordEdit h e) later has = let long = ap length (journal_same g a b agrees h has.0) in (has.0, omega (arith, has.1, long))
HasSite_kept g a b agrees (CountOf d) later has = has
HasSite_kept g a b agrees (PointerOf f i) later has = has

HoldsField_kept : (g : Geometry) (a b : Image) → Agrees g a b → (key : ℕ) (x : Field) → HoldsField g a key x → HoldsField g b key x
HoldsField_kept g a b agrees key x holds =
    let has = HasResource-resource_of g x holds.0 in (
      holds.0,
      record {
        held = sym (lock_state_same g a b agrees (resource_of x) has) ∙ holds.1.held;
        by = sym (lock_key_same g a b agrees (resource_of x) has) ∙ holds.1.by;
      },
    )

CountsEdit_kept : (g : Geometry) (a b : Image) → Agrees g a b → (h : ℕ) (e : Edit) → h < g.hosts → HasField g e.field
    → CountsEdit g a (journal g a h) e → CountsEdit g b (journal g b h) e
CountsEdit_kept g a b agrees h e below has counts s d is names =
    let has_slot : HasField g (Slot s) = subst (HasField g) is has in
    let number = field_same g a b agrees (Slot s) has_slot in
    let edits = journal_same g a b agrees h below in
    sym (ap (λ es. touches es (Count d)) edits) ∙ counts s d is (rw number names)

-- what is right there stays right
IsRight_kept : (g : Geometry) (counter : ℕ) (a b : Image) → Agrees g a b → (site : Site) → 2 ≤ stage_of site → HasSite g a site
    → IsRight g counter a site → IsRight g counter b site
IsRight_kept g counter a b agrees Superblock later has right = absurd (omega (arith, later))
IsRight_kept g counter a b agrees Size later has right = absurd (omega (arith, later))
IsRight_kept g counter a b agrees (Block kind) later has right = subst (IsOfKind g counter kind) (agrees kind has.0 has.1) right
IsRight_kept g counter a b agrees (LockKey r) later has right =
    rw (sym (lock_key_same g a b agrees r has.0))
    (record { some = right.some; host = right.host; shown = sym (slot_key_same g a b agrees (lock_key_at g a r % 16) right.host) ∙ right.shown })
IsRight_kept g counter a b agrees (RecordKey h) later has right =
    let slot = slot_key_same g a b agrees h has.0 in
    (λ none. right.0 (slot ∙ none), sym (journal_key_same g a b agrees h has.0) ∙ right.1 ∙ slot)
IsRight_kept g counter a b agrees (RecordEdit h k) later has right =
    λ e at.
    let was = right e (ap (λ es. slice_get es k) (journal_same g a b agrees h has.0) ∙ at) in (
      rw (sym (journal_key_same g a b agrees h has.0)) (HoldsField_kept g a b agrees (journal_key_at g a h) e.field was.0),
      CountsEdit_kept g a b agrees h e has.0 was.0.0 was.1,
    )
IsRight_kept g counter a b agrees (CountOf d) later has right = sym (logical_same g a b agrees (Count d) has) ∙ right ∙ uses_same g a b agrees d
IsRight_kept g counter a b agrees (PointerOf f i) later has right =
    let number = logical_same g a b agrees (Pointer f i) has in
    λ unmarked. rw (sym number, sym (uses_same g a b agrees (logical g a (Pointer f i) - 1))) (right (rw number unmarked))

-- and where it is not, the same fault is listed
fault_same : (g : Geometry) (a b : Image) → Agrees g a b → (site : Site) → 2 ≤ stage_of site → HasSite g a site
    → fault_at g a site ≡ fault_at g b site
fault_same g a b agrees Superblock later has = absurd (omega (arith, later))
fault_same g a b agrees Size later has = absurd (omega (arith, later))
fault_same g a b agrees (Block kind) later has = refl
fault_same g a b agrees (LockKey r) later has = rw (lock_key_same g a b agrees r has.0) refl
fault_same g a b agrees (RecordKey h) later has = rw (journal_key_same g a b agrees h has.0) refl
fault_same g a b agrees (RecordEdit h e) later has = refl
fault_same g a b agrees (CountOf d) later has = rw (logical_same g a b agrees (Count d) has, uses_same g a b agrees d) refl
fault_same g a b agrees (PointerOf f i) later has = refl

later_stage : (g : Geometry) (a : Image) (stage : ℕ) (s : Site) → 2 ≤ stage → IsOfStage g a stage s → 2 ≤ stage_of s
later_stage g a stage s later is = let same = is.0 in omega (arith, same)

IsOfStage_kept : (g : Geometry) (a b : Image) → Agrees g a b → (stage : ℕ) (site : Site) → 2 ≤ stage → IsOfStage g a stage site
    → IsOfStage g b stage site
IsOfStage_kept g a b agrees stage site later is = (is.0, HasSite_kept g a b agrees site (later_stage g a stage site later is) is.1)

-- a stage behind the first has the same faults, and is passed alike
Lists_kept : (g : Geometry) (counter : ℕ) (a b : Image) → Agrees g a b → (stage : ℕ) (xs : List Fault) → 2 ≤ stage
    → Lists (IsOfStage g a stage) g counter a xs → Lists (IsOfStage g b stage) g counter b xs
Lists_kept g counter a b agrees stage xs later lists =
    let back = Agrees-sym g a b agrees in
    record {
      each =
          All-weaker (IsFaultOf (IsOfStage g a stage) g counter a) (IsFaultOf (IsOfStage g b stage) g counter b)
          (λ x of.
          let before = later_stage g a stage of.site later of.among in
          let among = IsOfStage_kept g a b agrees stage of.site later of.among in
          record {
            site = of.site;
            among = among;
            wrong = λ right. of.wrong (IsRight_kept g counter b a back of.site before among.1 right);
            is = of.is ∙ fault_same g a b agrees of.site before of.among.1;
          })
          xs lists.each;
      whole = λ site among.
          let before = later_stage g b stage site later among in
          let was = IsOfStage_kept g b a back stage site later among in
          elim (lists.whole site was) as (λ _. IsRight g counter b site ⊎ Contains xs (fault_at g b site)) [
            | inl right ↦ inl (IsRight_kept g counter a b agrees site before was.1 right)
            | inr listed ↦ inr (subst (Contains xs) (fault_same g a b agrees site before was.1) listed)
          ];
      order = lists.order;
    }

-- and so is what is passed
pub IsPassed_kept : (g : Geometry) (counter : ℕ) (a b : Image) → Agrees g a b → (stage : ℕ) → 2 ≤ stage → IsPassed g counter a stage
    → IsPassed g counter b stage
IsPassed_kept g counter a b agrees stage later passed site is =
    let was = IsOfStage_kept g b a (Agrees-sym g a b agrees) stage site later is in
    IsRight_kept g counter a b agrees site (later_stage g b stage site later is) was.1 (passed site was)

AreOfFirst_kept : (g : Geometry) (counter : ℕ) (a b : Image) → Agrees g a b → (stage : ℕ) (stages : List ℕ) (xs : List Fault) → 2 ≤ stage
    → (AreOfFirst stages g counter a xs → AreOfFirst stages g counter b xs)
    → AreOfFirst (stage ∷ stages) g counter a xs → AreOfFirst (stage ∷ stages) g counter b xs
AreOfFirst_kept g counter a b agrees stage stages xs later rest are =
    elim are as (λ _. AreOfFirst (stage ∷ stages) g counter b xs) [
      | inl here ↦ inl (here.0, Lists_kept g counter a b agrees stage xs later here.1)
      | inr behind ↦ inr (IsPassed_kept g counter a b agrees stage later behind.0, rest behind.1)
    ]

-- the same faults of the stages behind the first
pub table_faults_same : (g : Geometry) (counter : ℕ) (a b : Image) (xs : List Fault) → Agrees g a b → AreTableFaults g counter a xs
    → AreTableFaults g counter b xs
unfolding AreTableFaults
table_faults_same g counter a b xs agrees are =
    AreOfFirst_kept g counter a b agrees 2 (3 ∷ 4 ∷ []) xs (omega arith)
    (AreOfFirst_kept g counter a b agrees 3 (4 ∷ []) xs (omega arith)
    (AreOfFirst_kept g counter a b agrees 4 [] xs (omega arith) (λ none. none)))
    are
