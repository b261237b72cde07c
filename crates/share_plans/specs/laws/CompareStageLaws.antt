-- What each step did by which a data block was read and compared, or a count read.
use Rattle.std.proofs.Common.{◌≡◌, ◌<◌, ◌/◌, ◌==◌, ℕ, Bool, true, false, List, [], None, Option, Some, refl, sym, subst, arith}
use Rattle.std.specs.Prelude.{IfSome, IsNone, if◌then◌else◌}
use Rattle.std.proofs.lemmas.Bool.{eqb-false, eqb-true}
use Rattle.vol_base.specs.declared.block.Block.{Block}
use Rattle.vol_layout.specs.declared.field.Field.TheVariants.{Count, Pointer}
use Rattle.vol_layout.specs.declared.geometry.Geometry.{Geometry}
use Rattle.vol_layout.specs.declared.kind.Kind.TheVariants as kinds
use Rattle.vol_layout.specs.declared.kind.Resource.TheVariants as resources
use Rattle.vol_layout.specs.declared.kind.Table.{Table}
use Rattle.vol_layout.specs.Fields.{table_of}
use Rattle.vol_layout.specs.Ranges.{per_table}
use Rattle.image_view.specs.Balances.{share_of}
use Rattle.image_view.specs.Images.{Image, block_at}
use Rattle.image_view.specs.Numbers.{logical}
use Rattle.lock_store.specs.Memories.{holds}
use Rattle.lock_store.specs.Views.{host_at}
use Rattle.disk_locks.specs.Consistent.{Consistent}
use Rattle.disk_locks.specs.Sure.{Sure}
use Rattle.shared_disk.specs.Events.{Event}
use Rattle.host_facts.specs.Facts.Fact.{BlockIs, RecordIs}
use Rattle.host_facts.specs.Facts.{Tells}
use Rattle.host_facts.specs.Knows.{Knows}
use Rattle.host_facts.specs.Looks.{Looks}
use Rattle.host_facts.specs.OwnBlocks.{MayName}
use Rattle.host_facts.specs.Views.{WorldView}
use Rattle.host_facts.specs.laws.FactLaws.{held_readable}
use Rattle.host_facts.specs.laws.ToldLaws.{sure_and, sure_of}
use Rattle.plan_parts.specs.Fetched.{Fetched}
use Rattle.plan_parts.specs.KeptTables.{AreKept}
use Rattle.plan_parts.specs.QuietCalls.{Quiet}
use Rattle.plan_parts.specs.declared.kept.Kept.{Kept}
use Rattle.plan_parts.specs.declared.outcome.Outcome.TheVariants as outcomes
use Rattle.plan_parts.specs.laws.TakenLaws.{taking_same}
use Rattle.share_plans.specs.Causes.{HavePair, IsApartAt, IsCause}
use Rattle.share_plans.specs.Lefts.{left}
use Rattle.share_plans.specs.Places.{HasBlock, field_of}
use Rattle.share_plans.specs.ReadTables.{kept_in}
use Rattle.share_plans.specs.Spots.{IsShown, IsSourceShown, Reads}
use Rattle.share_plans.specs.Stands.{At, HasSource, IsComparing, IsSlotKnown, known_of}
use Rattle.share_plans.specs.Went.{Went, answer_at, behind_compare, behind_counts}
use Rattle.share_plans.specs.declared.sharing.Place.{Place}
use Rattle.share_plans.specs.declared.sharing.Place.TheVariants.{Arena, File}
use Rattle.share_plans.specs.declared.sharing.Shared.TheVariants as answers
use Rattle.share_plans.specs.declared.stage.Came.TheVariants.{More}
use Rattle.share_plans.specs.declared.stage.Core.{Core}
use Rattle.share_plans.specs.declared.stage.Pair.{Pair}
use Rattle.share_plans.specs.declared.stage.Stage.{Stage}
use Rattle.share_plans.specs.declared.stage.Stage.TheVariants as stages
use Rattle.share_plans.specs.laws.EndLaws.{same_share}
use Rattle.share_plans.specs.laws.KnownLaws.{once, place_shown, pointer_names, tables_read}
use Rattle.share_plans.specs.laws.LookStageLaws.{quiet_fetched}
use Rattle.share_plans.specs.laws.StepLaws.{looked_ended, looked_keeps, looked_nothing, went_on}
use Rattle.share_plans.specs.laws.StillLaws.{comparing_on, equal_on, group_kept, still_looks}
use Rattle.share_plans.specs.HintSpares.{SparesHints}
use Rattle.share_plans.specs.laws.StepLaws.{same_image}
use Rattle.plan_parts.specs.MadeCalls.{ReadSo, reading_of}
use Rattle.share_plans.specs.laws.LookStageLaws.{spares_fetched}

-- the data block that a pointer names may be read, and so may that of the source
module _ (v : WorldView) (h : ℕ) (left : List Kept) (is : Consistent v.locks) (are : AreKept v h left) (empty : Knows v h (RecordIs [])) where
  pub pointer_named : (f i d : ℕ) → holds (host_at v.locks h) (resources.File f) ≡ true → IsShown v.locks.geometry (kept_in left) f i d
      → MayName v h (Pointer f i) d
  pointer_named f i d held shown = (
    shown.1.has,
    held_readable (host_at v.locks h) (resources.File f) held,
    sure_of v.locks h (Reads v.locks.geometry (kept_in left))
        (λ image. share_of (Pointer f i) (logical v.locks.geometry image (Pointer f i)) d ≡ 1)
        (λ image reads.
        once (logical v.locks.geometry image (Pointer f i)) d
        (pointer_names v.locks.geometry (kept_in left) image is.geometry reads f i d shown.0 shown.1))
        (tables_read v h left is are empty),
  )

  pub source_named : (source : Place) (d : ℕ) (shared : Bool) → HasSource v h source
      → IsSourceShown v.locks.geometry (kept_in left) source d shared → IsSlotKnown v h source d → MayName v h (field_of source) d
  source_named (File f i) d shared has shown known = pointer_named f i d has.1 (shared, shown)
  source_named (Arena s) d shared has shown known = (known, empty)

  -- what is known of the source's data block
  pub source_has : (source : Place) (d : ℕ) (shared : Bool) (bytes : List ℕ) → IsSourceShown v.locks.geometry (kept_in left) source d shared
      → (image : Image) → Reads v.locks.geometry (kept_in left) image → Tells v.locks h image (BlockIs (field_of source) d bytes)
      → HasBlock v.locks.geometry image source d × (block_at v.locks.geometry image (kinds.Number d) ≡ bytes)
  source_has (File f i) d shared bytes shown image reads tells =
      (place_shown v.locks.geometry (kept_in left) image is.geometry reads f i d (shared, shown), tells.1)
  source_has (Arena s) d shared bytes shown image reads tells = (tells.0.0, tells.1)

-- the bytes of both data blocks, as they are sure
pub record AreRead (v : WorldView) (core : Core) (pair : Pair) (own from : List ℕ) (image : Image) : Type 0 where
  pub reads : Reads v.locks.geometry (known_of core) image
  pub have : HavePair v.locks.geometry image core pair
  pub own_is : block_at v.locks.geometry image (kinds.Number pair.own) ≡ own
  pub from_is : block_at v.locks.geometry image (kinds.Number pair.source) ≡ from

pub both_read : (v : WorldView) (core : Core) (pair : Pair) (own from : List ℕ) → Consistent v.locks → IsComparing v core pair
    → Knows v core.host (BlockIs (Pointer core.file core.index) pair.own own)
    → Knows v core.host (BlockIs (field_of core.source) pair.source from) → Sure v.locks core.host (AreRead v core pair own from)
both_read v core pair own from is at knows_own knows_from =
    let g = v.locks.geometry in
    let Own = λ (image : Image). Tells v.locks core.host image (BlockIs (Pointer core.file core.index) pair.own own) in
    let From = λ (image : Image). Tells v.locks core.host image (BlockIs (field_of core.source) pair.source from) in
    sure_of v.locks core.host (λ image. Reads g (known_of core) image × (Own image × From image)) (AreRead v core pair own from)
    (λ image all.
    let source = source_has v core.host core.tables is at.base.kept at.base.empty core.source pair.source pair.shared from at.are_pair.from image
    all.0 all.1.1 in
    record {
      reads = all.0;
      have = record {
        own = place_shown g (known_of core) image is.geometry all.0 core.file core.index pair.own at.are_pair.own;
        from = source.0;
        other = at.are_pair.other;
      };
      own_is = all.1.0.1;
      from_is = source.1;
    })
    (sure_and v.locks core.host (Reads g (known_of core)) (λ image. Own image × From image)
    (tables_read v core.host core.tables is at.base.kept at.base.empty)
    (sure_and v.locks core.host Own From knows_own.sure knows_from.sure))

module _ (v w : WorldView) (core : Core) (pair : Pair) (looks : Looks core.host v w) where
  pub comparing_looked : IsComparing v core pair → IsComparing w core pair
  comparing_looked at =
      comparing_on v w core (still_looks core.host v w looks) pair
      (taking_same v w core.host core.taken looks.geometry looks.memory at.base.taking) at

  goes : (stage after : Stage) → answer_at stage ≡ None → answer_at after ≡ None → At w core after → left core after < left core stage
      → (e : Event) → SparesHints v.locks.geometry e.call → Quiet core.host v w e → Went v w core core stage (More after)
  goes stage after fresh none stands less e spares quiet =
      went_on v w core core stage after fresh none (same_share core core.taken) (looked_keeps core.host v w looks) stands
      (looked_nothing core.host v w looks) less e spares (λ command may. quiet command outcomes.Open)

  -- the source's data block was read
  pub source_read : (block : Block) (e : Event) → SparesHints v.locks.geometry e.call → Quiet core.host v w e → At v core (stages.ReadsSource pair)
      → Knows w core.host (BlockIs (field_of core.source) pair.source block.0)
      → Went v w core core (stages.ReadsSource pair) (More (stages.ReadsOwn pair block))
  source_read block e spares quiet at known =
      goes (stages.ReadsSource pair) (stages.ReadsOwn pair block) refl refl (comparing_looked at.0, known) (omega arith) e spares quiet

  -- the place's data block was read
  pub own_read : (source block : Block) (apart : Option ℕ) (e : Event) → Consistent w.locks → SparesHints v.locks.geometry e.call
      → Quiet core.host v w e → At v core (stages.ReadsOwn pair source) → Knows w core.host (BlockIs (Pointer core.file core.index) pair.own block.0)
      → IfSome apart (IsApartAt block.0 source.0) → (IsNone apart → block.0 ≡ source.0)
      → Went v w core core (stages.ReadsOwn pair source) (behind_compare core.taken pair apart)
  own_read source block None e later spares quiet at known differ same =
      let from = looks.facts (BlockIs (field_of core.source) pair.source source.0) at.1 in
      goes (stages.ReadsOwn pair source) (stages.CountsOwn pair) refl refl (
        comparing_looked at.0,
        (source.0, subst (λ (bytes : List ℕ). Knows w core.host (BlockIs (Pointer core.file core.index) pair.own bytes)) (same refl) known, from),
      )
      (omega arith) e spares quiet
  own_read source block (Some place) e later spares quiet at known differ same =
      let now = comparing_looked at.0 in
      let from = looks.facts (BlockIs (field_of core.source) pair.source source.0) at.1 in
      looked_ended v w core core (stages.ReadsOwn pair source) (answers.Differs place) tt refl (same_share core core.taken) looks now.base.places
      now.base.taking now.base.empty (AreRead w core pair block.0 source.0) (both_read w core pair block.0 source.0 later now known from)
      (λ image are.
      subst (λ (g : Geometry). IsCause g core (stages.ReadsOwn pair source) (answers.Differs place) image image) looks.geometry (
        (
          are.have,
          subst (λ (xs : List ℕ). IsApartAt xs (block_at w.locks.geometry image (kinds.Number pair.source)) place) (sym are.own_is)
              (subst (λ (ys : List ℕ). IsApartAt block.0 ys place) (sym are.from_is) differ),
        ),
        same_image w.locks.geometry image,
      ))
      (let few = at.0.locked.few in omega (arith, few)) e spares (λ command may. quiet command outcomes.Open)

-- the counts of a group were read
module _ (v w : WorldView) (core : Core) (pair : Pair) (kept : Kept) where
  counts_go : (stage after : Stage) (t : Table) → (did : Fetched core.host v w t kept) → ReadSo core.host v w kept → answer_at stage ≡ None → answer_at after ≡ None
      → At w core after → left core after < left core stage → Went v w core core stage (More after)
  counts_go stage after t did so fresh none stands less =
      went_on v w core core stage after fresh none (same_share core core.taken) (looked_keeps core.host v w did.looks) stands
      (looked_nothing core.host v w did.looks) less (reading_of v core.host kept)
      (spares_fetched core.host v w t kept did) (λ command may. quiet_fetched core.host v w kept so command outcomes.Open may)

  pub own_counted : At v core (stages.CountsOwn pair) → Fetched core.host v w (table_of (Count pair.own)) kept → ReadSo core.host v w kept
      → Went v w core core (stages.CountsOwn pair) (behind_counts pair kept)
  own_counted at did so = pick (pair.own / per_table == pair.source / per_table) refl
    where
      pick : (b : Bool) → (pair.own / per_table == pair.source / per_table) ≡ b
          → Went v w core core (stages.CountsOwn pair)
          (if b then More (stages.Commits pair kept None) else More (stages.CountsSource pair kept))
      pick true same =
          counts_go (stages.CountsOwn pair) (stages.Commits pair kept None) (table_of (Count pair.own)) did so refl refl (
            comparing_looked v w core pair did.looks at.0,
            equal_on v w core (still_looks core.host v w did.looks) pair at.1,
            (did.is_kept, did.which),
            eqb-true (pair.own / per_table) (pair.source / per_table) same,
          )
          (omega arith)
      pick false other =
          counts_go (stages.CountsOwn pair) (stages.CountsSource pair kept) (table_of (Count pair.own)) did so refl refl (
            comparing_looked v w core pair did.looks at.0,
            equal_on v w core (still_looks core.host v w did.looks) pair at.1,
            (did.is_kept, did.which),
            eqb-false (pair.own / per_table) (pair.source / per_table) other,
          )
          (omega arith)

  pub source_counted : (group : Kept) → At v core (stages.CountsSource pair group) → Fetched core.host v w (table_of (Count pair.source)) kept
      → ReadSo core.host v w kept → Went v w core core (stages.CountsSource pair group) (More (stages.Commits pair group (Some kept)))
  source_counted group at did so =
      counts_go (stages.CountsSource pair group) (stages.Commits pair group (Some kept)) (table_of (Count pair.source)) did so refl refl (
        comparing_looked v w core pair did.looks at.0,
        equal_on v w core (still_looks core.host v w did.looks) pair at.1,
        group_kept core.host v w (still_looks core.host v w did.looks) pair.own group at.2,
        ((did.is_kept, did.which), at.3),
      )
      (omega arith)
