-- What an answer of a share says, between two images that differ in no logical number and no data block.
use Rattle.std.proofs.Common.{◌≡◌, ◌≢◌, ◌≤◌, ◌<◌, ◌+◌, ◌∷◌, ◌^◌, ◌%◌, ℕ, List, Bool, [], None, Option, Some, true, false, length, refl, ap, sym, subst, ◌∙◌, arith, inl, inr}
use Rattle.std.specs.Prelude.{if◌then◌else◌, nat_lt}
use Rattle.vol_layout.specs.declared.field.Field.TheVariants.{Count, Head, Pointer, Slot}
use Rattle.vol_layout.specs.declared.geometry.Geometry.{Geometry}
use Rattle.vol_layout.specs.declared.kind.Kind.TheVariants as kinds
use Rattle.vol_layout.specs.declared.kind.Resource.{Resource}
use Rattle.vol_layout.specs.Fields.{HasField}
use Rattle.vol_layout.specs.Ranges.{IsGeometry, data_blocks, per_table}
use Rattle.call_effects.specs.Changes.{Changes}
use Rattle.host_facts.specs.Views.{WorldView}
use Rattle.host_facts.specs.laws.ToldLaws.{both_of}
use Rattle.image_view.specs.Images.{Image, block_at}
use Rattle.image_view.specs.Links.{IsLink, SourceAfter}
use Rattle.image_view.specs.Numbers.{logical}
use Rattle.image_view.specs.Pointers.{named}
use Rattle.image_view.specs.Valid.{IsValid}
use Rattle.image_view.specs.laws.FileLaws.{logical_in_range, named_below}
use Rattle.lock_store.specs.Views.{told_of}
use Rattle.share_plans.specs.Causes.{AreLinked, Differ, HasNoSource, IsApartAt, IsCause}
use Rattle.share_plans.specs.Lefts.{behind_lock, behind_tables, left, missing}
use Rattle.share_plans.specs.Places.{HasBlock, field_of, shown_at}
use Rattle.share_plans.specs.Stands.{At}
use Rattle.share_plans.specs.declared.closing.Closing.TheVariants as closings
use Rattle.share_plans.specs.declared.sharing.Place.{Place}
use Rattle.share_plans.specs.declared.sharing.Place.TheVariants.{Arena, File}
use Rattle.share_plans.specs.declared.sharing.Shared.{Shared}
use Rattle.share_plans.specs.declared.sharing.Shared.TheVariants as answers
use Rattle.share_plans.specs.declared.stage.Core.{Core}
use Rattle.share_plans.specs.declared.stage.Stage.{Stage}
use Rattle.share_plans.specs.declared.stage.Stage.TheVariants as stages
use Rattle.solo.specs.Shares.{Comes, Halts, HasBoth, HasHalted, HaveTwo, IsDifferent, IsKnown, IsLone, KeepsNumbers, SourceIs}

module _ (g : Geometry) (i j k : Image) where
  pub changes_then : Changes g [] None i j → Changes g [] None j k → Changes g [] None i k
  changes_then first last = record {
    super = last.super ∙ first.super;
    numbers = λ x has. last.numbers x has ∙ first.numbers x has;
    blocks = λ d has. last.blocks d has ∙ first.blocks d has;
  }

  pub numbers_then : KeepsNumbers g i j → KeepsNumbers g j k → KeepsNumbers g i k
  numbers_then first last = λ x has. last x has ∙ first x has

-- what a file has at an index is said by logical numbers
pub shown_same : (g : Geometry) (i j : Image) (f n : ℕ) → KeepsNumbers g i j → HasField g (Pointer f n) → shown_at g j f n ≡ shown_at g i f n
shown_same g i j f n keeps has =
    ap (λ m. if nat_lt (n + 1) m then named (logical g j (Pointer f n)) else None) (keeps (Head f) has.0)
    ∙ ap (λ m. if nat_lt (n + 1) (logical g i (Head f)) then named m else None) (keeps (Pointer f n) has)

-- the data block that it has is the one that its pointer names
shown_named : (g : Geometry) (image : Image) (f n d : ℕ) → shown_at g image f n ≡ Some d → named (logical g image (Pointer f n)) ≡ Some d
shown_named g image f n d is = pick (nat_lt (n + 1) (logical g image (Head f))) is
  where
    pick : (b : Bool) → (if b then named (logical g image (Pointer f n)) else None) ≡ Some d → named (logical g image (Pointer f n)) ≡ Some d
    pick true is = is
    pick false is = cc

-- a volume has few data blocks
pub few_blocks : (g : Geometry) → IsGeometry g → data_blocks g < 2 ^ 31
unfolding data_blocks per_table
few_blocks g is = let few = is.groups.1 in omega (arith, few)

-- a data block that a place names is one of the volume
slot_below : (g : Geometry) (n d : ℕ) → n ≤ data_blocks g → data_blocks g < 2 ^ 31 → named n ≡ Some d → d < data_blocks g
slot_below g n d few small is =
    named_below g n d (record { width = omega (arith, few, small); hole = λ e. hole e; names = low }) is
  where
    low : n % 2 ^ 31 ≤ data_blocks g
    low = omega (arith, few, small)

    hole : n % 2 ^ 31 ≡ 0 → n ≡ 0
    hole e = omega (arith, few, small, e)

module _ (g : Geometry) (counter : ℕ) (image : Image) (valid : IsValid g counter image) where
  pointer_block : (f n d : ℕ) → HasField g (Pointer f n) → named (logical g image (Pointer f n)) ≡ Some d → HasField g (Count d)
  pointer_block f n d has is = named_below g (logical g image (Pointer f n)) d (logical_in_range g counter image (Pointer f n) valid has) is

  pub source_block : (source : Place) (d : ℕ) → data_blocks g < 2 ^ 31 → HasField g (field_of source)
      → named (logical g image (field_of source)) ≡ Some d → HasField g (Count d)
  source_block (File f n) d small has is = pointer_block f n d has is
  source_block (Arena s) d small has is =
      slot_below g (logical g image (Slot s)) d (logical_in_range g counter image (Slot s) valid has) small is

  block_there : (source : Place) (d : ℕ) → HasField g (field_of source) → HasBlock g image source d → HasField g (Count d)
  block_there (File f n) d has is = pointer_block f n d has (shown_named g image f n d is)
  block_there (Arena s) d has is = let range = valid.numbers (Slot s) has in omega (arith, range, is)

-- a step at which a link is written
linked_at : (g : Geometry) (j k : Image) (core : Core) (stage : Stage) → AreLinked g j k core stage
    → IsLink g j k core.file core.index (field_of core.source)
linked_at g j k core (stages.Commits pair group other) are = are.1
linked_at g j k core stage are = absurd are

-- what an answer says of the image at which it is found, it says of an older one
module _ (g : Geometry) (core : Core) (stage : Stage) (i j k : Image) (first here : ℕ) (before : IsValid g first i) (now : IsValid g here j)
    (small : data_blocks g < 2 ^ 31) (both : HasBoth g core.file core.index core.source) (same : Changes g [] None i j) where
  own_back : (d : Option ℕ) → shown_at g j core.file core.index ≡ d → shown_at g i core.file core.index ≡ d
  own_back d is = sym (shown_same g i j core.file core.index same.numbers both.place) ∙ is

  source_back : (source : Place) → HasField g (field_of source) → (d : ℕ) → HasBlock g j source d → SourceIs g i source (Some d)
  source_back (File e n) has d is = sym (shown_same g i j e n same.numbers has) ∙ is
  source_back (Arena s) has d is = tt

  block_back : (d : ℕ) → HasField g (Count d) → block_at g j (kinds.Number d) ≡ block_at g i (kinds.Number d)
  block_back d has = same.blocks d has

  link_back : IsLink g j k core.file core.index (field_of core.source) → IsLink g i k core.file core.index (field_of core.source)
  link_back link =
      let from = pointer_block g here j now core.file core.index link.from link.pointer.0 link.pointer.1 in
      let to = source_block g here j now core.source link.to small link.source_names.0 link.source_names.1 in record {
        from = link.from;
        to = link.to;
        pointer = (link.pointer.0, ap named (sym (same.numbers (Pointer core.file core.index) link.pointer.0)) ∙ link.pointer.1);
        source_names = (
          link.source_names.0,
          ap named (sym (same.numbers (field_of core.source) link.source_names.0)) ∙ link.source_names.1,
        );
        other = link.other;
        same = sym (block_back link.from from) ∙ link.same ∙ block_back link.to to;
        linked = link.linked;
        source_after = subst (λ n. SourceAfter (field_of core.source) link.to n (logical g k (field_of core.source)))
            (same.numbers (field_of core.source) link.source_names.0) link.source_after;
        lowered = link.lowered ∙ same.numbers (Count link.from) from;
        raised = link.raised ∙ ap (λ n. n + 1) (same.numbers (Count link.to) to);
        others = λ x has a b c d. link.others x has a b c d ∙ same.numbers x has;
      }

  two_back : (stage : Stage) → AreLinked g j k core stage → HaveTwo g i core.file core.index core.source
  two_back (stages.Commits pair group other) are = record {
    number = pair.own;
    other = pair.source;
    own = own_back (Some pair.own) are.0.own;
    from = source_back core.source both.from pair.source are.0.from;
  }
  two_back stage are = absurd are

  differ_back : (stage : Stage) (at : ℕ) → Differ g j core stage at → IsDifferent g i core.file core.index core.source at
  differ_back (stages.ReadsOwn pair block) at (have, apart) =
      let own = pointer_block g here j now core.file core.index pair.own both.place
      (shown_named g j core.file core.index pair.own have.own) in
      let from = block_there g here j now core.source pair.source both.from have.from in record {
        number = pair.own;
        other = pair.source;
        own = own_back (Some pair.own) have.own;
        from = source_back core.source both.from pair.source have.from;
        apart = subst (λ (bytes : List ℕ). IsApartAt bytes (block_at g i (kinds.Number pair.source)) at) (block_back pair.own own)
            (subst (λ (bytes : List ℕ). IsApartAt (block_at g j (kinds.Number pair.own)) bytes at) (block_back pair.source from) apart);
      }
  differ_back stage at differ = absurd differ

  lone_back : (source : Place) (stage : Stage) → HasField g (field_of source) → HasNoSource g j core source stage
      → IsLone g i core.file core.index source
  lone_back (File e n) stage has ((d, own), none) = record {
    number = d;
    own = own_back (Some d) own;
    from = sym (shown_same g i j e n same.numbers has) ∙ none;
  }
  lone_back (Arena s) (stages.Peeks own) has (is, none) = record { number = own; own = own_back (Some own) is; from = tt }
  lone_back (Arena s) (stages.PeeksAgain pair) has (is, none) =
      record { number = pair.own; own = own_back (Some pair.own) is; from = tt }
  lone_back (Arena s) stage has none = absurd none

  pub comes_at : (answer : Shared) → IsCause g core stage answer j k → Comes g core.file core.index core.source answer i k
  comes_at answers.Linked cause = (two_back stage cause, link_back (linked_at g j k core stage cause))
  comes_at answers.Already ((d, own, from), stay) = (
    record { number = d; own = own_back (Some d) own; from = source_back core.source both.from d from },
    numbers_then g i j k same.numbers stay.numbers,
  )
  comes_at (answers.Differs at) (differ, stay) = (differ_back stage at differ, numbers_then g i j k same.numbers stay.numbers)
  comes_at answers.Hole (hole, stay) = (own_back None hole, numbers_then g i j k same.numbers stay.numbers)
  comes_at answers.NoSource (none, stay) = (lone_back core.source stage both.from none, numbers_then g i j k same.numbers stay.numbers)
  comes_at (answers.Busy key) stay = numbers_then g i j k same.numbers stay.numbers

-- and it stays while nothing more changes
module _ (g : Geometry) (f n : ℕ) (source : Place) (i j k : Image) (counter : ℕ) (valid : IsValid g counter i)
    (small : data_blocks g < 2 ^ 31) (both : HasBoth g f n source) where
  link_on : IsLink g i j f n (field_of source) → Changes g [] None j k → IsLink g i k f n (field_of source)
  link_on link same =
      let from = pointer_block g counter i valid f n link.from link.pointer.0 link.pointer.1 in
      let to = source_block g counter i valid source link.to small link.source_names.0 link.source_names.1 in record {
        from = link.from;
        to = link.to;
        pointer = link.pointer;
        source_names = link.source_names;
        other = link.other;
        same = link.same;
        linked = same.numbers (Pointer f n) link.pointer.0 ∙ link.linked;
        source_after = subst (SourceAfter (field_of source) link.to (logical g i (field_of source)))
            (sym (same.numbers (field_of source) link.source_names.0)) link.source_after;
        lowered = ap (λ m. m + 1) (same.numbers (Count link.from) from) ∙ link.lowered;
        raised = same.numbers (Count link.to) to ∙ link.raised;
        others = λ x has a b c d. same.numbers x has ∙ link.others x has a b c d;
      }

  pub comes_then : (answer : Shared) → Comes g f n source answer i j → Changes g [] None j k → Comes g f n source answer i k
  comes_then answers.Linked come same = (come.0, link_on come.1 same)
  comes_then answers.Already come same = (come.0, numbers_then g i j k come.1 same.numbers)
  comes_then (answers.Differs at) come same = (come.0, numbers_then g i j k come.1 same.numbers)
  comes_then answers.Hole come same = (come.0, numbers_then g i j k come.1 same.numbers)
  comes_then answers.NoSource come same = (come.0, numbers_then g i j k come.1 same.numbers)
  comes_then (answers.Busy key) come same = numbers_then g i j k come same.numbers

-- so a share that is stopped changed nothing, or is a link
pub halts_of : (v u : WorldView) (f n : ℕ) (source : Place) (known : Option Shared) → IsKnown v u f n source known → HasHalted v u f n source
halts_of v u f n source None is =
    both_of (told_of v.locks) (told_of u.locks) _ (Halts v.locks.geometry f n source) is (λ i j same. inl same.numbers)
halts_of v u f n source (Some answer) is =
    both_of (told_of v.locks) (told_of u.locks) _ (Halts v.locks.geometry f n source) is (λ i j come. halt answer i j come)
  where
    halt : (answer : Shared) (i j : Image) → Comes v.locks.geometry f n source answer i j → Halts v.locks.geometry f n source i j
    halt answers.Linked i j come = inr come.1
    halt answers.Already i j come = inl come.1
    halt (answers.Differs at) i j come = inl come.1
    halt answers.Hole i j come = inl come.1
    halt answers.NoSource i j come = inl come.1
    halt (answers.Busy key) i j come = inl come

-- where a share stands, a step is left
pub left_some : (core : Core) (stage : Stage) (v : WorldView) → At v core stage → 0 < left core stage
left_some core (stages.Reads t) v at = some core.source (missing core)
  where
    some : (source : Place) (n : ℕ) → 0 < n + behind_tables source
    some (File f i) n = omega arith
    some (Arena s) n = omega arith
left_some core (stages.Peeks own) v at = omega arith
left_some core (stages.Locks pair) v at = omega arith
left_some core (stages.LocksSource pair) v at = some core.source
  where
    some : (source : Place) → 0 < behind_lock source
    some (File f i) = omega arith
    some (Arena s) = omega arith
left_some core (stages.PeeksAgain pair) v at = omega arith
left_some core (stages.ReadsSource pair) v at = omega arith
left_some core (stages.ReadsOwn pair block) v at = omega arith
left_some core (stages.CountsOwn pair) v at = omega arith
left_some core (stages.CountsSource pair group) v at = omega arith
left_some core (stages.Commits pair group other) v at = omega arith
left_some core (stages.Closes (closings.Applies a) answer) v at = omega arith
left_some core (stages.Closes closings.Frees answer) v at = some core.taken at.1.2
  where
    some : (taken : List Resource) → taken ≢ [] → 0 < length taken
    some [] none = absurd (none refl)
    some (r ∷ more) none = omega arith
left_some core stages.Over v at = absurd at
