-- Writes and swaps of hint blocks.
use Rattle.std.proofs.Common.{◌≡◌, ℕ, Bool, true, false, Err, List, Ok, Result, refl, subst, sym}
use Rattle.std.specs.Prelude.{OnOk, slice_set}
use Rattle.vol_layout.specs.declared.kind.Kind.{Kind}
use Rattle.vol_layout.specs.Places.{place_of}
use Rattle.image_view.specs.Images.{OnlyChanges}
use Rattle.image_view.specs.laws.FrameLaws.{write_only}
use Rattle.call_effects.specs.Places.{KeepsFiles}
use Rattle.lock_store.specs.declared.answers.StepNo.{StepNo}
use Rattle.lock_store.specs.Calls.{WritesBlock}
use Rattle.lock_store.specs.Views.{LocksView, counter_of, host_at, keys_of, told_of}
use Rattle.disk_locks.specs.Agreement.{Agrees}
use Rattle.disk_locks.specs.Consistent.{Consistent}
use Rattle.disk_locks.specs.Others as locks'
use Rattle.host_facts.specs.Calls.{SwapsPlace, WritesPlace}
use Rattle.host_facts.specs.Hints.{IsHintPlace, WroteHint}
use Rattle.host_facts.specs.Looks.{Looks}
use Rattle.host_facts.specs.Views.{WorldView}
use Rattle.host_facts.specs.Wrote.{FilesStay}
use Rattle.host_facts.specs.laws.FileStays.{quiet_files}
use Rattle.host_facts.specs.laws.KindLaws.{hint_leaves, nothing_changes}
use Rattle.host_facts.specs.laws.OwnLaws.{looked_law, swapped_hint_law, wrote_hint_law}
use Rattle.host_facts.specs.laws.ToldLaws.{both_with}
use Rattle.meta_world.proofs.Puts.{refused_files, same_record, same_state}

-- the place of a kind by its number
pub written_place : (v w : LocksView) (h place : ℕ) (kind : Kind) (block : List ℕ) (result : Result Unit StepNo)
    → place ≡ place_of v.geometry kind → WritesBlock v h kind block (host_at v h) result w → WritesPlace v h place block result w
written_place v w h place kind block result at did =
    subst (λ p. WritesPlace v h p block result w) (sym at) (by_kind result did)
  where
    by_kind : (result : Result Unit StepNo) → WritesBlock v h kind block (host_at v h) result w
        → WritesPlace v h (place_of v.geometry kind) block result w
    by_kind (Ok done) did = did
    by_kind (Err why) did = did

-- a swap that found another block wrote nothing
pub hint_kept : (v w : WorldView) (h place : ℕ) (old new : List ℕ) (result : Result Bool StepNo) → locks'.Others h v.locks w.locks
    → w.standing ≡ v.standing → SwapsPlace v.locks h place old new result w.locks → result ≡ Ok false → Looks h v w
hint_kept v w h place old new (Ok true) others same did e = absurd (let bad : ⊥ = cc in bad)
hint_kept v w h place old new (Ok false) others same did e =
    looked_law v w h _ _ did.1 did.1.acts.changes.2 did.1.acts.admitted others.lasts (same_record v w same h)
hint_kept v w h place old new (Err why) others same did e = absurd (let bad : ⊥ = cc in bad)

-- a hint block was written
module _ (v w : WorldView) (h place : ℕ) (is : Consistent v.locks) (others : locks'.Others h v.locks w.locks)
    (same : w.standing ≡ v.standing) (at : IsHintPlace v.locks.geometry place) where
  pub hint_wrote : (block : List ℕ) (result : Result Unit StepNo) → WritesPlace v.locks h place block result w.locks
      → OnOk result (WroteHint h place block v w)
  hint_wrote block (Ok done) did = wrote_hint_law v w h place block is at did others.lasts (same_record v w same h)
  hint_wrote block (Err why) did = tt

  pub hint_swapped : (old new : List ℕ) (result : Result Bool StepNo) → SwapsPlace v.locks h place old new result w.locks
      → result ≡ Ok true → WroteHint h place new v w
  hint_swapped old new (Ok true) did e = swapped_hint_law v w h place old new is at did others.lasts (same_record v w same h)
  hint_swapped old new (Ok false) did e = absurd (let bad : ⊥ = cc in bad)
  hint_swapped old new (Err why) did e = absurd (let bad : ⊥ = cc in bad)

-- its write or swap leaves all files
hint_files : (v w : WorldView) (h place : ℕ) (block : List ℕ) → Consistent v.locks → IsHintPlace v.locks.geometry place
    → WroteHint h place block v w → FilesStay v w
hint_files v w h place block is at wrote =
    let g = v.locks.geometry in
    both_with (told_of v.locks) (told_of w.locks) (λ i. Agrees g (counter_of v.locks) (keys_of v.locks) v.locks.hosts i)
    (λ i j. j ≡ slice_set i place block) KeepsFiles is.told wrote.images (λ i j agrees now.
    let only : OnlyChanges g i j at.kind = rw (now, at.at) (write_only g i at.kind block at.has) in
    quiet_files g (counter_of v.locks) i j agrees.valid (nothing_changes g i j at.kind (hint_leaves at.kind at.hint) only))

pub wrote_hint_files : (v w : WorldView) (h place : ℕ) (block : List ℕ) (result : Result Unit StepNo) → Consistent v.locks
    → IsHintPlace v.locks.geometry place → WritesPlace v.locks h place block result w.locks → OnOk result (WroteHint h place block v w)
    → FilesStay v w
wrote_hint_files v w h place block (Ok done) is at did wrote = hint_files v w h place _ is at wrote
wrote_hint_files v w h place block (Err why) is at did wrote = refused_files v w h _ _ why did

pub swapped_hint_files : (v w : WorldView) (h place : ℕ) (old new : List ℕ) (result : Result Bool StepNo) → Consistent v.locks
    → IsHintPlace v.locks.geometry place → SwapsPlace v.locks h place old new result w.locks
    → (result ≡ Ok true → WroteHint h place new v w) → FilesStay v w
swapped_hint_files v w h place old new (Ok true) is at did wrote = hint_files v w h place _ is at (wrote refl)
swapped_hint_files v w h place old new (Ok false) is at did wrote = same_state v w did.1.acts.changes.2
swapped_hint_files v w h place old new (Err why) is at did wrote = refused_files v w h _ _ why did
