-- What a host knows stays, whatever the others do.
use Rattle.std.proofs.Common.{◌≡◌, ◌≢◌, ◌<◌, ◌/◌, ℕ, List, true, refl, sym, ap, ◌∙◌, subst}
use Rattle.std.specs.Prelude.{Contains}
use Rattle.vol_layout.specs.declared.kind.Resource.TheVariants.{Group}
use Rattle.vol_layout.specs.declared.field.Field.TheVariants.{Count, Head, Pointer, Slot}
use Rattle.vol_layout.specs.declared.field.Edit.{Edit}
use Rattle.vol_layout.specs.Edits.{touches}
use Rattle.vol_layout.specs.Fields.{resource_of}
use Rattle.vol_layout.specs.Journal.{edits_of}
use Rattle.vol_layout.specs.Ranges.{per_table}
use Rattle.image_view.specs.Balances.{share_of}
use Rattle.image_view.specs.HostKeys.{IsHeldBy, slot_key_at}
use Rattle.image_view.specs.Images.{Image}
use Rattle.image_view.specs.Numbers.{journal}
use Rattle.lock_store.specs.Memories.{claim_of, holds, key_of}
use Rattle.lock_store.specs.Views.{LocksView, counter_of, host_at, key_at, keys_of, told_of}
use Rattle.disk_locks.specs.Consistent.{Consistent}
use Rattle.disk_locks.specs.KeepsImage.{KeepsImage}
use Rattle.disk_locks.specs.Others as locks'
use Rattle.disk_locks.specs.Others.{Fades}
use Rattle.disk_locks.specs.Sure.{BothTold}
use Rattle.disk_locks.specs.laws.OthersLaws as locks_laws
use Rattle.host_facts.specs.Facts.Fact.{BlockIs, DeadRecord, DeadTable, Ended, FreshIs, Given}
use Rattle.host_facts.specs.Facts.Fact.{NoneFree, Off, RecordIs, SlotIs, Swept, TableIs}
use Rattle.host_facts.specs.Facts.{Fact, IsGuarded, Tells}
use Rattle.host_facts.specs.Finds.{Finds}
use Rattle.host_facts.specs.Knows.{Knows}
use Rattle.host_facts.specs.Others.{Others}
use Rattle.host_facts.specs.Views.{WorldView, record_at, standing_at, with_locks}
use Rattle.host_facts.specs.laws.FactLaws.{guard_as, guard_key, held_readable, looker_joined, record_still, tells_last}
use Rattle.host_facts.specs.laws.FindsLaws.{found}
use Rattle.host_facts.specs.laws.FoundLaws.{dead_off}
use Rattle.host_facts.specs.laws.ToldLaws.{both_and, both_with, sure_over}

-- what a call of another host keeps of a told image for a host whose key is registered
record KeptImages (v : LocksView) (x : ℕ) (i j : Image) : Type 0 where
  pub finds : Finds v x i
  pub keeps : KeepsImage v.geometry x (host_at v x) i j
  pub fades : Fades v.geometry v.disk.state i j

module _ (v : LocksView) (x : ℕ) (i j : Image) (kept : KeptImages v x i j) where
  own_journal : (host_at v x).joined ≡ true → journal v.geometry j x ≡ journal v.geometry i x
  unfolding journal
  own_journal joined = ap edits_of (kept.keeps.record_own joined)

  dead_journal : (y : ℕ) → y < v.geometry.hosts → claim_of (host_at v x) y ≢ 0 → journal v.geometry j y ≡ journal v.geometry i y
  unfolding journal
  dead_journal y below claim = ap edits_of (kept.keeps.standing y below claim)

  tells_kept : (a : Fact) (own : List Edit) → IsGuarded v.geometry (host_at v x) own a → Tells v x i a → Tells v x j a
  tells_kept (TableIs t p) own guard tells = kept.keeps.tables t guard.0 guard.1 ∙ tells
  tells_kept (RecordIs es) own guard tells = own_journal guard.0 ∙ tells
  tells_kept (NoneFree r) own guard tells = λ d has at none.
      let held : holds (host_at v x) (Group (d / per_table)) ≡ true = subst (λ q. holds (host_at v x) (Group q) ≡ true) (sym at) guard.1 in
      tells d has at (sym (kept.keeps.numbers (Count d) has (held_readable (host_at v x) (Group (d / per_table)) held)) ∙ none)
  tells_kept (FreshIs d bytes) own guard tells =
      let may = held_readable (host_at v x) (resource_of (Count d)) guard.1 in
      (kept.keeps.fresh d guard.0 may tells.1 ∙ tells.0, kept.keeps.numbers (Count d) guard.0 may ∙ tells.1)
  tells_kept (SlotIs s d) own guard tells = (kept.keeps.slots s d guard.0 guard.2 tells).0
  tells_kept (BlockIs (Head f) d bytes) own guard tells =
      (tells.0, kept.keeps.content (Head f) d guard.0 guard.1 guard.2 tells.0 ∙ tells.1)
  tells_kept (BlockIs (Pointer f n) d bytes) own guard tells = (
    ap (λ number. share_of (Pointer f n) number d) (kept.keeps.numbers (Pointer f n) guard.0 guard.2) ∙ tells.0,
    kept.keeps.content (Pointer f n) d guard.0 guard.1 guard.2 tells.0 ∙ tells.1,
  )
  tells_kept (BlockIs (Slot s) d bytes) own guard tells =
      let slot = kept.keeps.slots s d guard.0 guard.2 tells.0.0 in
      let joined = looker_joined v.geometry.hosts (counter_of v) x (host_at v x) (Slot s) d (kept.finds.consistent.memories x) guard.2 in
      ((slot.0, ap (λ es. touches es (Slot s)) (own_journal joined) ∙ tells.0.1), slot.1 tells.0.1 ∙ tells.1)
  tells_kept (BlockIs (Count c) d bytes) own guard tells =
      (tells.0, kept.keeps.content (Count c) d guard.0 guard.1 guard.2 tells.0 ∙ tells.1)
  tells_kept (Given key) own guard tells = tells
  tells_kept (Off key) own guard tells = tells
  tells_kept (Ended key) own guard tells = tells
  tells_kept (DeadRecord y es) own guard tells = dead_journal y guard.0 guard.1 ∙ tells
  tells_kept (DeadTable y f p) own guard tells = (
    ap (λ es. touches es f) (dead_journal y guard.1.0 guard.1.1) ∙ tells.0,
    kept.keeps.replayed y f guard.0 guard.1.0 guard.1.1 tells.0 ∙ tells.1,
  )
  tells_kept (Swept y k) own guard tells = λ r has turn held.
      tells r has turn (kept.fades r (slot_key_at v.geometry i y) has (dead_off v x i y kept.finds guard.0 guard.1)
      (subst (λ key. IsHeldBy v.geometry j r key) (kept.keeps.dead y guard.0 guard.1) held))

-- what such a call keeps, and what lasts over every call, where the image was valid
images_kept : (v w : LocksView) (x : ℕ) → Consistent v → Contains (keys_of v) (key_at v x)
    → BothTold (told_of v) (told_of w) (KeepsImage v.geometry x (host_at v x))
    → BothTold (told_of v) (told_of w) (Fades v.geometry v.disk.state)
    → BothTold (told_of v) (told_of w) (KeptImages v x)
images_kept v w x is here keeps fades =
    both_with (told_of v) (told_of w) (λ i. Finds v x i)
    (λ i j. KeepsImage v.geometry x (host_at v x) i j × Fades v.geometry v.disk.state i j)
    (KeptImages v x) (found v x is here)
    (both_and (told_of v) (told_of w) (KeepsImage v.geometry x (host_at v x)) (Fades v.geometry v.disk.state) keeps fades)
    (λ i j finds step. record { finds = finds; keeps = step.0; fades = step.1 })

-- every fact stays over a call of another host
pub fact_kept : (v w : WorldView) (h x : ℕ) (a : Fact) → Consistent v.locks → locks'.Others h v.locks w.locks
    → standing_at w x ≡ standing_at v x → x ≢ h → Knows v x a → Knows w x a
fact_kept v w h x a is others standing ne knows =
    let g = v.locks.geometry in
    let some = guard_key g g.hosts (counter_of v.locks) x (host_at v.locks x) (record_at v x) a (is.memories x) knows.guard in
    let keeps = others.keeps x ne some in
    record {
      guard = guard_as v.locks.geometry w.locks.geometry (host_at v.locks x) (host_at w.locks x) (record_at v x) (record_at w x) a
          others.lasts.geometry keeps.memory (record_still v w x keeps.memory standing) knows.guard;
      sure =
          sure_over v.locks w.locks x (KeptImages v.locks x) (λ image. Tells v.locks x image a) (λ image. Tells w.locks x image a)
          (ap key_of keeps.memory) (λ now. keeps.registered now)
          (λ now. images_kept v.locks w.locks x is (keeps.registered now) (keeps.image now) others.lasts.fades)
          (λ old new kept tells. tells_last v.locks w.locks x new a others.lasts
          (tells_kept v.locks x old new kept a (record_at v x) knows.guard tells)) knows.sure;
    }

-- what a call leaves to the others: it is on the locks alone, or changes the own record in memory too
pub others_of : (v w : WorldView) (h : ℕ) → Consistent v.locks → locks'.Others h v.locks w.locks
    → ((x : ℕ) → x ≢ h → standing_at w x ≡ standing_at v x) → Others h v w
others_of v w h is others standing = record {
  locks = others;
  standing = standing;
  facts = λ x a ne knows. fact_kept v w h x a is others (standing x ne) ne knows;
}

pub others_lent : (v : WorldView) (h : ℕ) (l : LocksView) → Consistent v.locks → locks'.Others h v.locks l → Others h v (with_locks v l)
others_lent v h l is others = others_of v (with_locks v l) h is others (λ x ne. refl)

-- what two calls of one host leave, one call leaves
pub others_then : (u v w : WorldView) (h : ℕ) → Consistent u.locks → Others h u v → Others h v w → Others h u w
others_then u v w h is a b = record {
  locks = locks_laws.others_then u.locks v.locks w.locks h is a.locks b.locks;
  standing = λ x ne. b.standing x ne ∙ a.standing x ne;
  facts = λ x a' ne knows. b.facts x a' ne (a.facts x a' ne knows);
}
