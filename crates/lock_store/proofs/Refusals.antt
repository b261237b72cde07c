-- What a refusal is, from what the device answered and what was noted.
use Rattle.std.proofs.Common.{◌≡◌, ℕ, List, Ok, refl, sym, ap, ◌∙◌, subst}
use Rattle.vol_layout.specs.declared.geometry.Geometry.{Geometry}
use Rattle.vol_layout.specs.declared.kind.Kind.{Kind}
use Rattle.vol_layout.specs.Places.{place_of}
use Rattle.vol_base.specs.declared.block.Block.{Block}
use Rattle.shared_disk.specs.declared.answers.Tested.{Tested}
use Rattle.shared_disk.specs.declared.answers.Tested.TheVariants.{Found}
use Rattle.lock_store.specs.Calls.{ReadsBlock, SwapsBlock}
use Rattle.shared_disk.specs.Events.{Acts, Call, IsSpent, Refuses, Reply, Shows, event}
use Rattle.shared_disk.specs.Seen.{DiskSeen}
use Rattle.shared_disk.specs.declared.answers.DiskNo.{DiskNo}
use Rattle.shared_disk.specs.declared.answers.DiskNo.TheVariants as refusals
use Rattle.lock_store.specs.declared.answers.StepNo.{StepNo}
use Rattle.lock_store.specs.declared.answers.StepNo.TheVariants.{Bad}
use Rattle.lock_store.specs.declared.host.HostState.{HostState}
use Rattle.lock_store.specs.Events.{Did, IsRefusal, IsRefusalOf, Notes, read_of, swap_of}
use Rattle.lock_store.specs.Memories.{dropped}
use Rattle.lock_store.specs.Views.{LocksView, host_at, key_at}

-- a view of these parts
abbrev pub view_of : DiskSeen → Geometry → List HostState → LocksView
view_of disk geometry hosts = record { disk = disk; geometry = geometry; hosts = hosts }

noted : (d e : DiskSeen) (g : Geometry) (hosts : List HostState) (h : ℕ) (call : Call) (reply : Reply) (m : HostState) (w : LocksView)
    → Acts (event (key_at (view_of d g hosts) h) call reply) d e → Notes h m (view_of e g hosts) w → Did (view_of d g hosts) h call reply m w
noted d e g hosts h call reply m w acts notes = record {
  geometry = notes.geometry;
  mine = notes.mine;
  others = notes.others;
  acts = subst (λ (f : DiskSeen). Acts (event (key_at (view_of d g hosts) h) call reply) d f) (sym notes.disk) acts;
}

cases : (d e : DiskSeen) (g : Geometry) (hosts : List HostState) (h : ℕ) (call : Call) (place : ℕ) (Fits : List ℕ → Type 0)
    (why : DiskNo) (w : LocksView) (step : StepNo) → (IsSpent call d.state → ⊥)
    → Acts (event (key_at (view_of d g hosts) h) call (Refuses why)) d e → IsRefusalOf h why step (view_of e g hosts) w
    → IsRefusal (view_of d g hosts) h call place Fits step w
cases d e g hosts h call place Fits refusals.Fenced w step keyed acts of =
    subst (λ (s : StepNo). IsRefusal (view_of d g hosts) h call place Fits s w) (sym of.0) (noted d e g hosts h call (Refuses refusals.Fenced) dropped w acts of.1)
cases d e g hosts h call place Fits refusals.Failed w step keyed acts of =
    subst (λ (s : StepNo). IsRefusal (view_of d g hosts) h call place Fits s w) (sym of.0) (noted d e g hosts h call (Refuses refusals.Failed) dropped w acts of.1)
cases d e g hosts h call place Fits refusals.NoKeys w step keyed acts of = absurd (keyed (acts.no_keys.0 refl))
cases d e g hosts h call place Fits refusals.NoMemory w step keyed acts of =
    let did : Did (view_of d g hosts) h call (Refuses refusals.NoMemory) (host_at (view_of d g hosts) h) (view_of e g hosts) =
    record { geometry = refl; mine = refl; others = λ x ne. refl; acts = acts } in
    subst (λ (s : StepNo). IsRefusal (view_of d g hosts) h call place Fits s w) (sym of.0)
    (subst (λ (u : LocksView). Did (view_of d g hosts) h call (Refuses refusals.NoMemory) (host_at (view_of d g hosts) h) u) (sym of.1) did)

-- a refusal of the device, of a call under a key
pub refused_is : (d e : DiskSeen) (g : Geometry) (hosts : List HostState) (v : LocksView) (h key : ℕ) (asked call : Call) (place : ℕ)
    (Fits : List ℕ → Type 0) (why : DiskNo) (w : LocksView) (step : StepNo)
    → view_of d g hosts ≡ v → key_at v h ≡ key → asked ≡ call → (IsSpent asked d.state → ⊥)
    → Acts (event key asked (Refuses why)) d e → IsRefusalOf h why step (view_of e g hosts) w
    → IsRefusal v h call place Fits step w
refused_is d e g hosts v h key asked call place Fits why w step is own made keyed acts of =
    let mine : key_at (view_of d g hosts) h ≡ key = ap (λ (u : LocksView). key_at u h) is ∙ own in
    let under = subst (λ k. Acts (event k asked (Refuses why)) d e) (sym mine) acts in
    subst (λ (u : LocksView). IsRefusal u h call place Fits step w) is
    (subst (λ (c : Call). IsRefusal (view_of d g hosts) h c place Fits step w) made (cases d e g hosts h asked place Fits why w step keyed under of))

-- a later note in memory
pub did_then : (v u w : LocksView) (h : ℕ) (call : Call) (reply : Reply) (m n : HostState)
    → Did v h call reply m u → Notes h n u w → Did v h call reply n w
did_then v u w h call reply m n did notes = record {
  geometry = notes.geometry ∙ did.geometry;
  mine = notes.mine;
  others = λ x ne. notes.others x ne ∙ did.others x ne;
  acts = subst (λ (f : DiskSeen). Acts (event (key_at v h) call reply) v.disk f) (sym notes.disk) did.acts;
}

-- a block that does not fit was shown, and the host was dropped
pub unfit_is : (v u w : LocksView) (h : ℕ) (call : Call) (here place : ℕ) (Fits : List ℕ → Type 0) (block : List ℕ) (m : HostState) (step : StepNo)
    → Did v h call (Shows block) m u → (Fits block → ⊥) → step ≡ Bad here → here ≡ place → Notes h dropped u w
    → IsRefusal v h call place Fits step w
unfit_is v u w h call here place Fits block m step did unfit is at notes =
    subst (λ (s : StepNo). IsRefusal v h call place Fits s w) (sym is)
    (at, (block, did_then v u w h call (Shows block) m dropped did notes, unfit))

-- the same behind a read, and behind a test-and-set that found the block
pub unfit_read : (v u w : LocksView) (h : ℕ) (kind : Kind) (Fits : List ℕ → Type 0) (block : Block) (step : StepNo)
    → ReadsBlock v h kind (Ok block) u → (Fits block.0 → ⊥) → step ≡ Bad (place_of u.geometry kind) → Notes h dropped u w
    → IsRefusal v h (read_of v kind) (place_of v.geometry kind) Fits step w
unfit_read v u w h kind Fits block step did unfit is notes =
    unfit_is v u w h (read_of v kind) (place_of u.geometry kind) (place_of v.geometry kind) Fits block.0 (host_at v h) step did unfit is
    (ap (λ (g : Geometry). place_of g kind) did.geometry) notes

pub unfit_swap : (v u w : LocksView) (h : ℕ) (kind : Kind) (old new from to : List ℕ) (m : HostState) (Fits : List ℕ → Type 0)
    (tested : Tested) (block : Block) (step : StepNo) → old ≡ from → new ≡ to
    → SwapsBlock v h kind old new m (Ok tested) u → tested ≡ Found block → (Fits block.0 → ⊥)
    → step ≡ Bad (place_of u.geometry kind) → Notes h dropped u w
    → IsRefusal v h (swap_of v kind from to) (place_of v.geometry kind) Fits step w
unfit_swap v u w h kind old new from to m Fits tested block step first second swaps found unfit is notes =
    let did : Did v h (swap_of v kind old new) (Shows block.0) (host_at v h) u =
    subst (λ (t : Tested). SwapsBlock v h kind old new m (Ok t) u) found swaps in
    let call : swap_of v kind old new ≡ swap_of v kind from to = cc in
    subst (λ (c : Call). IsRefusal v h c (place_of v.geometry kind) Fits step w) call
    (unfit_is v u w h (swap_of v kind old new) (place_of u.geometry kind) (place_of v.geometry kind) Fits block.0 (host_at v h) step did unfit is
    (ap (λ (g : Geometry). place_of g kind) did.geometry) notes)
