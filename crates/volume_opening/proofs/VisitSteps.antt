-- What an opening leaves of keys and counter, by its answer.
use Rattle.std.proofs.Common.{◌≡◌, ◌≢◌, ◌↔◌, ◌≤◌, ℕ, List, Option, refl, sym, ap, ◌∙◌, inr, arith}
use Rattle.std.specs.Prelude.{Contains, Err, IfErr, Ok, Result}
use Rattle.vol_base.specs.Faults.{Rose}
use Rattle.shared_disk.specs.declared.answers.DiskNo.{DiskNo}
use Rattle.shared_disk.specs.declared.answers.DiskNo.TheVariants as disk_refusals
use Rattle.shared_disk.specs.Calls.{after_register, next_key}
use Rattle.shared_disk.specs.laws.VisitLaws.{next_registered}
use Rattle.shared_disk.specs.State.{State, Told, with_told}
use Rattle.shared_disk.specs.Visits.{after_visit}
use Rattle.volume_opening.specs.declared.open_no.OpenNo.{OpenNo}
use Rattle.volume_opening.specs.declared.open_no.OpenNo.TheVariants as openings
use Rattle.volume_opening.specs.Openings.{IsVisited}
use Rattle.volume_opening.specs.Refusals.{IsLeft, KeepsContent}

-- the key that a registration gave is registered
pub entered_key : (s t : State) (key : ℕ) → key ≡ next_key 0 s → t ≡ after_register 0 s → Contains t.keys key
entered_key s t key is registered = rw registered (next_registered s key is)

-- a change of content leaves the keys
pub still_entered : (s t u : State) (key : ℕ) → key ≡ next_key 0 s → t ≡ after_register 0 s → u ≡ with_told u.told t → Contains u.keys key
still_entered s t u key is registered changed = rw (ap (λ (v : State). v.keys) changed) (entered_key s t key is registered)

pub is_visited : (s u v : State) → v ≡ with_told u.told (after_visit s) → IsVisited s v
is_visited s u v visit = visit ∙ ap (λ (o : Option Told). with_told o (after_visit s)) (sym (ap (λ (w : State). w.told) visit))

-- where the content stays too, only the counter has risen
only_visited : (s t u v : State) → t ≡ after_register 0 s → u.told ≡ t.told → v ≡ with_told u.told (after_visit s) → v ≡ after_visit s
only_visited s t u v registered kept visit = visit ∙ ap (λ (o : Option Told). with_told o (after_visit s)) (kept ∙ ap (λ (w : State). w.told) registered)

pub left_after : {T : Type 0} (s t u v : State) (result : Result T OpenNo) → result ≢ Err openings.Failed → result ≢ Err openings.NoKeys
    → IfErr result (KeepsContent t.told u.told) → t ≡ after_register 0 s → v ≡ with_told u.told (after_visit s) → IfErr result (IsLeft s v)
left_after s t u v (Ok x) failed keys kept registered visit = tt
left_after s t u v (Err (openings.Geometry a b)) failed keys kept registered visit = only_visited s t u v registered kept visit
left_after s t u v (Err (openings.Faults xs)) failed keys kept registered visit = only_visited s t u v registered kept visit
left_after s t u v (Err openings.NoKeys) failed keys kept registered visit = absurd (keys refl)
left_after s t u v (Err openings.Failed) failed keys kept registered visit = absurd (failed refl)
left_after s t u v (Err openings.NoMemory) failed keys kept registered visit = inr (is_visited s u v visit)

-- a fence under a registered key fails only by a fault
pub fence_failed : {T : Type 0} (result : Result T DiskNo) (refusal : DiskNo) (keys : List ℕ) (key before after : ℕ) → result ≡ Err refusal → Contains keys key
    → (result ≡ Err disk_refusals.Fenced) ↔ (Contains keys key → ⊥) → result ≢ Err disk_refusals.NoKeys → result ≢ Err disk_refusals.NoMemory
    → (result ≡ Err disk_refusals.Failed → Rose before after) → Rose before after
fence_failed result disk_refusals.Fenced keys key before after is entered fenced no_keys memory rose = absurd (fenced.0 is entered)
fence_failed result disk_refusals.Failed keys key before after is entered fenced no_keys memory rose = rose is
fence_failed result disk_refusals.NoKeys keys key before after is entered fenced no_keys memory rose = absurd (no_keys is)
fence_failed result disk_refusals.NoMemory keys key before after is entered fenced no_keys memory rose = absurd (memory is)

pub rose_since : (a b c d : ℕ) → a ≤ b → b ≤ c → Rose c d → Rose a d
rose_since a b c d early later rose = omega arith
