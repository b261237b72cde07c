-- Of a device that tells nothing, what a host has in memory for a fact is all that it needs to know the fact.
use Rattle.std.proofs.Common.{◌≡◌, ℕ, List, [], ◌∷◌, None, true, refl}
use Rattle.vol_layout.specs.declared.field.Edit.{Edit}
use Rattle.lock_store.specs.Views.{host_at, told_of}
use Rattle.host_facts.specs.Facts.Fact.{RecordIs}
use Rattle.host_facts.specs.Facts.{Fact, IsGuarded, IsInMemory}
use Rattle.host_facts.specs.Knows.{Knows}
use Rattle.host_facts.specs.Others.{Others}
use Rattle.host_facts.specs.Views.{WorldView, record_at}
use Rattle.lock_tests.proofs.UntoldLaws as untold

-- a call leaves a device untold
pub still : (h : ℕ) (v w : WorldView) → Others h v w → told_of v.locks ≡ None → told_of w.locks ≡ None
still h v w others none = untold.stays h v.locks w.locks others.locks none

pub knows : (v : WorldView) (h : ℕ) (a : Fact) → IsGuarded v.locks.geometry (host_at v.locks h) (record_at v h) a
    → told_of v.locks ≡ None → Knows v h a
knows v h a guard none = record { guard = guard; sure = untold.sure v.locks h _ none }

-- no record stands, and the one in memory does
pub none_stands : (v : WorldView) (h : ℕ) → (host_at v.locks h).joined ≡ true → told_of v.locks ≡ None → Knows v h (RecordIs [])
none_stands v h joined none = knows v h (RecordIs []) (joined, tt) none

own_kept : (es : List Edit) → IsInMemory es es
own_kept [] = tt
own_kept (e ∷ es) = refl

pub own_stands : (v : WorldView) (h : ℕ) → (host_at v.locks h).joined ≡ true → told_of v.locks ≡ None → Knows v h (RecordIs (record_at v h))
own_stands v h joined none = knows v h (RecordIs (record_at v h)) (joined, own_kept (record_at v h)) none
