-- The stages, one after the other, give the faults of the first that has any.
use Rattle.std.proofs.Common.{◌≡◌, ◌≢◌, ◌<◌, ℕ, List, [], ◌∷◌, get_or, length, refl, ap, inl, inr, arith}
use Rattle.volume_faults.specs.declared.fault.Fault.{Fault}
use Rattle.volume_faults.specs.ReadPlaces.{IsCheckedPlace}
use Rattle.volume_faults.specs.laws.ReadableLaws.{listed_place}
use Rattle.volume_faults.specs.Faults.{AreOfFirst, AreTableFaults, IsOfStage}
use Rattle.volume_faults.specs.laws.ListLaws.{Adds-lists, passed_without_fault}
use Rattle.volume_check.specs.Metadatas.{AddsStage, Metadata, Passes}

-- a stage that adds nothing is passed
pub nothing_added : (stage : ℕ) (m : Metadata) → AddsStage stage m [] [] → Passes stage m
nothing_added stage m adds =
    passed_without_fault m.geometry m.counter m.image stage (Adds-lists (IsOfStage m.geometry m.image stage) m.geometry m.counter m.image [] adds)

-- the last stage
last_stage : (m : Metadata) (xs : List Fault) → AddsStage 4 m [] xs → AreOfFirst (4 ∷ []) m.geometry m.counter m.image xs
last_stage m [] adds = inr (nothing_added 4 m adds, refl)
last_stage m (x ∷ xs) adds = inl (λ e. cc, Adds-lists (IsOfStage m.geometry m.image 4) m.geometry m.counter m.image (x ∷ xs) adds)

some_items : {X : Type 0} (xs : List X) → 0 < length xs → xs ≢ []
some_items xs some e = let none : length xs ≡ 0 = ap length e in absurd (omega (arith, some, none))

no_items : {X : Type 0} (xs : List X) → length xs ≡ 0 → xs ≡ []
no_items [] none = refl
no_items (x ∷ xs) none = absurd (omega (arith, none))

-- a stage whose list has no item is passed
pub passed_by : (stage : ℕ) (m : Metadata) (xs : List Fault) → AddsStage stage m [] xs → length xs ≡ 0 → Passes stage m
passed_by stage m xs adds none = nothing_added stage m (rw (no_items xs none) at adds)

-- the list of the first stage that has an item
pub ends_at_second : (m : Metadata) (xs : List Fault) → AddsStage 2 m [] xs → 0 < length xs → AreTableFaults m.geometry m.counter m.image xs
unfolding AreTableFaults
ends_at_second m xs adds some = inl (some_items xs some, Adds-lists (IsOfStage m.geometry m.image 2) m.geometry m.counter m.image xs adds)

pub ends_at_third : (m : Metadata) (xs ys : List Fault) → AddsStage 2 m [] xs → length xs ≡ 0 → AddsStage 3 m [] ys → 0 < length ys
    → AreTableFaults m.geometry m.counter m.image ys
unfolding AreTableFaults
ends_at_third m xs ys second none adds some =
    inr (passed_by 2 m xs second none, inl (some_items ys some, Adds-lists (IsOfStage m.geometry m.image 3) m.geometry m.counter m.image ys adds))

pub ends_at_fourth : (m : Metadata) (xs ys zs : List Fault) → AddsStage 2 m [] xs → length xs ≡ 0 → AddsStage 3 m [] ys → length ys ≡ 0 → AddsStage 4 m [] zs
    → AreTableFaults m.geometry m.counter m.image zs
unfolding AreTableFaults
ends_at_fourth m xs ys zs second none third still_none adds =
    inr (passed_by 2 m xs second none, inr (passed_by 3 m ys third still_none, last_stage m zs adds))

-- the first fault of the second stage stands at a block that is read
pub first_place : (m : Metadata) (xs : List Fault) (fault : Fault) → AddsStage 2 m [] xs → 0 < length xs → fault ≡ get_or xs 0 fault
    → IsCheckedPlace m.geometry fault.place
first_place m xs fault adds some at =
    listed_place m.geometry m.counter m.image xs 0 fault (Adds-lists (IsOfStage m.geometry m.image 2) m.geometry m.counter m.image xs adds) some at
