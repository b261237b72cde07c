-- What each step tells the seat that makes it: of the step, the seat before, the number found and the seat after.
use Rattle.std.specs.Prelude.{◌≡◌, ◌≢◌, ℕ, ◌+◌, ◌-◌, List, [], ◌∷◌, ◌++◌, length, All, Contains, Option, Some, None, Bool, true, false}
use Rattle.atomic_table.specs.Table.{Me, Step}
use Rattle.turn_lock.specs.Follows.{Follows}
use Rattle.turn_lock.specs.Rule.{knows}
use Rattle.turn_lock.specs.Views.{SeatView}
use Rattle.turn_lock.specs.declared.knowledge.Knows.{Knows}
use Rattle.turn_lock.specs.declared.knowledge.Turn.TheVariants.{Waits, Has}

abbrev pub Sits : Type 0 → Type 0
Sits T = Me (Option T) (Knows T)

module _ {T O E : Type 0} (began : T → O) (listed : T → List E) where
  -- the seat has the turn and the slot, whose value follows all that it had seen
  abbrev pub GotTurn : Sits T → Sits T → Type 0
  GotTurn before after =
      (x : T) × (after ≡ (knows before.0.parts before.0.seen (Has x (length (listed x))), (0, Some x) ∷ before.1)) × All (λ y. Follows began listed y x) before.0.seen

  -- it has where the word was 0
  abbrev pub Took : Step (Option T) → Sits T → ℕ → Sits T → Type 0
  Took s before found after = (found ≡ 0 → GotTurn before after) × (found ≢ 0 → after ≡ before)

module _ {T : Type 0} where
  -- the counted word is what the seat knew, and the seat has now seen the value that it took
  abbrev pub Loaded : Step (Option T) → Sits T → ℕ → Sits T → Type 0
  Loaded s before found after =
      (x : T) (n : ℕ) → before.0.turn ≡ Has x n → (found ≡ n) × (after ≡ (knows before.0.parts (x ∷ []) (Has x n), before.1))

  -- the counted word is what was stored
  abbrev pub Raised : Step (Option T) → Sits T → ℕ → Sits T → Type 0
  Raised s before stored after =
      (x : T) (n : ℕ) → before.0.turn ≡ Has x n → after ≡ (knows before.0.parts before.0.seen (Has x stored), before.1)

  -- the turn was given up, and the seat has seen the value that it left in the slot
  abbrev pub Freed : Step (Option T) → Sits T → ℕ → Sits T → Type 0
  Freed s before found after =
      (x : T) → before.1 ≡ (0, Some x) ∷ [] → after ≡ (knows before.0.parts (x ∷ []) Waits, [])

  -- what a caller's seat knows, which has one part: without the lock, or with it and the emptied slot
  abbrev pub sits : Bool → T → ℕ → Sits T
  sits false x n = (knows 1 (x ∷ []) Waits, [])
  sits true x n = (knows 1 (x ∷ []) (Has x n), (0, None) ∷ [])

  -- it waits, and has a part
  pub record CanTake (v : Knows T) : Type 0 where
    pub waits : v.turn ≡ Waits
    pub part : v.parts ≡ 1

  -- it has just got the turn, with the value in the slot
  pub record HasSlot {E : Type 0} (listed : T → List E) (me : Sits T) : Type 0 where
    pub value : T
    pub slot : me.1 ≡ (0, Some value) ∷ []
    pub turn : me.0.turn ≡ Has value (length (listed value))
    pub part : me.0.parts ≡ 1

  -- it has the turn and the emptied slot, and may leave a value that has so many entries and follows the one taken
  pub record CanPut {O E : Type 0} (began : T → O) (listed : T → List E) (value : T) (entries : ℕ) (me : Sits T) : Type 0 where
    pub taken : T
    pub count : ℕ
    pub holds : me ≡ sits true taken count
    pub later : Follows began listed taken value
    pub entries_are : entries ≡ length (listed value)

  -- it waits, with the parts of all these seats and what they have seen
  pub record Merged (seats : List (SeatView T)) (me : Sits T) : Type 0 where
    pub bare : me.1 ≡ []
    pub waits : me.0.turn ≡ Waits
    pub all : me.0.parts ≡ length seats
    pub seen : All (λ seat. Contains me.0.seen seat.seen) seats

  -- a new seat gets one part, and has seen what the other has
  abbrev pub dealer : Knows T → Knows T
  dealer v = knows (v.parts - 1) v.seen Waits

  abbrev pub dealt : Knows T → Knows T
  dealt v = knows 1 v.seen Waits

  -- two seats as one
  abbrev pub together : Knows T → Knows T → Knows T
  together v w = knows (v.parts + w.parts) (v.seen ++ w.seen) Waits

  abbrev pub spent : Knows T
  spent = knows 0 [] Waits
