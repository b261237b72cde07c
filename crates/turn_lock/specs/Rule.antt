-- What holds of the table between any two steps. Word 0 is 1 while a seat has the turn, word 1 counts entries, and the
-- one slot has the value.
use Rattle.std.specs.Prelude.{◌≡◌, ◌≢◌, ◌⊎◌, ◌<◌, ℕ, List, [], ◌∷◌, length, All, Option, Some}
use Rattle.std.specs.List.{sum_by}
use mathlib.Core.Option.{some, none}
use lib.ListN.{get_elem?}
use Rattle.atomic_table.specs.Seated.{TableId}
use Rattle.atomic_table.specs.Table.{State}
use Rattle.turn_lock.specs.Follows.{Follows}
use Rattle.turn_lock.specs.declared.knowledge.Knows.{Knows}
use Rattle.turn_lock.specs.declared.knowledge.Turn.{Turn}
use Rattle.turn_lock.specs.declared.knowledge.Turn.TheVariants.{Waits, Has}

abbrev pub knows : {T : Type 0} → ℕ → List T → Turn T → Knows T
knows parts seen turn = record { parts = parts; seen = seen; turn = turn }

-- the view of the first seat: it has all parts, and has seen the first value
abbrev pub starting : {T : Type 0} → ℕ → T → Knows T
starting seats first = knows seats (first ∷ []) Waits

-- a seat's parts of the right to close the lock
abbrev pub parts : {T : Type 0} → Knows T → ℕ
parts v = v.parts

-- no seat has the turn: the value is at home, and the counted word is the number of its entries
pub record Rests {T E : Type 0} (listed : T → List E) (x : T) (s : State (Option T) (Knows T)) : Type 0 where
  pub words : s.words ≡ 0 ∷ length (listed x) ∷ []
  pub home : s.homes ≡ some (Some x) ∷ []
  pub waits : (j : ℕ) (v : Knows T) → get_elem? s.views j ≡ some v → v.turn ≡ Waits

-- one seat, which has a part, has the turn: it knows the value that it took, and the counted word
pub record Out {T : Type 0} (x : T) (s : State (Option T) (Knows T)) : Type 0 where
  pub holder : ℕ
  pub view : Knows T
  pub count : ℕ
  pub here : get_elem? s.views holder ≡ some view
  pub has : view.turn ≡ Has x count
  pub part : 0 < view.parts
  pub words : s.words ≡ 1 ∷ count ∷ []
  pub home : s.homes ≡ none ∷ []
  pub waits : (j : ℕ) (v : Knows T) → j ≢ holder → get_elem? s.views j ≡ some v → v.turn ≡ Waits

-- The value, at home or as it was taken, began where the first one did. It follows all that the seats have seen, and
-- their parts add up to the number of seats
pub record Kept {T O E : Type 0} (began : T → O) (listed : T → List E) (first : T) (seats : ℕ) (s : State (Option T) (Knows T)) : Type 0 where
  pub value : T
  pub start : began value ≡ began first
  pub behind : (j : ℕ) (v : Knows T) → get_elem? s.views j ≡ some v → All (λ y. Follows began listed y value) v.seen
  pub all : sum_by parts s.views ≡ seats
  pub lies : Rests listed value s ⊎ Out value s

-- a seat of a table that has two words
pub record IsAt (table seat : TableId) : Type 0 where
  pub two : table.words ≡ 2
  pub same : seat ≡ table
