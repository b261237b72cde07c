use Rattle.std.specs.Prelude.{◌≡◌, ◌≤◌, ◌++◌, ◌∷◌, [], ℕ, List, Option, Some, None, length, take, slice_set}
use Rattle.shared_disk.specs.State.{Told}

-- the image after these writes, the first one first
unfoldable pub image_after : List (ℕ × List ℕ) → List (List ℕ) → List (List ℕ)
image_after [] image = image
image_after (w ∷ writes) image = image_after writes (slice_set image w.0 w.1)

-- after each number of the writes, the image stands for the first so many entries of the history: their number never
-- falls, and ends at the whole history
pub record EachFront {E : Type 0} (StandsFor : List (List ℕ) → List E → Type 0)
    (image : List (List ℕ)) (writes : List (ℕ × List ℕ)) (history : List E) : Type 0 where
  pub front : ℕ → ℕ
  pub rising : (j k : ℕ) → j ≤ k → k ≤ length writes → front j ≤ front k
  pub last : front (length writes) ≡ length history
  pub each : (k : ℕ) → k ≤ length writes → StandsFor (image_after (take k writes) image) (take (front k) history)

-- from one content of a device to a later one: the writes between them, and what each image on the way stands for
pub record FrontsBetween {E : Type 0} (StandsFor : List (List ℕ) → List E → Type 0) (old new : Told) (history : List E) : Type 0 where
  pub made : List (ℕ × List ℕ)
  pub writes : new.writes ≡ old.writes ++ made
  pub image : new.image ≡ image_after made old.image
  pub fronts : EachFront StandsFor old.image made history

-- each image between the two stands for a front of the history, which grows to the whole; nothing is said where the device tells nothing
unfoldable pub Prefixes : {E : Type 0} → (List (List ℕ) → List E → Type 0) → Option Told → Option Told → List E → Type 0
Prefixes StandsFor None None history = Unit {0}
Prefixes StandsFor None (Some new) history = ⊥
Prefixes StandsFor (Some old) None history = ⊥
Prefixes StandsFor (Some old) (Some new) history = FrontsBetween StandsFor old new history

-- each image between the two meets this fact
unfoldable pub EachImage : (List (List ℕ) → Type 0) → Option Told → Option Told → Type 0
EachImage P old new = Prefixes {E = ℕ} (λ image _. P image) old new []

-- what an image stands for after a history that ended before
abbrev pub After : {E : Type 0} → (List (List ℕ) → List E → Type 0) → List E → List (List ℕ) → List E → Type 0
After StandsFor earlier image history = StandsFor image (earlier ++ history)
