-- A formatted volume is one that a tidy run may begin on, and a lock that is held by another host shows its key to a try.
use Rattle.std.proofs.Common.{◌≡◌, ◌≢◌, ℕ, List, Some, None, refl}
use Rattle.std.proofs.lemmas.Bool.{eq-eqb, ne_eqb}
use Rattle.vol_layout.specs.declared.geometry.Geometry.{Geometry}
use Rattle.image_view.specs.Formatted.{IsFormatted}
use Rattle.image_view.specs.Images.{Image}
use Rattle.image_view.specs.laws.FormatLaws.{slot-formatted}
use Rattle.host_runs.specs.FileUses.{ToRead, ToWrite}
use Rattle.host_runs.specs.Tidy.{HasFreeSlots}
use Rattle.host_runs.specs.Tries.{Tries, with_file}
use Rattle.host_runs.specs.Words.{key_in, state_in}

-- the slots of a formatted volume are free
pub formatted_free : (g : Geometry) (image : Image) → IsFormatted g image → HasFreeSlots g image
formatted_free g image formatted h below = slot-formatted g image h formatted below

-- a file's lock that another host holds shows its key to the first try
pub held_shows_reader : (own : ℕ) (tries : Tries) (word : List ℕ) → state_in word ≡ 1 → key_in word ≢ own → tries.shown ≡ None
    → (with_file (Some ToRead) own word tries).shown ≡ Some (key_in word)
held_shows_reader own tries word held other none = rw (none, eq-eqb (state_in word) 1 held, ne_eqb (key_in word) own other) refl

pub held_shows_writer : (own : ℕ) (tries : Tries) (word : List ℕ) → state_in word ≡ 1 → key_in word ≢ own → tries.shown ≡ None
    → (with_file (Some ToWrite) own word tries).shown ≡ Some (key_in word)
held_shows_writer own tries word held other none = rw (none, eq-eqb (state_in word) 1 held, ne_eqb (key_in word) own other) refl
