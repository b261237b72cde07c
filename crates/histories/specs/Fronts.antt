-- Images that are the files of fronts of one history.
use Rattle.std.specs.Prelude.{ℕ, List, Option, take}
use Rattle.vol_base.specs.declared.plain.PlainCall.{PlainCall}
use Rattle.plain_files.specs.declared.history.Placed.{Placed}
use Rattle.plain_files.specs.Plain.{Plain}
use Rattle.plain_files.specs.History.{state_after}
use Rattle.image_view.specs.Images.{Image}
use Rattle.image_view.specs.Files.{HasFiles}
use Rattle.image_view.specs.Valid.{IsBlankOrValid}
use Rattle.shared_disk.specs.State.{Told}
use Rattle.shared_disk.specs.Prefixes.{Prefixes}

-- the first n entries of a history
abbrev pub front : ℕ → List Placed → List Placed
front n history = take n history

-- the image is blank or valid, with keys up to the device's last counter, and its files are those that the
-- history leaves. Validity holds for every later counter too, so an image that was valid when the device had
-- given fewer keys is one of these.
pub record IsImageUpTo (last : ℕ) (calls : List (Option PlainCall)) (start : Plain) (image : Image) (history : List Placed) : Type 0 where
  pub volume : IsBlankOrValid last image
  pub files : HasFiles image (state_after calls start history)

-- each image between two states of a device, with keys up to its last counter, is that of a front of the history:
-- the fronts grow from the first image to the last, whose front is the whole; nothing is said where the device
-- tells nothing
unfoldable pub AreFrontsUpTo : ℕ → List (Option PlainCall) → Plain → Option Told → Option Told → List Placed → Type 0
AreFrontsUpTo last calls start old new history = Prefixes (IsImageUpTo last calls start) old new history
