-- A device that stands still.
use Rattle.std.proofs.Common.{ℕ, List}
use Rattle.std.specs.Prelude.{Option, IfSome}
use Rattle.vol_base.specs.declared.plain.PlainCall.{PlainCall}
use Rattle.plain_files.specs.declared.history.Placed.{Placed}
use Rattle.plain_files.specs.Plain.{Plain}
use Rattle.shared_disk.specs.State.{Told}
use Rattle.shared_disk.specs.laws.PrefixLaws.{Prefixes-begun}
use Rattle.histories.specs.Fronts.{AreFrontsUpTo, IsImageUpTo}

-- a device that stands at an image of the history is at its end
pub AreFrontsUpTo-begun : (counter : ℕ) (calls : List (Option PlainCall)) (start : Plain) (told : Option Told) (history : List Placed)
    → IfSome told (λ t. IsImageUpTo counter calls start t.image history) → AreFrontsUpTo counter calls start told told history
unfolding AreFrontsUpTo
AreFrontsUpTo-begun counter calls start told history h = Prefixes-begun (IsImageUpTo counter calls start) told history h
