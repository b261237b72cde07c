-- What calls leave of a device.
use Rattle.std.proofs.Common.{◌≡◌, ◌≢◌, ◌<◌, ℕ, List, [], Option, Some, None, length, option_map, ap, ◌∙◌, get_or-set_other, get_or-set_same}
use Rattle.std.specs.Prelude.{IfSome, slice_get, slice_set}
use Rattle.std.proofs.lemmas.List.{length-set}
use Rattle.std.proofs.lemmas.Option.{get_or_from_slice_get, slice_get-get_or, slice_get_within}
use Rattle.shared_disk.specs.Calls.{told_after}
use Rattle.shared_disk.specs.State.{Told}

-- what is told after a write, at the place and at each other
pub stands_there : (told : Option Told) (place : ℕ) (block : List ℕ) → IfSome told (λ t. place < length t.image)
    → IfSome (option_map (told_after place block) told) (λ t. slice_get t.image place ≡ Some block)
stands_there None place block inside = tt
stands_there (Some t) place block inside =
    slice_get-get_or (slice_set t.image place block) place [] (rw (length-set t.image place block) inside) ∙ ap (λ (xs : List ℕ). Some xs) (get_or-set_same t.image place block [] inside)

pub stands_elsewhere : (told : Option Told) (place other : ℕ) (block old : List ℕ) → other ≢ place → IfSome told (λ t. slice_get t.image other ≡ Some old)
    → IfSome (option_map (told_after place block) told) (λ t. slice_get t.image other ≡ Some old)
stands_elsewhere None place other block old ne stands = tt
stands_elsewhere (Some t) place other block old ne stands =
    let within = slice_get_within t.image other old stands in
    slice_get-get_or (slice_set t.image place block) other [] (rw (length-set t.image place block) within)
    ∙ ap (λ (xs : List ℕ). Some xs) (get_or-set_other t.image place other block [] ne ∙ get_or_from_slice_get t.image other old [] stands)
