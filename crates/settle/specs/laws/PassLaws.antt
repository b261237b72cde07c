-- Stretches of a device's contents in which each image is a valid volume with the files of the first.
use Rattle.std.proofs.Common.{◌≡◌, ◌≤◌, ◌∙◌, ℕ, None, Option, Some, refl, subst, sym, arith}
use Rattle.call_effects.specs.Places.{KeepsFiles}
use Rattle.image_view.specs.Images.{geometry_of}
use Rattle.image_view.specs.Valid.{IsVolume}
use Rattle.image_view.specs.laws.ValidLaws.{IsValid-later}
use Rattle.settle.specs.Passes.{GoesOn, PassesVolumes}
use Rattle.shared_disk.specs.Prefixes.{EachImage, Prefixes}
use Rattle.shared_disk.specs.State.{Told}
use Rattle.shared_disk.specs.laws.PrefixLaws.{EachImage-begun, EachImage-ends, EachImage-joined, EachImage-weaker}

-- nothing was written
pub passes_same : (given later : ℕ) (told : Option Told) → given ≤ later → PassesVolumes given later told told
passes_same given later None le = tt
passes_same given later (Some t) le =
    λ valid. EachImage-begun (λ image. IsVolume later image × KeepsFiles t.image image) (Some t)
    (IsValid-later (geometry_of t.image) given later t.image le valid, λ f. refl)

-- two stretches
pub passes_then : (given then later : ℕ) (first middle last : Option Told) → then ≤ later → PassesVolumes given then first middle
    → PassesVolumes then later middle last → PassesVolumes given later first last
unfolding EachImage Prefixes
passes_then given then later None middle last le earlier on = tt
passes_then given then later (Some t) None last le earlier on = λ valid. absurd (earlier valid)
passes_then given then later (Some t) (Some u) last le earlier on =
    λ valid.
    let stretch = earlier valid in
    let here = EachImage-ends (λ image. IsVolume then image × KeepsFiles t.image image) (Some t) (Some u) stretch in
    EachImage-joined (λ image. IsVolume later image × KeepsFiles t.image image) (Some t) (Some u) last
    (EachImage-weaker (λ image. IsVolume then image × KeepsFiles t.image image) (λ image. IsVolume later image × KeepsFiles t.image image)
    (Some t) (Some u) (λ i is. (IsValid-later (geometry_of i) then later i le is.0, is.1)) stretch)
    (EachImage-weaker (λ image. IsVolume later image × KeepsFiles u.image image) (λ image. IsVolume later image × KeepsFiles t.image image)
    (Some u) last (λ i is. (is.0, λ f. is.1 f ∙ here.1 f)) (on here.0))

-- nothing was done, or two things one after the other
pub goes_same : (given later : ℕ) (old new : Option Told) → later ≡ given → new ≡ old → GoesOn given later old new
goes_same given later old new counter same = record {
  counter = counter;
  passes = subst (λ (o : Option Told). PassesVolumes given later old o) (sym same) (passes_same given later old (omega (arith, counter)));
}

pub goes_then : (given then later : ℕ) (first middle last : Option Told) → GoesOn given then first middle → GoesOn then later middle last
    → GoesOn given later first last
goes_then given then later first middle last earlier on = record {
  counter = on.counter ∙ earlier.counter;
  passes = passes_then given then later first middle last (let c = on.counter in omega (arith, c)) earlier.passes on.passes;
}
