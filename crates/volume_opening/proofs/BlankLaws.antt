-- A run of blocks of a blank device that is being formatted, place by place.
use Rattle.std.proofs.Common.{◌≡◌, ◌≢◌, ◌<◌, ◌≤◌, ◌+◌, ℕ, List, [], Option, Some, None, length, option_map, refl, sym, ap, ◌∙◌, subst, inl, inr, arith, get_or-set_other}
use Rattle.std.specs.Prelude.{IfSome, slice_set}
use Rattle.std.proofs.lemmas.Bool.{cases_lt}
use Rattle.vol_layout.specs.declared.geometry.Geometry.{Geometry}
use Rattle.vol_layout.specs.Blank.{blank_at}
use Rattle.image_view.specs.Images.{IsBlank}
use Rattle.shared_disk.specs.Calls.{after_write, told_after}
use Rattle.shared_disk.specs.State.{HasWholeImage, Stands, State, Told, with_told}
use Rattle.shared_disk.specs.laws.PrefixLaws.{EachImage-begun, EachImage-ends, EachImage-wrote}
use Rattle.volume_opening.specs.Blanked.{Blanked}
use Rattle.volume_opening.specs.Openings.{WasBlank}
use Rattle.volume_opening.proofs.StateLaws.{stands_elsewhere, stands_there}

-- a write behind block 0 leaves a blank device blank
blank_behind : (told : Option Told) (place : ℕ) (block : List ℕ) → 1 ≤ place → WasBlank told → IfSome told (λ t. IsBlank (slice_set t.image place block))
blank_behind None place block behind blank = tt
blank_behind (Some t) place block behind blank =
    let ne : 0 ≢ place = omega arith in get_or-set_other t.image place 0 block [] ne ∙ blank

-- no place yet
pub Blanked-none : (g : Geometry) (from : ℕ) (s : State) → WasBlank s.told → Blanked g from from s s
Blanked-none g from s blank = record {
  only = refl;
  images = EachImage-begun IsBlank s.told blank;
  blank = λ place above below. absurd (omega arith);
  others = λ place block outside stands. stands;
}

inside_told : (told : Option Told) (place blocks : ℕ) → IfSome told (λ t. length t.image ≡ blocks) → place < blocks → IfSome told (λ t. place < length t.image)
inside_told None place blocks whole inside = tt
inside_told (Some t) place blocks whole inside = omega (arith, whole)

-- one more place
pub Blanked-more : (g : Geometry) (from at : ℕ) (before now after : State) → 1 ≤ from → from ≤ at → at < before.blocks → HasWholeImage now
    → Blanked g from at before now → after ≡ after_write at (blank_at g at) now → Blanked g from (at + 1) before after
Blanked-more g from at before now after behind order inside whole so_far wrote =
    let block = blank_at g at in
    let T = option_map (told_after at block) now.told in
    let size : now.blocks ≡ before.blocks = ap (λ (s : State). s.blocks) so_far.only in
    let told : after.told ≡ T = ap (λ (s : State). s.told) wrote in
    record {
      only = wrote ∙ ap (with_told T) so_far.only ∙ ap (λ (o : Option Told). with_told o before) (sym told);
      images = rw told (EachImage-wrote IsBlank before.told now.told at block so_far.images (blank_behind now.told at block (omega arith) (EachImage-ends IsBlank before.told now.told so_far.images)));
      blank = λ place above below. elim (cases_lt place at) [
        | inl earlier ↦ rw told (stands_elsewhere now.told at place block (blank_at g place) (λ e. omega (arith, e)) (so_far.blank place above earlier))
        | inr later ↦
            let here : at ≡ place = omega arith in
            subst (λ (p : ℕ). Stands after p (blank_at g p)) here (rw told (stands_there now.told at block (inside_told now.told at now.blocks whole (omega arith))))
      ];
      others = λ place old outside stands. elim outside [
        | inl below ↦ rw told (stands_elsewhere now.told at place block old (λ e. omega (arith, e)) (so_far.others place old (inl below) stands))
        | inr past ↦ rw told (stands_elsewhere now.told at place block old (λ e. omega (arith, e)) (so_far.others place old (inr (omega arith)) stands))
      ];
    }
