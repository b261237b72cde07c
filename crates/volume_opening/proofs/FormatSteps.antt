-- What formatting leaves, step by step.
use Rattle.std.proofs.Common.{◌≡◌, ◌⊎◌, ◌≤◌, ◌-◌, ℕ, List, Option, Some, None, length, option_map, ap, ◌∙◌, inl, inr, arith}
use Rattle.std.specs.Prelude.{Err, IfSome, Ok, OnErr, OnOk, Result}
use Rattle.std.proofs.lemmas.List.{length-set}
use Rattle.std.proofs.lemmas.Option.{IfSome_then}
use Rattle.vol_layout.specs.declared.geometry.Geometry.{Geometry}
use Rattle.vol_layout.specs.Blank.{blank_at}
use Rattle.vol_layout.specs.Ranges.{IsGeometry}
use Rattle.vol_layout.specs.Regions.{total}
use Rattle.vol_layout.specs.Superblock.{superblock_bytes}
use Rattle.image_view.specs.Formatted.{IsFormatted}
use Rattle.image_view.specs.Images.{Image, IsBlank}
use Rattle.shared_disk.specs.Calls.{after_write, told_after}
use Rattle.shared_disk.specs.Prefixes.{EachImage}
use Rattle.shared_disk.specs.State.{HasWholeImage, State, Told}
use Rattle.shared_disk.specs.laws.PrefixLaws.{EachImage-called, EachImage-joined, EachImage-weaker}
use Rattle.volume_opening.specs.Blanked.{Blanked}
use Rattle.vol_layout.specs.Places.{front_end, further_start, further_tables}
use Rattle.vol_layout.specs.laws.SpanLaws.{spans_fit}
use Rattle.volume_opening.proofs.SpanLaws.{HasBlanks, formatted}
use Rattle.volume_opening.proofs.StateLaws.{stands_elsewhere, stands_there}

-- both runs were written
pub record BothBlanked (g : Geometry) (first second third : State) : Type 0 where
  pub geometry : IsGeometry g
  pub long : total g ≤ first.blocks
  pub whole : HasWholeImage third
  pub head : Blanked g 1 (front_end g) first second
  pub further : Blanked g (further_start g) (total g) second third

-- the runs, as the code counts them
pub both_blanked : (g : Geometry) (first second third : State) (head end more : ℕ) → IsGeometry g → total g ≤ first.blocks → HasWholeImage third
    → head ≡ front_end g → end ≡ total g → more ≡ further_tables g
    → Blanked g 1 head first second → Blanked g (end - more) end second third → BothBlanked g first second third
both_blanked g first second third head end more range long whole head_is end_is more_is one other = record {
  geometry = range;
  long = long;
  whole = whole;
  head = rw head_is at one;
  further = rw (end_is, more_is) at other;
}

-- a blank image or a formatted one
abbrev MayStand : Geometry → Image → Type 0
MayStand g image = IsBlank image ⊎ IsFormatted g image

told_long : (told : Option Told) (blocks n : ℕ) → IfSome told (λ t. length t.image ≡ blocks) → n ≤ blocks → IfSome told (λ t. n ≤ length t.image)
told_long None blocks n whole long = tt
told_long (Some t) blocks n whole long = omega (arith, whole)

-- a device that was whole before a write is whole after it
still_whole : (told : Option Told) (place : ℕ) (block : List ℕ) (n : ℕ) → IfSome told (λ t. n ≤ length t.image) → IfSome (option_map (told_after place block) told) (λ t. n ≤ length t.image)
still_whole None place block n long = tt
still_whole (Some t) place block n long = rw (length-set t.image place block) long

same_size : (first second third : State) (g : Geometry) → BothBlanked g first second third → third.blocks ≡ first.blocks
same_size first second third g both = ap (λ (s : State). s.blocks) both.further.only ∙ ap (λ (s : State). s.blocks) both.head.only

pub written_both : (g : Geometry) (first second third : State) → BothBlanked g first second third
    → HasBlanks g (option_map (told_after 0 (superblock_bytes g)) third.told)
written_both g first second third both =
    let fit = spans_fit g in
    let behind = fit.0 in
    let apart = fit.1 in
    record {
      first = stands_there third.told 0 (superblock_bytes g) (told_long third.told third.blocks 1 both.whole (omega (arith, both.long, same_size first second third g both)));
      head = λ place above below.
          stands_elsewhere third.told 0 place (superblock_bytes g) (blank_at g place) (λ e. omega (arith, e))
          (both.further.others place (blank_at g place) (inl (omega arith)) (both.head.blank place above below));
      further = λ place above below.
          stands_elsewhere third.told 0 place (superblock_bytes g) (blank_at g place) (λ e. omega (arith, e))
          (both.further.blank place above below);
    }

-- the superblock is written
pub formats : {T E : Type 0} (g : Geometry) (first second third last : State) (block : List ℕ) (result : Result T E) → BothBlanked g first second third → block ≡ superblock_bytes g
    → OnOk result (last ≡ after_write 0 block third) → OnOk result (IfSome last.told (λ t. IsFormatted g t.image))
formats g first second third last block (Ok x) both is wrote =
    let told : last.told ≡ option_map (told_after 0 block) third.told = ap (λ (s : State). s.told) wrote in
    let long = told_long third.told third.blocks (total g) both.whole (omega (arith, both.long, same_size first second third g both)) in
    rw (told, is) (formatted g (option_map (told_after 0 (superblock_bytes g)) third.told) both.geometry (still_whole third.told 0 (superblock_bytes g) (total g) long) (written_both g first second third both))
formats g first second third last block (Err e) both is wrote = tt

pub blank_both : (g : Geometry) (first second third : State) → BothBlanked g first second third → EachImage IsBlank first.told third.told
blank_both g first second third both = EachImage-joined IsBlank first.told second.told third.told both.head.images both.further.images

-- each image on the way
pub format_images : {T E : Type 0} (g : Geometry) (first second third last : State) (block : List ℕ) (result : Result T E) → BothBlanked g first second third
    → OnOk result (last ≡ after_write 0 block third) → OnOk result (IfSome last.told (λ t. IsFormatted g t.image))
    → OnOk result (EachImage (λ image. IsBlank image ⊎ IsFormatted g image) first.told last.told)
format_images g first second third last block (Ok x) both wrote done =
    EachImage-called (MayStand g) first.told third last 0 block
    (EachImage-weaker IsBlank (MayStand g) first.told third.told (λ image blank. inl blank) (blank_both g first second third both))
    (inr wrote) (IfSome_then last.told done (λ t formatted. inr formatted))
format_images g first second third last block (Err e) both wrote done = tt

pub unformatted : {T E : Type 0} (g : Geometry) (first second third last : State) (result : Result T E) → BothBlanked g first second third
    → OnErr result (last ≡ third) → OnErr result (EachImage IsBlank first.told last.told)
unformatted g first second third last (Ok x) both same = tt
unformatted g first second third last (Err e) both same = rw (ap (λ (s : State). s.told) same) (blank_both g first second third both)

pub on_err : {T E P : Type 0} (result : Result T E) → P → OnErr result P
on_err (Ok x) holds = tt
on_err (Err e) holds = holds
