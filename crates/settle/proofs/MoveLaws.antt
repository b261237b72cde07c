-- What quiet calls and links leave of an image.
use Rattle.std.proofs.Common.{◌≡◌, ◌≢◌, ◌<◌, ◌+◌, ◌-◌, ◌%◌, ◌^◌, ◌==◌, ◌⊎◌, ℕ, Bool, true, false, Option, Some, None, get_or, if◌then◌else◌, map, option_map, refl, sym, ap, subst, ◌∙◌, inl, inr, arith}
use Rattle.std.specs.Prelude.{is_some, nat_lt}
use Rattle.std.specs.List.{range_with_len}
use Rattle.std.specs.Option.{option_map_or}
use Rattle.std.proofs.lemmas.List.FromFn.{get_or-map-range_with_len}
use Rattle.std.proofs.lemmas.Bool.{cases_Bool, cases_eq, ltb-true}
use Rattle.vol_base.specs.declared.block.Block.{Block}
use Rattle.vol_layout.specs.declared.field.Field.{Field}
use Rattle.vol_layout.specs.declared.field.Field.TheVariants.{Head, Pointer}
use Rattle.vol_layout.specs.declared.geometry.Geometry.{Geometry}
use Rattle.vol_layout.specs.Fields.{HasField}
use Rattle.plain_files.specs.Block.{zero_block}
use Rattle.image_view.specs.Files.{content, data_block, image_file}
use Rattle.image_view.specs.Images.{Image}
use Rattle.image_view.specs.Numbers.{logical}
use Rattle.image_view.specs.Pointers.{named}
use Rattle.image_view.specs.laws.FileLaws.{shown, volume_file_some}
use Rattle.image_view.specs.laws.GeometryLaws.{image_file-volume}
use Rattle.call_effects.specs.Places.{KeepsFiles}
use Rattle.call_effects.specs.laws.PointerLaws.{named-marked}
use Rattle.share_plans.specs.Places.{shown_at}
use Rattle.settle.specs.Contents.{held}
use Rattle.settle.specs.Links.{IsQuiet, IsShare, Shares, linked, rested, started}
use Rattle.settle.specs.Moves.{Moves, Stays}
use Rattle.settle.specs.Sound.{IsSound}

-- a test with a value behind it
pub test_some : (b : Bool) (o : Option ℕ) (d : ℕ) → (if b then o else None) ≡ Some d → (b ≡ true) × (o ≡ Some d)
test_some true o d e = (refl, e)
test_some false o d e = absurd cc

-- a place that shows a data block is below its file's length, and its pointer names the block
pub shown-names : (g : Geometry) (image : Image) (f i d : ℕ) → shown_at g image f i ≡ Some d
    → (nat_lt (i + 1) (logical g image (Head f)) ≡ true) × (named (logical g image (Pointer f i)) ≡ Some d)
shown-names g image f i d e = test_some (nat_lt (i + 1) (logical g image (Head f))) (named (logical g image (Pointer f i))) d e

-- a data number with which a pointer names a block leaves room for the mark
pub named-small : (n d : ℕ) → named n ≡ Some d → d + 1 < 2 ^ 31
named-small n d e =
    elim (cases_Bool (n % 2 ^ 31 == 0)) [
      | inl none ↦ let e' : named n ≡ None = rw none refl in absurd cc
      | inr some ↦
          let e' : named n ≡ Some (n % 2 ^ 31 - 1) = rw some refl in
          let d_is : d ≡ n % 2 ^ 31 - 1 = cc in
          omega arith
    ]

pub shown-same : (g : Geometry) (old new : Image) (f i : ℕ) → logical g new (Head f) ≡ logical g old (Head f)
    → named (logical g new (Pointer f i)) ≡ named (logical g old (Pointer f i)) → shown_at g new f i ≡ shown_at g old f i
shown-same g old new f i head same =
    ap (λ n. if nat_lt (i + 1) n then named (logical g new (Pointer f i)) else None) head
    ∙ ap (λ o. if nat_lt (i + 1) (logical g old (Head f)) then o else None) same

-- the block at an index of a file that stays
content_kept : (g : Geometry) (old new : Image) (f i : ℕ) → IsSound g old → IsSound g new → f < g.files
    → logical g new (Head f) ≡ logical g old (Head f) → image_file new f ≡ image_file old f → i + 1 < logical g old (Head f)
    → shown g new f i ≡ shown g old f i
content_kept g old new f i sound sound' below head same inside = there (logical g old (Head f) - 1) (omega arith)
  where
    there : (n : ℕ) → logical g old (Head f) ≡ n + 1 → shown g new f i ≡ shown g old f i
    there n is =
        let before = image_file-volume g old f sound.spelled below ∙ volume_file_some g old f n is in
        let behind = image_file-volume g new f sound'.spelled below ∙ volume_file_some g new f n (head ∙ is) in
        let files : Some (map (shown g new f) (range_with_len 0 n)) ≡ Some (map (shown g old f) (range_with_len 0 n)) = sym behind ∙ same ∙ before in
        let lists : map (shown g new f) (range_with_len 0 n) ≡ map (shown g old f) (range_with_len 0 n) = cc in
        sym (get_or-map-range_with_len (shown g new f) 0 n i i zero_block (omega arith) (omega arith))
        ∙ ap (λ bs. get_or bs i zero_block) lists
        ∙ get_or-map-range_with_len (shown g old f) 0 n i i zero_block (omega arith) (omega arith)

held_by : (g : Geometry) (old new : Image) (o o' : Option ℕ) → is_some o' ≡ is_some o
    → option_map_or (data_block g new) o' zero_block ≡ option_map_or (data_block g old) o zero_block
    → option_map (data_block g new) o' ≡ option_map (data_block g old) o
held_by g old new None None alike same = refl
held_by g old new None (Some e) alike same = absurd cc
held_by g old new (Some d) None alike same = absurd cc
held_by g old new (Some d) (Some e) alike same = ap (λ (b : Block). Some b) same

held_at : (g : Geometry) (old new : Image) (b : Bool) (n n' : ℕ) → is_some (named n') ≡ is_some (named n)
    → (b ≡ true → content g new n' ≡ content g old n)
    → option_map (data_block g new) (if b then named n' else None) ≡ option_map (data_block g old) (if b then named n else None)
held_at g old new true n n' alike same = held_by g old new (named n) (named n') alike (same refl)
held_at g old new false n n' alike same = refl

-- a place of a file that stays holds the same bytes, where its pointer names a data block as before, or none
pub held-stays : (g : Geometry) (old new : Image) (f i : ℕ) → IsSound g old → IsSound g new → f < g.files
    → logical g new (Head f) ≡ logical g old (Head f) → image_file new f ≡ image_file old f
    → is_some (named (logical g new (Pointer f i))) ≡ is_some (named (logical g old (Pointer f i))) → held g new f i ≡ held g old f i
unfolding held
held-stays g old new f i sound sound' below head same alike =
    ap (λ n. option_map (data_block g new) (if nat_lt (i + 1) n then named (logical g new (Pointer f i)) else None)) head
    ∙ held_at g old new (nat_lt (i + 1) (logical g old (Head f))) (logical g old (Pointer f i)) (logical g new (Pointer f i)) alike
    (λ test. content_kept g old new f i sound sound' below head same (ltb-true (i + 1) (logical g old (Head f)) test))

-- two places that show one data block hold the same bytes
pub held-alike : (g : Geometry) (image : Image) (f i h j : ℕ) → shown_at g image f i ≡ shown_at g image h j → held g image f i ≡ held g image h j
unfolding held
held-alike g image f i h j same = ap (option_map (data_block g image)) same

pub held-of : (g : Geometry) (image : Image) (f i d : ℕ) → shown_at g image f i ≡ Some d → held g image f i ≡ Some (data_block g image d)
unfolding held
held-of g image f i d is = ap (option_map (data_block g image)) is

pub held-hole : (g : Geometry) (image : Image) (f i : ℕ) → shown_at g image f i ≡ None → held g image f i ≡ None
unfolding held
held-hole g image f i is = ap (option_map (data_block g image)) is

mapped_some : (v : ℕ → Block) (o : Option ℕ) (block : Block) → option_map v o ≡ Some block → (d : ℕ) × (o ≡ Some d) × (v d ≡ block)
mapped_some v None block e = absurd cc
mapped_some v (Some d) block e = (d, refl, cc)

-- a place that holds a block shows its data block
pub held-shown : (g : Geometry) (image : Image) (f i : ℕ) (block : Block) → held g image f i ≡ Some block
    → (d : ℕ) × (shown_at g image f i ≡ Some d) × (data_block g image d ≡ block)
unfolding held
held-shown g image f i block is = mapped_some (data_block g image) (shown_at g image f i) block is

pub pointer-cases : (h j f i : ℕ) → (Pointer h j ≡ Pointer f i) ⊎ (Pointer h j ≢ Pointer f i)
pointer-cases h j f i =
    elim (cases_eq h f) [
      | inl file ↦ elim (cases_eq j i) [
        | inl index ↦ inl cc
        | inr other ↦ inr (λ e. other cc)
      ]
      | inr other ↦ inr (λ e. other cc)
    ]

-- what a step leaves, by what it does to the place
pub record DoesAt (g : Geometry) (f i : ℕ) (old new : Image) : Type 0 where
  pub shares : Shares g old new
  pub sound : IsSound g new
  pub files : KeepsFiles old new
  pub heads : (h : ℕ) → h < g.files → logical g new (Head h) ≡ logical g old (Head h)
  pub others : (h j : ℕ) → HasField g (Pointer h j) → Pointer h j ≢ Pointer f i
      → named (logical g new (Pointer h j)) ≡ named (logical g old (Pointer h j))
  pub here : HasField g (Pointer f i) → is_some (named (logical g new (Pointer f i))) ≡ is_some (named (logical g old (Pointer f i)))

pub moves-by : (g : Geometry) (f i : ℕ) (old new : Image) → IsSound g old → DoesAt g f i old new → Moves g f i old new
moves-by g f i old new sound did = record {
  stays = record {
    shares = did.shares;
    sound = did.sound;
    heads = did.heads;
    kept = λ h j has. held-stays g old new h j sound did.sound has.0 (did.heads h has.0) (did.files h) (alike h j has);
  };
  others = λ h j has other. shown-same g old new h j (did.heads h has.0) (did.others h j has other);
}
  where
    alike : (h j : ℕ) → HasField g (Pointer h j) → is_some (named (logical g new (Pointer h j))) ≡ is_some (named (logical g old (Pointer h j)))
    alike h j has = elim (pointer-cases h j f i) [
      | inl same ↦
          let P : Field → Type 0 = λ x. HasField g x → is_some (named (logical g new x)) ≡ is_some (named (logical g old x)) in
          subst P (sym same) did.here has
      | inr other ↦ ap is_some (did.others h j has other)
    ]

-- a call that changes no number and no file
pub moves-quiet : (g : Geometry) (f i : ℕ) (old new : Image) → IsSound g old → IsQuiet g old new → Moves g f i old new
moves-quiet g f i old new sound quiet =
    moves-by g f i old new sound (record {
      shares = rested started quiet;
      sound = quiet.sound;
      files = quiet.files;
      heads = λ h below. quiet.numbers (Head h) below;
      others = λ h j has other. ap named (quiet.numbers (Pointer h j) has);
      here = λ has. ap (λ n. is_some (named n)) (quiet.numbers (Pointer f i) has);
    })

-- what a link to the place of a file did
pub record LinkedTo (g : Geometry) (old new : Image) (f i h j to : ℕ) : Type 0 where
  pub apart : Pointer h j ≢ Pointer f i
  pub source : named (logical g old (Pointer h j)) ≡ Some to
  pub own : named (logical g new (Pointer f i)) ≡ Some to
  pub others : (a b : ℕ) → HasField g (Pointer a b) → Pointer a b ≢ Pointer f i
      → named (logical g new (Pointer a b)) ≡ named (logical g old (Pointer a b))

pub linked-to : (g : Geometry) (old new : Image) (f i h j : ℕ) (share : IsShare g old new f i (Pointer h j)) → LinkedTo g old new f i h j share.link.to
linked-to g old new f i h j share =
    let to = share.link.to in
    let small = named-small (logical g old (Pointer h j)) to share.link.source_names.1 in
    let marked_is = named-marked to small in
    record {
      apart = λ same.
          let e : Some to ≡ Some share.link.from =
          sym share.link.source_names.1 ∙ ap (λ x. named (logical g old x)) same ∙ share.link.pointer.1
          in share.link.other cc;
      source = share.link.source_names.1;
      own = ap named share.link.linked ∙ marked_is;
      others = λ a b has other. elim (pointer-cases a b h j) [
        | inl same ↦
            let P : Field → Type 0 = λ x. named (logical g new x) ≡ named (logical g old x) in
            subst P (sym same) (ap named share.link.source_after ∙ marked_is ∙ sym share.link.source_names.1)
        | inr apart ↦ ap named (share.link.others (Pointer a b) has other apart (λ e. cc) (λ e. cc))
      ];
    }

-- a link to the place of a file
pub moves-share : (g : Geometry) (f i h j : ℕ) (old new : Image) → IsSound g old → IsShare g old new f i (Pointer h j) → Moves g f i old new
moves-share g f i h j old new sound share =
    let did = linked-to g old new f i h j share in
    moves-by g f i old new sound (record {
      shares = linked f i (Pointer h j) started share;
      sound = share.sound;
      files = share.files;
      heads = λ x below. share.link.others (Head x) below (λ e. cc) (λ e. cc) (λ e. cc) (λ e. cc);
      others = did.others;
      here = λ has. ap is_some did.own ∙ sym (ap is_some share.link.pointer.1);
    })

-- chains of steps, one behind the other
pub shares-join : (g : Geometry) (old mid new : Image) → Shares g old mid → Shares g mid new → Shares g old new
shares-join g old mid new first started = first
shares-join g old mid new first (rested {m} more quiet) = rested (shares-join g old mid m first more) quiet
shares-join g old mid new first (linked {m} f i source more share) = linked f i source (shares-join g old mid m first more) share

pub stays-none : (g : Geometry) (image : Image) → IsSound g image → Stays g image image
stays-none g image sound = record { shares = started; sound = sound; heads = λ f below. refl; kept = λ f i has. refl }

pub stays-join : (g : Geometry) (old mid new : Image) → Stays g old mid → Stays g mid new → Stays g old new
stays-join g old mid new first more = record {
  shares = shares-join g old mid new first.shares more.shares;
  sound = more.sound;
  heads = λ f below. more.heads f below ∙ first.heads f below;
  kept = λ f i has. more.kept f i has ∙ first.kept f i has;
}

pub moves-none : (g : Geometry) (f i : ℕ) (image : Image) → IsSound g image → Moves g f i image image
moves-none g f i image sound = record { stays = stays-none g image sound; others = λ h j has other. refl }

pub moves-join : (g : Geometry) (f i : ℕ) (old mid new : Image) → Moves g f i old mid → Moves g f i mid new → Moves g f i old new
moves-join g f i old mid new first more = record {
  stays = stays-join g old mid new first.stays more.stays;
  others = λ h j has other. more.others h j has other ∙ first.others h j has other;
}
