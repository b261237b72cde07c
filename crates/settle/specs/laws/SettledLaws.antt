-- A settled volume stays settled while no logical number and no data block changes, and holds the same blocks.
use Rattle.std.proofs.Common.{◌≡◌, ◌<◌, ◌+◌, ◌-◌, ◌∙◌, ℕ, zero, suc, Bool, true, false, [], None, Option, Some, refl, sym, ap, subst, arith, option_map, if◌then◌else◌}
use Rattle.std.specs.Prelude.{is_some, nat_lt}
use Rattle.vol_base.specs.declared.block.Block.{Block}
use Rattle.vol_layout.specs.declared.field.Field.TheVariants.{Count, Head, Pointer}
use Rattle.vol_layout.specs.declared.geometry.Geometry.{Geometry}
use Rattle.vol_layout.specs.declared.kind.Kind.TheVariants as kinds
use Rattle.vol_layout.specs.Fields.{HasField}
use Rattle.image_view.specs.Files.{data_block}
use Rattle.image_view.specs.Images.{Image, block_at}
use Rattle.image_view.specs.Numbers.{logical}
use Rattle.image_view.specs.Pointers.{named}
use Rattle.image_view.specs.Settled.{IsLive, IsSettledIn}
use Rattle.call_effects.specs.Changes.{Changes}
use Rattle.share_plans.specs.Places.{shown_at}
use Rattle.settle.specs.Contents.{held, places_in}
use Rattle.settle.specs.Distinct.{HasContents, IsHeld}
use Rattle.settle.specs.Sound.{IsSound}
use Rattle.settle.specs.Totals.{live_at, live_in, live_places, sum_below}

-- a place that shows a data block has a pointer that names it
names_it : (b : Bool) (o : Option ℕ) (d : ℕ) → (if b then o else None) ≡ Some d → o ≡ Some d
names_it true o d is = is
names_it false o d is = absurd cc

-- sums of equal numbers
pub sum_same : (F G : ℕ → ℕ) (n : ℕ) → ((k : ℕ) → k < n → F k ≡ G k) → sum_below F n ≡ sum_below G n
unfolding sum_below
sum_same F G zero same = refl
sum_same F G (suc n) same =
    let last = same n (omega arith) in
    let rest = sum_same F G n (λ k below. same k (omega (arith, below))) in omega (arith, last, rest)

-- every file keeps its length, and each place its block
module _ (g : Geometry) (old new : Image) (sound : IsSound g old) (heads : (f : ℕ) → f < g.files → logical g new (Head f) ≡ logical g old (Head f))
    (kept : (f i : ℕ) → HasField g (Pointer f i) → held g new f i ≡ held g old f i) where
  places_stay : (f : ℕ) → f < g.files → places_in g new f ≡ places_in g old f
  places_stay f below = ap (λ n. n - 1) (heads f below)

  live_stays_in : (f : ℕ) → f < g.files → live_in g new f ≡ live_in g old f
  live_stays_in f below =
      ap (sum_below (live_at g new f)) (places_stay f below)
      ∙ sum_same (live_at g new f) (live_at g old f) (places_in g old f) (λ i inside.
      let most = sound.heads f below in
      ap (λ (o : Option Block). if is_some o then 1 else 0) (kept f i (below, omega (arith, inside, most))))

  pub live_stays : live_places g new ≡ live_places g old
  live_stays = sum_same (live_in g new) (live_in g old) g.files live_stays_in

  held_on : (block : Block) → IsHeld g old block → IsHeld g new block
  held_on block (f, i, has, is) = (f, i, has, kept f i has ∙ is)

  held_back : (block : Block) → IsHeld g new block → IsHeld g old block
  held_back block (f, i, has, is) = (f, i, has, sym (kept f i has) ∙ is)

  pub contents_stay : (n : ℕ) → HasContents g old n → HasContents g new n
  contents_stay n (blocks, are, long) = (
    blocks,
    record {
      once = are.once;
      are = λ j block here. held_on block (are.are j block here);
      all = λ block holder. are.all block (held_back block holder);
    },
    long,
  )

module _ (g : Geometry) (old new : Image) (sound : IsSound g old) (same : Changes g [] None old new) where
  pub heads_stay : (f : ℕ) → f < g.files → logical g new (Head f) ≡ logical g old (Head f)
  heads_stay f below = same.numbers (Head f) below

  shown_stays : (f i : ℕ) → HasField g (Pointer f i) → shown_at g new f i ≡ shown_at g old f i
  shown_stays f i has =
      ap (λ n. if nat_lt (i + 1) n then named (logical g new (Pointer f i)) else None) (heads_stay f has.0)
      ∙ ap (λ n. if nat_lt (i + 1) (logical g old (Head f)) then named n else None) (same.numbers (Pointer f i) has)

  block_stays : (d : ℕ) → HasField g (Count d) → data_block g new d ≡ data_block g old d
  block_stays d has = ap (λ (bytes : _). let b : Block = record { 0 = bytes } in b) (same.blocks d has)

  pub held_stays : (f i : ℕ) → HasField g (Pointer f i) → held g new f i ≡ held g old f i
  unfolding held
  held_stays f i has = ap (option_map (data_block g new)) (shown_stays f i has) ∙ pick (shown_at g old f i) refl
    where
      pick : (o : Option ℕ) → shown_at g old f i ≡ o → option_map (data_block g new) o ≡ option_map (data_block g old) o
      pick None is = refl
      pick (Some d) is =
          let names = names_it (nat_lt (i + 1) (logical g old (Head f))) (named (logical g old (Pointer f i))) d is in
          ap (λ (b : Block). Some b) (block_stays d (sound.names f i d has names))

  live_back : (f i d : ℕ) → IsLive g new f i d → IsLive g old f i d
  live_back f i d live =
      let below : i + 1 < logical g old (Head f) = subst (λ n. i + 1 < n) (heads_stay f live.file) live.below in
      let most = sound.heads f live.file in
      let has : HasField g (Pointer f i) = (live.file, omega (arith, below, most)) in record {
        file = live.file;
        below = below;
        shows = ap named (sym (same.numbers (Pointer f i) has)) ∙ live.shows;
      }

  live_block : (f i d : ℕ) → IsLive g old f i d → block_at g new (kinds.Number d) ≡ block_at g old (kinds.Number d)
  live_block f i d live =
      let below = live.below in
      let most = sound.heads f live.file in
      same.blocks d (sound.names f i d (live.file, omega (arith, below, most)) live.shows)

  pub settled_stays : IsSettledIn g old → IsSettledIn g new
  settled_stays settled f i d f' i' d' live live' alike =
      let was = live_back f i d live in
      let was' = live_back f' i' d' live' in
      settled f i d f' i' d' was was' (sym (live_block f i d was) ∙ alike ∙ live_block f' i' d' was')
