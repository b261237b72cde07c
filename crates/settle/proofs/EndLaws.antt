-- What is settled at the end: the data blocks, the files, and the contents.
use Rattle.std.proofs.Common.{◌≡◌, ◌<◌, ◌+◌, ◌-◌, ℕ, true, false, List, Option, Some, None, option_map, map, refl, sym, ap, subst, ◌∙◌, inl, inr, arith}
use Rattle.std.specs.Prelude.{slice_get, unwrap_or, if◌then◌else◌}
use Rattle.std.proofs.lemmas.Bool.{cases_eq, cases_lt, cases_order, lt-ltb}
use Rattle.std.proofs.lemmas.List.{length-map}
use Rattle.std.proofs.lemmas.Map.Entries.{hash_map_get_place, place_from_lookup}
use Rattle.std.proofs.lemmas.Map.Keys.{apart_from_distinct}
use Rattle.std.proofs.lemmas.Option.{get_or_from_slice_get, slice_get-map, slice_get_within}
use Rattle.indexmap.specs.IndexMap.{IndexMap, IsUnique, index_map_len, keys}
use Rattle.vol_base.specs.declared.block.Block.{Block}
use Rattle.vol_base.specs.declared.block.Digest.{Digest}
use Rattle.vol_layout.specs.declared.field.Field.TheVariants.{Head, Pointer}
use Rattle.vol_layout.specs.declared.geometry.Geometry.{Geometry}
use Rattle.vol_layout.specs.Fields.{HasField}
use Rattle.plain_files.specs.Block.{zero_block}
use Rattle.fingerprint.specs.DigestOf.{digest_of}
use Rattle.call_effects.specs.Places.{KeepsFiles}
use Rattle.image_view.specs.Files.{data_block, volume_file}
use Rattle.image_view.specs.Images.{Image}
use Rattle.image_view.specs.Numbers.{logical}
use Rattle.image_view.specs.Pointers.{named}
use Rattle.image_view.specs.Settled.{IsLive, IsSettled, IsSettledIn}
use Rattle.image_view.specs.laws.FileLaws.{map_range_same, shown, volume_file_none, volume_file_some}
use Rattle.image_view.specs.laws.GeometryLaws.{geometry_of-spelled, image_file-past, image_file-volume}
use Rattle.share_plans.specs.Places.{shown_at}
use Rattle.settle.specs.Contents.{held}
use Rattle.settle.specs.Distinct.{AreContents, HasContents, IsHeld}
use Rattle.settle.specs.Gathered.{Found, IsGathered, IsRep, same_candidate, spot_at}
use Rattle.settle.specs.Moves.{Stays}
use Rattle.settle.specs.Sound.{IsSound}
use Rattle.settle.specs.declared.candidates.Candidate.{Candidate}
use Rattle.settle.specs.declared.candidates.Spot.{Spot}
use Rattle.settle.proofs.CandidateLaws.{candidates-equiv, same-self}
use Rattle.settle.proofs.MoveLaws.{held-alike, held-of}
use Rattle.settle.proofs.PlaceLaws.{content-held}

-- a live place is a pointer of the volume, and shows its data block
live_field : (g : Geometry) (image : Image) (f i d : ℕ) → IsSound g image → IsLive g image f i d → HasField g (Pointer f i)
live_field g image f i d sound live =
    let most = sound.heads f live.file in
    let below = live.below in
    (live.file, omega arith)

live_shown : (g : Geometry) (image : Image) (f i d : ℕ) → IsLive g image f i d → shown_at g image f i ≡ Some d
live_shown g image f i d live =
    let test = lt-ltb (i + 1) (logical g image (Head f)) live.below in
    ap (λ b. if b then named (logical g image (Pointer f i)) else None) test ∙ live.shows

-- once all places are gathered, two live places with equal bytes show one data block
settled_in : (g : Geometry) (image : Image) (found : Found) → IsGathered g image found g.files 0 → IsSettledIn g image
settled_in g image found is f i d f' i' d' live live' same =
    let has = live_field g image f i d is.sound live in
    let has' = live_field g image f' i' d' is.sound live' in
    let shows = live_shown g image f i d live in
    let shows' = live_shown g image f' i' d' live' in
    let block = data_block g image d in
    let one : data_block g image d' ≡ block = ap (λ (bytes : List ℕ). let b : Block = record { 0 = bytes } in b) (sym same) in
    let holds : held g image f i ≡ Some block = held-of g image f i d shows in
    let holds' : held g image f' i' ≡ Some block = held-of g image f' i' d' shows' ∙ ap (λ (b : Block). Some b) one in
    let named' = is.named f i block has (inl live.file) holds in
    let other = is.named f' i' block has' (inl live'.file) holds' in
    let s = named'.rep in
    let t = other.rep in
    let reps_alike : held g image s.file s.index ≡ held g image t.file t.index =
    sym (held-alike g image f i s.file s.index named'.same) ∙ holds ∙ sym holds' ∙ held-alike g image f' i' t.file t.index other.same
    in
    let number = is.apart (digest_of block) named'.number other.number s t named'.there other.there reps_alike in
    let there : found (digest_of block) other.number ≡ Some s = subst (λ (n : ℕ). found (digest_of block) n ≡ Some s) number named'.there in
    let rep : Some s ≡ Some t = sym there ∙ other.there in
    let rep_is : s ≡ t = cc in
    let alike : shown_at g image s.file s.index ≡ shown_at g image t.file t.index = ap (λ (u : Spot). shown_at g image u.file u.index) rep_is in
    let e : Some d ≡ Some d' = sym shows ∙ named'.same ∙ alike ∙ sym other.same ∙ shows' in
    cc

pub settled-image : (g : Geometry) (image : Image) (found : Found) → IsGathered g image found g.files 0 → IsSettled image
settled-image g image found is =
    let e = geometry_of-spelled g image is.sound.spelled in
    let P : Geometry → Type 0 = λ k. IsSettledIn k image in
    subst P (sym e) (settled_in g image found is)

-- what a place shows stays where links alone were made
shown_kept : (g : Geometry) (old new : Image) (f i n : ℕ) → IsSound g old → Stays g old new → f < g.files → logical g old (Head f) ≡ n + 1 → i < n
    → shown g new f i ≡ shown g old f i
shown_kept g old new f i n sound stays below head lt =
    let head' = stays.heads f below in
    let most = sound.heads f below in
    let has : HasField g (Pointer f i) = (below, omega arith) in
    content-held g new f i (omega arith)
    ∙ ap (λ o. unwrap_or o zero_block) (stays.kept f i has)
    ∙ sym (content-held g old f i (omega arith))

file_kept : (g : Geometry) (old new : Image) (f : ℕ) → IsSound g old → Stays g old new → f < g.files → volume_file g new f ≡ volume_file g old f
file_kept g old new f sound stays below =
    elim (cases_eq (logical g old (Head f)) 0) [
      | inl none ↦ volume_file_none g new f (stays.heads f below ∙ none) ∙ sym (volume_file_none g old f none)
      | inr some ↦ there (logical g old (Head f) - 1) (omega (arith, some))
    ]
  where
    there : (n : ℕ) → logical g old (Head f) ≡ n + 1 → volume_file g new f ≡ volume_file g old f
    there n head =
        volume_file_some g new f n (stays.heads f below ∙ head)
        ∙ ap (λ bs. Some bs)
        (map_range_same (shown g old f) (shown g new f) 0 n n (omega arith) (λ k lt. shown_kept g old new f k n sound stays below head lt))
        ∙ sym (volume_file_some g old f n head)

pub files-kept : (g : Geometry) (old new : Image) → IsSound g old → Stays g old new → KeepsFiles old new
files-kept g old new sound stays f =
    elim (cases_lt f g.files) [
      | inl below ↦
          image_file-volume g new f stays.sound.spelled below
          ∙ file_kept g old new f sound stays below
          ∙ sym (image_file-volume g old f sound.spelled below)
      | inr past ↦ image_file-past g new f stays.sound.spelled past ∙ sym (image_file-past g old f sound.spelled past)
    ]

-- the block of a representative
block_of : Geometry → Image → Candidate × Spot → Block
block_of g image e = unwrap_or (held g image e.1.file e.1.index) zero_block

mapped_some : {A B : Type 0} (v : A → B) (o : Option A) (y : B) → option_map v o ≡ Some y → (x : A) × (o ≡ Some x) × (v x ≡ y)
mapped_some v None y e = absurd cc
mapped_some v (Some x) y e = (x, refl, cc)

-- an entry of the map: its representative holds the block, and its name has the block's digest
record IsEntry {S : Type 0} (g : Geometry) (image : Image) (spots : IndexMap Candidate Spot S) (j : ℕ) (block : Block) : Type 0 where
  key : Candidate
  spot : Spot
  at : slice_get spots.entries j ≡ Some (key, spot)
  there : spot_at spots key.digest key.number ≡ Some spot
  has : HasField g (Pointer spot.file spot.index)
  holds : held g image spot.file spot.index ≡ Some block
  digest : digest_of block ≡ key.digest

entry_of : {S : Type 0} (g : Geometry) (image : Image) (spots : IndexMap Candidate Spot S) (j : ℕ) (key : Candidate) (s : Spot) (block : Block)
    → IsUnique same_candidate spots → IsGathered g image (spot_at spots) g.files 0 → slice_get spots.entries j ≡ Some (key, s)
    → unwrap_or (held g image s.file s.index) zero_block ≡ block → IsEntry g image spots j block
entry_of g image spots j key s block unique is at shows = of_rep (is.reps key.digest key.number s there)
  where
    there : spot_at spots key.digest key.number ≡ Some s
    there = hash_map_get_place candidates-equiv spots j key s unique at

    of_rep : IsRep g image g.files 0 key.digest s → IsEntry g image spots j block
    of_rep rep =
        let same : rep.block ≡ block = ap (λ o. unwrap_or o zero_block) (sym rep.holds) ∙ shows in
        record {
          key = key;
          spot = s;
          at = at;
          there = there;
          has = rep.has;
          holds = rep.holds ∙ ap (λ (b : Block). Some b) same;
          digest = ap digest_of (sym same) ∙ rep.digest;
        }

entry_at : {S : Type 0} (g : Geometry) (image : Image) (spots : IndexMap Candidate Spot S) (j : ℕ) (block : Block) → IsUnique same_candidate spots
    → IsGathered g image (spot_at spots) g.files 0 → slice_get (map (block_of g image) spots.entries) j ≡ Some block → IsEntry g image spots j block
unfolding block_of
entry_at g image spots j block unique is e =
    let found = mapped_some (block_of g image) (slice_get spots.entries j) block (sym (slice_get-map (block_of g image) spots.entries j) ∙ e) in
    entry_of g image spots j found.0.0 found.0.1 block unique is found.1 found.2

key_at : {S : Type 0} (spots : IndexMap Candidate Spot S) (j : ℕ) (key d : Candidate) (s : Spot) → slice_get spots.entries j ≡ Some (key, s)
    → slice_get (keys spots) j ≡ Some key
key_at spots j key d s at =
    slice_get-map (λ (e : Candidate × Spot). e.0) spots.entries j ∙ ap (option_map (λ (e : Candidate × Spot). e.0)) at

-- two entries whose names are alike are one
one_entry : {S : Type 0} (spots : IndexMap Candidate Spot S) (j k : ℕ) (a b : Candidate) (s t : Spot) → IsUnique same_candidate spots
    → slice_get spots.entries j ≡ Some (a, s) → slice_get spots.entries k ≡ Some (b, t) → a.digest ≡ b.digest → a.number ≡ b.number → j ≡ k
one_entry spots j k a b s t unique at at' digest number =
    elim (cases_order j k) [
      | inl same ↦ same
      | inr apart ↦ elim apart [
        | inl less ↦ absurd (differ j k a b less (key_at spots j a a s at) (key_at spots k b a t at') (same-self a b digest number))
        | inr more ↦ absurd (differ k j b a more (key_at spots k b a t at') (key_at spots j a a s at) (same-self b a (sym digest) (sym number)))
      ]
    ]
  where
    differ : (x y : ℕ) (c d : Candidate) → x < y → slice_get (keys spots) x ≡ Some c → slice_get (keys spots) y ≡ Some d → same_candidate c d ≡ true → ⊥
    differ x y c d less here there same =
        let apart = apart_from_distinct same_candidate (keys spots) x y c unique less (slice_get_within (keys spots) y d there) in
        let c_is = get_or_from_slice_get (keys spots) x c c here in
        let d_is = get_or_from_slice_get (keys spots) y d c there in
        let not_same : same_candidate c d ≡ false = rw (c_is, d_is) at apart in
        absurd cc

-- the blocks of all representatives are the different contents
contents_new : {S : Type 0} (g : Geometry) (image : Image) (spots : IndexMap Candidate Spot S) → IsUnique same_candidate spots
    → IsGathered g image (spot_at spots) g.files 0 → AreContents g image (map (block_of g image) spots.entries)
unfolding block_of
contents_new g image spots unique is = record {
  once = λ j k block one other.
      let a = entry_at g image spots j block unique is one in
      let b = entry_at g image spots k block unique is other in
      let digest : a.key.digest ≡ b.key.digest = sym a.digest ∙ b.digest in
      let there : spot_at spots b.key.digest a.key.number ≡ Some a.spot =
      subst (λ (x : Digest). spot_at spots x a.key.number ≡ Some a.spot) digest a.there
      in
      let number = is.apart b.key.digest a.key.number b.key.number a.spot b.spot there b.there (a.holds ∙ sym b.holds) in
      one_entry spots j k a.key b.key a.spot b.spot unique a.at b.at digest number;
  are = λ j block one.
      let a = entry_at g image spots j block unique is one in
      (a.spot.file, a.spot.index, a.has, a.holds);
  all = λ block holder.
      let f = holder.0 in
      let i = holder.1 in
      let named' = is.named f i block holder.2 (inl holder.2.0) holder.3 in
      let s = named'.rep in
      let name : Candidate = record { digest = digest_of block; number = named'.number } in
      let place = place_from_lookup (same_candidate name) spots.entries s named'.there in
      let holds : held g image s.file s.index ≡ Some block = sym (held-alike g image f i s.file s.index named'.same) ∙ holder.3 in (
        place.0,
        slice_get-map (block_of g image) spots.entries place.0
            ∙ ap (option_map (block_of g image)) place.2
            ∙ ap (λ o. Some (unwrap_or o zero_block)) holds,
      );
}

-- they are those that places held before, too
held_back : (g : Geometry) (old new : Image) (block : Block) → Stays g old new → IsHeld g new block → IsHeld g old block
held_back g old new block stays is = (is.0, is.1, is.2, sym (stays.kept is.0 is.1 is.2) ∙ is.3)

held_on : (g : Geometry) (old new : Image) (block : Block) → Stays g old new → IsHeld g old block → IsHeld g new block
held_on g old new block stays is = (is.0, is.1, is.2, stays.kept is.0 is.1 is.2 ∙ is.3)

pub contents-kept : {S : Type 0} (g : Geometry) (old new : Image) (spots : IndexMap Candidate Spot S) (n : ℕ) → n ≡ index_map_len spots
    → IsUnique same_candidate spots → Stays g old new → IsGathered g new (spot_at spots) g.files 0 → HasContents g old n
contents-kept g old new spots n n_is unique stays is =
    let are = contents_new g new spots unique is in (
      map (block_of g new) spots.entries,
      record {
        once = are.once;
        are = λ j block one. held_back g old new block stays (are.are j block one);
        all = λ block holder. are.all block (held_on g old new block stays holder);
      },
      length-map spots.entries (block_of g new) ∙ sym n_is,
    )
