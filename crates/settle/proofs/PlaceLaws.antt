-- The settling of one place.
use Rattle.std.proofs.Common.{◌≡◌, ◌<◌, ◌≤◌, ◌+◌, ◌*◌, ◌↔◌, ℕ, Bool, true, false, Option, Some, None, Ok, Err, option_map, refl, sym, ap, subst, ◌∙◌, arith}
use Rattle.std.specs.declared.result.Result.{Result}
use Rattle.std.specs.Prelude.{IfOk, IsTrue, is_none, is_some, nat_lt, unwrap_or, if◌then◌else◌}
use Rattle.std.specs.Option.{option_map_or}
use Rattle.std.proofs.lemmas.Bool.{lt-ltb}
use Rattle.shared_disk.specs.State.{OnImages, Told}
use Rattle.vol_base.specs.Bytes.{zeros}
use Rattle.vol_base.specs.declared.block.Block.{Block}
use Rattle.vol_base.specs.declared.block.Digest.{Digest}
use Rattle.vol_layout.specs.declared.field.Field.TheVariants.{Head, Pointer}
use Rattle.vol_layout.specs.declared.geometry.Geometry.{Geometry}
use Rattle.vol_layout.specs.Fields.{HasField}
use Rattle.plain_files.specs.Block.{zero_block}
use Rattle.fingerprint.specs.DigestOf.{digest_of}
use Rattle.image_view.specs.Files.{content, data_block}
use Rattle.image_view.specs.Images.{Image}
use Rattle.image_view.specs.Numbers.{logical}
use Rattle.image_view.specs.Pointers.{named}
use Rattle.share_plans.specs.Places.{shown_at}
use Rattle.settle.specs.Added.{Adds}
use Rattle.settle.specs.Contents.{NoClash, held}
use Rattle.settle.specs.Gathered.{Found, IsGathered, IsNext, IsNextBlock, IsTable}
use Rattle.settle.specs.Moves.{Moves, Stays}
use Rattle.settle.specs.Reads.{IsApart, IsCompared, IsJoined, ReadsAs}
use Rattle.settle.specs.Rows.{IsEnded, IsPlaced, most_calls}
use Rattle.settle.specs.Sound.{IsSound}
use Rattle.settle.specs.declared.candidates.Spot.{Spot}
use Rattle.settle.specs.declared.comparing.Compared.TheVariants as compared
use Rattle.settle.proofs.GatherLaws.{alone, fresh-next, gathered-moves, hole-next, joined-next}
use Rattle.settle.proofs.MoveLaws.{held-hole, held-of, moves-none, stays-join, stays-none}
use Rattle.settle.proofs.ToldLaws.{OnImage, told-both, told-ends, told-join, told-map, told-over, told-same}

-- what a place shows, by what it holds
mapped_or : (v : ℕ → Block) (o : Option ℕ) → option_map_or v o zero_block ≡ unwrap_or (option_map v o) zero_block
mapped_or v None = refl
mapped_or v (Some d) = refl

pub content-held : (g : Geometry) (image : Image) (f i : ℕ) → i + 1 < logical g image (Head f)
    → content g image (logical g image (Pointer f i)) ≡ unwrap_or (held g image f i) zero_block
unfolding held
content-held g image f i below =
    let test = lt-ltb (i + 1) (logical g image (Head f)) below in
    mapped_or (data_block g image) (named (logical g image (Pointer f i)))
    ∙ ap (λ b. unwrap_or (option_map (data_block g image) (if b then named (logical g image (Pointer f i)) else None)) zero_block) (sym test)

none_is : (o : Option Block) → true ≡ is_none o → o ≡ None
none_is None e = refl
none_is (Some b) e = absurd cc

some_is : (o : Option Block) → false ≡ is_none o → (b : Block) × (o ≡ Some b)
some_is None e = absurd cc
some_is (Some b) e = (b, refl)

-- what a place holds is what it shows
held_shows : (g : Geometry) (image : Image) (f i : ℕ) (block : Block) → i + 1 < logical g image (Head f)
    → content g image (logical g image (Pointer f i)) ≡ block → false ≡ is_none (held g image f i) → held g image f i ≡ Some block
held_shows g image f i block below shows some =
    let is = some_is (held g image f i) some in
    let same : is.0 ≡ block = ap (λ o. unwrap_or o zero_block) (sym is.1) ∙ sym (content-held g image f i below) ∙ shows in
    is.1 ∙ ap (λ (b : Block). Some b) same

-- a block that is not all zeros is no hole
pub told-filled : (told : Option Told) (g : Geometry) (f i : ℕ) (block : Block) (test : Bool) → (IsTrue test ↔ (block.0 ≡ zeros 4096)) → test ≡ false
    → OnImage told (λ image. ReadsAs g image f i (Some block)) → OnImage told (λ image. false ≡ is_none (held g image f i))
told-filled told g f i block test zero none reads =
    told-map told (λ image. ReadsAs g image f i (Some block)) (λ image. false ≡ is_none (held g image f i)) reads
    (λ image is. some image is (held g image f i) refl)
  where
    some : (image : Image) → ReadsAs g image f i (Some block) → (o : Option Block) → held g image f i ≡ o → false ≡ is_none o
    some image is (Some b) e = refl
    some image is None e =
        let shows : block ≡ zero_block = sym is.1 ∙ content-held g image f i is.0 ∙ ap (λ o. unwrap_or o zero_block) e in
        let yes' : test ≡ true = zero.1 (ap (λ (b : Block). b.0) shows) in
        absurd cc

-- what a comparison with the place itself tells
pub told-hole : (told : Option Told) (g : Geometry) (f i : ℕ) (s : Spot) → OnImage told (λ image. IsCompared g image f i s compared.Hole)
    → OnImage told (λ image. true ≡ is_none (held g image f i))
told-hole told g f i s is =
    told-map told (λ image. IsCompared g image f i s compared.Hole) (λ image. true ≡ is_none (held g image f i)) is
    (λ image none. ap is_none (sym (held-hole g image f i none)))

pub told-block : (told : Option Told) (g : Geometry) (f i : ℕ) (s : Spot) → OnImage told (λ image. IsCompared g image f i s compared.Same)
    → OnImage told (λ image. false ≡ is_none (held g image f i))
told-block told g f i s is =
    told-map told (λ image. IsCompared g image f i s compared.Same) (λ image. false ≡ is_none (held g image f i)) is
    (λ image one. ap is_none (sym (held-of g image f i one.number one.own)))

pub told-still : (told : Option Told) (g : Geometry) (f i : ℕ) → OnImage told (IsSound g) → OnImages (Moves g f i) told told
told-still told g f i sound = told-same told (IsSound g) (Moves g f i) sound (λ image is. moves-none g f i image is)

-- the next place, behind a step that moves it alone
next_moves : (g : Geometry) (old new : Image) (found : Found) (f i : ℕ) (block : Block) → HasField g (Pointer f i) → Moves g f i old new
    → IsNextBlock g old found f i block → IsNextBlock g new found f i block
next_moves g old new found f i block has moves next =
    let head = moves.stays.heads f has.0 in
    let was = next.below in
    let below : i + 1 < logical g new (Head f) = omega arith in
    record {
      gathered = gathered-moves g old new found f i moves next.gathered;
      below = below;
      shows =
          content-held g new f i below
          ∙ ap (λ o. unwrap_or o zero_block) (moves.stays.kept f i has)
          ∙ sym (content-held g old f i next.below)
          ∙ next.shows;
    }

hole_placed : (g : Geometry) (old new : Image) (found : Found) (f i : ℕ) (block : Block) → HasField g (Pointer f i)
    → IsNextBlock g old found f i block → Moves g f i old new → true ≡ is_none (held g new f i) → IsPlaced g f i found false old new
hole_placed g old new found f i block has next moves none =
    let empty = none_is (held g new f i) none in
    record {
      stays = moves.stays;
      gathered = hole-next g new found f i (gathered-moves g old new found f i moves next.gathered) empty;
      below = next.below;
      filled = ap is_some (sym empty ∙ moves.stays.kept f i has);
    }

fresh_placed : (g : Geometry) (old new : Image) (found more : Found) (n : ℕ) (s : Spot) (block : Block) → HasField g (Pointer s.file s.index)
    → IsTable g found → IsNext found (digest_of block) n → Adds found more (digest_of block) n s
    → IsNextBlock g old found s.file s.index block → IsApart g old found s.file s.index (digest_of block) n
    → Moves g s.file s.index old new → false ≡ is_none (held g new s.file s.index) → IsPlaced g s.file s.index more true old new
fresh_placed g old new found more n s block has table free adds next apart moves some =
    let next' = next_moves g old new found s.file s.index block has moves next in
    let holds = held_shows g new s.file s.index block next'.below next'.shows some in
    record {
      stays = moves.stays;
      gathered = fresh-next g new found more n s block has table free adds next'.gathered holds
          (λ m t below there same.
          apart m t below there
          (sym (moves.stays.kept s.file s.index has) ∙ same ∙ moves.stays.kept t.file t.index (table.fields (digest_of block) m t there)));
      below = next.below;
      filled = ap is_some (sym holds ∙ moves.stays.kept s.file s.index has);
    }

joined_placed : (g : Geometry) (old new : Image) (found : Found) (f i : ℕ) (block : Block) (x : Digest) → HasField g (Pointer f i)
    → IsNextBlock g old found f i block → Moves g f i old new → IsJoined g new found f i x → IsPlaced g f i found true old new
joined_placed g old new found f i block x has next moves joined =
    let holds = held-of g new f i joined.show.number joined.show.own in
    record {
      stays = moves.stays;
      gathered = joined-next g new found f i x (gathered-moves g old new found f i moves next.gathered) joined;
      below = next.below;
      filled = ap is_some (sym holds ∙ moves.stays.kept f i has);
    }

placed_behind : (g : Geometry) (old mid new : Image) (found : Found) (f i : ℕ) (live : Bool) → HasField g (Pointer f i) → Stays g old mid
    → IsPlaced g f i found live mid new → IsPlaced g f i found live old new
placed_behind g old mid new found f i live has stays placed =
    let head = stays.heads f has.0 in
    let was = placed.below in
    record {
      stays = stays-join g old mid new stays placed.stays;
      gathered = placed.gathered;
      below = omega arith;
      filled = placed.filled ∙ ap is_some (stays.kept f i has);
    }

-- the same where the device tells its content
pub told-hole-placed : (g : Geometry) (old new : Option Told) (found : Found) (f i : ℕ) (block : Block) (hole : Bool) → HasField g (Pointer f i)
    → OnImage old (λ image. IsNextBlock g image found f i block) → OnImages (Moves g f i) old new
    → OnImage new (λ image. hole ≡ is_none (held g image f i)) → hole ≡ true → OnImages (IsPlaced g f i found false) old new
told-hole-placed g old new found f i block hole has next moves none is =
    told-ends old new (λ image. IsNextBlock g image found f i block) (λ image. hole ≡ is_none (held g image f i)) (Moves g f i)
    (IsPlaced g f i found false) moves next none
    (λ a b before behind moved. hole_placed g a b found f i block has before moved (sym is ∙ behind))

-- no representative has the digest under a number from here on that is equal to the place
pub told-shown-hole : (g : Geometry) (old new : Option Told) (found : Found) (f i : ℕ) (block : Block) → HasField g (Pointer f i)
    → OnImage old (λ image. IsNextBlock g image found f i block) → OnImages (Moves g f i) old new
    → OnImage new (λ image. shown_at g image f i ≡ None) → OnImages (IsPlaced g f i found false) old new
told-shown-hole g old new found f i block has next moves none =
    told-hole-placed g old new found f i block true has next moves
    (told-map new (λ image. shown_at g image f i ≡ None) (λ image. true ≡ is_none (held g image f i)) none
    (λ image empty. ap is_none (sym (held-hole g image f i empty)))) refl

pub told-joined : (g : Geometry) (old new : Option Told) (found : Found) (f i : ℕ) (block : Block) (x : Digest) → HasField g (Pointer f i)
    → OnImage old (λ image. IsNextBlock g image found f i block) → OnImages (Moves g f i) old new
    → OnImage new (λ image. IsJoined g image found f i x) → OnImages (IsPlaced g f i found true) old new
told-joined g old new found f i block x has next moves joined =
    told-ends old new (λ image. IsNextBlock g image found f i block) (λ image. IsJoined g image found f i x) (Moves g f i)
    (IsPlaced g f i found true) moves next joined (λ a b before behind moved. joined_placed g a b found f i block x has before moved behind)

pub told-fresh : (g : Geometry) (old new : Option Told) (found more : Found) (n : ℕ) (s : Spot) (block : Block) (hole : Bool)
    → HasField g (Pointer s.file s.index) → IsTable g found → IsNext found (digest_of block) n → Adds found more (digest_of block) n s
    → OnImage old (λ image. IsNextBlock g image found s.file s.index block)
    → OnImage old (λ image. IsApart g image found s.file s.index (digest_of block) n) → OnImages (Moves g s.file s.index) old new
    → OnImage new (λ image. hole ≡ is_none (held g image s.file s.index)) → hole ≡ false → OnImages (IsPlaced g s.file s.index more true) old new
told-fresh g old new found more n s block hole has table free adds next apart moves some is =
    told-ends old new (λ image. IsNextBlock g image found s.file s.index block × IsApart g image found s.file s.index (digest_of block) n)
    (λ image. hole ≡ is_none (held g image s.file s.index)) (Moves g s.file s.index) (IsPlaced g s.file s.index more true) moves
    (told-both old (λ image. IsNextBlock g image found s.file s.index block) (λ image. IsApart g image found s.file s.index (digest_of block) n)
    (λ image. IsNextBlock g image found s.file s.index block × IsApart g image found s.file s.index (digest_of block) n) next apart (λ image p q. (p, q)))
    some (λ a b before behind moved. fresh_placed g a b found more n s block has table free adds before.0 before.1 moved (sym is ∙ behind))

pub told-next : (g : Geometry) (old new : Option Told) (found : Found) (f i : ℕ) (block : Block) → HasField g (Pointer f i)
    → OnImage old (λ image. IsNextBlock g image found f i block) → OnImages (Moves g f i) old new
    → OnImage new (λ image. IsNextBlock g image found f i block)
told-next g old new found f i block has next moves =
    told-over old new (λ image. IsNextBlock g image found f i block) (λ image. IsNextBlock g image found f i block) (Moves g f i) moves next
    (λ a b before moved. next_moves g a b found f i block has moved before)

pub told-stays-join : (g : Geometry) (f i : ℕ) (old mid new : Option Told) → OnImages (Moves g f i) old mid → OnImages (Stays g) mid new
    → OnImages (Stays g) old new
told-stays-join g f i old mid new moves stays =
    told-join old mid new (Moves g f i) (Stays g) (Stays g) moves stays (λ a b c first more. stays-join g a b c first.stays more)

pub told-placed-behind : (g : Geometry) (old mid new : Option Told) (found : Found) (f i : ℕ) (live : Bool) → HasField g (Pointer f i)
    → OnImages (Moves g f i) old mid → OnImages (IsPlaced g f i found live) mid new → OnImages (IsPlaced g f i found live) old new
told-placed-behind g old mid new found f i live has moves placed =
    told-join old mid new (Moves g f i) (IsPlaced g f i found live) (IsPlaced g f i found live) moves placed
    (λ a b c first more. placed_behind g a b c found f i live has first.stays more)

-- the calls for one place: one comparison at most where no two different blocks have one digest, and one of the place with itself
pub told-block-count : (g : Geometry) (told : Option Told) (found : Found) (f i before now last : ℕ) (x : Digest) (block : Block) → IsTable g found
    → OnImage told (λ image. IsNextBlock g image found f i block) → ((n : ℕ) → found x n ≡ None → now ≤ before + 18 * n) → last ≤ now + 18
    → OnImage told (λ image. NoClash g image → last ≤ before + 36)
told-block-count g told found f i before now last x block table next count more =
    told-map told (λ image. IsNextBlock g image found f i block) (λ image. NoClash g image → last ≤ before + 36) next
    (λ image is clash. let few = count 1 (alone g image found f i x table is.gathered clash) in omega arith)

-- the end of a file
ended : (g : Geometry) (image : Image) (found : Found) (f i : ℕ) → IsGathered g image found f i → logical g image (Head f) ≤ i + 1
    → IsEnded g f i found image image
ended g image found f i is past = record { stays = stays-none g image is.sound; gathered = is; past = past }

pub told-ended : (g : Geometry) (old new : Option Told) (found : Found) (f i : ℕ) → new ≡ old → OnImage old (λ image. IsGathered g image found f i)
    → OnImage old (λ image. ReadsAs g image f i None) → OnImages (IsEnded g f i found) old new
told-ended g old new found f i same is past =
    subst (λ (o : Option Told). OnImages (IsEnded g f i found) old o) (sym same)
    (told-same old (λ image. IsGathered g image found f i × ReadsAs g image f i None) (IsEnded g f i found)
    (told-both old (λ image. IsGathered g image found f i) (λ image. ReadsAs g image f i None)
    (λ image. IsGathered g image found f i × ReadsAs g image f i None) is past (λ image p q. (p, q)))
    (λ image both. ended g image found f i both.0 both.1))

pub told-unmoved : (g : Geometry) (old new : Option Told) (found : Found) (f i : ℕ) → new ≡ old → OnImage old (λ image. IsGathered g image found f i)
    → OnImages (Stays g) old new
told-unmoved g old new found f i same is =
    subst (λ (o : Option Told). OnImages (Stays g) old o) (sym same)
    (told-same old (λ image. IsGathered g image found f i) (Stays g) is (λ image gathered. stays-none g image gathered.sound))

-- a block that was read is that of the next place
pub told-next-block : (g : Geometry) (old new : Option Told) (found : Found) (f i : ℕ) (block : Block) → new ≡ old
    → OnImage old (λ image. IsGathered g image found f i) → OnImage old (λ image. ReadsAs g image f i (Some block))
    → OnImage new (λ image. IsNextBlock g image found f i block)
told-next-block g old new found f i block same is reads =
    subst (λ (o : Option Told). OnImage o (λ image. IsNextBlock g image found f i block)) (sym same)
    (told-both old (λ image. IsGathered g image found f i) (λ image. ReadsAs g image f i (Some block)) (λ image. IsNextBlock g image found f i block) is reads
    (λ image gathered shows. record { gathered = gathered; below = shows.0; shows = shows.1 }))

-- the calls for one index of a file
most_is : (g : Geometry) (image : Image) (f i : ℕ) → 4 ≤ most_calls g image f i
most_is g image f i = least (nat_lt (i + 1) (logical g image (Head f)))
  where
    least : (b : Bool) → 4 ≤ (if b then 40 else 4)
    least true = omega arith
    least false = omega arith

pub told-few : (g : Geometry) (told : Option Told) (f i before now : ℕ) → now ≤ before + 3
    → OnImage told (λ image. NoClash g image → now ≤ before + most_calls g image f i)
told-few g None f i before now few = tt
told-few g (Some t) f i before now few = λ clash. let least = most_is g t.image f i in omega arith

pub told-place-count : (g : Geometry) (old mid : Option Told) (f i before now last : ℕ) (block : Block) → mid ≡ old → now ≤ before + 3
    → OnImage old (λ image. ReadsAs g image f i (Some block)) → OnImage mid (λ image. NoClash g image → last ≤ now + 36)
    → OnImage old (λ image. NoClash g image → last ≤ before + most_calls g image f i)
told-place-count g old mid f i before now last block same few reads count =
    told-both old (λ image. ReadsAs g image f i (Some block)) (λ image. NoClash g image → last ≤ now + 36)
    (λ image. NoClash g image → last ≤ before + most_calls g image f i) reads
    (subst (λ (o : Option Told). OnImage o (λ image. NoClash g image → last ≤ now + 36)) same count)
    (λ image is less clash.
    let most : most_calls g image f i ≡ 40 = ap (λ b. if b then 40 else 4) (lt-ltb (i + 1) (logical g image (Head f)) is.0) in
    let few' = less clash in
    omega arith)

pub told-placed-result : {E : Type 0} (g : Geometry) (old mid new : Option Told) (found : Found) (f i : ℕ) (result : Result Bool E) → HasField g (Pointer f i)
    → OnImages (Moves g f i) old mid → IfOk result (λ live. OnImages (IsPlaced g f i found live) mid new)
    → IfOk result (λ live. OnImages (IsPlaced g f i found live) old new)
told-placed-result g old mid new found f i (Ok live) has moves placed = told-placed-behind g old mid new found f i live has moves placed
told-placed-result g old mid new found f i (Err why) has moves placed = tt
