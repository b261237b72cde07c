-- What reads and comparisons say.
use Rattle.std.proofs.Common.{◌≡◌, ◌<◌, ◌≤◌, ◌+◌, ◌-◌, ℕ, true, List, Some, None, map, length, refl, sym, ap, subst, ◌∙◌, inl, inr, arith}
use Rattle.std.specs.Prelude.{nat_lt, slice_index_or}
use Rattle.std.specs.List.{range_with_len}
use Rattle.std.proofs.lemmas.Bool.{cases_eq, cases_lt, lt-ltb, le-ltb}
use Rattle.std.proofs.lemmas.List.FromFn.{get_or-map-range_with_len, length-map-range_with_len}
use Rattle.vol_base.specs.declared.block.Block.{Block}
use Rattle.vol_base.specs.declared.plain.PlainCall.TheVariants.{Read}
use Rattle.vol_base.specs.declared.plain.PlainReply.{PlainReply}
use Rattle.vol_layout.specs.declared.field.Field.TheVariants.{Head, Pointer}
use Rattle.vol_layout.specs.declared.geometry.Geometry.{Geometry}
use Rattle.vol_layout.specs.Fields.{HasField}
use Rattle.vol_layout.specs.Ranges.{limit}
use Rattle.plain_files.specs.Block.{zero_block}
use Rattle.plain_files.specs.Calls.{at_block, outcome}
use Rattle.vol_base.specs.declared.plain.PlainReply.TheVariants.{Beyond, Holds, NoFile}
use Rattle.image_view.specs.Files.{content, data_block, image_file}
use Rattle.image_view.specs.Images.{Image}
use Rattle.image_view.specs.Numbers.{logical}
use Rattle.image_view.specs.Pointers.{named}
use Rattle.image_view.specs.laws.FileLaws.{shown, volume_file_none, volume_file_some}
use Rattle.image_view.specs.laws.GeometryLaws.{image_file-volume}
use Rattle.call_effects.specs.Places.{IsReplyOf}
use Rattle.share_plans.specs.Places.{shown_at}
use Rattle.share_plans.specs.declared.sharing.Place.TheVariants.{File}
use Rattle.share_plans.specs.declared.sharing.Shared.{Shared}
use Rattle.share_plans.specs.declared.sharing.Shared.TheVariants as answers
use Rattle.settle.specs.Contents.{held}
use Rattle.settle.specs.Links.{Comes, Halts, HaveApart, HaveSome, IsShare}
use Rattle.settle.specs.Moves.{Moves}
use Rattle.settle.specs.Reads.{IsCompared, ReadsAs, ShowOne, block_in, compared_of}
use Rattle.settle.specs.Sound.{IsSound}
use Rattle.settle.specs.declared.candidates.Spot.{Spot}
use Rattle.settle.proofs.MoveLaws.{held-hole, held-of, linked-to, moves-quiet, moves-share, shown-names, shown-same}

-- the reply of a read of a list of blocks
read_in : (blocks : List Block) (i n : ℕ) (block : Block) → length blocks ≡ n → slice_index_or blocks i zero_block ≡ block → i < n
    → (at_block i blocks (Holds (slice_index_or blocks i zero_block), Some blocks)).0 ≡ Holds block
read_in blocks i n block long is below = let lt = lt-ltb i (length blocks) (omega (arith, long)) in rw (lt, is) refl

read_past : (blocks : List Block) (i n : ℕ) → length blocks ≡ n → n ≤ i
    → (at_block i blocks (Holds (slice_index_or blocks i zero_block), Some blocks)).0 ≡ Beyond (length blocks)
read_past blocks i n long past = let ge = le-ltb i (length blocks) (omega (arith, long)) in rw ge refl

-- a read below the length finds what the place shows
read-below : (g : Geometry) (image : Image) (f i n : ℕ) → IsSound g image → f < g.files → logical g image (Head f) ≡ n + 1 → i < n
    → (outcome (limit g) (Read f i) (image_file image f)).0 ≡ Holds (content g image (logical g image (Pointer f i)))
read-below g image f i n sound file head below =
    let is = image_file-volume g image f sound.spelled file ∙ volume_file_some g image f n head in
    let blocks = map (shown g image f) (range_with_len 0 n) in
    rw is (read_in blocks i n (shown g image f i) (length-map-range_with_len (shown g image f) 0 n)
    (get_or-map-range_with_len (shown g image f) 0 n i i zero_block below (omega arith)) below)

read-past : (g : Geometry) (image : Image) (f i n : ℕ) → IsSound g image → f < g.files → logical g image (Head f) ≡ n + 1 → n ≤ i
    → (m : ℕ) × ((outcome (limit g) (Read f i) (image_file image f)).0 ≡ Beyond m)
read-past g image f i n sound file head past =
    let is = image_file-volume g image f sound.spelled file ∙ volume_file_some g image f n head in
    let blocks = map (shown g image f) (range_with_len 0 n) in
    (length blocks, rw is (read_past blocks i n (length-map-range_with_len (shown g image f) 0 n) past))

read-none : (g : Geometry) (image : Image) (f i : ℕ) → IsSound g image → f < g.files → logical g image (Head f) ≡ 0
    → (outcome (limit g) (Read f i) (image_file image f)).0 ≡ NoFile
read-none g image f i sound file head =
    let is = image_file-volume g image f sound.spelled file ∙ volume_file_none g image f head in
    rw is refl

pub read-told : (g : Geometry) (image : Image) (f i : ℕ) (reply : PlainReply) → IsSound g image → f < g.files
    → IsReplyOf g (Read f i) reply image → ReadsAs g image f i (block_in reply)
read-told g image f i reply sound file is =
    elim (cases_eq (logical g image (Head f)) 0) [
      | inl none ↦
          let found : reply ≡ NoFile = is ∙ read-none g image f i sound file none in
          subst (λ (r : PlainReply). ReadsAs g image f i (block_in r)) (sym found) (omega (arith, none))
      | inr some ↦ there (logical g image (Head f) - 1) (omega (arith, some))
    ]
  where
    there : (n : ℕ) → logical g image (Head f) ≡ n + 1 → ReadsAs g image f i (block_in reply)
    there n head =
        elim (cases_lt i n) [
          | inl below ↦
              let found = is ∙ read-below g image f i n sound file head below in
              subst (λ (r : PlainReply). ReadsAs g image f i (block_in r)) (sym found) (omega (arith, head), refl)
          | inr past ↦
              let end = read-past g image f i n sound file head past in
              let found = is ∙ end.1 in
              subst (λ (r : PlainReply). ReadsAs g image f i (block_in r)) (sym found) (omega (arith, head))
        ]

-- what a comparison with the place of a file leaves
pub came-moves : (g : Geometry) (f i : ℕ) (s : Spot) (shared : Shared) (old new : Image) → IsSound g old
    → Comes g f i (File s.file s.index) shared old new → Moves g f i old new
came-moves g f i s answers.Linked old new sound came = moves-share g f i s.file s.index old new sound came.1
came-moves g f i s answers.Already old new sound came = moves-quiet g f i old new sound came.1
came-moves g f i s (answers.Differs at) old new sound came = moves-quiet g f i old new sound came.1
came-moves g f i s answers.Hole old new sound came = moves-quiet g f i old new sound came.1
came-moves g f i s answers.NoSource old new sound came = moves-quiet g f i old new sound came.1
came-moves g f i s (answers.Busy key) old new sound came = absurd came

-- and one that was refused
pub halt-moves : (g : Geometry) (f i : ℕ) (s : Spot) (old new : Image) → IsSound g old → Halts g f i (File s.file s.index) old new
    → Moves g f i old new
halt-moves g f i s old new sound halts =
    elim halts [
      | inl quiet ↦ moves-quiet g f i old new sound quiet
      | inr share ↦ moves-share g f i s.file s.index old new sound share
    ]

linked-shows : (g : Geometry) (f i : ℕ) (s : Spot) (old new : Image) → HasField g (Pointer f i) → HasField g (Pointer s.file s.index)
    → HaveSome g old f i (File s.file s.index) → IsShare g old new f i (Pointer s.file s.index) → ShowOne g new f i s
linked-shows g f i s old new has source some share =
    let did = linked-to g old new f i s.file s.index share in
    let own = shown-names g old f i some.0 some.2.own in
    let from = shown-names g old s.file s.index some.1 some.2.from in
    let head : logical g new (Head f) ≡ logical g old (Head f) = share.link.others (Head f) has.0 (λ e. cc) (λ e. cc) (λ e. cc) (λ e. cc) in
    let head' : logical g new (Head s.file) ≡ logical g old (Head s.file) = share.link.others (Head s.file) source.0 (λ e. cc) (λ e. cc) (λ e. cc) (λ e. cc) in
    let test : nat_lt (i + 1) (logical g new (Head f)) ≡ true = rw head own.0 in
    let same = shown-same g old new s.file s.index head' (did.others s.file s.index source did.apart) in
    let number : Some some.1 ≡ Some share.link.to = sym from.1 ∙ did.source in
    record {
      number = share.link.to;
      own = rw test did.own;
      from = same ∙ some.2.from ∙ number;
    }

-- what it says of the place
pub came-says : (g : Geometry) (f i : ℕ) (s : Spot) (shared : Shared) (old new : Image) → IsSound g old → HasField g (Pointer f i)
    → HasField g (Pointer s.file s.index) → Comes g f i (File s.file s.index) shared old new → IsCompared g new f i s (compared_of shared)
came-says g f i s answers.Linked old new sound has source came = linked-shows g f i s old new has source came.0 came.1
came-says g f i s answers.Already old new sound has source came =
    let quiet = came.1 in
    let one = came.0 in
    record {
      number = one.0;
      own = shown-same g old new f i (quiet.numbers (Head f) has.0) (ap named (quiet.numbers (Pointer f i) has)) ∙ one.1.own;
      from = shown-same g old new s.file s.index (quiet.numbers (Head s.file) source.0) (ap named (quiet.numbers (Pointer s.file s.index) source)) ∙ one.1.from;
    }
came-says g f i s (answers.Differs at) old new sound has source came = λ same. differ came.0 same
  where
    moved : Moves g f i old new
    moved = moves-quiet g f i old new sound came.1

    differ : HaveApart g old f i (File s.file s.index) → held g new f i ≡ held g new s.file s.index → ⊥
    differ apart same =
        let was : held g old f i ≡ held g old s.file s.index = sym (moved.stays.kept f i has) ∙ same ∙ moved.stays.kept s.file s.index source in
        let blocks : Some (data_block g old apart.0) ≡ Some (data_block g old apart.1) =
        sym (held-of g old f i apart.0 apart.2.own) ∙ was ∙ held-of g old s.file s.index apart.1 apart.2.from
        in
        let one : data_block g old apart.0 ≡ data_block g old apart.1 = cc in
        apart.3 (ap (λ (b : Block). b.0) one)
came-says g f i s answers.Hole old new sound has source came =
    let quiet = came.1 in
    shown-same g old new f i (quiet.numbers (Head f) has.0) (ap named (quiet.numbers (Pointer f i) has)) ∙ came.0
came-says g f i s answers.NoSource old new sound has source came = λ same. none came.0 same
  where
    moved : Moves g f i old new
    moved = moves-quiet g f i old new sound came.1

    none : ((d : ℕ) × (shown_at g old f i ≡ Some d)) × (shown_at g old s.file s.index ≡ None) → held g new f i ≡ held g new s.file s.index → ⊥
    none alone same =
        let was : held g old f i ≡ held g old s.file s.index = sym (moved.stays.kept f i has) ∙ same ∙ moved.stays.kept s.file s.index source in
        let e : Some (data_block g old alone.0.0) ≡ None = sym (held-of g old f i alone.0.0 alone.0.1) ∙ was ∙ held-hole g old s.file s.index alone.1 in
        absurd cc
came-says g f i s (answers.Busy key) old new sound has source came = absurd came
