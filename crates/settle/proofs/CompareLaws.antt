-- What a call of the lone host gives, where the device tells its content.
use Rattle.std.proofs.Common.{◌≡◌, ◌<◌, ℕ, Option, subst, sym}
use Rattle.shared_disk.specs.State.{OnImages, Told}
use Rattle.vol_base.specs.declared.block.Block.{Block}
use Rattle.vol_base.specs.declared.plain.PlainCall.TheVariants.{Read}
use Rattle.vol_base.specs.declared.plain.PlainReply.{PlainReply}
use Rattle.vol_layout.specs.declared.field.Field.TheVariants.{Pointer}
use Rattle.vol_layout.specs.declared.geometry.Geometry.{Geometry}
use Rattle.vol_layout.specs.Fields.{HasField}
use Rattle.call_effects.specs.Places.{IsReplyOf}
use Rattle.share_plans.specs.declared.sharing.Place.TheVariants.{File}
use Rattle.share_plans.specs.declared.sharing.Shared.{Shared}
use Rattle.settle.specs.Links.{Comes, Halts}
use Rattle.settle.specs.Moves.{Moves}
use Rattle.settle.specs.Reads.{IsCompared, ReadsAs, block_in, compared_of}
use Rattle.settle.specs.Sound.{IsSound}
use Rattle.settle.specs.declared.candidates.Spot.{Spot}
use Rattle.settle.specs.declared.comparing.Compared.{Compared}
use Rattle.settle.proofs.ReadLaws.{came-moves, came-says, halt-moves, read-told}
use Rattle.settle.proofs.ToldLaws.{OnImage, told-both, told-over, told-step}

pub told-compared : (v g : Geometry) (old new : Option Told) (f i : ℕ) (s : Spot) (shared : Shared) (result : Compared) → v ≡ g
    → HasField g (Pointer f i) → HasField g (Pointer s.file s.index) → OnImage old (IsSound g)
    → OnImages (Comes v f i (File s.file s.index) shared) old new → result ≡ compared_of shared
    → OnImage new (λ image. IsCompared g image f i s result)
told-compared v g old new f i s shared result is has source sound came result_is =
    let came' = subst (λ (x : Geometry). OnImages (Comes x f i (File s.file s.index) shared) old new) is came in
    subst (λ (r : Compared). OnImage new (λ image. IsCompared g image f i s r)) (sym result_is)
    (told-over old new (IsSound g) (λ image. IsCompared g image f i s (compared_of shared)) (Comes g f i (File s.file s.index) shared) came' sound
    (λ a b is_sound did. came-says g f i s shared a b is_sound has source did))

pub told-came : (v g : Geometry) (old new : Option Told) (f i : ℕ) (s : Spot) (shared : Shared) → v ≡ g → OnImage old (IsSound g)
    → OnImages (Comes v f i (File s.file s.index) shared) old new → OnImages (Moves g f i) old new
told-came v g old new f i s shared is sound came =
    let came' = subst (λ (x : Geometry). OnImages (Comes x f i (File s.file s.index) shared) old new) is came in
    told-step old new (IsSound g) (Comes g f i (File s.file s.index) shared) (Moves g f i) came' sound (λ a b is_sound did. came-moves g f i s shared a b is_sound did)

pub told-halted : (v g : Geometry) (old new : Option Told) (f i : ℕ) (s : Spot) → v ≡ g → OnImage old (IsSound g)
    → OnImages (Halts v f i (File s.file s.index)) old new → OnImages (Moves g f i) old new
told-halted v g old new f i s is sound halts =
    let halts' = subst (λ (x : Geometry). OnImages (Halts x f i (File s.file s.index)) old new) is halts in
    told-step old new (IsSound g) (Halts g f i (File s.file s.index)) (Moves g f i) halts' sound (λ a b is_sound did. halt-moves g f i s a b is_sound did)

pub told-read : (v g : Geometry) (told : Option Told) (f i : ℕ) (reply : PlainReply) (block : Option Block) → v ≡ g → f < g.files
    → OnImage told (IsSound g) → OnImage told (IsReplyOf v (Read f i) reply) → block ≡ block_in reply
    → OnImage told (λ image. ReadsAs g image f i block)
told-read v g told f i reply block is file sound replied block_is =
    let replied' = subst (λ (x : Geometry). OnImage told (IsReplyOf x (Read f i) reply)) is replied in
    subst (λ (b : Option Block). OnImage told (λ image. ReadsAs g image f i b)) (sym block_is)
    (told-both told (IsSound g) (IsReplyOf g (Read f i) reply) (λ image. ReadsAs g image f i (block_in reply)) sound replied'
    (λ image is_sound said. read-told g image f i reply is_sound file said))
