-- The search of a representative.
use Rattle.std.proofs.Common.{◌≡◌, ◌≢◌, ◌<◌, ◌≤◌, ◌+◌, ℕ, Option, Some, None, sym, subst, ◌∙◌, inl, inr, arith}
use Rattle.std.proofs.lemmas.Bool.{cases_eq, cases_lt}
use Rattle.shared_disk.specs.State.{OnImages, Told}
use Rattle.vol_base.specs.declared.block.Digest.{Digest}
use Rattle.vol_layout.specs.declared.field.Field.TheVariants.{Pointer}
use Rattle.vol_layout.specs.declared.geometry.Geometry.{Geometry}
use Rattle.vol_layout.specs.Fields.{HasField}
use Rattle.image_view.specs.Images.{Image}
use Rattle.settle.specs.Contents.{held}
use Rattle.settle.specs.Gathered.{Found, IsTable}
use Rattle.settle.specs.Moves.{Moves}
use Rattle.settle.specs.Reads.{IsApart, IsCompared, IsJoined}
use Rattle.settle.specs.declared.candidates.Spot.{Spot}
use Rattle.settle.specs.declared.comparing.Compared.TheVariants as compared
use Rattle.settle.proofs.MoveLaws.{moves-join}
use Rattle.settle.proofs.ToldLaws.{OnImage, told-ends, told-join, told-last, told-map}

-- the representatives of the digest below a number were compared with the place, and the next one is to be
pub told-moves-join : (g : Geometry) (f i : ℕ) (old mid new : Option Told) → OnImages (Moves g f i) old mid → OnImages (Moves g f i) mid new
    → OnImages (Moves g f i) old new
told-moves-join g f i old mid new first more =
    told-join old mid new (Moves g f i) (Moves g f i) (Moves g f i) first more (λ a b c one other. moves-join g f i a b c one other)

-- a place that shows the data block of this representative
pub told-is-joined : (g : Geometry) (told : Option Told) (found : Found) (f i : ℕ) (x : Digest) (n : ℕ) (s : Spot) → found x n ≡ Some s
    → OnImage told (λ image. IsCompared g image f i s compared.Same) → OnImage told (λ image. IsJoined g image found f i x)
told-is-joined g told found f i x n s there is =
    told-map told (λ image. IsCompared g image f i s compared.Same) (λ image. IsJoined g image found f i x) is
    (λ image one. record { number = n; rep = s; there = there; show = one })

apart_more : (g : Geometry) (old new : Image) (found : Found) (f i : ℕ) (x : Digest) (n : ℕ) (s : Spot) → HasField g (Pointer f i) → IsTable g found
    → found x n ≡ Some s → IsApart g old found f i x n → Moves g f i old new → held g new f i ≢ held g new s.file s.index
    → IsApart g new found f i x (n + 1)
apart_more g old new found f i x n s has table there apart moves other m t below found_there same =
    elim (cases_eq m n) [
      | inl here ↦
          let e : found x n ≡ Some t = subst (λ (k : ℕ). found x k ≡ Some t) here found_there in
          let is : t ≡ s = cc in
          other (subst (λ (u : Spot). held g new f i ≡ held g new u.file u.index) is same)
      | inr earlier ↦
          apart m t (omega (arith, earlier)) found_there
          (sym (moves.stays.kept f i has) ∙ same ∙ moves.stays.kept t.file t.index (table.fields x m t found_there))
    ]

-- another representative that does not hold what the place holds
pub told-apart-more : (g : Geometry) (old new : Option Told) (found : Found) (f i : ℕ) (x : Digest) (n : ℕ) (s : Spot) → HasField g (Pointer f i)
    → IsTable g found → found x n ≡ Some s → OnImage old (λ image. IsApart g image found f i x n) → OnImages (Moves g f i) old new
    → OnImage new (λ image. IsCompared g image f i s compared.Other) → OnImage new (λ image. IsApart g image found f i x (n + 1))
told-apart-more g old new found f i x n s has table there apart moves other =
    told-last old new (λ image. IsApart g image found f i x (n + 1)) (λ a b. IsApart g b found f i x (n + 1))
    (told-ends old new (λ image. IsApart g image found f i x n) (λ image. IsCompared g image f i s compared.Other) (Moves g f i)
    (λ a b. IsApart g b found f i x (n + 1)) moves apart other
    (λ a b before behind moved. apart_more g a b found f i x n s has table there before moved behind)) (λ a b did. did)

-- at first none was compared
pub told-apart-none : (g : Geometry) (told : Option Told) (found : Found) (f i : ℕ) (x : Digest) → OnImage told (λ image. IsApart g image found f i x 0)
told-apart-none g None found f i x = tt
told-apart-none g (Some t) found f i x = λ m s below there same. absurd (omega arith)

pub passed-more : (found : Found) (x : Digest) (n : ℕ) (s : Spot) → found x n ≡ Some s → ((m : ℕ) → m < n → found x m ≢ None)
    → (m : ℕ) → m < n + 1 → found x m ≢ None
passed-more found x n s there passed m below none =
    elim (cases_eq m n) [
      | inl here ↦ let e : found x n ≡ None = subst (λ (k : ℕ). found x k ≡ None) here none in absurd cc
      | inr earlier ↦ passed m (omega (arith, earlier)) none
    ]

-- a free number is past all that are taken
pub number-past : (g : Geometry) (found : Found) (x : Digest) (n k : ℕ) (s : Spot) → IsTable g found → found x n ≡ Some s → found x k ≡ None → n < k
number-past g found x n k s table there free =
    elim (cases_lt n k) [
      | inl past ↦ past
      | inr below ↦ let e = table.dense x k n below free in absurd cc
    ]

-- and not before those that were passed
pub number-from : (found : Found) (x : Digest) (n k : ℕ) → ((m : ℕ) → m < n → found x m ≢ None) → found x k ≡ None → n ≤ k
number-from found x n k passed free =
    elim (cases_lt k n) [
      | inl below ↦ absurd (passed k below free)
      | inr past ↦ past
    ]
