-- What a superblock reads as.
use Rattle.std.proofs.Common.{◌≡◌, ◌≢◌, ◌≤◌, ◌+◌, ◌-◌, ◌*◌, ◌==◌, ℕ, true, false, List, ◌++◌, Some, length, get_or, take, if◌then◌else◌, refl, sym, ap, ◌∙◌, arith, append_assoc, length-append}
use Rattle.std.specs.Prelude.{codes, slice_get}
use Rattle.std.specs.List.{flat_map}
use Rattle.std.proofs.lemmas.List.{take_at}
use Rattle.std.proofs.lemmas.Bool.Decides.{nat_tests}
use Rattle.vol_base.specs.Bytes.{bytes_of, u32_at, zeros}
use Rattle.vol_base.specs.laws.RowLaws.{number_at-row, length-row}
use Rattle.vol_layout.specs.declared.geometry.Geometry.{Geometry}
use Rattle.vol_layout.specs.Ranges.{IsGeometry}
use Rattle.vol_layout.specs.Superblock.{volume_magic, written_numbers, superblock_bytes}

length-volume_magic : (g : Geometry) → length (volume_magic g) ≡ 8
length-volume_magic g = elim (g.tables == 1) as (λ b. length (if b then codes "DEDEVOL1" else codes "DEDEVOL2") ≡ 8) [ true ↦ refl | false ↦ refl ]

pub take-superblock : (g : Geometry) → take 8 (superblock_bytes g) ≡ volume_magic g
unfolding superblock_bytes
take-superblock g =
    let long = length-volume_magic g in
    ap (take 8) (append_assoc (volume_magic g) (flat_map (bytes_of 4) (written_numbers g)) (zeros (4088 - 4 * length (written_numbers g))))
    ∙ take_at (volume_magic g) (flat_map (bytes_of 4) (written_numbers g) ++ zeros (4088 - 4 * length (written_numbers g))) 8 long

-- number k of a superblock
pub superblock-number : (g : Geometry) (k at n : ℕ) → slice_get (written_numbers g) k ≡ Some n → n ≤ 64 → at ≡ 8 + 4 * k
    → u32_at (superblock_bytes g) at ≡ n
unfolding superblock_bytes
superblock-number g k at n is small e =
    number_at-row 4 k at (volume_magic g) (zeros (4088 - 4 * length (written_numbers g))) (written_numbers g) n is (omega arith)
    (omega (arith, length-volume_magic g, e))

-- what stands at each place of a superblock
pub record ReadsBack (g : Geometry) : Type 0 where
  pub hosts : u32_at (superblock_bytes g) 8 ≡ g.hosts
  pub files : u32_at (superblock_bytes g) 12 ≡ g.files
  pub groups : u32_at (superblock_bytes g) 16 ≡ g.groups
  pub parts : u32_at (superblock_bytes g) 20 ≡ g.parts
  pub shards : u32_at (superblock_bytes g) 24 ≡ g.shards
  pub logs : u32_at (superblock_bytes g) 28 ≡ g.logs

pub superblock_reads_back : (g : Geometry) → IsGeometry g → ReadsBack g
superblock_reads_back g h = record {
  hosts = superblock-number g 0 8 g.hosts refl (omega arith) refl;
  files = superblock-number g 1 12 g.files refl (omega arith) refl;
  groups = superblock-number g 2 16 g.groups refl (omega arith) refl;
  parts = superblock-number g 3 20 g.parts refl (omega arith) refl;
  shards = superblock-number g 4 24 g.shards refl (omega arith) refl;
  logs = superblock-number g 5 28 g.logs refl (omega arith) refl;
}

-- the seventh number of a volume of version 2
pub superblock-tables : (g : Geometry) → IsGeometry g → g.tables ≢ 1 → u32_at (superblock_bytes g) 32 ≡ g.tables
superblock-tables g h many =
    let other : (g.tables == 1) ≡ false = grind (arith, nat_tests) in
    superblock-number g 6 32 g.tables (rw other refl) (omega arith) refl

-- which of the two magics a superblock has says whether it has one table block a file
pub single_magic : (g : Geometry) → take 8 (superblock_bytes g) ≡ codes "DEDEVOL1" → g.tables ≡ 1
single_magic g e =
    let is = sym (take-superblock g) ∙ e in
    elim (g.tables == 1) as (λ b. (g.tables == 1) ≡ b → (if b then codes "DEDEVOL1" else codes "DEDEVOL2") ≡ codes "DEDEVOL1" → g.tables ≡ 1)
    [ true ↦ (λ t m. grind (arith, nat_tests)) | false ↦ (λ t m. let last : get_or (codes "DEDEVOL2") 7 0 ≡ get_or (codes "DEDEVOL1") 7 0 = ap (λ (xs : List ℕ). get_or xs 7 0) m in absurd (omega (arith, last))) ] refl is

-- the zeros behind what is written
pub padded_superblock : (g : Geometry) (draft : List ℕ) → draft ≡ volume_magic g ++ flat_map (bytes_of 4) (written_numbers g)
    → draft ++ zeros (4096 - length draft) ≡ superblock_bytes g
unfolding superblock_bytes
padded_superblock g draft e =
    let long : length draft ≡ 8 + 4 * length (written_numbers g) = rw e (length-append (volume_magic g) (flat_map (bytes_of 4) (written_numbers g)) ∙ omega (arith, length-volume_magic g, length-row 4 (written_numbers g))) in
    let left : 4096 - length draft ≡ 4088 - 4 * length (written_numbers g) = omega (arith, long) in
    rw left (ap (λ (xs : List ℕ). xs ++ zeros (4088 - 4 * length (written_numbers g))) e)

-- the two versions: what their first eight bytes say
pub many_magic : (g : Geometry) → take 8 (superblock_bytes g) ≢ codes "DEDEVOL1" → g.tables ≢ 1
many_magic g other one = let is : (g.tables == 1) ≡ true = grind (arith, nat_tests) in other (take-superblock g ∙ rw is refl)
