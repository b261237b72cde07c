-- What was read at block 0, and what follows of the faults.
use Rattle.std.proofs.Common.{◌≡◌, ◌≢◌, ◌≤◌, ◌⊎◌, ℕ, List, [], ◌∷◌, Option, Some, None, length, ap, arith, inl, inr}
use Rattle.std.specs.Global.{Global}
use Rattle.std.specs.Prelude.{IfOk, IfSome, Result, Ok, Err, Vec}
use Rattle.std.proofs.lemmas.List.{get_or_past}
use Rattle.vol_base.specs.Bytes.{zeros}
use Rattle.vol_base.specs.laws.BytesLaws.{length-zeros}
use Rattle.vol_layout.specs.declared.geometry.Geometry.{Geometry}
use Rattle.vol_layout.specs.Regions.{total}
use Rattle.vol_layout.specs.Superblock.{SpellsGeometry}
use Rattle.image_view.specs.Images.{Image, first_block}
use Rattle.shared_disk.specs.State.{Told}
use Rattle.volume_faults.specs.declared.fault.Fault.{Fault}
use Rattle.volume_faults.specs.declared.fault.FaultKind.TheVariants as faults
use Rattle.volume_faults.specs.Faults.{AreFaults, AreTableFaults}
use Rattle.volume_faults.specs.laws.ValidityLaws.{no_superblock_is_the_fault, table_faults_are_faults}
use Rattle.volume_opening.specs.declared.block_zero.Found.{Found}
use Rattle.volume_opening.specs.declared.block_zero.Found.TheVariants.{Blank, Volume, Other}
use Rattle.volume_opening.specs.Found.{IsFound, found_geometry}
use Rattle.volume_opening.specs.Misfits.{misfit_with, superblock_of}
use Rattle.volume_opening.specs.laws.MisfitLaws.{misfit_none-long, misfit_none-same, superblock_of-blank, superblock_of-none, superblock_of-spelled, zeros_spell_none}

-- no bytes are neither zeros nor a superblock
no_bytes : IsFound [] Other
unfolding zeros
no_bytes = (λ e. absurd (omega (arith, ap length e, length-zeros 4096)), λ g h. zeros_spell_none 0 g h)

-- a device of no block
pub nothing_found : (told : Option Told) (blocks : ℕ) → IfSome told (λ t. length t.image ≡ blocks) → blocks ≡ 0 → IfSome told (λ t. IsFound (first_block t.image) Other)
nothing_found None blocks long none = tt
nothing_found (Some t) blocks long none = rw (get_or_past t.image 0 [] (omega (arith, long))) no_bytes

-- where a superblock stands on a device that the geometry fits, it is the geometry's own
pub own_superblock : (g h : Geometry) (blocks : ℕ) (told : Option Told) → misfit_with g blocks (Some h) ≡ None → IfSome told (λ t. IsFound (first_block t.image) (Volume h))
    → IfSome told (λ t. SpellsGeometry (first_block t.image) g)
own_superblock g h blocks None fits found = tt
own_superblock g h blocks (Some t) fits found = rw (misfit_none-same g h blocks fits) found

-- the faults of its tables are all its faults
told_faults : (g : Geometry) (counter blocks : ℕ) (told : Option Told) (xs : List Fault) → total g ≤ blocks → IfSome told (λ t. length t.image ≡ blocks)
    → IfSome told (λ t. SpellsGeometry (first_block t.image) g) → IfSome told (λ t. AreTableFaults g counter t.image xs) → IfSome told (λ t. AreFaults counter t.image xs)
told_faults g counter blocks None xs long whole spelled are = tt
told_faults g counter blocks (Some t) xs long whole spelled are = table_faults_are_faults g counter t.image xs spelled (omega (arith, whole)) are

pub volume_faults : {E : Type 0} (g h : Geometry) (counter blocks : ℕ) (told : Option Told) (result : Result (Vec Fault Global) E)
    → misfit_with g blocks (Some h) ≡ None → IfSome told (λ t. length t.image ≡ blocks) → IfSome told (λ t. IsFound (first_block t.image) (Volume h))
    → IfOk result (λ xs. IfSome told (λ t. AreTableFaults g counter t.image xs.items))
    → IfOk result (λ xs. IfSome told (λ t. AreFaults counter t.image xs.items))
volume_faults g h counter blocks told (Ok xs) fits whole found are =
    told_faults g counter blocks told xs.items (misfit_none-long g blocks (Some h) fits) whole (own_superblock g h blocks told fits found) are
volume_faults g h counter blocks told (Err refusal) fits whole found are = tt

-- where no superblock stands, that is the fault
no_superblock : (counter : ℕ) (told : Option Told) (found : Found) → found ≡ Other → IfSome told (λ t. IsFound (first_block t.image) found)
    → IfSome told (λ t. AreFaults counter t.image (record { place = 0; kind = faults.Superblock } ∷ []))
no_superblock counter None found other is = tt
no_superblock counter (Some t) found other is = no_superblock_is_the_fault counter t.image (rw other at is).1

pub superblock_faults : {E : Type 0} (counter : ℕ) (told : Option Told) (found : Found) (result : Result (Vec Fault Global) E)
    → (found ≡ Blank) ⊎ (found ≡ Other) → found ≢ Blank → IfSome told (λ t. IsFound (first_block t.image) found)
    → IfOk result (λ xs. xs.items ≡ record { place = 0; kind = faults.Superblock } ∷ [])
    → IfOk result (λ xs. IfSome told (λ t. AreFaults counter t.image xs.items))
superblock_faults counter told found (Ok xs) (inl blank) some is one = absurd (some blank)
superblock_faults counter told found (Ok xs) (inr other) some is one = rw one (no_superblock counter told found other is)
superblock_faults counter told found (Err refusal) cases some is one = tt

-- what was found at block 0
pub superblock_of-found : (image : Image) (found : Found) → IsFound (first_block image) found → superblock_of image ≡ found_geometry found
superblock_of-found image Blank h = superblock_of-blank image h
superblock_of-found image (Volume g) h = superblock_of-spelled g image h
superblock_of-found image Other h = superblock_of-none image h.1
