-- The write of a hint block or a data block is a step.
use Rattle.std.proofs.Common.{◌≡◌, ◌≢◌, ◌+◌, ◌-◌, ℕ, true, List, [], None, Some, refl, sym, ap, ◌∙◌, subst, inl, inr, arith}
use Rattle.std.proofs.lemmas.Bool.{cases_Bool, cases_eq, eq-eqb, ne_eqb}
use Rattle.std.proofs.lemmas.List.{length-set}
use Rattle.vol_layout.specs.declared.geometry.Geometry.{Geometry}
use Rattle.vol_layout.specs.declared.kind.Kind.{Kind}
use Rattle.vol_layout.specs.declared.kind.Kind.TheVariants as kinds
use Rattle.vol_layout.specs.declared.kind.Resource.TheVariants as resources
use Rattle.vol_layout.specs.declared.field.Field.{Field}
use Rattle.vol_layout.specs.declared.field.Field.TheVariants.{Count, Pointer, Slot}
use Rattle.vol_layout.specs.Edits.{same_field}
use Rattle.vol_layout.specs.Fields.{HasField, resource_of, table_of}
use Rattle.vol_layout.specs.Places.{place_of}
use Rattle.vol_layout.specs.Ranges.{HasKind, IsGeometry}
use Rattle.vol_layout.specs.laws.EditLaws.{other_field, same_field-is}
use Rattle.image_view.specs.Balances.{share, share_of}
use Rattle.image_view.specs.HostKeys.{IsHeldBy}
use Rattle.image_view.specs.Images.{Image, OnlyChanges, block_at, written}
use Rattle.image_view.specs.Mappings.{uses}
use Rattle.image_view.specs.Numbers.{logical}
use Rattle.image_view.specs.Pointers.{IsUnmarked}
use Rattle.image_view.specs.laws.FrameLaws.{HasResource-resource_of, block_at-written, field_kept, logical_kept, write_only}
use Rattle.image_view.specs.laws.GeometryLaws.{first_block-is}
use Rattle.image_view.specs.laws.UseLaws.{share-le-uses, share_unmarked}
use Rattle.image_view.specs.laws.ValidLaws.{IsPlainKind, valid_plain_write}
use Rattle.call_effects.specs.Changes.{Data}
use Rattle.call_effects.specs.laws.MarkLaws.{two-uses}
use Rattle.call_effects.specs.laws.PointerLaws.{fresh-unmarked}
use Rattle.lock_store.specs.Memories.{holds}
use Rattle.lock_store.specs.Views.{LocksView, counter_of, host_at, key_at}
use Rattle.host_facts.specs.Finds.{Finds}
use Rattle.host_facts.specs.Hints.{IsHint}
use Rattle.host_facts.specs.OwnBlocks.{IsOwnBlock}
use Rattle.host_facts.specs.Steps.{IsStep}
use Rattle.host_facts.specs.laws.FoundLaws.{held_found}
use Rattle.host_facts.specs.laws.KindLaws.{hint_leaves, nothing_changes, numbers_left}

plain_hint : (kind : Kind) → IsHint kind → IsPlainKind kind
plain_hint kinds.Super hint = hint
plain_hint (kinds.Slot h) hint = hint
plain_hint (kinds.Journal h) hint = hint
plain_hint (kinds.Lock r) hint = hint
plain_hint (kinds.Table t) hint = hint
plain_hint (kinds.Log h l) hint = tt
plain_hint (kinds.Shard s) hint = tt
plain_hint (kinds.Request f) hint = tt
plain_hint (kinds.Number d) hint = absurd hint

-- a hint block is written
pub hint_step : (v : LocksView) (h : ℕ) (kind : Kind) (block : List ℕ) (image : Image) → Finds v h image → IsHint kind
    → HasKind v.geometry kind → IsStep v.geometry (counter_of v) h (host_at v h) kind block [] None image
hint_step v h kind block image found hint has =
    let g = v.geometry in
    let new = written g image kind block in
    let only : OnlyChanges g image new kind = write_only g image kind block has in
    let long = length-set image (place_of g kind) block in
    let leaves = hint_leaves kind hint in
    record {
      valid = valid_plain_write g (counter_of v) image new kind (plain_hint kind hint) only long found.agrees.valid;
      may = record {
        numbers = λ x there other. numbers_left g image new kind leaves only x there;
        journal = λ y e. absurd (leaves.journal y (sym e));
        table = λ t e. absurd (leaves.table t (sym e));
        number = λ d e. absurd (leaves.number d (sym e));
        fresh = λ d e. absurd (leaves.number d (sym e));
        slots = λ s d there names. inl (field_kept g image new kind (Slot s) only there (leaves.table (table_of (Slot s))) ∙ names);
        no_slot = λ d e. absurd (leaves.number d (sym e));
      };
      changes = nothing_changes g image new kind leaves only;
      own = λ e. absurd (leaves.journal h (sym e));
    }

-- a data block is written that no field names but of what the host holds, no slot of the arena names, and that is not free but in a
-- held group
number_step : (v : LocksView) (h d : ℕ) (block : List ℕ) (image : Image) → Finds v h image → HasField v.geometry (Count d)
    → ((x : Field) → HasField v.geometry x → share_of x (logical v.geometry image x) d ≡ 1
    → IsHeldBy v.geometry image (resource_of x) (key_at v h))
    → (logical v.geometry image (Count d) ≡ 0 → IsHeldBy v.geometry image (resource_of (Count d)) (key_at v h))
    → ((s : ℕ) → HasField v.geometry (Slot s) → logical v.geometry image (Slot s) ≡ d + 1 → ⊥)
    → IsStep v.geometry (counter_of v) h (host_at v h) (kinds.Number d) block [] (Some (d, block)) image
number_step v h d block image found has named free no_slot =
    let g = v.geometry in
    let kind = kinds.Number d in
    let new = written g image kind block in
    let put : Data = Some (d, block) in
    let only : OnlyChanges g image new kind = write_only g image kind block has in
    let same = λ (x : Field) (there : HasField g x). logical_kept g image new kind x only (λ y e. cc) (λ t e. cc) there in
    let number_is = λ (c : ℕ) (e : kind ≡ kinds.Number c). let e' : d ≡ c = cc in e' in
    record {
      valid = valid_plain_write g (counter_of v) image new kind tt only (length-set image (place_of g kind) block) found.agrees.valid;
      may = record {
        numbers = λ x there other. same x there;
        journal = λ y e. absurd cc;
        table = λ t e. absurd cc;
        number = λ c e x there shares. named x there (ap (λ n. share_of x (logical g image x) n) (number_is c e) ∙ shares);
        fresh = λ c e none.
            let held = free (ap (λ n. logical g image (Count n)) (number_is c e) ∙ none) in
            subst (λ n. IsHeldBy g image (resource_of (Count n)) (key_at v h)) (number_is c e) held;
        slots = λ s c there names. inl (field_kept g image new kind (Slot s) only there (λ e. cc) ∙ names);
        no_slot = λ c e s there names. no_slot s there (names ∙ ap (λ n. n + 1) (sym (number_is c e)));
      };
      changes = record {
        super = sym (first_block-is g new) ∙ only kinds.Super tt (λ e. cc) ∙ first_block-is g image;
        numbers = same;
        blocks = λ c there. elim (cases_eq d c) [
          | inl here ↦
              let test = eq-eqb d c here in
              ap (λ n. block_at g new (kinds.Number n)) (sym here)
              ∙ block_at-written g image kind block has found.agrees.valid.long
              ∙ rw test refl
          | inr other ↦ let test = ne_eqb d c other in only (kinds.Number c) there (λ e. other cc) ∙ rw test refl
        ];
      };
      own = λ e. absurd cc;
    }

-- the number of a data block of the volume, without the mark, is a use of it
pub share_named : (g : Geometry) (d : ℕ) → IsGeometry g → HasField g (Count d) → share (d + 1) d ≡ 1
share_named g d range has =
    let less : d + 1 - 1 ≡ d = omega arith in
    ap (λ e. share (d + 1) e) (sym less) ∙ share_unmarked (d + 1) (fresh-unmarked g d range has)

-- so is a slot that names it
slot_uses : (g : Geometry) (image : Image) (s d : ℕ) → IsGeometry g → HasField g (Count d) → logical g image (Slot s) ≡ d + 1
    → share_of (Slot s) (logical g image (Slot s)) d ≡ 1
slot_uses g image s d range has names = ap (λ n. share n d) names ∙ share_named g d range has

-- what a field names is used, and no other field names what is used once
unused : (g : Geometry) (image : Image) (x : Field) (d : ℕ) → HasField g x → uses g image d ≡ 0 → share_of x (logical g image x) d ≢ 1
unused g image x d has none shares = let used = share-le-uses g image x d has in absurd (omega (arith, used, shares, none))

used_alone : (g : Geometry) (image : Image) (x y : Field) (d : ℕ) → HasField g x → HasField g y → y ≢ x → uses g image d ≡ 1
    → share_of x (logical g image x) d ≡ 1 → share_of y (logical g image y) d ≢ 1
used_alone g image x y d has there apart once here shares =
    let both = two-uses g image x y d has there apart in absurd (omega (arith, both, here, shares, once))

-- a data block that is free is written, in a held group
pub fresh_step : (v : LocksView) (h d : ℕ) (block : List ℕ) (image : Image) → Finds v h image → HasField v.geometry (Count d)
    → holds (host_at v h) (resource_of (Count d)) ≡ true → logical v.geometry image (Count d) ≡ 0
    → IsStep v.geometry (counter_of v) h (host_at v h) (kinds.Number d) block [] (Some (d, block)) image
fresh_step v h d block image found has held free =
    let g = v.geometry in
    let none : uses g image d ≡ 0 = sym (found.agrees.valid.counted.counts d has) ∙ free in
    number_step v h d block image found has (λ x there shares. absurd (unused g image x d there none shares))
    (λ e. held_found v h image (resource_of (Count d)) found (HasResource-resource_of g (Count d) has) held)
    (λ s there names. unused g image (Slot s) d there none (slot_uses g image s d found.consistent.geometry has names))

-- a data block that a held file shows, and nothing else names, is written
pub own_step : (v : LocksView) (h f i d : ℕ) (block : List ℕ) (image : Image) → Finds v h image → HasField v.geometry (Pointer f i)
    → HasField v.geometry (Count d) → holds (host_at v h) (resources.File f) ≡ true → IsOwnBlock v.geometry f i d image
    → IsStep v.geometry (counter_of v) h (host_at v h) (kinds.Number d) block [] (Some (d, block)) image
own_step v h f i d block image found has there held own =
    let g = v.geometry in
    let n = logical g image (Pointer f i) in
    let lone : IsUnmarked n = subst IsUnmarked (sym own.pointer) (fresh-unmarked g d found.consistent.geometry there) in
    let less : n - 1 ≡ d = omega (arith, own.pointer) in
    let once : uses g image d ≡ 1 = ap (uses g image) (sym less) ∙ found.agrees.valid.counted.unmarked f i has lone in
    let here : share n d ≡ 1 = ap (λ m. share m d) own.pointer ∙ share_named g d found.consistent.geometry there in
    let alone = λ (x : Field) (other : HasField g x) (apart : x ≢ Pointer f i).
    used_alone g image (Pointer f i) x d has other apart once here in
    number_step v h d block image found there
    (λ x other shares. elim (cases_Bool (same_field x (Pointer f i))) [
      | inl same ↦
          let is = same_field-is x (Pointer f i) same in
          let mine = held_found v h image (resources.File f) found has.0 held in
          subst (λ (y : Field). IsHeldBy g image (resource_of y) (key_at v h)) (sym is) mine
      | inr apart ↦ absurd (alone x other (other_field x (Pointer f i) apart) shares)
    ])
    (λ free. absurd (let count = found.agrees.valid.counted.counts d there in omega (arith, count, free, once)))
    (λ s other names. alone (Slot s) other (λ e. cc) (slot_uses g image s d found.consistent.geometry there names))
