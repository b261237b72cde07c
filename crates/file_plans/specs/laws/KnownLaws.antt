-- What kept tables say holds of the image, and what the sight by them allows.
use Rattle.std.proofs.Common.{◌≡◌, ◌+◌, ℕ, Bool, true, false, List, [], None, Option, Some, refl, ap, sym, subst, ◌∙◌, arith}
use Rattle.std.specs.Prelude.{IfSome}
use Rattle.vol_base.specs.declared.block.Block.{Block}
use Rattle.vol_base.specs.declared.plain.PlainCall.{PlainCall}
use Rattle.vol_base.specs.declared.plain.PlainCall.TheVariants.{Read}
use Rattle.vol_base.specs.declared.plain.PlainReply.{PlainReply}
use Rattle.vol_base.specs.declared.plain.PlainReply.TheVariants.{Holds}
use Rattle.vol_layout.specs.declared.field.Field.{Field}
use Rattle.vol_layout.specs.declared.field.Field.TheVariants.{Count, Head, Pointer, Slot}
use Rattle.vol_layout.specs.declared.geometry.Geometry.{Geometry}
use Rattle.vol_layout.specs.declared.kind.Kind.TheVariants as kinds
use Rattle.vol_layout.specs.declared.kind.Resource.TheVariants.{File}
use Rattle.vol_layout.specs.Fields.{HasField, table_of}
use Rattle.image_view.specs.declared.pointer.Number.TheVariants.{At}
use Rattle.image_view.specs.Balances.{share_of}
use Rattle.image_view.specs.Images.{Image, block_at}
use Rattle.image_view.specs.Numbers.{logical}
use Rattle.image_view.specs.Pointers.{named}
use Rattle.shared_disk.specs.State.{OnImages, State, Told}
use Rattle.std.specs.Prelude.{Contains}
use Rattle.lock_store.specs.Memories.{key_of}
use Rattle.lock_store.specs.Views.{key_at, keys_of}
use Rattle.lock_store.specs.declared.host.HostState.{HostState}
use Rattle.lock_store.specs.Memories.{may_read}
use Rattle.lock_store.specs.Views.{host_at, told_of}
use Rattle.disk_locks.specs.Consistent.{Consistent}
use Rattle.disk_locks.specs.Sure.{Sure}
use Rattle.held_cache.specs.Kept.{Cache, IsFileTable, kept_at}
use Rattle.call_effects.specs.Places.{Places}
use Rattle.call_effects.specs.laws.LookLaws.{IsLook, look-read, placed-look}
use Rattle.call_effects.specs.laws.PointerLaws.{content-named, fresh-unmarked, named-marked, named-unmarked}
use Rattle.image_view.specs.Links.{marked}
use Rattle.image_view.specs.Balances.{share}
use Rattle.image_view.specs.Pointers.{pointer_number}
use Rattle.image_view.specs.declared.pointer.Number.{Number}
use Rattle.image_view.specs.laws.BalanceLaws.{share_named}
use Rattle.std.proofs.lemmas.Bool.{eq-eqb}
use Rattle.vol_layout.specs.Ranges.{IsGeometry}
use Rattle.host_facts.specs.Facts.Fact.{BlockIs, RecordIs}
use Rattle.host_facts.specs.Finds.{Finds}
use Rattle.host_facts.specs.Knows.{Knows}
use Rattle.host_facts.specs.Looks.{Looks}
use Rattle.host_facts.specs.OwnBlocks.{IsOwnBlock, MayName}
use Rattle.host_facts.specs.Views.{WorldView}
use Rattle.host_facts.specs.laws.DoneLaws.{number_known}
use Rattle.host_facts.specs.laws.FindsLaws.{sure_found}
use Rattle.host_facts.specs.laws.ToldLaws.{sure_and, sure_each, sure_of}
use Rattle.file_plans.specs.Bases.{IsCached}
use Rattle.file_plans.specs.Says.{HasBlock, Reads, Says}
use Rattle.file_plans.specs.Sights.{IsSight}
use Rattle.file_plans.specs.declared.call.FileCall.TheVariants.{Plain}
use Rattle.file_plans.specs.declared.sight.Sight.TheVariants.{Settled}
use Rattle.file_plans.specs.laws.SaysLaws.{pointer_table}

-- a table that is kept is one of a file
kept_file : (v : WorldView) (c : Cache) (h : ℕ) (x : Field) (n : ℕ) → Consistent v.locks → HasField v.locks.geometry x
    → Says (kept_at c h) x n → IsFileTable v.locks.geometry (table_of x)
kept_file v c h (Head f) n is has says = has
kept_file v c h (Pointer f i) n is has says = pointer_table v.locks.geometry f i is.geometry has
kept_file v c h (Slot s) n is has says = let none : None ≡ Some says.table = says.kept in absurd cc
kept_file v c h (Count d) n is has says = let none : None ≡ Some says.table = says.kept in absurd cc

-- the data block that a pointer names
pub at_named : (g : Geometry) (d : ℕ) (shared : Bool) → IsGeometry g → HasField g (Count d) → named (pointer_number (At d shared)) ≡ Some d
at_named g d false range has =
    let same : d + 1 ≡ d + 1 + 0 = omega arith in
    subst (λ (n : ℕ). named n ≡ Some d) same (named-unmarked (d + 1) d refl (fresh-unmarked g d range has))
at_named g d true range has =
    let same : marked d ≡ pointer_number (At d true) = omega arith in
    subst (λ (n : ℕ). named n ≡ Some d) same (named-marked d (fresh-unmarked g d range has).1)

once : (n d : ℕ) → named n ≡ Some d → share n d ≡ 1
once n d is = share_named n d d is ∙ rw (eq-eqb d d refl) refl

module _ (v : WorldView) (c : Cache) (h : ℕ) (is : Consistent v.locks) (cached : IsCached v c h) (empty : Knows v h (RecordIs [])) where
  abbrev g : Geometry
  g = v.locks.geometry

  pub number_said : (x : Field) (n : ℕ) → HasField g x → Says (kept_at c h) x n → Sure v.locks h (λ image. logical g image x ≡ n)
  number_said x n has says =
      let known = cached.known (table_of x) says.table (kept_file v c h x n is has says) says.kept in
      sure_of v.locks h (λ image. logical g image x ≡ _) (λ image. logical g image x ≡ n) (λ image shown. shown ∙ says.is)
      (number_known v h (table_of x) says.table x is known.0 known.1 empty has refl)

  pub known_reads : Sure v.locks h (Reads g (kept_at c h))
  known_reads =
      sure_each v.locks h Field (λ x image. (n : ℕ) → HasField g x → Says (kept_at c h) x n → logical g image x ≡ n) (λ x.
      sure_each v.locks h ℕ (λ n image. HasField g x → Says (kept_at c h) x n → logical g image x ≡ n) (λ n.
      sure_each v.locks h (HasField g x) (λ has image. Says (kept_at c h) x n → logical g image x ≡ n) (λ has.
      sure_each v.locks h (Says (kept_at c h) x n) (λ says image. logical g image x ≡ n) (number_said x n has))))

  -- what a registered host finds, with what its tables say
  pub reading : (Q : Image → Type 0) → ((image : Image) → Finds v.locks h image → Reads g (kept_at c h) image → Q image) → Sure v.locks h Q
  reading Q f = sure_found v.locks h (Reads g (kept_at c h)) Q is f known_reads

  -- a call that is settled
  pub settled_look : (call : PlainCall) (reply : PlainReply) → IsSight g (kept_at c h) (Plain call) (Settled reply)
      → Sure v.locks h (IsLook g call reply)
  settled_look call reply sight = reading (IsLook g call reply) (λ image found reads. sight.1 image found.agrees.valid.geometry reads)

  module _ (f i d : ℕ) where
    pointer_named : (image : Image) → Finds v.locks h image → Reads g (kept_at c h) image → (shared : Bool)
        → HasBlock g (kept_at c h) f i (At d shared) → named (logical g image (Pointer f i)) ≡ Some d
    pointer_named image found reads shared block =
        ap named (reads (Pointer f i) (pointer_number (At d shared)) block.pointer.has block.pointer.says)
        ∙ at_named g d shared is.geometry block.pointer.inside

    head_read : (image : Image) → Reads g (kept_at c h) image → (p : Number) (block : HasBlock g (kept_at c h) f i p)
        → logical g image (Head f) ≡ block.length + 1
    head_read image reads p block = reads (Head f) (block.length + 1) block.pointer.has.0 block.head

    -- the data block that a pointer names may be read
    pub block_named : (shared : Bool) → may_read (host_at v.locks h) (File f) ≡ true → HasBlock g (kept_at c h) f i (At d shared)
        → MayName v h (Pointer f i) d
    block_named shared may block = (
      block.pointer.has,
      may,
      reading (λ image. share_of (Pointer f i) (logical g image (Pointer f i)) d ≡ 1) (λ image found reads.
          once (logical g image (Pointer f i)) d (pointer_named image found reads shared block)),
    )

    -- and what it shows is what the call reads
    pub block_shown : (shared : Bool) (block : Block) → HasBlock g (kept_at c h) f i (At d shared)
        → Knows v h (BlockIs (Pointer f i) d block.0) → Sure v.locks h (IsLook g (Read f i) (Holds block))
    block_shown shared block has known =
        sure_of v.locks h
        (λ image. (Finds v.locks h image × Reads g (kept_at c h) image) × (block_at g image (kinds.Number d) ≡ block.0))
        (IsLook g (Read f i) (Holds block))
        (λ image all.
        let names = pointer_named image all.0.0 all.0.1 shared has in
        look-read g image f i has.length block all.0.0.agrees.valid.geometry has.pointer.has.0 (head_read image all.0.1 (At d shared) has)
        has.below
        (sym (content-named g image (logical g image (Pointer f i)) d names
        ∙ ap (λ (xs : List ℕ). let b : Block = record { 0 = xs } in b) all.1)))
        (sure_and v.locks h (λ image. Finds v.locks h image × Reads g (kept_at c h) image)
        (λ image. block_at g image (kinds.Number d) ≡ block.0) (reading (λ image. Finds v.locks h image × Reads g (kept_at c h) image)
        (λ image found reads. (found, reads)))
        (sure_of v.locks h _ (λ image. block_at g image (kinds.Number d) ≡ block.0) (λ image tells. tells.1) known.sure))

    -- a block without the mark is written in place
    pub block_own : HasBlock g (kept_at c h) f i (At d false) → Sure v.locks h (IsOwnBlock g f i d)
    block_own has = reading (IsOwnBlock g f i d) (λ image found reads.
        let head = head_read image reads (At d false) has in
        let pointer = reads (Pointer f i) (pointer_number (At d false)) has.pointer.has has.pointer.says in record {
          inside = omega (arith, head, has.below);
          pointer = pointer ∙ omega arith;
        })

-- the reply of a call that leaves the volume is its place
pub place_settled : (v w : WorldView) (h : ℕ) (call : PlainCall) (reply : PlainReply) → Looks h v w
    → Sure v.locks h (IsLook v.locks.geometry call reply)
    → OnImages (Places v.locks.geometry (Some call) (Some reply)) (told_of v.locks) (told_of w.locks)
place_settled v w h call reply looks sure =
    subst (λ o. OnImages (Places v.locks.geometry (Some call) (Some reply)) (told_of v.locks) o) (sym (ap (λ s. s.told) looks.state))
    (each (told_of v.locks) (sure looks.registered))
  where
    each : (told : Option Told) → IfSome told (λ t. IsLook v.locks.geometry call reply t.image)
        → OnImages (Places v.locks.geometry (Some call) (Some reply)) told told
    each None look = tt
    each (Some t) look = placed-look v.locks.geometry t.image call reply look

-- the same by what is sure behind the call
pub place_settled_after : (v w : WorldView) (h : ℕ) (call : PlainCall) (reply : PlainReply) → Looks h v w
    → Sure w.locks h (IsLook w.locks.geometry call reply)
    → OnImages (Places v.locks.geometry (Some call) (Some reply)) (told_of v.locks) (told_of w.locks)
place_settled_after v w h call reply looks sure =
    place_settled v w h call reply looks (λ here.
    subst (λ (g : Geometry). IfSome (told_of v.locks) (λ t. IsLook g call reply t.image)) looks.geometry
    (subst (λ (s : State). IfSome s.told (λ t. IsLook w.locks.geometry call reply t.image)) looks.state
    (sure (subst (λ (m : HostState). Contains (keys_of w.locks) (key_of m)) (sym looks.memory)
    (subst (λ (s : State). Contains s.keys (key_at v.locks h)) (sym looks.state) here)))))
