-- Memories in which one resource is held, read, or no more so.
use Rattle.std.proofs.Common.{◌≡◌, ◌≢◌, ◌<◌, ◌≤◌, ◌/◌, ◌%◌, ℕ, Bool, Option, Some, None, IsNone, IfSome, ◌↔◌, is_some, length, true, false, refl, sym, ap, ◌∙◌, subst, arith, inl}
use Rattle.std.proofs.lemmas.List.{get_or-set_same, get_or-set_other, length-set}
use Rattle.vol_layout.specs.declared.geometry.Geometry.{Geometry}
use Rattle.vol_layout.specs.declared.kind.Resource.{Resource}
use Rattle.vol_layout.specs.declared.kind.Resource.TheVariants.{File, Group, Part}
use Rattle.vol_layout.specs.Ranges.{HasResource, IsGeometry}
use Rattle.lock_store.specs.declared.host.HostState.{HostState}
use Rattle.vol_base.specs.declared.block.Key.{Key}
use Rattle.slot_lock_blocks.specs.Keys.{IsKeyOf}
use Rattle.slot_lock_blocks.specs.ReaderKeys.{key_number}
use Rattle.lock_store.specs.Memories.{holds, index_of, key_of, reads, with_hold, with_read, writing}
use Rattle.disk_locks.specs.Memories.{IsMemory}
use Rattle.disk_locks.specs.SameElse.{SameElse}
use Rattle.disk_locks.proofs.Called.{moves_same}
use Rattle.disk_locks.proofs.Steps.{Moves}

-- the numbers of resources are apart, and below 144
pub index_small : (g : Geometry) (r : Resource) → IsGeometry g → HasResource g r → index_of r < 144
index_small g (File f) range has = omega (arith, range.files.1, has)
index_small g (Part p) range has = omega (arith, range.parts.1, has)
index_small g (Group r) range has = omega (arith, range.groups.1, has)

index_apart : (g : Geometry) (q r : Resource) → IsGeometry g → HasResource g q → HasResource g r → index_of q ≡ index_of r → q ≡ r
index_apart g (File f) (File f') range a b e = ap (λ n. File n) e
index_apart g (File f) (Part p) range a b e = absurd (omega (arith, range.files.1, a, e))
index_apart g (File f) (Group r) range a b e = absurd (omega (arith, range.files.1, a, e))
index_apart g (Part p) (File f) range a b e = absurd (omega (arith, range.files.1, b, e))
index_apart g (Part p) (Part p') range a b e = ap (λ n. Part n) (omega (arith, e))
index_apart g (Part p) (Group r) range a b e = absurd (omega (arith, range.parts.1, a, e))
index_apart g (Group r) (File f) range a b e = absurd (omega (arith, range.files.1, b, e))
index_apart g (Group r) (Part p) range a b e = absurd (omega (arith, range.parts.1, b, e))
index_apart g (Group r) (Group r') range a b e = ap (λ n. Group n) (omega (arith, e))

pub clash : (b : Bool) → b ≡ true → b ≡ false → ⊥
clash b yes_ no_ = let e : true ≡ false = sym yes_ ∙ no_ in cc

-- the key of a memory in order
pub key_none : (hosts counter h : ℕ) (m : HostState) → IsMemory hosts counter h m → IsNone m.key ↔ (key_of m ≡ 0)
key_none hosts counter h m is = (λ none. keyless m.key none, λ zero_key. ap is_some (is.none zero_key))
  where
    keyless : (k : Option Key) → IsNone k → key_number k ≡ 0
    keyless None none = refl
    keyless (Some key) none = absurd (let bad : ⊥ = cc in bad)

pub key_host : (hosts counter h : ℕ) (m : HostState) → IsMemory hosts counter h m → IfSome m.key (λ key. IsKeyOf h key.0)
key_host hosts counter h m is = each m.key (λ key has. (λ none. nothing key (sym has ∙ is.none (ap key_number has ∙ none)), ap (λ n. n % 16) (sym (ap key_number has)) ∙ (is.named (λ none. nothing key (sym has ∙ is.none none))).1))
  where
    nothing : (key : Key) → (let some : Option Key = Some key in some ≡ None) → ⊥
    nothing key e = cc

    each : (k : Option Key) → ((key : Key) → k ≡ Some key → IsKeyOf h key.0) → IfSome k (λ key. IsKeyOf h key.0)
    each None f = tt
    each (Some key) f = f key refl

-- a memory that differs at one resource, of a joined host
pub record Renoted (g : Geometry) (hosts counter h : ℕ) (r : Resource) (m n : HostState) : Type 0 where
  pub same : SameElse g r m n
  pub memory : IsMemory hosts counter h n
  pub moves : Moves counter m n

renoted : (g : Geometry) (hosts counter h : ℕ) (r : Resource) (m n : HostState) → IsMemory hosts counter h m → m.joined ≡ true → SameElse g r m n
    → length n.held ≡ 144 → length n.reading ≡ 64 → length n.claims ≡ 16 → Renoted g hosts counter h r m n
renoted g hosts counter h r m n is joined same held reading claims =
    let stays : n.joined ≡ true = same.joined ∙ joined in
    record {
      same = same;
      memory = record {
        held = held;
        reading = reading;
        claims = claims;
        named = λ some. subst (λ k. (h < hosts) × (k % 16 ≡ h) × (k / 16 ≤ counter)) (sym same.key) (is.named (λ none. some (same.key ∙ none)));
        none = λ e. absurd (clash m.joined joined (is.keyless (sym same.key ∙ e)));
        keyless = λ e. same.joined ∙ is.keyless (sym same.key ∙ e);
        unclaimed = λ e y. same.claims_same y ∙ is.unclaimed (sym same.key ∙ e) y;
        out = λ out. absurd (clash n.joined stays out);
        own = λ j. same.claims_same h ∙ is.own joined;
        gone = λ gone. same.joined ∙ is.gone (sym same.freed ∙ gone);
      };
      moves = moves_same counter m n same.key (λ e. inl stays) (λ e. same.freed ∙ e);
    }

module _ (g : Geometry) (hosts counter h : ℕ) (m : HostState) (range : IsGeometry g) (is : IsMemory hosts counter h m) (joined : m.joined ≡ true) where
  -- a resource is held, or no more so
  pub hold_renoted : (r : Resource) (b : Bool) → HasResource g r → Renoted g hosts counter h r m (with_hold r b m)
  hold_renoted r b has = renoted g hosts counter h r m (with_hold r b m) is joined (record {
    key = refl;
    beat = refl;
    joined = refl;
    freed = refl;
    holds_same = λ q has' ne. get_or-set_other m.held (index_of r) (index_of q) b false (λ e. ne (index_apart g q r range has' has e));
    reads_same = λ q has' ne. refl;
    claims_same = λ y. refl;
  }) (length-set m.held (index_of r) b ∙ is.held) is.reading is.claims

  pub hold_is : (r : Resource) (b : Bool) → HasResource g r → holds (with_hold r b m) r ≡ b
  hold_is r b has = get_or-set_same m.held (index_of r) b false (let small = index_small g r range has in omega (arith, small, is.held))

  -- a file is read, or no more so
  read_other : (f : ℕ) (b : Bool) (q : Resource) → q ≢ File f → reads (with_read f b m) q ≡ reads m q
  read_other f b (File e) ne = get_or-set_other m.reading f e b false (λ same. ne (ap (λ n. File n) same))
  read_other f b (Part p) ne = refl
  read_other f b (Group r) ne = refl

  pub read_renoted : (f : ℕ) (b : Bool) → f < g.files → Renoted g hosts counter h (File f) m (with_read f b m)
  read_renoted f b has = renoted g hosts counter h (File f) m (with_read f b m) is joined (record {
    key = refl;
    beat = refl;
    joined = refl;
    freed = refl;
    holds_same = λ q has' ne. refl;
    reads_same = λ q has' ne. read_other f b q ne;
    claims_same = λ y. refl;
  }) is.held (length-set m.reading f b ∙ is.reading) is.claims

  pub read_is : (f : ℕ) (b : Bool) → f < g.files → reads (with_read f b m) (File f) ≡ b
  read_is f b has = get_or-set_same m.reading f b false (omega (arith, has, range.files.1, is.reading))

  -- a file that was read is held
  pub writing_renoted : (f : ℕ) → f < g.files → Renoted g hosts counter h (File f) m (writing f m)
  writing_renoted f has = renoted g hosts counter h (File f) m (writing f m) is joined (record {
    key = refl;
    beat = refl;
    joined = refl;
    freed = refl;
    holds_same = λ q has' ne. get_or-set_other m.held f (index_of q) true false (λ e. ne (index_apart g q (File f) range has' has e));
    reads_same = λ q has' ne. read_other f false q ne;
    claims_same = λ y. refl;
  }) (length-set m.held f true ∙ is.held) (length-set m.reading f false ∙ is.reading) is.claims
