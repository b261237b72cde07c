-- The test of a geometry's ranges.
use Rattle.std.proofs.Common.{◌≡◌, ◌≤◌, ◌&&◌, ◌↔◌, ℕ, Bool, true, false, refl}
use Rattle.std.specs.Prelude.{nat_le}
use Rattle.std.proofs.lemmas.Bool.{le-leb, leb-true}
use Rattle.vol_layout.specs.declared.geometry.Geometry.{Geometry}
use Rattle.vol_layout.specs.Ranges.{IsGeometry, is_count, is_geometry}

-- two tests that both pass
both : (a b : Bool) → (a && b) ≡ true → (a ≡ true) × (b ≡ true)
both true true e = (refl, refl)
both true false e = absurd cc
both false b e = absurd cc

counted : (most n : ℕ) → is_count most n ≡ true → (1 ≤ n) × (n ≤ most)
counted most n e = let t = both (nat_le 1 n) (nat_le n most) e in (leb-true 1 n t.0, leb-true n most t.1)

counts : (most n : ℕ) → (1 ≤ n) × (n ≤ most) → is_count most n ≡ true
counts most n h = rw (le-leb 1 n h.0, le-leb n most h.1) refl

in_range : (g : Geometry) → is_geometry g ≡ true → IsGeometry g
in_range g e =
    let h = is_count 16 g.hosts in
    let f = is_count 64 g.files in
    let r = is_count 64 g.groups in
    let p = is_count 16 g.parts in
    let s = is_count 64 g.shards in
    let l = is_count 16 g.logs in
    let seven = both (h && f && r && p && s && l) (is_count 16 g.tables) e in
    let six = both (h && f && r && p && s) l seven.0 in
    let five = both (h && f && r && p) s six.0 in
    let four = both (h && f && r) p five.0 in
    let three = both (h && f) r four.0 in
    let two = both h f three.0 in
    record {
      hosts = counted 16 g.hosts two.0;
      files = counted 64 g.files two.1;
      groups = counted 64 g.groups three.1;
      parts = counted 16 g.parts four.1;
      shards = counted 64 g.shards five.1;
      logs = counted 16 g.logs six.1;
      tables = counted 16 g.tables seven.1;
    }

-- a geometry passes the test exactly where each of its numbers is in its range
pub is_geometry-IsGeometry : (g : Geometry) → (is_geometry g ≡ true) ↔ IsGeometry g
is_geometry-IsGeometry g = (
  in_range g,
  λ h.
      rw (
        counts 16 g.hosts h.hosts,
        counts 64 g.files h.files,
        counts 64 g.groups h.groups,
        counts 16 g.parts h.parts,
        counts 64 g.shards h.shards,
        counts 16 g.logs h.logs,
        counts 16 g.tables h.tables,
      ) refl,
)
