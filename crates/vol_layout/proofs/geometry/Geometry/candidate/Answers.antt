use Rattle.std.proofs.Common.{◌≡◌, ◌<◌, ◌≤◌, ◌∙◌, ℕ, List, ap, arith}
use Rattle.vol_base.specs.Bytes.{u32_at}
use Rattle.vol_layout.specs.declared.geometry.Geometry.{Geometry}
use Rattle.vol_layout.specs.laws.SuperblockLaws.{superblock_reads_back}
use Rattle.vol_layout.proofs.geometry.Geometry.candidate.Goals as goal

-- a number that was read, and fits
fits : (bytes spelled : List ℕ) (at r n m : ℕ) → bytes ≡ spelled → u32_at spelled at ≡ m → m ≤ 64 → r ≡ u32_at bytes at
    → (r < 256 → n ≡ r) → n ≡ m
fits bytes spelled at r n m e reads small was narrow =
    let is : r ≡ m = was ∙ ap (λ (xs : List ℕ). u32_at xs at) e ∙ reads in
    narrow (omega arith) ∙ is

-- a geometry is its seven numbers
geometry : (h f g p s l t : ℕ) → Geometry
geometry h f g p s l t = record { hosts = h; files = f; groups = g; parts = p; shards = s; logs = l; tables = t }

alike : (a b : Geometry) → a.hosts ≡ b.hosts → a.files ≡ b.files → a.groups ≡ b.groups → a.parts ≡ b.parts → a.shards ≡ b.shards
    → a.logs ≡ b.logs → a.tables ≡ b.tables
    → geometry a.hosts a.files a.groups a.parts a.shards a.logs a.tables ≡ geometry b.hosts b.files b.groups b.parts b.shards b.logs b.tables
alike a b h f g p s l t = cc

same : (a b : Geometry) → a.hosts ≡ b.hosts → a.files ≡ b.files → a.groups ≡ b.groups → a.parts ≡ b.parts → a.shards ≡ b.shards
    → a.logs ≡ b.logs → a.tables ≡ b.tables → a ≡ b
unfolding geometry
same a b h f g p s l t = alike a b h f g p s l t

pub returns : goal.returns
returns c g h =
    let back = superblock_reads_back g h.0 in
    same _ _
    (fits _ _ 8 _ _ _ h.1 back.hosts (omega (arith, h.0)) c.u32_at.ensures.number c.narrow.ensures)
    (fits _ _ 12 _ _ _ h.1 back.files (omega (arith, h.0)) c.u32_at-2.ensures.number c.narrow-2.ensures)
    (fits _ _ 16 _ _ _ h.1 back.groups (omega (arith, h.0)) c.u32_at-3.ensures.number c.narrow-3.ensures)
    (fits _ _ 20 _ _ _ h.1 back.parts (omega (arith, h.0)) c.u32_at-4.ensures.number c.narrow-4.ensures)
    (fits _ _ 24 _ _ _ h.1 back.shards (omega (arith, h.0)) c.u32_at-5.ensures.number c.narrow-5.ensures)
    (fits _ _ 28 _ _ _ h.1 back.logs (omega (arith, h.0)) c.u32_at-6.ensures.number c.narrow-6.ensures)
    (c.tables_of.ensures g h)
