use Rattle.std.proofs.Common.{◌≡◌, ◌≢◌, ◌∙◌, ℕ, List, take, ap, sym, arith}
use Rattle.vol_base.specs.Bytes.{u32_at}
use Rattle.vol_layout.specs.laws.SuperblockLaws.{single_magic, many_magic, superblock-tables}
use Rattle.vol_layout.proofs.superblock.tables_of.Goals as goal

pub returns-then-is_single : goal.returns-then-is_single
returns-then-is_single c g h = sym (single_magic g (ap (take 8) (sym h.1) ∙ c.is_single.ensures.0 c.if-is_single.true))

pub returns-else-is_single : goal.returns-else-is_single
returns-else-is_single c g h =
    let many : g.tables ≢ 1 = many_magic g (λ e. let there = c.is_single.ensures.1 (ap (take 8) h.1 ∙ e) in let not = c.if-is_single.false in cc (there, not)) in
    let is : c.u32_at.result ≡ g.tables = c.u32_at.ensures.number ∙ ap (λ (xs : List ℕ). u32_at xs 32) h.1 ∙ superblock-tables g h.0 many in
    c.narrow.ensures (omega (arith, h.0)) ∙ is
