use Rattle.std.proofs.Common.{◌≡◌, ◌<◌, ◌+◌, ◌*◌, ℕ, ap, ◌∙◌, sym, subst}
use Rattle.vol_layout.specs.Sizes.{file_tables}
use Rattle.held_cache.specs.Kept.{Cache}
use Rattle.held_cache.proofs.PlaceLaws.{forgot, host-within}
use Rattle.held_cache.proofs.cache.HeldCache.forget_host.Goals as goal

pub clear_range-requires-clause-within : goal.clear_range-requires-clause-within
clear_range-requires-clause-within c =
    let g = c.self.inside.volume in
    let same : c.args.self.now.volume.hosts ≡ g.hosts = sym (ap (λ (cache : Cache). cache.volume.hosts) c.self.view_is) in
    let host : c.args.host < g.hosts = subst (λ (n : ℕ). c.args.host < n) same c.requires in
    host-within g c.args.host c.from.result c.file_tables-each.result _ c.from.ensures c.file_tables-each.ensures.tables c.self.invariant.1 host

pub returns : goal.returns
returns c =
    let s = c.self.inside in
    let host = c.args.host in
    let each = c.file_tables-each.ensures.tables in
    let first : c.from.result * c.file_tables-each.result ≡ host * file_tables s.volume =
    ap (λ (n : ℕ). n * c.file_tables-each.result) c.from.ensures ∙ ap (λ (n : ℕ). host * n) each in
    let end : c.from.result * c.file_tables-each.result + c.file_tables-each.result ≡ host * file_tables s.volume + file_tables s.volume =
    ap (λ (n : ℕ). n + c.file_tables-each.result) first ∙ ap (λ (n : ℕ). host * file_tables s.volume + n) each in
    forgot c.args.self.now s.volume s.tables c.clear_range.new.self host _ _ c.self.view_is c.clear_range.ensures first end c.self.invariant.0
