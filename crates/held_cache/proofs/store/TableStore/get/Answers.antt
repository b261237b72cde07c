use Rattle.std.proofs.Common.{None, ap, sym, ◌<◌, ◌∙◌, arith, get_or, length, Option, List}
use Rattle.std.proofs.lemmas.List.{get_or_read}
use Rattle.vol_base.specs.Packing.{Packing}
use Rattle.held_cache.specs.Stored.{table_at}
use Rattle.held_cache.proofs.StoreLaws.{read-position, stored-at}
use Rattle.held_cache.proofs.store.TableStore.get.Goals as goal

pub index-requires-in-Some : goal.index-requires-in-Some
index-requires-in-Some c =
    let s = c.self.inside in
    let at = read-position s.positions.items s.tables.items c.args.self.now c.args.place c.index.result.now c.self.view_is c.requires c.index.ensures in
    omega (arith, s.tables.ok.0, c.self.invariant.inside c.args.place c.in-Some.position (at.1 ∙ c.in-Some.is))

pub returns-in-Some : goal.returns-in-Some
returns-in-Some c =
    let s = c.self.inside in
    let at = read-position s.positions.items s.tables.items c.args.self.now c.args.place c.index.result.now c.self.view_is c.requires c.index.ensures in
    let within : c.in-Some.position < length s.tables.items = c.self.invariant.inside c.args.place c.in-Some.position (at.1 ∙ c.in-Some.is) in
    c.as_ref.ensures.value
    ∙ get_or_read s.tables.items c.in-Some.position c.index-in-Some.result.now within c.index-in-Some.ensures None
    ∙ sym (ap (table_at s.tables.items) (at.1 ∙ c.in-Some.is))
    ∙ sym (stored-at s.positions.items s.tables.items c.args.place)
    ∙ ap (λ (all : List (Option Packing)). get_or all c.args.place None) c.self.view_is
