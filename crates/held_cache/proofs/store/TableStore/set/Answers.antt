use Rattle.std.proofs.Common.{Some, ap, ◌∙◌, arith, set, Option, List}
use Rattle.vol_base.specs.Packing.{Packing}
use Rattle.held_cache.proofs.StoreLaws.{kept-pushed, read-position, room-push, stored-put, stored-pushed}
use Rattle.held_cache.proofs.store.TableStore.set.Goals as goal

pub index_mut-requires : goal.index_mut-requires
index_mut-requires c =
    let s = c.self.inside in
    let at = read-position s.positions.items s.tables.items c.args.self.now c.args.place c.index.result.now c.self.view_is c.requires c.index.ensures in
    omega (arith, s.tables.ok.0, c.self.invariant.inside c.args.place c.in-Some.position (at.1 ∙ c.in-Some.is))

pub returns-in-Some : goal.returns-in-Some
returns-in-Some c =
    let s = c.self.inside in
    let at = read-position s.positions.items s.tables.items c.args.self.now c.args.place c.index.result.now c.self.view_is c.requires c.index.ensures in
    stored-put s.positions.items s.tables.items _ c.args.place c.in-Some.position (Some c.args.table) c.self.invariant (at.1 ∙ c.in-Some.is)
    ∙ ap (λ (all : List (Option Packing)). set all c.args.place (Some c.args.table)) c.self.view_is

pub push_reserved-requires : goal.push_reserved-requires
push_reserved-requires c =
    let s = c.self.inside in
    let at = read-position s.positions.items s.tables.items c.args.self.now c.args.place c.index.result.now c.self.view_is c.requires c.index.ensures in
    omega (arith, s.tables.ok.0, room-push s.positions.items s.tables.items _ c.args.place c.self.invariant at.0 (at.1 ∙ c.in-None.is))

pub invariant_of-self-in-None : goal.invariant_of-self-in-None
invariant_of-self-in-None c =
    let s = c.self.inside in
    let at = read-position s.positions.items s.tables.items c.args.self.now c.args.place c.index.result.now c.self.view_is c.requires c.index.ensures in
    kept-pushed s.positions.items s.tables.items _ _ _ c.args.place c.len.result (Some c.args.table) (c.len.ensures ∙ s.tables.ok.0) c.push_reserved.ensures.items c.push_reserved.ensures.capacity c.self.invariant at.0 (at.1 ∙ c.in-None.is)

pub returns-in-None : goal.returns-in-None
returns-in-None c =
    let s = c.self.inside in
    let at = read-position s.positions.items s.tables.items c.args.self.now c.args.place c.index.result.now c.self.view_is c.requires c.index.ensures in
    stored-pushed s.positions.items s.tables.items _ _ _ c.args.place c.len.result (Some c.args.table) (c.len.ensures ∙ s.tables.ok.0) c.push_reserved.ensures.items c.self.view_is c.self.invariant at.0
