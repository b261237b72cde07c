use Rattle.std.proofs.Common.{None, ap, sym, ◌∙◌, arith, set, Option, List}
use Rattle.vol_base.specs.Packing.{Packing}
use Rattle.held_cache.proofs.StoreLaws.{read-position, stored-none, stored-put}
use Rattle.held_cache.proofs.store.TableStore.clear.Goals as goal

pub index_mut-requires : goal.index_mut-requires
index_mut-requires c =
    let s = c.self.inside in
    let at = read-position s.positions.items s.tables.items c.args.self.now c.args.place c.index.result.now c.self.view_is c.requires c.index.ensures in
    omega (arith, s.tables.ok.0, c.self.invariant.inside c.args.place c.in-Some.position (at.1 ∙ c.in-Some.is))

pub returns-in-Some : goal.returns-in-Some
returns-in-Some c =
    let s = c.self.inside in
    let at = read-position s.positions.items s.tables.items c.args.self.now c.args.place c.index.result.now c.self.view_is c.requires c.index.ensures in
    stored-put s.positions.items s.tables.items _ c.args.place c.in-Some.position None c.self.invariant (at.1 ∙ c.in-Some.is)
    ∙ ap (λ (all : List (Option Packing)). set all c.args.place None) c.self.view_is

pub returns-in_default : goal.returns-in_default
returns-in_default c =
    let s = c.self.inside in
    let at = read-position s.positions.items s.tables.items c.args.self.now c.args.place c.index.result.now c.self.view_is c.requires c.index.ensures in
    sym c.self.view_is
    ∙ stored-none s.positions.items s.tables.items c.args.place (at.1 ∙ c.in_default.is)
    ∙ ap (λ (all : List (Option Packing)). set all c.args.place None) c.self.view_is
