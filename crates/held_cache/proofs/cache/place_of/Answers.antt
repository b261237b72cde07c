use Rattle.std.proofs.Common.{◌≡◌, ◌<◌, ◌+◌, ◌*◌, ℕ, subst, sym}
use Rattle.held_cache.specs.Kept.{place_of, places_of}
use Rattle.held_cache.proofs.PlaceLaws.{place-within}
use Rattle.held_cache.proofs.cache.place_of.Goals as goal

pub returns-clause-within : goal.returns-clause-within
returns-clause-within c =
    let g = c.args.volume.now in
    let is : c.from.result * c.file_tables.result + c.number_of.result ≡ place_of g c.args.host c.args.which = cc in
    subst (λ (n : ℕ). n < places_of g) (sym is) (place-within g c.requires.geometry c.args.host c.args.which (c.requires.host, c.requires.table))
