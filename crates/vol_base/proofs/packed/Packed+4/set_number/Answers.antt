use Rattle.std.proofs.Common.{ap, ◌∙◌, ℕ, List, [], refl, set}
use Rattle.std.proofs.lemmas.List.{map-set}
use Rattle.vol_base.specs.Bytes.{bytes_of, u32_at}
use Rattle.vol_base.specs.laws.BytesLaws.{number_at-last}
use Rattle.vol_base.specs.Packing.{numbers}
use Rattle.vol_base.proofs.packed.Packed+4.set_number.Goals as goal

pub returns-clause-value : goal.returns-clause-value
unfolding bytes_of
returns-clause-value c = rw c.write_u32.ensures at c.set.ensures

pub returns-clause-numbers : goal.returns-clause-numbers
returns-clause-numbers c =
    ap numbers (returns-clause-value c)
    ∙ map-set (λ (entry : List ℕ). u32_at entry 0) c.args.self.now.entries c.args.k (bytes_of 4 c.args.number)
    ∙ ap (set (numbers c.args.self.now) c.args.k) (number_at-last 4 c.args.number 0 [] refl c.ranges.number.fits)
