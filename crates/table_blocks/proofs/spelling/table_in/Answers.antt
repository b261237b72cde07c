use Rattle.std.proofs.Common.{sym, subst, List, ℕ}
use Rattle.std.proofs.lemmas.Option.{IfSome_then}
use Rattle.vol_base.specs.Packing.{IsPacked}
use Rattle.table_blocks.proofs.SpelledLaws.{has_magic, some_is_not_none, table_read}
use Rattle.table_blocks.proofs.spelling.table_in.Goals as goal

pub returns-then-is_of_kind-clause-packing : goal.returns-then-is_of_kind-clause-packing
returns-then-is_of_kind-clause-packing c =
    IfSome_then c.of.result c.of.ensures.value
    (λ p reads. (table_read c.args.geometry.now c.args.which c.args.block.0 p (c.is_of_kind.ensures.0 c.if-is_of_kind.true) reads).0)

pub returns-then-is_of_kind-clause-spelled : goal.returns-then-is_of_kind-clause-spelled
returns-then-is_of_kind-clause-spelled c =
    IfSome_then c.of.result c.of.ensures.value
    (λ p reads. (table_read c.args.geometry.now c.args.which c.args.block.0 p (c.is_of_kind.ensures.0 c.if-is_of_kind.true) reads).1)

pub returns-then-is_of_kind-clause-none : goal.returns-then-is_of_kind-clause-none
returns-then-is_of_kind-clause-none c none is =
    some_is_not_none c.of.result
    (c.of.ensures.packed.1 (subst (λ (m : List ℕ). IsPacked 4 m c.args.block.0) (sym c.magic.ensures) (has_magic c.args.which c.args.block.0 is.0)))
    none
