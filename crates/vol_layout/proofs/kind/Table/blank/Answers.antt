use Rattle.std.proofs.Common.{◌≡◌, ◌-◌, ◌++◌, ◌∙◌, List, length, ap, refl, sym, arith, length-append}
use Rattle.std.specs.Prelude.{ℕ}
use Rattle.vol_base.specs.Bytes.{bytes_of, zeros}
use Rattle.vol_base.specs.laws.BytesLaws.{length-bytes_of}
use Rattle.vol_layout.specs.declared.kind.Table.{Table}
use Rattle.vol_layout.specs.declared.kind.Table.TheVariants as tables
use Rattle.vol_layout.specs.Blank.{blank_table, table_magic}
use Rattle.vol_layout.specs.laws.BlankLaws.{blank_table-is}
use Rattle.vol_layout.proofs.kind.Table.blank.Goals as goal

-- a magic has eight bytes
eight : (t : Table) → length (table_magic t) ≡ 8
eight (tables.File f) = refl
eight (tables.More f m) = refl
eight (tables.Group r) = refl
eight (tables.Part p) = refl

-- the zeros behind the count
padded : (t : Table) (draft : List ℕ) → length (table_magic t) ≡ 8 → draft ≡ table_magic t ++ bytes_of 4 1008
    → draft ++ zeros (4096 - length draft) ≡ blank_table t
padded t draft eight e =
    let long : length draft ≡ 12 = rw e (length-append (table_magic t) (bytes_of 4 1008) ∙ omega (arith, length-bytes_of 4 1008)) in
    let left : 4096 - length draft ≡ 4084 = omega arith in
    rw (left, e) (sym (blank_table-is t))

pub returns : goal.returns
returns c =
    let front : c.push_bytes.new.self ≡ table_magic c.args.self.now = rw (c.push_bytes.ensures.value, c.new-draft.ensures, c.magic.ensures) refl in
    c.finish.ensures.bytes
    ∙ padded _ _ (eight _) (c.push_u32.ensures.value ∙ ap (λ (xs : List ℕ). xs ++ bytes_of 4 1008) front)
