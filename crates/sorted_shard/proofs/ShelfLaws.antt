-- Entries that are added one after the other.
use Rattle.std.proofs.Common.{◌≡◌, ℕ, List, ◌++◌, ap, append_assoc, arith, length-append, subst, sym, ◌∙◌}
use Rattle.std.proofs.lemmas.List.Elements.{filter-append}
use Rattle.std.specs.Str.{bytes_eq}
use Rattle.hint_blocks.specs.declared.entry.IndexEntry.{IndexEntry}
use Rattle.sorted_shard.specs.Shelves.{Gains, IsSortedFrom, ShelfList, digest_of, with_digest}

with_digest-append : (digest : List ℕ) (xs ys : List IndexEntry)
    → with_digest digest (xs ++ ys) ≡ with_digest digest xs ++ with_digest digest ys
with_digest-append digest xs ys = filter-append (λ e. bytes_eq (digest_of e) digest) xs ys

-- what is sorted from a list and then from more is sorted from both
pub IsSortedFrom-append : (xs sorted ys more : List IndexEntry) → IsSortedFrom xs sorted → IsSortedFrom (sorted ++ ys) more
    → IsSortedFrom (xs ++ ys) more
IsSortedFrom-append xs sorted ys more first then = record {
  sorted = then.sorted;
  stable = λ digest. then.stable digest
      ∙ with_digest-append digest sorted ys
      ∙ ap (λ (zs : List IndexEntry). zs ++ with_digest digest ys) (first.stable digest)
      ∙ sym (with_digest-append digest xs ys);
}

pub Gains-append : (a b c : ShelfList) (xs ys : List IndexEntry) → Gains a b xs → Gains b c ys → Gains a c (xs ++ ys)
Gains-append a b c xs ys first then = record {
  geometry = then.geometry ∙ first.geometry;
  blocks = then.blocks ∙ first.blocks;
  long = omega (arith, then.long, first.long, length-append xs ys);
  entries = subst (λ (zs : List IndexEntry). IsSortedFrom zs c.entries) (append_assoc a.entries xs ys) (IsSortedFrom-append (a.entries ++ xs) b.entries ys c.entries first.entries then.entries);
}
