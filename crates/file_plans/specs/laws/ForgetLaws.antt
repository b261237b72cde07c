-- The forgetting of a file's kept tables, table block by table block; and what then is known of what is kept.
use Rattle.std.proofs.Common.{◌≡◌, ◌<◌, ◌≤◌, ◌+◌, ℕ, None, ap, sym, subst, ◌∙◌, arith, inl, inr}
use Rattle.std.proofs.lemmas.Bool.{cases_lt}
use Rattle.vol_layout.specs.declared.geometry.Geometry.{Geometry}
use Rattle.vol_layout.specs.declared.kind.Resource.TheVariants.{File}
use Rattle.vol_layout.specs.declared.kind.Table.{Table}
use Rattle.vol_layout.specs.declared.kind.Table.TheVariants as tables
use Rattle.disk_locks.specs.Keys.{owner}
use Rattle.held_cache.specs.Kept.{Cache, CanKeep, ChangesOnly, IsFileTable, kept_at}
use Rattle.file_plans.specs.Forgets.{ForgetsFile, ForgetsFirst}
use Rattle.file_plans.specs.Went.{LeavesOthers}

-- the first table block was forgotten
pub forgets_first : (old new : Cache) (h f : ℕ) → ChangesOnly old new h (tables.File f) None → ForgetsFirst old new h f 1
forgets_first old new h f keeps = record {
  volume = keeps.volume;
  first = keeps.changed;
  forgotten = λ t after before below. absurd (omega (arith, after, before));
  others = λ x t can other. keeps.others x t can (λ same here. other same (ap owner here));
}

-- one more was
pub forgets_next : (old mid new : Cache) (h f k : ℕ) → h < old.volume.hosts → f < old.volume.files → 1 ≤ k → k < old.volume.tables
    → ForgetsFirst old mid h f k → ChangesOnly mid new h (tables.More f k) None → ForgetsFirst old new h f (k + 1)
forgets_next old mid new h f k host file some below was keeps = record {
  volume = keeps.volume ∙ was.volume;
  first = keeps.others h (tables.File f) (can (tables.File f) file) (λ same here. cc) ∙ was.first;
  forgotten = λ t after before inside. elim (cases_lt t k) [
    | inl earlier ↦
        keeps.others h (tables.More f t) (can (tables.More f t) (file, after, inside)) (λ same here.
        let one : t ≡ k = cc in absurd (omega (arith, one, earlier)))
        ∙ was.forgotten t after earlier inside
    | inr later ↦
        let one : t ≡ k = omega (arith, later, before) in
        ap (λ (n : ℕ). kept_at new h (tables.More f n)) one ∙ keeps.changed
  ];
  others = λ x t can' other.
      keeps.others x t (subst (λ (g : Geometry). CanKeep g x t) (sym was.volume) can') (λ same here. other same (ap owner here))
      ∙ was.others x t can' other;
}
  where
    can : (t : Table) → IsFileTable old.volume t → CanKeep mid.volume h t
    can t is = subst (λ (g : Geometry). CanKeep g h t) (sym was.volume) (host, is)

-- all were
pub forgets_all : (old new : Cache) (h f n : ℕ) → old.volume.tables ≤ n → ForgetsFirst old new h f n → ForgetsFile old new h f
forgets_all old new h f n over was = record { volume = was.volume; forgotten = forgotten; others = was.others }
  where
    forgotten : (t : Table) → IsFileTable old.volume t → owner t ≡ File f → kept_at new h t ≡ None
    forgotten (tables.File e) is own = ap (λ (k : ℕ). kept_at new h (tables.File k)) (let same : e ≡ f = cc in same) ∙ was.first
    forgotten (tables.More e u) is own =
        ap (λ (k : ℕ). kept_at new h (tables.More k u)) (let same : e ≡ f = cc in same)
        ∙ was.forgotten u is.1 (omega (arith, is.2, over)) is.2
    forgotten (tables.Group r) is own = absurd is
    forgotten (tables.Part p) is own = absurd is

-- what is kept for others stays
pub forgets_leaves : (old new : Cache) (h f : ℕ) → ForgetsFile old new h f → LeavesOthers h old new
forgets_leaves old new h f is = record { volume = is.volume; others = λ x t can other. is.others x t can (λ same own. other same) }
