-- The lines of a workload that are read one after the other.
use Rattle.std.proofs.Common.{◌≡◌, ◌+◌, ℕ, List, [], ◌∷◌, ◌++◌, Result, Ok, Err, refl, sym, ap, ◌∙◌, arith, append-nil, append_assoc}
use Rattle.vol_layout.specs.declared.geometry.Geometry.{Geometry}
use Rattle.workload.specs.declared.cause.WorkloadNo.{WorkloadNo}
use Rattle.workload.specs.declared.entry.Entry.{Entry}
use Rattle.workload.specs.declared.entry.Entry.TheVariants.{Barrier, Order}
use Rattle.workload.specs.declared.line.Line.{Line}
use Rattle.workload.specs.declared.line.Workload.{Workload}
use Rattle.workload.specs.Checks.{◌>>=◌}
use Rattle.workload.specs.Entries.{entry_of}
use Rattle.workload.specs.Grammar.{Refusal, barriers, commands_in, entries_of, line_of, numbered, phase_behind, workload_behind, workload_with}

-- the workload of the lines so far, and of the entries behind them
abbrev pub gathered_with : Geometry → List Line → ℕ → ℕ → List Entry → Workload
gathered_with g lines at phase entries =
    record { geometry = g; lines = lines ++ numbered at phase entries; phases = barriers entries + phase + 1 }

abbrev pub gathered : Geometry → List Line → ℕ → ℕ → Result (List Entry) Refusal → Result Workload Refusal
gathered g lines at phase read = read >>= λ entries. Ok (gathered_with g lines at phase entries)

workload_is : (g : Geometry) (lines more : List Line) (m n : ℕ) → lines ≡ more → m ≡ n
    → ◌≡◌ {A = Result Workload Refusal} (Ok (record { geometry = g; lines = lines; phases = m })) (Ok (record { geometry = g; lines = more; phases = n }))
workload_is g lines more m n e f = ap (λ (ls : List Line). let w : Workload = record { geometry = g; lines = ls; phases = m } in Ok w) e ∙ ap (λ (k : ℕ). let w : Workload = record { geometry = g; lines = more; phases = k } in Ok w) f

-- at the start nothing is gathered
pub gathered-begin : (g : Geometry) (lines : List (List ℕ)) → gathered g [] 2 0 (entries_of g 2 0 lines) ≡ workload_behind g lines
unfolding workload_behind
gathered-begin g lines = begun g (entries_of g 2 0 lines)
  where
    begun : (g : Geometry) (read : Result (List Entry) Refusal) → gathered g [] 2 0 read ≡ (read >>= λ entries. Ok (workload_with g entries))
    begun g (Ok entries) = workload_is g _ _ _ _ refl (omega arith)
    begun g (Err refusal) = refl

-- a line that says nothing refuses the text
pub gathered-fault : (g : Geometry) (done : List Line) (at phase before : ℕ) (line : List ℕ) (lines : List (List ℕ)) (cause : WorkloadNo)
    → entry_of g before line ≡ Err cause → gathered g done at phase (entries_of g at before (line ∷ lines)) ≡ Err (at, cause)
unfolding entries_of
gathered-fault g done at phase before line lines cause e = rw e refl

-- an entry is added
entry_behind : (g : Geometry) (done : List Line) (at phase : ℕ) (entry : Entry) (read : Result (List Entry) Refusal)
    → gathered g done at phase (read >>= λ entries. Ok (entry ∷ entries)) ≡ gathered g (done ++ line_of at phase entry) (at + 1) (phase_behind phase entry) read
unfolding numbered barriers
entry_behind g done at phase Barrier (Ok entries) = workload_is g _ _ _ _ (ap (λ (ls : List Line). ls ++ numbered (at + 1) (phase + 1) entries) (sym (append-nil done))) (omega arith)
entry_behind g done at phase (Order host command) (Ok entries) = workload_is g _ _ _ _ (sym (append_assoc done _ _)) refl
entry_behind g done at phase entry (Err refusal) = refl

pub gathered-more : (g : Geometry) (done : List Line) (at phase before : ℕ) (line : List ℕ) (lines : List (List ℕ)) (entry : Entry)
    → entry_of g before line ≡ Ok entry
    → gathered g done at phase (entries_of g at before (line ∷ lines))
    ≡ gathered g (done ++ line_of at phase entry) (at + 1) (phase_behind phase entry) (entries_of g (at + 1) (before + commands_in entry) lines)
unfolding entries_of
gathered-more g done at phase before line lines entry e = rw e (entry_behind g done at phase entry (entries_of g (at + 1) (before + commands_in entry) lines))

-- no line is left
pub gathered-end : (g : Geometry) (done : List Line) (at phase before : ℕ)
    → gathered g done at phase (entries_of g at before []) ≡ Ok (record { geometry = g; lines = done; phases = phase + 1 })
unfolding entries_of numbered barriers
gathered-end g done at phase before = workload_is g _ _ _ _ (append-nil done) (omega arith)
