use Rattle.std.proofs.Common.{◌≡◌, ◌+◌, ◌≤◌, ◌↔◌, ◌++◌, ℕ, List, Option, length, length-append, length-take, take, arith, refl}
use Rattle.std.proofs.lemmas.Result.{err_from_is_err_and}
use Rattle.std.specs.Io.KnownBytes.{Consumes}
use Rattle.std.proofs.KnownBytes.{Consumes-trans}
use Rattle.vol_io.specs.Reads.{ReadsFront}
use Rattle.vol_io.specs.declared.reading.ReadNo.{ReadNo}
use Rattle.vol_io.specs.declared.reading.ReadNo.TheVariants.{Long, NoMemory}
use Rattle.vol_io.proofs.reading.read_all.Goals as goal

-- two parts that were taken one after the other are a front
joined : (limit : ℕ) (a b c : Option (List ℕ)) (xs ys : List ℕ) (answer : ReadNo) → Consumes a b xs → Consumes b c ys
    → length xs + length ys ≤ limit + 1 → (answer ≡ Long) ↔ (length xs + length ys ≡ limit + 1) → ReadsFront limit a c answer
joined limit a b c xs ys answer first second bounded long = record {
  front = xs ++ ys;
  consumed = Consumes-trans a b c xs ys first second;
  bounded = rw length-append bounded;
  long = rw length-append long;
}

pub returns-then-count-room-clause-err : goal.returns-then-count-room-clause-err
returns-then-count-room-clause-err g c =
    let bound = c.in_ok-count.ensures.bound in
    let len = c.reading.bytes.ok.0 in
    let all : length c.reading.bytes.items + length (take c.in_ok-count.count c.read_some.new.into) ≡ c.args.limit + 1 =
    omega (arith, bound.0, bound.1, len, length-take {A = ℕ}) in
    joined c.args.limit _ _ _ _ _ _ c.reading.invariant.consumed c.in_ok-count.ensures.bytes.0 (omega arith) ((λ _. all), (λ _. refl))

pub returns-in_err-extend_from_slice-clause-err : goal.returns-in_err-extend_from_slice-clause-err
returns-in_err-extend_from_slice-clause-err g c =
    let p = err_from_is_err_and c.from_residual-in_err-extend_from_slice.result c.from_residual-in_err-extend_from_slice.ensures.1 in
    let bound = c.in_ok-count.ensures.bound in
    let len = c.reading.bytes.ok.0 in
    rw (p.1, p.2) (joined c.args.limit _ _ _ _ _ NoMemory c.reading.invariant.consumed c.in_ok-count.ensures.bytes.0
    (omega (arith, bound.0, bound.1, len))
    ((λ e. cc), (λ e. absurd (omega (arith, bound.0, bound.1, len)))))
