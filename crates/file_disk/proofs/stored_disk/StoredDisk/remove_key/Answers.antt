use Rattle.std.proofs.Common.{rules, ◌≡◌, nat_eq, not, refl}
use Rattle.std.specs.Prelude.{filter}
use Rattle.std.proofs.lemmas.Fn.{filter_same}
use Rattle.file_disk.proofs.stored_disk.StoredDisk.remove_key.Goals as goal

pub returns-clause-keyed : goal.returns-clause-keyed
returns-clause-keyed g c =
    let kept : c.retain.new.self.items ≡ filter (λ key. not (nat_eq key c.args.target.0)) c.args.self.now.keys.items =
    filter_same _ (λ key. not (nat_eq key c.args.target.0)) _ (λ key kept_it after step. search rules) _ _ c.retain.ensures.filtered in
    rw kept refl
