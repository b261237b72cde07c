use Rattle.std.proofs.Common.{◌≡◌, rules, true}
use Rattle.vol_layout.specs.declared.field.Field.TheVariants.{Pointer}
use Rattle.vol_layout.specs.declared.kind.Resource.TheVariants.{File}
use Rattle.vol_layout.specs.Fields.{HasField}
use Rattle.lock_store.specs.Memories.{holds}
use Rattle.lock_store.specs.Views.{host_at}
use Rattle.host_facts.specs.laws.FactLaws.{held_readable}
use Rattle.lock_tests.proofs.UntoldLaws.{sure}
use Rattle.lock_tests.proofs.hosts.Hosts.read_number.Goals as goal

pub read_number-requires-clause-named : goal.read_number-requires-clause-named
read_number-requires-clause-named c =
    let locks = c.args.self.now.world.locks in
    let has : HasField locks.geometry (Pointer c.args.file c.args.index) = search rules in
    let held : holds (host_at locks c.args.host) (File c.args.file) ≡ true = search rules in (
      Pointer c.args.file c.args.index,
      (
        has,
        held_readable (host_at locks c.args.host) (File c.args.file) held,
        sure locks c.args.host _ (search rules),
      ),
    )
