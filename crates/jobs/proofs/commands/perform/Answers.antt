use Rattle.std.proofs.Common.{◌≡◌, Some, ap, refl}
use Rattle.words.specs.declared.forms.Job.TheVariants.{Sim, Run, Check, Settle, Gen}
use Rattle.jobs.proofs.CommandLaws.{command_ends, usage_ends}
use Rattle.jobs.proofs.commands.perform.Goals as goal

pub returns-in-Sim : goal.returns-in-Sim
returns-in-Sim g c =
    let hosts : c.as_slice.result.now ≡ c.args.line.now.hosts.items = c.as_slice.ensures.value in record {
      ends = command_ends _ (Some Sim) c.args.line.now.hosts.items _ _ _ (ap Some c.in-Sim.is) (rw hosts at c.sim.ensures.ends);
    }

pub returns-in-Check : goal.returns-in-Check
returns-in-Check g c = record { ends = command_ends _ (Some Check) c.args.line.now.hosts.items _ _ _ (ap Some c.in-Check.is) (record { source = refl; check = c.check.ensures.ends }) }

pub returns-in-Settle : goal.returns-in-Settle
returns-in-Settle g c = record { ends = command_ends _ (Some Settle) c.args.line.now.hosts.items _ _ _ (ap Some c.in-Settle.is) (record { source = refl; settle = c.settle.ensures.ends }) }

pub returns-in-Gen : goal.returns-in-Gen
returns-in-Gen g c = record { ends = command_ends _ (Some (Gen c.in-Gen.rounds)) c.args.line.now.hosts.items _ _ _ (ap Some c.in-Gen.is) (record { source = refl; disk = refl; gen = c.generate.ensures.ends }) }

pub returns-in-Run : goal.returns-in-Run
returns-in-Run g c = record { ends = command_ends _ (Some Run) c.args.line.now.hosts.items _ _ _ (ap Some c.in-Run.is) (usage_ends _ _ _ refl refl c.tell.ensures) }
