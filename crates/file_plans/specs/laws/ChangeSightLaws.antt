-- What the sight of a change says of its call.
use Rattle.std.proofs.Common.{◌≡◌, ℕ, true, false, Some, [], ◌∷◌, refl, ap, sym, subst, ◌∙◌, true≢false}
use Rattle.vol_base.specs.NumberBlock.{number_block}
use Rattle.vol_base.specs.PlainCalls.{plain_call_of}
use Rattle.vol_base.specs.declared.command.Command.{Command}
use Rattle.vol_base.specs.declared.command.Command.TheVariants as commands
use Rattle.vol_base.specs.declared.plain.PlainCall.{PlainCall}
use Rattle.vol_base.specs.declared.plain.PlainCall.TheVariants as calls
use Rattle.vol_layout.specs.declared.field.Field.TheVariants.{Count}
use Rattle.vol_layout.specs.declared.geometry.Geometry.{Geometry}
use Rattle.vol_layout.specs.Fields.{HasField}
use Rattle.plan_parts.specs.declared.outcome.Outcome.TheVariants as outcomes
use Rattle.file_plans.specs.Bases.{MayComeTo}
use Rattle.file_plans.specs.Calls.{Runs, file_of, index_of, is_write}
use Rattle.file_plans.specs.Says.{Known}
use Rattle.file_plans.specs.Sights.{IsSight}
use Rattle.file_plans.specs.Stands.{first_of_change, sight_of}
use Rattle.file_plans.specs.declared.call.FileCall.{FileCall}
use Rattle.file_plans.specs.declared.call.FileCall.TheVariants.{Close, Plain}
use Rattle.file_plans.specs.declared.sight.Sight.TheVariants as sights
use Rattle.file_plans.specs.declared.stage.Change.{Change}
use Rattle.file_plans.specs.declared.stage.Change.TheVariants.{Drop, Purge}
use Rattle.file_plans.specs.laws.PurgeCommitLaws.{first_remain}

-- a call that drops a data block is a punch
pub punched : (g : Geometry) (known : Known) (call : FileCall) (d f i : ℕ) → IsSight g known call (sights.Drops d) → f ≡ file_of call
    → i ≡ index_of call → call ≡ Plain (calls.Punch f i)
punched g known (Plain (calls.Punch e j)) d f i sight file index = cc
punched g known call d f i sight file index = absurd sight

-- what is to be purged is at least one pointer
no_remain : (g : Geometry) (known : Known) (call : FileCall) → IsSight g known call (sights.Purges []) → ⊥
no_remain g known (Plain (calls.Size f k)) sight = let are = sight.3.are in cc
no_remain g known (Close f) sight = let are = sight.2.are in cc
no_remain g known (Plain (calls.Create f)) sight = sight
no_remain g known (Plain (calls.Remove f)) sight = sight
no_remain g known (Plain (calls.Read f i)) sight = sight
no_remain g known (Plain (calls.Punch f i)) sight = sight
no_remain g known (Plain (calls.Write f i block)) sight = sight

-- the data block whose group is locked for a change is one of the volume
pub change_has : (g : Geometry) (known : Known) (call : FileCall) (change : Change) → IsSight g known call (sight_of change)
    → HasField g (Count (first_of_change change))
change_has g known call (Purge []) sight = absurd (no_remain g known call sight)
change_has g known call (Purge (r ∷ more)) sight = (first_remain g known call (r ∷ more) r sight refl).1.inside
change_has g known call (Drop d) sight = dropped call sight
  where
    dropped : (call : FileCall) → IsSight g known call (sights.Drops d) → HasField g (Count d)
    dropped (Plain (calls.Punch f i)) sight = sight.1.pointer.inside
    dropped call sight = absurd sight

-- a write makes none of these changes, and no command that runs another call is a `write`
pub change_no_write : (g : Geometry) (known : Known) (call : FileCall) (change : Change) → IsSight g known call (sight_of change)
    → is_write call ≡ false
change_no_write g known call (Drop d) sight = dropped call sight
  where
    dropped : (call : FileCall) → IsSight g known call (sights.Drops d) → is_write call ≡ false
    dropped (Plain (calls.Write f i block)) sight = absurd sight
    dropped call sight = refl
change_no_write g known call (Purge remains) sight = purged call sight
  where
    purged : (call : FileCall) → IsSight g known call (sights.Purges remains) → is_write call ≡ false
    purged (Plain (calls.Write f i block)) sight = absurd sight
    purged call sight = refl

pub runs_no_write : (command : Command) (call : FileCall) (f i n : ℕ) → Runs command call → is_write call ≡ false
    → command ≡ commands.Write f i n → ⊥
runs_no_write command (Plain call) f i n runs other same =
    let both : Some (calls.Write f i (number_block n)) ≡ Some call = sym (ap plain_call_of same) ∙ runs in
    let one : calls.Write f i (number_block n) ≡ call = cc in
    true≢false (sym (subst (λ (k : PlainCall). is_write (Plain k) ≡ true) one refl) ∙ other)
runs_no_write command (Close e) f i n runs other same = let both : commands.Close e ≡ commands.Write f i n = sym runs ∙ same in cc

-- any call may be open
pub may_open : (call : FileCall) → MayComeTo call outcomes.Open
may_open (Plain call) = tt
may_open (Close f) = tt
