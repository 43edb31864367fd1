use Rattle.cbs_recorded.specs.Records.{tape_in}
use Rattle.std.proofs.Common.{ap, subst, sym, ◌∷◌, [], refl}
use Rattle.cbs_steps.specs.declared.step.Step.TheVariants.{Charge}
use Rattle.cbs_clients.proofs.Charged.{charge_made, charge_refused}
use Rattle.cbs_clients.proofs.HouseInvariant.{housed_all, same_shelf}
use Rattle.cbs_clients.proofs.MadeSteps.{made_time}
use Rattle.cbs_core.specs.Held.{IsCorePaced}
use Rattle.cbs_core.proofs.OnTimeCores.{step_kept, paced_carried}
use Rattle.cbs_steps.specs.Quiet.{IsQuietAdvanceAfter}
use Rattle.cbs_clients.proofs.house.House.charge_server.Goals as goal

pub invariant_of-self : goal.invariant_of-self
invariant_of-self g c =
    let work = g.W.Work.meaning in
    let old = c.args.self.now in
    let a = c.charge_told.ensures in
    record {
      housed = housed_all work old.core c.charge_told.new.core old.rings old.rings old.collector old.collector old.housed refl refl a.makes.count
          (Charge c.args.server c.args.ticks ∷ []) a.makes.state a.jobs (λ s. refl) (λ s. same_shelf _);
    }

pub returns-in-Err : goal.returns-in-Err
returns-in-Err g c = record {
  made = tt;
  paced = λ on. subst (λ (core : _). IsCorePaced core) (sym c.in-Err.ensures.unchanged) on;
  rings = refl;
  results = λ s. refl;
  jobs = c.charge_told.ensures.jobs;
  same = record {
    core = c.in-Err.ensures.unchanged;
    rings = refl;
    tape = ap tape_in c.in-Err.ensures.same;
    seats = λ s. refl;
  };
  refusal = λ M agrees. rw c.of_charge.ensures (charge_refused c.in-Err.error _ (c.in-Err.ensures.makes.reply M agrees));
}

pub returns-in-Ok : goal.returns-in-Ok
returns-in-Ok g c =
    let work = g.W.Work.meaning in
    let old = c.args.self.now in
    let a = c.charge_told.ensures in
    record {
      made = made_time work old _ (Charge c.args.server c.args.ticks) (λ s. refl) a.makes.state a.makes.on_time a.makes.paced refl (λ s. (refl, refl)) a.recorded;
      paced = step_kept work (paced_carried work) (IsQuietAdvanceAfter work) old.core c.charge_told.new.core (Charge c.args.server c.args.ticks) old.housed.history
          a.makes.state a.makes.paced (λ M agrees. tt);
      rings = refl;
      results = λ s. refl;
      jobs = a.jobs;
      same = tt;
      refusal = λ M agrees. charge_made _ (c.in-Ok.ensures.makes.reply M agrees);
    }
