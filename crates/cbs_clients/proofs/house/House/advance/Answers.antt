use Rattle.cbs_recorded.specs.Records.{tape_in}
use Rattle.std.proofs.Common.{ap, subst, sym, ◌∷◌, [], refl, arith}
use Rattle.std.proofs.lemmas.Grind.{common_steps}
use Rattle.cbs_steps.specs.declared.step.Step.TheVariants.{Advance}
use Rattle.cbs_clients.proofs.HouseInvariant.{housed_all, same_shelf}
use Rattle.cbs_clients.proofs.MadeSteps.{made_time}
use Rattle.cbs_core.specs.Held.{IsCorePaced}
use Rattle.cbs_core.proofs.OnTimeCores.{step_kept, on_time_carried, paced_carried}
use Rattle.cbs_steps.specs.Quiet.{IsQuietAfter, IsQuietAdvanceAfter}
use Rattle.cbs_clients.proofs.house.House.advance.Goals as goal

pub invariant_of-self : goal.invariant_of-self
invariant_of-self g c =
    let work = g.W.Work.meaning in
    let old = c.args.self.now in
    let a = c.advance_told.ensures in
    record {
      housed = housed_all work old.core c.advance_told.new.core old.rings old.rings old.collector old.collector old.housed refl refl a.makes.count
          (Advance c.args.n ∷ []) a.makes.state a.jobs (λ s. refl) (λ s. same_shelf _);
    }

pub returns-in-Err : goal.returns-in-Err
returns-in-Err g c = record {
  made = tt;
  on_time = λ quiet on. rw c.in-Err.ensures.unchanged on;
  paced = λ quiet on. subst (λ (core : _). IsCorePaced core) (sym c.in-Err.ensures.unchanged) on;
  rings = refl;
  results = λ s. refl;
  refused = (
    refl,
    record {
      core = c.in-Err.ensures.unchanged;
      rings = refl;
      tape = ap tape_in c.in-Err.ensures.same;
      seats = λ s. refl;
    },
  );
  end = grind (arith, common_steps);
}

pub returns-in-Ok : goal.returns-in-Ok
returns-in-Ok g c =
    let work = g.W.Work.meaning in
    let old = c.args.self.now in
    let a = c.advance_told.ensures in
    record {
      made = made_time work old _ (Advance c.args.n) (λ s. refl) a.makes.state a.makes.on_time a.makes.paced refl (λ s. (refl, refl)) a.recorded;
      on_time = step_kept work (on_time_carried work) (IsQuietAfter work) old.core c.advance_told.new.core (Advance c.args.n) old.housed.history
          a.makes.state a.makes.on_time;
      paced = step_kept work (paced_carried work) (IsQuietAdvanceAfter work) old.core c.advance_told.new.core (Advance c.args.n) old.housed.history
          a.makes.state a.makes.paced;
      rings = refl;
      results = λ s. refl;
      refused = tt;
      end = grind (arith, common_steps);
    }
