use Rattle.std.proofs.Common.{◌∷◌, ◌∙◌, [], refl, sym}
use Rattle.cbs_steps.specs.declared.step.Step.TheVariants.{Run}
use Rattle.cbs_steps.specs.declared.reply.Ran.TheVariants as ran
use Rattle.cbs_clients.proofs.HouseInvariant.{housed_one, housed_ran, keeps_done, finished_next, none_handed}
use Rattle.cbs_clients.proofs.MadeSteps.{made_time, collects_none}
use Rattle.cbs_core.proofs.OnTimeCores.{step_kept, on_time_carried, paced_carried}
use Rattle.cbs_steps.specs.Quiet.{IsQuietAfter, IsQuietAdvanceAfter}
use Rattle.cbs_clients.proofs.NamedJobs.{names}
use Rattle.cbs_clients.proofs.house.House.run.Goals as goal

pub invariant_of-self-in_default : goal.invariant_of-self-in_default
invariant_of-self-in_default g c =
    let work = g.W.Work.meaning in
    let old = c.args.self.now in
    let r = c.run_told-ran.ensures in
    record {
      housed = housed_ran work old.core c.run_told-ran.new.core old.rings old.rings old.collector old.collector old.housed c.run_told-ran.result
          c.in_default.not-Done r.job r.makes.count
          (Run ∷ []) r.makes.state refl (λ s. refl) refl;
    }

pub returns-in_default : goal.returns-in_default
returns-in_default g c =
    let work = g.W.Work.meaning in
    let old = c.args.self.now in
    let r = c.run_told-ran.ensures in
    let kept = collects_none work c.run_told-ran.result old _ c.in_default.not-Done (λ s. refl) in
    let made = made_time work old _ Run (λ s. refl) r.makes.state r.makes.on_time r.makes.paced refl (λ s. (refl, refl)) r.recorded in
    record {
      reply = r.makes.reply;
      made = made;
      on_time = step_kept work (on_time_carried work) (IsQuietAfter work) old.core c.run_told-ran.new.core Run old.housed.history r.makes.state
          r.makes.on_time (λ M agrees. tt);
      paced = step_kept work (paced_carried work) (IsQuietAdvanceAfter work) old.core c.run_told-ran.new.core Run old.housed.history r.makes.state
          r.makes.paced (λ M agrees. tt);
      collects = kept;
      job = names old _ c.run_told-ran.result r.job (λ s. refl);
    }

pub invariant_of-self : goal.invariant_of-self
invariant_of-self g c =
    let work = g.W.Work.meaning in
    let old = c.args.self.now in
    let h = old.housed in
    let r = c.in-Done.ensures in
    let done = c.in-Done.done in
    let taken = c.take_expected.ensures.taken in
    record {
      housed = housed_one work old.core c.run_told-ran.new.core old.rings old.rings old.collector c.take_expected.new.self h done.server refl
          c.take_expected.ensures.others.1 r.makes.count
          (Run ∷ []) r.makes.state
          (λ l. keeps_done work _ _ _ _ _ _ _ _ _ _ (h.servers done.server l) done r.job.0 refl taken.handed taken.results taken.early)
          (λ l. taken.announced ∙ (h.announced done.server l ∙ sym r.job.0.accepted))
          r.job.1 (λ s ne. refl) c.take_expected.ensures.others.0;
    }

pub take_expected-requires : goal.take_expected-requires
take_expected-requires g c =
    let old = c.args.self.now in
    finished_next g.W.Work.meaning old.core c.run_told-ran.new.core old.rings old.rings old.collector old.collector old.housed c.in-Done.done c.in-Done.ensures.job.0

pub returns-in-Done : goal.returns-in-Done
returns-in-Done g c =
    let work = g.W.Work.meaning in
    let old = c.args.self.now in
    let r = c.in-Done.ensures in
    let t = c.take_expected.ensures in
    record {
      reply = r.makes.reply;
      made = made_time work old _ Run (λ s. refl) r.makes.state r.makes.on_time r.makes.paced refl
          (none_handed old.collector c.take_expected.new.self c.in-Done.done.server t.taken.handed t.taken.early t.others.0) r.recorded;
      on_time = step_kept work (on_time_carried work) (IsQuietAfter work) old.core c.run_told-ran.new.core Run old.housed.history r.makes.state
          r.makes.on_time (λ M agrees. tt);
      paced = step_kept work (paced_carried work) (IsQuietAdvanceAfter work) old.core c.run_told-ran.new.core Run old.housed.history r.makes.state
          r.makes.paced (λ M agrees. tt);
      collects = (t.taken.results, λ s ne. (t.others.0 s ne).results);
      job = names old _ (ran.Done c.in-Done.done) r.job (λ s. refl);
    }
