use Rattle.std.proofs.Common.{arith, ◌<◌, ◌≤◌, ◌+◌, length, inl, inr}
use Rattle.std.proofs.lemmas.Bool.{cases_eq}
use Rattle.cbs_live.proofs.Rings.{put_there, put_other, length_more, remembers_more}
use Rattle.cbs_live.proofs.figures.Figures.note_accepted.Goals as goal

pub loop-job-preserved : goal.loop-job-preserved
loop-job-preserved c =
    let some : 0 < length c.args.came.now = omega arith in
    record {
      end = omega arith;
      put = λ q from to. elim (cases_eq q c.loop-job.job) [
        | inl here ↦ rw here (put_there c.loop-job.came c.loop-job.job c.args.time (length c.args.came.now) some c.loop-job.auto.came)
        | inr other ↦
            let before : q < c.loop-job.job = omega arith in
            let near : c.loop-job.job < q + length c.args.came.now = omega arith in
            rw (put_other c.loop-job.came q c.loop-job.job c.args.time (length c.args.came.now) some before near) (c.loop-job.invariant.put q from before)
      ];
      kept = λ q earlier near.
          let before : q < c.loop-job.job = omega arith in
          let near' : c.loop-job.job < q + length c.args.came.now = omega arith in
          let late : c.loop-job.job ≤ q + length c.args.came.now = omega arith in
          rw (put_other c.loop-job.came q c.loop-job.job c.args.time (length c.args.came.now) some before near') (c.loop-job.invariant.kept q earlier late);
    }

pub returns : goal.returns
returns c = λ past are. record {
  ticks = are.ticks;
  accepted = omega (arith, length_more past.accepted c.args.accepted c.args.time);
  units = are.units;
  charged = are.charged;
  responses = are.responses;
  lateness = are.lateness;
  remembered = remembers_more past.accepted c.args.came.now c.loop-job.came c.args.accepted c.args.time c.max-first.result c.loop-job.job c.loop-job.auto.came are.remembered
      (omega arith) (omega arith) c.loop-job.invariant.end c.loop-job.invariant.put c.loop-job.invariant.kept;
}
