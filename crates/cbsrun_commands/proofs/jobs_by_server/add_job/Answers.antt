use Rattle.std.proofs.Common.{◌<◌, length}
use Rattle.cbsrun_commands.proofs.JobLists.{job_listed}
use Rattle.cbsrun_commands.proofs.jobs_by_server.add_job.Goals as goal

pub returns-clause-jobs : goal.returns-clause-jobs
returns-clause-jobs c = λ s.
    let within : c.in-Submit.server < length c.args.lists.now.items = rw c.in-Submit.is at c.requires in
    rw c.in-Submit.is
    (job_listed (λ jobs. jobs.items) c.args.lists.now.items c.from.result c.in-Submit.server s c.index_mut.result.now c.push.new.self
    c.in-Submit.task c.from.ensures within c.index_mut.ensures.value c.in_ok-push.ensures.items)
