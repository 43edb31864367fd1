use Rattle.std.proofs.Common.{◌∙◌, ap, length}
use Rattle.cbs_job.specs.FileJobs.{of_files}
use Rattle.cbs_job.specs.declared.file.FileJob.{FileJob}
use Rattle.cbs_clients.specs.Houses.{Seat}
use Rattle.cbs_clients.proofs.Moves.{serves_early, serves_handed}
use Rattle.cbsrun_commands.proofs.HouseResults.{results_are, by_server, served_count, stops_short}
use Rattle.std.proofs.lemmas.Result.{err_from_is_err_and}
use Rattle.cbsrun_commands.proofs.serve.served_house.Goals as goal

pub returns-clause-servers : goal.returns-clause-servers
returns-clause-servers g c = served_count c.args.file c.in_ok-house.house c.serve.new.house c.in_ok-house.ensures.core
    c.in_ok-serve.ensures.steps c.in_ok-house.ensures.lawful

pub returns-clause-results : goal.returns-clause-results
returns-clause-results g c =
    let opened = c.in_ok-house in
    let served = c.in_ok-serve.ensures in
    results_are of_files c.serve.new.house c.args.file.ring (length c.args.file.plan.rates) opened.feeds.items c.serve.new.feeds _
    opened.ensures.rings opened.ensures.servers opened.ensures.jobs
    (rw c.deref_mut.ensures.value at served.feeds) (λ s. serves_handed of_files opened.house c.serve.new.house served.steps s
    ∙ ap (λ (x : Seat FileJob). x.handed) (opened.ensures.empty s)) (λ s. serves_early of_files opened.house c.serve.new.house served.steps s
    ∙ ap (λ (x : Seat FileJob). x.early) (opened.ensures.empty s)) served.served.0 ∙ by_server c.args.file

pub returns-in_err-serve-clause-stops : goal.returns-in_err-serve-clause-stops
returns-in_err-serve-clause-stops g c =
    let p = err_from_is_err_and c.from_residual-in_err-serve.result c.from_residual-in_err-serve.ensures.1 in
    let opened = c.in_ok-house in
    let kept = opened.ensures in
    let served = c.in_err-serve.ensures in
    rw (p.1, p.2) (stops_short c.args.file opened.house c.serve.new.house opened.feeds.items c.args.file.ring kept.core kept.lawful kept.empty kept.rings
    kept.servers kept.jobs served.steps c.serve.new.feeds _ served.ready (rw c.deref_mut.ensures.value at served.feeds) served.received
    (rw c.deref_mut.ensures.value at served.stops))
