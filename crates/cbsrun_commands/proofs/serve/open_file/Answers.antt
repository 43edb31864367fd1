use Rattle.std.proofs.Common.{◌≡◌, ◌∙◌, length, ap, sym}
use Rattle.std.proofs.lemmas.List.{length-map}
use Rattle.std.proofs.lemmas.List.FromFn.{length-map-range_with_len}
use Rattle.std.specs.List.{range_with_len}
use Rattle.cbsrun_tasks.specs.TaskFiles.{File}
use Rattle.cbsrun_commands.specs.ResultLines.{jobs_for}
use Rattle.cbsrun_commands.proofs.HouseResults.{jobs_are}
use Rattle.cbsrun_commands.proofs.serve.open_file.Goals as goal

pub open_feeds-requires-clause-lists : goal.open_feeds-requires-clause-lists
open_feeds-requires-clause-lists c =
    let lists = c.in-Ok.lists.items in
    sym (length-map lists (λ jobs. jobs.items)) ∙ (ap length c.in-Ok.ensures
    ∙ (length-map-range_with_len (λ s. jobs_for s c.into_parts-setup.result.steps.items) 0 c.len.result ∙ c.len.ensures.value))

pub returns-in-Ok-open_feeds-clause-servers : goal.returns-in-Ok-open_feeds-clause-servers
returns-in-Ok-open_feeds-clause-servers c =
    c.in-Ok-open_feeds.ensures.servers ∙ ap (range_with_len 0) (ap (λ p. length p.rates) c.into_parts-plan.ensures.plan
    ∙ ap (λ (f : File). length f.plan.rates) c.into_parts-setup.ensures.value)

pub returns-in-Ok-open_feeds-clause-rings : goal.returns-in-Ok-open_feeds-clause-rings
returns-in-Ok-open_feeds-clause-rings c =
    let ring : c.into_parts-setup.result.ring ≡ c.args.file.ring = ap (λ (f : File). f.ring) c.into_parts-setup.ensures.value in
    rw (← ring) c.in-Ok-open_feeds.ensures.unused

pub returns-in-Ok-open_feeds-clause-jobs : goal.returns-in-Ok-open_feeds-clause-jobs
returns-in-Ok-open_feeds-clause-jobs c =
    let servers = c.len.ensures.value ∙ ap (λ p. length p.rates) c.into_parts-plan.ensures.plan
    ∙ ap (λ (f : File). length f.plan.rates) c.into_parts-setup.ensures.value in
    c.in-Ok-open_feeds.ensures.jobs ∙ (c.in-Ok.ensures ∙ jobs_are c.args.file c.len.result c.into_parts-setup.result.steps.items servers
    (ap (λ (f : File). f.steps) c.into_parts-setup.ensures.value))
