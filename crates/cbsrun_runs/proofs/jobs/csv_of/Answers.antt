use Rattle.std.proofs.Common.{◌≡◌, ◌∙◌, List, ap, length, refl}
use Rattle.std.proofs.lemmas.Result.{IfOk-weaker}
use Rattle.cbsrun_csv.specs.Jobs.{JobsSeen}
use Rattle.cbsrun_csv.specs.Kept.{kept_seen, new_kept}
use Rattle.cbsrun_runs.proofs.jobs.csv_of.Goals as goal

pub returns-clause-csv : goal.returns-clause-csv
returns-clause-csv g c =
    let run = g.R.Run.run c.args.run.now in
    let names = c.in_ok-names.names in
    let view = c.show-shown.new.view.view in
    let count : c.len.result ≡ length names.items = c.len.ensures ∙ names.ok.0 in
    let kept : view ≡ kept_seen (new_kept (length names.items)) run.seen =
    c.in_ok-end.ensures.seen (c.new-telling.result, c.args.progress.now) refl
    ∙ ap (λ (k : List JobsSeen). kept_seen k run.seen) (c.new-telling.ensures ∙ c.in_ok-view.ensures ∙ ap new_kept count) in
    IfOk-weaker c.text.result _ _ (λ text h. rw (c.in_ok-names.ensures, c.in_ok-end.ensures.end) at ((rw c.deref.ensures.value at (h run.seen)) kept))
    c.text.ensures
