use Rattle.cbs_pacer.proofs.Timed.{share_kept_in_time, lateness_kept_in_time}
use Rattle.cbs_pacer.proofs.theorem.all_in_time.Goals as goal

pub returns-clause-share : goal.returns-clause-share
returns-clause-share g c =
    share_kept_in_time g.W.Work.meaning _ c.args.rounding c.args.tick c.nanos.ensures.long (λ steps. (c.all_punctual.ensures steps).share)

pub returns-clause-late : goal.returns-clause-late
returns-clause-late g c = lateness_kept_in_time g.W.Work.meaning _ (λ steps. (c.all_punctual.ensures steps).late_by)
