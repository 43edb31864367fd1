use Rattle.std.proofs.Common.{min, arith, ap, refl, ◌∙◌}
use Rattle.cbs_pace.specs.Paces.{Pacing, time_to}
use Rattle.cbs_clients.specs.Houses.{core_of}
use Rattle.cbs_pacer.specs.Paced.{paced_of, paced_seen}
use Rattle.cbs_pacer.proofs.Ahead.{pays_ahead, seen_ahead, seen_lawful}
use Rattle.cbs_pacer.proofs.Sequences.{ends_timed, doing_few}
use Rattle.cbs_pacer.proofs.pacer.Pacer.done_measured.Goals as goal

pub returns-clause-pays : goal.returns-clause-pays
returns-clause-pays g c = rw (← c.see-over.ensures.value, ← c.see-over.ensures.kept, ← c.min.ensures) c.pay.ensures.pays

pub returns-clause-kept : goal.returns-clause-kept
returns-clause-kept g c = rw (c.pay.ensures.done, c.pay.ensures.listens, c.pay.ensures.taken) refl

pub returns-clause-ahead : goal.returns-clause-ahead
returns-clause-ahead g c = λ start.
    let p = c.args.self.now.pace in
    let took = min c.args.took (time_to c.args.reading p) in
    let value = c.see-over.ensures.value in
    let over = c.see-over.ensures.over ∙ ap (λ (q : Pacing). q.watch.over) c.see-over.ensures.kept in
    pays_ahead took _ _ _ _ _ (seen_lawful c.args.reading p c.see-over.ensures.lawful) (returns-clause-pays g c)
    (seen_ahead c.args.reading took c.see-over.result (core_of c.args.house.now).clock p over (omega (arith, value)) start)

pub returns-clause-timed : goal.returns-clause-timed
returns-clause-timed g c =
    let p = c.args.self.now in
    ends_timed _ (paced_seen c.args.reading p) (paced_of c.pay.new.self) _ _ (seen_lawful c.args.reading p.pace c.see-over.ensures.lawful) (doing_few p p.there) (returns-clause-pays g c)
    c.pay.ensures.done
