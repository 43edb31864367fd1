use Rattle.std.proofs.Common.{map, refl, arith}
use Rattle.cbs_job.specs.Work.{whole}
use Rattle.cbs_core.specs.Held.{held_at}
use Rattle.cbs_clients.proofs.HouseInvariant.{housed_answered}
use Rattle.cbs_clients.proofs.house.House.take_results.Goals as goal

pub invariant_of-self : goal.invariant_of-self
invariant_of-self g c =
    let old = c.args.self.now in
    let t = c.take_results in
    record {
      housed = housed_answered g.W.Work.meaning old.core old.core old.rings old.rings old.collector t.new.self old.housed t.result c.args.server refl refl
          t.ensures.others.1 t.ensures.handed t.ensures.refused t.ensures.others.0;
    }

pub returns-in-Ok-clause-ok : goal.returns-in-Ok-clause-ok
returns-in-Ok-clause-ok g c = c.in-Ok.ensures.ok

pub returns-in-Ok-clause-known : goal.returns-in-Ok-clause-known
returns-in-Ok-clause-known g c = let h = c.args.self.now.housed in omega (arith, h.shelf_count, c.in-Ok.ensures.refusal)

pub returns-in-Ok-clause-front : goal.returns-in-Ok-clause-front
returns-in-Ok-clause-front g c = λ none.
    let a = c.args.self.now in
    let s = c.args.server in
    let kept = (a.housed.servers s (returns-in-Ok-clause-known g c)).outputs none in
    (map (whole g.W.Work.meaning) (held_at a.core s).jobs, rw c.in-Ok.ensures.ok kept)

pub returns-in-Ok-clause-handed : goal.returns-in-Ok-clause-handed
returns-in-Ok-clause-handed g c =
    let handed = c.in-Ok.ensures.handed in
    let others = c.take_results.ensures.others.0 in
    record { core = refl; rings = refl; tape = refl; seat = rw (handed.handed, handed.results, handed.early) refl; others = λ t ne. rw ((others t ne).handed, (others t ne).results, (others t ne).early) refl }

pub returns-in-Err-Stranger-clause-unchanged : goal.returns-in-Err-Stranger-clause-unchanged
returns-in-Err-Stranger-clause-unchanged g c = record { core = refl; rings = refl; tape = refl; seats = λ s. rw c.in-Err-Stranger.ensures.refused refl }

pub returns-in-Err-clause-unchanged : goal.returns-in-Err-clause-unchanged
returns-in-Err-clause-unchanged g c = record { core = refl; rings = refl; tape = refl; seats = λ s. rw c.in-Err.ensures.refused refl }
