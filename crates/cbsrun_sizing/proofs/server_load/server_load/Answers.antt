use Rattle.std.proofs.Common.{◌≡◌, ap, sym, ◌∙◌, eqb, length}
use Rattle.std.specs.Prelude.{◌&&◌, not}
use Rattle.cbsrun_simulate.specs.Released.{is_single}
use Rattle.cbs_rate.specs.Rate.{Rate}
use Rattle.std.proofs.lemmas.Option.{get_or_from_slice_get}
use Rattle.cbs_guarantee.specs.Parts.{rate_at}
use Rattle.cbsrun_sizing.proofs.OwnSources.{own_ticks}
use Rattle.cbsrun_sizing.proofs.server_load.server_load.Goals as goal

pub asked_by-requires-clause-ticks : goal.asked_by-requires-clause-ticks
asked_by-requires-clause-ticks c =
    let f = c.args.load.now in
    rw (c.deref-2.ensures.value, c.in_ok-repeated.ensures.value, c.sources-2.ensures.value)
    (own_ticks (length f.plan.rates) (λ t. eqb t.server c.args.server && not (is_single t.jobs)) f.sources c.sources-2.ensures.lawful.lawful)

pub returns : goal.returns
returns c =
    let here = rw c.plan.ensures at (sym c.get.ensures.value ∙ c.unwrap-reservation.ensures) in
    let is : c.unwrap-reservation.result ≡ rate_at c.args.load.now.plan.rates c.args.server =
    sym (get_or_from_slice_get c.args.load.now.plan.rates c.args.server c.unwrap-reservation.result (record { budget = 0; period = 0 }) here) in
    record {
      asked = rw (c.deref-2.ensures.value, c.in_ok-repeated.ensures.value, c.sources-2.ensures.value) at c.asked_by.ensures;
      once = rw c.sources-3.ensures.value at c.once_of.ensures;
      promised = rw (is, c.deref-3.ensures.value, c.in_ok-own.ensures.value, c.sources.ensures.value, c.wanted_of-wanted.ensures) at c.guaranteed.ensures;
      remedy = rw (is, c.deref.ensures.value, c.in_ok-own.ensures.value, c.sources.ensures.value, c.wanted_of-wanted.ensures) at c.remedy_for-remedy.ensures;
      kept = rw (c.period.ensures.value ∙ ap (λ (r : Rate). r.period) is, c.proposed.ensures, c.sources-4.ensures.value) at c.kept_within.ensures;
      room = rw (c.proposed-2.ensures, c.plan-2.ensures) at c.room_for.ensures;
    }
