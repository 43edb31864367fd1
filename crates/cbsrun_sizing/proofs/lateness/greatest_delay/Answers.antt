use Rattle.std.proofs.Common.{◌≡◌, refl, sym, ap, ◌∙◌, length, arith}
use Rattle.std.specs.Prelude.{max}
use Rattle.std.proofs.lemmas.Bool.Decides.{nat_tests}
use Rattle.cbsrun_sizing.specs.Lateness.{greatest_delay}
use Rattle.cbsrun_sizing.specs.ServerLoads.{delay_of}
use Rattle.cbsrun_sizing.proofs.LateServers.{greatest_more, bounded}
use Rattle.cbsrun_sizing.proofs.lateness.greatest_delay.Goals as goal

pub loop-server-preserved : goal.loop-server-preserved
loop-server-preserved c =
    let f = c.args.load.now in
    let s = c.loop-server.server in
    let delay : c.saturating_sub-delay.result ≡ delay_of f s = rw (
      c.saturating_sub-delay.ensures,
      c.all_charges-charges.ensures.value,
      c.most_charged.ensures.value,
      c.sources-sources.ensures.value,
      c.len-servers.ensures.value,
      c.plan.ensures,
    ) refl in
    let most : c.max-greatest.result ≡ max c.loop-server.greatest c.saturating_sub-delay.result = grind (arith, nat_tests) in
    most ∙ rw (delay, c.loop-server.invariant) (sym (greatest_more (delay_of f) s))

pub returns-clause-bounds : goal.returns-clause-bounds
returns-clause-bounds c =
    let f = c.args.load.now in
    let all : c.loop-server.server ≡ length f.plan.rates =
    omega (arith, c.len-servers.ensures.value, ap (λ p. length p.rates) c.plan.ensures) in
    let is : c.loop-server.greatest ≡ greatest_delay f = rw all at c.loop-server.invariant in
    rw is (bounded f (rw c.plan.ensures at c.len-servers.ensures.lawful) c.sources-sources.ensures.lawful.moded)
