use Rattle.std.proofs.Common.{refl, arith}
use Rattle.cbs_clients.proofs.MadeSteps.{made_nothing}
use Rattle.cbs_pacer.proofs.pacer.Pacer.pay.Goals as goal

pub returns-else-self-clause-pays : goal.returns-else-self-clause-pays
returns-else-self-clause-pays g c =
    rw c.if-self.false (record { ticks = 0; made = made_nothing g.W.Work.meaning c.args.house.now; most = omega arith; in_full = λ _. refl; pace = refl })
