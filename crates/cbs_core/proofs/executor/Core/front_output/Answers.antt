use Rattle.std.proofs.Common.{◌≡◌, [], ap, sym, arith}
use Rattle.std.proofs.lemmas.List.{get_or_past}
use Rattle.cbs_queues.specs.Queues.{front_output, list_at}
use Rattle.cbs_core.proofs.Cores.{queue_count}
use Rattle.cbs_core.proofs.executor.Core.front_output.Goals as goal

pub front_output-requires : goal.front_output-requires
front_output-requires g c = omega (arith, queue_count c.self.invariant)

pub returns-then-server-len : goal.returns-then-server-len
returns-then-server-len g c =
    let lists = c.self.inside.queues.lists in
    let past : list_at lists c.args.server ≡ [] = get_or_past lists c.args.server [] (omega (arith, queue_count c.self.invariant)) in
    rw (← c.self.view_is) (sym (ap (front_output g.W.Work.meaning) past))
