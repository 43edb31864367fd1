use Rattle.std.proofs.Common.{◌<◌, length, get_or, add-one, arith}
use Rattle.std.proofs.lemmas.List.{get_or_default}
use Rattle.std.proofs.lemmas.List.Edits.{map_over_more}
use Rattle.cbs_steps.specs.Faces.{with_replenishment}
use Rattle.cbs_core.proofs.ReadyServers.{lists_set}
use Rattle.cbs_core.proofs.Waiting.{keeps_more}
use Rattle.cbs_core.proofs.servers.replenish_all.Goals as goal

pub loop-index-preserved : goal.loop-index-preserved
loop-index-preserved g c =
    let l = c.loop-index in
    let x = c.index-servers-index.result in
    let one = c.replenish_one.ensures in
    let y = c.replenish_one.new.it in
    let here = get_or l.servers l.index x in
    let within : l.index < length l.servers = omega (arith, l.auto.servers) in
    let read = get_or_default l.servers l.index x here within in
    record {
      servers = rw one.face (map_over_more (with_replenishment c.args.now) c.args.servers.now l.servers l.index here
          (omega (arith, l.auto.servers)) l.invariant.servers read);
      listed = lists_set l.servers l.ready c.replenish_one.new.ready l.index y l.invariant.listed within one.ordered one.here one.others;
      waits = rw (add-one l.index) (keeps_more l.waits c.note.new.self l.servers l.index y l.invariant.waits within c.note.ensures);
    }
