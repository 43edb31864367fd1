use Rattle.std.proofs.Common.{arith}
use Rattle.std.proofs.lemmas.List.{length_push}
use Rattle.cbsrun_proposals.specs.Proposals.{rate_of}
use Rattle.cbsrun_sizing.proofs.Greatest.{each_more}
use Rattle.cbsrun_sized.specs.Sized.{no_proposal, IsReservationFor}
use Rattle.cbsrun_sized.proofs.given.reservations_of.Goals as goal

pub loop-server-preserved : goal.loop-server-preserved
loop-server-preserved c =
    let k = c.args.sketch.now in
    let n = c.loop-server.server in
    let so_far = c.loop-server.reservations.items in
    let one = c.in_ok-reservation.reservation in
    let old = c.loop-server.invariant in
    rw c.in-Ok.ensures.items (record {
      count = let e = length_push so_far one in let o = old.count in omega arith;
      each = each_more (λ s p. IsReservationFor k c.args.all s (rate_of p)) n so_far one no_proposal old.count old.each c.in_ok-reservation.ensures.ok;
    })
