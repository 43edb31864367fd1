use Rattle.std.proofs.Common.{length, ap, arith, length-append, ◌∷◌, [], rules}
use Rattle.cbs_results.specs.Collected.{SameShelf, no_shelf}
use Rattle.cbs_lists.proofs.Lists.{All_pushed}
use Rattle.cbs_results.proofs.collector.shelves_of.Goals as goal

pub loop-server-preserved : goal.loop-server-preserved
loop-server-preserved g c =
    let l = c.loop-server in
    let items = c.in_ok-push.ensures.items in
    let count = ap length items in
    let before = l.invariant.count in
    record {
      count = omega (arith, count, before, length-append l.shelves.items (c.new.result ∷ []));
      empty = All_pushed (SameShelf no_shelf) l.shelves.items c.push.new.self.items c.new.result items c.new.ensures l.invariant.empty;
    }

pub returns-in_err-clone-clause-empty : goal.returns-in_err-clone-clause-empty
returns-in_err-clone-clause-empty g c = search rules

pub returns-in_err-shelves-clause-empty : goal.returns-in_err-shelves-clause-empty
returns-in_err-shelves-clause-empty g c = search rules

pub returns-in_err-clone-2-clause-empty : goal.returns-in_err-clone-2-clause-empty
returns-in_err-clone-2-clause-empty g c = search rules

pub returns-in_err-push-clause-empty : goal.returns-in_err-push-clause-empty
returns-in_err-push-clause-empty g c = search rules

pub returns-clause-empty : goal.returns-clause-empty
returns-clause-empty g c = search rules
