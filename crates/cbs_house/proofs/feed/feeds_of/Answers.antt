use Rattle.std.proofs.Common.{◌≡◌, ◌∙◌, List, [], ◌∷◌, ◌++◌, map, append_assoc, sym, length, length-append, ap, refl, arith}
use Rattle.std.proofs.lemmas.Grind.{common_steps}
use Rattle.std.proofs.lemmas.List.{append-nil, map-append, nil_from_length}
use Rattle.std.specs.Vec.Iter.{into_iter_items}
use Rattle.cbs_house.specs.Feeds.{client_of, unsent_jobs}
use Rattle.cbs_house.proofs.feed.feeds_of.Goals as goal

-- an element more, of what comes first among the rest
moved : {X Y : Type 0} (f : X → Y) (xs : List X) (x : X) (ys rest : List Y) → ys ≡ f x ∷ rest → map f (xs ++ x ∷ []) ++ rest ≡ map f xs ++ ys
moved f xs x ys rest is = rw (is, map-append f xs (x ∷ []), append_assoc (map f xs) (f x ∷ []) rest) refl

pub loop-client-preserved : goal.loop-client-preserved
loop-client-preserved g c =
    let l = c.loop-client in
    let i = l.invariant in
    let next = c.in-Some.ensures.steps.0 in
    let more = c.push_reserved.ensures in
    let made = c.new.ensures in
    let taken : l.lists.items ≡ c.unwrap-jobs.result ∷ c.pop_front.new.self.items = rw c.unwrap-jobs.ensures at c.pop_front.ensures.items in
    record {
      can = tt;
      finite = tt;
      count = omega (arith, ap length next, c.in-Some.ensures.steps.1, i.count);
      room = omega (arith, ap length next, ap length more.items, length-append l.feeds.items (c.new.result ∷ []), more.capacity, i.room);
      same = omega (arith, ap length next, ap length taken, i.same);
      clients = rw more.items (moved client_of l.feeds.items c.new.result _ _ (rw made.client next) ∙ i.clients);
      jobs = rw more.items (moved unsent_jobs l.feeds.items c.new.result _ _ (rw made.left (ap (map (λ jobs. jobs.items)) taken)) ∙ i.jobs);
    }

pub returns-clause-clients : goal.returns-clause-clients
returns-clause-clients g c =
    let l = c.loop-client in
    let none : into_iter_items l.client-iterator ≡ [] = nil_from_length _ (sym l.invariant.count ∙ c.in-None.ensures.steps.0) in
    sym (append-nil (map client_of l.feeds.items)) ∙ (rw none at l.invariant.clients)

pub returns-clause-jobs : goal.returns-clause-jobs
returns-clause-jobs g c =
    let l = c.loop-client in
    let none : l.lists.items ≡ [] = nil_from_length _ (l.invariant.same ∙ (sym l.invariant.count ∙ c.in-None.ensures.steps.0)) in
    sym (append-nil (map unsent_jobs l.feeds.items)) ∙ (rw none at l.invariant.jobs)

pub returns-in_default-clause-clients : goal.returns-in_default-clause-clients
returns-in_default-clause-clients g c = refl

pub returns-in_default-clause-jobs : goal.returns-in_default-clause-jobs
returns-in_default-clause-jobs g c = refl

pub loop-client-init : goal.loop-client-init
loop-client-init g c =
    let empty = c.in-Ok.ensures.items in
    let gives = c.into_iter-client-iterator.ensures.into_iter_gives in
    record {
      can = tt;
      finite = tt;
      count = omega (arith, gives.1, ap length gives.0, c.args.clients.ok.0);
      room = omega (arith, ap length empty, ap length gives.0, c.in-Ok.ensures.capacity, c.len.ensures, c.args.clients.ok.0);
      same = grind (arith, common_steps);
      clients = rw (empty, gives.0) refl;
      jobs = grind (arith, common_steps);
    }

pub loop-client-smaller : goal.loop-client-smaller
loop-client-smaller g c = omega (arith, ap length c.in-Some.ensures.steps.0)
