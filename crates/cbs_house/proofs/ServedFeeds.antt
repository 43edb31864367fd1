-- What is served at the end.
use Rattle.std.proofs.Common.{◌≡◌, ◌<◌, ◌++◌, List, drop, length, map, get_or, ap, sym, ◌∙◌, arith}
use Rattle.std.specs.List.{All}
use Rattle.std.proofs.lemmas.List.{append-nil}
use Rattle.cbs_job.specs.Work.{Meaning, whole}
use Rattle.cbs_job.specs.declared.work.Work.{Ghosts}
use Rattle.cbs_clients.specs.Clients.{server_of, sent_by, IsOpened}
use Rattle.cbs_house.specs.Feeds.{IsDone, all_jobs}
use Rattle.cbs_clients.specs.HouseInvariant.{Housed}
use Rattle.cbs_clients.specs.Houses.{core_of, rings_of, received, handed_of}
use Rattle.cbs_core.specs.Held.{HoldsNoJob}
use Rattle.cbs_clients.specs.Messages.{jobs_among}
use Rattle.cbs_house.specs.Rounds.{Ready, IsSettled, IsServed}
use Rattle.cbs_house.specs.declared.feed.Feed.{Feed}
use Rattle.cbs_clients.specs.declared.house.House.{House}
use Rattle.cbs_house.proofs.Feeds.{ready_at}
use Rattle.cbs_clients.proofs.RingLooks.{opened_within}
use Rattle.cbs_clients.proofs.HouseInvariant.{none_held}

module _ {W A : Type 0} {g : Ghosts W} (work : Meaning W) (h : House W A g) (housed : Housed work h.core h.rings h.collector) where
  served_at : (f : Feed W A g) → HoldsNoJob (core_of h) → IsOpened (rings_of h) f.client → IsDone f → IsSettled h f → IsServed work h f
  served_at f none opened done settled =
      let s = server_of f.client in
      let l : s < length (core_of h).faces = omega (arith, housed.ring_count, opened_within (rings_of h) f.client opened) in
      let all : jobs_among (received h s) ≡ all_jobs f = ap jobs_among settled
      ∙ (sym (append-nil (jobs_among (sent_by f.client))) ∙ ap (λ ws. jobs_among (sent_by f.client) ++ ws) (sym done.none_left)) in
      record {
        done = done;
        results = λ early. none_held work h housed none s l early ∙ ap (λ ws. drop (handed_of h s) (map (whole work) ws)) all;
      }

  -- if no job is held, all feeds are done and all their messages received, all is served
  pub all_served : (fs : List (Feed W A g)) → HoldsNoJob (core_of h) → Ready h fs → All IsDone fs → All (IsSettled h) fs → All (IsServed work h) fs
  all_served fs none ready done settled k d l = served_at (get_or fs k d) none (ready_at h fs k d l ready) (done k d l) (settled k d l)
