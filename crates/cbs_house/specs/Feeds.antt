-- What a contract says about a feed.
use Rattle.std.specs.Prelude.{ℕ, ◌≡◌, ◌+◌, ◌≤◌, Bool, true, cond, List, [], ◌++◌, length, map}
use Rattle.std.specs.List.{sum_by, AllZip}
use mathlib.Core.List.{IsPrefix}
use Rattle.cbs_job.specs.declared.work.Work.{Ghosts}
use Rattle.cbs_clients.specs.declared.client.Client.{Client}
use Rattle.cbs_house.specs.declared.feed.Feed.{Feed}
use Rattle.cbs_clients.specs.Clients.{server_of, sent_by, SameClient}
use Rattle.cbs_clients.specs.Messages.{jobs_among, has_end}

module _ {W A : Type 0} {g : Ghosts W} where
  -- the feed's client
  abbrev pub client_of : Feed W A g → Client W A g
  client_of f = f.client

  -- the jobs that the feed has not sent yet, in order
  abbrev pub unsent_jobs : Feed W A g → List W
  unsent_jobs f = f.jobs.items

  -- the jobs that the feed's client sent, followed by those that are left
  abbrev pub all_jobs : Feed W A g → List W
  all_jobs f = jobs_among (sent_by f.client) ++ unsent_jobs f

  -- whether the feed's client has ended
  abbrev pub has_ended : Feed W A g → Bool
  has_ended f = has_end (sent_by f.client)

  -- the client has ended only if no job is left
  abbrev pub IsOrderly : Feed W A g → Type 0
  IsOrderly f = has_ended f ≡ true → unsent_jobs f ≡ []

  -- no job is left, and the client has ended
  pub record IsDone (f : Feed W A g) : Type 0 where
    pub ended : has_ended f ≡ true
    pub none_left : unsent_jobs f ≡ []

  -- how many messages the feed still has to send: its jobs, and then the end
  abbrev pub unsent : Feed W A g → ℕ
  unsent f = length (unsent_jobs f) + cond (has_ended f) 0 1

  -- What every call keeps of a feed: its server and ring, and all its jobs, sent or left, in order. The messages sent
  -- before stay a prefix of those sent. The client does not end before its jobs are sent
  pub record KeepsFeed (old new : Feed W A g) : Type 0 where
    pub client : SameClient old.client new.client
    pub jobs : all_jobs new ≡ all_jobs old
    pub sent : IsPrefix (sent_by old.client) (sent_by new.client)
    pub orderly : IsOrderly old → IsOrderly new

  -- KeepsFeed for each of several feeds
  unfoldable pub KeepsFeeds : List (Feed W A g) → List (Feed W A g) → Type 0
  KeepsFeeds old new = AllZip KeepsFeed old new

  -- the feed's client sent at most n messages
  abbrev pub SendsAtMost : ℕ → Feed W A g → Feed W A g → Type 0
  SendsAtMost n old new = length (sent_by new.client) ≤ length (sent_by old.client) + n

  -- SendsAtMost for each of several feeds
  unfoldable pub EachSendsAtMost : ℕ → List (Feed W A g) → List (Feed W A g) → Type 0
  EachSendsAtMost n old new = AllZip (SendsAtMost n) old new

  -- the feeds are kept, and each client sent at most n messages
  pub record SendsFeeds (n : ℕ) (old new : List (Feed W A g)) : Type 0 where
    pub kept : KeepsFeeds old new
    pub most : EachSendsAtMost n old new

  -- the servers of the feeds' clients, in order
  abbrev pub servers_of : List (Feed W A g) → List ℕ
  servers_of fs = map (λ f. server_of f.client) fs

  -- how many messages the feeds' clients have sent
  abbrev pub all_sent : List (Feed W A g) → ℕ
  all_sent fs = sum_by (λ f. length (sent_by f.client)) fs

  -- how many messages the feeds still have to send
  abbrev pub all_unsent : List (Feed W A g) → ℕ
  all_unsent fs = sum_by unsent fs
