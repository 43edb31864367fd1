-- What is kept of feeds, one call after another.
use Rattle.std.proofs.Common.{◌≡◌, ℕ, zero, suc, false, ◌+◌, take, ◌<◌, ◌≤◌, ◌++◌, List, [], ◌∷◌, length, get_or, map, refl, ap, ap₂, sym, ◌∙◌, subst, arith}
use Rattle.std.proofs.Math.ListN.{set}
use Rattle.std.proofs.lemmas.Bool.{false≢true}
use Rattle.std.proofs.lemmas.List.{append-nil, length-map, get_or-map, take_more, take_more_set}
use Rattle.std.proofs.lemmas.List.Elements.{All-nil, All-cons, All-head, All-tail}
use Rattle.std.specs.List.{All}
use Rattle.cbs_job.specs.declared.work.Work.{Ghosts}
use Rattle.cbs_clients.specs.declared.client.Client.{Client}
use Rattle.cbs_house.specs.declared.feed.Feed.{Feed}
use Rattle.cbs_clients.specs.declared.house.House.{House}
use Rattle.cbs_clients.specs.Clients.{server_of, sent_by, SameClient, IsOpened, AreOpened}
use Rattle.cbs_clients.specs.Houses.{rings_of}
use Rattle.cbs_clients.specs.declared.message.Message.TheVariants.{Job}
use Rattle.cbs_clients.specs.Messages.{jobs_among, has_end}
use Rattle.cbs_clients.proofs.Messages.{sent-job, has_end-job}
use Rattle.cbs_clients.specs.Opened.{IsUnused}
use Rattle.cbs_clients.specs.Rings.{Ring}
use Rattle.cbs_house.specs.Rounds.{Ready}
use Rattle.cbs_house.specs.Feeds.{client_of, unsent_jobs, all_jobs, KeepsFeed, KeepsFeeds, SendsAtMost, EachSendsAtMost, SendsFeeds, servers_of}
use Rattle.cbs_clients.proofs.RingLooks.{prefix_along, prefix_same}
use Rattle.cbs_clients.proofs.NewHouses.{are_opened}

module _ {W A : Type 0} {g : Ghosts W} where
  -- a feed that nothing was done to is kept
  pub keeps_feed : (f : Feed W A g) → KeepsFeed f f
  keeps_feed f = record { client = (refl, refl); jobs = refl; sent = ([], append-nil (sent_by f.client)); orderly = λ o. o }

  -- what is kept twice is kept
  pub keeps_feed_on : (a b c : Feed W A g) → KeepsFeed a b → KeepsFeed b c → KeepsFeed a c
  keeps_feed_on a b c p q = record {
    client = (q.client.0 ∙ p.client.0, q.client.1 ∙ p.client.1);
    jobs = q.jobs ∙ p.jobs;
    sent = prefix_along (sent_by a.client) (sent_by b.client) (sent_by c.client) p.sent q.sent;
    orderly = λ o. q.orderly (p.orderly o);
  }

  -- a look by the client keeps its feed
  pub keeps_looked : (a b : Feed W A g) → SameClient a.client b.client → sent_by b.client ≡ sent_by a.client → unsent_jobs b ≡ unsent_jobs a → KeepsFeed a b
  keeps_looked a b c e l = record {
    client = c;
    jobs = ap (λ ms. jobs_among ms ++ unsent_jobs b) e ∙ ap (λ ws. jobs_among (sent_by a.client) ++ ws) l;
    sent = prefix_same (sent_by a.client) (sent_by b.client) e;
    orderly = λ o t. l ∙ o (ap has_end (sym e) ∙ t);
  }

  -- the client looks for a slot, and sends the first of the jobs that are left
  pub keeps_sent : (f h : Feed W A g) (b : Client W A g) (w : W) → SameClient f.client b × (sent_by b ≡ sent_by f.client) → SameClient b h.client
      → sent_by h.client ≡ sent_by b ++ Job w ∷ [] → unsent_jobs f ≡ w ∷ unsent_jobs h → has_end (sent_by f.client) ≡ false → KeepsFeed f h
  keeps_sent f h b w c s e l n =
      let sent : sent_by h.client ≡ sent_by f.client ++ Job w ∷ [] = e ∙ ap (λ ms. ms ++ Job w ∷ []) c.1 in
      record {
        client = (s.0 ∙ c.0.0, s.1 ∙ c.0.1);
        jobs = ap (λ ms. jobs_among ms ++ unsent_jobs h) sent ∙ sent-job (sent_by f.client) w (unsent_jobs h)
            ∙ ap (λ ws. jobs_among (sent_by f.client) ++ ws) (sym l);
        sent = (Job w ∷ [], sym sent);
        orderly = λ o t. absurd (false≢true (sym n ∙ sym (has_end-job (sent_by f.client) w) ∙ ap has_end (sym sent) ∙ t));
      }

  -- so it is of all feeds
  pub feeds_same : (fs : List (Feed W A g)) → KeepsFeeds fs fs
  unfolding KeepsFeeds
  feeds_same [] = tt
  feeds_same (f ∷ fs) = (keeps_feed f, feeds_same fs)

  -- one after another
  pub feeds_on : (a b c : List (Feed W A g)) → KeepsFeeds a b → KeepsFeeds b c → KeepsFeeds a c
  unfolding KeepsFeeds
  feeds_on [] [] c p q = q
  feeds_on [] (y ∷ b) c p q = absurd p
  feeds_on (x ∷ a) [] c p q = absurd p
  feeds_on (x ∷ a) (y ∷ b) [] p q = absurd q
  feeds_on (x ∷ a) (y ∷ b) (z ∷ c) p q = (keeps_feed_on x y z p.0 q.0, feeds_on a b c p.1 q.1)

  -- of one
  pub feeds_one : (a b : Feed W A g) → KeepsFeed a b → KeepsFeeds (a ∷ []) (b ∷ [])
  unfolding KeepsFeeds
  feeds_one a b p = (p, tt)

  -- of two parts
  pub feeds_both : (a b c d : List (Feed W A g)) → KeepsFeeds a b → KeepsFeeds c d → KeepsFeeds (a ++ c) (b ++ d)
  unfolding KeepsFeeds
  feeds_both [] [] c d p q = q
  feeds_both [] (y ∷ b) c d p q = absurd p
  feeds_both (x ∷ a) [] c d p q = absurd p
  feeds_both (x ∷ a) (y ∷ b) c d p q = (p.0, feeds_both a b c d p.1 q)

  -- one of the feeds is changed, and kept
  pub feeds_set : (fs : List (Feed W A g)) (i : ℕ) (f d : Feed W A g) → i < length fs → KeepsFeed (get_or fs i d) f → KeepsFeeds fs (set fs i f)
  unfolding KeepsFeeds
  feeds_set [] i f d l p = absurd (omega arith)
  feeds_set (x ∷ fs) zero f d l p = (p, feeds_same fs)
  feeds_set (x ∷ fs) (suc i) f d l p = (keeps_feed x, feeds_set fs i f d (omega arith) p)

  -- as many feeds as before
  pub feeds_count : (a b : List (Feed W A g)) → KeepsFeeds a b → length b ≡ length a
  unfolding KeepsFeeds
  feeds_count [] [] p = refl
  feeds_count [] (y ∷ b) p = absurd p
  feeds_count (x ∷ a) [] p = absurd p
  feeds_count (x ∷ a) (y ∷ b) p = ap suc (feeds_count a b p.1)

  -- feeds that are kept have the same servers, and the same jobs
  pub feeds_servers : (a b : List (Feed W A g)) → KeepsFeeds a b → map (λ f. server_of (client_of f)) b ≡ map (λ f. server_of (client_of f)) a
  unfolding KeepsFeeds
  feeds_servers [] [] p = refl
  feeds_servers [] (y ∷ b) p = absurd p
  feeds_servers (x ∷ a) [] p = absurd p
  feeds_servers (x ∷ a) (y ∷ b) p = ap₂ ◌∷◌ p.0.client.0 (feeds_servers a b p.1)

  -- with the same jobs
  pub feeds_jobs : (a b : List (Feed W A g)) → KeepsFeeds a b → map all_jobs b ≡ map all_jobs a
  unfolding KeepsFeeds
  feeds_jobs [] [] p = refl
  feeds_jobs [] (y ∷ b) p = absurd p
  feeds_jobs (x ∷ a) [] p = absurd p
  feeds_jobs (x ∷ a) (y ∷ b) p = ap₂ ◌∷◌ p.0.jobs (feeds_jobs a b p.1)

  -- a client of a feed that is kept is of the same house
  pub opened_same : (rings rings' : List (Ring A)) (a b : Feed W A g) → rings' ≡ rings → KeepsFeed a b → IsOpened rings a.client → IsOpened rings' b.client
  opened_same rings rings' a b e p o = rw (e, p.client.0, p.client.1) o

  -- so it is if the house made steps
  pub opened_moved : (a b : House W A g) (c : Client W A g) → rings_of b ≡ rings_of a → IsOpened (rings_of a) c → IsOpened (rings_of b) c
  opened_moved a b c e o = rw e o

  -- so are all
  pub feeds_opened : (rings rings' : List (Ring A)) (a b : List (Feed W A g)) → rings' ≡ rings → KeepsFeeds a b → All (λ f. IsOpened rings f.client) a
      → All (λ f. IsOpened rings' f.client) b
  unfolding KeepsFeeds
  feeds_opened rings rings' [] [] e p o = All-nil (λ f. IsOpened rings' f.client)
  feeds_opened rings rings' [] (y ∷ b) e p o = absurd p
  feeds_opened rings rings' (x ∷ a) [] e p o = absurd p
  feeds_opened rings rings' (x ∷ a) (y ∷ b) e p o =
      All-cons (λ f. IsOpened rings' f.client) y b (opened_same rings rings' x y e p.0 (All-head (λ f. IsOpened rings f.client) x a o))
      (feeds_opened rings rings' a b e p.1 (All-tail (λ f. IsOpened rings f.client) x a o))

  -- of feeds, and of their clients
  all_to_map : (rings : List (Ring A)) (fs : List (Feed W A g)) → All (λ f. IsOpened rings f.client) fs → All (IsOpened rings) (map client_of fs)
  all_to_map rings [] h = All-nil (IsOpened rings)
  all_to_map rings (f ∷ fs) h = All-cons (IsOpened rings) (client_of f) (map client_of fs) (All-head (λ x. IsOpened rings x.client) f fs h)
      (all_to_map rings fs (All-tail (λ x. IsOpened rings x.client) f fs h))

  -- of the clients of feeds
  are_of_feeds : (rings : List (Ring A)) (fs : List (Feed W A g)) → All (λ f. IsOpened rings f.client) fs → AreOpened rings (map client_of fs)
  are_of_feeds rings fs h = are_opened rings (map client_of fs) (all_to_map rings fs h)

  -- and the other way round
  pub all_of_feeds : (rings : List (Ring A)) (fs : List (Feed W A g)) → AreOpened rings (map client_of fs) → All (λ f. IsOpened rings f.client) fs
  all_of_feeds rings [] h = All-nil (λ f. IsOpened rings f.client)
  all_of_feeds rings (f ∷ fs) h = All-cons (λ x. IsOpened rings x.client) f fs (cc h) (all_of_feeds rings fs (cc h))

  -- the client of each feed that may be served was opened with the house
  pub ready_at : (h : House W A g) (fs : List (Feed W A g)) (i : ℕ) (d : Feed W A g) → i < length fs → Ready h fs → IsOpened (rings_of h) (get_or fs i d).client
  ready_at h fs i d l r = all_of_feeds (rings_of h) fs r.opened i d l

  -- feeds of clients that were opened with the house may be served
  pub ready_new : (h : House W A g) (fs : List (Feed W A g)) (cs : List (Client W A g)) → map client_of fs ≡ cs → length cs ≤ 64
      → AreOpened (rings_of h) cs → Ready h fs
  ready_new h fs cs clients few opened = record {
    few = omega (arith, few, ap length clients, length-map fs (client_of {W = W}));
    opened = subst (λ xs. AreOpened (rings_of h) xs) (sym clients) opened;
  }

  -- feeds that are kept stay ready, as long as the rings are the same
  pub ready_on : (h h' : House W A g) (a b : List (Feed W A g)) → rings_of h' ≡ rings_of h → KeepsFeeds a b → Ready h a → Ready h' b
  ready_on h h' a b e p r = record {
    few = omega (arith, r.few, feeds_count a b p);
    opened = are_of_feeds (rings_of h') b (feeds_opened (rings_of h) (rings_of h') a b e p (all_of_feeds (rings_of h) a r.opened));
  }

module _ {W A : Type 0} {g : Ghosts W} where
  -- one feed is changed and kept, and the house keeps its rings
  pub ready_set : (h h' : House W A g) (fs : List (Feed W A g)) (i : ℕ) (f d : Feed W A g) → rings_of h' ≡ rings_of h → i < length fs
      → KeepsFeed (get_or fs i d) f → Ready h fs → Ready h' (set fs i f)
  ready_set h h' fs i f d e l k r = ready_on h h' fs (set fs i f) e (feeds_set fs i f d l k) r

module _ {X Y : Type 0} where
  -- what holds of mapped elements
  all_of_map : (P : Y → Type 0) (f : X → Y) (xs : List X) → All P (map f xs) → All (λ x. P (f x)) xs
  all_of_map P f [] h = All-nil (λ x. P (f x))
  all_of_map P f (x ∷ xs) h = All-cons (λ y. P (f y)) x xs (All-head P (f x) (map f xs) h) (all_of_map P f xs (All-tail P (f x) (map f xs) h))

module _ {W A : Type 0} {g : Ghosts W} where
  -- a feed whose client has sent nothing has all its jobs still
  pub unused_jobs : (ring : ℕ) (f : Feed W A g) → IsUnused ring (client_of f) → all_jobs f ≡ unsent_jobs f
  unused_jobs ring f u = ap (λ ms. jobs_among ms ++ unsent_jobs f) u.sent

  module _ (ring : ℕ) (fs : List (Feed W A g)) (cs : List (Client W A g)) (clients : map client_of fs ≡ cs) (unused : All (IsUnused ring) cs) where
    pub feeds_unused : All (λ f. IsUnused ring (client_of f)) fs
    feeds_unused = all_of_map (IsUnused ring) client_of fs (subst (λ xs. All (IsUnused ring) xs) (sym clients) unused)

module _ {W A : Type 0} {g : Ghosts W} where
  -- the server of one more feed is noted
  pub server_noted :
      (servers : List ℕ) (fs : List (Feed W A g)) (i s : ℕ) (d : Feed W A g) → i < length servers → i < length fs → s ≡ server_of (get_or fs i d).client
      → take i servers ≡ take i (servers_of fs) → take (i + 1) (set servers i s) ≡ take (i + 1) (servers_of fs)
  server_noted servers fs i s d k l e h =
      let f = λ (x : Feed W A g). server_of x.client in
      take_more_set servers i s k ∙ (ap₂ (λ xs (x : ℕ). xs ++ x ∷ []) h (e ∙ sym (get_or-map f fs i d 0 l))
      ∙ sym (take_more (servers_of fs) i 0 (omega (arith, length-map fs f))))

module _ {W A : Type 0} {g : Ghosts W} (n : ℕ) where
  -- a feed that did nothing sends no more than it may
  most_same : (fs : List (Feed W A g)) → EachSendsAtMost n fs fs
  unfolding EachSendsAtMost
  most_same [] = tt
  most_same (f ∷ fs) = (omega arith, most_same fs)

  -- of two parts
  most_both : (a b c d : List (Feed W A g)) → EachSendsAtMost n a b → EachSendsAtMost n c d → EachSendsAtMost n (a ++ c) (b ++ d)
  unfolding EachSendsAtMost
  most_both [] [] c d p q = q
  most_both [] (y ∷ b) c d p q = absurd p
  most_both (x ∷ a) [] c d p q = absurd p
  most_both (x ∷ a) (y ∷ b) c d p q = (p.0, most_both a b c d p.1 q)

  -- for all feeds, if one did something
  most_set : (fs : List (Feed W A g)) (i : ℕ) (f d : Feed W A g) → i < length fs → SendsAtMost n (get_or fs i d) f → EachSendsAtMost n fs (set fs i f)
  unfolding EachSendsAtMost
  most_set [] i f d l p = absurd (omega arith)
  most_set (x ∷ fs) zero f d l p = (p, most_same fs)
  most_set (x ∷ fs) (suc i) f d l p = (omega arith, most_set fs i f d (omega arith) p)

  -- no feed sends
  pub sends_none : (fs : List (Feed W A g)) → SendsFeeds n fs fs
  sends_none fs = record { kept = feeds_same fs; most = most_same fs }

  -- one of the feeds sends
  pub sends_set : (fs : List (Feed W A g)) (i : ℕ) (f d : Feed W A g) → i < length fs → KeepsFeed (get_or fs i d) f → SendsAtMost n (get_or fs i d) f
      → SendsFeeds n fs (set fs i f)
  sends_set fs i f d l k m = record { kept = feeds_set fs i f d l k; most = most_set fs i f d l m }

  -- two lists of feeds send
  pub sends_both : (a b c d : List (Feed W A g)) → SendsFeeds n a b → SendsFeeds n c d → SendsFeeds n (a ++ c) (b ++ d)
  sends_both a b c d p q = record { kept = feeds_both a b c d p.kept q.kept; most = most_both a b c d p.most q.most }

pub ruleset fed = (keeps_looked, keeps_feed, keeps_feed_on, feeds_same, feeds_on, feeds_one, feeds_both, feeds_count)
