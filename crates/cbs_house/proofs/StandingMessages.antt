-- The messages that stand in a ring, as they are taken one by one.
use Rattle.std.proofs.Common.{◌≡◌, ◌≢◌, ℕ, suc, ◌+◌, ◌<◌, get_or, true, Result, Ok, Err, OnOk, List, [], ◌∷◌, ◌++◌, length, refl, ap, sym, ◌∙◌, arith, inl}
use Rattle.std.proofs.Common.{inr, length-append}
use Rattle.std.specs.Prelude.{MatchResult}
use Rattle.std.proofs.Math.ListN.{set}
use Rattle.std.specs.List.{All, AllWithin}
use Rattle.std.proofs.lemmas.Bool.{false≢true}
use Rattle.std.proofs.lemmas.List.Elements.{All-weaker, All-set, AllWithin-more_set}
use Rattle.std.proofs.lemmas.List.{append-nil, append_assoc}
use mathlib.Core.List.{IsPrefix}
use Rattle.cbs_job.specs.Work.{Meaning}
use Rattle.cbs_job.specs.declared.work.Work.{Ghosts}
use Rattle.cbs_steps.specs.History.{History}
use Rattle.cbs_steps.specs.declared.step.Step.{Step}
use Rattle.cbs_clients.specs.declared.client.Client.{Client}
use Rattle.cbs_house.specs.declared.feed.Feed.{Feed}
use Rattle.cbs_clients.specs.declared.house.House.{House}
use Rattle.cbs_clients.specs.declared.message.Message.{Message}
use Rattle.cbs_clients.specs.declared.message.Message.TheVariants.{Job, End}
use Rattle.cbs_host.specs.declared.poll.Poll.{Poll}
use Rattle.cbs_host.specs.declared.poll.Poll.TheVariants.{Nothing, Took, Closed, Full, OutOfMemory, NoSuchServer}
use Rattle.cbs_clients.specs.Clients.{server_of, sent_by, IsOpened}
use Rattle.cbs_clients.specs.HouseInvariant.{Housed}
use Rattle.cbs_clients.specs.Houses.{core_of, rings_of, received, known, Made, MovesBy, LooksOnly, Polled, ServesBy}
use Rattle.cbs_core.specs.Held.{HoldsNoJob, held_at}
use Rattle.cbs_results.specs.Collected.{shelf_at}
use Rattle.cbs_clients.proofs.HouseInvariant.{counts}
use Rattle.cbs_clients.specs.Messages.{has_end, end_is_last}
use Rattle.cbs_clients.specs.Meters.{all_steps}
use Rattle.cbs_house.specs.Rounds.{Standing, IsTaken, ReceivesFirst, IsSettled}
use Rattle.cbs_clients.specs.Steps.{messages_of}
use Rattle.cbs_clients.proofs.RingLooks.{prefix_along, prefix_same, opened_within}
use Rattle.cbs_clients.proofs.MadeSteps.{eqb_same, looks_received}
use Rattle.cbs_clients.proofs.Moves.{none_taken}

module _ {X : Type 0} where
  nothing_before : (xs ys : List X) → IsPrefix xs ys → ys ≡ [] → xs ≡ []
  nothing_before [] ys p e = refl
  nothing_before (x ∷ xs) ys p e = cc (p.1, e)

  no_length : (xs : List X) → length xs ≡ 0 → xs ≡ []
  no_length [] e = refl
  no_length (x ∷ xs) e = absurd (omega (arith, e))

  -- a list that is followed by nothing more than itself
  nothing_behind : (xs ys zs : List X) → IsPrefix (xs ++ ys) xs → ys ≡ []
  nothing_behind xs ys zs p = no_length ys (let e = ap length p.1 in omega (arith, e, length-append (xs ++ ys) p.0, length-append xs ys))

module _ {W : Type 0} where
  -- nothing stands after an end
  end_stands_last : (ms : List (Message W)) (m : Message W) (ns : List (Message W)) → has_end ms ≡ true → end_is_last (ms ++ m ∷ ns) ≡ true → ⊥
  end_stands_last [] m ns e l = false≢true e
  end_stands_last (Job w ∷ ms) m ns e l = end_stands_last ms m ns e l
  end_stands_last (End ∷ []) m ns e l = false≢true l
  end_stands_last (End ∷ k ∷ ms) m ns e l = false≢true l

module _ {W A : Type 0} {g : Ghosts W} where
  -- what takes no message leaves what stands in the ring
  pub standing_kept : (a b : House W A g) (c : Client W A g) (n : ℕ) → received b (server_of c) ≡ received a (server_of c)
      → IsPrefix (known a (server_of c)) (known b (server_of c)) → Standing a c n → Standing b c n
  standing_kept a b c n e p h = record {
    rest = h.rest;
    sent = h.sent ∙ ap (λ ms. ms ++ h.rest) (sym e);
    seen = prefix_along h.rest (known a (server_of c)) (known b (server_of c)) h.seen p;
    count = h.count;
  }

  pub standing_at : (a : House W A g) (c : Client W A g) (m n : ℕ) → Standing a c m → m ≡ n → Standing a c n
  standing_at a c m n h e = rw e at h

  -- steps that take no message
  standing_made : (work : Meaning W) (a b : House W A g) (c : Client W A g) (n : ℕ) (xs : List (Step W)) → Made work a b xs
      → messages_of (server_of c) xs ≡ [] → Standing a c n → Standing b c n
  standing_made work a b c n xs m e h =
      let s = server_of c in
      let r : received b s ≡ received a s = (m.seats s).received ∙ (ap (λ ms. received a s ++ ms) e ∙ append-nil (received a s)) in
      let k : IsPrefix (known a s) (known b s) = let p = (m.seats s).known in rw e at p in
      standing_kept a b c n r k h

  pub standing_looked : (work : Meaning W) (a b : House W A g) (c : Client W A g) (n : ℕ) → Made work a b [] → Standing a c n → Standing b c n
  standing_looked work a b c n m h = standing_made work a b c n [] m refl h

  pub standing_moved : (work : Meaning W) (may : ℕ → ℕ → Type 0) (P : History W → Step W → Type 0) (a b : House W A g) (c : Client W A g) (n : ℕ)
      → MovesBy work may P a b 0
      → Standing a c n → Standing b c n
  standing_moved work may P a b c n m h = standing_made work a b c n (all_steps m.moves) m.made (none_taken (server_of c) (all_steps m.moves) m.count) h

  -- the first of them is taken
  taken_first : (a b : House W A g) (c : Client W A g) (n : ℕ) (m : Message W) (rest : List (Message W))
      → received b (server_of c) ≡ received a (server_of c) ++ m ∷ [] → IsPrefix (known a (server_of c)) (m ∷ known b (server_of c))
      → sent_by c ≡ received a (server_of c) ++ rest → IsPrefix rest (known a (server_of c)) → length rest ≡ suc n → Standing b c n
  taken_first a b c n m [] e p sent seen count = absurd (omega (arith, count))
  taken_first a b c n m (k ∷ rest) e p sent seen count =
      let s = server_of c in
      let q = prefix_along (k ∷ rest) (known a s) (m ∷ known b s) seen p in
      let same : k ≡ m = cc (q.1) in
      let behind : rest ++ q.0 ≡ known b s = cc (q.1) in
      record {
        rest = rest;
        sent = sent ∙ (ap (λ x. received a s ++ x ∷ rest) same ∙ (sym (append_assoc (received a s) (m ∷ []) rest) ∙ ap (λ ms. ms ++ rest) (sym e)));
        seen = (q.0, behind);
        count = omega (arith, count);
      }

  standing_next : (a b : House W A g) (c : Client W A g) (n : ℕ) (m : Message W)
      → received b (server_of c) ≡ received a (server_of c) ++ m ∷ [] → IsPrefix (known a (server_of c)) (m ∷ known b (server_of c))
      → Standing a c (suc n) → Standing b c n
  standing_next a b c n m e p h = taken_first a b c n m h.rest e p h.sent h.seen h.count

  none_seen : (a : House W A g) (c : Client W A g) (n : ℕ) → known a (server_of c) ≡ [] → Standing a c (suc n) → ⊥
  none_seen a c n e h = let none = nothing_before h.rest (known a (server_of c)) h.seen e in let l = ap length none in let k = h.count in omega (arith, l, k)

  none_behind : (a : House W A g) (c : Client W A g) (n : ℕ) (rest : List (Message W)) → has_end (received a (server_of c)) ≡ true
      → end_is_last (sent_by c) ≡ true → sent_by c ≡ received a (server_of c) ++ rest → length rest ≡ suc n → ⊥
  none_behind a c n [] e l sent count = omega (arith, count)
  none_behind a c n (k ∷ rest) e l sent count = end_stands_last (received a (server_of c)) k rest e (ap end_is_last (sym sent) ∙ l)

  -- if nothing stands in the ring any more, all that was sent was received
  pub standing_none : (a : House W A g) (f : Feed W A g) → Standing a f.client 0 → IsTaken a f
  standing_none a f h = (
    [],
    append-nil (sent_by f.client) ∙
        (h.sent ∙ (ap (λ ms. received a (server_of f.client) ++ ms) (no_length h.rest h.count) ∙ append-nil (received a (server_of f.client)))),
  )

  -- what stands in a ring was sent after all that was received
  pub standing_first : (a : House W A g) (f : Feed W A g) (n : ℕ) → Standing a f.client n → ReceivesFirst a f
  standing_first a f n h = (h.rest, sym h.sent)

  -- what was settled is received first
  pub all_first : (a : House W A g) (fs : List (Feed W A g)) → All (IsSettled a) fs → All (ReceivesFirst a) fs
  all_first a fs h = All-weaker (IsSettled a) (ReceivesFirst a) (λ f e. ([], append-nil (received a (server_of f.client)) ∙ e)) fs h

  -- if all that was sent was received, and nothing else, it is settled
  settled_at : (a : House W A g) (f : Feed W A g) → IsTaken a f → ReceivesFirst a f → IsSettled a f
  settled_at a f taken first =
      let r = received a (server_of f.client) in
      let p : IsPrefix (r ++ first.0) r = (taken.0, ap (λ ms. ms ++ taken.0) first.1 ∙ taken.1) in
      sym (sym first.1 ∙ (ap (λ ms. r ++ ms) (nothing_behind r first.0 [] p) ∙ append-nil r))

  pub all_settled : (a : House W A g) (fs : List (Feed W A g)) → All (IsTaken a) fs → All (ReceivesFirst a) fs → All (IsSettled a) fs
  all_settled a fs taken first k d l = settled_at a (get_or fs k d) (taken k d l) (first k d l)

  -- what was taken stays so if nothing was sent or received
  pub taken_same : (a b : House W A g) (e f : Feed W A g) → server_of f.client ≡ server_of e.client → sent_by f.client ≡ sent_by e.client
      → ((s : ℕ) → received b s ≡ received a s) → IsTaken a e → IsTaken b f
  taken_same a b e f server same looked taken =
      let now : received b (server_of f.client) ≡ received a (server_of e.client) =
      looked (server_of f.client) ∙ ap (λ (s : ℕ). received a s) server in
      (taken.0, ap (λ ms. ms ++ taken.0) same ∙ (taken.1 ∙ sym now))

  -- what was received stays received
  taken_after : (a b : House W A g) (f : Feed W A g) → IsPrefix (received a (server_of f.client)) (received b (server_of f.client)) → IsTaken a f → IsTaken b f
  taken_after a b f p h = prefix_along (sent_by f.client) (received a (server_of f.client)) (received b (server_of f.client)) h p

  pub all_taken_after : (a b : House W A g) (fs : List (Feed W A g)) → ((s : ℕ) → IsPrefix (received a s) (received b s)) → All (IsTaken a) fs
      → All (IsTaken b) fs
  all_taken_after a b fs p h = All-weaker (IsTaken a) (IsTaken b) (λ f k. taken_after a b f (p (server_of f.client)) k) fs h

  pub taken_looked : (a b : House W A g) (fs : List (Feed W A g)) → LooksOnly a b → All (IsTaken a) fs → All (IsTaken b) fs
  taken_looked a b fs l h = all_taken_after a b fs (λ s. prefix_same (received a s) (received b s) (looks_received a b l s)) h

  -- steps receive more
  pub received_more : (work : Meaning W) (may : ℕ → ℕ → Type 0) (a b : House W A g) → ServesBy work may a b → (s : ℕ) → IsPrefix (received a s) (received b s)
  received_more work may a b m s = let x = m.moves.1 in (messages_of s (all_steps x.moves), sym (x.made.seats s).received)

  pub taken_set : (a : House W A g) (fs : List (Feed W A g)) (i : ℕ) (f : Feed W A g) → All (IsTaken a) fs → IsTaken a f → All (IsTaken a) (set fs i f)
  taken_set a fs i f h k = All-set (IsTaken a) fs i f k h

  -- one more feed's messages are taken
  pub taken_more : (a b : House W A g) (fs : List (Feed W A g)) (i : ℕ) (f : Feed W A g) → i < length fs → ((s : ℕ) → IsPrefix (received a s) (received b s))
      → AllWithin (IsTaken a) fs 0 i → IsTaken b f → AllWithin (IsTaken b) (set fs i f) 0 (i + 1)
  taken_more a b fs i f l p old new = AllWithin-more_set fs i f l (IsTaken b)
      (λ k d q r. let e = get_or fs k d in taken_after a b e (p (server_of e.client)) (old k d q r)) new

  module _ (work : Meaning W) where
    -- a poll that finds memory and no full backlog takes the next message that stands in the ring
    pub poll_takes : (a b : House W A g) (c : Client W A g) (p : Poll) → Housed work a.core a.rings a.collector → end_is_last (sent_by c) ≡ true
        → IsOpened (rings_of a) c
        → Polled work a (server_of c) p b → p ≢ OutOfMemory → p ≢ Full → (n : ℕ) → Standing a c (suc n) → Standing b c n
    poll_takes a b c (Took q) housed last opened k memory few n h =
        let s = server_of c in
        let m = k.1 in
        standing_next a b c n (Job k.0) ((m.seats s).received ∙ rw (eqb_same s) refl) (let p = (m.seats s).known in rw (eqb_same s) at p) h
    poll_takes a b c Closed housed last opened k memory few n h =
        let s = server_of c in
        let m = k.0 in
        standing_next a b c n End ((m.seats s).received ∙ rw (eqb_same s) refl) (let p = (m.seats s).known in rw (eqb_same s) at p) h
    poll_takes a b c Nothing housed last opened k memory few n h =
        let s = server_of c in
        absurd (elim k.2 [
          | inl closed ↦ none_behind a c n h.rest (sym (housed.servers s k.1).closed ∙ closed) last h.sent h.count
          | inr none ↦ none_seen a c n (nothing_before (known a s) (known b s) (k.0.seats s).known none) h
        ])
    poll_takes a b c NoSuchServer housed last opened k memory few n h =
        absurd (let l = opened_within (rings_of a) c opened in let r = housed.ring_count in omega (arith, l, r, k.1))
    poll_takes a b c Full housed last opened k memory few n h = absurd (few refl)
    poll_takes a b c OutOfMemory housed last opened k memory few n h = absurd (memory refl)

    -- if no job is held, no backlog is full
    pub not_full : (a b : House W A g) (s : ℕ) (p : Poll) → Housed work a.core a.rings a.collector → HoldsNoJob (core_of a) → Polled work a s p b → p ≢ Full
    not_full a b s p housed none k e =
        let full : Polled work a s Full b = rw e at k in
        let l = ap length (none s) in
        let some = housed.backlog in
        let k = housed.servers s full.1.within in
        let held = held_at (core_of a) s in
        let shelf = shelf_at a.collector s in
        let all = counts work held held (received a s) (received a s) shelf.handed shelf.handed shelf.early shelf.early shelf.results shelf.results k in
        let accepted = k.accepted in
        let finished = k.finished in
        omega (arith, l, some, full.3, all, accepted, finished)

pub answered_ok : {T E X : Type 0} (r : Result T E) (P : Type 0) (Q : E → Type 0) → MatchResult r (λ _. X) Q → (X → P) → OnOk r P
answered_ok (Ok x) P Q m f = f m
answered_ok (Err e) P Q m f = tt
