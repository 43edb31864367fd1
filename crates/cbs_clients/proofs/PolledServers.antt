-- The polls of a turn, one after another.
use Rattle.std.proofs.Common.{◌≡◌, ℕ, ◌+◌, ◌≤◌, ◌<◌, zero, suc, inr, subst, Bool, true, false, ◌||◌, List, [], ◌∷◌, ◌++◌, length, refl, ap, sym, ◌∙◌, arith, length-append}
use Rattle.std.proofs.lemmas.List.{append-nil, length-map}
use Rattle.cbs_rate.specs.Limits.{most_servers}
use Rattle.cbs_clients.specs.Rings.{consumer_ring}
use Rattle.std.specs.List.{list_any}
use Rattle.cbs_job.specs.Work.{Meaning}
use Rattle.cbs_job.specs.declared.work.Work.{Ghosts}
use Rattle.cbs_steps.specs.declared.step.Step.{Step}
use Rattle.cbs_steps.specs.declared.step.Step.TheVariants.{Submit, Run, Advance, Close, Charge}
use Rattle.cbs_clients.specs.declared.house.House.{House}
use Rattle.cbs_host.specs.declared.poll.Poll.{Poll}
use Rattle.cbs_host.specs.declared.poll.Poll.TheVariants.{Nothing, Took, Closed, Full, OutOfMemory, NoSuchServer}
use Rattle.cbs_clients.specs.HouseInvariant.{Housed}
use Rattle.cbs_clients.specs.Houses.{core_of, rings_of, known, Made, SameHouse, Polled}
use Rattle.cbs_clients.specs.Turns.{lacks_memory, Answered, PollsEach, popped_by, ArePolls}
use Rattle.cbs_clients.specs.Steps.{pops}
use Rattle.cbs_clients.proofs.MadeSteps.{made_nothing, made_both, made_same, polled_after, same_here}
use Rattle.cbs_clients.proofs.StepMessages.{pops-append}

or_assoc : (a b c : Bool) → (a || (b || c)) ≡ ((a || b) || c)
or_assoc true b c = refl
or_assoc false b c = refl

or_false : (a : Bool) → (a || false) ≡ a
or_false true = refl
or_false false = refl

-- whether one of several polls lacks memory, with one more after them
any_more : (ps : List Poll) (p : Poll) → list_any lacks_memory (ps ++ p ∷ []) ≡ (list_any lacks_memory ps || lacks_memory p)
any_more [] p = or_false (lacks_memory p)
any_more (q ∷ ps) p = ap (λ x. lacks_memory q || x) (any_more ps p) ∙ or_assoc (lacks_memory q) (list_any lacks_memory ps) (lacks_memory p)

module _ {W : Type 0} where
  polls_wider : (first n : ℕ) (xs : List (Step W)) → ArePolls first n xs → ArePolls first (n + 1) xs
  polls_wider first n [] p = tt
  polls_wider first n (Submit s job ∷ xs) p = (p.0, omega (arith, p.1), polls_wider (s + 1) n xs p.2)
  polls_wider first n (Close s ∷ xs) p = (p.0, omega (arith, p.1), polls_wider (s + 1) n xs p.2)
  polls_wider first n (Run ∷ xs) p = absurd p
  polls_wider first n (Advance m ∷ xs) p = absurd p
  polls_wider first n (Charge t m ∷ xs) p = absurd p

  -- a message of the next server after those of the servers before it
  polls_more : (first n : ℕ) (xs : List (Step W)) (x : Step W) → first ≤ n → ((m : ℕ) → m ≤ n → ArePolls m (n + 1) (x ∷ [])) → ArePolls first n xs
      → ArePolls first (n + 1) (xs ++ x ∷ [])
  polls_more first n [] x l one p = one first l
  polls_more first n (Submit s job ∷ xs) x l one p = (p.0, omega (arith, p.1), polls_more (s + 1) n xs x (omega (arith, p.1)) one p.2)
  polls_more first n (Close s ∷ xs) x l one p = (p.0, omega (arith, p.1), polls_more (s + 1) n xs x (omega (arith, p.1)) one p.2)
  polls_more first n (Run ∷ xs) x l one p = absurd p
  polls_more first n (Advance m ∷ xs) x l one p = absurd p
  polls_more first n (Charge t m ∷ xs) x l one p = absurd p

  -- polls take at most one message of each server
  polls_few : (first n : ℕ) (xs : List (Step W)) → first ≤ n → ArePolls first n xs → first + pops xs ≤ n
  polls_few first n [] l p = omega arith
  polls_few first n (Submit s job ∷ xs) l p = let h = polls_few (s + 1) n xs (omega (arith, p.1)) p.2 in omega (arith, h, p.0)
  polls_few first n (Close s ∷ xs) l p = let h = polls_few (s + 1) n xs (omega (arith, p.1)) p.2 in omega (arith, h, p.0)
  polls_few first n (Run ∷ xs) l p = absurd p
  polls_few first n (Advance m ∷ xs) l p = absurd p
  polls_few first n (Charge t m ∷ xs) l p = absurd p

module _ {W A : Type 0} {g : Ghosts W} (work : Meaning W) where
  pub polled_none : (a b : House W A g) → SameHouse a b → PollsEach work 0 a b 0 false
  polled_none a b h = record { answers = []; all = refl; answered = h; memory = refl; polls = []; each = tt; made = made_same work a b h; count = refl }

  -- one more poll after others
  answered_more : (s n : ℕ) (a b c : House W A g) (ps : List Poll) (p : Poll) → s + length ps ≡ n → Answered work s a ps b → Polled work b n p c
      → Answered work s a (ps ++ p ∷ []) c
  answered_more s n a b c [] p e h k =
      (c, let m : s ≡ n = omega (arith, e) in rw m (polled_after work a b c n p (made_same work a b h) (rw h.core refl) k), same_here c)
  answered_more s n a b c (q ∷ ps) p e h k = (h.0, h.1, answered_more (s + 1) n h.0 b c ps p (omega (arith, e)) h.2 k)

  -- one more poll, with this result, took j messages by these steps
  polled_by : (a b c : House W A g) (n k j : ℕ) (m : Bool) (p : Poll) (xs : List (Step W)) → pops xs ≡ j
      → ((ys : List (Step W)) → ArePolls 0 n ys → ArePolls 0 (n + 1) (ys ++ xs)) → PollsEach work n a b k m → Made work b c xs → Polled work b n p c
      → PollsEach work (n + 1) a c (k + j) (m || lacks_memory p)
  polled_by a b c n k j m p xs e one h made q = record {
    answers = h.answers ++ p ∷ [];
    all = let l = h.all in omega (arith, length-append h.answers (p ∷ []), l);
    answered = answered_more 0 n a b c h.answers p (let l = h.all in omega (arith, l)) h.answered q;
    memory = ap (λ x. x || lacks_memory p) h.memory ∙ sym (any_more h.answers p);
    polls = h.polls ++ xs;
    each = one h.polls h.each;
    made = made_both work a b c h.polls xs h.made made;
    count = let f = h.count in omega (arith, pops-append h.polls xs, e, f);
  }

  polled_nothing : (a b c : House W A g) (n k : ℕ) (m : Bool) (p : Poll) → PollsEach work n a b k m → Made work b c [] → Polled work b n p c
      → PollsEach work (n + 1) a c (k + 0) (m || lacks_memory p)
  polled_nothing a b c n k m p h made q = polled_by a b c n k 0 m p [] refl (λ ys each. rw (append-nil ys) (polls_wider 0 n ys each)) h made q

  polled_one : (a b c : House W A g) (n k : ℕ) (m : Bool) (p : Poll) (x : Step W) → pops (x ∷ []) ≡ 1 → ((m : ℕ) → m ≤ n → ArePolls m (n + 1) (x ∷ []))
      → PollsEach work n a b k m → Made work b c (x ∷ []) → Polled work b n p c → PollsEach work (n + 1) a c (k + 1) (m || lacks_memory p)
  polled_one a b c n k m p x e one h made q = polled_by a b c n k 1 m p (x ∷ []) e (λ ys each. polls_more 0 n ys x (omega arith) one each) h made q

  -- one more server is polled
  pub polled_next : (a b c : House W A g) (n k : ℕ) (m : Bool) (p : Poll) → PollsEach work n a b k m → Polled work b n p c
      → PollsEach work (n + 1) a c (k + popped_by p) (m || lacks_memory p)
  polled_next a b c n k m Nothing h q = polled_nothing a b c n k m Nothing h q.0 q
  polled_next a b c n k m Full h q = polled_nothing a b c n k m Full h q.0 q
  polled_next a b c n k m OutOfMemory h q = polled_nothing a b c n k m OutOfMemory h q.0 q
  polled_next a b c n k m NoSuchServer h q = polled_nothing a b c n k m NoSuchServer h q.0 q
  polled_next a b c n k m (Took number) h q = polled_one a b c n k m (Took number) (Submit n q.0) refl (λ m l. (l, omega arith, tt)) h q.1 q
  polled_next a b c n k m Closed h q = polled_one a b c n k m Closed (Close n) refl (λ m l. (l, omega arith, tt)) h q.0 q

  -- a server of which no message is seen is polled as any other
  polled_quiet : (a b : House W A g) (n k : ℕ) (m : Bool) → PollsEach work n a b k m → n < length (core_of b).faces → known b n ≡ []
      → PollsEach work (n + 1) a b k m
  polled_quiet a b n k m h within none =
      let more = polled_next a b b n k m Nothing h (made_nothing work b, within, inr none) in
      let same : k + 0 ≡ k = omega arith in
      subst (λ (x : Bool). PollsEach work (n + 1) a b k x) (or_false m) (rw same at more)

  -- no message is seen of several servers
  pub polled_quietly : (a b : House W A g) (n k : ℕ) (m : Bool) (more : ℕ) → PollsEach work n a b k m → n + more ≤ length (core_of b).faces
      → ((s : ℕ) → n ≤ s → s < n + more → known b s ≡ []) → PollsEach work (n + more) a b k m
  polled_quietly a b n k m zero h within none = let e : n ≡ n + 0 = omega arith in subst (λ (x : ℕ). PollsEach work x a b k m) e h
  polled_quietly a b n k m (suc more) h within none =
      let before = polled_quietly a b n k m more h (omega (arith, within)) (λ s from below. none s from (omega (arith, below))) in
      let e : n + more + 1 ≡ n + suc more = omega arith in
      subst (λ (x : ℕ). PollsEach work x a b k m) e (polled_quiet a b (n + more) k m before (omega (arith, within)) (none (n + more) (omega arith) (omega arith)))

  pub polled_few : (a b : House W A g) (n k : ℕ) (m : Bool) → PollsEach work n a b k m → k ≤ n
  polled_few a b n k m h = let l = polls_few 0 n h.polls (omega arith) h.each in let e = h.count in omega (arith, l, e)

  -- the number of servers is that of the rings
  pub same_servers : (a b : House W A g) → Housed work a.core a.rings a.collector → Housed work b.core b.rings b.collector → rings_of b ≡ rings_of a
      → length (core_of b).faces ≡ length (core_of a).faces
  same_servers a b p q e = sym q.ring_count ∙ (ap length e ∙ p.ring_count)

  -- there are few servers
  pub few_servers : (a : House W A g) → Housed work a.core a.rings a.collector → length (core_of a).faces ≤ most_servers
  few_servers a p = let e = p.ring_count in let few = a.rings.few in omega (arith, e, few, length-map a.rings.ends.items (consumer_ring))
