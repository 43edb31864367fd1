-- Of the jobs of a file, those that a house received.
use Rattle.std.proofs.Common.{◌≡◌, ℕ, ◌<◌, ◌≤◌, List, [], ◌∷◌, ◌++◌, length, map, get_or, refl, sym, ap, ◌∙◌, subst, inl, inr, append_assoc, arith}
use Rattle.std.specs.List.{All, range_with_len}
use Rattle.std.proofs.lemmas.Bool.{cases_Bool, cases_lt, false≢true}
use Rattle.std.proofs.lemmas.Bool.Decides.{eqb_tells}
use Rattle.std.proofs.lemmas.List.{get_or_past, length-map}
use Rattle.std.proofs.lemmas.List.Elements.{All-nil, All-cons, All-head, All-tail}
use Rattle.std.proofs.lemmas.List.FromFn.{get_or-range_with_len, length-range_with_len}
use mathlib.Core.List.{IsPrefix}
use Rattle.cbs_job.specs.declared.work.Work.{Ghosts}
use Rattle.cbs_job.specs.declared.file.FileJob.{FileJob}
use Rattle.cbs_core.specs.Held.{IsOpen}
use Rattle.cbs_steps.specs.declared.step.Step.{Step}
use Rattle.cbs_steps.specs.declared.step.Step.TheVariants.{Submit, Run, Advance, Close, Charge}
use Rattle.cbs_clients.specs.Clients.{server_of, sent_by, IsOpened}
use Rattle.cbs_clients.specs.Houses.{core_of, rings_of, received}
use Rattle.cbs_clients.specs.Messages.{jobs_among, has_end}
use Rattle.cbs_clients.specs.Opened.{IsUnused}
use Rattle.cbs_clients.specs.Steps.{messages_of}
use Rattle.cbs_clients.specs.declared.house.House.{House}
use Rattle.cbs_house.specs.Feeds.{client_of, unsent_jobs, all_jobs, IsDone, IsOrderly, KeepsFeeds}
use Rattle.cbs_house.specs.Rounds.{ReceivesFirst, IsSettled}
use Rattle.cbs_house.specs.declared.feed.Feed.{Feed}
use Rattle.cbs_clients.proofs.Messages.{jobs_among-append}
use Rattle.cbs_clients.proofs.RingLooks.{opened_within}
use Rattle.cbsrun_commands.specs.ResultLines.{jobs_for}

-- the jobs among the messages that steps take are those that the steps submit
pub jobs_taken : (s : ℕ) (xs : List (Step FileJob)) → jobs_among (messages_of s xs) ≡ jobs_for s xs
jobs_taken s [] = refl
jobs_taken s (Submit t job ∷ xs) = elim (eqb_tells t s) [
  | inl e ↦ rw e.0 (ap (λ (js : List FileJob). job ∷ js) (jobs_taken s xs))
  | inr n ↦ rw n.0 (jobs_taken s xs)
]
jobs_taken s (Run ∷ xs) = jobs_taken s xs
jobs_taken s (Advance n ∷ xs) = jobs_taken s xs
jobs_taken s (Close t ∷ xs) = elim (eqb_tells t s) [
  | inl e ↦ rw e.0 (jobs_taken s xs)
  | inr n ↦ rw n.0 (jobs_taken s xs)
]
jobs_taken s (Charge t n ∷ xs) = jobs_taken s xs

-- past the end of a list no element shows anything
past_shown : {X Y Z : Type 0} (f : X → List Y) (k : X → Z) (xs : List X) (n s : ℕ) → length (map k xs) ≡ n → n ≤ s → get_or (map f xs) s [] ≡ []
past_shown f k xs n s count past = get_or_past (map f xs) s [] (omega (arith, count, past, length-map xs f, length-map xs k))

module _ {W A : Type 0} {g : Ghosts W} (h : House W A g) where
  -- the jobs received first are the first of the feed's jobs
  jobs_first : (f : Feed W A g) → ReceivesFirst h f → IsPrefix (jobs_among (received h (server_of f.client))) (all_jobs f)
  jobs_first f p =
      let was = received h (server_of f.client) in (
        jobs_among p.0 ++ unsent_jobs f,
        sym (append_assoc (jobs_among was) (jobs_among p.0) (unsent_jobs f))
            ∙ ap (λ ws. ws ++ unsent_jobs f) (sym (jobs_among-append was p.0) ∙ ap jobs_among p.1),
      )

  module _ (jobs : ℕ → List W) where
    -- so it is of each server
    all_first : (fs : List (Feed W A g)) → map all_jobs fs ≡ map jobs (map (λ f. server_of (client_of f)) fs) → All (ReceivesFirst h) fs
        → All (λ s. IsPrefix (jobs_among (received h s)) (jobs s)) (map (λ f. server_of (client_of f)) fs)
    all_first [] e p = All-nil (λ s. IsPrefix (jobs_among (received h s)) (jobs s))
    all_first (f ∷ fs) e p =
        let s = server_of f.client in
        let same : all_jobs f ≡ jobs s = cc e in
        let rest : map all_jobs fs ≡ map jobs (map (λ f. server_of (client_of f)) fs) = cc e in
        All-cons (λ s. IsPrefix (jobs_among (received h s)) (jobs s)) s (map (λ f. server_of (client_of f)) fs)
        (subst (λ ws. IsPrefix (jobs_among (received h s)) ws) same (jobs_first f (All-head (ReceivesFirst h) f fs p)))
        (all_first fs rest (All-tail (ReceivesFirst h) f fs p))

    -- of the servers by their numbers
    first_at : (n s : ℕ) → s < n → All (λ s. IsPrefix (jobs_among (received h s)) (jobs s)) (range_with_len 0 n)
        → IsPrefix (jobs_among (received h s)) (jobs s)
    first_at n s lt all =
        let there : get_or (range_with_len 0 n) s 0 ≡ s = let e = get_or-range_with_len 0 n s 0 lt in omega (arith, e) in
        let within : s < length (range_with_len 0 n) = omega (arith, lt, length-range_with_len 0 n) in
        subst (λ (k : ℕ). IsPrefix (jobs_among (received h k)) (jobs k)) there (all s 0 within)

  -- no message is received of a server that is not there
  none_past : (n s : ℕ) → length (rings_of h) ≡ n → n ≤ s → received h s ≡ []
  none_past n s count past = past_shown _ _ h.rings.ends.items n s count past

  -- each server received the first of its jobs
  pub received_first : (n s : ℕ) (jobs : ℕ → List W) (fs : List (Feed W A g)) → length (rings_of h) ≡ n
      → map (λ f. server_of (client_of f)) fs ≡ range_with_len 0 n → map all_jobs fs ≡ map jobs (range_with_len 0 n) → All (ReceivesFirst h) fs
      → IsPrefix (jobs_among (received h s)) (jobs s)
  received_first n s jobs fs count servers all first = elim (cases_lt s n) [
    | inl lt ↦ first_at jobs n s lt (subst (λ (ss : List ℕ). All (λ s. IsPrefix (jobs_among (received h s)) (jobs s)) ss) servers
        (all_first jobs fs (all ∙ ap (map jobs) (sym servers)) first))
    | inr ge ↦ (jobs s, ap (λ ms. jobs_among ms ++ jobs s) (none_past n s count (omega (arith, ge))))
  ]

  -- if not every feed is done, although all that was sent was received, some server is open
  pub some_open : (fs : List (Feed W A g)) → All (λ f. IsOpened (rings_of h) f.client) fs → All IsOrderly fs → All (IsSettled h) fs → ¬ All IsDone fs
      → (s : ℕ) × IsOpen (core_of h) s
  some_open [] opened orderly settled undone = absurd (undone (All-nil IsDone))
  some_open (f ∷ fs) opened orderly settled undone =
      let s = server_of f.client in
      let mine = All-head (IsSettled h) f fs settled in
      let within : s < length (core_of h).faces =
      omega (arith, h.housed.ring_count, opened_within (rings_of h) f.client (All-head (λ f. IsOpened (rings_of h) f.client) f fs opened)) in
      elim (cases_Bool (has_end (sent_by f.client))) [
        | inl ended ↦ some_open fs (All-tail (λ f. IsOpened (rings_of h) f.client) f fs opened) (All-tail IsOrderly f fs orderly)
            (All-tail (IsSettled h) f fs settled)
            (λ done. undone (All-cons IsDone f fs (record { ended = ended; none_left = All-head IsOrderly f fs orderly ended }) done))
        | inr not ↦ (s, record { within = within; unclosed = (h.housed.servers s within).closed ∙ (ap has_end mine ∙ not) })
      ]

module _ {W A : Type 0} {g : Ghosts W} where
  -- feeds whose clients have sent nothing are orderly, and stay so
  pub feeds_orderly : (ring : ℕ) (a b : List (Feed W A g)) → All (λ f. IsUnused ring (client_of f)) a → KeepsFeeds a b → All IsOrderly b
  unfolding KeepsFeeds
  feeds_orderly ring [] [] unused kept = All-nil IsOrderly
  feeds_orderly ring [] (y ∷ b) unused kept = absurd kept
  feeds_orderly ring (x ∷ a) [] unused kept = absurd kept
  feeds_orderly ring (x ∷ a) (y ∷ b) unused kept =
      let none = (All-head (λ f. IsUnused ring (client_of f)) x a unused).sent in
      All-cons IsOrderly y b (kept.0.orderly (λ ended. absurd (false≢true (ap has_end (sym none) ∙ ended))))
      (feeds_orderly ring a b (All-tail (λ f. IsUnused ring (client_of f)) x a unused) kept.1)
