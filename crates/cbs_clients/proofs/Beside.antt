-- A poll after a look at both ends of the ring, which finds all that was sent.
use Rattle.std.proofs.Common.{◌≡◌, ℕ, ◌<◌, ◌≤◌, ◌⊎◌, true, List, [], ◌∷◌, ◌++◌, length, refl, ap, sym, subst, ◌∙◌, arith, length-append, inl, inr}
use Rattle.std.proofs.lemmas.Bool.{false≢true}
use Rattle.std.proofs.lemmas.List.{append-nil}
use mathlib.Core.List.{IsPrefix}
use Rattle.cbs_job.specs.Work.{Meaning}
use Rattle.cbs_job.specs.declared.work.Work.{Ghosts}
use Rattle.cbs_core.specs.Held.{CoreHeld, IsOpen, IsClosed, Accepts}
use Rattle.cbs_steps.specs.Faces.{face_at, backlog_of}
use Rattle.cbs_steps.specs.declared.step.Step.TheVariants.{Submit, Close}
use Rattle.cbs_clients.specs.declared.house.House.{House}
use Rattle.cbs_clients.specs.declared.message.Message.{Message}
use Rattle.cbs_host.specs.declared.poll.Poll.{Poll}
use Rattle.cbs_host.specs.declared.poll.Poll.TheVariants.{Nothing, Took, Closed, Full, OutOfMemory, NoSuchServer}
use Rattle.cbs_clients.specs.declared.client.Client.{Client}
use Rattle.cbs_clients.specs.Clients.{server_of, sent_by, SameClient}
use Rattle.cbs_clients.specs.Houses.{core_of, received, known, LooksOnly, Polled}
use Rattle.cbs_clients.specs.Messages.{jobs_among}
use Rattle.cbs_clients.proofs.MadeSteps.{made_both, made_look, looks_received}

-- a list of no element is empty
empty_of : {X : Type 0} (xs : List X) → length xs ≡ 0 → xs ≡ []
empty_of [] e = refl
empty_of (x ∷ xs) e = absurd (omega (arith, e))

-- only the empty list is a prefix of it
no_prefix : {X : Type 0} (xs : List X) → IsPrefix xs [] → length xs ≡ 0
no_prefix xs p = let e = ap length p.1 in omega (arith, e, length-append xs p.0)

module _ {W A : Type 0} {g : Ghosts W} where
  -- a look at both ends: all that was sent is received or known, and n messages are known
  pub record Shown (a b : House W A g) (s : ℕ) (sent : List (Message W)) (n : ℕ) : Type 0 where
    pub looked : LooksOnly a b
    pub all : sent ≡ received b s ++ known b s
    pub count : n ≡ length (known b s)

  -- what a settle says of the client as it was
  pub shown : (a b : House W A g) (old new : Client W A g) (n : ℕ) → LooksOnly a b → SameClient old new → sent_by new ≡ sent_by old
      → n ≡ length (known b (server_of new)) → sent_by new ≡ received b (server_of new) ++ known b (server_of new)
      → Shown a b (server_of old) (sent_by old) n
  shown a b old new n l same sent count all = record { looked = l; all = sym sent ∙ rw same.0 at all; count = rw same.0 at count }

  -- if the look finds no message, all that was sent was taken
  pub all_taken : (a b : House W A g) (s : ℕ) (sent : List (Message W)) → Shown a b s sent 0 → sent ≡ received a s
  all_taken a b s sent k =
      k.all ∙ (ap (λ ms. received b s ++ ms) (empty_of (known b s) (sym k.count)) ∙ (append-nil (received b s) ∙ looks_received a b k.looked s))

  -- if all that was sent was taken, the look finds no message
  pub none_shown : (a b : House W A g) (s : ℕ) (sent : List (Message W)) (n : ℕ) → Shown a b s sent n → sent ≡ received a s → n ≡ 0
  none_shown a b s sent n k before =
      let e = ap length (sym k.all ∙ before) in
      let f = ap length (looks_received a b k.looked s) in
      let count = k.count in
      omega (arith, e, f, count, length-append (received b s) (known b s))

module _ {W A : Type 0} {g : Ghosts W} (work : Meaning W) where
  -- if the look finds no message, it is a poll with the result Nothing
  pub nothing_polled : (a b : House W A g) (s : ℕ) (sent : List (Message W)) → s < length (core_of a).faces → Shown a b s sent 0 → Polled work a s Nothing b
  nothing_polled a b s sent within k = (made_look work a b k.looked, within, inr (empty_of (known b s) (sym k.count)))

  -- what a poll does after a look, it also does from before the look
  pub polled_behind : (a b c : House W A g) (s : ℕ) (p : Poll) → LooksOnly a b → Polled work b s p c → Polled work a s p c
  polled_behind a b c s Nothing l k = (
    made_both work a b c [] [] (made_look work a b l) k.0,
    subst (λ (core : CoreHeld W). s < length core.faces) l.core k.1,
    subst (λ (core : CoreHeld W). ((face_at core.faces s).closed ≡ true) ⊎ (known c s ≡ [])) l.core k.2,
  )
  polled_behind a b c s Full l k = (
    made_both work a b c [] [] (made_look work a b l) k.0,
    subst (λ (core : CoreHeld W). IsOpen core s) l.core k.1,
    k.2,
    subst (λ (core : CoreHeld W). core.backlog ≤ backlog_of (face_at core.faces s)) l.core k.3,
  )
  polled_behind a b c s OutOfMemory l k =
      (made_both work a b c [] [] (made_look work a b l) k.0, subst (λ (core : CoreHeld W). Accepts core s) l.core k.1, k.2)
  polled_behind a b c s NoSuchServer l k =
      (made_both work a b c [] [] (made_look work a b l) k.0, subst (λ (core : CoreHeld W). length core.faces ≤ s) l.core k.1)
  polled_behind a b c s (Took q) l k = (
    k.0,
    made_both work a b c [] (Submit s k.0 ∷ []) (made_look work a b l) k.1,
    subst (λ (core : CoreHeld W). Accepts core s) l.core k.2,
    subst (λ ms. q ≡ length (jobs_among ms)) (looks_received a b l s) k.3,
  )
  polled_behind a b c s Closed l k =
      (made_both work a b c [] (Close s ∷ []) (made_look work a b l) k.0, subst (λ (core : CoreHeld W). Accepts core s) l.core k.1)

  -- if the look found a message, a poll that sees none finds the server closed
  pub nothing_seen : (a b : House W A g) (s : ℕ) (p : Poll) → Polled work a s p b → 0 < length (known a s) → p ≡ Nothing → IsClosed (core_of a) s
  nothing_seen a b s p k some e =
      let none : Polled work a s Nothing b = rw e at k in
      elim none.2 [
        | inl closed ↦ record { within = none.1; closed = closed }
        | inr seen ↦ absurd (let within : IsPrefix (known a s) [] = rw seen at (none.0.seats s).known in let short = no_prefix (known a s) within
            in omega (arith, some, short))
      ]

  -- a closed server is polled in vain
  pub closed_polled : (a b : House W A g) (s : ℕ) (p : Poll) → Polled work a s p b → IsClosed (core_of a) s → p ≡ Nothing
  closed_polled a b s Nothing k c = refl
  closed_polled a b s Full k c = absurd (false≢true (sym k.1.unclosed ∙ c.closed))
  closed_polled a b s OutOfMemory k c = absurd (false≢true (sym k.1.is_open.unclosed ∙ c.closed))
  closed_polled a b s NoSuchServer k c = absurd (let past = k.1 in let within = c.within in omega (arith, past, within))
  closed_polled a b s (Took q) k c = absurd (false≢true (sym k.2.is_open.unclosed ∙ c.closed))
  closed_polled a b s Closed k c = absurd (false≢true (sym k.1.is_open.unclosed ∙ c.closed))
