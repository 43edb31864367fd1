-- The job in the result of a run.
use Rattle.std.proofs.Common.{◌≡◌, ℕ, ◌+◌, ◌<◌, List, [], ◌∷◌, ◌++◌, Some, drop, length, map, get_or, refl, ap, sym, ◌∙◌, arith, length-append}
use Rattle.std.specs.List.{slice_get}
use Rattle.std.proofs.lemmas.List.{length-drop, length-map, get_or-drop}
use Rattle.std.proofs.lemmas.Option.{slice_get-get_or}
use Rattle.std.proofs.Math.Seq.{get_or-append_seam}
use Rattle.cbs_job.specs.Work.{whole}
use Rattle.cbs_job.specs.declared.completion.Completion.{Completion}
use Rattle.cbs_job.specs.declared.work.Work.{Ghosts}
use Rattle.cbs_core.specs.Held.{held_at, DoesRun, FinishesJob}
use Rattle.cbs_core.proofs.Laws.{holds_within}
use Rattle.cbs_steps.specs.declared.reply.Ran.{Ran}
use Rattle.cbs_steps.specs.declared.reply.Ran.TheVariants as ran
use Rattle.cbs_clients.specs.declared.house.House.{House}
use Rattle.cbs_clients.specs.Houses.{core_of, received, handed_of, results_of, ComesTo, NamesJob}
use Rattle.cbs_clients.specs.Messages.{jobs_among}

-- the element after some results, in a list of which the first n are missing
at_place : (rs : List ℕ) (x : ℕ) (xs : List ℕ) (n : ℕ) (all : List ℕ) → rs ++ x ∷ xs ≡ drop n all → slice_get all (n + length rs) ≡ Some x
at_place rs x xs n all e =
    let counts = ap length e in
    let within : n + length rs < length all = omega (arith, counts, length-append rs (x ∷ xs), length-drop n all) in
    let here : get_or all (n + length rs) x ≡ x = sym (get_or-drop n all (length rs) x)
    ∙ (ap (λ l. get_or l (length rs) x) (sym e) ∙ get_or-append_seam rs x xs x) in
    slice_get-get_or all (n + length rs) x within ∙ ap Some here

module _ {W A : Type 0} {g : Ghosts W} (old h : House W A g) where
  -- the first job held is the job after the results, among those received
  comes_first : (s q : ℕ) (job : W) (rest : List W) → s < length (core_of h).faces → (held_at (core_of h) s).jobs ≡ job ∷ rest
      → q ≡ (held_at (core_of h) s).face.finished → ComesTo g.meaning h s q (whole g.meaning job)
  comes_first s q job rest lt first number =
      let k = h.housed.servers s lt in
      let n = handed_of h s + length (results_of h s) in
      let z : n + 0 ≡ n = omega arith in
      let place = at_place [] (whole g.meaning job) (map (whole g.meaning) rest) n
      (map (whole g.meaning) (jobs_among (received h s))) (rw first at k.held) in
      record { told = rw (number, k.finished, ← z) place }

  -- the result of a job that is finished is that of the received job of its number
  comes_last : (c : Completion) → c.server < length (core_of old).faces → received h c.server ≡ received old c.server
      → FinishesJob g.meaning c (held_at (core_of old) c.server) (held_at (core_of h) c.server) → ComesTo g.meaning h c.server c.seq c.result
  comes_last c lt same done =
      let s = c.server in
      let k = old.housed.servers s lt in
      let n = handed_of old s + length (results_of old s) in
      let z : n + 0 ≡ n = omega arith in
      let place = at_place [] c.result (map (whole g.meaning) (held_at (core_of h) s).jobs) n (map (whole g.meaning) (jobs_among (received old s))) (sym done.results ∙ k.held) in
      record { told = rw (same, done.number, k.finished, ← z) place }

  -- a job held is the first of some
  names_first : (s q : ℕ) (jobs : List W) → (held_at (core_of h) s).jobs ≡ jobs → 0 < length jobs → s < length (core_of h).faces
      → q ≡ (held_at (core_of h) s).face.finished → NamesJob g.meaning (ran.Unit s q) h
  names_first s q [] is some lt number = absurd (omega (arith, some))
  names_first s q (job ∷ rest) is some lt number = (job, rest, is, comes_first s q job rest lt is number)

  pub names : (r : Ran) → DoesRun g.meaning r old.core h.core → ((s : ℕ) → received h s ≡ received old s) → NamesJob g.meaning r h
  names ran.Idle does same = tt
  names ran.ClockEnd does same = tt
  names (ran.Unit s q) does same =
      let run = does.0 in
      names_first s q (held_at (core_of h) s).jobs refl run.some (holds_within g.meaning (core_of h) h.housed.history s run.some)
      (run.number ∙ sym run.finished)
  names (ran.Done c) does same =
      let done = does.0 in
      let n = ap length done.results in
      let some : 0 < length (held_at (core_of old) c.server).jobs = omega (arith, length-map (held_at (core_of old) c.server).jobs (whole g.meaning)) in
      comes_last c (holds_within g.meaning (core_of old) old.housed.history c.server some) (same c.server) done
