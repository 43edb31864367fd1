use Rattle.std.proofs.Common.{◌≡◌, ℕ, ◌<◌, List, length, inl, inr, arith}
use Rattle.std.proofs.lemmas.Bool.{cases_lt}
use Rattle.std.proofs.lemmas.List.{get_or_past}
use Rattle.cbs_core.specs.Held.{CoreHeld, held_at}
use Rattle.cbs_job.specs.declared.work.Work.{Ghosts}
use Rattle.cbs_job.specs.Work.{Meaning}
use Rattle.cbs_results.specs.Collected.{IsWaiting, Shelved, no_shelf, shelf_at}
use Rattle.cbs_clients.specs.HouseInvariant.{Housed}
use Rattle.cbs_clients.specs.Rings.{received_in}
use Rattle.cbs_clients.specs.declared.rings.Rings.{Rings}
use Rattle.cbs_clients.proofs.HouseInvariant.{counts, held_none}
use Rattle.cbs_clients.proofs.house.House.is_busy.Goals as goal

-- a server of which a completion was announced and not taken holds a job
held_some : {W A : Type 0} {g : Ghosts W} (work : Meaning W) (core : CoreHeld W) (rings : Rings W A g) (shelves : List Shelved) → Housed work core rings shelves
    → (s : ℕ) → IsWaiting (shelf_at shelves s) → 0 < length (held_at core s).jobs
held_some work core rings shelves h s waits = elim (cases_lt s (length shelves)) [
  | inl l ↦
      let k = h.servers s (omega (arith, h.shelf_count, l)) in
      let shelf = shelf_at shelves s in
      let all = counts work (held_at core s) (held_at core s) (received_in rings s) (received_in rings s) shelf.handed shelf.handed
      shelf.early shelf.early shelf.results shelf.results k in
      omega (arith, all, k.accepted, h.announced s (omega (arith, h.shelf_count, l)), waits)
  | inr ge ↦ let past : shelf_at shelves s ≡ no_shelf = get_or_past shelves s no_shelf ge in absurd (omega (arith, rw past at waits))
]

pub returns-clause-some : goal.returns-clause-some
returns-clause-some g c = λ e.
    let h = c.args.self.now in
    let w = c.is_waiting.ensures.some e in
    (w.0, held_some g.W.Work.meaning h.core h.rings h.collector h.housed w.0 w.1)

pub returns-clause-none : goal.returns-clause-none
returns-clause-none g c = λ e.
    let h = c.args.self.now in
    held_none g.W.Work.meaning h.core h.rings h.collector h.housed (c.is_waiting.ensures.none e)
