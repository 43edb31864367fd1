-- A house of which nothing changed made no step.
use Rattle.std.proofs.Common.{◌≡◌, List, [], ap, sym, ◌∙◌}
use Rattle.std.proofs.lemmas.List.{append-nil}
use Rattle.cbs_job.specs.Work.{Meaning}
use Rattle.cbs_job.specs.declared.work.Work.{Ghosts}
use Rattle.cbs_clients.specs.declared.house.House.{House}
use Rattle.cbs_clients.specs.declared.message.Message.{Message}
use Rattle.cbs_clients.specs.Houses.{Seat, SeesMore, seat_at, Made, SameHouse}
use Rattle.cbs_clients.proofs.MadeSteps.{made_look}

-- the same but for what is known to wait, which is the same
seen_same : {W : Type 0} (x y : Seat W) → y ≡ x → SeesMore x y
seen_same {W = W} x y e = record {
  same = e ∙ ap (λ (ms : List (Message W)). record x { known = ms }) (sym (ap (λ (z : Seat W). z.known) e));
  known = ([], append-nil x.known ∙ sym (ap (λ (z : Seat W). z.known) e));
}

module _ {W A : Type 0} {g : Ghosts W} (work : Meaning W) where
  pub made_same : (a b : House W A g) → SameHouse a b → Made work a b []
  made_same a b h = made_look work a b (record { core = h.core; rings = h.rings; tape = h.tape; seats = λ s. seen_same (seat_at a s) (seat_at b s) (h.seats s) })
