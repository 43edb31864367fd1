-- Looks at the rings, in which nothing is popped.
use Rattle.std.proofs.Common.{ℕ, ◌+◌, ◌<◌, List, [], ◌++◌, length, get_or, refl, ap, ◌∙◌}
use Rattle.std.proofs.Math.ListN.{set}
use Rattle.std.specs.Prelude.{Result, IfErr}
use Rattle.std.specs.List.{AllWithin}
use Rattle.std.proofs.lemmas.Result.{IfErr-weaker}
use Rattle.std.proofs.lemmas.List.Elements.{AllWithin-more_set}
use Rattle.std.proofs.lemmas.List.{append-nil}
use Rattle.cbs_job.specs.declared.work.Work.{Ghosts}
use Rattle.cbs_clients.specs.Clients.{server_of}
use Rattle.cbs_clients.specs.declared.error.HouseError.{HouseError}
use Rattle.cbs_clients.specs.declared.error.HouseError.TheVariants.{OutOfMemory, ClockEnd, Stalled, BadBacklog, BadRing, NoSuchServer, NotRunning}
use Rattle.cbs_house.specs.declared.feed.Feed.{Feed}
use Rattle.cbs_clients.specs.declared.house.House.{House}
use Rattle.cbs_clients.specs.Houses.{Seat, known, LooksOnly}
use Rattle.cbs_clients.proofs.MadeSteps.{looks_received}
use Rattle.cbs_house.specs.Rounds.{ReceivesFirst, Halts}
use Rattle.cbs_clients.proofs.RingLooks.{prefix_along}

module _ {W A : Type 0} {g : Ghosts W} where
  -- a look that sees nothing new
  pub looks_none : (a : House W A g) → LooksOnly a a
  looks_none a = record { core = refl; rings = refl; tape = refl; seats = λ s. record { same = refl; known = ([], append-nil (known a s)) } }

  -- two looks
  pub looks_then : (a b c : House W A g) → LooksOnly a b → LooksOnly b c → LooksOnly a c
  looks_then a b c p q = record {
    core = q.core ∙ p.core;
    rings = q.rings ∙ p.rings;
    tape = q.tape ∙ p.tape;
    seats = λ s. record {
      same = (q.seats s).same ∙ ap (λ (x : Seat W). record x { known = known c s }) (p.seats s).same;
      known = prefix_along (known a s) (known b s) (known c s) (p.seats s).known (q.seats s).known;
    };
  }

  -- what was received first stays so while nothing is popped
  looks_first : (a b : House W A g) (f : Feed W A g) → LooksOnly a b → ReceivesFirst a f → ReceivesFirst b f
  looks_first a b f l h = (h.0, ap (λ ms. ms ++ h.0) (looks_received a b l (server_of f.client)) ∙ h.1)

  -- one more feed was looked at
  pub first_more :
      (a b : House W A g) (fs : List (Feed W A g)) (i : ℕ) (f : Feed W A g) → i < length fs → LooksOnly a b → AllWithin (ReceivesFirst a) fs 0 i
      → ReceivesFirst b f → AllWithin (ReceivesFirst b) (set fs i f) 0 (i + 1)
  first_more a b fs i f l look old new =
      AllWithin-more_set fs i f l (ReceivesFirst b) (λ k d p q. looks_first a b (get_or fs k d) look (old k d p q)) new

  -- so does what an error says of the house
  halts_looked : (a b : House W A g) → LooksOnly a b → (e : HouseError) → Halts e a → Halts e b
  halts_looked a b l OutOfMemory h = h
  halts_looked a b l ClockEnd h = rw l.core h
  halts_looked a b l Stalled h = h
  halts_looked a b l BadBacklog h = h
  halts_looked a b l BadRing h = h
  halts_looked a b l NoSuchServer h = h
  halts_looked a b l NotRunning h = h

  pub still_halts : {T : Type 0} (r : Result T HouseError) (a b : House W A g) → LooksOnly a b → IfErr r (λ e. Halts e a) → IfErr r (λ e. Halts e b)
  still_halts r a b l h = IfErr-weaker r (λ e. Halts e a) (λ e. Halts e b) (halts_looked a b l) h
