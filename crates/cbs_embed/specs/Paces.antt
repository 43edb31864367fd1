-- What a call on a handle in real time does to the house inside.
use Rattle.std.specs.Prelude.{ℕ, ◌≡◌, false, None, Result, Ok, Err}
use Rattle.cbs_clients.specs.Houses.{core_of}
use Rattle.cbs_pace.specs.declared.rounding.Rounding.{Rounding}
use Rattle.cbs_pace.specs.Paces.{pacing_begun, pacing_seen, IsNotAhead}
use Rattle.cbs_pacer.specs.declared.pacer.Pacer.{Pacer}
use Rattle.cbs_pacer.specs.Paced.{doing_of, paced_of, paced_seen, ran_next, PaysUnit, Paces}
use Rattle.cbs_pacer.specs.Timed.{GoesOnInTime}
use Rattle.cbs_embed.specs.Jobs.{counting}
use Rattle.cbs_embed.specs.Calls.{TheHouse, NamesToken, Drops}
use Rattle.cbs_embed.specs.declared.refusal.Refusal.{Refusal}
use Rattle.cbs_embed.specs.declared.told.Asked.{Asked}

-- a pacer begins at a reading, at the clock of the house, which is the same
abbrev pub BeginsPace : ℕ → Rounding → ℕ → TheHouse → Result Pacer Refusal → TheHouse → Type 0
BeginsPace tick r reading old (Ok p) new = (new ≡ old)
    × (paced_of p ≡ record { pace = pacing_begun tick r (core_of old).clock reading; doing = None; listens = false; taken = 0 })
BeginsPace tick r reading old (Err e) new = ⊥

-- At a reading the unit that was being done was paid for, which took so long, and else the pacer is unchanged. A clock that
-- was not ahead is not ahead, and the moves go on in time
pub record EndsAt (reading took : ℕ) (p q : Pacer) (old new : TheHouse) : Type 0 where
  pub pays : PaysUnit counting took (doing_of p) (pacing_seen reading p.pace) old new q.pace
  pub kept : paced_of q ≡ record (paced_of p) { pace = q.pace; doing = None }
  pub ahead : IsNotAhead p.pace (core_of old).clock → IsNotAhead q.pace (core_of new).clock
  pub timed : GoesOnInTime counting took (paced_seen reading p) (core_of old) (core_of new) (paced_of q)

abbrev pub EndsUnit : ℕ → ℕ → Pacer → Pacer → TheHouse → Result (Unit {0}) Refusal → TheHouse → Type 0
EndsUnit reading took p q old (Ok x) new = EndsAt reading took p q old new
EndsUnit reading took p q old (Err e) new = ⊥

-- At a reading the host was told what it does next, with this token; a unit that was being done took so long. Then the
-- result of a finished job was dropped. A clock that was not ahead is not ahead, and the moves go on in time
pub record AsksAndDrops (reading took : ℕ) (p q : Pacer) (old : TheHouse) (asked : Asked) (new : TheHouse) : Type 0 where
  pub between : TheHouse
  pub paces : Paces counting took (paced_seen reading p) old asked.next between (paced_of q)
  pub ahead : IsNotAhead p.pace (core_of old).clock → IsNotAhead q.pace (core_of between).clock
  pub timed : GoesOnInTime counting took (paced_seen reading p) (core_of old) (core_of between) (paced_of q)
  pub named : NamesToken (ran_next asked.next) asked.token between
  pub taken : asked.taken ≡ q.taken
  pub drops : Drops (ran_next asked.next) between new

abbrev pub Asks : ℕ → ℕ → Pacer → Pacer → TheHouse → Result Asked Refusal → TheHouse → Type 0
Asks reading took p q old (Ok asked) new = AsksAndDrops reading took p q old asked new
Asks reading took p q old (Err e) new = ⊥
