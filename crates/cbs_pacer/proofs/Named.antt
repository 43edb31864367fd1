-- The job of a unit is named.
use Rattle.std.proofs.Common.{ℕ, Bool, true, false, Option}
use Rattle.cbs_job.specs.Work.{Meaning}
use Rattle.cbs_job.specs.declared.work.Work.{Ghosts}
use Rattle.cbs_clients.specs.declared.house.House.{House}
use Rattle.cbs_clients.specs.Houses.{NamesJob}
use Rattle.cbs_pace.specs.Paces.{Pacing}
use Rattle.cbs_pacer.specs.declared.next.Next.{Next}
use Rattle.cbs_pacer.specs.declared.next.Next.TheVariants as next
use Rattle.cbs_pacer.specs.Paced.{Paced, ran_next, Answers, Does, Paces}

module _ {W A : Type 0} {g : Ghosts W} (work : Meaning W) where
  -- the job of a unit that the host does is that of its number
  does_names : (q : Pacing) (heard hears : Bool) (count : ℕ) (old new : House W A g) (answer : Next) (later : Option ℕ)
      → Does work q heard count old answer new later hears → NamesJob work (ran_next answer) new
  does_names q heard hears count old new (next.Do told) later d = d.0.run.job
  does_names q heard hears count old new (next.SleepUntil t) later d = tt
  does_names q heard hears count old new next.Listen later d = tt
  does_names q heard hears count old new (next.WaitUntil t) later d = tt
  does_names q heard hears count old new next.Over later d = tt
  does_names q heard hears count old new next.ClockEnd later d = tt
  does_names q heard hears count old new next.OutOfMemory later d = absurd d

  answers_names : (lacks : Bool) (q : Pacing) (heard hears : Bool) (count : ℕ) (old new : House W A g) (answer : Next) (later : Option ℕ)
      → Answers lacks work q heard count old answer new later hears → NamesJob work (ran_next answer) new
  answers_names true q heard hears count old new answer later d = rw d.0 tt
  answers_names false q heard hears count old new answer later d = does_names q heard hears count old new answer later d

  pub paces_names : (took : ℕ) (p q : Paced) (old new : House W A g) (answer : Next) → Paces work took p old answer new q
      → NamesJob work (ran_next answer) new
  paces_names took p q old new answer h =
      answers_names h.out_of_memory q.pace p.listens q.listens q.taken h.between new answer q.doing h.answers
