-- The record of a run, as bytes.
use Rattle.std.specs.Prelude.{◌≡◌, ℕ, List, Ok}
use Rattle.cbsrun_records.specs.Records.{RecordFile}
use Rattle.cbsrun_records.specs.Spelling.{record_of}
use Rattle.cbsrun_runs.specs.Records.{steps_in_record, steps_told}
use Rattle.cbsrun_runs.specs.Runs.{Shown}

-- the bytes spell a record with the servers of the run, called by these names, its backlog and its tick, and with each of its
-- steps
pub record IsRecorded (names : List (List ℕ)) (run : Shown) (bytes : List ℕ) : Type 0 where
  pub r : RecordFile
  pub spelled : record_of bytes ≡ Ok r
  pub named : r.names ≡ names
  pub modes : r.modes ≡ run.modes
  pub plan : r.plan ≡ run.plan
  pub backlog : r.backlog ≡ run.backlog
  pub tick : r.tick ≡ run.tick
  pub steps : steps_in_record r ≡ steps_told run.seen
