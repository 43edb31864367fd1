use Rattle.std.proofs.Common.{◌≡◌, ℕ, List, take, Result, Ok, Err}
use Rattle.std.specs.Prelude.{All, IfOk}
use Rattle.cbs_tape.specs.declared.entry.Entry.{Entry}
use Rattle.cbs_tape.specs.declared.entry.Ending.TheVariants.{Marked}
use Rattle.cbs_tape.specs.declared.reading.TapeRead.{TapeRead}
use Rattle.cbs_tape.specs.Spelling.{spelling, HasSpelling}
use Rattle.cbs_tape.specs.Reading.{told, kept, ending_at}
use Rattle.cbs_tape.proofs.Cuts.{cut_tells}
use Rattle.cbs_tape.proofs.Written.{reads_again}
use Rattle.cbs_tape.proofs.reading.read.Goals as goal

module _ {A E : Type 0} (bytes : List ℕ) where
  if_again : (r : Result (TapeRead A) E) → IfOk r (λ t. told bytes ≡ record { entries = t.entries.items; ending = t.ending })
      → IfOk r (λ t. (es : List Entry) → All HasSpelling es → bytes ≡ spelling es → (t.entries.items ≡ es) × (t.ending ≡ Marked))
  if_again (Ok t) h = reads_again bytes t.entries.items t.ending h
  if_again (Err e) h = tt

  if_cut : (r : Result (TapeRead A) E) → IfOk r (λ t. told bytes ≡ record { entries = t.entries.items; ending = t.ending })
      → IfOk r (λ t. (es : List Entry) (k : ℕ) → All HasSpelling es → bytes ≡ take k (spelling es) → (t.entries.items ≡ kept k es) × (t.ending ≡ ending_at k es))
  if_cut (Ok t) h = cut_tells bytes t.entries.items t.ending h
  if_cut (Err e) h = tt

pub returns-clause-again : goal.returns-clause-again
returns-clause-again g c = if_again c.args.bytes.now c.read_all.result c.read_all.ensures

pub returns-clause-cut : goal.returns-clause-cut
returns-clause-cut g c = if_cut c.args.bytes.now c.read_all.result c.read_all.ensures
