-- The jobs that are kept of each server are those of its steps.
use Rattle.std.proofs.Common.{◌≡◌, ◌∙◌, ℕ, ◌<◌, ◌≤◌, true, false, eqb, ltb, List, [], ◌∷◌, length, Option, Some, None, arith, refl, sym, ap, subst, inl, inr}
use Rattle.std.specs.Prelude.{set}
use Rattle.std.proofs.lemmas.Bool.{cases_Bool}
use Rattle.std.proofs.lemmas.Bool.Decides.{nat_tests}
use Rattle.std.proofs.lemmas.List.{get_or-replicate, get_or-set_same, get_or-set_other, length-replicate, length-set}
use Rattle.cbsrun_events.specs.Events.{server_of}
use Rattle.cbsrun_events.specs.declared.seen.Seen.{Seen}
use Rattle.cbsrun_figures.specs.Figures.{is_server, steps_of}
use Rattle.cbsrun_csv.specs.Jobs.{JobsSeen, jobs_after, jobs_seen, no_jobs}
use Rattle.cbsrun_csv.specs.Kept.{jobs_at, kept_seen, kept_with, new_kept}

-- what is kept of this many servers, of the steps that were seen
pub record AreKept (count : ℕ) (seen : List Seen) (kept : List JobsSeen) : Type 0 where
  pub servers : length kept ≡ count
  pub each : (s : ℕ) → s < count → jobs_at kept s ≡ jobs_seen (steps_of s seen)

-- a step of the server
own_step : (s : ℕ) (o : Seen) (seen : List Seen) → is_server s (server_of o.event) ≡ true → steps_of s (o ∷ seen) ≡ o ∷ steps_of s seen
own_step s o seen t = rw t refl

-- a step that is of no server, or of another
other_step : (s : ℕ) (o : Seen) (seen : List Seen) → is_server s (server_of o.event) ≡ false → steps_of s (o ∷ seen) ≡ steps_of s seen
other_step s o seen f = rw f refl

same_server : (s : ℕ) (so : Option ℕ) → so ≡ Some s → is_server s so ≡ true
same_server s so e = rw e (grind (arith, nat_tests))

-- the jobs of the server that a step is of
jobs_there : (seen : List Seen) (o : Seen) (kept : List JobsSeen) (i : ℕ) → server_of o.event ≡ Some i → i < length kept
    → jobs_at kept i ≡ jobs_seen (steps_of i seen)
    → jobs_at (set kept i (jobs_after o.clock o.event (jobs_at kept i))) i ≡ jobs_seen (steps_of i (o ∷ seen))
jobs_there seen o kept i is there was =
    get_or-set_same kept i (jobs_after o.clock o.event (jobs_at kept i)) no_jobs there
    ∙ (ap (jobs_after o.clock o.event) was ∙ ap jobs_seen (sym (own_step i o seen (same_server i (server_of o.event) is))))

-- one step more, that is of server i or of none
kept_after : (count : ℕ) (seen : List Seen) (o : Seen) (kept : List JobsSeen) (so : Option ℕ) → server_of o.event ≡ so → AreKept count seen kept
    → AreKept count (o ∷ seen) (kept_with so o kept)
kept_after count seen o kept None is was =
    record { servers = was.servers; each = λ s lt. was.each s lt ∙ ap jobs_seen (sym (other_step s o seen (rw is refl))) }
kept_after count seen o kept (Some i) is was = elim (cases_Bool (ltb i (length kept))) [
  | inl y ↦
      let there : i < length kept = grind (arith, nat_tests) in
      let inside : i < count = let c = was.servers in omega arith in
      let after = jobs_after o.clock o.event (jobs_at kept i) in
      rw y (record {
        servers = length-set kept i after ∙ was.servers;
        each = λ s lt. elim (cases_Bool (eqb i s)) [
          | inl t ↦
              let same : i ≡ s = grind (arith, nat_tests) in
              subst (λ x. jobs_at (set kept i after) x ≡ jobs_seen (steps_of x (o ∷ seen))) same (jobs_there seen o kept i is there (was.each i inside))
          | inr f ↦
              let ne : s ≡ i → ⊥ = λ e. grind (arith, nat_tests) in
              let other : is_server s (server_of o.event) ≡ false = rw is f in
              get_or-set_other kept i s after no_jobs ne ∙ (was.each s lt ∙ ap jobs_seen (sym (other_step s o seen other)))
        ];
      })
  | inr n ↦
      let gone : length kept ≤ i = grind (arith, nat_tests) in
      rw n (record {
        servers = was.servers;
        each = λ s lt.
            let ne : eqb i s ≡ false = let c = was.servers in grind (arith, nat_tests) in
            let other : is_server s (server_of o.event) ≡ false = rw is ne in
            was.each s lt ∙ ap jobs_seen (sym (other_step s o seen other));
      })
]

-- what is kept after all steps
pub all_kept : (count : ℕ) (seen : List Seen) → AreKept count seen (kept_seen (new_kept count) seen)
all_kept count [] = record { servers = length-replicate count no_jobs; each = λ s lt. get_or-replicate count s no_jobs no_jobs lt }
all_kept count (o ∷ seen) = kept_after count seen o (kept_seen (new_kept count) seen) (server_of o.event) refl (all_kept count seen)
