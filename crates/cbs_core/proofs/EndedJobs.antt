-- The jobs that are held of a server, if the first ends before its last unit.
use Rattle.std.proofs.Common.{◌≡◌, ℕ, ◌+◌, ◌-◌, ◌<◌, List, [], ◌∷◌, length, map, take, drop, get_or, refl, ap, ◌∙◌, arith, length-drop}
use Rattle.std.specs.List.{sum_by, AllByRecursion}
use Rattle.std.proofs.lemmas.List.{drop_more}
use Rattle.std.proofs.lemmas.List.Sums.{sum_by_more}
use Rattle.cbs_job.specs.Work.{Meaning, whole}
use Rattle.cbs_lists.specs.Lists.{changed_at}
use Rattle.cbs_lists.proofs.Lists.{length-changed_at, positive_along}
use Rattle.cbs_steps.specs.Accounts.{Account, need, face_of}
use Rattle.cbs_steps.proofs.FinishedJobs.{count_done-is}
use Rattle.cbs_steps.proofs.JobsLeft.{AreLeft, Parts}
use Rattle.cbs_hindsight.specs.Hindsight.{Ending, IsCut, account_cut}
use Rattle.cbs_hindsight.proofs.CutLists.{drop-changed, need_cut}
use Rattle.cbs_hindsight.proofs.Hindsight.{IsBegun}
use Rattle.cbs_core.specs.Agreement.{AgreesJobs}
use Rattle.cbs_core.specs.Held.{with_job_ended}
use Rattle.cbs_core.proofs.HeldJobs.{agrees_by, parts_of}

module _ {W : Type 0} (work : Meaning W) (cut : ℕ → W → W) (law : IsCut work cut) (a : Account W) (k n : ℕ)
    (is : IsBegun work a k) (last : need work a k + n ≡ a.got) where
  -- the accepted jobs, with the one that ends cut to the units that it got
  abbrev xs : List W
  xs = changed_at (cut n) a.accepted k

  -- the units got are all that the jobs up to that one need
  full : sum_by work.left (take (k + 1) xs) ≡ a.got
  full = need_cut work.left (cut n) n (law n) a.accepted k is.there (let s = is.short in omega arith) ∙ last

  -- the jobs after it
  behind : drop (k + 1) xs ≡ drop (k + 1) a.accepted
  behind = drop-changed (cut n) a.accepted k (k + 1) (omega arith)

  -- what is left of the jobs after it
  record Rest (js zs : List W) : Type 0 where
    more : k + 1 < length xs → a.got < sum_by work.left (take (k + 1 + 1) xs)
    lefts : AreLeft work.left (sum_by work.left (take (k + 1 + 1) xs) - a.got) js zs

  rest : (js zs : List W) → drop (k + 1) a.accepted ≡ zs → map work.left js ≡ map work.left zs → AllByRecursion (λ w. 0 < work.left w) zs → Rest js zs
  rest [] [] d same all = record {
    more = λ lt. let e = ap length (behind ∙ d) in let l = length-drop (k + 1) xs in absurd (omega arith);
    lefts = tt;
  }
  rest [] (z ∷ zs) d same all = absurd (cc)
  rest (j ∷ js) [] d same all = absurd (cc)
  rest (j ∷ js) (z ∷ zs) d same all =
      let within : k + 1 < length xs = let e = ap length (behind ∙ d) in omega (arith, length-drop (k + 1) xs) in
      let split = drop_more xs (k + 1) z within in
      let whole_list = behind ∙ d in
      let here : get_or xs (k + 1) z ≡ z = cc in
      let more = sum_by_more work.left xs (k + 1) z within in
      let next : sum_by work.left (take (k + 1 + 1) xs) ≡ a.got + work.left z = more ∙ ap (λ v. sum_by work.left (take (k + 1) xs) + work.left v) here ∙ ap (λ g. g + work.left z) full in
      let some = all.0 in
      let first : work.left j ≡ work.left z = cc in
      record { more = λ _. omega arith; lefts = (omega arith, cc) }

  -- the jobs held without the first are those left in hindsight
  ended : (js zs : List W) → drop k a.accepted ≡ zs → map (whole work) js ≡ map (whole work) zs → (m : ℕ) → AreLeft work.left m js zs → AllByRecursion (λ w. 0 < work.left w) js
      → Parts work (drop 1 js) xs a.got (k + 1)
  ended [] [] d results m lefts all = let e = ap length d in let l = length-drop k a.accepted in let t = is.there in absurd (omega arith)
  ended [] (z ∷ zs) d results m lefts all = absurd lefts
  ended (j ∷ js) [] d results m lefts all = absurd lefts
  ended (j ∷ js) (z ∷ zs) d results m lefts all =
      let split = drop_more a.accepted k z is.there in
      let after : drop (k + 1) a.accepted ≡ zs = cc in
      let left = rest js zs after lefts.1 (positive_along work.left js zs lefts.1 all.1) in
      record {
        count = count_done-is work.left xs a.got (k + 1) (let t = is.there in omega (arith, length-changed_at (cut n) a.accepted k)) (let f = full in omega arith) left.more;
        results = rw (behind, after) (cc);
        lefts = rw (behind, after) left.lefts;
      }

  module _ (jobs : List W) (agrees : AgreesJobs work jobs a) (all : AllByRecursion (λ w. 0 < work.left w) jobs) where
    parts : Parts work (drop 1 jobs) xs a.got (k + 1)
    parts =
        let p = rw is.first at (parts_of work jobs a agrees) in
        ended jobs (drop k a.accepted) refl p.results _ p.lefts all

    -- so they agree
    pub ended_jobs : (e : Ending) → e.seq ≡ k → e.units ≡ n → AgreesJobs work (drop 1 jobs) (account_cut cut e a)
    ended_jobs e seq units = rw (seq, units) (agrees_by work (drop 1 jobs) (record a { accepted = xs }) (k + 1) parts)

    -- and the server shows one more finished job
    pub ended_face : (e : Ending) → e.seq ≡ k → e.units ≡ n → face_of work (account_cut cut e a) ≡ with_job_ended (face_of work a)
    ended_face e seq units = rw (seq, units) (let c = parts.count in let f = is.first in let l = length-changed_at (cut n) a.accepted k in rw (c, l, f) refl)
