-- What a server takes in any window of a history.
use Rattle.std.proofs.Common.{ℕ, ◌<◌, List, [], length, arith}
use Rattle.std.proofs.lemmas.List.{length-map}
use Rattle.cbs_job.specs.Work.{Meaning}
use Rattle.cbs_rate.specs.Plan.{all_periods}
use Rattle.cbs_steps.specs.Accounts.{no_account, new_account}
use Rattle.cbs_steps.specs.History.{Setup, History, account, after}
use Rattle.cbs_steps.specs.Windows.{KeepsShare, KeepsCap}
use Rattle.cbs_steps.specs.declared.step.Step.{Step}
use Rattle.cbs_steps.proofs.LawfulServers.{IsLawful}
use Rattle.cbs_lists.proofs.Lists.{AllByRecursion-get}
use Rattle.cbs_steps.proofs.OnTime.{IsAdmitted, given, sound_after}
use Rattle.cbs_steps.proofs.OnTimeSteps.{IsSound}
use Rattle.cbs_steps.proofs.Promises.{count_after}
use Rattle.cbs_steps.proofs.Shares.{share_behind, cap_behind}

module _ {W : Type 0} (work : Meaning W) where
  -- each server of the setup is lawful after every list of steps
  lawful_behind : (setup : Setup) (M : List (Step W)) (s : ℕ) → IsAdmitted (given work setup) → s < length setup.servers
      → IsLawful work (account (after work setup M).accounts s)
  lawful_behind setup M s ok lt =
      let w = after work setup M in
      let n = count_after work setup M in
      let m = count_after work setup [] in
      let there : s < length w.accounts = omega (arith, lt, n, m, length-map setup.servers (new_account {W = W})) in
      (AllByRecursion-get (IsSound work (all_periods (given work setup))) w.accounts s no_account (sound_after work setup M ok).each there).lawful

  -- every history keeps the shares
  pub share_kept : (N : History W) → IsAdmitted (given work N.setup) → KeepsShare work N
  share_kept N ok = λ L K M s e lt. share_behind work N.setup K M s (lawful_behind N.setup M s ok lt)

  -- and the caps
  pub cap_kept : (N : History W) → IsAdmitted (given work N.setup) → KeepsCap work N
  cap_kept N ok = λ L K M s e lt. cap_behind work N K M s (lawful_behind N.setup [] s ok lt) (lawful_behind N.setup M s ok lt)
