-- What one unit overran is made up within the time in which as many ticks are free.
use Rattle.std.proofs.Common.{◌≡◌, ℕ, ◌+◌, ◌-◌, ◌*◌, ◌≤◌, ◌<◌, List, ◌∷◌, ◌++◌, length, arith, refl, inl, inr}
use Rattle.std.specs.Prelude.{IfSome}
use Rattle.std.specs.Int.{div_ceil}
use Rattle.std.proofs.lemmas.Bool.{cases_lt}
use Rattle.std.proofs.lemmas.Bool.Decides.{eqb_tells}
use Rattle.std.proofs.lemmas.Grind.{div_ceil_times}
use Rattle.std.proofs.lemmas.Nat.{mul-le}
use Rattle.std.proofs.Math.Nat.{le_of_mul-le-mul_right}
use Rattle.cbs_rate.specs.Plan.{IsPlan, all_periods, total_share, common_multiple}
use Rattle.cbs_rate.specs.Rate.{Rate}
use Rattle.cbs_rate.proofs.Multiples.{all_periods_some}
use Rattle.cbs_rate.proofs.Rooms.{total_is}
use Rattle.cbs_recovery.proofs.Recovery.{plan_one}
use Rattle.cbs_steps.specs.History.{account, after}
use Rattle.cbs_steps.specs.declared.step.Step.TheVariants.{Charge}
use Rattle.cbs_steps.specs.Setups.{history_of}
use Rattle.cbsrun_loads.specs.Loads.{LoadFile}
use Rattle.cbsrun_simulate.specs.Loading.{loading}
use Rattle.cbsrun_sizing.specs.Budgets.{reserved}
use Rattle.cbsrun_sizing.specs.Recoveries.{greatest_overrun, free, recovery, IsMadeUpWithin}

-- what is free in two spans of ticks, of which parts a and b are reserved: the same part of each
same_part : (p s e m r g : ℕ) → p ≡ s + e → m ≡ r + g → r * p ≡ s * m → e * m ≡ p * g
same_part p s e m r g is_p is_m same = let both : r * (s + e) ≡ s * (r + g) = rw (is_p, is_m) at same in rw (is_p, is_m) (omega arith)

-- in a time in which `most` ticks are free, no fewer ticks are free in parts
enough : (p e m g n x k most : ℕ) → 0 < m → e * m ≡ p * g → n ≤ x → most * m ≤ n * g → k ≤ most → k * p ≤ x * e
enough p e m g n x k most some same n_x enough_free few =
    let a = mul-le n g x g n_x (omega arith) in
    let b = mul-le k m most m few (omega arith) in
    let c : k * m ≤ x * g = omega (arith, a, b, enough_free) in
    let d = mul-le (k * m) p (x * g) p c (omega arith) in
    let f : x * (e * m) ≡ x * (p * g) = rw same refl in
    le_of_mul-le-mul_right {m = k * p} {n = x * e} {k = m} (omega (arith, d, f)) some

module _ (f : LoadFile) (ok : IsPlan f.plan) (same : length f.modes ≡ length f.plan.rates) where
  abbrev rates : List Rate
  rates = f.plan.rates

  -- the same part is free of the product of all periods
  free_same : (all_periods rates - total_share rates) * common_multiple rates ≡ all_periods rates * free rates
  free_same =
      let h = total_is rates ok.lawful in
      let most = ok.at_most_one in
      let a = mul-le (total_share rates) (common_multiple rates) (all_periods rates) (common_multiple rates) most (omega arith) in
      let within : reserved rates ≤ common_multiple rates =
      le_of_mul-le-mul_right {m = reserved rates} {n = common_multiple rates} {k = all_periods rates} (omega (arith, h.exact, a)) (all_periods_some rates ok.lawful) in
      same_part (all_periods rates) (total_share rates) (all_periods rates - total_share rates) (common_multiple rates) (reserved rates) (free rates)
      (omega arith) (omega arith) h.exact

  made_up_within : (n : ℕ) → greatest_overrun f.sources * common_multiple rates ≤ n * free rates → IsMadeUpWithin f n
  made_up_within n some later earlier c ticks s few quiet none before lt ready due =
      let setup = (history_of f.modes rates f.backlog earlier).setup in
      let w = after loading setup (later ++ Charge c ticks ∷ earlier) in
      let d = (account w.accounts s).state.deadline in
      let t = (after loading setup earlier).now in
      let p = all_periods rates in
      let e = all_periods rates - total_share rates in
      let m = (total_is rates ok.lawful).some in
      elim (cases_lt w.now d) [
        | inl early ↦ early
        | inr late ↦
            let law = plan_one loading f.plan f.modes f.backlog ok same later earlier c ticks s quiet none before lt ready late in
            let a = enough p e (common_multiple rates) (free rates) n (d - t) ticks (greatest_overrun f.sources) m free_same (omega arith) some few in
            let b = mul-le d p w.now p late (omega arith) in
            absurd (omega (arith, law, a, b))
      ]

  -- what is told of a load
  pub made_up : IfSome (recovery f) (IsMadeUpWithin f)
  made_up = elim (eqb_tells (free rates) 0) [
    | inl none ↦ rw none.0 tt
    | inr some ↦
        let g : 0 < free rates = omega (arith, some.1) in
        let h = div_ceil_times (greatest_overrun f.sources * common_multiple rates) (free rates) g in
        rw some.0 (made_up_within (div_ceil (greatest_overrun f.sources * common_multiple rates) (free rates)) h.0)
  ]
