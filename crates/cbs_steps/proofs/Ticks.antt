-- What ticks leave: n of them are one jump.
use Rattle.std.proofs.Common.{◌≡◌, ℕ, zero, suc, ◌+◌, ◌≤◌, ◌<◌, List, [], ◌∷◌, map, refl, sym, ◌∙◌, arith}
use Rattle.std.proofs.lemmas.Simd.{map-map}
use Rattle.cbs_job.specs.Work.{Meaning}
use Rattle.cbs_rules.proofs.Replenishments.{replenished_twice}
use Rattle.cbs_steps.specs.Faces.{with_replenishment}
use Rattle.cbs_steps.specs.Accounts.{Account, face_of, account_with_replenishment}
use Rattle.cbs_steps.specs.History.{World, tick, ticks}

module _ {W : Type 0} (work : Meaning W) where
  -- what is shown of replenished servers
  pub replenished_faces : (now : ℕ) (accounts : List (Account W))
      → map (face_of work) (map (account_with_replenishment now) accounts) ≡ map (with_replenishment now) (map (face_of work) accounts)
  replenished_faces now accounts =
      map-map (face_of work) (account_with_replenishment now) accounts
      ∙ sym (map-map (with_replenishment now) (face_of work) accounts)

module _ {W : Type 0} where
  -- a replenishment of all at tick k and then at tick m, no earlier, leaves what the one at m alone leaves
  all_twice : (k m : ℕ) (accounts : List (Account W)) → k ≤ m
      → map (account_with_replenishment m) (map (account_with_replenishment k) accounts) ≡ map (account_with_replenishment m) accounts
  all_twice k m [] h = refl
  all_twice k m (a ∷ accounts) h = rw (replenished_twice a.terms.reservation k m a.state h, all_twice k m accounts h)

  -- the world after a jump by n ticks
  abbrev pub jumped : ℕ → World W → World W
  jumped n w = record { now = w.now + n; accounts = map (account_with_replenishment (w.now + n)) w.accounts }

  -- n + 1 ticks are one jump by n + 1
  ticks_jump : (n : ℕ) (w : World W) → ticks (suc n) w ≡ jumped (suc n) w
  unfolding ticks
  ticks_jump zero w = refl
  ticks_jump (suc n) w =
      let e : w.now + 1 + suc n ≡ w.now + suc (suc n) = omega arith in
      ticks_jump n (tick w) ∙ rw (all_twice (w.now + 1) (w.now + 1 + suc n) w.accounts (omega arith), e)

  -- no ticks leave the world as it is
  pub ticks_none : (w : World W) → ticks zero w ≡ w
  unfolding ticks
  ticks_none w = refl

  -- some ticks are one jump
  pub ticks_some : (n : ℕ) (w : World W) → 0 < n → ticks n w ≡ jumped n w
  ticks_some zero w h = absurd (omega arith)
  ticks_some (suc n) w h = ticks_jump n w
