-- What is kept of the servers that wait to be replenished, as servers change.
use Rattle.std.proofs.Common.{◌≡◌, ℕ, zero, suc, ◌<◌, ◌≤◌, true, List, [], ◌∷◌, length, map, get_or, set, take, refl, sym, ◌∙◌, ap, arith}
use Rattle.std.specs.Prelude.{min}
use Rattle.cbs_rules.specs.Rules.{Terms}
use Rattle.cbs_lists.proofs.Lists.{AllByRecursion-get, AllByRecursion-set, AllByRecursion-take_set}
use Rattle.cbs_steps.specs.Faces.{Face, new_face, is_active, is_ready}
use Rattle.cbs_core.specs.Waiting.{Keeps, IsNoted}
use Rattle.cbs_steps.specs.Waiting.{most, IsNotDueBefore, wake}
use Rattle.cbs_steps.proofs.Waiting.{due_earlier, due_ready, wake_most, wakes_most, wake_least, wake_ready, wake_set, wake_more}
use Rattle.cbs_core.specs.declared.waits.Waits.{Waits}

-- nobody waits among new servers
pub keeps_new : (ts : List Terms) → Keeps (record { due = most; wakes = most }) (map new_face ts)
keeps_new [] = record { due = tt; wakes = refl }
keeps_new (t ∷ ts) = let rest = keeps_new ts in record { due = (λ throttled. absurd (cc), rest.due); wakes = let same = rest.wakes in omega arith }

-- a server that did not wait changes, and is taken in
pub keeps_noted : (w after : Waits) (fs : List Face) (i : ℕ) (x y : Face) → Keeps w fs → i < length fs → x ≡ get_or fs i x → wake x ≡ most
    → IsNoted w y after → Keeps after (set fs i y)
keeps_noted w after fs i x y keeps lt read free noted = record {
  due = AllByRecursion-set (IsNotDueBefore after.due) fs i y (due_earlier w.due after.due fs noted.earlier keeps.due) noted.due;
  wakes =
      let le : w.wakes ≤ most = rw keeps.wakes (wakes_most fs) in
      noted.wakes le ∙ (ap (λ n. min n (wake y)) keeps.wakes ∙ sym (wake_set fs i x y lt read (rw free (wake_most y))));
}

-- a server stays ready
pub keeps_ready : (w : Waits) (fs : List Face) (i : ℕ) (x y : Face) → Keeps w fs → i < length fs → x ≡ get_or fs i x → is_ready x ≡ true
    → is_ready y ≡ true → Keeps w (set fs i y)
keeps_ready w fs i x y keeps lt read was is =
    keeps_noted w w fs i x y keeps lt read (wake_ready x was) (record {
      earlier = omega arith;
      due = due_ready w.due y is;
      wakes = λ le. rw (wake_ready y is) (omega arith);
    })

-- a server changes, but waits as before
pub keeps_same : (w : Waits) (fs : List Face) (i : ℕ) (x y : Face) → Keeps w fs → i < length fs → x ≡ get_or fs i x → y.state ≡ x.state
    → is_active y ≡ is_active x → Keeps w (set fs i y)
keeps_same w fs i x y keeps lt read state active =
    let same : wake y ≡ wake x = rw (state, active) refl in
    let here : IsNotDueBefore w.due x = rw read (AllByRecursion-get (IsNotDueBefore w.due) fs i x keeps.due lt) in
    let least = wake_least fs i x lt read in
    record {
      due = AllByRecursion-set (IsNotDueBefore w.due) fs i y keeps.due (λ t. let throttled : x.state.throttled ≡ true = rw state at t in rw state (here throttled));
      wakes = keeps.wakes ∙ (let is = wake_set fs i x y lt read (omega arith) in omega arith);
    }

-- one more server is seen, which has changed and is taken in
pub keeps_more : (w after : Waits) (fs : List Face) (i : ℕ) (f : Face) → Keeps w (take i fs) → i < length fs → IsNoted w f after
    → Keeps after (take (suc i) (set fs i f))
keeps_more w after fs i f keeps lt noted = record {
  due = AllByRecursion-take_set (IsNotDueBefore after.due) fs i f lt (due_earlier w.due after.due (take i fs) noted.earlier keeps.due) noted.due;
  wakes = noted.wakes (rw keeps.wakes (wakes_most (take i fs))) ∙ (ap (λ n. min n (wake f)) keeps.wakes ∙ sym (wake_more fs i f lt));
}

-- one more server is seen, which has not changed
pub keeps_next : (w after : Waits) (fs : List Face) (i : ℕ) (f : Face) → Keeps w (take i fs) → i < length fs → f ≡ get_or fs i f → IsNoted w f after
    → Keeps after (take (suc i) fs)
keeps_next w after fs i f keeps lt read noted = rw (set_self fs i f lt read) at (keeps_more w after fs i f keeps lt noted)
  where
    set_self : (fs : List Face) (i : ℕ) (f : Face) → i < length fs → f ≡ get_or fs i f → set fs i f ≡ fs
    set_self [] i f lt read = absurd (omega arith)
    set_self (x ∷ fs) zero f lt read = ap (λ y. y ∷ fs) read
    set_self (x ∷ fs) (suc i) f lt read = ap (λ ys. x ∷ ys) (set_self fs i f (omega arith) read)
