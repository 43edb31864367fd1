-- Stretches of ticks in which one thing goes on.
use Rattle.std.specs.Prelude.{◌≡◌, ℕ, Bool, true, false, ◌&&◌, eqb, leb, ltb, if◌then◌else◌, max, min, List, [], ◌∷◌, ◌++◌, Option, Some, None}
use Rattle.std.specs.Option.{option_to_list}
use Rattle.std.specs.List.{list_any}
use Rattle.cbsrun_window.specs.declared.stretch.Kind.{Kind}
use Rattle.cbsrun_window.specs.declared.stretch.Kind.TheVariants as kind
use Rattle.cbsrun_window.specs.declared.stretch.Stretch.{Stretch}
use Rattle.cbsrun_window.specs.declared.window.Window.{Window}

-- both kinds are the same
abbrev pub same_kind : Kind → Kind → Bool
same_kind (kind.Runs i) (kind.Runs j) = eqb i j
same_kind kind.Charged kind.Charged = true
same_kind kind.Waits kind.Waits = true
same_kind kind.Throttled kind.Throttled = true
same_kind kind.Resting kind.Resting = true
same_kind kind.Refused kind.Refused = true
same_kind kind.Late kind.Late = true
same_kind kind.Idle kind.Idle = true
same_kind _ _ = false

-- a stretch takes tick t
abbrev pub takes : ℕ → Stretch → Bool
takes t p = leb p.from t && ltb t p.to

-- the stretch is of this kind, and takes tick t
abbrev pub shows : Kind → ℕ → Stretch → Bool
shows k t p = same_kind p.kind k && takes t p

-- one of the stretches is of this kind and takes tick t
abbrev pub is_covered : Kind → ℕ → List Stretch → Bool
is_covered k t ps = list_any (shows k t) ps

-- the part of a stretch that is within a window
abbrev pub clipped : Window → Stretch → Stretch
clipped w p = record { kind = p.kind; from = max p.from w.from; to = min p.to w.to }

-- stretch p is of the kind of stretch q, and begins within q or at its end
abbrev pub joins : Stretch → Stretch → Bool
joins q p = same_kind q.kind p.kind && (leb q.from p.from && leb p.from q.to)

-- stretches in order: those that do not change any more, and the last one, which the next may join
pub record Joined : Type 0 where
  pub done : List Stretch
  pub last : Option Stretch

abbrev pub nothing_joined : Joined
nothing_joined = record { done = []; last = None }

-- all stretches
abbrev pub all_of : Joined → List Stretch
all_of j = j.done ++ option_to_list j.last

-- the stretches with one more, which has at least one tick. If it joins the last one, it becomes part of it
abbrev pub joined_with : Stretch → List Stretch → Option Stretch → Joined
joined_with p done None = record { done = done; last = Some p }
joined_with p done (Some q) =
    if joins q p then record { done = done; last = Some (record { kind = q.kind; from = q.from; to = max q.to p.to }) }
    else record { done = done ++ q ∷ []; last = Some p }

-- the stretches with the part of one more that is within a window, if there is such a part
abbrev pub with_stretch : Window → Stretch → Joined → Joined
with_stretch w p j = if ltb (max p.from w.from) (min p.to w.to) then joined_with (clipped w p) j.done j.last else j

-- no stretch joins the one before it: neighbouring stretches of one kind are one stretch
abbrev pub AreApart : List Stretch → Type 0
AreApart [] = Unit {0}
AreApart (p ∷ []) = Unit {0}
AreApart (p ∷ q ∷ ps) = (joins p q ≡ false) × AreApart (q ∷ ps)
