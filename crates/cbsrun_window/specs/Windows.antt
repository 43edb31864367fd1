-- The ticks that a picture shows.
use Rattle.std.specs.Prelude.{◌≡◌, ℕ, ◌+◌, ◌-◌, ◌<◌, ◌≤◌, Bool, ◌&&◌, leb, ltb, min, Result, Ok, Err}
use Rattle.cbsrun_window.specs.declared.shown.NothingShown.{NothingShown}
use Rattle.cbsrun_window.specs.declared.window.Window.{Window}
use Rattle.cbsrun_window.specs.declared.window.WindowError.{WindowError}
use Rattle.cbsrun_window.specs.declared.window.WindowError.TheVariants.{Empty, TooLong}

-- how many ticks a window has
abbrev pub ticks_of : Window → ℕ
ticks_of w = w.to - w.from

-- the window has tick t
abbrev pub has_tick : Window → ℕ → Bool
has_tick w t = leb w.from t && ltb t w.to

-- a tick of the window ends when the clock comes to t
abbrev pub ends_tick : Window → ℕ → Bool
ends_tick w t = ltb w.from t && leb t w.to

-- a window is short: it has at most 20000 ticks
abbrev pub IsShort : Window → Type 0
IsShort w = ticks_of w ≤ 20000

-- the ticks from one up to another are a short window, if there are 1 to 20000 of them. Otherwise the error says why they
-- are none
abbrev pub AnswersWindow : ℕ → ℕ → Result Window WindowError → Type 0
AnswersWindow from to (Ok w) = (w.from ≡ from) × (w.to ≡ to) × IsShort w
AnswersWindow from to (Err Empty) = to ≤ from
AnswersWindow from to (Err TooLong) = from + 20000 < to

-- the ticks from one up to another are a window, if there is one
abbrev pub AnswersLong : ℕ → ℕ → Result Window WindowError → Type 0
AnswersLong from to (Ok w) = (w.from ≡ from) × (w.to ≡ to)
AnswersLong from to (Err Empty) = to ≤ from
AnswersLong from to (Err TooLong) = ⊥

-- the rule of the window. Of the ticks that are asked for, a run shows those before its end. If it has none of them,
-- the error names the first one and the end
abbrev pub AnswersShown : Window → ℕ → Result Window NothingShown → Type 0
AnswersShown asked end (Ok w) = (w.from ≡ asked.from) × (w.to ≡ min asked.to end)
AnswersShown asked end (Err e) = (end ≤ asked.from) × (e ≡ record { from = asked.from; end = end })
