-- How a command that draws ends, by what it did and by what was told of it.
use Rattle.std.proofs.Common.{◌≡◌, ◌+◌, ◌≤◌, Bool, true, false, List, [], ◌∷◌, ℕ, arith, length, subst, Result, Ok, Err, inl, inr, string_bytes}
use Rattle.std.specs.Prelude.{eqb, filter, if◌then◌else◌}
use Rattle.cbsrun_window.specs.Windows.{AnswersShown}
use Rattle.cbsrun_window.specs.declared.window.Window.{Window}
use Rattle.cbsrun_chart.specs.Chosen.{chosen, is_named}
use Rattle.cbsrun_chart.specs.declared.picture.Drawn.{Drawn as Server}
use Rattle.cbsrun_options.specs.Fits.{Fits}
use Rattle.cbsrun_options.specs.declared.actions.Drawing.{Drawing}
use Rattle.cbsrun_lines.specs.Writers.{Writer}
use Rattle.cbsrun_lines.specs.declared.run_error.RunError.{RunError}
use Rattle.cbsrun_commands.specs.Commands.{Tells}
use Rattle.cbsrun_commands.specs.Drawings.{Drawer, Draws, EndsDrawing, IsNoted, PrintsDrawing, TellsDrawn, closed_pipe, draws, drawn, no_server, nothing_shown, refused, stopped}
use Rattle.cbsrun_commands.specs.FaultLines.{StopsPrinting}
use Rattle.cbsrun_commands.specs.declared.drawn.Drawn.{Drawn}
use Rattle.cbsrun_commands.specs.declared.drawn.Drawn.TheVariants.{NoServer, Printed}
use Rattle.cbsrun_commands.specs.declared.ending.Stopped.{Stopped}
use Rattle.cbsrun_commands.specs.declared.ending.Stopped.TheVariants.{Unread, Ended, Run}
use Rattle.cbsrun_lines.specs.Writers.{IsUntouched}

-- a command that draws ends as it did, and as it was told
pub ends_drawing : {F : Type 0} (d : Drawer F) (bytes : List ℕ) (closed : Bool) (out out' err err' : Writer) (ended : Result Drawn Stopped) (status : ℕ)
    → Draws d bytes ended out out' → TellsDrawn d.name bytes closed ended err err' status → EndsDrawing d bytes closed out out' err err' status
ends_drawing d bytes closed out out' err err' (Ok (Printed cut)) status h t =
    rw t.0 (drawn h.0 h.1 h.2 h.3 h.5 (subst (λ c. IsNoted c err err') h.4 t.1))
ends_drawing d bytes closed out out' err err' (Ok (NoServer text)) status h t = rw t.0 (no_server h.0 (string_bytes text) h.1 h.2 h.3 t.1)
ends_drawing d bytes closed out out' err err' (Err (Unread fault)) status h t = rw t.0 (refused fault h.0 h.1 t.1)
ends_drawing d bytes closed out out' err err' (Err (Ended e)) status h t = rw t.0 (nothing_shown h.0 e h.1 h.2 h.3 t.1)
ends_drawing d bytes closed out out' err err' (Err (Run error)) status h (inl (broke, is, kept)) =
    let cut = subst (λ (e : RunError). StopsPrinting (draws d h.0) IsUntouched e out out') broke.0 h.2 in
    rw is (closed_pipe h.0 cut.0 h.1 cut.1 cut.2 broke.1 kept)
ends_drawing d bytes closed out out' err err' (Err (Run error)) status h (inr (other, is, told)) = rw is (stopped h.0 error h.1 h.2 other told)

-- what was printed of the run of a file is what the command draws of that file
pub drawn_of_file : {F : Type 0} (d : Drawer F) (bytes : List ℕ) (f : F) (r : Result Drawn Stopped) (old new : Writer) → d.read bytes ≡ Ok f
    → PrintsDrawing d.asked d.servers d.name (d.run f) (d.ends f) r old new → Draws d bytes r old new
drawn_of_file d bytes f (Ok (Printed cut)) old new is h = (f, h.0, is, (h.1, h.2), h.3, h.4)
drawn_of_file d bytes f (Ok (NoServer text)) old new is h = (f, is, h.0, h.1)
drawn_of_file d bytes f (Err (Unread fault)) old new is h = absurd h
drawn_of_file d bytes f (Err (Ended e)) old new is h = (f, is, h.0, h.1)
drawn_of_file d bytes f (Err (Run error)) old new is h = (f, is, h)

-- a drawing can show those ticks of a window that a run has
pub fits_shown : (drawing : Drawing) (asked w : Window) (end : ℕ) → AnswersShown asked end (Ok w) → Fits drawing asked → Fits drawing w
fits_shown drawing asked w end h fits = omega (arith, h.0, h.1, fits)

-- a list with one item more or not
one_more : {X : Type 0} (b : Bool) (x : X) (ys : List X) (n : ℕ) → length ys ≤ n → length (if b then x ∷ ys else ys) ≤ n + 1
one_more true x ys n le = omega (arith, le)
one_more false x ys n le = omega (arith, le)

-- no more servers are drawn than there are
filter_few : {X : Type 0} (f : X → Bool) (xs : List X) → length (filter f xs) ≤ length xs
filter_few f [] = omega arith
filter_few f (x ∷ xs) = let few = one_more (f x) x (filter f xs) (length xs) (filter_few f xs) in omega (arith, few)

few_of : {X : Type 0} (b : Bool) (xs ys : List X) → length ys ≤ length xs → length (if b then xs else ys) ≤ length xs
few_of true xs ys le = omega arith
few_of false xs ys le = le

pub chosen_few : (names : List (List ℕ)) (ds : List Server) → length (chosen names ds) ≤ length ds
chosen_few names ds = few_of (eqb (length names) 0) ds (filter (is_named names) ds) (filter_few (is_named names) ds)
