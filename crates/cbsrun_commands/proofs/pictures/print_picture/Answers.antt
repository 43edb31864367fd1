use Rattle.std.proofs.Common.{◌≡◌, ◌∙◌, ◌≤◌, List, ℕ, ap, arith, length, map, string_bytes, subst, sym}
use Rattle.cbsrun_lines.proofs.Writers.{untouched}
use Rattle.cbsrun_options.specs.Fits.{Fits}
use Rattle.cbsrun_window.specs.declared.window.Window.{Window}
use Rattle.cbsrun_commands.specs.Outputs.{IsDrawn}
use Rattle.cbsrun_commands.proofs.Drawings.{chosen_few}
use Rattle.cbsrun_commands.proofs.Endings.{prints_as}
use Rattle.std.proofs.lemmas.Result.{err_from_is_err_and}
use Rattle.cbsrun_commands.proofs.pictures.print_picture.Goals as goal

pub drawn_text-requires-clause-few : goal.drawn_text-requires-clause-few
drawn_text-requires-clause-few g c =
    let all = c.in_ok-picture_of.field-0 in
    let few = chosen_few (map string_bytes c.args.servers.now) all.servers.items in
    omega (arith, few, ap length c.chosen-picture.ensures.servers, c.in_ok-picture_of.ensures.few)

pub drawn_text-requires-clause-fits : goal.drawn_text-requires-clause-fits
drawn_text-requires-clause-fits g c =
    let drawn = c.in_ok-picture_of.ensures.picture in
    let same = c.chosen-picture.ensures.window ∙ (drawn.picture.window ∙ drawn.window) in
    subst (λ (w : Window). Fits c.args.drawing w) (sym same) c.requires.fits

pub returns-in_err-picture_of : goal.returns-in_err-picture_of
returns-in_err-picture_of g c =
    let p = err_from_is_err_and c.from_residual.result c.from_residual.ensures.1 in
    rw (p.1, p.2) (untouched _)

pub returns-in_err-text : goal.returns-in_err-text
returns-in_err-text g c =
    let p = err_from_is_err_and c.from_residual-in_err-text.result c.from_residual-in_err-text.ensures.1 in
    rw (p.1, p.2) (untouched _)

pub returns : goal.returns
returns g c = prints_as _ _ (λ t e. (
  c.chosen-picture.result,
  (c.in_ok-picture_of.field-0, c.in_ok-picture_of.ensures.picture, c.chosen-picture.ensures),
  subst (λ (x : List ℕ). IsDrawn c.args.drawing c.chosen-picture.result x) (sym (e ∙ c.deref.ensures)) c.in_ok-text.ensures,
)) c.print.result _ _ c.print.ensures
