use Rattle.std.proofs.Common.{◌∙◌, string_bytes, subst, sym, ℕ}
use Rattle.std.proofs.lemmas.Result.{err_from_is_err_and}
use Rattle.cbsrun_lines.proofs.Writers.{untouched}
use Rattle.cbsrun_lines.specs.Writers.{IsUntouched}
use Rattle.cbsrun_sweeps.specs.Sweeps.{IsSweep}
use Rattle.cbsrun_commands.specs.Sweeps.{IsSweepText}
use Rattle.cbsrun_commands.proofs.Endings.{stops_as}
use Rattle.cbsrun_commands.proofs.sweeps.sweep.Goals as goal

pub told_in-requires : goal.told_in-requires
told_in-requires g c = sym c.in_ok-sweep.ensures.servers.count

pub returns-in_err-load-clause-printed : goal.returns-in_err-load-clause-printed
returns-in_err-load-clause-printed g c =
    let p = err_from_is_err_and c.from_residual.result c.from_residual.ensures.1 in
    rw (p.1, p.2) (c.in_err-load.ensures, untouched _)

pub returns-in_err-sweep-clause-printed : goal.returns-in_err-sweep-clause-printed
returns-in_err-sweep-clause-printed g c =
    let p = err_from_is_err_and c.from_residual-in_err-sweep.result c.from_residual-in_err-sweep.ensures.1 in
    rw (p.1, p.2) (c.in_ok-load.load, c.in_ok-load.ensures, untouched _)

pub returns-in_err-text-clause-printed : goal.returns-in_err-text-clause-printed
returns-in_err-text-clause-printed g c =
    let p = err_from_is_err_and c.from_residual-in_err-text.result c.from_residual-in_err-text.ensures.1 in
    rw (p.1, p.2) (c.in_ok-load.load, c.in_ok-load.ensures, untouched _)

pub returns-in_err-print-clause-printed : goal.returns-in_err-print-clause-printed
returns-in_err-print-clause-printed g c =
    let p = err_from_is_err_and c.from_residual-in_err-print.result c.from_residual-in_err-print.ensures.1 in
    let is = IsSweepText c.args.asked.form c.args.asked.seeds c.args.name.now c.in_ok-load.load in
    let runs = subst (λ (n : ℕ). IsSweep c.args.name.now c.in_ok-load.load c.args.asked.seeds.first n c.in_ok-sweep.sweep) c.runs_of.ensures
    c.in_ok-sweep.ensures in
    let text : is (string_bytes c.in_ok-text.text) = (
      c.in_ok-sweep.sweep,
      runs,
      c.in_ok-text.ensures,
    ) in
    rw (p.1, p.2) (
      c.in_ok-load.load,
      c.in_ok-load.ensures,
      stops_as _ _ (λ t e. subst is (sym (e ∙ c.deref.ensures)) text) IsUntouched _ _ _ c.in_err-print.ensures,
    )

pub returns-clause-printed : goal.returns-clause-printed
returns-clause-printed g c =
    let p = c.in_ok-print.ensures in
    let is = IsSweepText c.args.asked.form c.args.asked.seeds c.args.name.now c.in_ok-load.load in
    let runs = subst (λ (n : ℕ). IsSweep c.args.name.now c.in_ok-load.load c.args.asked.seeds.first n c.in_ok-sweep.sweep) c.runs_of.ensures
    c.in_ok-sweep.ensures in
    let text : is (string_bytes c.in_ok-text.text) = (
      c.in_ok-sweep.sweep,
      runs,
      c.in_ok-text.ensures,
    ) in
    (c.in_ok-load.load, p.0, c.in_ok-load.ensures, subst is (sym (p.1 ∙ c.deref.ensures)) text, p.2)

pub returns-clause-answer : goal.returns-clause-answer
returns-clause-answer g c =
    let runs = subst (λ (n : ℕ). IsSweep c.args.name.now c.in_ok-load.load c.args.asked.seeds.first n c.in_ok-sweep.sweep) c.runs_of.ensures
    c.in_ok-sweep.ensures in
    (c.in_ok-load.load, c.in_ok-load.ensures, (c.in_ok-sweep.sweep, runs, c.is_in_time.ensures))
