use Rattle.std.proofs.Common.{◌++◌, codes, decimal, sym, append-nil, arith}
use Rattle.std.specs.Prelude.{string_bytes}
use Rattle.cbsrun_refusal_texts.proofs.Pages.{appends_more}
use Rattle.cbsrun_other_faults.proofs.Told.{more_none, more_some}
use Rattle.cbsrun_other_faults.proofs.others.append_more.Goals as goal

pub returns-then-count-gt0 : goal.returns-then-count-gt0
returns-then-count-gt0 c =
    appends_more c.args.page.now c.push_number.new.self c.push.new.self (codes "\nand " ++ decimal c.args.count) (codes " more\n") _ c.push_number.ensures
    c.push.ensures (sym (more_some c.args.count (omega (arith, c.if-count-gt0.true))))

pub returns-else-count-gt0 : goal.returns-else-count-gt0
returns-else-count-gt0 c =
    λ free. (free, rw (more_none c.args.count (omega (arith, c.if-count-gt0.false))) (sym (append-nil c.args.page.now.text)))
