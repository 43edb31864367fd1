use Rattle.std.proofs.Common.{◌≡◌, ℕ, List, ◌++◌, map}
use Rattle.std.specs.Prelude.{codes, decimal}
use Rattle.std.proofs.lemmas.List.{append_assoc}
use Rattle.toml.specs.Data.{Data}
use Rattle.toml.specs.View.{view}
use Rattle.cbs_rate.specs.Rate.{Rate}
use Rattle.cbs_rate.specs.Plan.{common_multiple}
use Rattle.cbs_rate.specs.declared.ratio.Ratio.{Ratio}
use Rattle.cbsrun_sizing.specs.Budgets.{reserved}
use Rattle.cbsrun_check_text.specs.Fractions.{fraction_text}
use Rattle.cbsrun_refusal_texts.specs.Over.{servers_text, part_line}
use Rattle.cbsrun_refusal_texts.proofs.Pages.{then, as_text}
use Rattle.cbsrun_refusal_texts.proofs.over.append_part.Goals as goal

line_is : (entries : List Data) (number : ℕ) (servers : List ℕ) (rates : List Rate) (r : Ratio) → r ≡ record { part = reserved rates; whole = common_multiple rates }
    → (codes "           " ++ decimal number) ++ (codes ": " ++ (servers_text entries servers ++ ((codes "  (" ++ fraction_text r.part r.whole) ++ codes ")\n")))
    ≡ part_line entries number servers rates
unfolding part_line
line_is entries number servers rates r is =
    rw is (by (decimal number) (servers_text entries servers) (fraction_text (reserved rates) (common_multiple rates)))
  where
    by : (n s f : List ℕ) → (codes "           " ++ n) ++ (codes ": " ++ (s ++ ((codes "  (" ++ f) ++ codes ")\n")))
        ≡ codes "           " ++ n ++ codes ": " ++ s ++ codes "  (" ++ f ++ codes ")\n"
    by n s f = simp append_assoc

pub returns : goal.returns
returns c =
    let end = c.push-2.new.self in
    as_text c.args.page.now end _ _
    (then c.args.page.now c.push_number.new.self end _ _ c.push_number.ensures
    (then c.push_number.new.self c.push.new.self end _ _ c.push.ensures
    (then c.push.new.self c.append_servers.new.page end _ _ c.append_servers.ensures
    (then c.append_servers.new.page c.push_fraction.new.self end _ _ c.push_fraction.ensures c.push-2.ensures))))
    (rw c.deref.ensures.value
    (line_is (map view c.args.document.servers.now) c.args.number c.args.part.now.servers.items c.args.part.now.plan.rates c.ratio_of_bandwidth.result
    (rw c.bandwidth.ensures.value at c.ratio_of_bandwidth.ensures)))
