use Rattle.std.proofs.Common.{List, ℕ, ◌++◌, ◌≡◌, map, refl, sym}
use Rattle.std.proofs.lemmas.List.{append_assoc}
use Rattle.toml.specs.View.{view}
use Rattle.cbsrun_refusal_texts.specs.Over.{IsHelpThat, TellsGreatest, TellsLeastIfAny, TellsSplit, AreHelps}
use Rattle.cbsrun_refusal_texts.proofs.Pages.{both}
use Rattle.cbsrun_refusal_texts.proofs.over.append_helps.Goals as goal

pub returns : goal.returns
returns c =
    let plan = c.args.refused.now.plan in
    let rate = c.args.refused.now.reservation in
    let entries = map view c.args.document.servers.now in
    let Greatest = IsHelpThat (TellsGreatest c.args.refused.now.tick plan rate.period) in
    let Least = TellsLeastIfAny c.args.refused.now.tick plan rate.budget in
    let Split = TellsSplit c.args.refused.now.tick plan.bound entries in
    let Two = λ (t : List ℕ). (x : List ℕ) × (y : List ℕ) × Least x × Split y × (t ≡ x ++ y) in
    both c.args.page.now c.append_greatest.new.page c.append_split.new.page Greatest Two (AreHelps entries c.args.refused.now) c.append_greatest.ensures
    (both c.append_greatest.new.page c.append_least.new.page c.append_split.new.page Least Split Two c.append_least.ensures
    (rw c.bound.ensures at c.append_split.ensures) (λ x y l s. (x, y, l, s, refl)))
    (λ x y g t. record {
      on_budget = x;
      on_period = t.0;
      on_split = t.1;
      greatest = g;
      least = t.2;
      split = t.3;
      bytes = rw t.4 (sym (append_assoc x t.0 t.1));
    })
