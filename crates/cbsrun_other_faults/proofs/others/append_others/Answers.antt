use Rattle.std.proofs.Common.{◌≡◌, ◌-◌, ◌∙◌, length, take, drop, refl}
use Rattle.toml.specs.View.{table_view}
use Rattle.cbsrun_loads.specs.Faults.{load_faults, AreFaults}
use Rattle.cbsrun_other_faults.specs.Others.{TellsEach}
use Rattle.cbsrun_refusal_texts.specs.Pages.{AppendsA}
use Rattle.cbsrun_refusal_texts.proofs.Pages.{accepted}
use Rattle.cbsrun_other_faults.proofs.Told.{after_first, not_kept, others_told}
use Rattle.cbsrun_other_faults.proofs.others.append_others.Goals as goal

pub returns : goal.returns
returns c =
    let most = c.args.most in
    let all = load_faults (table_view c.args.document.top.now) in
    let made = accepted c.load_faults-faults.result c.accept.result c.in-Some.faults c.args.page.now c.accept.new.self (AreFaults most all) c.accept.ensures
    c.in-Some.is c.load_faults-faults.ensures.faults in
    let first : c.deref.result.now ≡ take most all = c.deref.ensures.value ∙ made.0.first in
    let others : length c.unwrap_or.result.now ≡ length (drop 1 (take most all)) =
    rw (c.unwrap_or.ensures, ← first) (after_first c.deref.result.now c.get.result _ refl c.get.ensures.lookup) in
    let count : c.in-Some.faults.count - c.len.result ≡ length all - most =
    rw (made.0.count, c.len.ensures, ← c.deref.ensures.len, first) (not_kept most all) in
    let told : AppendsA (TellsEach (length c.unwrap_or.result.now)) c.args.page.now c.append_each.new.page = rw made.1 at c.append_each.ensures in
    others_told c.args.page.now c.append_each.new.page c.append_more.new.page most _ _ all others (c.saturating_sub.ensures ∙ count) told c.append_more.ensures
