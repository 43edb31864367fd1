use Rattle.std.proofs.Common.{◌≡◌, ◌+◌, ◌≤◌, arith, refl, sym, ◌∙◌}
use Rattle.std.proofs.lemmas.Bool.{false≢true}
use Rattle.cbs_rules.specs.Rules.{clock_end}
use Rattle.cbs_clients.specs.Houses.{core_of}
use Rattle.cbs_pacer.proofs.Spans.{span_within}
use Rattle.cbs_pacer.proofs.pacer.Pacer.rest.Goals as goal

pub returns-clause-does : goal.returns-clause-does
returns-clause-does g c =
    let a = c.args.house.now in
    let clock = c.now-now.ensures.clock in
    let most = c.now-now.ensures.most in
    let early : (core_of a).clock ≤ clock_end = omega (arith, clock, most) in
    let within = span_within g.W.Work.meaning (core_of a) c.args.span a.housed.history early c.requires.span in
    let sum = c.saturating_add.ensures in
    let at : c.saturating_add.result ≡ (core_of a).clock + c.args.span = omega (arith, sum, clock, within) in (
      record { span = c.args.span; idle = c.requires.span; comes = rw at at c.due.ensures.comes; not_before = rw at at c.due.ensures.not_before },
      refl,
      c.requires.none,
      c.if-not-self.false,
      omega (arith, c.if-self-gt0.false),
      refl,
      (λ over. false≢true (sym c.if-is_over.false ∙ c.is_over.ensures.1 over)),
    )
