use Rattle.std.proofs.Common.{◌≡◌, ◌<◌, ◌∙◌, arith}
use Rattle.std.proofs.lemmas.Grind.{common_steps}
use Rattle.std.proofs.lemmas.Bool.Decides.{nat_tests}
use Rattle.cbs_clients.specs.Houses.{core_of}
use Rattle.cbs_clients.specs.UntilClosed.{open_servers}
use Rattle.cbs_clients.proofs.OpenServers.{some_open, none_counted}
use Rattle.cbs_clients.proofs.house.House.is_over_with.Goals as goal

pub returns-else-unclosed-eq0-clause-over : goal.returns-else-unclosed-eq0-clause-over
returns-else-unclosed-eq0-clause-over g c =
    let ne = c.if-unclosed-eq0.false in (
      (λ e. let none : c.args.unclosed ≡ 0 = grind (arith, nat_tests) in absurd (ne none)),
      (λ over. absurd (ne (c.requires ∙ none_counted (core_of c.args.self.now) over.closed))),
    )

pub returns-else-unclosed-eq0-clause-waits : goal.returns-else-unclosed-eq0-clause-waits
returns-else-unclosed-eq0-clause-waits g c =
    let e = c.requires in
    let ne = c.if-unclosed-eq0.false in
    let some : 0 < open_servers (core_of c.args.self.now) = omega (arith, e, ne) in
    λ f drained. record { drained = drained; unclosed = some_open (core_of c.args.self.now) some }

pub returns-then-unclosed-eq0-clause-over : goal.returns-then-unclosed-eq0-clause-over
returns-then-unclosed-eq0-clause-over g c = grind (arith, common_steps)
