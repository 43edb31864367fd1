use Rattle.std.proofs.Common.{◌≡◌, ◌∙◌, ◌+◌, ◌∷◌, drop, length, ap, sym, arith}
use Rattle.std.proofs.lemmas.Slice.{between_to_end}
use Rattle.cbsrun_report_text.specs.Notes.{is_wrong, not_in_time}
use Rattle.cbsrun_report_text.proofs.Filters.{filter_from_position, filter_from_no_position}
use Rattle.cbsrun_report_text.proofs.verdict.append_first.Goals as goal

pub returns-in-Some : goal.returns-in-Some
returns-in-Some c =
    let servers = c.args.servers.now in
    let next = c.in-Some.place + 1 in
    let others = not_in_time (drop next servers) in
    let is : not_in_time servers ≡ c.index-servers-place.result ∷ others =
    filter_from_position is_wrong servers c.in-Some.place c.index-servers-place.result (sym c.in-Some.ensures)
    ∙ ap (λ s. s ∷ others) (sym c.index-servers-place.is) in
    let counted : c.count_wrong.result ≡ length others =
    c.count_wrong.ensures ∙ ap (λ ss. length (not_in_time ss)) (between_to_end servers next (length servers) (omega arith)) in
    rw is (rw counted at c.append_server.ensures)

pub returns-in-None : goal.returns-in-None
returns-in-None c =
    let none = filter_from_no_position is_wrong c.args.servers.now (sym c.in-None.ensures) in rw none (rw c.of-released.ensures.value at c.write.ensures.bytes)
