use Rattle.std.proofs.Common.{◌≡◌, [], map, sym, ◌∙◌, ap}
use Rattle.std.specs.Prelude.{slice_get}
use Rattle.std.specs.Option.{option_map}
use Rattle.cbsrun_simulate.specs.Merging.{merged}
use Rattle.cbsrun_simulate.proofs.MergedTurns.{none_first, first_due}
use Rattle.cbsrun_simulate.proofs.merged.MergedReleases.next_tick.Goals as goal

pub returns-in_err-turn : goal.returns-in_err-turn
returns-in_err-turn g c =
    let coming = g.S.Releases.coming in
    let none : merged (map coming c.self.inside.sources.items) ≡ [] =
    none_first coming g.S.Releases.ordered c.self.inside.sources.items c.self.inside.turns c.first.ensures.tree c.self.invariant
    (sym c.first.ensures.first ∙ c.in_err-turn.was) in
    c.from_residual.ensures ∙ sym (ap (λ rs. option_map (λ r. r.tick) (slice_get rs 0)) none)
    ∙ ap (λ xs. option_map (λ r. r.tick) (slice_get (merged (map coming xs)) 0)) c.self.view_is

pub returns : goal.returns
returns g c =
    let coming = g.S.Releases.coming in
    c.due.ensures ∙ first_due coming g.S.Releases.ordered c.self.inside.sources.items c.self.inside.turns c.first.ensures.tree c.self.invariant
    c.in_ok-turn.turn (sym c.first.ensures.first ∙ c.in_ok-turn.was)
    ∙ ap (λ xs. option_map (λ r. r.tick) (slice_get (merged (map coming xs)) 0)) c.self.view_is
