use Rattle.std.proofs.Common.{◌≡◌, [], map, sym, ◌∙◌, ap, arith}
use Rattle.std.specs.Prelude.{slice_get}
use Rattle.cbsrun_simulate.specs.Merging.{merged}
use Rattle.cbsrun_simulate.proofs.MergedTurns.{none_first, first_place, first_shows}
use Rattle.cbsrun_simulate.proofs.merged.MergedReleases.first.Goals as goal

pub returns-in_err-turn-clause-next : goal.returns-in_err-turn-clause-next
returns-in_err-turn-clause-next g c =
    let coming = g.S.Releases.coming in
    let none : merged (map coming c.self.inside.sources.items) ≡ [] =
    none_first coming g.S.Releases.ordered c.self.inside.sources.items c.self.inside.turns c.first.ensures.tree c.self.invariant
    (sym c.first.ensures.first ∙ c.in_err-turn.was) in
    c.from_residual.ensures ∙ sym (ap (λ rs. slice_get rs 0) none) ∙ ap (λ xs. slice_get (merged (map coming xs)) 0) c.self.view_is

pub index-requires : goal.index-requires
index-requires g c =
    let lt = first_place g.S.Releases.coming g.S.Releases.ordered c.self.inside.sources.items c.self.inside.turns c.first.ensures.tree c.self.invariant
    c.in_ok-turn.turn (sym c.first.ensures.first ∙ c.in_ok-turn.was) in
    let same = c.self.inside.sources.ok.0 in
    omega arith

pub returns-clause-next : goal.returns-clause-next
returns-clause-next g c =
    let coming = g.S.Releases.coming in
    c.first-2.ensures.next ∙ ap (λ o. o) (first_shows coming g.S.Releases.ordered c.self.inside.sources.items c.self.inside.turns
    c.first.ensures.tree c.self.invariant
    c.in_ok-turn.turn (sym c.first.ensures.first ∙ c.in_ok-turn.was) c.index.result.now c.index.ensures)
    ∙ ap (λ xs. slice_get (merged (map coming xs)) 0) c.self.view_is
