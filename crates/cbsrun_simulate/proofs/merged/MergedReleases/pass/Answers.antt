use Rattle.std.proofs.Common.{◌≡◌, ◌<◌, [], length, map, refl, sym, subst, ◌∙◌, ap, arith}
use Rattle.std.proofs.lemmas.List.{length-map}
use Rattle.cbsrun_simulate.specs.Merging.{merged}
use Rattle.cbsrun_simulate.proofs.MergedTurns.{none_first, first_place, first_releases, first_passed, first_set}
use Rattle.cbsrun_simulate.proofs.merged.MergedReleases.pass.Goals as goal

pub returns-in_default : goal.returns-in_default
returns-in_default g c =
    let coming = g.S.Releases.coming in
    let none : merged (map coming c.self.inside.sources.items) ≡ [] =
    none_first coming g.S.Releases.ordered c.self.inside.sources.items c.self.inside.turns c.first.ensures.tree c.self.invariant
    (sym c.first.ensures.first ∙ c.in_default.is) in
    let now : merged (map coming c.args.self.now) ≡ [] = sym (ap (λ xs. merged (map coming xs)) c.self.view_is) ∙ none in
    rw now refl

pub index_mut-source-requires : goal.index_mut-source-requires
index_mut-source-requires g c =
    let lt = first_place g.S.Releases.coming g.S.Releases.ordered c.self.inside.sources.items c.self.inside.turns c.first.ensures.tree c.self.invariant
    c.in-Some.turn (sym c.first.ensures.first ∙ c.in-Some.is) in
    let same = c.self.inside.sources.ok.0 in
    omega arith

pub pass-requires : goal.pass-requires
pass-requires g c =
    let coming = g.S.Releases.coming in
    first_releases coming g.S.Releases.ordered c.self.inside.sources.items c.self.inside.turns c.first.ensures.tree c.self.invariant
    c.in-Some.turn (sym c.first.ensures.first ∙ c.in-Some.is) c.index_mut-source.result.now c.index_mut-source.ensures.value
    (subst (λ xs. 0 < length (merged (map coming xs))) (sym c.self.view_is) c.requires)

pub set-requires : goal.set-requires
set-requires g c =
    let xs = c.self.inside.sources.items in
    let lt = first_place g.S.Releases.coming g.S.Releases.ordered xs c.self.inside.turns c.first.ensures.tree c.self.invariant
    c.in-Some.turn (sym c.first.ensures.first ∙ c.in-Some.is) in
    let size = c.self.invariant.size in
    omega (arith, length-map xs g.S.Releases.coming)

pub invariant_of-self : goal.invariant_of-self
invariant_of-self g c =
    first_set g.S.Releases.coming g.S.Releases.ordered c.self.inside.sources.items c.self.inside.turns c.first.ensures.tree c.self.invariant
    c.in-Some.turn (sym c.first.ensures.first ∙ c.in-Some.is) c.index_mut-source.result.now c.index_mut-source.ensures.value
    c.pass.new.self c.pass.ensures c.set.new.self c.first-next.result c.first-next.ensures.next c.first-next.ensures.early c.set.ensures

pub returns : goal.returns
returns g c =
    let coming = g.S.Releases.coming in
    first_passed coming g.S.Releases.ordered c.self.inside.sources.items c.self.inside.turns c.first.ensures.tree c.self.invariant
    c.in-Some.turn (sym c.first.ensures.first ∙ c.in-Some.is) c.index_mut-source.result.now c.index_mut-source.ensures.value
    c.pass.new.self c.pass.ensures
    (subst (λ xs. 0 < length (merged (map coming xs))) (sym c.self.view_is) c.requires) c.args.self.now (sym c.self.view_is)
