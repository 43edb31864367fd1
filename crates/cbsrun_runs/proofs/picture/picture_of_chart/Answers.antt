use Rattle.std.proofs.Common.{◌≡◌, ◌∙◌, ◌<◌, ◌+◌, List, ◌++◌, ◌∷◌, [], append_assoc, ap, arith, length, length-append, map, subst, sym, Some}
use Rattle.std.proofs.lemmas.Grind.{common_steps}
use Rattle.std.specs.Prelude.{slice_get, string_bytes}
use Rattle.std.specs.Vec.Iter.{into_iter_items}
use Rattle.std.proofs.lemmas.List.{length-map, map-append}
use Rattle.cbsrun_chart.specs.declared.chart.ServerChart.{ServerChart}
use Rattle.cbsrun_chart.specs.declared.picture.Drawn.{Drawn}
use Rattle.cbsrun_runs.proofs.Drawings.{map_more}
use Rattle.cbsrun_runs.proofs.picture.picture_of_chart.Goals as goal

-- a server is next, so those so far are fewer than the charts
below : (xs : List Drawn) (ys zs rest all : List ServerChart) (x : ServerChart) → map (λ (d : Drawn). d.chart) xs ≡ ys → all ≡ ys ++ zs → zs ≡ x ∷ rest
    → length xs < length all
below xs ys zs rest all x charts is next = omega (
  arith,
  ap length charts,
  ap length is,
  ap length next,
  length-append ys zs,
  length-map xs (λ (d : Drawn). d.chart),
)

pub loop-chart-preserved : goal.loop-chart-preserved
loop-chart-preserved g c =
    let run = g.R.Run.run c.args.run.now in
    let l = c.loop-chart in
    let i = l.invariant in
    let n = length l.servers.items in
    let d : Drawn = c.in_ok-drawn.field-0 in
    let told = c.in_ok-drawn.ensures in
    let items : c.push.new.self.items ≡ l.servers.items ++ d ∷ [] = c.in_ok-push.ensures.items in
    let longer : length (l.servers.items ++ d ∷ []) ≡ n + 1 = length-append l.servers.items (d ∷ []) in
    let next : into_iter_items l.chart-iterator ≡ c.in-Some.chart ∷ into_iter_items c.next.new.self = c.in-Some.ensures.steps.0 in
    let at : c.len-server.result ≡ n = c.len-server.ensures ∙ l.servers.ok.0 in
    let name : slice_get run.names n ≡ Some (string_bytes d.name) = subst (λ k. slice_get run.names k ≡ Some (string_bytes d.name)) at (sym told.name) in
    let mode : slice_get run.modes n ≡ Some d.mode = subst (λ k. slice_get run.modes k ≡ Some d.mode) at (sym told.mode) in
    let reservation : slice_get run.plan.rates n ≡ Some d.reservation =
    subst (λ k. slice_get run.plan.rates k ≡ Some d.reservation) at (sym told.reservation) in
    record {
      count = omega (arith, ap length next, c.in-Some.ensures.steps.1, i.count);
      all = i.all ∙ ap (λ xs. l.yielded ++ xs) next ∙ sym (append_assoc l.yielded (c.in-Some.chart ∷ []) (into_iter_items c.next.new.self));
      charts = rw items (map-append (λ (x : Drawn). x.chart) l.servers.items (d ∷ [])
          ∙ (ap (λ cs. cs ++ d.chart ∷ []) i.charts ∙ ap (λ x. l.yielded ++ x ∷ []) told.chart));
      names = rw (items, longer) (map_more (λ (x : Drawn). string_bytes x.name) l.servers.items run.names n d i.names name);
      modes = rw (items, longer) (map_more (λ (x : Drawn). x.mode) l.servers.items run.modes n d i.modes mode);
      reservations = rw (items, longer) (map_more (λ (x : Drawn). x.reservation) l.servers.items run.plan.rates n d i.reservations reservation);
    }

pub drawn-requires : goal.drawn-requires
drawn-requires g c =
    let l = c.loop-chart in
    let lt : length l.servers.items < length c.args.chart.servers.items = below _ _ _ _ _ _ l.invariant.charts l.invariant.all c.in-Some.ensures.steps.0 in
    omega (arith, lt, c.len-server.ensures, l.servers.ok.0, c.requires)

pub overflow_cast-server : goal.overflow_cast-server
overflow_cast-server g c =
    let l = c.loop-chart in
    let lt : length l.servers.items < length c.args.chart.servers.items = below _ _ _ _ _ _ l.invariant.charts l.invariant.all c.in-Some.ensures.steps.0 in
    omega (arith, lt, c.len-server.ensures, l.servers.ok.0, c.requires, c.len.ensures.lawful.few, ap (λ p. length p.rates) c.plan.ensures)

pub returns-clause-few : goal.returns-clause-few
returns-clause-few g c =
    let l = c.loop-chart in
    let few = c.len.ensures.lawful.few in
    omega (
      arith,
      few,
      ap length l.invariant.all,
      ap length l.invariant.charts,
      length-append l.yielded (into_iter_items l.chart-iterator),
      length-map l.servers.items (λ (x : Drawn). x.chart),
      ap (λ p. length p.rates) c.plan.ensures,
      c.requires,
    )

pub loop-chart-init : goal.loop-chart-init
loop-chart-init g c = grind (arith, common_steps)

pub loop-chart-smaller : goal.loop-chart-smaller
loop-chart-smaller g c = omega (arith, ap length c.in-Some.ensures.steps.0)

pub returns-clause-picture : goal.returns-clause-picture
returns-clause-picture g c =
    let named = c.modes-modes.ensures.servers.named in
    let moded = c.modes-modes.ensures.servers.moded in
    grind (arith, common_steps)
