use Rattle.std.proofs.Common.{◌≡◌, ℕ, inl, inr, length, map, string_bytes, rules, sym, ◌∙◌, Vec, List, length-append}
use Rattle.std.specs.declared.alloc.Global.{Global}
use Rattle.std.proofs.lemmas.Result.{err_from_is_err_and}
use Rattle.std.proofs.lemmas.List.{map-append, length-map}
use Rattle.std.proofs.lemmas.List.Elements.{All-push}
use Rattle.toml.specs.View.{view}
use Rattle.toml.specs.declared.value.Value.{Value}
use Rattle.cbsrun_simulate.specs.Drawing.{IsListed}
use Rattle.cbsrun_toml_tables.specs.declared.fault.Place.TheVariants.{Source as AtSource}
use Rattle.cbsrun_toml_tables.specs.Documents.{at, no_memory}
use Rattle.cbsrun_toml_tables.proofs.Each.{goes_on, ends, is_done, each_from-map}
use Rattle.cbsrun_toml_tables.proofs.Places.{Gives-at, gives_ok, gives_err, at_ok}
use Rattle.cbsrun_entries.specs.Sources.{IsSource}
use Rattle.cbsrun_entries.specs.Sources.{paired, source_view}
use Rattle.cbsrun_loads.specs.Due.{source_entry}
use Rattle.cbsrun_loads.proofs.Pairs.{paired_push, listed_push}
use Rattle.cbsrun_loads.proofs.file.sources_of.Goals as goal

abbrev items_of : List (Vec ℕ Global) → List (List ℕ)
items_of = map (λ (v : Vec ℕ Global). v.items)

pub returns-in_err-terms-clause-sources : goal.returns-in_err-terms-clause-sources
returns-in_err-terms-clause-sources g c =
    let i = c.loop-i.i in
    let v = c.index-entries-i.result in
    let names = map string_bytes c.args.names.now in
    let due = g.D.Due.due c.args.servers.now in
    let p = err_from_is_err_and c.from_residual.result c.from_residual.ensures.1 in
    let given = Gives-at (AtSource i) source_view c.source_entry.result (source_entry c.args.tick names due (view v)) c.source_entry.ensures.value in
    let fault = gives_err no_memory source_view (at (AtSource i) c.source_entry.result) _ c.in_err-terms.field-0.0 given (sym c.at.ensures ∙ c.in_err-terms.was) in
    rw (p.1, p.2) (elim fault [
      | inl m ↦ inl m
      | inr f ↦ inr (each_from-map view (λ i entry. at (AtSource i) (source_entry c.args.tick names due entry)) 0 c.args.entries.now
          ∙ ends (λ i v. at (AtSource i) (source_entry c.args.tick names due (view v))) (paired c.loop-i.sources.items (items_of c.loop-i.listed.items))
          i c.args.entries.now v c.in_err-terms.field-0.0 _ c.loop-i-test.true (rw (← c.index-entries-i.is) f) c.loop-i.invariant.so_far)
    ])

pub loop-i-preserved : goal.loop-i-preserved
loop-i-preserved g c =
    let i = c.loop-i.i in
    let v = c.index-entries-i.result in
    let names = map string_bytes c.args.names.now in
    let due = g.D.Due.due c.args.servers.now in
    let f = λ (i : ℕ) (v : Value). at (AtSource i) (source_entry c.args.tick names due (view v)) in
    let terms = c.in_ok-terms.terms in
    let ticks = c.in_ok-terms.ticks in
    let is = at_ok (AtSource i) c.source_entry.result (terms, ticks) (sym c.at.ensures ∙ c.in_ok-terms.was) in
    let given = Gives-at (AtSource i) source_view c.source_entry.result (source_entry c.args.tick names due (view v)) c.source_entry.ensures.value in
    let next = gives_ok no_memory source_view (at (AtSource i) c.source_entry.result) _ (terms, ticks) given (sym c.at.ensures ∙ c.in_ok-terms.was) in
    let lawful : IsSource (length c.args.names.now) terms = rw is at c.source_entry.ensures.lawful in
    let follows : IsListed terms ticks.items = rw is at c.source_entry.ensures.listed in
    let same : length (items_of c.loop-i.listed.items) ≡ length c.loop-i.sources.items =
    rw length-map c.loop-i.invariant.same in
    rw (c.in-Ok.ensures.items, c.in-Ok-push.ensures.items) (record {
      so_far = rw (map-append, paired_push c.loop-i.sources.items (items_of c.loop-i.listed.items) terms ticks.items same)
          (goes_on f (paired c.loop-i.sources.items (items_of c.loop-i.listed.items)) i c.args.entries.now v (source_view (terms, ticks)) _ c.loop-i-test.true
          (rw (← c.index-entries-i.is) next) c.loop-i.invariant.so_far);
      lawful = All-push (IsSource (length c.args.names.now)) c.loop-i.sources.items terms c.loop-i.invariant.lawful lawful;
      follow = rw map-append (listed_push c.loop-i.sources.items (items_of c.loop-i.listed.items) terms ticks.items same c.loop-i.invariant.follow follows);
      count = search rules;
      same = let n = c.loop-i.invariant.same in search (rules, length-append);
    })

pub returns-clause-sources : goal.returns-clause-sources
returns-clause-sources g c =
    let names = map string_bytes c.args.names.now in
    let due = g.D.Due.due c.args.servers.now in
    each_from-map view (λ i entry. at (AtSource i) (source_entry c.args.tick names due entry)) 0 c.args.entries.now
    ∙ is_done (λ i v. at (AtSource i) (source_entry c.args.tick names due (view v))) (paired c.loop-i.sources.items (items_of c.loop-i.listed.items))
    c.loop-i.i c.args.entries.now
    _ c.loop-i-test.false c.loop-i.invariant.so_far
