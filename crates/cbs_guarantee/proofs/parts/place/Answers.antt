use Rattle.std.proofs.Common.{◌≡◌, ◌∙◌, ℕ, List, [], ◌∷◌, ◌++◌, ◌<◌, sym, ap, arith, get_or, set, length, true, false, refl, None}
use Rattle.std.proofs.lemmas.Grind.{common_steps}
use Rattle.std.specs.Prelude.{◌≢◌}
use Rattle.std.specs.Result.{is_ok}
use Rattle.cbs_rate.specs.Plan.{admit_refusal}
use Rattle.cbs_rate.specs.Rate.{Rate}
use Rattle.cbs_guarantee.specs.Parts.{servers_of, rate_at}
use Rattle.cbs_guarantee.specs.declared.parts.Part.{Part}
use Rattle.cbs_guarantee.proofs.Placing.{refused_of, taken_of, on_refusal, rate_is, part_unchanged, servers_written, servers_pushed, servers_at}
use Rattle.cbs_guarantee.proofs.Placing.{part_refusal, refusal_of, refused_more}
use Rattle.cbs_guarantee.proofs.Placing.{placed_here, placed_new, part_count}
use Rattle.cbs_guarantee.proofs.parts.place.Goals as goal

pub returns-then-is_ok-clause-servers : goal.returns-then-is_ok-clause-servers
returns-then-is_ok-clause-servers c =
    let x : Part = c.index_mut-part.result.now in
    let parts : List Part = c.args.parts.now.items in
    let i = c.loop-index.index in
    let bound = c.args.bound in
    let s = c.args.server in
    let rates : List Rate = c.args.reservations.now in
    let same : c.loop-index.parts.items ≡ parts = c.loop-index.invariant.same in
    let read : x ≡ get_or parts i x = rw same at c.index_mut-part.ensures.value in
    let there : i < length parts = omega arith in
    let rate = rate_is rates s c.index-reservations-server.result c.requires.server c.index-reservations-server.is in
    let ok : is_ok c.admit.result ≡ true = sym c.is_ok.ensures.value ∙ c.if-is_ok.true in
    let taken : admit_refusal x.plan (rate_at rates s) ≡ None = rw rate at (taken_of _ c.admit.result _ c.admit.ensures.answer ok) in
    let before : (k : ℕ) → k < i → refusal_of bound rates s (get_or (servers_of parts) k []) ≢ None = rw same at c.loop-index.invariant.refused in
    let here : refusal_of bound rates s (get_or (servers_of parts) i []) ≡ None = part_refusal bound rates s parts i x c.requires.each there read ∙ taken in
    let lists : i < length (servers_of parts) = omega (arith, part_count parts) in
    let at : get_or (servers_of parts) i [] ≡ x.servers.items = servers_at parts i x there ∙ ap (λ (p : Part). p.servers.items) (sym read) in
    let pushed : c.push.new.self.items ≡ x.servers.items ++ s ∷ [] = c.in_ok-push.ensures.items in
    let all = placed_here bound rates s (servers_of parts) i lists before here in
    rw (same, servers_written parts i (record { plan = c.admit.new.self; servers = c.push.new.self }), pushed, all, at) refl

pub loop-index-preserved : goal.loop-index-preserved
loop-index-preserved c =
    let x : Part = c.index_mut-part.result.now in
    let parts : List Part = c.args.parts.now.items in
    let i = c.loop-index.index in
    let bound = c.args.bound in
    let s = c.args.server in
    let rates : List Rate = c.args.reservations.now in
    let same : c.loop-index.parts.items ≡ parts = c.loop-index.invariant.same in
    let read : x ≡ get_or parts i x = rw same at c.index_mut-part.ensures.value in
    let there : i < length parts = omega arith in
    let rate = rate_is rates s c.index-reservations-server.result c.requires.server c.index-reservations-server.is in
    let bad : is_ok c.admit.result ≡ false = sym c.is_ok.ensures.value ∙ c.if-is_ok.false in
    let refused : admit_refusal x.plan (rate_at rates s) ≢ None = rw rate at (refused_of _ c.admit.result _ c.admit.ensures.answer bad) in
    let before : (k : ℕ) → k < i → refusal_of bound rates s (get_or (servers_of parts) k []) ≢ None = rw same at c.loop-index.invariant.refused in
    let here : refusal_of bound rates s (get_or (servers_of parts) i []) ≢ None =
    rw (part_refusal bound rates s parts i x c.requires.each there read) refused in
    let unchanged : set parts i (record { plan = c.admit.new.self; servers = x.servers }) ≡ parts =
    part_unchanged parts i x c.admit.new.self read (on_refusal c.admit.result c.admit.ensures.err bad) in
    rw (same, unchanged) record { same = refl; refused = refused_more bound rates s (servers_of parts) i here before }

pub returns-clause-servers : goal.returns-clause-servers
returns-clause-servers c =
    let parts : List Part = c.args.parts.now.items in
    let bound = c.args.bound in
    let s = c.args.server in
    let rates : List Rate = c.args.reservations.now in
    let same : c.loop-index.parts.items ≡ parts = c.loop-index.invariant.same in
    let one : c.push-2.new.self.items ≡ s ∷ [] = c.in_ok-push-2.ensures.items ∙ ap (λ (xs : List ℕ). xs ++ s ∷ []) c.new-servers.ensures.items in
    let pushed : c.push-3.new.self.items ≡ c.loop-index.parts.items ++ record { plan = c.admit-2.new.self; servers = c.push-2.new.self } ∷ [] =
    c.in_ok-push-3.ensures.items in
    let refused : (k : ℕ) → k < c.loop-index.index → refusal_of bound rates s (get_or (servers_of parts) k []) ≢ None =
    rw same at c.loop-index.invariant.refused in
    let before : (k : ℕ) → k < length (servers_of parts) → refusal_of bound rates s (get_or (servers_of parts) k []) ≢ None =
    λ k lt. refused k (omega (arith, part_count parts)) in
    let all = placed_new bound rates s (servers_of parts) before in
    rw (pushed, same, servers_pushed parts (record { plan = c.admit-2.new.self; servers = c.push-2.new.self }), one, all) refl

pub loop-index-init : goal.loop-index-init
loop-index-init c = grind (arith, common_steps)

pub returns-then-is_ok-clause-each : goal.returns-then-is_ok-clause-each
returns-then-is_ok-clause-each c = grind (arith, common_steps)

pub returns-clause-each : goal.returns-clause-each
returns-clause-each c = grind (arith, common_steps)

pub returns-then-is_err-clause-over : goal.returns-then-is_err-clause-over
returns-then-is_err-clause-over c = grind (arith, common_steps)
