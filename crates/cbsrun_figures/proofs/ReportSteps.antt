-- One step more in the tallies of all servers.
use Rattle.std.proofs.Common.{◌≡◌, ℕ, zero, suc, ◌<◌, take, true, false, eqb, List, [], ◌∷◌, length, map}
use Rattle.std.proofs.Common.{Some, None, arith, refl, sym, ap, ◌∙◌, inl, inr, subst}
use Rattle.std.specs.Prelude.{◌+◌, ◌++◌, set, get_or, slice_get, Result, Ok, Err, OnOk}
use Rattle.std.proofs.lemmas.Bool.{cases_Bool}
use Rattle.std.proofs.Math.Seq.{map-set_same}
use Rattle.std.proofs.lemmas.List.{length-map, map-append, take_more, get_or-set_same, get_or-set_other}
use Rattle.cbs_rate.specs.Rate.{Rate}
use Rattle.std.proofs.lemmas.Bool.Decides.{nat_tests}
use Rattle.cbsrun_events.specs.Events.{server_of, begun}
use Rattle.cbsrun_events.specs.declared.seen.Event.{Event}
use Rattle.cbsrun_events.specs.declared.seen.Event.TheVariants as event
use Rattle.cbsrun_events.specs.declared.seen.Seen.{Seen}
use Rattle.cbsrun_figures.specs.Figures.{is_server, steps_of, told, total}
use Rattle.cbsrun_figures.proofs.JobSteps.{jobs_seen}
use Rattle.cbsrun_figures.proofs.SumSteps.{sums_seen, throttled_ticks_seen}
use Rattle.cbsrun_figures.specs.Tallies.{sums_of, sums_after, throttled_ticks_of, throttled_ticks_with, jobs_of, jobs_after, passed}
use Rattle.cbsrun_figures.specs.Tallies.{Kept, kept_at, kept_of, AreKept, AddsStep, HasSeen, Reported, ticks_idle}

-- all that is kept of one server, with one step more
pub kept_step : (k n : Kept) (budget : ℕ) (o : Seen) (own : List Seen) → k ≡ kept_of budget own → n.budget ≡ k.budget
    → n.sums ≡ sums_after k.budget o.event o.view k.sums → n.throttled_ticks ≡ throttled_ticks_with (begun o) o.clock o.view k.throttled_ticks
    → n.jobs ≡ jobs_after o.clock o.event k.jobs → n ≡ kept_of budget (o ∷ own)
kept_step k n budget o own is b s h j =
    let same : n.budget ≡ budget = b ∙ ap (λ x. x.budget) is in
    let sums : n.sums ≡ sums_of budget (o ∷ own) =
    s ∙ (ap (λ x. sums_after x.budget o.event o.view x.sums) is ∙ sums_seen budget o own) in
    let throttled_ticks : n.throttled_ticks ≡ throttled_ticks_of (o ∷ own) = h ∙ (ap (λ x. throttled_ticks_with (begun o) o.clock o.view x.throttled_ticks) is ∙ throttled_ticks_seen o own) in
    let jobs : n.jobs ≡ jobs_of (o ∷ own) = j ∙ (ap (λ x. jobs_after o.clock o.event x.jobs) is ∙ jobs_seen o own) in
    rw (same, sums, throttled_ticks, jobs) refl

-- a step that is of no server, or of another
other_step : (s : ℕ) (o : Seen) (seen : List Seen) → is_server s (server_of o.event) ≡ false → steps_of s (o ∷ seen) ≡ steps_of s seen
other_step s o seen f = rw f refl

-- a step of the server
own_step : (s : ℕ) (o : Seen) (seen : List Seen) → is_server s (server_of o.event) ≡ true → steps_of s (o ∷ seen) ≡ o ∷ steps_of s seen
own_step s o seen t = rw t refl

-- a step of a server lets no tick pass with nobody running
no_idle : (e : Event) (k : ℕ) → server_of e ≡ Some k → ticks_idle e ≡ 0
no_idle (event.Accepted job number promised) k e = refl
no_idle (event.NotAccepted job error) k e = refl
no_idle (event.Ran r) k e = refl
no_idle (event.Advanced n) k e = absurd cc
no_idle (event.NotAdvanced n error) k e = refl
no_idle (event.Closed s) k e = refl
no_idle (event.NotClosed s error) k e = refl
no_idle (event.Charged s n) k e = refl
no_idle (event.NotCharged s n error) k e = refl

-- as many tallies as budgets
same_count : (xs ys : List Kept) → map (λ k. k.budget) xs ≡ map (λ k. k.budget) ys → length xs ≡ length ys
same_count xs ys e = let a = length-map xs (λ k. k.budget) in let b = length-map ys (λ k. k.budget) in sym a ∙ (ap length e ∙ b)

-- the tally of the server that a step is of
kept_own : (old new : List Kept) (o : Seen) (k : ℕ) → server_of o.event ≡ Some k → AddsStep k o old new → (seen : List Seen)
    → k < length old → kept_at old k ≡ kept_of (kept_at old k).budget (steps_of k seen)
    → kept_at new k ≡ kept_of (kept_at new k).budget (steps_of k (o ∷ seen))
kept_own old new o k is adds seen within was =
    let here = adds.here within (steps_of k seen) was in
    let budget : (kept_at new k).budget ≡ (kept_at old k).budget = ap (λ x. x.budget) here in
    let mine : is_server k (server_of o.event) ≡ true = rw is (grind (arith, nat_tests)) in
    rw (budget, own_step k o seen mine) here

-- the tallies with one step more of server k
kept_more : (old new : List Kept) (o : Seen) (k : ℕ) → server_of o.event ≡ Some k → AddsStep k o old new → (seen : List Seen) → AreKept old seen
    → AreKept new (o ∷ seen)
kept_more old new o k is adds seen was s lt =
    let within : s < length old = let c = same_count new old adds.budgets in omega arith in
    elim (cases_Bool (eqb k s)) [
      | inl t ↦
          let same : k ≡ s = grind (arith, nat_tests) in
          let there : k < length old = omega arith in
          subst (λ x. kept_at new x ≡ kept_of (kept_at new x).budget (steps_of x (o ∷ seen))) same (kept_own old new o k is adds seen there (was k there))
      | inr f ↦
          let other : is_server s (server_of o.event) ≡ false = rw is f in
          let same = adds.others s (λ e. grind (arith, nat_tests)) in
          rw (same, other_step s o seen other) (was s within)
    ]

-- a report that saw one step more of a server
pub sees_own : (first old new : Reported) (o : Seen) (k : ℕ) → server_of o.event ≡ Some k → AddsStep k o old.kept new.kept → new.idle ≡ old.idle
    → (seen : List Seen) → HasSeen first old seen → HasSeen first new (o ∷ seen)
sees_own first old new o k is adds idle seen was = record {
  budgets = adds.budgets ∙ was.budgets;
  kept = kept_more old.kept new.kept o k is adds seen was.kept;
  idle = let none = no_idle o.event k is in let h = was.idle in omega arith;
}

-- what a step lets pass changes no tally
passed_kept : (e : Event) (r : Reported) → (passed e r).kept ≡ r.kept
passed_kept (event.Advanced n) r = refl
passed_kept (event.Accepted job number promised) r = refl
passed_kept (event.NotAccepted job error) r = refl
passed_kept (event.Ran x) r = refl
passed_kept (event.NotAdvanced n error) r = refl
passed_kept (event.Closed s) r = refl
passed_kept (event.NotClosed s error) r = refl
passed_kept (event.Charged s n) r = refl
passed_kept (event.NotCharged s n error) r = refl

-- these ticks are added to those in which nobody ran
passed_idle : (e : Event) (r : Reported) (n : ℕ) → r.idle ≡ told n → (passed e r).idle ≡ told (ticks_idle e + n)
passed_idle (event.Advanced m) r n h = omega arith
passed_idle (event.Accepted job number promised) r n h = omega arith
passed_idle (event.NotAccepted job error) r n h = omega arith
passed_idle (event.Ran x) r n h = omega arith
passed_idle (event.NotAdvanced m error) r n h = omega arith
passed_idle (event.Closed s) r n h = omega arith
passed_idle (event.NotClosed s error) r n h = omega arith
passed_idle (event.Charged s m) r n h = omega arith
passed_idle (event.NotCharged s m error) r n h = omega arith

-- a report that saw one step more that is of no server
pub sees_none : (first old new : Reported) (o : Seen) → server_of o.event ≡ None → new ≡ passed o.event old
    → (seen : List Seen) → HasSeen first old seen → HasSeen first new (o ∷ seen)
sees_none first old new o is e seen was =
    let same : new.kept ≡ old.kept = ap (λ r. r.kept) e ∙ passed_kept o.event old in
    record {
      budgets = ap (map (λ k. k.budget)) same ∙ was.budgets;
      kept = rw same (λ s lt. rw (other_step s o seen (rw is refl)) (was.kept s lt));
      idle = ap (λ r. r.idle) e ∙ passed_idle o.event old (total (λ x. ticks_idle x.event) seen) was.idle;
    }

-- the tally of server k is replaced by one with a step more
pub adds_at : (old : List Kept) (k : ℕ) (o : Seen) (x y : Kept) → k < length old → x ≡ kept_at old k
    → ((own : List Seen) → x ≡ kept_of x.budget own → y ≡ kept_of x.budget (o ∷ own)) → y.budget ≡ x.budget → AddsStep k o old (set old k y)
adds_at old k o x y lt is step same =
    let budget = ap (λ t. t.budget) is in
    record {
      here = λ within own was.
          get_or-set_same old k y (kept_of 0 []) lt ∙ (step own (is ∙ (was ∙ ap (λ b. kept_of b own) (sym budget))) ∙ ap (λ b. kept_of b (o ∷ own)) budget);
      others = λ t ne. get_or-set_other old k t y (kept_of 0 []) ne;
      budgets = map-set_same (λ t. t.budget) old k y (kept_of 0 []) (same ∙ budget);
    }

-- two facts of one result, together
pub ok_both : {T E A B C : Type 0} (r : Result T E) → OnOk r A → OnOk r B → (A → B → C) → OnOk r C
ok_both (Ok x) a b f = f a b
ok_both (Err e) a b f = tt

-- what is found at a place stands there
found : {X : Type 0} (xs : List X) (i : ℕ) (x d : X) → Some x ≡ slice_get xs i → (i < length xs) × (get_or xs i d ≡ x)
found [] i x d e = absurd cc
found (y ∷ xs) zero x d e = let same : y ≡ x = cc in (omega arith, same)
found (y ∷ xs) (suc i) x d e = let h = found xs i x d e in (let lt = h.0 in omega arith, h.1)

-- one budget more, of the rate at a place
pub budgets_more : (ks : List Kept) (rs : List Rate) (i : ℕ) (k : Kept) (r : Rate) → map (λ x. x.budget) ks ≡ map (λ x. x.budget) (take i rs)
    → Some r ≡ slice_get rs i → k.budget ≡ r.budget → map (λ x. x.budget) (ks ++ k ∷ []) ≡ map (λ x. x.budget) (take (i + 1) rs)
budgets_more ks rs i k r so_far is same =
    let here = found rs i r r is in
    let at : take (i + 1) rs ≡ take i rs ++ r ∷ [] = take_more rs i r here.0 ∙ ap (λ x. take i rs ++ x ∷ []) here.1 in
    map-append (λ (x : Kept). x.budget) ks (k ∷ [])
    ∙ (ap (λ bs. bs ++ k.budget ∷ []) so_far
    ∙ (ap (λ b. map (λ (x : Rate). x.budget) (take i rs) ++ b ∷ []) same
    ∙ (sym (map-append (λ (x : Rate). x.budget) (take i rs) (r ∷ [])) ∙ ap (map (λ (x : Rate). x.budget)) (sym at))))
