-- What a tape was told that may be there: nothing, one step, and some steps and then others.
use Rattle.std.proofs.Common.{◌≡◌, ◌≢◌, ℕ, List, [], ◌∷◌, ◌++◌, map, Option, Some, None, refl, sym, ap, subst, ◌∙◌}
use Rattle.std.specs.Prelude.{Box}
use Rattle.std.proofs.lemmas.List.{map-append}
use Rattle.std.specs.List.{AllByRecursion}
use Rattle.cbs_job.specs.Work.{Meaning}
use Rattle.cbs_steps.specs.History.{World, History, ◌⊕◌, world_after, reply_in, after_charging, charge_refusal}
use Rattle.cbs_steps.specs.Promises.{when}
use Rattle.cbs_steps.specs.declared.error.CoreError.{CoreError}
use Rattle.cbs_steps.specs.declared.reply.Ran.TheVariants as ran
use Rattle.cbs_steps.specs.declared.reply.Reply.{Reply}
use Rattle.cbs_steps.specs.declared.reply.Reply.TheVariants as reply
use Rattle.cbs_steps.specs.declared.step.Step.{Step}
use Rattle.cbs_steps.specs.declared.step.Step.TheVariants.{Run, Advance, Charge}
use Rattle.cbs_hindsight.specs.Hindsight.{IsBeside, EndsWithUnit, effective}
use Rattle.cbs_core.specs.Agreement.{Agrees, AgreesWorld}
use Rattle.cbs_core.specs.Calls.{Makes}
use Rattle.cbs_core.specs.Held.{CoreHeld}
use Rattle.cbs_core.proofs.Agreements.{advance_none}
use Rattle.cbs_core.proofs.Laws.{follows_both}
use Rattle.cbs_units.specs.declared.count.CountJob.{CountJob}
use Rattle.cbs_units.specs.Counting.{counted_step}
use Rattle.cbs_tape.specs.Tapes.{Taped, Hears, HearsEach}
use Rattle.cbs_recorded.specs.Records.{tape_in, HearsIfThere, Records, Recorded}

-- some steps were told, and then others
hears_both : (xs ys : List (Step CountJob)) (a b c : Taped) → HearsEach xs a b → HearsEach ys b c → HearsEach (xs ++ ys) a c
hears_both [] ys a b c p q = subst (λ (t : Taped). HearsEach ys t c) (sym p) q
hears_both (x ∷ xs) ys a b c p q = (p.0, p.1, hears_both xs ys p.0 b c p.2 q)

module _ {W : Type 0} (work : Meaning W) where
  -- nothing was made or told
  records_none : (core : CoreHeld W) (tape : Taped) → Records work core core tape tape
  records_none core tape = record { steps = []; follows = λ M h. h; told = refl }

  -- some steps, and then others
  records_then : (a b c : CoreHeld W) (s t u : Taped) → Records work a b s t → Records work b c t u → Records work a c s u
  records_then a b c s t u p q = record {
    steps = p.steps ++ q.steps;
    follows = follows_both work a b c p.steps q.steps p.follows q.follows;
    told = subst (λ (xs : List (Step CountJob)). HearsEach xs s u) (sym (map-append (counted_step work) p.steps q.steps))
        (hears_both (map (counted_step work) p.steps) (map (counted_step work) q.steps) s t u p.told q.told);
  }

  -- one step
  pub records_one : (a b : CoreHeld W) (s t : Taped) (x : Step W) (r : Reply W) → Makes work a b x r → Hears (counted_step work x) s t → Records work a b s t
  records_one a b s t x r makes hears = record { steps = x ∷ []; follows = makes.state; told = (t, hears, refl) }

  -- nothing changed
  pub records_same : (a b : CoreHeld W) (t : Taped) → b ≡ a → Records work a b t t
  records_same a b t same = subst (λ (core : CoreHeld W). Records work a core t t) (sym same) (records_none a t)

  -- no step was made, and each history that the core agreed with is one that it agrees with
  records_nothing : (a b : CoreHeld W) (t : Taped) → ((M : History W) → Agrees work a M → Agrees work b M) → Records work a b t t
  records_nothing a b t follows = record { steps = []; follows = follows; told = refl }

  -- a charge of 0 ticks leaves the world
  nothing_charged : (w : World W) (s : ℕ) (o : Option CoreError) → after_charging w s 0 o ≡ w
  nothing_charged w s None = refl
  nothing_charged w s (Some e) = refl

  -- the unit that a history ended with before a step that is no Run
  unit_by : (N : History W) (x : Step W) (s k : ℕ) (later earlier : List (Step W)) → x ≢ Run → x ∷ N.steps ≡ later ++ Run ∷ earlier
      → reply_in work (when N earlier) Run ≡ reply.Ran (ran.Unit s k) → AllByRecursion (IsBeside s) later → EndsWithUnit work N s
  unit_by N x s k [] earlier other is unit beside = absurd (other (cc is))
  unit_by N x s k (y ∷ later) earlier other is unit beside = record {
    later = later;
    earlier = earlier;
    seq = k;
    at = record { steps = cc is; unit = unit; beside = beside.1 };
  }

  unit_before : (N : History W) (x : Step W) (s : ℕ) → x ≢ Run → EndsWithUnit work (record N { steps = x ∷ N.steps }) s → EndsWithUnit work N s
  unit_before N x s other h = unit_by N x s h.seq h.later h.earlier other h.at.steps h.at.unit h.at.beside

  -- a step that is no Run and leaves the world
  follows_still : (a b : CoreHeld W) (x : Step W) (r : Reply W) → x ≢ Run
      → ((M : History W) → Agrees work a M → (world_after work (M ⊕ x) ≡ world_after work M)
      × (effective work (M ⊕ x) ≡ record (effective work M) { steps = x ∷ (effective work M).steps }))
      → Makes work a b x r → (M : History W) → Agrees work a M → Agrees work b M
  follows_still a b x r other still makes M h =
      let k = makes.state M h in record {
        world = subst (λ (v : World W). AgreesWorld work b M.setup.backlog v) (still M h).0 k.world;
        unit = λ unfinished. unit_before (effective work M) x b.last.server other
            (subst (λ (N : History W). EndsWithUnit work N b.last.server) (still M h).1 (k.unit unfinished));
      }

  -- there is a tape, and it was told this
  pub recorded_at : {A : Type 0} (a b : CoreHeld W) (t : Option (Box Taped A)) (v : Box Taped A) (u : Taped) → t ≡ Some v → Records work a b v.value u
      → Recorded work a b (tape_in t) (Some u)
  recorded_at {A = A} a b t v u is r = subst (λ (o : Option (Box Taped A)). Recorded work a b (tape_in o) (Some u)) (sym is) (u, refl, r)

  -- one step, of a tape that may be there
  pub recorded_one : (a b : CoreHeld W) (t u : Option Taped) (x : Step W) (r : Reply W) → Makes work a b x r → HearsIfThere (counted_step work x) t u
      → Recorded work a b t u
  recorded_one a b None u x r makes hears = hears
  recorded_one a b (Some t) u x r makes hears = (hears.0, hears.1, records_one a b t hears.0 x r makes hears.2)

  recorded_nothing : (a b : CoreHeld W) (t : Option Taped) → ((M : History W) → Agrees work a M → Agrees work b M) → Recorded work a b t t
  recorded_nothing a b None follows = refl
  recorded_nothing a b (Some t) follows = (t, refl, records_nothing a b t follows)

  -- a charge of 0 ticks is not told
  pub recorded_uncharged : (a b : CoreHeld W) (t : Option Taped) (s n : ℕ) (r : Reply W) → n ≡ 0 → Makes work a b (Charge s n) r → Recorded work a b t t
  recorded_uncharged a b t s n r none makes = recorded_nothing a b t (follows_still a b (Charge s n) r (λ e. absurd (cc e)) (λ M h. (
    ap (λ (m : ℕ). after_charging (world_after work M) s m (charge_refusal (world_after work M) s m)) none
        ∙ nothing_charged (world_after work M) s (charge_refusal (world_after work M) s 0),
    refl,
  )) makes)

  -- nor is an advance of 0 ticks
  pub recorded_unmoved : (a b : CoreHeld W) (t : Option Taped) (n : ℕ) (r : Reply W) → n ≡ 0 → Makes work a b (Advance n) r → Recorded work a b t t
  recorded_unmoved a b t n r none makes =
      recorded_nothing a b t (follows_still a b (Advance n) r (λ e. absurd (cc e)) (λ M h. (advance_none {core = a} refl h n none, refl)) makes)

  -- nothing changed
  pub recorded_same : (a b : CoreHeld W) (t : Option Taped) → b ≡ a → Recorded work a b t t
  recorded_same a b None same = refl
  recorded_same a b (Some t) same = (t, refl, records_same a b t same)

  -- only how many more jobs fit changed
  pub recorded_room : (a b : CoreHeld W) (t : Option Taped) → b ≡ record a { rooms = b.rooms } → Recorded work a b t t
  recorded_room a b t same = recorded_nothing a b t (λ M h. subst (λ (core : CoreHeld W). Agrees work core M) (sym same) (record {
    world = record {
      same_backlog = h.world.same_backlog;
      clock = h.world.clock;
      shown = h.world.shown;
      jobs = h.world.jobs;
      runs = h.world.runs;
      latest = h.world.latest;
    };
    unit = h.unit;
  }))

  after_none : (b c : CoreHeld W) (t u : Option Taped) → t ≡ None → Recorded work b c t u → u ≡ None
  after_none b c None u is q = q
  after_none b c (Some t) u is q = absurd cc

  after_some : (a b c : CoreHeld W) (s v : Taped) (t u : Option Taped) → t ≡ Some v → Records work a b s v → Recorded work b c t u → Recorded work a c (Some s) u
  after_some a b c s v None u is p q = absurd cc
  after_some a b c s v (Some t) u is p q =
      let same : t ≡ v = cc in
      (q.0, q.1, records_then a b c s v q.0 p (subst (λ (w : Taped). Records work b c w q.0) same q.2))

  -- some steps, and then others
  pub recorded_then : (a b c : CoreHeld W) (s t u : Option Taped) → Recorded work a b s t → Recorded work b c t u → Recorded work a c s u
  recorded_then a b c None t u p q = after_none b c t u p q
  recorded_then a b c (Some s) t u p q = after_some a b c s p.0 t u p.1 p.2 q
