use Rattle.std.proofs.Common.{◌≡◌, ◌∙◌, ℕ, Option, Some, None, MatchOption, ap, arith}
use Rattle.cbs_job.specs.Work.{Meaning}
use Rattle.cbs_steps.specs.History.{World}
use Rattle.cbs_steps.specs.Quiet.{IsAtRest, IsQuiet, IsIdleSpan}
use Rattle.cbs_pace.specs.Paces.{behind_of}
use Rattle.cbs_clients.specs.Houses.{core_of}
use Rattle.cbs_pacer.proofs.Still.{made_still}
use Rattle.cbs_pacer.specs.Paced.{ticks_to_pass}
use Rattle.cbs_pacer.proofs.pacer.Pacer.catch_up.Goals as goal
use Rattle.cbs_pacer.proofs.pacer.Pacer.catch_up.Goals.{then-passed-gt0, else-passed-gt0}

-- the ticks that pass, by the idle span, are quiet
passes_quietly : {W : Type 0} (work : Meaning W) (w : World W) (o : Option ℕ) (behind : ℕ) → MatchOption o (¬ IsAtRest work w) (IsIdleSpan work w)
    → IsQuiet work w (ticks_to_pass o behind)
passes_quietly work w None behind span = λ m lt. absurd (omega arith)
passes_quietly work w (Some n) behind span = λ m lt. span.quiet m (omega arith)

pub returns-clause-passes : goal.returns-clause-passes
returns-clause-passes g c =
    let work = g.W.Work.meaning in
    let old = c.args.house.now in
    let p = c.args.self.now.pace in
    let behind : c.behind-behind.result ≡ behind_of p (core_of old).clock = c.behind-behind.ensures ∙ ap (behind_of p) c.now.ensures.clock in
    let passed : c.to_pass-passed.result ≡ ticks_to_pass c.idle_span.result (behind_of p (core_of old).clock) =
    c.to_pass-passed.ensures ∙ ap (ticks_to_pass c.idle_span.result) behind in
    elim c.if-passed-gt0.branch [
      | then-passed-gt0 w ↦ record {
        span = c.idle_span.result;
        idle = c.idle_span.ensures;
        ticks = c.to_pass-passed.result;
        passed = passed;
        made = rw w.house-is (rw w.unwrap.ensures at w.advance.ensures.made);
        quiet = λ M agrees. rw passed (passes_quietly work _ c.idle_span.result _ (c.idle_span.ensures M agrees));
        pace = rw (← behind) c.note_behind.ensures;
      }
      | else-passed-gt0 w ↦ record {
        span = c.idle_span.result;
        idle = c.idle_span.ensures;
        ticks = c.to_pass-passed.result;
        passed = passed;
        made = rw w.house-is (made_still work old c.to_pass-passed.result (let le = w.if-passed-gt0.false in omega arith));
        quiet = λ M agrees. rw passed (passes_quietly work _ c.idle_span.result _ (c.idle_span.ensures M agrees));
        pace = rw (← behind) c.note_behind.ensures;
      }
    ]
