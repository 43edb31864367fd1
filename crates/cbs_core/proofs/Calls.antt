-- What a call makes of a core, taken apart.
use Rattle.std.proofs.Common.{◌≡◌, length, true, false, inl, inr, ◌∙◌, ap}
use Rattle.std.proofs.lemmas.Bool.{cases_Bool}
use Rattle.cbs_job.specs.Work.{Meaning}
use Rattle.cbs_steps.specs.History.{History}
use Rattle.cbs_steps.specs.Replies.{is_lack, grown, Answers}
use Rattle.cbs_steps.specs.declared.reply.Reply.{Reply}
use Rattle.cbs_steps.specs.declared.step.Step.{Step}
use Rattle.cbs_core.specs.Agreement.{Agrees}
use Rattle.cbs_core.specs.Calls.{Makes, Lacks, Tries}
use Rattle.cbs_core.specs.Held.{CoreHeld, KeepsBudgets}

module _ {W : Type 0} (work : Meaning W) where
  -- a core of which room alone changed agrees with what it agreed with
  pub agrees_same : (old new : CoreHeld W) → new ≡ record old { rooms = new.rooms } → (M : History W) → Agrees work old M → Agrees work new M
  agrees_same old new e M agrees = rw e record {
    world = record { same_backlog = agrees.world.same_backlog; clock = agrees.world.clock; shown = agrees.world.shown; jobs = agrees.world.jobs; runs = agrees.world.runs; latest = agrees.world.latest };
    unit = agrees.unit;
  }

  -- what is made of such a core was made of the one before
  pub makes_same : (old mid new : CoreHeld W) (x : Step W) (r : Reply W) → mid ≡ record old { rooms = mid.rooms } → Makes work mid new x r
      → Makes work old new x r
  makes_same old mid new x r e made = record {
    reply = λ M agrees. made.reply M (agrees_same old mid e M agrees);
    state = λ M agrees. made.state M (agrees_same old mid e M agrees);
    on_time = λ M agrees. made.on_time M (agrees_same old mid e M agrees);
    paced = λ M agrees. made.paced M (agrees_same old mid e M agrees);
    count = made.count ∙ ap (λ (c : CoreHeld W). length c.faces) e;
    budgets = made.budgets;
  }

  module _ (old new : CoreHeld W) (x : Step W) (r : Reply W) (tried : Tries work old new x r) where
    -- a step that memory refused, or that was made: one of the two always stands
    data Case : Type 0 where
      lacked : is_lack r ≡ true → Lacks work old new x r → Case
      made : is_lack r ≡ false → Makes work old new x r → Case

    case : Case
    case = elim (cases_Bool (is_lack r)) [ inl t ↦ lacked t (rw t at tried) | inr f ↦ made f (rw f at tried) ]

    -- so the reply is one to the step
    pub tries_answers : (M : History W) → Agrees work old M → Answers work M x r
    tries_answers M agrees = elim case [ lacked t k ↦ rw t (k.back, k.accepted M agrees) | made f k ↦ rw f (k.reply M agrees) ]

    -- and the core agrees with what was made
    pub tries_state : (M : History W) → Agrees work old M → Agrees work new (grown M x r)
    tries_state M agrees = elim case [ lacked t k ↦ rw t (agrees_same old new k.same M agrees) | made f k ↦ rw f (k.state M agrees) ]

    -- no server is added or dropped
    pub tries_count : length new.faces ≡ length old.faces
    tries_count = elim case [ lacked t k ↦ ap (λ (c : CoreHeld W). length c.faces) k.same | made f k ↦ k.count ]

    -- and each budget is within its reservation's
    pub tries_budgets : KeepsBudgets new
    tries_budgets = elim case [ lacked t k ↦ k.budgets | made f k ↦ k.budgets ]
