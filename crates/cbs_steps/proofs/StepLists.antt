-- Lists of steps, grown by one step.
use Rattle.std.proofs.Common.{◌≡◌, List, [], ◌∷◌, ◌++◌, refl, ◌∙◌, append-nil}
use Rattle.cbs_job.specs.Work.{Meaning}
use Rattle.cbs_steps.specs.History.{History}
use Rattle.cbs_steps.specs.Replies.{grown, Answers, grown_by, AnswersAll}
use Rattle.cbs_steps.specs.declared.step.Step.{Step}
use Rattle.cbs_steps.specs.declared.reply.Reply.{Reply}

module _ {W : Type 0} (work : Meaning W) where
  -- steps with their replies, and one more
  pub AnswersAll-push : (M : History W) (xs : List (Step W)) (rs : List (Reply W)) (x : Step W) (r : Reply W)
      → AnswersAll work M xs rs → Answers work (grown_by M xs rs) x r → AnswersAll work M (xs ++ x ∷ []) (rs ++ r ∷ [])
  AnswersAll-push M [] [] x r all one = (one, tt)
  AnswersAll-push M (y ∷ xs) (q ∷ rs) x r all one = (all.0, AnswersAll-push (grown M y q) xs rs x r all.1 one)
  AnswersAll-push M _ _ x r all one = absurd all

  -- the history that they leave, and one more
  pub grown_by-push : (M : History W) (xs : List (Step W)) (rs : List (Reply W)) (x : Step W) (r : Reply W)
      → AnswersAll work M xs rs → grown_by M (xs ++ x ∷ []) (rs ++ r ∷ []) ≡ grown (grown_by M xs rs) x r
  grown_by-push M [] [] x r all = refl
  grown_by-push M (y ∷ xs) (q ∷ rs) x r all = grown_by-push (grown M y q) xs rs x r all.1
  grown_by-push M _ _ x r all = absurd all

-- once nothing is left, all was yielded
pub all_yielded : {X : Type 0} (all yielded rest : List X) → all ≡ yielded ++ rest → rest ≡ [] → all ≡ yielded
all_yielded all yielded rest split none = split ∙ rw none (append-nil yielded)
