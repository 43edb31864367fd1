-- Steps, as a view sees them, one after another.
use Rattle.std.proofs.Common.{◌≡◌, ◌∙◌, ℕ, List, [], ◌∷◌, ◌++◌, append_assoc, Result, Ok, Err, ap, inl, refl, sym}
use Rattle.std.specs.Prelude.{OnErr, OnOk}
use Rattle.cbs_core.specs.Agreement.{Agrees}
use Rattle.cbs_core.specs.Held.{CoreHeld}
use Rattle.cbs_job.specs.Work.{Meaning}
use Rattle.cbs_steps.proofs.Completions.{Completes-append}
use Rattle.cbs_steps.proofs.Laws.{after-append, Completes-none}
use Rattle.cbs_steps.specs.Continuations.{◌⊕⊕◌}
use Rattle.cbs_steps.specs.History.{History, ◌⊕◌, reply_in}
use Rattle.cbs_steps.specs.Laws.{account_in, completion_in, completion_of, completions_of, replies_after}
use Rattle.cbs_steps.specs.declared.reply.Reply.{Reply}
use Rattle.cbs_steps.specs.declared.step.Step.{Step}
use Rattle.cbsrun_events.specs.declared.seen.Seen.{Seen}
use Rattle.cbsrun_runs.specs.Runs.{SawSome}
use Rattle.cbsrun_runs.specs.Steps.{seen_after, seen_from, CompletesAll, Shows, Stops, StopsAmong}

-- what always holds also holds for a result
pub on_ok_always : {T E : Type 0} {P : Type 0} (r : Result T E) → P → OnOk r P
on_ok_always (Ok x) p = p
on_ok_always (Err e) p = tt

pub on_err_always : {T E : Type 0} {P : Type 0} (r : Result T E) → P → OnErr r P
on_err_always (Ok x) p = tt
on_err_always (Err e) p = p

module _ {W : Type 0} (work : Meaning W) where
  -- before the first step
  pub none_seen : (M : History W) (seen : List Seen) → seen_from work M [] seen ≡ seen
  unfolding seen_from
  none_seen M seen = refl

  -- one step alone
  pub one_seen : (M : History W) (x : Step W) (seen : List Seen) → seen_from work M (x ∷ []) seen ≡ seen_after work M x ∷ seen
  unfolding seen_from
  one_seen M x seen = refl

  -- some steps, and then some more
  pub seen_both : (M : History W) (xs ys : List (Step W)) (seen : List Seen) → seen_from work M (xs ++ ys) seen ≡ seen_from work (M ⊕⊕ xs) ys (seen_from work M xs seen)
  unfolding seen_from
  seen_both M [] ys seen = refl
  seen_both M (x ∷ xs) ys seen = seen_both (M ⊕ x) xs ys (seen_after work M x ∷ seen)

  -- what is seen of steps stands before what was seen earlier
  pub seen_before : (M : History W) (xs : List (Step W)) (seen : List Seen) → seen_from work M xs seen ≡ seen_from work M xs [] ++ seen
  unfolding seen_from
  seen_before M [] seen = refl
  seen_before M (x ∷ xs) seen =
      let o = seen_after work M x in
      seen_before (M ⊕ x) xs (o ∷ seen) ∙ sym (append_assoc (seen_from work (M ⊕ x) xs []) (o ∷ []) seen)
      ∙ ap (λ os. os ++ seen) (sym (seen_before (M ⊕ x) xs (o ∷ [])))

  -- the replies to some steps, and then to some more
  replies_both : (M : History W) (xs ys : List (Step W)) → replies_after work M (xs ++ ys) ≡ replies_after work M xs ++ replies_after work (M ⊕⊕ xs) ys
  replies_both M [] ys = refl
  replies_both M (x ∷ xs) ys = ap (λ rs. reply_in work M x ∷ rs) (replies_both (M ⊕ x) xs ys)

  -- the completions among some replies, and then among some more
  completions_both : (s : ℕ) (rs qs : List (Reply W)) → completions_of s (rs ++ qs) ≡ completions_of s rs ++ completions_of s qs
  completions_both s [] qs = refl
  completions_both s (r ∷ rs) qs =
      ap (λ cs. completion_of s (completion_in r) ++ cs) (completions_both s rs qs)
      ∙ sym (append_assoc (completion_of s (completion_in r)) (completions_of s rs) (completions_of s qs))

  completes_both : (M : History W) (xs ys : List (Step W)) (s : ℕ) → CompletesAll work M xs s → CompletesAll work (M ⊕⊕ xs) ys s
      → CompletesAll work M (xs ++ ys) s
  completes_both M xs ys s before now =
      rw (after-append M xs ys, replies_both M xs ys, completions_both s (replies_after work M xs) (replies_after work (M ⊕⊕ xs) ys))
      (Completes-append work (account_in work M s) (account_in work (M ⊕⊕ xs) s) (account_in work ((M ⊕⊕ xs) ⊕⊕ ys) s)
      (completions_of s (replies_after work M xs)) (completions_of s (replies_after work (M ⊕⊕ xs) ys)) before now)

  -- no step
  pub shows_none : {S : Type 0} (saw : S → S → List Seen → Type 0) (core : CoreHeld W) (now : S) → Shows work saw [] core core now now
  shows_none saw core now = record {
    state = λ M agrees. agrees;
    seen = λ M agrees first seen was. rw (none_seen M seen) was;
    completes = λ M agrees s. Completes-none work (account_in work M s);
  }

  -- some steps, and then some more
  pub shows_both : {S : Type 0} (saw : S → S → List Seen → Type 0) (xs ys : List (Step W)) (a b c : CoreHeld W) (old between now : S)
      → Shows work saw xs a b old between → Shows work saw ys b c between now → Shows work saw (xs ++ ys) a c old now
  shows_both saw xs ys a b c old between now p q = record {
    state = λ M agrees. rw (after-append M xs ys) (q.state (M ⊕⊕ xs) (p.state M agrees));
    seen = λ M agrees first seen was. rw (seen_both M xs ys seen)
        (q.seen (M ⊕⊕ xs) (p.state M agrees) first (seen_from work M xs seen) (p.seen M agrees first seen was));
    completes = λ M agrees s. completes_both M xs ys s (p.completes M agrees s) (q.completes (M ⊕⊕ xs) (p.state M agrees) s);
  }

  -- a core and a view that were stopped among steps, after some steps before these
  pub stops_later : {S : Type 0} (saw failed : S → S → List Seen → Type 0) (xs ys zs all : List (Step W)) (a b new : CoreHeld W)
      (old between now : S) → xs ++ (ys ++ zs) ≡ all → Shows work saw xs a b old between
      → Stops work saw failed ys b new between now → Stops work saw failed all a new old now
  stops_later saw failed xs ys zs all a b new old between now whole p stops = λ M agrees.
      let h = stops (M ⊕⊕ xs) (p.state M agrees) in
      record {
        made = xs ++ h.made;
        left = h.left ++ zs;
        all = append_assoc xs h.made (h.left ++ zs) ∙ ap (λ l. xs ++ l) (sym (append_assoc h.made h.left zs) ∙ ap (λ l. l ++ zs) h.all) ∙ whole;
        state = rw (after-append M xs h.made) h.state;
        seen = λ first seen was. rw (seen_both M xs h.made seen) (h.seen first (seen_from work M xs seen) (p.seen M agrees first seen was));
      }

  -- a core and a view that were stopped before the step
  pub stops_before : {S : Type 0} (saw failed : S → S → List Seen → Type 0) (M : History W) (x : Step W) (new : CoreHeld W) (now : S)
      → Agrees work new M → StopsAmong work saw failed M (x ∷ []) new now now
  stops_before saw failed M x new now agrees = record {
    made = [];
    left = x ∷ [];
    all = refl;
    state = agrees;
    seen = λ first seen saw. inl (rw (none_seen M seen) saw);
  }

  -- the first steps of a list were made, up to some step, and the view saw these, or failed to see the last of them
  pub saw_some_of : {S : Type 0} (saw failed : S → S → List Seen → Type 0) (M : History W) (xs : List (Step W)) (new : CoreHeld W)
      (first old now : S) → StopsAmong work saw failed M xs new old now → saw first old [] → SawSome saw failed first now (seen_from work M xs [])
  saw_some_of saw failed M xs new first old now h was =
      let done = seen_from work M h.made [] in
      record {
        later = seen_from work (M ⊕⊕ h.made) h.left [];
        done = done;
        all = sym (seen_before (M ⊕⊕ h.made) h.left done) ∙ (sym (seen_both M h.made h.left []) ∙ ap (λ ys. seen_from work M ys []) h.all);
        seen = h.seen first [] was;
      }
