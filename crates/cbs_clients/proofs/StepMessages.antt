-- The messages that lists of steps take, one list after another.
use Rattle.std.proofs.Common.{◌≡◌, ℕ, ◌+◌, List, [], ◌∷◌, ◌++◌, refl, ap, sym, ◌∙◌, arith}
use Rattle.std.proofs.lemmas.List.{append_assoc}
use Rattle.cbs_steps.specs.declared.step.Step.{Step}
use Rattle.cbs_clients.specs.declared.message.Message.{Message}
use Rattle.cbs_clients.specs.Steps.{message_of, messages_of, pops}

module _ {W : Type 0} where
  -- the messages that two lists of steps take
  pub messages_of-append : (s : ℕ) (xs ys : List (Step W)) → messages_of s (xs ++ ys) ≡ messages_of s xs ++ messages_of s ys
  messages_of-append s [] ys = refl
  messages_of-append s (x ∷ xs) ys = ap (λ (ms : List (Message W)). message_of s x ++ ms) (messages_of-append s xs ys)
      ∙ sym (append_assoc (message_of s x) (messages_of s xs) (messages_of s ys))

  -- how many they take
  pub pops-append : (xs ys : List (Step W)) → pops (xs ++ ys) ≡ pops xs + pops ys
  pops-append [] ys = omega arith
  pops-append (x ∷ xs) ys = let h = pops-append xs ys in omega (arith, h)
