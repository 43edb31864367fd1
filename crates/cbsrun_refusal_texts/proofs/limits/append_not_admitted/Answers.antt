use Rattle.std.proofs.Common.{inl, inr}
use Rattle.cbsrun_refusal_texts.proofs.limits.append_not_admitted.Goals as goal

pub returns-in-Some : goal.returns-in-Some
returns-in-Some c =
    inr (λ free.
    let t = c.append_refused.ensures free in
    (t.0, record { refused = c.in-Some.refused; is_refused = c.in-Some.ensures; told = t.1 }, t.2, t.3))

pub returns-in-None : goal.returns-in-None
returns-in-None c = inl c.in-None.ensures
