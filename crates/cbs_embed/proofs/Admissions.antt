-- One server after the other.
use Rattle.std.specs.Prelude.{◌≡◌, ◌+◌, ◌<◌, ℕ, List, [], ◌∷◌, length, get_or, drop, Option, Some, None}
use Rattle.std.specs.Option.{is_some}
use Rattle.std.proofs.Common.{refl, sym, ap, true≢false, ◌∙◌, arith}
use Rattle.std.proofs.lemmas.List.{at_drop_more, length-append}
use Rattle.cbs_rate.specs.declared.error.RateError.{RateError}
use Rattle.cbs_rate.specs.declared.error.AdmitError.{AdmitError}
use Rattle.cbs_embed.specs.Plans.{first_refusal, server_refusal, with_server, setup_refusal, setup_with}
use Rattle.cbs_embed.specs.declared.server.Server.{Server}
use Rattle.cbs_embed.specs.declared.refusal.Refusal.{Refusal}
use Rattle.cbs_rules.specs.Setups.{ModedPlan}
use Rattle.cbs_rules.specs.declared.mode.Mode.{Mode}

-- if no test refuses, the rest decides
passes : (a : Option RateError) (b : Option AdmitError) (m : Option Mode) (rest : Option Refusal) → first_refusal a b m None ≡ None
    → first_refusal a b m rest ≡ rest
passes None None (Some m) rest e = refl
passes None None None rest e = absurd (true≢false (ap is_some e))
passes None (Some x) m rest e = absurd (true≢false (ap is_some e))
passes (Some x) b m rest e = absurd (true≢false (ap is_some e))

-- the refusal of servers is that of the first, or of the others after it
refusal_cons : (s : ModedPlan) (r : Server) (rs : List Server)
    → setup_refusal s (r ∷ rs) ≡ server_refusal s.plan r (setup_refusal (with_server s r) rs)
unfolding setup_refusal
refusal_cons s r rs = refl

-- so is the setup
with_cons : (s : ModedPlan) (r : Server) (rs : List Server) → setup_with s (r ∷ rs) ≡ setup_with (with_server s r) rs
unfolding setup_with
with_cons s r rs = refl

-- no server is not refused
pub refusal_none : (s : ModedPlan) → setup_refusal s [] ≡ None
unfolding setup_refusal
refusal_none s = refl

-- and the setup stays
pub with_none : (s : ModedPlan) → setup_with s [] ≡ s
unfolding setup_with
with_none s = refl

module _ (s : ModedPlan) (rs : List Server) (i : ℕ) (d : Server) (within : i < length rs) where
  -- if a server fits, the refusal is that of the others
  pub refusal_goes_on : {new : ModedPlan} → server_refusal s.plan (get_or rs i d) None ≡ None → new ≡ with_server s (get_or rs i d)
      → setup_refusal s (drop i rs) ≡ setup_refusal new (drop (i + 1) rs)
  refusal_goes_on none is = at_drop_more (setup_refusal s) rs i d within ∙ refusal_cons s (get_or rs i d) (drop (i + 1) rs)
      ∙ passes _ _ _ _ none ∙ ap (λ (t : ModedPlan). setup_refusal t (drop (i + 1) rs)) (sym is)

  -- so is the setup
  pub with_goes_on : {new : ModedPlan} → new ≡ with_server s (get_or rs i d) → setup_with s (drop i rs) ≡ setup_with new (drop (i + 1) rs)
  with_goes_on is = at_drop_more (setup_with s) rs i d within ∙ with_cons s (get_or rs i d) (drop (i + 1) rs)
      ∙ ap (λ (t : ModedPlan). setup_with t (drop (i + 1) rs)) (sym is)

  -- if it does not, its refusal is that of all
  pub refusal_stops : {e : Refusal} → ((rest : Option Refusal) → server_refusal s.plan (get_or rs i d) rest ≡ Some e) → setup_refusal s (drop i rs) ≡ Some e
  refusal_stops stops = at_drop_more (setup_refusal s) rs i d within ∙ refusal_cons s (get_or rs i d) (drop (i + 1) rs) ∙ stops _

-- as many reservations as servers
pub planned_each : (s : ModedPlan) (rs : List Server) → length (setup_with s rs).plan.rates ≡ length s.plan.rates + length rs
planned_each s [] = rw (with_none s) (omega arith)
planned_each s (r ∷ rs) = rw (with_cons s r rs, planned_each (with_server s r) rs)
    (omega (arith, length-append s.plan.rates (record { budget = r.budget; period = r.period } ∷ [])))
