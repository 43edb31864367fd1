use Rattle.std.proofs.Common.{◌≡◌, ℕ, List, map}
use Rattle.toml.specs.Data.{Data}
use Rattle.toml.specs.View.{view}
use Rattle.cbs_rate.specs.declared.error.AdmitError.{AdmitError}
use Rattle.cbs_rate.specs.declared.error.AdmitError.TheVariants.{TooManyServers, PeriodsTooFine, OverBound}
use Rattle.cbsrun_faults.specs.declared.refused.Refused.{Refused}
use Rattle.cbsrun_refusal_texts.specs.Pages.{PageText, AppendsA}
use Rattle.cbsrun_refusal_texts.specs.Refusals.{IsRefusalText, IsSpotLine}
use Rattle.cbsrun_refusal_texts.proofs.limits.append_refused.Goals as goal

-- what is told for a reason
told_as : (why reason : AdmitError) (IsPlace : List ℕ → Type 0) (entries : List Data) (refused : Refused) (old new : PageText) → why ≡ reason
    → AppendsA (IsRefusalText reason IsPlace entries refused) old new → AppendsA (IsRefusalText why IsPlace entries refused) old new
told_as why reason IsPlace entries refused old new is told = rw is told

pub returns-in-TooManyServers : goal.returns-in-TooManyServers
returns-in-TooManyServers c =
    told_as c.args.refused.now.why TooManyServers (IsSpotLine c.args.spot.now) (map view c.args.spot.now.document.servers.now) c.args.refused.now
    c.args.page.now c.append_too_many.new.page c.in-TooManyServers.is c.append_too_many.ensures

pub returns-in-PeriodsTooFine : goal.returns-in-PeriodsTooFine
returns-in-PeriodsTooFine c =
    told_as c.args.refused.now.why PeriodsTooFine (IsSpotLine c.args.spot.now) (map view c.args.spot.now.document.servers.now) c.args.refused.now
    c.args.page.now c.append_too_fine.new.page c.in-PeriodsTooFine.is c.append_too_fine.ensures

pub returns-in-OverBound : goal.returns-in-OverBound
returns-in-OverBound c =
    told_as c.args.refused.now.why OverBound (IsSpotLine c.args.spot.now) (map view c.args.spot.now.document.servers.now) c.args.refused.now
    c.args.page.now c.append_over.new.page c.in-OverBound.is c.append_over.ensures
